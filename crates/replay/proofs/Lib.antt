-- Laws on buffers, on one call, on room, and on the loop of a replay.
pub mod Laws
pub mod Calling
pub mod Rooms
pub mod Turns
