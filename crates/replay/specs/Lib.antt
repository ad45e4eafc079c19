-- How calls stand in buffers, what replaying them leaves, and what one of them does.
pub mod Records
pub mod Replay
pub mod Steps
