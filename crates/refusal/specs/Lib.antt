-- Document 01's refusals: the form of a test and the checking order, what each number tests, and their laws.
pub mod Refusals
pub mod Tests
pub mod Named
pub mod NamedLaws
pub mod Among
pub mod Laws
pub mod Rooms
pub mod RoomLaws
