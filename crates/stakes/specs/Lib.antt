-- A season of 32 stakes: parts of lent memory, a stake's book in them, and the season's own tests.
pub mod Parts
pub mod PartLaws
pub mod Season
pub mod SeasonLaws
pub mod Stake
pub mod RefusalLaws
