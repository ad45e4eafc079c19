-- The scores by degree: of each degree within the bound whether it is solved and its score, with what a report chooses from them.
pub mod Refusals
pub mod RefusalLaws
pub mod Scores
pub mod ScoreLaws
