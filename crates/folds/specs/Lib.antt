pub mod Folds
pub mod FoldLaws
pub mod Tallies
pub mod TallyLaws
pub mod Reach
pub mod ReachLaws
