-- From residuals to the choice of a degree, over rows of term values.
pub mod Residuals
pub mod ResidualLaws
pub mod Solved
pub mod SolvedLaws
pub mod Promises
pub mod Chosen
pub mod ChosenLaws
pub mod Corner
