-- The mirror image of the numerics: rows alike but for the sign of y, from their sums up to choices, bands, folds and splits. Rows are lists of term
-- values, so that curve and surface are said once.
pub mod Pairs
pub mod PairLaws
pub mod Mirror
pub mod SumLaws
pub mod SolveLaws
pub mod FitLaws
pub mod CovarianceLaws
pub mod PruningLaws
pub mod FoldLaws
pub mod SplitLaws
