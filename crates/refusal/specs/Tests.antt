-- What each of document 01's numbers tests, where several calls share it. 2 and 3 are the frame's, 10, 11 and 12 come from solving. Definitions only.
use Rattle.std.specs.Prelude.{Bool, true, cond, ◌&&◌, ◌||◌, List, [], ◌∷◌, ℕ, ◌+◌, min, ltb, leb, eqb, Float}
use Rattle.std.specs.List.{list_any}
use Rattle.std.specs.Float.Ieee.{lt}
use Rattle.loops.specs.Fold.{fold, all_of}
use Rattle.basis.specs.Sizes.{max_samples, sum_places, highest_degree}
use Rattle.value.specs.Finite.{finite}
use Rattle.value.specs.Numbers.{zero_f, infinity_f, minus_infinity_f}
use Rattle.statistics.specs.Degrees.{max_degree}
use Rattle.statistics.specs.declared.Confidence.{Confidence}
use Rattle.statistics.specs.declared.Confidence.TheVariants as confidence
use Rattle.statistics.specs.declared.DegreeBound.{DegreeBound}
use Rattle.statistics.specs.declared.Tolerance.{Tolerance}
use Rattle.statistics.specs.declared.Tolerance.TheVariants as tolerance
use Rattle.samples.specs.declared.Sample.{Sample}

-- ---- 1: a lent memory other than a book column is shorter than this call's places, or the count is above capacity

-- of one lent memory, how many places the call needs and how many are lent
pub record Needed : Type 0 where
  pub needs : ℕ
  pub lent : ℕ

abbrev pub needed : ℕ → ℕ → Needed
needed needs lent = record { needs = needs; lent = lent }

unfoldable pub any_short : List Needed → Bool
any_short ms = list_any (λ (m : Needed). ltb m.lent m.needs) ms

-- The capacity is the shortest of the lent columns, at most 4,096; over the list of their lengths.
unfoldable pub capacity : List ℕ → ℕ
capacity columns = fold min max_samples columns

abbrev pub too_short : ℕ → List ℕ → List Needed → Bool
too_short n columns memories = any_short memories || ltb (capacity columns) n

-- of a call that is lent the columns and the sums
abbrev pub book_short : ℕ → List ℕ → ℕ → Bool
book_short n columns sums = too_short n columns (needed sum_places sums ∷ [])

-- ---- 4: a given x, y, weight, Custom score or tolerance is not finite; or, in a call that reads, a column value below the count

abbrev pub sample_finite : Sample → Bool
sample_finite p = finite p.x && finite p.y && finite p.w

abbrev pub all_finite : List Sample → Bool
all_finite ps = all_of sample_finite ps

abbrev pub score_finite : Confidence → Bool
score_finite confidence.P80 = true
score_finite confidence.P90 = true
score_finite confidence.P95 = true
score_finite confidence.P98 = true
score_finite confidence.P99 = true
score_finite confidence.P999 = true
score_finite (confidence.Custom z) = finite z

abbrev pub tolerance_finite : Tolerance → Bool
tolerance_finite tolerance.None = true
tolerance_finite (tolerance.Absolute a) = finite a
tolerance_finite (tolerance.Variance p) = finite p
tolerance_finite (tolerance.Measurement p) = finite p

-- ---- 15: a weight to add is not above zero

abbrev pub weight_above : Sample → Bool
weight_above p = lt zero_f p.w

abbrev pub all_above : List Sample → Bool
all_above ps = all_of weight_above ps

-- ---- 5: the samples to add would pass capacity

abbrev pub no_room : ℕ → ℕ → List ℕ → Bool
no_room n more columns = ltb (capacity columns) (n + more)

-- ---- 6: the sample index is at or above the count

abbrev pub no_sample : ℕ → ℕ → Bool
no_sample n i = leb n i

-- ---- 7: a call that reads has no samples, or validation's folds are below 2 or above the count

abbrev pub no_samples : ℕ → Bool
no_samples n = eqb n 0

abbrev pub wrong_folds : ℕ → ℕ → Bool
wrong_folds n folds = no_samples n || (ltb folds 2 || ltb n folds)

-- ---- 8: an asked degree is at or above the count, or an asked or bounded degree is above 15

abbrev pub degree_too_high : ℕ → ℕ → Bool
degree_too_high n degree = leb n degree || ltb highest_degree degree

abbrev pub bound_too_high : DegreeBound → ℕ → Bool
bound_too_high bound n = ltb highest_degree (max_degree bound n)

-- ---- 9: a band's x lies outside the least to greatest x

-- the smaller and the larger of two, as numbers: −0 and +0 are equal
abbrev pub smaller : Float → Float → Float
smaller a x = cond (lt x a) x a

abbrev pub larger : Float → Float → Float
larger a x = cond (lt a x) x a

abbrev pub least : List Float → Float
least values = fold smaller infinity_f values

abbrev pub greatest : List Float → Float
greatest values = fold larger minus_infinity_f values

unfoldable pub outside : Float → List Float → Bool
outside x values = lt x (least values) || lt (greatest values) x
