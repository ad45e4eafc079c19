-- Document 01's validation: folds, their scores, and the choice by the mean over the solved folds. Definitions only.
use Rattle.std.specs.Prelude.{ℕ, ◌+◌, ◌-◌, ◌*◌, ◌/◌, cond, List, [], ◌∷◌, ◌++◌, length, take, drop, ◌==◌, nat_lt, Float, Option, None, Some}
use Rattle.std.specs.Float.{binary64}
use Rattle.std.specs.Float.Ieee.{div}
use Rattle.loops.specs.Places.{table}
use Rattle.value.specs.Numbers.{num}
use Rattle.value.specs.Total.{total_f}
use Rattle.basis.specs.declared.Degree.{Degree}
use Rattle.basis.specs.Counts.{count_of}
use Rattle.basis.specs.declared.Basis.TheVariants.{Curve}
use Rattle.monomial.specs.Rows.{WeightedRow, rows_in}
use Rattle.monomial.specs.Sums.{sums_of}
use Rattle.score.specs.declared.Criterion.{Criterion}
use Rattle.choice.specs.Choice.{chosen_of}
use Rattle.fit.specs.Solved.{scored_by}

-- Folds of n / folds samples, the last takes the rest: fold f begins here
unfoldable pub start_of : ℕ → ℕ → ℕ → ℕ
start_of n folds f = f * (n / folds)

-- and ends before here
unfoldable pub end_of : ℕ → ℕ → ℕ → ℕ
end_of n folds f = cond (f + 1 == folds) n ((f + 1) * (n / folds))

-- a fold's own rows, and the others in index order
unfoldable pub own_of : {A : Type 0} → ℕ → ℕ → List A → List A
own_of start end rows = take (end - start) (drop start rows)

unfoldable pub others_of : {A : Type 0} → ℕ → ℕ → List A → List A
others_of start end rows = take start rows ++ drop end rows

-- those of fold f, by its number
abbrev pub own : {A : Type 0} → List A → ℕ → ℕ → List A
own rows folds f = own_of (start_of (length rows) folds f) (end_of (length rows) folds f) rows

-- Each fold solves from weighted sums over the other samples and scores on its own, unweighted; it is unsolved if a pivot fails or y − fitted is not finite for any
-- sample of the book.
unfoldable pub fold_scored : Criterion → List WeightedRow → ℕ → ℕ → ℕ → Option Float
fold_scored criterion rows folds k f =
    let start = start_of (length rows) folds f in
    let end = end_of (length rows) folds f in
    scored_by criterion (sums_of (others_of start end rows)) (rows_in rows) (own_of start end (rows_in rows)) k

-- what fold f says of degree d
abbrev pub degree_scored : Criterion → List WeightedRow → ℕ → ℕ → ℕ → Option Float
degree_scored criterion rows folds d f = fold_scored criterion rows folds (count_of Curve d) f

-- the scores of those that are solved; an unsolved one is skipped
unfoldable pub solved_of : List (Option Float) → List Float
solved_of [] = []
solved_of (None ∷ l) = solved_of l
solved_of (Some v ∷ l) = v ∷ solved_of l

-- the scores of the solved folds, in fold order
unfoldable pub solved_scores : Criterion → List WeightedRow → ℕ → ℕ → List Float
solved_scores criterion rows folds k = solved_of (table (fold_scored criterion rows folds k) folds)

-- The mean of m solved folds whose scores add up to total. Without a solved fold there is none: the degree counts as unsolved and is never chosen.
unfoldable pub mean_of : Float → ℕ → Option Float
mean_of total m = cond (nat_lt 0 m) (Some (div binary64 total (num m))) None

-- what is known of k coefficients: the mean over the solved folds
unfoldable pub validated : Criterion → List WeightedRow → ℕ → ℕ → Option Float
validated criterion rows folds k = let l = solved_scores criterion rows folds k in mean_of (total_f l) (length l)

-- the chosen degree among 0 to the bound, or none: the least and the choice are those of a report
unfoldable pub validated_choice : Criterion → List WeightedRow → ℕ → ℕ → Option Degree
validated_choice criterion rows folds bound = chosen_of (λ d. validated criterion rows folds (count_of Curve d)) (bound + 1)
