-- Document 02's search (E8), over the rows of a list with their weights: every break b, the number of rows before it, that leaves at least two on each
-- side, in list order. Definitions only.
use Rattle.std.specs.Prelude.{Bool, false, cond, not, List, ℕ, ◌+◌, ◌-◌, length, take, drop, Float, Option, Some, None}
use Rattle.std.specs.Float.{binary64}
use Rattle.std.specs.Float.Ieee.{add, lt}
use Rattle.loops.specs.Loop.{from}
use Rattle.basis.specs.Counts.{count_of}
use Rattle.basis.specs.declared.Basis.TheVariants.{Curve}
use Rattle.basis.specs.declared.Degree.{Degree}
use Rattle.statistics.specs.Degrees.{max_degree}
use Rattle.statistics.specs.declared.DegreeBound.{DegreeBound}
use Rattle.monomial.specs.Rows.{WeightedRow, rows_in}
use Rattle.monomial.specs.Sums.{sums_of}
use Rattle.solve.specs.Solve.{solve}
use Rattle.score.specs.declared.Criterion.{Criterion}
use Rattle.fit.specs.Chosen.{choice_of, counts_of}
use Rattle.fit.specs.declared.Choice.{Choice}
use Rattle.split.specs.declared.Best.{Best}

-- ---- a side

-- The choice for a side, from the sums of its own rows, among the degrees 0 to the bound for their number: 01's choice.
unfoldable pub side_choice : DegreeBound → Criterion → List WeightedRow → Choice
side_choice bound criterion rows = choice_of criterion (sums_of rows) (rows_in rows) (counts_of Curve (max_degree bound (length rows)))

-- its fit at a degree: 16 coefficients, +0 from k on
unfoldable pub side_fit : List WeightedRow → Degree → List Float
side_fit rows d = (solve (sums_of rows) (count_of Curve d.0)).c

-- ---- the best break, of any choices

-- the two chosen scores, added
abbrev pub total_of : Choice → Choice → Float
total_of left right = add binary64 left.score right.score

-- the best so far stands against a total that is no less
abbrev pub stands : Float → Option Best → Bool
stands total None = false
stands total (Some s) = not (lt total s.total)

-- A break with both sides chosen takes the place of none, and of one whose total is greater. One with an unchosen side is passed over.
unfoldable pub better_by : ℕ → Option Degree → Option Degree → Float → Option Best → Option Best
better_by b (Some d) (Some e) total best = cond (stands total best) best (Some (record { at = b; total = total; before = d; after = e }))
better_by b (Some d) None total best = best
better_by b None right total best = best

unfoldable pub better : ℕ → Choice → Choice → Option Best → Option Best
better b left right best = better_by b left.chosen right.chosen (total_of left right) best

-- the best of the breaks from i on and below m, if there is one, one after the other
unfoldable pub best_of : (ℕ → Choice) → (ℕ → Choice) → ℕ → ℕ → Option Best
best_of L R i m = from (λ b best. better b (L b) (R b) best) i m None

-- ---- the search

module _ (bound : DegreeBound) (criterion : Criterion) (rows : List WeightedRow) where
  -- the choices for the two sides of break b
  unfoldable pub left_of : ℕ → Choice
  left_of b = side_choice bound criterion (take b rows)

  unfoldable pub right_of : ℕ → Choice
  right_of b = side_choice bound criterion (drop b rows)

  -- b from 2 to n − 2
  unfoldable pub best_break : Option Best
  best_break = best_of left_of right_of 2 (length rows - 1)

  -- the pivots compared at a break: of both sides, whatever they choose, and of every degree within that side's bound
  unfoldable pub break_tests : ℕ → ℕ
  break_tests b = (left_of b).tests + (right_of b).tests

  -- and over every break
  unfoldable pub search_tests : ℕ
  search_tests = from (λ b tests. tests + break_tests b) 2 (length rows - 1) 0
