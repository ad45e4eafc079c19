-- The two sides as the code has them: sums made in the corner that a bound reads, the first places of the columns, and the columns from a place on.
use mathlib.Core.Path.{◌≡◌, sym, ap, ◌∙◌}
use mathlib.Core.List.{List}
use Prim.Native.Nat.{ℕ, ◌+◌, ◌-◌, ◌≤◌}
use native.Mathlib.Omega.{arith}
use lib.ListN.{length, take, drop, length-drop}
use lib.Seq.{length-take-le}
use lib.Ieee.{Float}
use Rattle.basis.specs.Counts.{count_of}
use Rattle.basis.specs.CountLaws.{curve_count, count_mono}
use Rattle.basis.specs.declared.Basis.TheVariants.{Curve}
use Rattle.basis.specs.declared.Degree.{Degree}
use Rattle.statistics.specs.Degrees.{max_degree}
use Rattle.statistics.specs.DegreeLaws.{max_degree_grows}
use Rattle.statistics.specs.declared.DegreeBound.{DegreeBound}
use Rattle.monomial.specs.Rows.{Row, WeightedRow, rows_in}
use Rattle.monomial.specs.ReadingLaws.{parts_joined}
use Rattle.monomial.specs.Sums.{add_rows, sums_of}
use Rattle.monomial.specs.SumLaws.{length_sums}
use Rattle.monomial.specs.Corner.{SameCorner}
use Rattle.monomial.specs.CornerLaws.{smaller_corner, corner_append}
use Rattle.solve.specs.Solve.{solve}
use Rattle.solve.specs.CornerLaws.{solve_corner}
use Rattle.solve.specs.declared.Solved.{Solved}
use Rattle.score.specs.declared.Criterion.{Criterion}
use Rattle.fit.specs.Chosen.{choice_of, counts_of}
use Rattle.fit.specs.Corner.{choice_corner, counts_within}
use Rattle.fit.specs.declared.Choice.{Choice}
use Rattle.split.specs.Search.{side_choice, side_fit, left_of, right_of}

-- the counts of degrees up to 15
fits : (d : ℕ) → d ≤ 15 → count_of Curve d ≤ 16
fits d h = omega (arith, curve_count d)

-- the choice of a side, from sums that are the side's in the corner that its bound reads
side_is : (bound : DegreeBound) (criterion : Criterion) (n : ℕ) (rows : List WeightedRow) (own : List Row) (sums : List Float) (r : Choice)
    → max_degree bound n ≤ 15 → length rows ≡ n → own ≡ rows_in rows → length sums ≡ 272 → SameCorner (count_of Curve (max_degree bound n)) sums (sums_of rows)
    → r ≡ choice_of criterion sums own (counts_of Curve (max_degree bound n)) → r ≡ side_choice bound criterion rows
unfolding side_choice
side_is bound criterion n rows own sums r h el eo long same er =
    let m = max_degree bound n in
    er ∙ ap (λ l. choice_of criterion sums l (counts_of Curve m)) eo
    ∙ choice_corner (count_of Curve m) (fits m h) sums (sums_of rows) (omega arith) (omega (arith, length_sums rows)) same criterion (rows_in rows) (counts_of Curve m) (counts_within Curve m)
    ∙ ap (λ k. choice_of criterion (sums_of rows) (rows_in rows) (counts_of Curve (max_degree bound k))) (sym el)

module _ (bound : DegreeBound) (criterion : Criterion) (rows : List WeightedRow) (n b : ℕ) (sized : length rows ≡ n) (inside : b ≤ n) (most : max_degree bound n ≤ 15) where
  pub left_most : max_degree bound b ≤ 15
  left_most = omega (arith, max_degree_grows bound b n inside)

  pub right_most : max_degree bound (n - b) ≤ 15
  right_most = omega (arith, max_degree_grows bound (n - b) n (omega arith))

  -- the first b rows; the sums are whole in a larger corner
  pub left_is : (own : List Row) (sums : List Float) (r : Choice) → own ≡ rows_in (take b rows) → length sums ≡ 272
      → SameCorner (count_of Curve (max_degree bound n)) sums (sums_of (take b rows))
      → r ≡ choice_of criterion sums own (counts_of Curve (max_degree bound b)) → r ≡ left_of bound criterion rows b
  unfolding left_of
  left_is own sums r eo long same er =
      side_is bound criterion b (take b rows) own sums r left_most (length-take-le b rows (omega (arith, sized))) eo long
      (smaller_corner (count_of Curve (max_degree bound b)) (count_of Curve (max_degree bound n)) sums (sums_of (take b rows)) (count_mono Curve (max_degree bound b) (max_degree bound n) (max_degree_grows bound b n inside)) same)
      er

  -- the rows from b on
  pub right_is : (k : ℕ) (own : List Row) (sums : List Float) (r : Choice) → own ≡ rows_in (drop b rows) → k ≡ count_of Curve (max_degree bound (n - b))
      → length sums ≡ 272 → SameCorner k sums (sums_of (drop b rows)) → r ≡ choice_of criterion sums own (counts_of Curve (max_degree bound (n - b)))
      → r ≡ right_of bound criterion rows b
  unfolding right_of
  right_is k own sums r eo ek long same er =
      side_is bound criterion (n - b) (drop b rows) own sums r right_most (length-drop b rows ∙ ap (λ m. m - b) sized) eo long (rw (← ek) same) er

-- one row more on the left, in a corner: the same bits there as folded afresh
pub corner_grows : (k : ℕ) → k ≤ 16 → (b : ℕ) (rows : List WeightedRow) (s t : List Float) → length s ≡ 272 → SameCorner k s (sums_of (take b rows))
    → SameCorner k t (add_rows s (drop b (take (b + 1) rows))) → SameCorner k t (sums_of (take (b + 1) rows))
corner_grows k h b rows s t long same added =
    rw (← parts_joined b (b + 1) rows (omega arith)) (corner_append k h s t (take b rows) (drop b (take (b + 1) rows)) (omega arith) same added)

-- the code's fit of a side
pub fit_is : (rows : List WeightedRow) (d : Degree) (k : ℕ) (sums : List Float) (s : Solved) → d.0 ≤ 15 → k ≡ count_of Curve d.0 → length sums ≡ 272
    → SameCorner k sums (sums_of rows) → s ≡ solve sums k → s.c ≡ side_fit rows d
unfolding side_fit
fit_is rows d k sums s h ek long same e =
    ap (λ (v : Solved). v.c) (e ∙ ap (solve sums) ek ∙ solve_corner (count_of Curve d.0) (fits d.0 h) sums (sums_of rows) (omega arith) (omega (arith, length_sums rows)) (rw ek at same))
