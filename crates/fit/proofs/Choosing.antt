-- The choice from an array that holds what is known of the degrees.
use Rattle.std.specs.Prelude.{Option, None}
use mathlib.Core.Path.{◌≡◌, sym, ap, ◌∙◌}
use mathlib.Core.List.{List}
use Prim.Native.Nat.{ℕ, ◌+◌, ◌≤◌, ◌<◌}
use native.Mathlib.Omega.{arith}
use lib.ListN.{length, replicate, take}
use lib.Ieee.{Float}
use Rattle.loops.specs.Fold.{fold}
use Rattle.loops.specs.Places.{each, table}
use Rattle.loops.specs.PlaceLaws.{table_at, length_table, map_table}
use Rattle.basis.specs.declared.Degree.{Degree}
use Rattle.basis.specs.Counts.{count_of}
use Rattle.basis.specs.declared.Basis.{Basis}
use Rattle.monomial.specs.Rows.{Row}
use Rattle.score.specs.declared.Criterion.{Criterion}
use Rattle.choice.specs.Choice.{least_of, chosen_of, chosen_score, solved_count, scored_at}
use Rattle.choice.specs.ChoiceLaws.{least_same, chosen_same, count_same}
use Rattle.choice.specs.Laws.{chosen_score_same}
use Rattle.fit.specs.Chosen.{counts_of, tried, tests_of, choice_of}
use Rattle.fit.specs.ChosenLaws.{length_scores, scores_at, scores_same}
use Rattle.fit.specs.Solved.{scored_by, pivot_tests}

-- no more pivots are tested than there are
pub tests_at_most : (sums : List Float) (k : ℕ) → pivot_tests sums k ≤ k
unfolding pivot_tests
tests_at_most sums k = omega arith

module _ (basis : Basis) (criterion : Criterion) (sums : List Float) (rows : List Row) where
  -- what is known of degree e
  abbrev pub known : ℕ → Option Float
  known e = scored_by criterion sums rows rows (count_of basis e)

  tried_known : (bound d : ℕ) → d < bound + 1 → tried criterion sums rows (counts_of basis bound) d ≡ known d
  unfolding tried
  tried_known bound d h = ap (scored_by criterion sums rows rows) (table_at (count_of basis) (bound + 1) d 0 h)

  pub choice_is : (bound : ℕ) (u : List (Option Float)) → bound + 1 ≤ 16 → u ≡ each (λ e _. known e) (bound + 1) (replicate 16 None)
      → (p : Option Degree) (w a : Float) (m t : ℕ) → (let v = take (bound + 1) u in
      p ≡ chosen_of (scored_at v) (length v) → w ≡ chosen_score (scored_at v) p → a ≡ least_of (scored_at v) (length v) → m ≡ solved_count (scored_at v) (length v)
      → t ≡ fold ◌+◌ 0 (table (λ e. pivot_tests sums (count_of basis e)) (bound + 1))
      → record { chosen = p; score = w; least = a; solved = m; tests = t; scores = u } ≡ choice_of criterion sums rows (counts_of basis bound))
  unfolding choice_of tests_of
  choice_is bound u l eu p w a m t ep ew ea em et =
      let v = take (bound + 1) u in
      let k = length_scores known (bound + 1) u l eu in
      rw (length_table (count_of basis) (bound + 1), ew, chosen_score_same (scored_at v) S (bound + 1) same p (rw k at ep), rw k at ep, rw k at ea, rw k at em, et, chosen_same (scored_at v) S (bound + 1) same, least_same (scored_at v) S (bound + 1) same, count_same (scored_at v) S (bound + 1) same, eu ∙ scores_same known S (bound + 1) back, ← (map_table (pivot_tests sums) (count_of basis) (bound + 1)))
    where
      S : ℕ → Option Float
      S = tried criterion sums rows (counts_of basis bound)

      back : (d : ℕ) → d < bound + 1 → known d ≡ S d
      back d h = sym (tried_known bound d h)

      same : (d : ℕ) → d < bound + 1 → scored_at (take (bound + 1) u) d ≡ S d
      same d h = scores_at known (bound + 1) u l eu d h ∙ back d h
