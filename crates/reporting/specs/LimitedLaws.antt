-- Laws of a report within a limit: no report makes more than 256 pivot tests, within such a limit it is the report, and no report past the limit is refused by 16.
use Rattle.std.specs.Prelude.{◌≡◌, refl, Bool, true, false, cond, List, Float, Option, Some, None}
use Rattle.std.proofs.Math.Path.{ap}
use Rattle.std.proofs.Common.{◌∙◌, mul-le-mul_right, le-ltb}
use Prim.Native.Nat.{ℕ, zero, suc, ◌+◌, ◌*◌, ◌≤◌, ◌<◌}
use native.Mathlib.Omega.{arith}
use Rattle.loops.specs.Fold.{fold}
use Rattle.loops.specs.FoldLaws.{fold_table}
use Rattle.loops.specs.Places.{table}
use Rattle.loops.specs.PlaceLaws.{map_table}
use Rattle.basis.specs.declared.Degree.{Degree}
use Rattle.basis.specs.Counts.{count_of}
use Rattle.basis.specs.CountLaws.{count_mono}
use Rattle.basis.specs.declared.Basis.{Basis}
use Rattle.monomial.specs.Rows.{Row}
use Rattle.fit.specs.Chosen.{counts_of, tests_of}
use Rattle.fit.specs.Solved.{pivot_tests}
use Rattle.fit.specs.declared.Choice.{Choice}
use Rattle.refusal.specs.Named.{number_of}
use Rattle.measure.specs.Measures.{inverse_fails}
use Rattle.settings.specs.declared.Settings.{Settings}
use Rattle.reporting.specs.Limited.{limited_of}
use Rattle.reporting.specs.Chosen.{chosen_refusal}
use Rattle.reporting.specs.ChosenLaws.{of_number}
use Rattle.reporting.specs.Reports.{refused_late, written_by, report_of}

at_most : (sums : List Float) (k : ℕ) → pivot_tests sums k ≤ k
unfolding pivot_tests
at_most sums k = omega arith

module _ (sums : List Float) (basis : Basis) (most : ℕ) where
  -- of the degrees below m, none of more than `most` terms
  among : (m : ℕ) → ((d : ℕ) → d < m → count_of basis d ≤ most) → fold ◌+◌ 0 (table (λ d. pivot_tests sums (count_of basis d)) m) ≤ m * most
  unfolding fold table
  among zero h = omega arith
  among (suc m) h = go m (h m (omega arith)) (among m (λ d l. h d (omega arith)))
    where
      go : (m : ℕ) → count_of basis m ≤ most → fold ◌+◌ 0 (table (λ d. pivot_tests sums (count_of basis d)) m) ≤ m * most
          → fold ◌+◌ 0 (table (λ d. pivot_tests sums (count_of basis d)) (suc m)) ≤ suc m * most
      go m k w =
          let z : suc m ≡ m + 1 = omega arith in
          let e = ap (λ (j : ℕ). fold ◌+◌ 0 (table (λ d. pivot_tests sums (count_of basis d)) j)) z ∙ fold_table ◌+◌ 0 (λ d. pivot_tests sums (count_of basis d)) m in
          omega (arith, e, w, k, at_most sums (count_of basis m))

-- sixteen degrees of at most sixteen terms
pub tests_within : (sums : List Float) (basis : Basis) (last : ℕ) → last ≤ 15 → count_of basis last ≤ 16 → tests_of sums (counts_of basis last) ≤ 256
unfolding tests_of
tests_within sums basis last h k =
    let e = ap (fold ◌+◌ 0) (map_table (pivot_tests sums) (count_of basis) (last + 1)) in
    let w = among sums basis 16 (last + 1) (λ d l. omega (arith, count_mono basis d last (omega arith), k)) in
    let a : (last + 1) * 16 ≤ 16 * 16 = mul-le-mul_right {n = 16} 16 (omega arith) in
    omega (arith, e, w, a)

-- within a limit that the tests do not pass it is the report
pub within_limit : (basis : Basis) (n : ℕ) (settings : Settings) (limit : ℕ) (rows : List Row) (sums : List Float) (choice : Choice) → choice.tests ≤ limit
    → limited_of basis n settings limit rows sums choice ≡ record { does = report_of basis n settings rows sums choice.solved choice.chosen; taken = choice.tests }
unfolding limited_of
within_limit basis n settings limit rows sums choice h = rw (le-ltb limit choice.tests h)

-- ---- a report's number past 1 to 9

written_number : (basis : Basis) (n : ℕ) (settings : Settings) (rows : List Row) (degree solved : ℕ) (c v : List Float)
    → number_of (written_by basis n settings rows degree solved c v).answer ≡ 0
unfolding written_by
written_number basis n settings rows degree solved c v = refl

-- it is that of the choice,
pub report_number_lem : (basis : Basis) (n : ℕ) (settings : Settings) (rows : List Row) (sums : List Float) (solved : ℕ) (o : Option Degree)
    → number_of (report_of basis n settings rows sums solved o).answer ≡ chosen_refusal basis o sums
unfolding report_of
report_number_lem basis n settings rows sums solved =
    of_number basis sums (refused_late n) _ (λ w. number_of w.answer) refl refl (λ d. written_number basis n settings rows d.0 solved _ _)

-- which is never 16
pub chosen_not_16 : (basis : Basis) (o : Option Degree) (sums : List Float) → chosen_refusal basis o sums ≡ 16 → ⊥
unfolding chosen_refusal
chosen_not_16 basis None sums e = omega arith
chosen_not_16 basis (Some d) sums e = go (inverse_fails sums (count_of basis d.0)) e
  where
    go : (t : Bool) → ◌≡◌ {A = ℕ} (cond t 12 0) 16 → ⊥
    go true q = omega arith
    go false q = omega arith
