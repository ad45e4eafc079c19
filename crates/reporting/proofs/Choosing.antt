-- What a choice comes to: no degree, or one that is measured.
use Rattle.std.specs.Prelude.{Option, Some, Result, Ok, Err, MatchResult, OnErr, ⊤}
use Rattle.std.specs.Result.{result_map_both}
use mathlib.Core.Path.{◌≡◌, refl, sym, ap, ◌∙◌}
use mathlib.Core.Bool.{Bool, true, false, cond}
use mathlib.Core.List.{List}
use Prim.Native.Nat.{ℕ, ◌≤◌}
use lib.Ieee.{Float}
use Rattle.loops.specs.Within.{Within}
use Rattle.loops.specs.WithinLaws.{within_then}
use Rattle.basis.specs.Counts.{count_of}
use Rattle.basis.specs.declared.Basis.{Basis}
use Rattle.basis.specs.declared.Degree.{Degree}
use Rattle.monomial.specs.Rows.{Row}
use Rattle.score.specs.declared.Criterion.{Criterion}
use Rattle.fit.specs.Solved.{is_solved}
use Rattle.fit.specs.Chosen.{choice_of, counts_of}
use Rattle.fit.specs.declared.Choice.{Choice}
use Rattle.refusal.specs.Refusals.{first_of, settle}
use Rattle.refusal.specs.Named.{refused_by}
use Rattle.refusal.specs.declared.refusals.Refusal.{Refusal}
use Rattle.measure.specs.Measures.{Measured, measured, told, Measures, measure_refusal, inverse_fails}
use Rattle.reporting.specs.Chosen.{Found, found_of, found_by, Chooses}
use Rattle.reporting.specs.ChosenLaws.{last_solved}

abbrev of_degree : Degree → Measured → Found
of_degree d m = record { degree = d; measured = m }

-- a solved degree is not refused by 10
measured_solved : (basis : Basis) (sums : List Float) (rows : List Row) (d : Degree) → is_solved sums rows (count_of basis d.0) ≡ true
    → result_map_both (of_degree d) (λ e. e) (measured sums rows (count_of basis d.0)) ≡ found_of basis rows sums (Some d)
unfolding measure_refusal first_of
measured_solved basis sums rows d h = rw h (go (inverse_fails sums (count_of basis d.0)) _)
  where
    go : (t : Bool) (m : Measured)
        → result_map_both (of_degree d) (λ e. e) (settle (cond t 12 0) (Ok m) (refused_by (cond t 12 0)))
        ≡ cond t (refused_by 12) (Ok (of_degree d m))
    go true m = refl
    go false m = refl

-- what becomes of an answer
module _ (d : Degree) where
  mapped : (c v : List Float) (a : Result ⊤ Refusal) (b : Result Degree Refusal) → MatchResult a (λ x. b ≡ Ok d) (λ e. b ≡ Err e)
      → found_by b c v ≡ result_map_both (of_degree d) (λ e. e) (told a c v)
  mapped c v (Ok x) b h = rw h refl
  mapped c v (Err e) b h = rw h refl

  kept_then : (P : Type 0) (a : Result ⊤ Refusal) (b : Result Degree Refusal) → MatchResult a (λ x. b ≡ Ok d) (λ e. b ≡ Err e) → OnErr a P → OnErr b P
  kept_then P (Ok x) b h k = rw h k
  kept_then P (Err e) b h k = rw h k

-- r is what the code chooses among the degrees up to the last
module _ (basis : Basis) (criterion : Criterion) (n last : ℕ) (rows : List Row) (sums : List Float) (r : Choice)
    (found : r ≡ choice_of criterion sums rows (counts_of basis last)) where
  chosen_is : (o : Option Degree) → r.chosen ≡ o → (choice_of criterion sums rows (counts_of basis last)).chosen ≡ o
  chosen_is o h = ap (λ (c : Choice). c.chosen) (sym found) ∙ h

  -- d is chosen, and measured
  pub chooses_some : (d : Degree) → r.chosen ≡ Some d → (a : Result ⊤ Refusal) (s t u c c' v v' : List Float) → Within n s t
      → Measures sums rows (count_of basis d.0) n t u c c' v v' a → (f : Result Degree Refusal) → MatchResult a (λ x. f ≡ Ok d) (λ e. f ≡ Err e)
      → Chooses basis (choice_of criterion sums rows (counts_of basis last)) n rows sums s u c c' v v' (record { choice = r; found = f })
  chooses_some d h a s t u c c' v v' w q f m =
      let o = chosen_is (Some d) h in
      record {
        choice = found;
        found =
            mapped d c' v' a f m ∙ ap (result_map_both (of_degree d) (λ e. e)) q.measured_is
            ∙ measured_solved basis sums rows d (last_solved basis criterion rows sums last d o).1 ∙ ap (found_of basis rows sums) (sym o);
        kept = kept_then d _ a f m q.kept;
        within = within_then w q.within;
      }

  -- it is at most the last
  pub chosen_most : (d : Degree) → r.chosen ≡ Some d → d.0 ≤ last
  chosen_most d q = (last_solved basis criterion rows sums last d (chosen_is (Some d) q)).0
