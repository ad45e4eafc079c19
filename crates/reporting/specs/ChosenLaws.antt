-- Laws of the choice among the degrees up to the last one to try, and of what a call makes of it.
use Rattle.std.proofs.Math.Path.{◌≡◌, refl, ap}
use Rattle.std.proofs.Common.{sym, ◌∙◌, arith}
use Rattle.std.specs.Prelude.{Bool, ℕ, ◌+◌, ◌≤◌, Float, Option, Some, None, Result, Ok, Err}
use Rattle.std.proofs.Math.Bool.{true, false, cond}
use mathlib.Core.List.Memᴰ
use mathlib.Core.List.{List, [], ◌∷◌, Memᴰ}
use Rattle.loops.specs.PlaceLaws.{length_table, table_at}
use Rattle.basis.specs.Counts.{count_of}
use Rattle.basis.specs.declared.Basis.{Basis}
use Rattle.basis.specs.declared.Degree.{Degree}
use Rattle.monomial.specs.Rows.{Row}
use Rattle.score.specs.declared.Criterion.{Criterion}
use Rattle.choice.specs.Laws.{chosen}
use Rattle.fit.specs.Solved.{is_solved}
use Rattle.fit.specs.SolvedLaws.{scored_some}
use Rattle.fit.specs.Chosen.{choice_of, counts_of, tried}
use Rattle.refusal.specs.declared.refusals.Refusal.{Refusal}
use Rattle.refusal.specs.Refusals.{settle}
use Rattle.refusal.specs.Named.{named, refused_by}
use Rattle.refusal.specs.NamedLaws.{settled_ok, settled_err}
use Rattle.solve.specs.Solve.{solve}
use Rattle.measure.specs.Measures.{inverse_fails, covariance_at}
use Rattle.reporting.specs.Chosen.{Found, chosen_refusal, of_chosen, found_of, found_by}

-- the chosen degree is at most the last one to try, and solved
pub last_solved : (basis : Basis) (criterion : Criterion) (rows : List Row) (sums : List Float) (last : ℕ) (d : Degree)
    → (choice_of criterion sums rows (counts_of basis last)).chosen ≡ Some d
    → (d.0 ≤ last) × (is_solved sums rows (count_of basis d.0) ≡ true)
unfolding choice_of tried
last_solved basis criterion rows sums last d h =
    let w = chosen _ _ d.0 h in
    let l = length_table (count_of basis) (last + 1) in
    let k = table_at (count_of basis) (last + 1) d.0 0 (omega (arith, w.within, l)) in
    (omega (arith, w.within, l), ap (is_solved sums rows) (sym k) ∙ (scored_some criterion sums rows rows _ w.is_solved_lem).0)

-- ---- what a call makes of the chosen degree or none

module _ {A : Type 0} (basis : Basis) (sums : List Float) (late : ℕ → A) (told : Degree → A) where
  -- a number that is not 0 is what the call is refused by
  pub of_late : (o : Option Degree) (r : ℕ) → r ≡ chosen_refusal basis o sums → (r ≡ 0 → ⊥) → of_chosen basis sums late told o ≡ late r
  unfolding chosen_refusal
  of_late None r e h = ap late (sym e)
  of_late (Some d) r e h = go (inverse_fails sums (count_of basis d.0)) e
    where
      go : (t : Bool) → r ≡ cond t 12 0 → cond t (late 12) (told d) ≡ late r
      go true q = ap late (sym q)
      go false q = absurd (h q)

  -- at 0 a degree is chosen, and told of
  pub of_told : (d : Degree) → chosen_refusal basis (Some d) sums ≡ 0 → of_chosen basis sums late told (Some d) ≡ told d
  unfolding chosen_refusal
  of_told d e = go (inverse_fails sums (count_of basis d.0)) e
    where
      go : (t : Bool) → ◌≡◌ {A = ℕ} (cond t 12 0) 0 → cond t (late 12) (told d) ≡ told d
      go true q = absurd (omega arith)
      go false q = refl

  -- what holds where it is refused, and where it is told of the chosen degree
  pub of_either : (P : A → Type 0) (o : Option Degree) → P (late 11) → P (late 12) → ((d : Degree) → o ≡ Some d → P (told d)) → P (of_chosen basis sums late told o)
  of_either P None none fails h = none
  of_either P (Some d) none fails h = go (inverse_fails sums (count_of basis d.0))
    where
      go : (t : Bool) → P (cond t (late 12) (told d))
      go true = fails
      go false = h d refl

  -- its number is that of the choice
  pub of_number : (number : A → ℕ) → number (late 11) ≡ 11 → number (late 12) ≡ 12 → ((d : Degree) → number (told d) ≡ 0) → (o : Option Degree)
      → number (of_chosen basis sums late told o) ≡ chosen_refusal basis o sums
  unfolding chosen_refusal
  of_number number none fails h None = none
  of_number number none fails h (Some d) = go (inverse_fails sums (count_of basis d.0))
    where
      go : (t : Bool) → number (cond t (late 12) (told d)) ≡ cond t 12 0
      go true = fails
      go false = h d

-- what was found of it says whether it is refused, and of which degree it is told
module _ (basis : Basis) (rows : List Row) (sums : List Float) where
  found_settled : (d : Degree)
      → found_of basis rows sums (Some d)
      ≡ (let k = count_of basis d.0 in
      let r = chosen_refusal basis (Some d) sums in
      settle r (Ok (record { degree = d; measured = record { c = (solve sums k).c; covariance = covariance_at sums rows k } })) (refused_by r))
  unfolding chosen_refusal
  found_settled d = go (inverse_fails sums (count_of basis d.0)) _
    where
      go : (t : Bool) (f : Found) → ◌≡◌ {A = Result Found Refusal} (cond t (refused_by 12) (Ok f)) (settle (cond t 12 0) (Ok f) (refused_by (cond t 12 0)))
      go true f = refl
      go false f = refl

  module _ (c v : List Float) where
    pub none_found : (o : Option Degree) {r : Result Degree Refusal} {e : Refusal} → found_by r c v ≡ found_of basis rows sums o → r ≡ Err e
        → (chosen_refusal basis o sums ≡ 0 → ⊥) × (e ≡ named (chosen_refusal basis o sums))
    unfolding chosen_refusal
    none_found None {r} {e} p h = let q : ◌≡◌ {A = Result Found Refusal} (refused_by 11) (Err e) = sym p ∙ ap (λ (a : Result Degree Refusal). found_by a c v) h in (λ z. absurd (omega (arith, z)), cc)
    none_found (Some d) p h = settled_err (chosen_refusal basis (Some d) sums) _ (sym (found_settled d) ∙ sym p ∙ ap (λ (a : Result Degree Refusal). found_by a c v) h)

    pub one_found : (o : Option Degree) {r : Result Degree Refusal} {d : Degree} → found_by r c v ≡ found_of basis rows sums o → r ≡ Ok d
        → (o ≡ Some d) × (chosen_refusal basis (Some d) sums ≡ 0) × (c ≡ (solve sums (count_of basis d.0)).c) × (v ≡ covariance_at sums rows (count_of basis d.0))
    one_found None {r} {d} p h = absurd (let q = sym p ∙ ap (λ (a : Result Degree Refusal). found_by a c v) h in cc)
    one_found (Some e) {r} {d} p h =
        let w = settled_ok (chosen_refusal basis (Some e) sums) _ (sym (found_settled e) ∙ sym p ∙ ap (λ (a : Result Degree Refusal). found_by a c v) h) in
        let same : d ≡ e = ap (λ (f : Found). f.degree) w.1 in
        rw same (refl, w.0, ap (λ (f : Found). f.measured.c) w.1, ap (λ (f : Found). f.measured.covariance) w.1)

-- it is 0, 11 or 12
pub chosen_numbers : (basis : Basis) (o : Option Degree) (sums : List Float) → Memᴰ (chosen_refusal basis o sums) (0 ∷ 1 ∷ 4 ∷ 7 ∷ 8 ∷ 11 ∷ 12 ∷ [])
unfolding chosen_refusal
chosen_numbers basis None sums = Memᴰ.append_right (0 ∷ 1 ∷ 4 ∷ 7 ∷ 8 ∷ []) (Memᴰ.head refl)
chosen_numbers basis (Some d) sums = go (inverse_fails sums (count_of basis d.0))
  where
    go : (t : Bool) → Memᴰ {A = ℕ} (cond t 12 0) (0 ∷ 1 ∷ 4 ∷ 7 ∷ 8 ∷ 11 ∷ 12 ∷ [])
    go true = Memᴰ.append_right (0 ∷ 1 ∷ 4 ∷ 7 ∷ 8 ∷ 11 ∷ []) (Memᴰ.head refl)
    go false = Memᴰ.head refl
