-- What a fit comes to: refused by 1 to 9, unsolved, or solved.
use mathlib.Core.Path.{◌≡◌, refl}
use mathlib.Core.Bool.{true, false}
use mathlib.Core.List.{List}
use Prim.Native.Nat.{ℕ, zero, suc}
use lib.ListN.{take}
use lib.Ieee.{Float}
use Rattle.basis.specs.Counts.{count_of}
use Rattle.basis.specs.declared.Basis.{Basis}
use Rattle.monomial.specs.Rows.{Row}
use Rattle.solve.specs.Solve.{solve}
use Rattle.fit.specs.Solved.{is_solved}
use Rattle.refusal.specs.Refusals.{settle}
use Rattle.lent.specs.Slices.{contents_of}
use Rattle.lent.specs.Written.{over, zeros}
use Rattle.std.specs.Prelude.{Ok}
use Rattle.refusal.specs.Named.{refused_by}
use Rattle.measure.specs.Places.{term_places}
use Rattle.measure.specs.Fits.{FitAnswer, FitOut, FitIs, fit_refused, fit_past}

-- refused by q, one of 1 to 9
pub refused_early_lem : (q : ℕ) (past : FitOut) (s c : List Float) {r : FitAnswer} → (q ≡ 0 → ⊥) × (r ≡ refused_by q) → FitIs (settle q past (fit_refused q)) r (contents_of s s) (contents_of c c)
refused_early_lem zero past s c h = absurd (h.0 refl)
refused_early_lem (suc k) past s c h = record { answer = h.1; scratch = refl; coefficients = refl }

module _ (basis : Basis) (n degree : ℕ) (rows : List Row) (sums s s' c : List Float) (es : s' ≡ over (zeros n) s) where
  pub fit_unsolved : is_solved sums rows (count_of basis degree) ≡ false → FitIs (fit_past basis n degree rows sums) (refused_by 10) (contents_of s s') (contents_of c c)
  unfolding fit_past
  fit_unsolved h = rw h (record { answer = refl; scratch = es; coefficients = refl })

  pub fit_solved : is_solved sums rows (count_of basis degree) ≡ true → (c' : List Float) → c' ≡ over (take (term_places basis) (solve sums (count_of basis degree)).c) c
      → FitIs (fit_past basis n degree rows sums) (Ok (record { 0 = degree })) (contents_of s s') (contents_of c c')
  unfolding fit_past
  fit_solved h c' ec = rw h (record { answer = refl; scratch = es; coefficients = ec })
