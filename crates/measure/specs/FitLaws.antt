-- Laws of Fits.antt.
use Rattle.std.specs.Prelude.{◌≡◌, Bool, ℕ, Float}
use Rattle.std.proofs.Math.Path.{refl}
use Rattle.std.proofs.Math.Bool.{true, false}
use mathlib.Core.List.{List, [], ◌∷◌, Memᴰ}
use Rattle.basis.specs.Counts.{count_of}
use Rattle.basis.specs.declared.Basis.{Basis}
use Rattle.monomial.specs.Rows.{Row}
use Rattle.fit.specs.Solved.{is_solved}
use Rattle.lent.specs.Written.{zeros}
use Rattle.measure.specs.Fits.{fit_past}
use Rattle.refusal.specs.Named.{number_of}

module _ (basis : Basis) (n degree : ℕ) (rows : List Row) (sums : List Float) where
  -- Every fit that passes refusals 1 to 9 leaves scratch's first n places +0.
  pub past_scratch : (fit_past basis n degree rows sums).scratch ≡ zeros n
  unfolding fit_past
  past_scratch = go (is_solved sums rows (count_of basis degree)) refl
    where
      go : (t : Bool) → is_solved sums rows (count_of basis degree) ≡ t → (fit_past basis n degree rows sums).scratch ≡ zeros n
      go true h = rw h
      go false h = rw h

  -- past them it is refused by 10 or not at all
  pub fit_past_number : Memᴰ (number_of (fit_past basis n degree rows sums).answer) (0 ∷ 10 ∷ [])
  unfolding fit_past
  fit_past_number = go (is_solved sums rows (count_of basis degree)) refl
    where
      go : (t : Bool) → is_solved sums rows (count_of basis degree) ≡ t → Memᴰ (number_of (fit_past basis n degree rows sums).answer) (0 ∷ 10 ∷ [])
      go true h = rw h (Memᴰ.head refl)
      go false h = rw h (Memᴰ.tail (Memᴰ.head refl))
