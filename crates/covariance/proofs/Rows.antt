-- What loops over places write, and that it is what the rows ask for.
use mathlib.Core.Path.{◌≡◌, refl, ap, ap₂, ◌∙◌}
use mathlib.Core.List.{List, [], ◌∷◌, ◌++◌, map}
use Prim.Native.Nat.{ℕ, zero, suc, ◌+◌, ◌*◌, ◌≤◌, ◌<◌}
use native.Mathlib.Omega.{arith}
use lib.Ieee.{Float, nan}
use lib.ListN.{length, get_or, set, take, drop}
use Rattle.loops.specs.Places.{each, table}
use Rattle.loops.specs.PlaceLaws.{length_each, each_again, each_two, each_past, each_at, each_same, table_same}
use Rattle.basis.specs.declared.Basis.{Basis}
use Rattle.statistics.specs.declared.Tolerance.{Tolerance}
use Rattle.monomial.specs.Terms.{terms_at}
use Rattle.monomial.specs.Rows.{Row, row_at, rows_at, fitted}
use Rattle.monomial.specs.RowLaws.{map_rows_at, each_rows_at}
use Rattle.value.specs.Root.{root_f}
use Rattle.covariance.specs.Covariance.{prediction_variance}
use Rattle.covariance.specs.Bands.{widened, band_of, band_at}
use Rattle.covariance.specs.BandsFrom.{band_by, band_from}

module _ {B : Type 0} (w : ℕ → B) where
  -- the first i places of s are written
  unfoldable pub written : ℕ → List B → List B
  written i s = each (λ j _. w j) i s

  -- one turn
  pub written_again : (i : ℕ) (s t : List B) (v : B) → t ≡ written i s → v ≡ w i → i < length s → set t i v ≡ written (i + 1) s
  unfolding written
  written_again i s t v e h l = ap₂ (λ m u. set m i u) e h ∙ each_again (λ j _. w j) i s v l

  -- one turn that takes two places
  pub written_two : (p : ℕ) (s t : List B) (v u : B) → t ≡ written (2 * p) s → v ≡ w (2 * p) → u ≡ w (2 * p + 1) → 2 * p + 1 < length s
      → set (set t (2 * p) v) (2 * p + 1) u ≡ written (2 * (p + 1)) s
  unfolding written
  written_two p s t v u e h g l = rw (e, h, g) (each_two w p s v l)

  -- the later places stand
  pub written_later : (i k : ℕ) (s t : List B) (d : B) → i ≤ k → t ≡ written i s → get_or t k d ≡ get_or s k d
  unfolding written
  written_later i k s t d l e = ap (λ m. get_or m k d) e ∙ each_past (λ j _. w j) i s k d l

-- w makes at each place below n what g makes of its row
module _ {B : Type 0} (g : Row → B) (basis : Basis) (xs zs ys : List Float) (n : ℕ) (w : ℕ → B) (same : (j : ℕ) → j < n → w j ≡ g (row_at basis xs zs ys j)) where
  pub table_rows : table w n ≡ map g (rows_at basis n xs zs ys)
  table_rows = table_same w (λ j. g (row_at basis xs zs ys j)) n same ∙ map_rows_at basis xs zs ys g n

  pub each_rows : (s : List B) → n ≤ length s → each (λ j _. w j) n s ≡ map g (rows_at basis n xs zs ys) ++ drop n s
  each_rows s h = each_same (λ j _. w j) (λ j _. g (row_at basis xs zs ys j)) n s (λ j _. same j) ∙ each_rows_at basis xs zs ys g n s h

  -- of what loops before it wrote at these places nothing is left
  pub each_rows_over : (s t : List B) → length t ≡ length s → drop n t ≡ drop n s → n ≤ length s → each (λ j _. w j) n t ≡ map g (rows_at basis n xs zs ys) ++ drop n s
  each_rows_over s t l e h = each_rows t (omega arith) ∙ ap (λ r. map g (rows_at basis n xs zs ys) ++ r) e

-- places through a function that changes none
pub each_still : (n : ℕ) (s : List Float) → each (λ _ v. v) n s ≡ s
unfolding each
each_still zero s = refl
each_still (suc n) [] = refl
each_still (suc n) (v ∷ vs) = ap (λ l. v ∷ l) (each_still n vs)

-- the first n places through two functions, one after the other
pub each_then : (f g : Float → Float) (n : ℕ) (s : List Float) → n ≤ length s
    → map f (take n (each (λ _ v. g v) n s)) ++ drop n (each (λ _ v. g v) n s) ≡ each (λ _ v. f (g v)) n s
unfolding each
each_then f g zero s h = refl
each_then f g (suc n) [] h = absurd (omega arith)
each_then f g (suc n) (v ∷ vs) h = ap (λ l. f (g v) ∷ l) (each_then f g n vs (omega arith))

-- where the value of each row stands, and the root of its widened prediction variance, its band is made from them
pub band_from_lem : (k : ℕ) (c covariance : List Float) (t : Tolerance) (z sd : Float) (basis : Basis) (xs zs ys : List Float) (n : ℕ) (values variances roots lower upper : List Float)
    → values ≡ each (λ i _. fitted k c (terms_at basis (get_or xs i nan) (get_or zs i nan))) n lower → n ≤ length lower
    → variances ≡ each (λ i _. prediction_variance k (terms_at basis (get_or xs i nan) (get_or zs i nan)) covariance) n upper → n ≤ length upper
    → roots ≡ each (λ _ v. root_f (widened t sd v)) n variances
    → (j : ℕ) → j < n → band_from t z values roots j ≡ band_at k c covariance t z sd (row_at basis xs zs ys j).terms
unfolding band_from band_at row_at band_of band_by
band_from_lem k c covariance t z sd basis xs zs ys n values variances roots lower upper e h f g q j l =
    let long : length variances ≡ length upper = ap length f ∙ length_each _ n upper in
    rw (e, q) (ap₂ (band_by t z) (each_at _ n lower j nan l (omega arith))
    (each_at _ n variances j nan l (omega arith) ∙ ap (λ (v : Float). root_f (widened t sd v)) (ap (λ (m : List Float). get_or m j nan) f ∙ each_at _ n upper j nan l (omega arith))))
