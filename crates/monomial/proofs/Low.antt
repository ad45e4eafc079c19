-- The fitted value of up to four coefficients, one after the other.
use mathlib.Core.Path.{◌≡◌, refl, sym, ap}
use mathlib.Core.List.{List}
use Prim.Native.Nat.{ℕ, ◌+◌, ◌<◌}
use native.Mathlib.Omega.{arith}
use lib.Dec.{T}
use lib.ListN.{get_or}
use lib.Ieee.{Float, nan, binary64, add, mul, fits}
use lib.Ieee.Fits.{mul-fits}
use Rattle.loops.specs.Fold.{fold}
use Rattle.loops.specs.Places.{table}
use Rattle.loops.specs.PlaceLaws.{table_at}
use Rattle.value.specs.Exact.{one_times}
use Rattle.value.specs.Numbers.{zero_f, one_f}
use Rattle.value.specs.Power.{power_f, power_from, power_turns}
use Rattle.value.specs.TotalLaws.{total_again}
use Rattle.monomial.specs.Rows.{fitted}

module _ (c : List Float) (x : Float) (f : T (fits binary64 x)) where
  pub none : zero_f ≡ fitted 0 c (table (power_f x) 16)
  unfolding fitted table fold
  none = refl

  -- one coefficient more, p the power of x
  one_more : (j : ℕ) (v p : Float) → j < 16 → v ≡ fitted j c (table (power_f x) 16) → power_f x j ≡ p
      → add binary64 v (mul binary64 (get_or c j nan) p) ≡ fitted (j + 1) c (table (power_f x) 16)
  unfolding fitted
  one_more j v p h e q =
      rw (e, sym q, sym (table_at (power_f x) 16 j nan h)) (sym (total_again (λ i. mul binary64 (get_or c i nan) (get_or (table (power_f x) 16) i nan)) j))

  pub power_1 : power_f x 1 ≡ x
  unfolding power_f power_from power_turns
  power_1 = one_times x f

  pub power_2 : power_f x 2 ≡ mul binary64 x x
  unfolding power_f power_from power_turns
  power_2 = one_times (mul binary64 x x) (mul-fits binary64 x x)

  pub power_3 : power_f x 3 ≡ mul binary64 x (mul binary64 x x)
  unfolding power_f power_from power_turns
  power_3 = ap (λ (y : Float). mul binary64 y (mul binary64 x x)) (one_times x f)

  pub power_4 : power_f x 4 ≡ mul binary64 (mul binary64 x x) (mul binary64 x x)
  unfolding power_f power_from power_turns
  power_4 = one_times (mul binary64 (mul binary64 x x) (mul binary64 x x)) (mul-fits binary64 (mul binary64 x x) (mul binary64 x x))

  pub power_0 : power_f x 0 ≡ one_f
  unfolding power_f power_from power_turns
  power_0 = refl

  pub one_term : add binary64 zero_f (mul binary64 (get_or c 0 nan) one_f) ≡ fitted 1 c (table (power_f x) 16)
  one_term = one_more 0 _ _ (omega arith) none power_0

  pub two_terms : (v : Float) → v ≡ fitted 1 c (table (power_f x) 16) → add binary64 v (mul binary64 (get_or c 1 nan) x) ≡ fitted 2 c (table (power_f x) 16)
  two_terms v e = one_more 1 v _ (omega arith) e power_1

  pub three_terms : (v : Float) → v ≡ fitted 2 c (table (power_f x) 16) → add binary64 v (mul binary64 (get_or c 2 nan) (mul binary64 x x)) ≡ fitted 3 c (table (power_f x) 16)
  three_terms v e = one_more 2 v _ (omega arith) e power_2

  pub four_terms : (v : Float) → v ≡ fitted 3 c (table (power_f x) 16)
      → add binary64 v (mul binary64 (get_or c 3 nan) (mul binary64 x (mul binary64 x x))) ≡ fitted 4 c (table (power_f x) 16)
  four_terms v e = one_more 3 v _ (omega arith) e power_3
