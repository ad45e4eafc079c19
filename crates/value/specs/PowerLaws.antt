-- Laws of Power.antt.
use Rattle.std.specs.Prelude.{◌≡◌, ℕ, zero, suc, ◌/◌, ◌≤◌, Bool, true, false, ◌==◌, ◌≢◌, refl, Float}
use Rattle.std.proofs.Common.{sym, ap, ◌∙◌, arith, eq-eqb, ne_eqb}
use Rattle.std.specs.Float.{binary64}
use Rattle.std.specs.Float.Ieee.{mul}
use Rattle.std.proofs.lemmas.Bool.{eqb-false}
use Rattle.value.specs.Power.{times_if_odd, power_turns, power_from}

-- turns past the last change nothing
enough : (n m e : ℕ) (z : Bool) (r b : Float) → (e == 0) ≡ z → e ≤ n → e ≤ m → power_turns n z e r b ≡ power_turns m z e r b
unfolding power_turns
enough zero zero e z r b q h k = refl
enough zero (suc m) e true r b q h k = refl
enough zero (suc m) e false r b q h k = absurd (eqb-false e 0 q (omega arith))
enough (suc n) zero e true r b q h k = refl
enough (suc n) zero e false r b q h k = absurd (eqb-false e 0 q (omega arith))
enough (suc n) (suc m) e true r b q h k = refl
enough (suc n) (suc m) e false r b q h k = enough n m (e / 2) (e / 2 == 0) _ _ refl (omega arith) (omega arith)

-- one turn, the Bool saying whether it was the last
turn : (e : ℕ) (r b : Float) (z : Bool) → (e / 2 == 0) ≡ z → power_from e r b ≡ power_turns e z (e / 2) (times_if_odd e r b) (mul binary64 b b)
unfolding power_from power_turns
turn e r b z q = ap (λ (t : Bool). power_turns e t (e / 2) (times_if_odd e r b) (mul binary64 b b)) q

-- a turn after which e is not 0
pub power_again : (e : ℕ) (r b : Float) → (e / 2 ≢ 0) → power_from (e / 2) (times_if_odd e r b) (mul binary64 b b) ≡ power_from e r b
unfolding power_from
power_again e r b h =
    let q = ne_eqb (e / 2) 0 h in
    enough (suc (e / 2)) e (e / 2) false (times_if_odd e r b) (mul binary64 b b) q (omega arith) (omega arith) ∙ sym (turn e r b false q)

-- the last turn
pub power_last : (e : ℕ) (r b : Float) → e / 2 ≡ 0 → power_from e r b ≡ times_if_odd e r b
unfolding power_turns
power_last e r b h = turn e r b true (eq-eqb (e / 2) 0 h) ∙ stopped e
  where
    stopped : (n : ℕ) → power_turns n true (e / 2) (times_if_odd e r b) (mul binary64 b b) ≡ times_if_odd e r b
    stopped zero = refl
    stopped (suc n) = refl
