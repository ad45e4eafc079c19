-- The m and k of `ln`'s definition are those that document 01 asks for: v = 2ᵏ × m.
use Rattle.std.proofs.Common.{◌≡◌, ℕ, ◌+◌, ◌-◌, ◌*◌, ◌/◌, ◌%◌, ◌^◌, ◌<◌, ◌≤◌, Bool, true, false, cond, sym, refl, ap, ◌∙◌, mul_assoc, arith, pow-add}
use lib.Ieee.{binary64, odd, of_bits}
use lib.Ieee.Exact.{odd_sign}
use Rattle.value.specs.Logarithm.{is_low, m_bits, k_biased}
use Rattle.value.specs.Nearest.{ulps}
use Rattle.value.proofs.SquareRoot.Reading.{normal_bits, ulps_of_value}

-- a double with the exponent's field y and the digits t, counted in the smallest double
grains_bits : (b y t : ℕ) → 2 ^ 52 ≤ b → b < 0x7FF0_0000_0000_0000 → b / 2 ^ 52 - 1 ≡ y → b % 2 ^ 52 ≡ t → ulps (of_bits binary64 b) ≡ (2 ^ 52 + t) * 2 ^ y
grains_bits b y t l h p q =
    let c = 2 ^ 52 + b % 2 ^ 52 in
    let d = b / 2 ^ 52 - 1 in
    ap ulps (normal_bits b l h) ∙ ulps_of_value (odd 53 false c d 1074) (c * 2 ^ d) (odd_sign 53 false c d 1074) ∙ rw (p, q)

shifts : (c x y z w : ℕ) → x + y ≡ z + w → c * 2 ^ x * 2 ^ y ≡ c * 2 ^ z * 2 ^ w
shifts c x y z w h = mul_assoc c (2 ^ x) (2 ^ y) ∙ ap (λ (n : ℕ). c * n) (sym (pow-add 2 x y) ∙ ap (λ (n : ℕ). 2 ^ n) h ∙ pow-add 2 z w) ∙ sym (mul_assoc c (2 ^ z) (2 ^ w))

-- v × 2 ^ 1023 is m × 2 ^ (k + 1023), both counted in the smallest double
pub split_value : (b : ℕ) → 2 ^ 52 ≤ b → b < 0x7FF0_0000_0000_0000 → ulps (of_bits binary64 b) * 2 ^ 1023 ≡ ulps (of_bits binary64 (m_bits b)) * 2 ^ k_biased b
unfolding m_bits k_biased
split_value b l h = go (is_low b)
  where
    go : (low : Bool)
        → ulps (of_bits binary64 b) * 2 ^ 1023
        ≡ ulps (of_bits binary64 (cond low (0x3FF0000000000000 + b % 2 ^ 52) (0x3FE0000000000000 + b % 2 ^ 52))) * 2 ^ cond low (b / 2 ^ 52) (b / 2 ^ 52 + 1)
    go true =
        rw (grains_bits b (b / 2 ^ 52 - 1) (b % 2 ^ 52) l h refl refl, grains_bits (0x3FF0000000000000 + b % 2 ^ 52) 1022 (b % 2 ^ 52) (omega arith) (omega arith) (omega arith) (omega arith))
        (shifts (2 ^ 52 + b % 2 ^ 52) (b / 2 ^ 52 - 1) 1023 1022 (b / 2 ^ 52) (omega arith))
    go false =
        rw (grains_bits b (b / 2 ^ 52 - 1) (b % 2 ^ 52) l h refl refl, grains_bits (0x3FE0000000000000 + b % 2 ^ 52) 1021 (b % 2 ^ 52) (omega arith) (omega arith) (omega arith) (omega arith))
        (shifts (2 ^ 52 + b % 2 ^ 52) (b / 2 ^ 52 - 1) 1023 1021 (b / 2 ^ 52 + 1) (omega arith))
