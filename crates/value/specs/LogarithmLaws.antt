-- Laws of Logarithm.antt.
use Rattle.std.specs.Prelude.{◌≡◌, ℕ, ◌+◌, ◌*◌, ◌/◌, ◌%◌, ◌^◌, ◌<◌, ◌≤◌, Bool, true, false, cond, refl}
use Rattle.std.proofs.Common.{arith, ltb-true, ltb-false}
use Rattle.std.specs.Float.Ieee.{of_int, of_bits, to_bits, sub, mul, div}
use Rattle.value.specs.Numbers.{zero_f, one_f}
use Rattle.value.specs.Logarithm.{ln_sum, is_low, m_bits, k_biased, ln_bits, ln_positive, ln_f}
use Rattle.value.specs.Moved.{moved}

-- the high 32 bits of m are from 3FE6A09E up to below 3FF6A09E
pub m_range : (b : ℕ) → (0x3FE6A09E ≤ m_bits b / 2 ^ 32) × (m_bits b / 2 ^ 32 < 0x3FF6A09E)
unfolding m_bits
m_range b = go (is_low b) refl
  where
    go : (t : Bool) → is_low b ≡ t
        → (0x3FE6A09E ≤ cond t (0x3FF0000000000000 + b % 2 ^ 52) (0x3FE0000000000000 + b % 2 ^ 52) / 2 ^ 32)
        × (cond t (0x3FF0000000000000 + b % 2 ^ 52) (0x3FE0000000000000 + b % 2 ^ 52) / 2 ^ 32 < 0x3FF6A09E)
    go true q = (omega (arith, ltb-true (0x3FF00000 + b % 2 ^ 52 / 2 ^ 32) 0x3FF6A09E q), omega (arith, ltb-true (0x3FF00000 + b % 2 ^ 52 / 2 ^ 32) 0x3FF6A09E q))
    go false q = (omega (arith, ltb-false (0x3FF00000 + b % 2 ^ 52 / 2 ^ 32) 0x3FF6A09E q), omega (arith, ltb-false (0x3FF00000 + b % 2 ^ 52 / 2 ^ 32) 0x3FF6A09E q))

-- the same m and k without a branch
pub m_moved : (b : ℕ) → (moved b % 2 ^ 20 + 0x3FE6A09E) * 2 ^ 32 + b % 2 ^ 32 ≡ m_bits b
unfolding m_bits
m_moved b = go (is_low b) refl
  where
    go : (t : Bool) → is_low b ≡ t → (moved b % 2 ^ 20 + 0x3FE6A09E) * 2 ^ 32 + b % 2 ^ 32 ≡ cond t (0x3FF0000000000000 + b % 2 ^ 52) (0x3FE0000000000000 + b % 2 ^ 52)
    go true q = omega (arith, ltb-true (0x3FF00000 + b % 2 ^ 52 / 2 ^ 32) 0x3FF6A09E q)
    go false q = omega (arith, ltb-false (0x3FF00000 + b % 2 ^ 52 / 2 ^ 32) 0x3FF6A09E q)

pub k_moved : (b : ℕ) → moved b / 2 ^ 20 ≡ k_biased b
unfolding k_biased
k_moved b = go (is_low b) refl
  where
    go : (t : Bool) → is_low b ≡ t → moved b / 2 ^ 20 ≡ cond t (b / 2 ^ 52) (b / 2 ^ 52 + 1)
    go true q = omega (arith, ltb-true (0x3FF00000 + b % 2 ^ 52 / 2 ^ 32) 0x3FF6A09E q)
    go false q = omega (arith, ltb-false (0x3FF00000 + b % 2 ^ 52 / 2 ^ 32) 0x3FF6A09E q)

-- exactly 0 at 1
pub ln_one : ln_f one_f ≡ zero_f
unfolding ln_f ln_positive ln_bits ln_sum m_bits k_biased of_int of_bits to_bits sub mul div
ln_one = refl
