-- NaNs, which count as one value: what a test `x != x` tells, and which bit patterns are a NaN's.
use Rattle.std.specs.Prelude.{◌≡◌, ℕ, ◌%◌, ◌^◌, ◌<◌, ◌≤◌, Bool, true, false, not, T, refl, Float}
use Rattle.std.proofs.Common.{sym, ap, subst, ◌∙◌, lt-ltb}
use Rattle.std.proofs.lemmas.Bool.{false≢true}
use Rattle.std.proofs.lemmas.Float.{not_nan_f64_bits}
use Rattle.std.specs.Float.{nan, inf, fin, binary64}
use Rattle.std.specs.Float.Ieee.{div, ne, is_nan, nan_bits, of_bits, to_bits}
use Rattle.std.specs.Float.Ieee.Bits.{nan_bits_is, nan_bits_above}
use Rattle.std.specs.Float.Ieee.Compare.{differs_from_itself, nan_differs}

-- only a NaN differs from itself
pub nan_itself : (x : Float) → ne x x ≡ true → x ≡ nan
nan_itself x h = differs_from_itself x (subst T (sym h) tt)

pub is_nan_lem : (x : Float) → ne x x ≡ true → is_nan x ≡ true
unfolding is_nan
is_nan_lem x h = ap is_nan (nan_itself x h)

pub not_nan : (x : Float) → ne x x ≡ false → is_nan x ≡ false
unfolding is_nan
not_nan nan h = sym nan_differs ∙ h
not_nan (inf s) h = refl
not_nan (fin s m e) h = refl

-- as `to_bits` asks it
pub some : (x : Float) → ne x x ≡ false → T (not (is_nan x))
some x h = subst (λ (t : Bool). T (not t)) (sym (not_nan x h)) tt

-- 0 / 0 makes one
pub made_nan : div binary64 (of_bits binary64 0) (of_bits binary64 0) ≡ nan
unfolding div of_bits
made_nan = refl

is_the_nan : (x : Float) → is_nan x ≡ true → x ≡ nan
unfolding is_nan
is_the_nan nan h = refl
is_the_nan (inf s) h = absurd (false≢true h)
is_the_nan (fin s m e) h = absurd (false≢true h)

-- a pattern past the infinity's, the sign left out, is a NaN's
pub bits_nan : (b : ℕ) → 0x7FF0_0000_0000_0000 < b % 2 ^ 63 → of_bits binary64 b ≡ nan
bits_nan b h = is_the_nan (of_bits binary64 b) (sym (nan_bits_is binary64 b) ∙ nan_bits_above binary64 b ∙ lt-ltb 0x7FF0_0000_0000_0000 (b % 2 ^ 63) h)

-- and up to it is none, as `from_bits` asks it
pub bits_some : (b : ℕ) → b % 2 ^ 63 ≤ 0x7FF0_0000_0000_0000 → T (not (nan_bits binary64 b))
bits_some b h = not_nan_f64_bits b h

-- the one pattern that stands for it
pub nan_bits_lem : to_bits binary64 nan ≡ 0x7FF8_0000_0000_0000
unfolding to_bits
nan_bits_lem = refl
