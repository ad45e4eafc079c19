-- Document 01's ln: fdlibm's method. That its parts are what 01 says are laws (`LogarithmLaws.antt`). Definitions only.
use Rattle.std.specs.Prelude.{ℕ, zero, suc, ◌+◌, ◌/◌, ◌%◌, ◌^◌, Bool, true, false, cond, from_bits, nat_lt, to_bits, Float}
use Rattle.std.specs.Float.{nan, inf, fin, binary64}
use Rattle.std.specs.Float.Ieee.{minus, add, sub, mul, div, of_int}
use Rattle.value.specs.Numbers.{half_f, one_f, two_f}

abbrev pub L1 : Float
L1 = from_bits binary64 0x3FE5555555555593

abbrev pub L2 : Float
L2 = from_bits binary64 0x3FD999999997FA04

abbrev pub L3 : Float
L3 = from_bits binary64 0x3FD2492494229359

abbrev pub L4 : Float
L4 = from_bits binary64 0x3FCC71C51D8E78AF

abbrev pub L5 : Float
L5 = from_bits binary64 0x3FC7466496CB03DE

abbrev pub L6 : Float
L6 = from_bits binary64 0x3FC39A09D078C69F

abbrev pub L7 : Float
L7 = from_bits binary64 0x3FC2F112DF3E5244

abbrev pub hi : Float
hi = from_bits binary64 0x3FE62E42FEE00000

abbrev pub lo : Float
lo = from_bits binary64 0x3DEA39EF35793C76

-- f = m−1, and from it h = (0.5×f)×f, s = f/(2+f), z = s×s, w = z×z, t1 = w×(L2+w×(L4+w×L6)), t2 = z×(L1+w×(L3+w×(L5+w×L7))), R = t2+t1;
-- ln = ((s×(h+R) + k×lo) − h) + f + k×hi, left to right
unfoldable pub ln_sum : Float → Float → Float
ln_sum f k =
    let h = mul binary64 (mul binary64 half_f f) f in
    let s = div binary64 f (add binary64 two_f f) in
    let z = mul binary64 s s in
    let w = mul binary64 z z in
    let t1 = mul binary64 w (add binary64 L2 (mul binary64 w (add binary64 L4 (mul binary64 w L6)))) in
    let t2 = mul binary64 z (add binary64 L1 (mul binary64 w (add binary64 L3 (mul binary64 w (add binary64 L5 (mul binary64 w L7)))))) in
    let R = add binary64 t2 t1 in
    add binary64
    (add binary64 (sub binary64 (add binary64 (mul binary64 s (add binary64 h R)) (mul binary64 k lo)) h) f)
    (mul binary64 k hi)

-- Of a double above zero that is not subnormal, with the bits b: its digits are b % 2 ^ 52, its exponent's field is b / 2 ^ 52.
-- The double from 1 up to below 2 with these digits has the high 32 bits 3FF00000 + b % 2 ^ 52 / 2 ^ 32. Are they below 3FF6A09E?
abbrev pub is_low : ℕ → Bool
is_low b = nat_lt (0x3FF00000 + b % 2 ^ 52 / 2 ^ 32) 0x3FF6A09E

-- m's bits: that double, or else its half
unfoldable pub m_bits : ℕ → ℕ
m_bits b = cond (is_low b) (0x3FF0000000000000 + b % 2 ^ 52) (0x3FE0000000000000 + b % 2 ^ 52)

-- k + 1023
unfoldable pub k_biased : ℕ → ℕ
k_biased b = cond (is_low b) (b / 2 ^ 52) (b / 2 ^ 52 + 1)

-- ln of the double with the bits b over 2 ^ shift: v = 2ᵏ × m
unfoldable pub ln_bits : ℕ → ℕ → Float
ln_bits b shift = ln_sum (sub binary64 (from_bits binary64 (m_bits b)) one_f) (of_int binary64 (minus (k_biased b) (1023 + shift)))

-- of positive finite v: scale a subnormal by 2⁵⁴
unfoldable pub ln_positive : Float → Float
ln_positive v =
    cond (nat_lt (to_bits binary64 v) (2 ^ 52))
    (ln_bits (to_bits binary64 (mul binary64 v (from_bits binary64 0x4350000000000000))) 54)
    (ln_bits (to_bits binary64 v) 0)

-- ln of positive finite v; +infinity gives itself. Outside document 01's words, as polyfit's: of zeros −infinity, of a NaN and below zero a NaN
unfoldable pub ln_f : Float → Float
ln_f nan = nan
ln_f (inf s) = cond s nan (inf false)
ln_f (fin s zero e) = inf true
ln_f (fin true (suc m) e) = nan
ln_f (fin false (suc m) e) = ln_positive (fin false (suc m) e)
