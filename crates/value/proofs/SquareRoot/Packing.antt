-- From whole numbers to doubles: q * 2 ^ k smallest values, q of 53 digits, have the bits k * 2 ^ 52 + q. So a root is packed by one sum.
use Rattle.std.proofs.Common.{◌≡◌, ℕ, suc, ◌+◌, ◌-◌, ◌*◌, ◌/◌, ◌^◌, ◌<◌, ◌≤◌, Bool, true, false, cond, T, ltb, ◌⊎◌, ℤ, sym, refl, ap, ◌∙◌, subst, inl, inr, true≢false, le_trans, le_of_eq, le_refl, lt_of_lt_of_le, lt_of_le_of_lt, mul-le-mul_right, mul_assoc, mul-le-mul, le_antisymm, eq-or-lt_of_le, mul-lt-mul_of_pos_right, mul-pos, pow-suc, lt_of_not-le, zero-add, not-le_of_lt, mul-div_cancel, arith, lit<, lit≤, pow_pos, pow_mono, pow-add, shl_lt, lt-ltb}
use native.Mathlib.Nat.{le-suc}
use lib.Pow.{pow-lt}
use lib.Ieee.{Float, nan, inf, fin, binary64, up, down, size, odd, units, fits, to_bits, of_bits}
use lib.Ieee.Digits.{size-lt, size-le}
use lib.Ieee.Fits.{odd-fits}
use lib.Ieee.Exact.{HasValue, units_val}
use lib.Ieee.Bits.{of_bits-to_bits}
use Rattle.value.specs.Root.{isqrt, closest_root, root_of}
use Rattle.value.proofs.SquareRoot.Numbers.{IsRoot, isqrt_is, root_le, half, closest_root_at}
use Rattle.value.proofs.SquareRoot.Reading.{ulps_of_value}

-- ---- how many digits
pub size_at : (n j : ℕ) → 2 ^ j ≤ n → n < 2 ^ suc j → size n ≡ suc j
size_at n j a b = le_antisymm (size-le n (suc j) b) (lt_of_not-le (λ (g : size n ≤ j). not-le_of_lt (lt_of_lt_of_le (size-lt n) (pow_mono g)) a))

-- ---- the bits of a value that is n smallest values
abbrev pub written : ℕ → ℕ → ℕ
written n z = (z - 53) * 2 ^ 52 + n / 2 ^ (z - 53)

to_bits_is : (m : ℕ) (e : ℤ) (n : ℕ) → m * up e * 2 ^ 1074 / down e ≡ n → to_bits binary64 (fin false m e) ≡ 0 + (size n - 53) * 2 ^ 52 + n / 2 ^ (size n - 53)
unfolding to_bits
to_bits_is m e n p = ap (λ (x : ℕ). 0 + (size x - 53) * 2 ^ 52 + x / 2 ^ (size x - 53)) p

pub bits_of_value : (v : Float) (n : ℕ) → HasValue v false n (2 ^ 1074) → to_bits binary64 v ≡ written n (size n)
bits_of_value nan n h = absurd h
bits_of_value (inf s) n h = absurd h
bits_of_value (fin true m e) n h = absurd (true≢false h.0)
bits_of_value (fin false m e) n h =
    to_bits_is m e n (ulps_of_value (fin false m e) n h)
    ∙ ap (λ (x : ℕ). x + n / 2 ^ (size n - 53)) (zero-add ((size n - 53) * 2 ^ 52))

-- ---- q * 2 ^ k smallest values
pub below_all : (q k : ℕ) → q ≤ 2 ^ 53 → k ≤ 2000 → q * 2 ^ k < 2 ^ 2098
below_all q k a b = lt_of_le_of_lt (mul-le-mul_right (2 ^ k) a) (lt_of_le_of_lt (le_of_eq (sym (pow-add 2 53 k))) (pow-lt (room k b)))
  where
    room : (k : ℕ) → k ≤ 2000 → 53 + k < 2098
    room k b = omega arith

pub units_fit : (q k : ℕ) → q ≤ 2 ^ 53 → k ≤ 2000 → T (fits binary64 (units binary64 false q k))
unfolding units
units_fit q k a b =
    subst (λ (t : Bool). T (fits binary64 (cond t (odd 54 false q k 1074) (inf false)))) (sym (lt-ltb (q * 2 ^ k) (2 ^ 2098) (below_all q k a b)))
    (odd-fits binary64 54 false q k (lt_of_le_of_lt a (lit< tt)) a (below_all q k a b))

written_low : (q k : ℕ) → 2 ^ 52 ≤ q → q < 2 ^ 53 → written (q * 2 ^ k) (size (q * 2 ^ k)) ≡ k * 2 ^ 52 + q
written_low q k a b =
    let z : size (q * 2 ^ k) ≡ suc (52 + k) = size_at (q * 2 ^ k) (52 + k) (le_trans (le_of_eq (pow-add 2 52 k)) (mul-le-mul_right (2 ^ k) a)) (subst (λ (x : ℕ). q * 2 ^ k < 2 ^ x) (one_more k) (shl_lt 53 k b)) in
    let y : size (q * 2 ^ k) - 53 ≡ k = ap (λ (x : ℕ). x - 53) z ∙ less k in
    ap (λ (x : ℕ). x * 2 ^ 52 + q * 2 ^ k / 2 ^ x) y ∙ ap (λ (x : ℕ). k * 2 ^ 52 + x) (mul-div_cancel q (pow_pos k))
  where
    one_more : (k : ℕ) → 53 + k ≡ suc (52 + k)
    one_more k = omega arith

    less : (k : ℕ) → suc (52 + k) - 53 ≡ k
    less k = omega arith

written_top : (k : ℕ) → written (2 ^ 53 * 2 ^ k) (size (2 ^ 53 * 2 ^ k)) ≡ k * 2 ^ 52 + 2 ^ 53
written_top k =
    let e : 2 ^ 53 * 2 ^ k ≡ 2 ^ 52 * 2 ^ suc k = twice (2 ^ k) ∙ ap (λ (x : ℕ). 2 ^ 52 * x) (sym (pow-suc 2 k)) in
    ap (λ (x : ℕ). written x (size x)) e ∙ written_low (2 ^ 52) (suc k) (lit≤ tt) (lit< tt) ∙ carry k
  where
    twice : (p : ℕ) → 2 ^ 53 * p ≡ 2 ^ 52 * (p * 2)
    twice p = omega arith

    carry : (k : ℕ) → suc k * 2 ^ 52 + 2 ^ 52 ≡ k * 2 ^ 52 + 2 ^ 53
    carry k = omega arith

pub units_bits : (q k : ℕ) → 2 ^ 52 ≤ q → q ≤ 2 ^ 53 → k ≤ 2000 → of_bits binary64 (k * 2 ^ 52 + q) ≡ units binary64 false q k
units_bits q k a b h =
    let v = units binary64 false q k in
    let w : to_bits binary64 v ≡ k * 2 ^ 52 + q = bits_of_value v (q * 2 ^ k) (units_val binary64 false q k (below_all q k b h)) ∙ go (eq-or-lt_of_le b) in
    ap (λ (x : ℕ). of_bits binary64 x) (sym w) ∙ of_bits-to_bits binary64 v (units_fit q k b h)
  where
    go : (q ≡ 2 ^ 53) ⊎ (q < 2 ^ 53) → written (q * 2 ^ k) (size (q * 2 ^ k)) ≡ k * 2 ^ 52 + q
    go (inl e) = subst (λ (x : ℕ). written (x * 2 ^ k) (size (x * 2 ^ k)) ≡ k * 2 ^ 52 + x) (sym e) (written_top k)
    go (inr l) = written_low q k a l

-- ---- the root of a number of 105 or 106 digits has 53
pick_ge : (b : Bool) (q : ℕ) → q ≤ cond b (suc q) q
pick_ge true q = le-suc q
pick_ge false q = le_refl q

pick_le : (b : Bool) (q : ℕ) → cond b (suc q) q ≤ suc q
pick_le true q = le_refl (suc q)
pick_le false q = le-suc q

pub closest_low : (n : ℕ) → n < 2 ^ 106 → 2 ^ 104 ≤ n → 2 ^ 52 ≤ closest_root n
closest_low n h l =
    let q = isqrt 53 n in
    let r : IsRoot n q = isqrt_is 53 n h in
    le_trans (root_le n (2 ^ 52) q l r.high) (subst (λ (x : ℕ). q ≤ x) (sym (closest_root_at n q refl)) (pick_ge (ltb (half q) (4 * n)) q))

pub closest_high : (n : ℕ) → n < 2 ^ 106 → closest_root n ≤ 2 ^ 53
closest_high n h =
    let q = isqrt 53 n in
    let r : IsRoot n q = isqrt_is 53 n h in
    let l : q < 2 ^ 53 = lt_of_not-le (λ (g : 2 ^ 53 ≤ q). not-le_of_lt h (le_trans (mul-le-mul g g) r.low)) in
    le_trans (subst (λ (x : ℕ). x ≤ suc q) (sym (closest_root_at n q refl)) (pick_le (ltb (half q) (4 * n)) q)) l

-- ---- `root_of`, at n = m * 4 ^ k
abbrev rooted : ℕ → ℕ → Float
rooted n k = units binary64 false (closest_root (n / (2 ^ k * 2 ^ k))) k

root_of_def : (n : ℕ) → root_of n ≡ rooted n ((size n + 1) / 2 - 53)
unfolding root_of
root_of_def n = refl

pub root_of_is : (m k : ℕ) → 2 ^ 104 ≤ m → m < 2 ^ 106 → root_of (m * (2 ^ k * 2 ^ k)) ≡ units binary64 false (closest_root m) k
root_of_is m k a b =
    let p = 2 ^ k * 2 ^ k in
    let n = m * p in
    let lo : 2 ^ (104 + (k + k)) ≤ n = le_trans (le_of_eq (four 104 k)) (mul-le-mul_right p a) in
    let hi : n < 2 ^ (106 + (k + k)) = lt_of_lt_of_le (mul-lt-mul_of_pos_right b (mul-pos (pow_pos k) (pow_pos k))) (le_of_eq (sym (four 106 k))) in
    let z : (size n + 1) / 2 - 53 ≡ k = halves (size n) k (size-le n (106 + (k + k)) hi) (lt_of_not-le (λ (g : size n ≤ 104 + (k + k)). not-le_of_lt (lt_of_lt_of_le (size-lt n) (pow_mono g)) lo)) in
    root_of_def n
    ∙ ap (λ (x : ℕ). rooted n x) z
    ∙ ap (λ (x : ℕ). units binary64 false (closest_root x) k) (mul-div_cancel m (mul-pos (pow_pos k) (pow_pos k)))
  where
    four : (j k : ℕ) → 2 ^ (j + (k + k)) ≡ 2 ^ j * (2 ^ k * 2 ^ k)
    four j k = pow-add 2 j (k + k) ∙ ap (λ (x : ℕ). 2 ^ j * x) (pow-add 2 k k)

    halves : (z k : ℕ) → z ≤ 106 + (k + k) → 104 + (k + k) < z → (z + 1) / 2 - 53 ≡ k
    halves z k a b = omega arith

-- the code's sum is the root's pattern
pub root_bits : (m k : ℕ) → 2 ^ 104 ≤ m → m < 2 ^ 106 → k ≤ 2000 → of_bits binary64 (k * 2 ^ 52 + closest_root m) ≡ root_of (m * (2 ^ k * 2 ^ k))
root_bits m k a b h = units_bits (closest_root m) k (closest_low m b a) (closest_high m b) h ∙ sym (root_of_is m k a b)

-- c * 2 ^ j as m * 4 ^ k
pub even_shift : (c j k : ℕ) → j ≡ 52 + (k + k) → c * 2 ^ j ≡ c * 2 ^ 52 * (2 ^ k * 2 ^ k)
even_shift c j k e = ap (λ (x : ℕ). c * 2 ^ x) e ∙ ap (λ (x : ℕ). c * x) (pow-add 2 52 (k + k) ∙ ap (λ (x : ℕ). 2 ^ 52 * x) (pow-add 2 k k)) ∙ sym (mul_assoc c (2 ^ 52) (2 ^ k * 2 ^ k))

pub odd_shift : (c j k : ℕ) → j ≡ 53 + (k + k) → c * 2 ^ j ≡ c * 2 * 2 ^ 52 * (2 ^ k * 2 ^ k)
odd_shift c j k e =
    ap (λ (x : ℕ). c * 2 ^ x) e ∙ ap (λ (x : ℕ). c * x) (pow-add 2 53 (k + k) ∙ ap (λ (x : ℕ). 2 ^ 53 * x) (pow-add 2 k k)) ∙ sym (mul_assoc c (2 ^ 53) (2 ^ k * 2 ^ k))
    ∙ ap (λ (x : ℕ). x * (2 ^ k * 2 ^ k)) (sym (mul_assoc c 2 (2 ^ 52)))

pub even_root : (c j k : ℕ) → 2 ^ 52 ≤ c → c < 2 ^ 53 → k ≤ 2000 → j ≡ 52 + (k + k) → of_bits binary64 (k * 2 ^ 52 + closest_root (c * 2 ^ 52)) ≡ root_of (c * 2 ^ j)
even_root c j k a b h e = root_bits (c * 2 ^ 52) k (omega arith) (omega arith) h ∙ ap root_of (sym (even_shift c j k e))

pub odd_root : (c j k : ℕ) → 2 ^ 52 ≤ c → c < 2 ^ 53 → k ≤ 2000 → j ≡ 53 + (k + k) → of_bits binary64 (k * 2 ^ 52 + closest_root (c * 2 * 2 ^ 52)) ≡ root_of (c * 2 ^ j)
odd_root c j k a b h e = root_bits (c * 2 * 2 ^ 52) k (omega arith) (omega arith) h ∙ ap root_of (sym (odd_shift c j k e))
