-- The bits of doubles with no sign are in the order of the doubles: `le x y` is `to_bits x ≤ to_bits y`.
use Rattle.std.specs.Prelude.{◌≡◌, ℕ, zero, suc, ◌+◌, ◌-◌, ◌*◌, ◌/◌, ◌^◌, ◌<◌, ◌≤◌, Bool, true, false, not, ◌&&◌, ◌||◌, T, ℤ, ◌==◌, from_bits, nat_le, nat_lt, refl, Float}
use Rattle.std.proofs.Common.{sym, ap, subst, subst₂, ◌∙◌, le_refl, le_trans, le_of_eq, le_antisymm, le_of_lt, lt_of_le_of_lt, lt_of_lt_of_le, zero-add, zero-mul, mul_right_comm, mul-le-mul_right, le-div_iff_mul-le, div-lt_iff_lt-mul, mul-lt-mul_of_pos_right, mul-pos, arith, leb→le, le→leb, ltb→lt, lt→ltb, eqb→eq, lit<, T_not, pow-add, pow_pos}
use Rattle.std.proofs.Math.Dec.{eqb_refl}
use Rattle.std.specs.Float.{nan, inf, fin, binary64}
use Rattle.std.specs.Float.Ieee.{le, fits, up, down, size, to_bits}
use Rattle.std.specs.Float.Ieee.Digits.{size-lt, size_reaches, size-le}
use Rattle.std.specs.Float.Ieee.Fits.{kept-lt, down_pos, and_l}
use Rattle.std.specs.Float.Ieee.Nearest.{div_mono}
use Rattle.std.specs.Float.Ieee.Bits.{of_bits-to_bits}
use Rattle.loops.specs.Cases.{either}
use Rattle.value.specs.Numbers.{plain}
use Rattle.value.specs.GridLaws.{says}

-- the bits of a magnitude of n of the smallest values
abbrev dropped : ℕ → ℕ
dropped n = size n - 53

code : ℕ → ℕ
code n = dropped n * 4503599627370496 + n / 2 ^ dropped n

units : ℕ → ℤ → ℕ
units m e = m * up e * 2 ^ 1074 / down e

to_bits_fin : (m : ℕ) (e : ℤ) → to_bits binary64 (fin false m e) ≡ code (units m e)
unfolding to_bits code units
to_bits_fin m e = ap (λ (z : ℕ). z + units m e / 2 ^ dropped (units m e)) (zero-add (dropped (units m e) * 4503599627370496))

size_mono : (n k : ℕ) → n ≤ k → size n ≤ size k
size_mono n k h = size-le n (size k) (lt_of_le_of_lt h (size-lt k))

-- what is kept has all 53 digits where some are dropped
kept_ge : (n : ℕ) → 0 < dropped n → 4503599627370496 ≤ n / 2 ^ dropped n
kept_ge n h =
    (le-div_iff_mul-le (pow_pos (dropped n))).1
    (le_trans (le_of_eq (sym (pow-add 2 52 (dropped n)))) (size_reaches n (52 + dropped n) (omega arith)))

code_mono : (n k : ℕ) → n ≤ k → code n ≤ code k
unfolding code
code_mono n k h =
    let s = size_mono n k h in
    either (dropped k) (dropped n)
    (λ g.
    let e : dropped n ≡ dropped k = omega arith in
    let q : n / 2 ^ dropped n ≤ k / 2 ^ dropped k =
    div_mono n (2 ^ dropped n) k (2 ^ dropped k) (pow_pos (dropped n)) (pow_pos (dropped k))
    (subst (λ (z : ℕ). n * 2 ^ dropped k ≤ k * 2 ^ z) (sym e) (mul-le-mul_right (2 ^ dropped k) h)) in
    subst (λ (z : ℕ). z * 4503599627370496 + n / 2 ^ dropped n ≤ dropped k * 4503599627370496 + k / 2 ^ dropped k) (sym e) (omega arith))
    (λ g.
    let a = kept-lt 53 n in
    let b = kept_ge k (omega arith) in
    omega arith)

-- ---- the order of two doubles with no sign, as one of whole numbers

or_in : (a b : Bool) → T b → T (a || b)
or_in true b t = tt
or_in false b t = t

or_first : (a b : Bool) → T a → T (a || b)
or_first true b t = tt
or_first false b t = absurd t

and_true : (a : Bool) → T a → T (a && true)
and_true true t = tt
and_true false t = t

le_cross : (m n : ℕ) (e d : ℤ) → T (le (fin false m e) (fin false n d)) → m * up e * down d ≤ n * up d * down e
unfolding le
le_cross m n e d t = go (nat_lt (m * up e * down d) (n * up d * down e)) refl t
  where
    A : ℕ
    A = m * up e * down d

    B : ℕ
    B = n * up d * down e

    go : (b : Bool) → nat_lt A B ≡ b → T (b || (A == B && true)) → A ≤ B
    go true p u = le_of_lt (ltb→lt A B (subst T (sym p) tt))
    go false p u = le_of_eq (eqb→eq A B (and_l (A == B) true u))

cross_le : (m n : ℕ) (e d : ℤ) → m * up e * down d ≤ n * up d * down e → T (le (fin false m e) (fin false n d))
unfolding le
cross_le m n e d h =
    either (n * up d * down e) (m * up e * down d)
    (λ g. or_in (nat_lt (m * up e * down d) (n * up d * down e)) (m * up e * down d == n * up d * down e && true)
    (and_true (m * up e * down d == n * up d * down e) (subst (λ (z : ℕ). T (m * up e * down d == z)) (le_antisymm h g) (eqb_refl (m * up e * down d)))))
    (λ g. or_first (nat_lt (m * up e * down d) (n * up d * down e)) (m * up e * down d == n * up d * down e && true) (lt→ltb (m * up e * down d) (n * up d * down e) g))

units_mono : (m n : ℕ) (e d : ℤ) → m * up e * down d ≤ n * up d * down e → units m e ≤ units n d
unfolding units
units_mono m n e d h =
    div_mono (m * up e * 2 ^ 1074) (down e) (n * up d * 2 ^ 1074) (down d) (down_pos e) (down_pos d)
    (le_trans (le_of_eq (mul_right_comm (m * up e) (2 ^ 1074) (down d)))
    (le_trans (mul-le-mul_right (2 ^ 1074) h) (le_of_eq (mul_right_comm (n * up d) (down e) (2 ^ 1074)))))

-- a finite double's bits are below an infinity's
units_lt : (m : ℕ) (e : ℤ) → T (fits binary64 (fin false m e)) → units m e < 2 ^ 2098
unfolding units fits
units_lt zero e t =
    (div-lt_iff_lt-mul (down_pos e)).1
    (lt_of_le_of_lt (le_of_eq (ap (λ (z : ℕ). z * 2 ^ 1074) (zero-mul (up e)) ∙ zero-mul (2 ^ 1074))) (mul-pos {m = 2 ^ 2098} (lit< tt) (down_pos e)))
units_lt (suc m) e t =
    (div-lt_iff_lt-mul (down_pos e)).1
    (lt_of_lt_of_le
    (mul-lt-mul_of_pos_right (says m false e t).2 (pow_pos 1074))
    (le_of_eq (mul_right_comm (2 ^ 1024) (down e) (2 ^ 1074))))

code_lt : (n : ℕ) → n < 2 ^ 2098 → code n ≤ 2047 * 4503599627370496
unfolding code
code_lt n h =
    let s = size-le n 2098 h in
    let k = kept-lt 53 n in
    omega arith

pub plain_fits : (x : Float) → T (plain x) → T (fits binary64 x)
unfolding fits
plain_fits nan t = tt
plain_fits (inf s) t = tt
plain_fits (fin true m e) t = absurd t
plain_fits (fin false m e) t = t

finite_below : (m : ℕ) (e : ℤ) → T (fits binary64 (fin false m e)) → to_bits binary64 (fin false m e) ≤ 2047 * 4503599627370496
finite_below m e t = subst (λ (z : ℕ). z ≤ 2047 * 4503599627370496) (sym (to_bits_fin m e)) (code_lt (units m e) (units_lt m e t))

finite_mono : (m n : ℕ) (e d : ℤ) → T (le (fin false m e) (fin false n d)) → to_bits binary64 (fin false m e) ≤ to_bits binary64 (fin false n d)
finite_mono m n e d t =
    subst₂ (λ (a b : ℕ). a ≤ b) (sym (to_bits_fin m e)) (sym (to_bits_fin n d)) (code_mono (units m e) (units n d) (units_mono m n e d (le_cross m n e d t)))

finite_inf : (s : Bool) (n : ℕ) (d : ℤ) → T (plain (fin s n d)) → T (le (fin s n d) (inf false))
unfolding le
finite_inf true n d q = absurd q
finite_inf false n d q = tt

finite_total : (m n : ℕ) (e d : ℤ) → T (not (le (fin false m e) (fin false n d))) → T (le (fin false n d) (fin false m e))
finite_total m n e d t =
    either (n * up d * down e) (m * up e * down d) (λ h. cross_le n m d e h)
    (λ h. absurd (T_not (le (fin false m e) (fin false n d)) t (cross_le m n e d (le_of_lt h))))

bits_mono : (x y : Float) → T (plain x) → T (plain y) → T (le x y) → to_bits binary64 x ≤ to_bits binary64 y
unfolding le to_bits
bits_mono nan y p q t = absurd p
bits_mono (inf true) y p q t = absurd p
bits_mono (inf false) nan p q t = absurd q
bits_mono (inf false) (inf true) p q t = absurd q
bits_mono (inf false) (inf false) p q t = le_refl (to_bits binary64 (inf false))
bits_mono (inf false) (fin s n d) p q t = absurd t
bits_mono (fin true m e) y p q t = absurd p
bits_mono (fin false m e) nan p q t = absurd q
bits_mono (fin false m e) (inf true) p q t = absurd q
bits_mono (fin false m e) (inf false) p q t = finite_below m e p
bits_mono (fin false m e) (fin true n d) p q t = absurd q
bits_mono (fin false m e) (fin false n d) p q t = finite_mono m n e d t

bits_total : (x y : Float) → T (plain x) → T (plain y) → T (not (le x y)) → T (le y x)
unfolding le
bits_total nan y p q t = absurd p
bits_total (inf true) y p q t = absurd p
bits_total (inf false) nan p q t = absurd q
bits_total (inf false) (inf true) p q t = absurd q
bits_total (inf false) (inf false) p q t = tt
bits_total (inf false) (fin s n d) p q t = finite_inf s n d q
bits_total (fin true m e) y p q t = absurd p
bits_total (fin false m e) nan p q t = absurd q
bits_total (fin false m e) (inf true) p q t = absurd q
bits_total (fin false m e) (inf false) p q t = absurd t
bits_total (fin false m e) (fin true n d) p q t = absurd q
bits_total (fin false m e) (fin false n d) p q t = finite_total m n e d t

-- ---- what `Select` asks

pub key_one : (x y : Float) → T (plain x) → T (plain y) → to_bits binary64 x ≡ to_bits binary64 y → x ≡ y
key_one x y p q e =
    sym (of_bits-to_bits binary64 x (plain_fits x p)) ∙ ap (from_bits binary64) e ∙ of_bits-to_bits binary64 y (plain_fits y q)

same : (a b : Bool) → (T a → T b) → (T b → T a) → a ≡ b
same true true f g = refl
same true false f g = absurd (f tt)
same false true f g = absurd (g tt)
same false false f g = refl

le_itself : (x y : Float) → T (plain x) → T (plain y) → (b : Bool) → le x y ≡ b → to_bits binary64 x ≤ to_bits binary64 y → T b
le_itself x y p q true e h = tt
le_itself x y p q false e h =
    let back = bits_total x y p q (subst (λ (t : Bool). T (not t)) (sym e) tt) in
    let one = key_one x y p q (le_antisymm h (bits_mono y x q p back)) in
    -- le y x holds, and y is x
    subst T e (subst (λ (z : Float). T (le x z)) one (subst (λ (z : Float). T (le z x)) (sym one) back))

pub le_key : (x y : Float) → T (plain x) → T (plain y) → le x y ≡ nat_le (to_bits binary64 x) (to_bits binary64 y)
le_key x y p q =
    same (le x y) (nat_le (to_bits binary64 x) (to_bits binary64 y))
    (λ t. le→leb (to_bits binary64 x) (to_bits binary64 y) (bits_mono x y p q t))
    (λ t. le_itself x y p q (le x y) refl (leb→le (to_bits binary64 x) (to_bits binary64 y) t))

pub bits_le : (x : Float) → T (plain x) → to_bits binary64 x ≤ 9218868437227405312
unfolding to_bits
bits_le nan t = absurd t
bits_le (inf true) t = absurd t
bits_le (inf false) t = le_refl 9218868437227405312
bits_le (fin true m e) t = absurd t
bits_le (fin false m e) t = finite_below m e t
