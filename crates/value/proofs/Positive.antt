-- What the tests of `ln` and `sqrt` tell of a double, and which results are plain: no NaN and no sign.
use Rattle.std.proofs.Common.{◌≡◌, ℕ, zero, suc, ◌+◌, ◌-◌, ◌*◌, ◌^◌, ◌<◌, ◌≤◌, Bool, true, false, cond, not, ◌||◌, T, ltb, leb, ℤ, pos, negsuc, sym, refl, ap, ◌∙◌, subst, true≢false, zero-lt-suc, mul_assoc, mul_comm, add-mul, mul-pos, mul-one, arith, lt→ltb, ltb-false, ltb-true, le-ltb, lt-ltb, eq-eqb, ne_eqb, leb-false, leb-true}
use mathlib.Core.Bool.{beq, false≢true}
use lib.Ieee.{Float, nan, inf, fin, Format, binary64, round, units, odd, minus, sum, add, sub, mul, neg, lt, eq, of_int, fits, is_nan, low, prec, emax, up, down}
use lib.Ieee.Back.{round_whole}
use lib.Ieee.Exact.{HasValue}
use lib.Ieee.Fits.{round-fits, round_is, down_pos, up_pos}
use lib.Ieee.Positive.{positive}
use lib.Ieee.Scale.{round_same}
use Rattle.value.specs.Logarithm.{ln_f, ln_positive}
use Rattle.value.specs.Root.{root_f}
use Rattle.value.specs.Numbers.{num, plain}

-- ---- what is equal to zero

zero_meets : (s : Bool) (e : ℤ) → eq (fin s zero e) (fin false 0 (pos 0)) ≡ true
unfolding eq
zero_meets s e = rw (eq-eqb (0 * up e * 1) (0 * 1 * down e) (omega arith), eq-eqb (0 * up e * 1) 0 (omega arith)) (either s)
  where
    either : (s : Bool) → beq s false || true ≡ true
    either true = refl
    either false = refl

some_misses : (s : Bool) (m : ℕ) (e : ℤ) → eq (fin s (suc m) e) (fin false 0 (pos 0)) ≡ false
unfolding eq
some_misses s m e = let p = mul-pos {m = suc m} {n = up e} (zero-lt-suc m) (up_pos e) in rw (ne_eqb (suc m * up e * 1) (0 * 1 * down e) (λ h. omega arith))

-- ---- by the tests of `ln` and `sqrt`

-- a finite double above zero
pub above : (x : Float) → lt (fin false 0 (pos 0)) x ≡ true → lt x (inf false) ≡ true → T (positive x)
unfolding lt
above nan p q = absurd (false≢true p)
above (inf true) p q = absurd (false≢true p)
above (inf false) p q = absurd (false≢true q)
above (fin true m e) p q = absurd (false≢true p)
above (fin false zero e) p q = absurd (omega (arith, ltb-true _ _ p))
above (fin false (suc m) e) p q = lt→ltb 0 (suc m) (zero-lt-suc m)

-- +infinity
pub top : (x : Float) → lt (fin false 0 (pos 0)) x ≡ true → lt x (inf false) ≡ false → x ≡ inf false
unfolding lt
top nan p q = absurd (false≢true p)
top (inf true) p q = absurd (false≢true p)
top (inf false) p q = refl
top (fin true m e) p q = absurd (false≢true p)
top (fin false m e) p q = absurd (true≢false q)

-- `ln` of a zero
pub none : (x : Float) → eq x (fin false 0 (pos 0)) ≡ true → inf true ≡ ln_f x
unfolding eq ln_f
none nan q = absurd (false≢true q)
none (inf s) q = absurd (false≢true q)
none (fin s zero e) q = refl
none (fin s (suc m) e) q = absurd (false≢true (sym (some_misses s m e) ∙ q))

-- `ln` of a NaN, and below zero
pub below : (x : Float) → lt (fin false 0 (pos 0)) x ≡ false → eq x (fin false 0 (pos 0)) ≡ false → nan ≡ ln_f x
unfolding lt eq ln_f
below nan p q = refl
below (inf true) p q = refl
below (inf false) p q = absurd (true≢false p)
below (fin true (suc m) e) p q = refl
below (fin s zero e) p q = absurd (true≢false (sym (zero_meets s e) ∙ q))
below (fin false (suc m) e) p q = absurd (omega (arith, ltb-false _ _ p, mul-pos {m = suc m} {n = up e} (zero-lt-suc m) (up_pos e)))

-- `sqrt` of a zero or a NaN
pub stands : (x : Float) → eq x (fin false 0 (pos 0)) || is_nan x ≡ true → x ≡ root_f x
unfolding eq is_nan root_f
stands nan q = refl
stands (inf s) q = absurd (false≢true q)
stands (fin s zero e) q = refl
stands (fin s (suc m) e) q = absurd (false≢true (rw (some_misses s m e) at q))

-- `sqrt` below zero
pub beneath : (x : Float) → lt (fin false 0 (pos 0)) x ≡ false → eq x (fin false 0 (pos 0)) || is_nan x ≡ false → nan ≡ root_f x
unfolding lt eq is_nan root_f
beneath nan p q = refl
beneath (inf true) p q = refl
beneath (inf false) p q = absurd (true≢false p)
beneath (fin true (suc m) e) p q = refl
beneath (fin s zero e) p q = absurd (true≢false (rw (zero_meets s e) at q))
beneath (fin false (suc m) e) p q = absurd (omega (arith, ltb-false _ _ p, mul-pos {m = suc m} {n = up e} (zero-lt-suc m) (up_pos e)))

pub positive_ln : (x : Float) → T (positive x) → ln_positive x ≡ ln_f x
unfolding ln_f
positive_ln nan p = absurd p
positive_ln (inf s) p = absurd p
positive_ln (fin true m e) p = absurd p
positive_ln (fin false zero e) p = absurd p
positive_ln (fin false (suc m) e) p = refl

-- ---- plain doubles

pub positive_plain : (x : Float) → T (fits binary64 x) → T (positive x) → T (plain x)
positive_plain nan f p = absurd p
positive_plain (inf s) f p = absurd p
positive_plain (fin true m e) f p = absurd p
positive_plain (fin false m e) f p = f

pub plain_some : (x : Float) → T (plain x) → T (not (is_nan x))
unfolding is_nan
plain_some nan p = absurd p
plain_some (inf s) p = tt
plain_some (fin s m e) p = tt

abbrev unsigned : Float → Bool
unsigned nan = false
unsigned (inf s) = not s
unsigned (fin s m e) = not s

plain_of : (x : Float) → T (unsigned x) → T (fits binary64 x) → T (plain x)
plain_of nan u f = absurd u
plain_of (inf s) u f = u
plain_of (fin true m e) u f = absurd u
plain_of (fin false m e) u f = f

odd_unsigned : (d q k l : ℕ) → T (unsigned (odd d false q k l))
unfolding odd
odd_unsigned d zero k l = tt
odd_unsigned d (suc q) k l = tt

cond_unsigned : (b : Bool) (x y : Float) → T (unsigned x) → T (unsigned y) → T (unsigned (cond b x y))
cond_unsigned true x y p q = p
cond_unsigned false x y p q = q

units_unsigned : (f : Format) (q k : ℕ) → T (unsigned (units f false q k))
unfolding units
units_unsigned f q k =
    cond_unsigned (ltb (q * 2 ^ k) (2 ^ (low f + suc (emax f)))) (odd (suc (prec f)) false q k (low f)) (inf false) (odd_unsigned (suc (prec f)) q k (low f)) tt

pub round_plain : (a b : ℕ) → T (plain (round binary64 false a b))
round_plain a b =
    plain_of (round binary64 false a b)
    (subst (λ (x : Float). T (unsigned x)) (sym (round_is binary64 false a b)) (units_unsigned binary64 _ _))
    (round-fits binary64 false a b)

-- a finite double above zero, times 2 ^ 54
pub scaled_plain : (v : Float) → T (positive v) → T (plain (mul binary64 v (fin false 1 (pos 54))))
unfolding mul
scaled_plain nan p = absurd p
scaled_plain (inf s) p = absurd p
scaled_plain (fin true m e) p = absurd p
scaled_plain (fin false m e) p = round_plain (m * up e * (1 * 2 ^ 54)) (down e * 1)

-- ---- the difference of two whole numbers

-- a/1 − b/1, written over a common denominator c
whole_sum : (a b c A B : ℕ) → 0 < c → A ≡ a * c → B ≡ b * c → sum binary64 false A true B c ≡ of_int binary64 (minus a b)
unfolding sum of_int
whole_sum a b c A B h p q = go (leb b a) refl
  where
    parted : (x y : ℕ) → y ≤ x → x * c ≡ y * c + (x - y) * c
    parted x y l = let z : x ≡ y + (x - y) = omega arith in ap (λ (n : ℕ). n * c) z ∙ add-mul y (x - y) c

    go : (t : Bool) → leb b a ≡ t → cond (ltb A B) (round binary64 true (B - A) c) (round binary64 false (A - B) c) ≡ of_int binary64 (cond t (pos (a - b)) (negsuc (b - suc a)))
    go true r =
        let e = parted a b (leb-true b a r) in
        rw (le-ltb A B (omega arith)) (round_same binary64 false (A - B) c (a - b) 1 h (zero-lt-suc 0) (omega arith))
    go false r =
        let e = parted b a (omega (arith, leb-false b a r)) in
        let k : suc (b - suc a) ≡ b - a = omega (arith, leb-false b a r) in
        rw (lt-ltb A B (omega (arith, mul-pos {m = b - a} {n = c} (omega (arith, leb-false b a r)) h)), k) (round_same binary64 true (B - A) c (b - a) 1 h (zero-lt-suc 0) (omega arith))

whole_sub : (x y : Float) (a b : ℕ) → HasValue x false a 1 → HasValue y false b 1 → sub binary64 x y ≡ of_int binary64 (minus a b)
unfolding sub add neg
whole_sub nan y a b v w = absurd v
whole_sub (inf s) y a b v w = absurd v
whole_sub (fin true m e) y a b v w = absurd (true≢false v.0)
whole_sub (fin false m e) nan a b v w = absurd w
whole_sub (fin false m e) (inf s) a b v w = absurd w
whole_sub (fin false m e) (fin true n d) a b v w = absurd (true≢false w.0)
whole_sub (fin false m e) (fin false n d) a b v w =
    whole_sum a b (down e * down d) (m * up e * down d) (n * up d * down e) (mul-pos (down_pos e) (down_pos d))
    (ap (λ (x : ℕ). x * down d) (sym (mul-one (m * up e)) ∙ v.1) ∙ mul_assoc a (down e) (down d))
    (ap (λ (x : ℕ). x * down e) (sym (mul-one (n * up d)) ∙ w.1) ∙ mul_assoc b (down d) (down e) ∙ ap (λ (x : ℕ). b * x) (mul_comm (down d) (down e)))

pub num_sub : (a b : ℕ) → a ≤ 2 ^ 53 → b ≤ 2 ^ 53 → sub binary64 (num a) (num b) ≡ of_int binary64 (minus a b)
num_sub a b h k = whole_sub (num a) (num b) a b (unfold of_int in round_whole binary64 false a h) (unfold of_int in round_whole binary64 false b k)
