-- Deviations ||x| − d| of sizes: their bits, that those which are no NaN have no sign, that those from +0 are the sizes themselves; and the median by the
-- number's evenness.
use Rattle.std.proofs.Common.{◌≡◌, ℕ, zero, suc, ◌+◌, ◌-◌, ◌*◌, ◌/◌, ◌%◌, ◌^◌, ◌<◌, ◌≤◌, Bool, true, false, not, ◌&&◌, ◌||◌, T, ltb, leb, List, [], ◌∷◌, map, length, get_or, take, ℤ, sym, refl, ap, ◌∙◌, subst, ap₂, zero-le, add_assoc, zero-add, zero-mul, mul-one, arith, eqb→eq, le-ltb, eq-eqb, ne_eqb}
use mathlib.Core.Bool.{beq}
use native.Mathlib.Nat.{sub-zero}
use lib.ListN.{length-map}
use lib.Ieee.{Float, nan, inf, fin, binary64, round, units, odd, sum, add, sub, neg, le, to_bits, of_bits, fits, is_nan, nan_bits, low, prec, emax, up, down, size}
use lib.Ieee.Bits.{cond_no, nan_bits_is, of_bits-fits, of_bits-to_bits, to_bits-of_bits}
use lib.Ieee.Fits.{round_is, sub-fits}
use Rattle.std.proofs.lemmas.Float.{T_from_false}
use Rattle.loops.specs.All.{All}
use Rattle.loops.specs.AllLaws.{all_at}
use Rattle.loops.specs.Cases.{by_test, choose, never, or_false}
use Rattle.loops.specs.Fold.{fold, all_of}
use Rattle.loops.specs.FoldLaws.{fold_map_again, all_cons}
use Rattle.loops.specs.PlaceLaws.{map_at}
use Rattle.value.specs.Absolute.{abs_f}
use Rattle.value.specs.AbsoluteLaws.{flat}
use Rattle.value.specs.Exact.{round_itself}
use Rattle.value.specs.Finite.{finite}
use Rattle.value.specs.Keys.{bits_le, le_key, plain_fits}
use Rattle.value.specs.Nan.{bits_some as pattern-some}
use Rattle.value.specs.Numbers.{zero_f}
use Rattle.statistics.specs.Medians.{any_nan, insert, sort, midpoint, median_of, deviations}
use Rattle.statistics.specs.Counting.{Plain, distances}

-- ---- the bits of a size

sign_bits : (m : ℕ) (e : ℤ) → to_bits binary64 (fin true m e) ≡ 0x8000_0000_0000_0000 + to_bits binary64 (fin false m e)
unfolding to_bits
sign_bits m e =
    let n = m * up e * 2 ^ 1074 / down e in
    add_assoc 0x8000_0000_0000_0000 ((size n - 53) * 0x10_0000_0000_0000) (n / 2 ^ (size n - 53))
    ∙ ap (λ (z : ℕ). 0x8000_0000_0000_0000 + (z + n / 2 ^ (size n - 53))) (sym (zero-add ((size n - 53) * 0x10_0000_0000_0000)))

low_part : (a b : ℕ) → a ≡ 0x8000_0000_0000_0000 + b → b ≤ 0x7FF0_0000_0000_0000 → a % 0x8000_0000_0000_0000 ≡ b
low_part a b e h = omega arith

low_same : (b : ℕ) → b ≤ 0x7FF0_0000_0000_0000 → b % 0x8000_0000_0000_0000 ≡ b
low_same b h = omega arith

inf_sign : to_bits binary64 (inf true) ≡ 0xFFF0_0000_0000_0000
unfolding to_bits
inf_sign = refl

inf_bits : to_bits binary64 (inf true) % 0x8000_0000_0000_0000 ≡ to_bits binary64 (inf false)
unfolding to_bits
inf_bits = refl

pub abs_bits : (v : Float) → Plain (abs_f v) → to_bits binary64 v % 0x8000_0000_0000_0000 ≡ to_bits binary64 (abs_f v)
unfolding abs_f
abs_bits nan p = absurd p
abs_bits (inf true) p = inf_bits
abs_bits (inf false) p = low_same (to_bits binary64 (inf false)) (bits_le (inf false) p)
abs_bits (fin true m e) p = low_part (to_bits binary64 (fin true m e)) (to_bits binary64 (fin false m e)) (sign_bits m e) (bits_le (fin false m e) p)
abs_bits (fin false m e) p = low_same (to_bits binary64 (fin false m e)) (bits_le (fin false m e) p)

-- the size of a double that is no NaN has no sign
abs_plain : (x : Float) → T (fits binary64 x) → T (not (is_nan x)) → Plain (abs_f x)
unfolding abs_f is_nan fits
abs_plain nan p q = absurd q
abs_plain (inf s) p q = tt
abs_plain (fin s zero e) p q = p
abs_plain (fin s (suc m) e) p q = p

pub abs_some : (v : Float) → Plain (abs_f v) → T (not (is_nan v))
unfolding abs_f is_nan
abs_some nan p = absurd p
abs_some (inf s) p = tt
abs_some (fin s m e) p = tt

-- a deviation that is no NaN is one of a number that is none
pub sub_some : (x d : Float) → T (not (is_nan (sub binary64 (abs_f x) d))) → T (not (is_nan x))
unfolding sub add abs_f is_nan
sub_some nan d p = p
sub_some (inf s) d p = tt
sub_some (fin s m e) d p = tt

-- the bits at a place are no NaN's
pub bits_some : (b : ℕ) → b ≤ 0x7FF0_0000_0000_0000 → T (not (nan_bits binary64 b))
bits_some b h = pattern-some b (omega arith)

-- bits up to +infinity's are those of a double with no sign
plain_pattern : (v : Float) → T (fits binary64 v) → T (not (is_nan v)) → to_bits binary64 v ≤ 0x7FF0_0000_0000_0000 → Plain v
unfolding fits is_nan
plain_pattern nan f n h = absurd n
plain_pattern (inf true) f n h = absurd (omega (arith, inf_sign))
plain_pattern (inf false) f n h = tt
plain_pattern (fin true m e) f n h = absurd (omega (arith, sign_bits m e))
plain_pattern (fin false m e) f n h = f

pub bits_back : (b : ℕ) → b ≤ 0x7FF0_0000_0000_0000 → to_bits binary64 (of_bits binary64 b) ≡ b
bits_back b h = to_bits-of_bits binary64 b (omega arith) (subst (λ (t : Bool). T (not t)) (nan_bits_is binary64 b) (bits_some b h))

pub bits_plain : (b : ℕ) → b ≤ 0x7FF0_0000_0000_0000 → Plain (of_bits binary64 b)
bits_plain b h =
    plain_pattern (of_bits binary64 b) (of_bits-fits binary64 b) (subst (λ (t : Bool). T (not t)) (nan_bits_is binary64 b) (bits_some b h))
    (subst (λ (n : ℕ). n ≤ 0x7FF0_0000_0000_0000) (sym (bits_back b h)) h)

-- the order of such bits is that of the doubles
pub bits_order : (a b : ℕ) → a ≤ 0x7FF0_0000_0000_0000 → b ≤ 0x7FF0_0000_0000_0000 → le (of_bits binary64 a) (of_bits binary64 b) ≡ leb a b
bits_order a b h k = le_key (of_bits binary64 a) (of_bits binary64 b) (bits_plain a h) (bits_plain b k) ∙ ap₂ leb (bits_back a h) (bits_back b k)

-- the size of a double, by its bits
module _ (x : Float) (f : T (fits binary64 x)) (n : T (not (is_nan x))) where
  pub size_pattern : T (not (nan_bits binary64 (to_bits binary64 x % 0x8000_0000_0000_0000)))
  size_pattern = bits_some _ (subst (λ (b : ℕ). b ≤ 0x7FF0_0000_0000_0000) (sym (abs_bits x (abs_plain x f n))) (bits_le (abs_f x) (abs_plain x f n)))

  pub size_bits : of_bits binary64 (to_bits binary64 x % 0x8000_0000_0000_0000) ≡ abs_f x
  size_bits = ap (of_bits binary64) (abs_bits x (abs_plain x f n)) ∙ of_bits-to_bits binary64 (abs_f x) (plain_fits (abs_f x) (abs_plain x f n))

-- ---- the distances of a list

pub length_distances : (d : Float) (a : List Float) → length (distances d a) ≡ length a
unfolding distances
length_distances d a = length-map a (λ x. abs_f (sub binary64 (abs_f x) d))

pub plain_at : (d : Float) (a : List Float) (i : ℕ) → i < length a → All Plain (distances d a) → Plain (abs_f (sub binary64 (abs_f (get_or a i nan)) d))
unfolding distances
plain_at d a i h p =
    let f : Float → Float = λ x. abs_f (sub binary64 (abs_f x) d) in
    subst Plain (map_at f a i nan nan h) (all_at Plain (map f a) i nan p (rw (length-map a f) h))

-- they are the deviations of the sizes
pub distances_are : (d : Float) (l : List Float) → distances d l ≡ deviations d (map abs_f l)
unfolding distances deviations
distances_are d [] = refl
distances_are d (x ∷ xs) = ap (λ (r : List Float). abs_f (sub binary64 (abs_f x) d) ∷ r) (distances_are d xs)

-- ---- NaNs

same_nan : (x : Float) → is_nan (abs_f x) ≡ is_nan x
unfolding is_nan abs_f
same_nan nan = refl
same_nan (inf s) = refl
same_nan (fin s m e) = refl

-- one turn of the loop that looks for one
pub nan_turn : (d : Float) (a : List Float) (i : ℕ) → i < length a
    → (any_nan (distances d (take i a)) || is_nan (sub binary64 (abs_f (get_or a i nan)) d)) ≡ any_nan (distances d (take (i + 1) a))
unfolding distances any_nan
nan_turn d a i h =
    rw (← same_nan (sub binary64 (abs_f (get_or a i nan)) d)) (sym (fold_map_again (λ b x. b || is_nan x) false (λ x. abs_f (sub binary64 (abs_f x) d)) a nan i h))

-- where none is, all are no NaN
no_nan : (l : List Float) (b : Bool) → fold (λ c x. c || is_nan x) b l ≡ false → (b ≡ false) × All (λ x. is_nan x ≡ false) l
unfolding fold
no_nan [] b h = (h, tt)
no_nan (x ∷ xs) b h = let r = no_nan xs (b || is_nan x) h in let p = or_false b (is_nan x) r.0 in (p.0, (p.1, r.1))

pub distances_plain : (d : Float) (l : List Float) → any_nan (distances d l) ≡ false → All Plain (distances d l)
unfolding any_nan distances
distances_plain d l h = each l (no_nan (map (λ x. abs_f (sub binary64 (abs_f x) d)) l) false h).1
  where
    one : (v : Float) → T (fits binary64 v) → is_nan (abs_f v) ≡ false → Plain (abs_f v)
    one v f h = abs_plain v f (T_from_false (is_nan v) (sym (same_nan v) ∙ h))

    each : (m : List Float) → All (λ x. is_nan x ≡ false) (map (λ x. abs_f (sub binary64 (abs_f x) d)) m) → All Plain (map (λ x. abs_f (sub binary64 (abs_f x) d)) m)
    each [] a = tt
    each (x ∷ xs) a = (one (sub binary64 (abs_f x) d) (sub-fits binary64 (abs_f x) d) a.0, each xs a.1)

-- ---- a finite d makes none

odd_some : (d : ℕ) (s : Bool) (q k l : ℕ) → is_nan (odd d s q k l) ≡ false
unfolding odd is_nan
odd_some d s zero k l = refl
odd_some d s (suc q) k l = refl

inf_some : (s : Bool) → is_nan (inf s) ≡ false
unfolding is_nan
inf_some s = refl

units_some : (s : Bool) (q k : ℕ) → is_nan (units binary64 s q k) ≡ false
unfolding units
units_some s q k =
    choose (λ x. is_nan x ≡ false) (ltb (q * 2 ^ k) (2 ^ (low binary64 + suc (emax binary64)))) (odd (suc (prec binary64)) s q k (low binary64)) (inf s)
    (λ _. odd_some (suc (prec binary64)) s q k (low binary64)) (λ _. inf_some s)

round_some : (s : Bool) (a b : ℕ) → is_nan (round binary64 s a b) ≡ false
round_some s a b = ap is_nan (round_is binary64 s a b) ∙ units_some s _ _

sum_some : (s : Bool) (a : ℕ) (t : Bool) (b c : ℕ) → is_nan (sum binary64 s a t b c) ≡ false
unfolding sum
sum_some s a t b c =
    choose (λ x. is_nan x ≡ false) (beq s t) _ _ (λ _. round_some s (a + b) c)
    (λ _. choose (λ x. is_nan x ≡ false) (ltb a b) _ _ (λ _. round_some t (b - a) c) (λ _. round_some (s && ltb b a) (a - b) c))

less_finite : (x d : Float) → finite d ≡ true → is_nan (sub binary64 (abs_f x) d) ≡ is_nan x
unfolding sub add neg abs_f is_nan finite
less_finite nan d p = refl
less_finite (inf s) nan p = never p
less_finite (inf s) (inf t) p = never p
less_finite (inf s) (fin t n d) p = refl
less_finite (fin s m e) nan p = never p
less_finite (fin s m e) (inf t) p = never p
less_finite (fin s m e) (fin t n d) p = sum_some false (m * up e * down d) (not t) (n * up d * down e) (down e * down d)

nan_each : (d : Float) → finite d ≡ true → (b : Bool) (l : List Float)
    → fold (λ c x. c || is_nan x) b (map (λ x. abs_f (sub binary64 (abs_f x) d)) l) ≡ fold (λ c x. c || is_nan x) b l
unfolding fold
nan_each d p b [] = refl
nan_each d p b (x ∷ xs) =
    ap (λ (t : Bool). fold (λ c x. c || is_nan x) (b || t) (map (λ x. abs_f (sub binary64 (abs_f x) d)) xs)) (same_nan (sub binary64 (abs_f x) d) ∙ less_finite x d p)
    ∙ nan_each d p (b || is_nan x) xs

pub nan_finite : (d : Float) → finite d ≡ true → (l : List Float) → any_nan (distances d l) ≡ any_nan l
unfolding any_nan distances
nan_finite d p l = nan_each d p false l

-- numbers whose sizes have a finite median: none is a NaN, and none of the deviations from it
nan_sizes : (l : List Float) (b : Bool) → fold (λ c x. c || is_nan x) b (map abs_f l) ≡ fold (λ c x. c || is_nan x) b l
unfolding fold
nan_sizes [] b = refl
nan_sizes (x ∷ xs) b = ap (λ (t : Bool). fold (λ c x. c || is_nan x) (b || t) (map abs_f xs)) (same_nan x) ∙ nan_sizes xs (b || is_nan x)

median_some : (l : List Float) → finite (median_of l) ≡ true → any_nan l ≡ false
unfolding median_of finite
median_some l h = by_test (any_nan l) (λ t. never (rw t at h)) (λ t. t)

pub none_of_median : (l : List Float) (d : Float) → d ≡ median_of (map abs_f l) → finite d ≡ true → any_nan (distances d l) ≡ false
unfolding any_nan
none_of_median l d e h = nan_finite d h l ∙ sym (nan_sizes l false) ∙ median_some (map abs_f l) (ap finite (sym e) ∙ h)

-- ---- a number less +0 is itself

sum_flat : (a c : ℕ) → sum binary64 false a true 0 c ≡ round binary64 false a c
unfolding sum
sum_flat a c =
    cond_no (ltb a 0) (round binary64 true (0 - a) c) (round binary64 false (a - 0) c) (subst (λ (t : Bool). T (not t)) (sym (le-ltb a 0 zero-le)) tt)
    ∙ ap (λ (z : ℕ). round binary64 false z c) (sub-zero a)

flat_round : (m : ℕ) (e : ℤ) → sub binary64 (fin false m e) zero_f ≡ round binary64 false (m * up e) (down e)
unfolding sub add neg of_bits
flat_round m e =
    let a : m * up e * 1 ≡ m * up e = mul-one (m * up e) in
    let b : 0 * 1 * down e ≡ 0 = zero-mul (down e) in
    let d : down e * 1 ≡ down e = mul-one (down e) in
    rw (a, b, d) (sum_flat (m * up e) (down e))

less_zero : (x : Float) → T (fits binary64 x) → abs_f (sub binary64 (abs_f x) zero_f) ≡ abs_f x
unfolding abs_f sub add neg sum round of_bits fits
less_zero nan p = refl
less_zero (inf s) p = refl
less_zero (fin s zero e) p = rw (flat e (eqb→eq (up e * down e) 1 p))
less_zero (fin s (suc m) e) p = ap abs_f (flat_round (suc m) e ∙ round_itself false m e p)

pub distances_zero : (l : List Float) → All (λ x. T (fits binary64 x)) l → distances zero_f l ≡ map abs_f l
unfolding distances
distances_zero [] a = refl
distances_zero (x ∷ xs) a = rw (less_zero x a.0) (ap (λ (r : List Float). abs_f x ∷ r) (distances_zero xs a.1))

-- finite numbers: no deviation from +0 is a NaN
finite_some : (x : Float) → finite x ≡ true → is_nan x ≡ false
unfolding finite is_nan
finite_some nan p = never p
finite_some (inf s) p = refl
finite_some (fin s m e) p = refl

finite_none : (l : List Float) → all_of finite l ≡ true → any_nan l ≡ false
unfolding any_nan fold
finite_none [] p = refl
finite_none (x ∷ xs) p = let q = all_cons finite x xs p in rw (finite_some x q.0) (finite_none xs q.1)

zero_finite : finite zero_f ≡ true
unfolding finite of_bits
zero_finite = refl

pub none_of_finite : (l : List Float) → all_of finite l ≡ true → any_nan (distances zero_f l) ≡ false
none_of_finite l h = nan_finite zero_f zero_finite l ∙ finite_none l h

-- what every place has, the whole list has
pub all_places : (P : Float → Type 0) (d : Float) (l : List Float) → ((i : ℕ) → P (get_or l i d)) → All P l
all_places P d [] f = tt
all_places P d (x ∷ xs) f = (f 0, all_places P d xs (λ i. f (suc i)))

-- ---- the median, by the number's evenness

pub median_none : (l : List Float) → length l ≡ 0 → zero_f ≡ median_of l
unfolding median_of any_nan fold
median_none [] e = refl
median_none (x ∷ xs) e = absurd (omega arith)

pub median_nan : (l : List Float) → any_nan l ≡ true → nan ≡ median_of l
unfolding median_of
median_nan l h = rw h

pub median_odd : (l : List Float) → any_nan l ≡ false → (length l ≡ 0 → ⊥) → length l % 2 ≡ 1 → get_or (sort l) (length l / 2) nan ≡ median_of l
unfolding median_of
median_odd l h n e = rw (h, ne_eqb (length l) 0 n, eq-eqb (length l % 2) 1 e)

pub median_one : (d : Float) (a : List Float) → any_nan (distances d a) ≡ false → length a ≡ 1 → abs_f (sub binary64 (abs_f (get_or a 0 nan)) d) ≡ median_of (distances d a)
unfolding distances sort insert
median_one d [] h n = absurd (omega arith)
median_one d (x ∷ []) h n = median_odd (abs_f (sub binary64 (abs_f x) d) ∷ []) h (λ z. absurd (omega (arith, z))) refl
median_one d (x ∷ y ∷ ys) h n = absurd (omega arith)

pub median_even : (l : List Float) → any_nan l ≡ false → (length l ≡ 0 → ⊥) → (length l % 2 ≡ 1 → ⊥)
    → midpoint (get_or (sort l) (length l / 2 - 1) nan) (get_or (sort l) (length l / 2) nan) ≡ median_of l
unfolding median_of
median_even l h n e = rw (h, ne_eqb (length l) 0 n, ne_eqb (length l % 2) 1 e)
