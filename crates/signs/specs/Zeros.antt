-- Float steps on a zero of either sign come to the same number, and so do float steps on numbers that are the same; only a divisor's zero keeps its
-- sign. And a sum of negated numbers is the negated sum, but for the sign of a sum that is exactly zero.
use Rattle.std.specs.Prelude.{◌≡◌, refl, Bool, true, false, not, cond, ◌&&◌, ◌||◌, ltb, eqb, pos, Float}
use Rattle.std.proofs.Common.{sym, ap, subst, ◌∙◌, inl, inr, zero-mul, mul-zero, zero-add, add-zero, arith, ltb-false, le-ltb, lt-ltb, pow_pos}
use Rattle.std.specs.Bool.{beq}
use Prim.Native.Nat.compare
use Prim.Native.Nat.{ℕ, zero, suc, ◌+◌, ◌-◌, ◌*◌, ◌/◌, ◌%◌, ◌^◌, ◌≤◌, compare, Ordering}
use Rattle.std.proofs.Math.Nat.{sub-zero, zero-div, zero-mod}
use Rattle.std.specs.Float.{nan, inf, fin, Format}
use Rattle.std.specs.Float.Ieee.{neg, odd, units, round, size, nearest, sum, add, mul, div, lt, eq, le, unlike, below, level, low, prec, emax, up, down}
use Rattle.signs.specs.Opposite.{Zero, Same}
use Rattle.signs.specs.OppositeLaws.{same_sym, same_trans, zero_neg, at_same, same_at}
use Rattle.signs.specs.Negated.{round_neg}

-- ---- 0 / d, rounded, is a zero

units_zero : (f : Format) (s : Bool) (k : ℕ) → Zero (units f s 0 k)
unfolding units odd
units_zero f s k = rw (zero-mul (2 ^ k), lt-ltb 0 (2 ^ (low f + suc (emax f))) (pow_pos (low f + suc (emax f)))) (refl, refl)

nearest_zero : (u : ℕ) → nearest (0 / u) (compare (0 % u * 2) u) ≡ 0
nearest_zero zero = refl
nearest_zero (suc u) =
    ap (λ (x : ℕ). nearest x (compare (0 % suc u * 2) (suc u))) (zero-div (suc u))
    ∙ ap (λ (x : ℕ). nearest 0 (compare (x * 2) (suc u))) (zero-mod (suc u))
    ∙ ap (λ (o : Ordering). nearest 0 o) (compare.zero-suc u)

round_zero : (f : Format) (s : Bool) (d : ℕ) → Zero (round f s 0 d)
unfolding round
round_zero f s d =
    subst (λ (n : ℕ). let k = size (n / d) - prec f in let u = d * 2 ^ k in Zero (units f s (nearest (n / u) (compare (n % u * 2) u)) k)) (sym (zero-mul (2 ^ low f)))
    (let k = size (0 / d) - prec f in subst (λ (q : ℕ). Zero (units f s q k)) (sym (nearest_zero (d * 2 ^ k))) (units_zero f s k))

rounded : (f : Format) (s : Bool) (n d : ℕ) → n ≡ 0 → Zero (round f s n d)
rounded f s n d h = subst (λ (x : ℕ). Zero (round f s x d)) (sym h) (round_zero f s d)

-- ---- a sum with a zero

sum_right : (f : Format) (r : Bool) (a : ℕ) (s : Bool) (c : ℕ) → Same (sum f r a s 0 c) (round f r a c)
unfolding sum
sum_right f true a true c = inl (ap (λ (x : ℕ). round f true x c) (add-zero a))
sum_right f false a false c = inl (ap (λ (x : ℕ). round f false x c) (add-zero a))
sum_right f true zero false c = inr (round_zero f false c, round_zero f true c)
sum_right f true (suc a) false c = rw (le-ltb (suc a) 0 (omega arith), lt-ltb 0 (suc a) (omega arith)) (inl (ap (λ (x : ℕ). round f true x c) (sub-zero (suc a))))
sum_right f false a true c = rw (le-ltb a 0 (omega arith)) (inl (ap (λ (x : ℕ). round f false x c) (sub-zero a)))

sum_left : (f : Format) (s t : Bool) (b c : ℕ) → Same (sum f s 0 t b c) (round f t b c)
unfolding sum
sum_left f true true b c = inl (ap (λ (x : ℕ). round f true x c) (zero-add b))
sum_left f false false b c = inl (ap (λ (x : ℕ). round f false x c) (zero-add b))
sum_left f true false zero c = inr (round_zero f false c, round_zero f false c)
sum_left f true false (suc b) c = rw (lt-ltb 0 (suc b) (omega arith)) (inl (ap (λ (x : ℕ). round f false x c) (sub-zero (suc b))))
sum_left f false true zero c = inr (round_zero f false c, round_zero f true c)
sum_left f false true (suc b) c = rw (lt-ltb 0 (suc b) (omega arith)) (inl (ap (λ (x : ℕ). round f true x c) (sub-zero (suc b))))

add_zeros_right : (f : Format) (a : Float) (s t : Bool) → Same (add f a (fin s 0 (pos 0))) (add f a (fin t 0 (pos 0)))
unfolding add
add_zeros_right f nan s t = inl refl
add_zeros_right f (inf r) s t = inl refl
add_zeros_right f (fin r m e) s t =
    rw (zero-mul (down e)) (same_trans (sum_right f r (m * up e * 1) s (down e * 1)) (same_sym (sum_right f r (m * up e * 1) t (down e * 1))))

add_zeros_left : (f : Format) (b : Float) (s t : Bool) → Same (add f (fin s 0 (pos 0)) b) (add f (fin t 0 (pos 0)) b)
unfolding add
add_zeros_left f nan s t = inl refl
add_zeros_left f (inf r) s t = inl refl
add_zeros_left f (fin r n d) s t =
    rw (zero-mul (down d)) (same_trans (sum_left f s r (n * up d * 1) (1 * down d)) (same_sym (sum_left f t r (n * up d * 1) (1 * down d))))

-- ---- a product, a quotient and a comparison with a zero

mul_zeros_right : (f : Format) (a : Float) (s t : Bool) → Same (mul f a (fin s 0 (pos 0))) (mul f a (fin t 0 (pos 0)))
unfolding mul
mul_zeros_right f nan s t = inl refl
mul_zeros_right f (inf r) s t = inl refl
mul_zeros_right f (fin r m e) s t = inr (rounded f (unlike r s) (m * up e * 0) (down e * 1) (mul-zero (m * up e)), rounded f (unlike r t) (m * up e * 0) (down e * 1) (mul-zero (m * up e)))

mul_zeros_left : (f : Format) (b : Float) (s t : Bool) → Same (mul f (fin s 0 (pos 0)) b) (mul f (fin t 0 (pos 0)) b)
unfolding mul
mul_zeros_left f nan s t = inl refl
mul_zeros_left f (inf r) s t = inl refl
mul_zeros_left f (fin r n d) s t = inr (rounded f (unlike s r) (0 * (n * up d)) (1 * down d) (zero-mul (n * up d)), rounded f (unlike t r) (0 * (n * up d)) (1 * down d) (zero-mul (n * up d)))

div_zeros : (f : Format) (b : Float) (s t : Bool) → Same (div f (fin s 0 (pos 0)) b) (div f (fin t 0 (pos 0)) b)
unfolding div
div_zeros f nan s t = inl refl
div_zeros f (inf r) s t = inr ((refl, refl), (refl, refl))
div_zeros f (fin r n d) s t = go (eqb n 0)
  where
    go : (v : Bool) → Same (cond v nan (round f (unlike s r) (0 * down d) (n * up d * 1))) (cond v nan (round f (unlike t r) (0 * down d) (n * up d * 1)))
    go true = inl refl
    go false = inr (rounded f (unlike s r) (0 * down d) (n * up d * 1) (zero-mul (down d)), rounded f (unlike t r) (0 * down d) (n * up d * 1) (zero-mul (down d)))

-- ±a < ±0 and ±0 < ±b, ±a = ±0 and ±0 = ±b: the zero's sign is not seen
below_right : (r : Bool) (a : ℕ) (s : Bool) → below r a s 0 ≡ r && ltb 0 a
below_right false a false = le-ltb a 0 (omega arith)
below_right false a true = refl
below_right true a false = ap (ltb 0) (add-zero a)
below_right true a true = refl

below_left : (s t : Bool) (b : ℕ) → below s 0 t b ≡ not t && ltb 0 b
below_left false false b = refl
below_left false true b = refl
below_left true false b = ap (ltb 0) (zero-add b)
below_left true true b = le-ltb b 0 (omega arith)

level_right : (s : Bool) (a : ℕ) (t : Bool) → level s a t 0 ≡ eqb a 0
level_right s a t = go (eqb a 0) (beq s t)
  where
    go : (v u : Bool) → v && (u || v) ≡ v
    go true true = refl
    go true false = refl
    go false u = refl

level_left : (s t : Bool) (b : ℕ) → level s 0 t b ≡ eqb 0 b
level_left s t b = go (eqb 0 b) (beq s t)
  where
    go : (v u : Bool) → v && (u || true) ≡ v
    go true true = refl
    go true false = refl
    go false u = refl

lt_zeros_right : (a : Float) (s t : Bool) → lt a (fin s 0 (pos 0)) ≡ lt a (fin t 0 (pos 0))
unfolding lt
lt_zeros_right nan s t = refl
lt_zeros_right (inf r) s t = refl
lt_zeros_right (fin r m e) s t = rw (zero-mul (down e)) (below_right r (m * up e * 1) s ∙ sym (below_right r (m * up e * 1) t))

lt_zeros_left : (b : Float) (s t : Bool) → lt (fin s 0 (pos 0)) b ≡ lt (fin t 0 (pos 0)) b
unfolding lt
lt_zeros_left nan s t = refl
lt_zeros_left (inf r) s t = refl
lt_zeros_left (fin r n d) s t = rw (zero-mul (down d)) (below_left s r (n * up d * 1) ∙ sym (below_left t r (n * up d * 1)))

eq_zeros_right : (a : Float) (s t : Bool) → eq a (fin s 0 (pos 0)) ≡ eq a (fin t 0 (pos 0))
unfolding eq
eq_zeros_right nan s t = refl
eq_zeros_right (inf r) s t = refl
eq_zeros_right (fin r m e) s t = rw (zero-mul (down e)) (level_right r (m * up e * 1) s ∙ sym (level_right r (m * up e * 1) t))

eq_zeros_left : (b : Float) (s t : Bool) → eq (fin s 0 (pos 0)) b ≡ eq (fin t 0 (pos 0)) b
unfolding eq
eq_zeros_left nan s t = refl
eq_zeros_left (inf r) s t = refl
eq_zeros_left (fin r n d) s t = rw (zero-mul (down d)) (level_left s r (n * up d * 1) ∙ sym (level_left t r (n * up d * 1)))

-- ---- float steps on numbers that are the same

module _ (f : Format) where
  pub add_same : {a a' b b' : Float} → Same a a' → Same b b' → Same (add f a b) (add f a' b')
  add_same {a'} {b} p q = same_trans (at_same (λ x. add f x b) (add_zeros_left f b) p) (at_same (λ x. add f a' x) (add_zeros_right f a') q)

  pub mul_same : {a a' b b' : Float} → Same a a' → Same b b' → Same (mul f a b) (mul f a' b')
  mul_same {a'} {b} p q = same_trans (at_same (λ x. mul f x b) (mul_zeros_left f b) p) (at_same (λ x. mul f a' x) (mul_zeros_right f a') q)

  -- the divisor is one
  pub div_same : {a a' : Float} (c : Float) → Same a a' → Same (div f a c) (div f a' c)
  div_same c p = at_same (λ x. div f x c) (div_zeros f c) p

pub lt_same : {a a' b b' : Float} → Same a a' → Same b b' → lt a b ≡ lt a' b'
lt_same {a'} {b} p q = same_at (λ x. lt x b) (lt_zeros_left b) p ∙ same_at (λ x. lt a' x) (lt_zeros_right a') q

pub eq_same : {a a' b b' : Float} → Same a a' → Same b b' → eq a b ≡ eq a' b'
eq_same {a'} {b} p q = same_at (λ x. eq x b) (eq_zeros_left b) p ∙ same_at (λ x. eq a' x) (eq_zeros_right a') q

pub le_same : {a a' b b' : Float} → Same a a' → Same b b' → le a b ≡ le a' b'
unfolding le
le_same p q = rw (lt_same p q, eq_same p q)

-- ---- −a + −b is −(a + b), but that a sum that is exactly zero is +0 in both

-- a − b, where neither is less
exactly : (a b : ℕ) → b ≤ a → a ≤ b → a - b ≡ 0
exactly a b h k = omega arith

-- a − b as −(b − a): u says whether a < b, and v whether b < a
difference : (f : Format) (a b c : ℕ) (u v : Bool) → (u ≡ false → b ≤ a) → (v ≡ false → a ≤ b)
    → Same (cond u (round f true (b - a) c) (round f false (a - b) c)) (neg (cond u (round f false (b - a) c) (round f v (a - b) c)))
difference f a b c true v h k = inl (round_neg f false (b - a) c)
difference f a b c false true h k = inl (round_neg f true (a - b) c)
difference f a b c false false h k =
    let z = rounded f false (a - b) c (exactly a b (h refl) (k refl)) in
    inr (z, zero_neg (round f false (a - b) c) z)

-- and the other way round
difference_back : (f : Format) (a b c : ℕ) (u v : Bool) → (u ≡ false → b ≤ a) → (v ≡ false → a ≤ b)
    → Same (cond u (round f false (b - a) c) (round f v (a - b) c)) (neg (cond u (round f true (b - a) c) (round f false (a - b) c)))
difference_back f a b c true v h k = inl (round_neg f true (b - a) c)
difference_back f a b c false true h k = inl (round_neg f false (a - b) c)
difference_back f a b c false false h k =
    let z = rounded f false (a - b) c (exactly a b (h refl) (k refl)) in
    inr (z, zero_neg (round f false (a - b) c) z)

sum_neg : (f : Format) (s : Bool) (a : ℕ) (t : Bool) (b c : ℕ) → Same (sum f (not s) a (not t) b c) (neg (sum f s a t b c))
unfolding sum
sum_neg f true a true b c = inl (round_neg f true (a + b) c)
sum_neg f false a false b c = inl (round_neg f false (a + b) c)
sum_neg f true a false b c = difference f a b c (ltb a b) (ltb b a) (ltb-false a b) (ltb-false b a)
sum_neg f false a true b c = difference_back f a b c (ltb a b) (ltb b a) (ltb-false a b) (ltb-false b a)

pub add_neg : (f : Format) (a b : Float) → Same (add f (neg a) (neg b)) (neg (add f a b))
unfolding add neg
add_neg f nan b = inl refl
add_neg f (inf s) nan = inl refl
add_neg f (inf true) (inf true) = inl refl
add_neg f (inf true) (inf false) = inl refl
add_neg f (inf false) (inf true) = inl refl
add_neg f (inf false) (inf false) = inl refl
add_neg f (inf s) (fin t n d) = inl refl
add_neg f (fin s m e) nan = inl refl
add_neg f (fin s m e) (inf t) = inl refl
add_neg f (fin s m e) (fin t n d) = sum_neg f s (m * up e * down d) t (n * up d * down e) (down e * down d)
