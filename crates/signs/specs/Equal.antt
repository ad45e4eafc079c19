-- For doubles, to be the same number is what the comparison `==` says, but that a NaN matches a NaN. And a few steps computed, that say why the
-- relations are as they are.
use Rattle.std.specs.Prelude.{◌≡◌, refl, Bool, true, false, ◌||◌, ◌⊎◌, ℕ, zero, suc, ◌*◌, ◌<◌, T, eqb, ℤ, pos, Float}
use Rattle.std.proofs.Common.{sym, ap, ◌∙◌, inl, inr, zero-mul, mul-pos, zero-lt-suc, arith, eqb-true, eq-eqb, ne_eqb, eqb→eq}
use Rattle.std.specs.Bool.{beq}
use Rattle.std.specs.Float.{nan, inf, fin, binary64}
use Rattle.std.specs.Float.Ieee.{add, div, eq, fits, level, up, down}
use Rattle.std.specs.Float.Ieee.Fits.{up_pos, down_pos}
use Rattle.std.specs.Float.Ieee.Scale.{round_same}
use Rattle.loops.specs.Cases.{never, and_first, and_second}
use Rattle.value.specs.AbsoluteLaws.{flat}
use Rattle.value.specs.Exact.{round_itself}
use Rattle.signs.specs.Opposite.{Zero, Same}

-- ---- the same number is equal

level_itself : (s : Bool) (a : ℕ) → level s a s a ≡ true
level_itself true a = rw (eq-eqb a a refl)
level_itself false a = rw (eq-eqb a a refl)

eq_itself : (a : Float) → (eq a a ≡ true) ⊎ (a ≡ nan)
unfolding eq
eq_itself nan = inr refl
eq_itself (inf true) = inl refl
eq_itself (inf false) = inl refl
eq_itself (fin s m e) = inl (level_itself s (m * up e * down e))

zeros_equal : (a b : Float) → Zero a → Zero b → eq a b ≡ true
unfolding eq
zeros_equal nan b z w = absurd z
zeros_equal (inf s) b z w = absurd z
zeros_equal (fin s m e) nan z w = absurd w
zeros_equal (fin s m e) (inf t) z w = absurd w
zeros_equal (fin s m e) (fin t n d) z w = rw (z.0, w.0, zero-mul (up e), zero-mul (down d), zero-mul (up d), zero-mul (down e)) (either s t)
  where
    either : (s t : Bool) → level s 0 t 0 ≡ true
    either true true = refl
    either true false = refl
    either false true = refl
    either false false = refl

-- numbers that are the same are equal, or both NaN
pub same_equal : (a b : Float) → Same a b → (eq a b ≡ true) ⊎ ((a ≡ nan) × (b ≡ nan))
same_equal a b (inl p) = go (eq_itself a)
  where
    go : (eq a a ≡ true) ⊎ (a ≡ nan) → (eq a b ≡ true) ⊎ ((a ≡ nan) × (b ≡ nan))
    go (inl q) = inl (ap (eq a) (sym p) ∙ q)
    go (inr q) = inr (q, sym p ∙ q)
same_equal a b (inr z) = inl (zeros_equal a b z.0 z.1)

-- ---- equal doubles are the same number, so that for doubles `Same` says what `==` says

above : (m : ℕ) (e d : ℤ) → 0 < suc m * up e * down d
above m e d = mul-pos (mul-pos (zero-lt-suc m) (up_pos e)) (down_pos d)

-- zero and another number
zero_apart : (n : ℕ) (e d : ℤ) → 0 * up e * down d ≡ suc n * up d * down e → ⊥
zero_apart n e d q =
    let z : 0 * up e * down d ≡ 0 = ap (λ (x : ℕ). x * down d) (zero-mul (up e)) ∙ zero-mul (down d) in
    omega (arith, q, z, above n d e)

signs_equal : (s t : Bool) (a : ℕ) → 0 < a → (beq s t || eqb a 0) ≡ true → s ≡ t
signs_equal true true a h q = refl
signs_equal false false a h q = refl
signs_equal true false a h q = never (sym (ne_eqb a 0 (λ (z : a ≡ 0). omega arith)) ∙ q)
signs_equal false true a h q = never (sym (ne_eqb a 0 (λ (z : a ≡ 0). omega arith)) ∙ q)

-- two doubles of one value round to each other, and a double rounds to itself
one_value : (s : Bool) (m n : ℕ) (e d : ℤ) → T (fits binary64 (fin s (suc m) e)) → T (fits binary64 (fin s (suc n) d))
    → suc m * up e * down d ≡ suc n * up d * down e → fin s (suc m) e ≡ fin s (suc n) d
one_value s m n e d f g q =
    sym (round_itself s m e f) ∙ round_same binary64 s (suc m * up e) (down e) (suc n * up d) (down d) (down_pos e) (down_pos d) q ∙ round_itself s n d g

pub equal_same : (a b : Float) → T (fits binary64 a) → T (fits binary64 b) → eq a b ≡ true → Same a b
unfolding eq fits
equal_same nan b f g q = never q
equal_same (inf s) nan f g q = never q
equal_same (inf true) (inf true) f g q = inl refl
equal_same (inf true) (inf false) f g q = never q
equal_same (inf false) (inf true) f g q = never q
equal_same (inf false) (inf false) f g q = inl refl
equal_same (inf s) (fin t n d) f g q = never q
equal_same (fin s m e) nan f g q = never q
equal_same (fin s m e) (inf t) f g q = never q
equal_same (fin s zero e) (fin t zero d) f g q = inr ((refl, flat e (eqb→eq (up e * down e) 1 f)), (refl, flat d (eqb→eq (up d * down d) 1 g)))
equal_same (fin s zero e) (fin t (suc n) d) f g q = absurd (zero_apart n e d (eqb-true (0 * up e * down d) (suc n * up d * down e) (and_first _ _ q)))
equal_same (fin s (suc m) e) (fin t zero d) f g q = absurd (zero_apart m d e (sym (eqb-true (suc m * up e * down d) (0 * up d * down e) (and_first _ _ q))))
equal_same (fin s (suc m) e) (fin t (suc n) d) f g q =
    let A = suc m * up e * down d in
    let B = suc n * up d * down e in
    let r = signs_equal s t A (above m e d) (and_second (eqb A B) _ q) in
    inl (one_value s m n e d f g (eqb-true A B (and_first (eqb A B) _ q)) ∙ ap (λ (u : Bool). fin u (suc n) d) r)

-- ---- computed

-- 1 + −1 and its mirror image −1 + 1 are both +0: an opposite zero need not change sign
pub zero_sums : (add binary64 (fin false 1 (pos 0)) (fin true 1 (pos 0)) ≡ fin false 0 (pos 0)) × (add binary64 (fin true 1 (pos 0)) (fin false 1 (pos 0)) ≡ fin false 0 (pos 0))
unfolding add
zero_sums = (refl, refl)

-- 1 / +0 and 1 / −0 are not the same number: a divisor must be one
pub zero_divisors : (div binary64 (fin false 1 (pos 0)) (fin false 0 (pos 0)) ≡ inf false) × (div binary64 (fin false 1 (pos 0)) (fin true 0 (pos 0)) ≡ inf true)
unfolding div
zero_divisors = (refl, refl)
