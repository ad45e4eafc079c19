-- What float steps make of negated numbers, exactly: rounding to the nearest, ties to even, does not see the sign.
use Rattle.std.specs.Prelude.{◌≡◌, refl, Bool, true, false, not, cond, ℕ, zero, suc, ◌+◌, ◌*◌, ◌^◌, ltb, eqb, pos, Float}
use Rattle.std.proofs.Common.{sym, ap, ◌∙◌, add_comm, eqb-true, ne_eqb}
use Rattle.std.specs.Bool.{beq}
use Rattle.std.proofs.lemmas.Bool.{eqb-false}
use Rattle.std.specs.Float.{nan, inf, fin, Format}
use Rattle.std.specs.Float.Ieee.{neg, odd, units, round, mul, div, lt, eq, le, unlike, below, level, low, prec, emax, up, down}
use Rattle.loops.specs.Cases.{by_test}

pub odd_neg : (d : ℕ) (s : Bool) (q k l : ℕ) → odd d (not s) q k l ≡ neg (odd d s q k l)
unfolding odd neg
odd_neg d s zero k l = refl
odd_neg d s (suc q) k l = refl

pub cond_neg : (t : Bool) (x y : Float) → neg (cond t x y) ≡ cond t (neg x) (neg y)
cond_neg true x y = refl
cond_neg false x y = refl

units_neg : (f : Format) (s : Bool) (q k : ℕ) → units f (not s) q k ≡ neg (units f s q k)
unfolding units neg
units_neg f s q k =
    ap (λ (x : Float). cond (ltb (q * 2 ^ k) (2 ^ (low f + suc (emax f)))) x (inf (not s))) (odd_neg (suc (prec f)) s q k (low f))
    ∙ sym (cond_neg (ltb (q * 2 ^ k) (2 ^ (low f + suc (emax f)))) (odd (suc (prec f)) s q k (low f)) (inf s))

-- −(n / d), rounded
pub round_neg : (f : Format) (s : Bool) (n d : ℕ) → round f (not s) n d ≡ neg (round f s n d)
unfolding round
round_neg f s n d = units_neg f s _ _

unlike_left : (s t : Bool) → unlike (not s) t ≡ not (unlike s t)
unlike_left true true = refl
unlike_left true false = refl
unlike_left false true = refl
unlike_left false false = refl

unlike_right : (s t : Bool) → unlike s (not t) ≡ not (unlike s t)
unlike_right true true = refl
unlike_right true false = refl
unlike_right false true = refl
unlike_right false false = refl

-- (−a) × b and a × (−b) are −(a × b)
pub mul_neg_left : (f : Format) (a b : Float) → mul f (neg a) b ≡ neg (mul f a b)
unfolding mul neg
mul_neg_left f nan b = refl
mul_neg_left f (inf s) nan = refl
mul_neg_left f (inf s) (inf t) = ap inf (unlike_left s t)
mul_neg_left f (inf s) (fin t n d) = ap (λ (u : Bool). cond (eqb n 0) nan (inf u)) (unlike_left s t) ∙ sym (cond_neg (eqb n 0) nan (inf (unlike s t)))
mul_neg_left f (fin s m e) nan = refl
mul_neg_left f (fin s m e) (inf t) = ap (λ (u : Bool). cond (eqb m 0) nan (inf u)) (unlike_left s t) ∙ sym (cond_neg (eqb m 0) nan (inf (unlike s t)))
mul_neg_left f (fin s m e) (fin t n d) =
    ap (λ (u : Bool). round f u (m * up e * (n * up d)) (down e * down d)) (unlike_left s t) ∙ round_neg f (unlike s t) (m * up e * (n * up d)) (down e * down d)

pub mul_neg_right : (f : Format) (a b : Float) → mul f a (neg b) ≡ neg (mul f a b)
unfolding mul neg
mul_neg_right f nan b = refl
mul_neg_right f (inf s) nan = refl
mul_neg_right f (inf s) (inf t) = ap inf (unlike_right s t)
mul_neg_right f (inf s) (fin t n d) = ap (λ (u : Bool). cond (eqb n 0) nan (inf u)) (unlike_right s t) ∙ sym (cond_neg (eqb n 0) nan (inf (unlike s t)))
mul_neg_right f (fin s m e) nan = refl
mul_neg_right f (fin s m e) (inf t) = ap (λ (u : Bool). cond (eqb m 0) nan (inf u)) (unlike_right s t) ∙ sym (cond_neg (eqb m 0) nan (inf (unlike s t)))
mul_neg_right f (fin s m e) (fin t n d) =
    ap (λ (u : Bool). round f u (m * up e * (n * up d)) (down e * down d)) (unlike_right s t) ∙ round_neg f (unlike s t) (m * up e * (n * up d)) (down e * down d)

-- (−a) / b is −(a / b)
pub div_neg : (f : Format) (a b : Float) → div f (neg a) b ≡ neg (div f a b)
unfolding div neg
div_neg f nan b = refl
div_neg f (inf s) nan = refl
div_neg f (inf s) (inf t) = refl
div_neg f (inf s) (fin t n d) = ap inf (unlike_left s t)
div_neg f (fin s m e) nan = refl
div_neg f (fin s m e) (inf t) = ap (λ (u : Bool). fin u 0 (pos 0)) (unlike_left s t)
div_neg f (fin s m e) (fin t n d) =
    ap (λ (u : Bool). cond (eqb n 0) (cond (eqb m 0) nan (inf u)) (round f u (m * up e * down d) (n * up d * down e))) (unlike_left s t)
    ∙ go (eqb n 0) (eqb m 0)
  where
    go : (v w : Bool) → cond v (cond w nan (inf (not (unlike s t)))) (round f (not (unlike s t)) (m * up e * down d) (n * up d * down e))
        ≡ neg (cond v (cond w nan (inf (unlike s t))) (round f (unlike s t) (m * up e * down d) (n * up d * down e)))
    go true true = refl
    go true false = refl
    go false w = round_neg f (unlike s t) (m * up e * down d) (n * up d * down e)

-- −b < −a is a < b
below_neg : (s t : Bool) (a b : ℕ) → below (not t) b (not s) a ≡ below s a t b
below_neg true true a b = refl
below_neg true false a b = ap (ltb 0) (add_comm b a)
below_neg false true a b = refl
below_neg false false a b = refl

pub lt_neg : (a b : Float) → lt (neg b) (neg a) ≡ lt a b
unfolding lt neg
lt_neg nan nan = refl
lt_neg nan (inf t) = refl
lt_neg nan (fin t n d) = refl
lt_neg (inf s) nan = refl
lt_neg (inf true) (inf true) = refl
lt_neg (inf true) (inf false) = refl
lt_neg (inf false) (inf true) = refl
lt_neg (inf false) (inf false) = refl
lt_neg (inf true) (fin t n d) = refl
lt_neg (inf false) (fin t n d) = refl
lt_neg (fin s m e) nan = refl
lt_neg (fin s m e) (inf t) = refl
lt_neg (fin s m e) (fin t n d) = below_neg s t (m * up e * down d) (n * up d * down e)

-- −b = −a is a = b
level_neg : (s t : Bool) (a b : ℕ) → level (not t) b (not s) a ≡ level s a t b
level_neg s t a b = by_test (eqb a b) (λ q. equal (eqb-true a b q)) (λ q. rw (q, ne_eqb b a (λ (e : b ≡ a). eqb-false a b q (sym e))))
  where
    beq_neg : (s t : Bool) → beq (not t) (not s) ≡ beq s t
    beq_neg true true = refl
    beq_neg true false = refl
    beq_neg false true = refl
    beq_neg false false = refl

    equal : a ≡ b → level (not t) b (not s) a ≡ level s a t b
    equal e = rw (e, beq_neg s t)

pub eq_neg : (a b : Float) → eq (neg b) (neg a) ≡ eq a b
unfolding eq neg
eq_neg nan nan = refl
eq_neg nan (inf t) = refl
eq_neg nan (fin t n d) = refl
eq_neg (inf s) nan = refl
eq_neg (inf true) (inf true) = refl
eq_neg (inf true) (inf false) = refl
eq_neg (inf false) (inf true) = refl
eq_neg (inf false) (inf false) = refl
eq_neg (inf s) (fin t n d) = refl
eq_neg (fin s m e) nan = refl
eq_neg (fin s m e) (inf t) = refl
eq_neg (fin s m e) (fin t n d) = level_neg s t (m * up e * down d) (n * up d * down e)

-- −b ≤ −a is a ≤ b
pub le_neg : (a b : Float) → le (neg b) (neg a) ≡ le a b
unfolding le
le_neg a b = rw (lt_neg a b, eq_neg a b)
