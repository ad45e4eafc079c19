-- Laws of Absolute.antt.
use Rattle.std.specs.Prelude.{◌≡◌, ℕ, zero, suc, ◌+◌, ◌*◌, ◌^◌, Bool, true, false, ◌&&◌, T, ℤ, pos, negsuc, ◌==◌, ◌≢◌, refl, Float}
use Rattle.std.proofs.Common.{sym, ap, ◌∙◌, zero-mul, mul-pos, mul-one, one-mul, arith, ltb-true, ltb-false, eqb-true, eqb→eq, pow_pos}
use Rattle.std.proofs.Math.Nat.{pow-succ'}
use Rattle.std.specs.Float.{nan, inf, fin, binary64}
use Rattle.std.specs.Float.Ieee.{neg, mul, lt, eq, fits, up, down}
use Rattle.std.specs.Float.Ieee.Fits.{up_pos}
use Rattle.loops.specs.Cases.{never}
use Rattle.value.specs.Absolute.{abs_f}

twice : (k : ℕ) → 2 ^ suc k ≢ 1
twice k h = let a = pow_pos k in let b = pow-succ' 2 k in omega arith

pub flat : (e : ℤ) → up e * down e ≡ 1 → e ≡ pos 0
flat (pos zero) h = refl
flat (pos (suc k)) h = absurd (twice k (sym (mul-one (2 ^ suc k)) ∙ h))
flat (negsuc k) h = absurd (twice k (sym (one-mul (2 ^ suc k)) ∙ h))

-- a number below 0
pub abs_below : (x : Float) → lt x (fin false 0 (pos 0)) ≡ true → neg x ≡ abs_f x
unfolding abs_f lt neg
abs_below nan h = never h
abs_below (inf true) h = refl
abs_below (inf false) h = never h
abs_below (fin true m e) h = refl
abs_below (fin false m e) h = absurd (let g = ltb-true (m * up e * 1) (0 * 1 * down e) h in omega (arith, g, zero-mul (down e)))

-- a zero
pub abs_zero : (x : Float) → T (fits binary64 x) → eq x (fin false 0 (pos 0)) ≡ true → fin false 0 (pos 0) ≡ abs_f x
unfolding abs_f eq fits
abs_zero nan f h = never h
abs_zero (inf s) f h = never h
abs_zero (fin s zero e) f h = ap (λ (d : ℤ). fin false 0 d) (sym (flat e (eqb→eq (up e * down e) 1 f)))
abs_zero (fin s (suc m) e) f h = absurd (both (suc m * up e * 1 == 0 * 1 * down e) _ refl h)
  where
    both : (a b : Bool) → (suc m * up e * 1 == 0 * 1 * down e) ≡ a → a && b ≢ true
    both false b q h = never h
    both true b q h =
        let g = eqb-true (suc m * up e * 1) (0 * 1 * down e) q in
        let p = mul-pos {m = suc m} {n = up e} (omega arith) (up_pos e) in
        omega (arith, g, p, zero-mul (down e))

-- any other
pub abs_above : (x : Float) → lt x (fin false 0 (pos 0)) ≡ false → eq x (fin false 0 (pos 0)) ≡ false → x ≡ abs_f x
unfolding abs_f lt eq
abs_above nan h g = refl
abs_above (inf true) h g = never (sym h)
abs_above (inf false) h g = refl
abs_above (fin false m e) h g = refl
abs_above (fin true zero e) h g = never (sym (let z : 0 * up e * 1 ≡ 0 = omega (arith, zero-mul (up e)) in let w : 0 * 1 * down e ≡ 0 = omega (arith, zero-mul (down e)) in rw (z, w) at g))
abs_above (fin true (suc m) e) h g =
    absurd
    (let p = mul-pos {m = suc m} {n = up e} (omega arith) (up_pos e) in
    let q = ltb-false 0 (suc m * up e * 1 + 0 * 1 * down e) h in
    omega (arith, p, q))

-- twice is once
pub abs_abs : (x : Float) → abs_f (abs_f x) ≡ abs_f x
unfolding abs_f
abs_abs nan = refl
abs_abs (inf s) = refl
abs_abs (fin s m e) = refl

-- a square does not see the sign
pub square_abs : (x : Float) → mul binary64 (abs_f x) (abs_f x) ≡ mul binary64 x x
unfolding abs_f mul
square_abs nan = refl
square_abs (inf true) = refl
square_abs (inf false) = refl
square_abs (fin true m e) = refl
square_abs (fin false m e) = refl
