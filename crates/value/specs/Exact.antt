-- Where a float step changes nothing: a double is the nearest to its own value, so 1 × b and b × 1 are b.
use Rattle.std.specs.Prelude.{◌≡◌, ℕ, zero, suc, ◌*◌, ◌%◌, ◌^◌, ◌<◌, Bool, true, false, ◌&&◌, T, ltb, ℤ, pos, negsuc, ◌≢◌, nat_eq, nat_le, nat_lt, refl, Float}
use Rattle.std.proofs.Common.{sym, ap, subst, ◌∙◌, le_of_eq, lt_irrefl, lt_of_le_of_lt, lt_of_lt_of_le, lt_of_mul-lt-mul_right, mul-one, one-mul, mul_assoc, mul_left_comm, mul_right_comm, mul-pos, mul-lt-mul_of_pos_right, pow-suc, zero-mul, zero-lt-suc, arith, eqb→eq, pow_pos}
use Rattle.std.proofs.Math.Nat.{eq_of_mul-eq-mul_right, pow-succ'}
use Rattle.std.specs.Float.{nan, inf, fin, binary64}
use Rattle.std.specs.Float.Ieee.{round, mul, fits, up, down, of_bits}
use Rattle.std.specs.Float.Ieee.Exact.{HasValue, round_exact}
use Rattle.std.specs.Float.Ieee.Fits.{and_l, down_pos, up_pos, round-fits, mul-fits}
use Rattle.value.specs.AbsoluteLaws.{flat}
use Rattle.value.specs.Numbers.{one_f}
use Rattle.value.specs.GridLaws.{place, says}

-- ---- two doubles of one value are one

-- a double that is not zero is written with an odd number
is_odd : (s : Bool) (m : ℕ) (e : ℤ) → T (fits binary64 (fin s (suc m) e)) → suc m % 2 ≡ 1
unfolding fits
is_odd s m e t =
    let o = nat_eq (suc m % 2) 1 in
    let d = ltb (suc m) (2 ^ 53) in
    let l = nat_le (down e) (2 ^ 1074) in
    eqb→eq _ _ (and_l o d (and_l (o && d) l (and_l (o && d && l) (nat_lt (suc m * up e) (2 ^ 1024 * down e)) t)))

twice : (m t : ℕ) → m % 2 ≡ 1 → m ≢ 2 * t
twice m t o h = omega arith

odd_powers : (m n a b : ℕ) → m % 2 ≡ 1 → n % 2 ≡ 1 → m * 2 ^ a ≡ n * 2 ^ b → (m ≡ n) × (a ≡ b)
odd_powers m n zero zero o p h = (sym (mul-one m) ∙ h ∙ mul-one n, refl)
odd_powers m n zero (suc b) o p h = absurd (twice m (n * 2 ^ b) o (sym (mul-one m) ∙ h ∙ ap (λ (x : ℕ). n * x) (pow-succ' 2 b) ∙ mul_left_comm n 2 (2 ^ b)))
odd_powers m n (suc a) zero o p h = absurd (twice n (m * 2 ^ a) p (sym (mul-one n) ∙ sym h ∙ ap (λ (x : ℕ). m * x) (pow-succ' 2 a) ∙ mul_left_comm m 2 (2 ^ a)))
odd_powers m n (suc a) (suc b) o p h =
    let r = odd_powers m n a b o p (eq_of_mul-eq-mul_right 2 (zero-lt-suc 1) (m * 2 ^ a) (n * 2 ^ b)
    (mul_assoc m (2 ^ a) 2 ∙ ap (λ (x : ℕ). m * x) (sym (pow-suc 2 a)) ∙ h ∙ ap (λ (x : ℕ). n * x) (pow-suc 2 b) ∙ sym (mul_assoc n (2 ^ b) 2))) in
    (r.0, ap suc r.1)

-- an odd number is no other times a power of two
not_shifted : (m n a b : ℕ) → n % 2 ≡ 1 → m * 2 ^ a * 2 ^ suc b ≢ n * 1 * 1
not_shifted m n a b p h =
    twice n (m * 2 ^ a * 2 ^ b) p
    (sym (mul-one n) ∙ sym (mul-one (n * 1)) ∙ sym h ∙ ap (λ (x : ℕ). m * 2 ^ a * x) (pow-succ' 2 b) ∙ mul_left_comm (m * 2 ^ a) 2 (2 ^ b))

odd_value : (m n : ℕ) (e g : ℤ) → m % 2 ≡ 1 → n % 2 ≡ 1 → m * up e * down g ≡ n * up g * down e → (m ≡ n) × (e ≡ g)
odd_value m n (pos a) (pos b) o p h =
    let r = odd_powers m n a b o p (sym (mul-one (m * 2 ^ a)) ∙ h ∙ mul-one (n * 2 ^ b)) in
    (r.0, ap pos r.1)
odd_value m n (pos a) (negsuc b) o p h = absurd (not_shifted m n a b p h)
odd_value m n (negsuc a) (pos b) o p h = absurd (not_shifted n m b a o (sym h))
odd_value m n (negsuc a) (negsuc b) o p h =
    let r = odd_powers m n (suc b) (suc a) o p (ap (λ (x : ℕ). x * 2 ^ suc b) (sym (mul-one m)) ∙ h ∙ ap (λ (x : ℕ). x * 2 ^ suc a) (mul-one n)) in
    (r.0, same r.1)
  where
    same : suc b ≡ suc a → negsuc a ≡ negsuc b
    same q = let z : a ≡ b = omega arith in ap negsuc z

-- a zero has no value above 0
pub zero_value : (e : ℤ) (a c : ℕ) → 0 * up e * c ≡ a * down e → 0 < a → ⊥
zero_value e a c h p = lt_irrefl 0 (subst (λ (x : ℕ). 0 < x) (sym h ∙ ap (λ (x : ℕ). x * c) (zero-mul (up e)) ∙ zero-mul c) (mul-pos p (down_pos e)))

-- a double with the value of the double ±(m + 1) × 2ᵉ is it
same_value : (x : Float) (s : Bool) (m : ℕ) (e : ℤ) → T (fits binary64 x) → T (fits binary64 (fin s (suc m) e)) → HasValue x s (suc m * up e) (down e) → x ≡ fin s (suc m) e
same_value nan s m e f g v = absurd v
same_value (inf t) s m e f g v = absurd v
same_value (fin t zero d) s m e f g v = absurd (zero_value d (suc m * up e) (down e) v.1 (mul-pos (zero-lt-suc m) (up_pos e)))
same_value (fin t (suc n) d) s m e f g v =
    let r = odd_value (suc n) (suc m) d e (is_odd t n d f) (is_odd s m e g) v.1 in
    λ i. fin (v.0 i) (r.0 i) (r.1 i)

-- ---- a double is the nearest to its own value

-- a double is below the end of its format
pub below_end : (m : ℕ) (e : ℤ) (i : ℕ) → m * up e < 2 ^ 1024 * down e → m * up e * 2 ^ 1074 ≡ m * 2 ^ i * down e → m * 2 ^ i < 2 ^ 2098
below_end m e i h q =
    lt_of_mul-lt-mul_right (down e)
    (lt_of_le_of_lt (le_of_eq (sym q)) (lt_of_lt_of_le (mul-lt-mul_of_pos_right h (pow_pos 1074)) (le_of_eq (mul_right_comm (2 ^ 1024) (down e) (2 ^ 1074)))))

keeps_value : (s : Bool) (m : ℕ) (e : ℤ) → T (fits binary64 (fin s (suc m) e)) → HasValue (round binary64 s (suc m * up e) (down e)) s (suc m * up e) (down e)
keeps_value s m e t =
    let h = says m s e t in
    let p = place e h.1 in
    let q = p.1 (suc m) in
    round_exact binary64 s (suc m * up e) (down e) (suc m) p.0 (down_pos e) h.0 (below_end (suc m) e p.0 h.2 q) q

pub round_itself : (s : Bool) (m : ℕ) (e : ℤ) → T (fits binary64 (fin s (suc m) e)) → round binary64 s (suc m * up e) (down e) ≡ fin s (suc m) e
round_itself s m e h = same_value (round binary64 s (suc m * up e) (down e)) s m e (round-fits binary64 s (suc m * up e) (down e)) h (keeps_value s m e h)

-- 1 × b is b
pub one_times : (b : Float) → T (fits binary64 b) → mul binary64 one_f b ≡ b
unfolding mul of_bits fits round
one_times nan h = refl
one_times (inf true) h = refl
one_times (inf false) h = refl
one_times (fin true zero e) h = rw (flat e (eqb→eq (up e * down e) 1 h))
one_times (fin false zero e) h = rw (flat e (eqb→eq (up e * down e) 1 h))
one_times (fin true (suc m) e) h = rw (one-mul (suc m * up e), one-mul (down e)) (round_itself true m e h)
one_times (fin false (suc m) e) h = rw (one-mul (suc m * up e), one-mul (down e)) (round_itself false m e h)

-- a × 1 is a
pub times_one : (a : Float) → T (fits binary64 a) → mul binary64 a one_f ≡ a
unfolding mul of_bits fits round
times_one nan h = refl
times_one (inf true) h = refl
times_one (inf false) h = refl
times_one (fin true zero e) h = rw (flat e (eqb→eq (up e * down e) 1 h))
times_one (fin false zero e) h = rw (flat e (eqb→eq (up e * down e) 1 h))
times_one (fin true (suc m) e) h = rw (mul-one (suc m * up e), mul-one (down e)) (round_itself true m e h)
times_one (fin false (suc m) e) h = rw (mul-one (suc m * up e), mul-one (down e)) (round_itself false m e h)

-- (a × b) × 1 is a × b, whatever a and b are: a product is a double
pub product_times_one : (a b : Float) → mul binary64 (mul binary64 a b) one_f ≡ mul binary64 a b
product_times_one a b = times_one (mul binary64 a b) (mul-fits binary64 a b)
