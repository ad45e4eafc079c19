-- `root_f x` is the double nearest to √x, for every double x above zero, and no other double is.
use Rattle.std.proofs.Common.{◌≡◌, ℕ, zero, suc, ◌+◌, ◌-◌, ◌*◌, ◌/◌, ◌%◌, ◌^◌, ◌<◌, ◌≤◌, Bool, true, false, cond, not, T, ltb, sym, refl, ap, ◌∙◌, subst, inl, inr, zero-le, le_trans, le_of_eq, le_refl, lt_of_lt_of_le, lt_of_le_of_lt, le_of_lt, mul-le-mul_right, zero-lt-suc, mul_assoc, add-mul, mul-le-mul, add_comm, mul-lt-mul_of_pos_right, mul-pos, lt_of_not-le, not-le_of_lt, mul-div_cancel, arith, ltb→lt, nltb→le, pow_pos, pow_mono, pow-add}
use lib.Ieee.{Float, nan, inf, fin, binary64, up, down, size, units, fits, of_bits}
use lib.Ieee.Digits.{size-lt, size-le, size_reaches}
use lib.Ieee.Fits.{down_pos}
use lib.Ieee.Exact.{HasValue, units_val}
use lib.Ieee.Positive.{positive, positive_of_value}
use lib.Ieee.Bits.{of_bits-to_bits}
use Rattle.loops.specs.Cases.{either}
use Rattle.value.specs.Root.{isqrt, closest_root, root_of, root_f}
use Rattle.value.specs.Nearest.{ulps, whole_square, Nearest}
use Rattle.value.specs.Grid.{Double}
use Rattle.value.specs.GridLaws.{place, says, ulps_double, gap}
use Rattle.value.specs.Exact.{below_end}
use Rattle.value.proofs.SquareRoot.Numbers.{IsRoot, grown, root_le, isqrt_is, half, closest_root_at}
use Rattle.value.proofs.SquareRoot.Packing.{written, units_fit, below_all, bits_of_value, closest_low, closest_high, root_of_is, even_shift, odd_shift}
use Rattle.value.proofs.SquareRoot.Reading.{ulps_of_value, positive_value}

pow_lt_back : (i p : ℕ) → 2 ^ i < 2 ^ p → i < p
pow_lt_back i p h = lt_of_not-le (λ (g : p ≤ i). not-le_of_lt h (pow_mono g))

-- ---- squares
odd_square : (a : ℕ) → (2 * a + 1) * (2 * a + 1) ≡ 4 * (a * a) + 4 * a + 1
odd_square a = omega arith

even_square : (a : ℕ) → 2 * a * (2 * a) ≡ 4 * (a * a)
even_square a = omega arith

square_le : (a b : ℕ) → a ≤ b → whole_square a ≤ whole_square b
square_le a b h = mul-le-mul h h

square_lt : (a b : ℕ) → a < b → whole_square a < whole_square b
square_lt a b h = lt_of_le_of_lt (mul-le-mul (le_refl a) (le_of_lt h)) (mul-lt-mul_of_pos_right h (lt_of_le_of_lt zero-le h))

-- (a * p) ^ 2 is a ^ 2 * p ^ 2
square_mul : (a p : ℕ) → whole_square (a * p) ≡ whole_square a * (p * p)
square_mul a p = omega arith

-- ---- the two sides, by which of q and q + 1 is the closer: p is 2 ^ k, m the radicand over p ^ 2
four_times : (m p : ℕ) → 4 * (m * (p * p)) ≡ 4 * m * (p * p)
four_times m p = sym (mul_assoc 4 m (p * p))

odd_times : (q p : ℕ) → q * p + suc q * p ≡ (2 * q + 1) * p
odd_times q p = sym (add-mul q (suc q) p) ∙ ap (λ (x : ℕ). x * p) (sum q)
  where
    sum : (q : ℕ) → q + suc q ≡ 2 * q + 1
    sum q = omega arith

even_times : (q p : ℕ) → q * p + q * p ≡ 2 * q * p
even_times q p = sym (add-mul q q p) ∙ ap (λ (x : ℕ). x * p) (sum q)
  where
    sum : (q : ℕ) → q + q ≡ 2 * q
    sum q = omega arith

module _ (m p q v : ℕ) (P : 0 < p) (r : IsRoot m q) where
  -- q + 1 is the closer
  up_over : whole_square (2 * q + 1) < 4 * m → v ≤ q * p → whole_square (v + suc q * p) < 4 * (m * (p * p))
  up_over h l =
      lt_of_le_of_lt (square_le (v + suc q * p) ((2 * q + 1) * p) (le_trans (add_le v (q * p) (suc q * p) l) (le_of_eq (odd_times q p))))
      (lt_of_le_of_lt (le_of_eq (square_mul (2 * q + 1) p)) (lt_of_lt_of_le (mul-lt-mul_of_pos_right h (mul-pos P P)) (le_of_eq (sym (four_times m p)))))
    where
      add_le : (a b c : ℕ) → a ≤ b → a + c ≤ b + c
      add_le a b c h = omega arith

  up_under : suc q * p < v → 4 * (m * (p * p)) < whole_square (v + suc q * p)
  up_under l =
      lt_of_le_of_lt (le_of_eq (four_times m p))
      (lt_of_lt_of_le (mul-lt-mul_of_pos_right (fourfold m (whole_square (suc q)) r.high) (mul-pos P P))
      (le_trans (le_of_eq (ap (λ (x : ℕ). x * (p * p)) (sym (even_square (suc q)))))
      (le_trans (le_of_eq (sym (square_mul (2 * suc q) p)))
      (square_le (2 * suc q * p) (v + suc q * p) (le_trans (le_of_eq (sym (even_times (suc q) p))) (add_le (suc q * p) v (suc q * p) l))))))
    where
      fourfold : (m w : ℕ) → m < w → 4 * m < 4 * w
      fourfold m w h = omega arith

      add_le : (a b c : ℕ) → a < b → a + c ≤ b + c
      add_le a b c h = omega arith

  -- q is the closer
  down_over : v < q * p → whole_square (v + q * p) < 4 * (m * (p * p))
  down_over l =
      lt_of_lt_of_le (square_lt (v + q * p) (2 * q * p) (lt_of_lt_of_le (add_lt v (q * p) (q * p) l) (le_of_eq (even_times q p))))
      (le_trans (le_of_eq (square_mul (2 * q) p ∙ ap (λ (x : ℕ). x * (p * p)) (even_square q)))
      (le_trans (mul-le-mul_right (p * p) (fourfold (whole_square q) m r.low)) (le_of_eq (sym (four_times m p)))))
    where
      fourfold : (w m : ℕ) → w ≤ m → 4 * w ≤ 4 * m
      fourfold w m h = omega arith

      add_lt : (a b c : ℕ) → a < b → a + c < b + c
      add_lt a b c h = omega arith

  down_under : 4 * m ≤ whole_square (2 * q + 1) → suc q * p ≤ v → 4 * (m * (p * p)) < whole_square (v + q * p)
  down_under h l =
      lt_of_le_of_lt (le_of_eq (four_times m p))
      (lt_of_lt_of_le (mul-lt-mul_of_pos_right (no_tie m (q * q) q (whole_square (2 * q + 1)) (odd_square q) h) (mul-pos P P))
      (le_trans (le_of_eq (sym (square_mul (2 * q + 1) p)))
      (square_le ((2 * q + 1) * p) (v + q * p) (le_trans (le_of_eq (sym (odd_times q p))) (add_le (suc q * p) v (q * p) l)))))
    where
      no_tie : (m w q o : ℕ) → o ≡ 4 * w + 4 * q + 1 → 4 * m ≤ o → 4 * m < o
      no_tie m w q o e h = omega arith

      add_le : (a b c : ℕ) → a ≤ b → c + a ≤ b + c
      add_le a b c h = omega arith

-- ---- w * 2 ^ k is the closest to √(m * 4 ^ k) among it and v
Sides : ℕ → ℕ → ℕ → ℕ → Type 0
Sides m k v w = (v < w * 2 ^ k → whole_square (v + w * 2 ^ k) < 4 * (m * (2 ^ k * 2 ^ k))) × (w * 2 ^ k < v → 4 * (m * (2 ^ k * 2 ^ k)) < whole_square (v + w * 2 ^ k))

half_square : (q : ℕ) → half q ≡ whole_square (2 * q + 1)
unfolding half
half_square q = refl

sides : (m k v : ℕ) → 2 ^ 104 ≤ m → m < 2 ^ 106 → Double v → Sides m k v (closest_root m)
unfolding Sides
sides m k v a b d = subst (λ (w : ℕ). Sides m k v w) (sym (closest_root_at m (isqrt 53 m) refl)) (go (isqrt 53 m) (isqrt_is 53 m b) (ltb (half (isqrt 53 m)) (4 * m)) (ltb→lt (half (isqrt 53 m)) (4 * m)) (nltb→le (half (isqrt 53 m)) (4 * m)))
  where
    go : (q : ℕ) → IsRoot m q → (t : Bool) → (T t → half q < 4 * m) → (T (not t) → 4 * m ≤ half q) → Sides m k v (cond t (suc q) q)
    go q r true f g = (
      λ l.
          elim (gap v q k d (root_le m (2 ^ 52) q a r.high)) [
            | inl x ↦ up_over m (2 ^ k) q v (pow_pos k) r (subst (λ (y : ℕ). y < 4 * m) (half_square q) (f tt)) x
            | inr x ↦ absurd (not-le_of_lt l x)
          ],
      λ l. up_under m (2 ^ k) q v (pow_pos k) r l,
    )
    go q r false f g = (
      λ l. down_over m (2 ^ k) q v (pow_pos k) r l,
      λ l.
          elim (gap v q k d (root_le m (2 ^ 52) q a r.high)) [
            | inl x ↦ absurd (not-le_of_lt l x)
            | inr x ↦ down_under m (2 ^ k) q v (pow_pos k) r (subst (λ (y : ℕ). 4 * m ≤ y) (half_square q) (g tt)) x
          ],
    )

-- ---- c * 2 ^ j, with c of at most 53 digits, is m * 4 ^ k with m of 105 or 106
record Scaled (n : ℕ) : Type 0 where
  m : ℕ
  k : ℕ
  lo : 2 ^ 104 ≤ m
  hi : m < 2 ^ 106
  is : n ≡ m * (2 ^ k * 2 ^ k)

scaled_full : (c j : ℕ) → 2 ^ 52 ≤ c → c < 2 ^ 53 → 52 ≤ j → Scaled (c * 2 ^ j)
scaled_full c j a b h =
    either 1 (j % 2)
    (λ l. record { m = c * 2 * 2 ^ 52; k = j / 2 - 26; lo = omega arith; hi = omega arith; is = odd_shift c j (j / 2 - 26) (odd j h l) })
    (λ l. record { m = c * 2 ^ 52; k = j / 2 - 26; lo = omega arith; hi = omega arith; is = even_shift c j (j / 2 - 26) (even j h l) })
  where
    even : (j : ℕ) → 52 ≤ j → j % 2 < 1 → j ≡ 52 + (j / 2 - 26 + (j / 2 - 26))
    even j h l = omega arith

    odd : (j : ℕ) → 52 ≤ j → 1 ≤ j % 2 → j ≡ 53 + (j / 2 - 26 + (j / 2 - 26))
    odd j h l = omega arith

scaled : (c j : ℕ) → 0 < c → c < 2 ^ 53 → 1074 ≤ j → Scaled (c * 2 ^ j)
scaled c j a b h =
    let s = size c in
    let most : s ≤ 53 = size-le c 53 b in
    let least : 0 < s = lt_of_not-le (λ (g : s ≤ 0). not-le_of_lt (lt_of_lt_of_le (size-lt c) (pow_mono g)) a) in
    let one : s ≡ suc (s - 1) = omega arith in
    let z = 53 - s in
    let w = grown c (s - 1) z (omega arith) (size_reaches c (s - 1) (omega arith)) (subst (λ (n : ℕ). c < 2 ^ n) one (size-lt c)) in
    let all : z + (j - z) ≡ j = omega arith in
    let e : c * 2 ^ z * 2 ^ (j - z) ≡ c * 2 ^ j = mul_assoc c (2 ^ z) (2 ^ (j - z)) ∙ ap (λ (x : ℕ). c * x) (sym (pow-add 2 z (j - z)) ∙ ap (λ (x : ℕ). 2 ^ x) all) in
    subst Scaled e (scaled_full (c * 2 ^ z) (j - z) w.0 w.1 (omega arith))

-- ---- values and their sizes
-- what a double above zero is
record Grains (x : Float) : Type 0 where
  c : ℕ
  i : ℕ
  pos' : 0 < c
  short : c < 2 ^ 53
  is : ulps x ≡ c * 2 ^ i
  bound : c * 2 ^ i < 2 ^ 2098
  value : HasValue x false (ulps x) (2 ^ 1074)

grains_is : (x : Float) → T (fits binary64 x) → T (positive x) → Grains x
grains_is nan f t = absurd t
grains_is (inf s) f t = absurd t
grains_is (fin true m e) f t = absurd t
grains_is (fin false zero e) f t = absurd t
grains_is (fin false (suc m) e) f t =
    let h = says m false e f in
    let p = place e h.1 in
    let g : suc m * up e * 2 ^ 1074 / down e ≡ suc m * 2 ^ p.0 = ap (λ (x : ℕ). x / down e) (p.1 (suc m)) ∙ mul-div_cancel (suc m * 2 ^ p.0) (down_pos e) in
    record {
      c = suc m;
      i = p.0;
      pos' = zero-lt-suc m;
      short = h.0;
      is = g;
      bound = below_end (suc m) e p.0 h.2 (p.1 (suc m));
      value = (refl, p.1 (suc m) ∙ ap (λ (x : ℕ). x * down e) (sym g));
    }

-- ---- the law
few : (m k n : ℕ) → 2 ^ 104 ≤ m → n ≡ m * (2 ^ k * 2 ^ k) → n < 2 ^ 3172 → k ≤ 2000
few m k n a e h = far k (pow_lt_back (104 + (k + k)) 3172 (lt_of_le_of_lt (le_trans (le_of_eq (pow-add 2 104 (k + k) ∙ ap (λ (x : ℕ). 2 ^ 104 * x) (pow-add 2 k k))) (le_trans (mul-le-mul_right (2 ^ k * 2 ^ k) a) (le_of_eq (sym e)))) h))
  where
    far : (k : ℕ) → 104 + (k + k) < 3172 → k ≤ 2000
    far k h = omega arith

nearest_units : (x : Float) (n m k : ℕ) → T (positive x) → n ≡ ulps x * 2 ^ 1074 → 2 ^ 104 ≤ m → m < 2 ^ 106 → n ≡ m * (2 ^ k * 2 ^ k) → k ≤ 2000 → Nearest x (units binary64 false (closest_root m) k)
nearest_units x n m k p g a b e h =
    let q = closest_root m in
    let r = units binary64 false q k in
    let w : HasValue r false (q * 2 ^ k) (2 ^ 1074) = units_val binary64 false q k (below_all q k (closest_high m b) h) in
    let s : ulps r ≡ q * 2 ^ k = ulps_of_value r (q * 2 ^ k) w in
    let t : m * (2 ^ k * 2 ^ k) ≡ ulps x * 2 ^ 1074 = sym e ∙ g in
    record {
      of = p;
      held = units_fit q k (closest_high m b) h;
      above = positive_of_value r (q * 2 ^ k) (2 ^ 1074) w (mul-pos (lt_of_lt_of_le (pow_pos 52) (closest_low m b a)) (pow_pos k));
      over = λ y f. rw s (subst (λ (z : ℕ). ulps y < q * 2 ^ k → whole_square (ulps y + q * 2 ^ k) < 4 * z) t (both m k (ulps y) q (sides m k (ulps y) a b (ulps_double y f))).0);
      under = λ y f. rw s (subst (λ (z : ℕ). q * 2 ^ k < ulps y → 4 * z < whole_square (ulps y + q * 2 ^ k)) t (both m k (ulps y) q (sides m k (ulps y) a b (ulps_double y f))).1);
    }
  where
    both : (m k v w : ℕ) → Sides m k v w → (v < w * 2 ^ k → whole_square (v + w * 2 ^ k) < 4 * (m * (2 ^ k * 2 ^ k))) × (w * 2 ^ k < v → 4 * (m * (2 ^ k * 2 ^ k)) < whole_square (v + w * 2 ^ k))
    both m k v w s = unfold Sides in s

pub root_f_nearest : (x : Float) → T (fits binary64 x) → T (positive x) → Nearest x (root_f x)
root_f_nearest x f t =
    let g = grains_is x f t in
    let n = g.c * 2 ^ (g.i + 1074) in
    let e : n ≡ ulps x * 2 ^ 1074 = ap (λ (z : ℕ). g.c * z) (pow-add 2 g.i 1074) ∙ sym (mul_assoc g.c (2 ^ g.i) (2 ^ 1074)) ∙ ap (λ (z : ℕ). z * 2 ^ 1074) (sym g.is) in
    let s = scaled g.c (g.i + 1074) g.pos' g.short (more g.i) in
    let big : n < 2 ^ 3172 = lt_of_le_of_lt (le_of_eq (e ∙ ap (λ (z : ℕ). z * 2 ^ 1074) g.is)) (mul-lt-mul_of_pos_right g.bound (pow_pos 1074)) in
    let p : 0 < ulps x = subst (λ (z : ℕ). 0 < z) (sym g.is) (mul-pos g.pos' (pow_pos g.i)) in
    let r : root_f x ≡ units binary64 false (closest_root s.m) s.k = positive_value x (ulps x) g.value p ∙ ap root_of (sym e ∙ s.is) ∙ root_of_is s.m s.k s.lo s.hi in
    subst (λ (z : Float). Nearest x z) (sym r) (nearest_units x n s.m s.k t e s.lo s.hi s.is (few s.m s.k n s.lo s.is big))
  where
    more : (i : ℕ) → 1074 ≤ i + 1074
    more i = omega arith

-- ---- there is one nearest double
clash : (a b c d : ℕ) → a < c → c < b → a ≡ b → ⊥
clash a b c d h k e = omega arith

same_grains : (x r s : Float) → Nearest x r → Nearest x s → ulps r < ulps s → ⊥
same_grains x r s a b l =
    clash (whole_square (ulps r + ulps s)) (whole_square (ulps s + ulps r)) (4 * (ulps x * 2 ^ 1074)) 0 (b.over r a.held l) (a.under s b.held l) (ap whole_square (add_comm (ulps r) (ulps s)))

by_grains : (r s : Float) → T (fits binary64 r) → T (fits binary64 s) → T (positive r) → T (positive s) → ulps r ≡ ulps s → r ≡ s
by_grains r s f g p q e =
    sym (of_bits-to_bits binary64 r f)
    ∙ ap (of_bits binary64) (bits_of_value r (ulps r) (grains_is r f p).value ∙ ap (λ (n : ℕ). written n (size n)) e ∙ sym (bits_of_value s (ulps s) (grains_is s g q).value))
    ∙ of_bits-to_bits binary64 s g

pub nearest_unique : (x r s : Float) → Nearest x r → Nearest x s → r ≡ s
nearest_unique x r s a b = by_grains r s a.held b.held a.above b.above (meet (ulps r) (ulps s) (same_grains x r s a b) (same_grains x s r b a))
  where
    meet : (m n : ℕ) → (m < n → ⊥) → (n < m → ⊥) → m ≡ n
    meet m n h k = omega arith
