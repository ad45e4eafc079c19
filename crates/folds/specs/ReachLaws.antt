-- Laws of Reach.antt.
use Rattle.std.specs.Prelude.{◌≡◌, ℤ, Bool, true, false, cond, ◌&&◌, ◌||◌, List, ◌∷◌, map, ℕ, zero, suc, ◌+◌, ◌-◌, ◌*◌, ◌/◌, ◌%◌, ◌^◌, ◌≤◌, ◌<◌, ◌==◌, T, length, get_or, refl, ltb, eqb, Float}
use Rattle.std.proofs.Common.{sym, ap, ◌∙◌, arith, add-one, mul-pos, mul-le-mul, mul-le-mul_right, le_refl, ltb-true, eqb-true}
use native.Mathlib.Nat.{le_of_mul-le-mul_right}
use Rattle.std.specs.Bool.{beq}
use Rattle.std.specs.Float.{nan, inf, fin, Format, binary64}
use Rattle.std.specs.Float.Ieee.{of_bits, neg, odd, units, round, sum, add, sub, mul, lt, eq, le, unlike, low, prec, emax, up, down}
use Rattle.std.specs.Float.Ieee.Fits.{down_pos}
use Rattle.std.specs.Float.Ieee.Exact.{HasValue, odd_sign}
use Rattle.std.specs.Float.Ieee.Order.{round_mono}
use Rattle.loops.specs.All.{All}
use Rattle.loops.specs.AllLaws.{all_at}
use Rattle.loops.specs.Cases.{never}
use Rattle.loops.specs.Fold.{fold, all_of}
use Rattle.loops.specs.Places.{table}
use Rattle.loops.specs.PlaceLaws.{table_at, map_at}
use Rattle.basis.specs.declared.Basis.TheVariants.{Curve}
use Rattle.value.specs.Absolute.{abs_f}
use Rattle.value.specs.Finite.{finite}
use Rattle.value.specs.Numbers.{zero_f, one_f}
use Rattle.value.specs.Power.{times_if_odd, power_turns, power_from, power_f}
use Rattle.value.specs.Total.{total_f}
use Rattle.value.specs.TotalLaws.{total_again}
use Rattle.signs.specs.Negated.{round_neg}
use Rattle.monomial.specs.Rows.{row_at, rows_at, fitted}
use Rattle.monomial.specs.Terms.{terms_at}
use Rattle.fit.specs.Residuals.{residual, residuals}
use Rattle.folds.specs.Reach.{Under, Bounds}

-- ---- the sign of x does not count

neg_under : (x b : Float) → Under x b → Under (neg x) b
unfolding neg
neg_under nan b u = u
neg_under (inf s) b u = u
neg_under (fin s m e) nan u = u
neg_under (fin s m e) (inf t) u = u
neg_under (fin s m e) (fin true n d) u = u
neg_under (fin s m e) (fin false n d) u = u

pub under_finite : (x b : Float) → Under x b → finite x ≡ true
unfolding finite
under_finite nan b u = absurd u
under_finite (inf s) b u = absurd u
under_finite (fin s m e) b u = refl

-- ---- rounding keeps the order

le_parts : (a b : ℕ) → T (ltb a b || (eqb a b && true)) → a ≤ b
le_parts a b t = go (ltb a b) (eqb a b) refl refl t
  where
    go : (v w : Bool) → ltb a b ≡ v → eqb a b ≡ w → T (v || (w && true)) → a ≤ b
    go true w p q t = omega (arith, ltb-true a b p)
    go false true p q t = omega (arith, eqb-true a b q)
    go false false p q t = absurd t

-- two doubles from +0 on, whatever fractions these are
le_under : (x y : Float) (a c b d : ℕ) → HasValue x false a c → HasValue y false b d → T (le x y) → Under x y
unfolding le lt eq
le_under nan y a c b d p q t = absurd p
le_under (inf s) y a c b d p q t = absurd p
le_under (fin true m e) y a c b d p q t = never (sym p.0)
le_under (fin false m e) nan a c b d p q t = absurd q
le_under (fin false m e) (inf s) a c b d p q t = absurd q
le_under (fin false m e) (fin true n k) a c b d p q t = never (sym q.0)
le_under (fin false m e) (fin false n k) a c b d p q t = le_parts (m * up e * down k) (n * up k * down e) t

inf_above : (y : Float) (b d : ℕ) → HasValue y false b d → T (le (inf false) y) → ⊥
unfolding le lt eq
inf_above nan b d q t = absurd q
inf_above (inf s) b d q t = absurd q
inf_above (fin s n k) b d q t = absurd t

units_under : (f : Format) (q j r k : ℕ) → T (le (units f false q j) (units f false r k)) → finite (units f false r k) ≡ true → Under (units f false q j) (units f false r k)
unfolding units finite
units_under f q j r k = go (ltb (q * 2 ^ j) (2 ^ (low f + suc (emax f)))) (ltb (r * 2 ^ k) (2 ^ (low f + suc (emax f))))
  where
    go : (v w : Bool) → (let x = cond v (odd (suc (prec f)) false q j (low f)) (inf false) in let y = cond w (odd (suc (prec f)) false r k (low f)) (inf false) in
        T (le x y) → finite y ≡ true → Under x y)
    go true true t h = le_under _ _ _ _ _ _ (odd_sign (suc (prec f)) false q j (low f)) (odd_sign (suc (prec f)) false r k (low f)) t
    go false true t h = absurd (inf_above _ _ _ (odd_sign (suc (prec f)) false r k (low f)) t)
    go v false t h = never h

plain_under : (f : Format) (a b c d : ℕ) → T (le (round f false a b) (round f false c d)) → finite (round f false c d) ≡ true → Under (round f false a b) (round f false c d)
unfolding round
plain_under f a b c d t g = units_under f _ _ _ _ t g

round_under : (f : Format) (s : Bool) (a b c d : ℕ) → 0 < b → 0 < d → a * d ≤ c * b → finite (round f false c d) ≡ true → Under (round f s a b) (round f false c d)
round_under f s a b c d p q h g = go s
  where
    first : Under (round f false a b) (round f false c d)
    first = plain_under f a b c d (round_mono f a b c d p q h) g

    go : (s : Bool) → Under (round f s a b) (round f false c d)
    go false = first
    go true = rw (round_neg f false a b) (neg_under (round f false a b) (round f false c d) first)

-- ---- products

product : (m n p q a b c d : ℕ) → m * p ≤ a * b → n * q ≤ c * d → m * n * (p * q) ≤ a * c * (b * d)
product m n p q a b c d h g = omega (arith, mul-le-mul h g)

finite_left : (f : Format) (x y : Float) → finite (mul f x y) ≡ true → finite x ≡ true
unfolding mul finite
finite_left f nan y h = h
finite_left f (inf s) nan h = h
finite_left f (inf s) (inf t) h = h
finite_left f (inf s) (fin t n d) h = go (eqb n 0) h
  where
    go : (z : Bool) → finite (cond z nan (inf (unlike s t))) ≡ true → false ≡ true
    go true h = h
    go false h = h
finite_left f (fin s m e) y h = refl

finite_right : (f : Format) (x y : Float) → finite (mul f x y) ≡ true → finite y ≡ true
unfolding mul finite
finite_right f nan y h = never h
finite_right f (inf s) nan h = h
finite_right f (inf s) (inf t) h = h
finite_right f (inf s) (fin t n d) h = refl
finite_right f (fin s m e) nan h = h
finite_right f (fin s m e) (inf t) h = go (eqb m 0) h
  where
    go : (z : Bool) → finite (cond z nan (inf (unlike s t))) ≡ true → false ≡ true
    go true h = h
    go false h = h
finite_right f (fin s m e) (fin t n d) h = refl

-- what holds of two finite numbers under two that have no sign holds of any two under any
both_under : (P : Float → Float → Float → Float → Type 0)
    → ((s t : Bool) (m p n q : ℕ) (e k d l : ℤ) → Under (fin s m e) (fin false n d) → Under (fin t p k) (fin false q l) → P (fin s m e) (fin t p k) (fin false n d) (fin false q l))
    → (x y a b : Float) → Under x a → Under y b → P x y a b
both_under P g nan y a b u v = absurd u
both_under P g (inf s) y a b u v = absurd u
both_under P g (fin s m e) y nan b u v = absurd u
both_under P g (fin s m e) y (inf t) b u v = absurd u
both_under P g (fin s m e) y (fin true n d) b u v = absurd u
both_under P g (fin s m e) nan (fin false n d) b u v = absurd v
both_under P g (fin s m e) (inf t) (fin false n d) b u v = absurd v
both_under P g (fin s m e) (fin t p k) (fin false n d) nan u v = absurd v
both_under P g (fin s m e) (fin t p k) (fin false n d) (inf r) u v = absurd v
both_under P g (fin s m e) (fin t p k) (fin false n d) (fin true q l) u v = absurd v
both_under P g (fin s m e) (fin t p k) (fin false n d) (fin false q l) u v = g s t m p n q e k d l u v

mul_under : (f : Format) (x y a b : Float) → Under x a → Under y b → finite (mul f a b) ≡ true → Under (mul f x y) (mul f a b)
unfolding mul
mul_under f =
    both_under (λ x y a b. finite (mul f a b) ≡ true → Under (mul f x y) (mul f a b))
    (λ s t m p n q e k d l u v h.
    round_under f (unlike s t) (m * up e * (p * up k)) (down e * down k) (n * up d * (q * up l)) (down d * down l) (mul-pos (down_pos e) (down_pos k)) (mul-pos (down_pos d) (down_pos l))
    (product (m * up e) (p * up k) (down d) (down l) (n * up d) (down e) (q * up l) (down k) u v) h)

pub mul_bounds : (f : Format) (x y a b : Float) → Bounds a x → Bounds b y → Bounds (mul f a b) (mul f x y)
mul_bounds f x y a b u v h = mul_under f x y a b (u (finite_left f a b h)) (v (finite_right f a b h)) h

-- ---- sums and differences

finite_first : (f : Format) (x y : Float) → finite (add f x y) ≡ true → finite x ≡ true
unfolding add finite
finite_first f nan y h = h
finite_first f (inf s) nan h = h
finite_first f (inf s) (inf t) h = go (beq s t) h
  where
    go : (z : Bool) → finite (cond z (inf s) nan) ≡ true → false ≡ true
    go true h = h
    go false h = h
finite_first f (inf s) (fin t n d) h = h
finite_first f (fin s m e) y h = refl

finite_second : (f : Format) (x y : Float) → finite (add f x y) ≡ true → finite y ≡ true
unfolding add finite
finite_second f nan y h = never h
finite_second f (inf s) nan h = h
finite_second f (inf s) (inf t) h = go (beq s t) h
  where
    go : (z : Bool) → finite (cond z (inf s) nan) ≡ true → false ≡ true
    go true h = h
    go false h = h
finite_second f (inf s) (fin t n d) h = refl
finite_second f (fin s m e) nan h = h
finite_second f (fin s m e) (inf t) h = h
finite_second f (fin s m e) (fin t n d) h = refl

-- the fractions of a sum, where each part is under its bound
together : (m n p q a b c d : ℕ) → m * p ≤ a * b → n * q ≤ c * d → (m * d + n * b) * (p * q) ≤ (a * q + c * p) * (b * d)
together m n p q a b c d h g = omega (arith, mul-le-mul_right (d * q) h, mul-le-mul_right (b * p) g)

-- a difference of whole numbers is no more than their sum
less : (a b c d e : ℕ) → (a + b) * c ≤ d → e ≤ a + b → e * c ≤ d
less a b c d e h g = omega (arith, h, mul-le-mul_right c g)

sum_under : (f : Format) (s t : Bool) (a b c e d : ℕ) → 0 < c → 0 < d → (a + b) * d ≤ e * c → finite (round f false e d) ≡ true → Under (sum f s a t b c) (round f false e d)
unfolding sum
sum_under f s t a b c e d p q h g = go (beq s t) (ltb a b)
  where
    part : (s : Bool) (i : ℕ) → i ≤ a + b → Under (round f s i c) (round f false e d)
    part s i l = round_under f s i c e d p q (less a b d (e * c) i h l) g

    go : (v w : Bool) → Under (cond v (round f s (a + b) c) (cond w (round f t (b - a) c) (round f (s && ltb b a) (a - b) c))) (round f false e d)
    go true w = part s (a + b) (omega arith)
    go false true = part t (b - a) (omega arith)
    go false false = part (s && ltb b a) (a - b) (omega arith)

add_under : (f : Format) (x y a b : Float) → Under x a → Under y b → finite (add f a b) ≡ true → Under (add f x y) (add f a b)
unfolding add sum
add_under f =
    both_under (λ x y a b. finite (add f a b) ≡ true → Under (add f x y) (add f a b))
    (λ s t m p n q e k d l u v h.
    sum_under f s t (m * up e * down k) (p * up k * down e) (down e * down k) (n * up d * down l + q * up l * down d) (down d * down l) (mul-pos (down_pos e) (down_pos k))
    (mul-pos (down_pos d) (down_pos l)) (together (m * up e) (p * up k) (down d) (down l) (n * up d) (down e) (q * up l) (down k) u v) h)

pub add_bounds : (f : Format) (x y a b : Float) → Bounds a x → Bounds b y → Bounds (add f a b) (add f x y)
add_bounds f x y a b u v h = add_under f x y a b (u (finite_first f a b h)) (v (finite_second f a b h)) h

pub sub_bounds : (f : Format) (x y a b : Float) → Bounds a x → Bounds b y → Bounds (add f a b) (sub f x y)
unfolding sub
sub_bounds f x y a b u v = add_bounds f x (neg y) a b u (λ h. neg_under y b (v h))

-- ---- the same number, a size, and a bound that grows

pub size_bounds : (x : Float) → Bounds (abs_f x) x
unfolding abs_f finite
size_bounds nan h = never h
size_bounds (inf s) h = never h
size_bounds (fin s m e) h = le_refl (m * up e * down e)

zero_bounds : Bounds zero_f zero_f
unfolding of_bits abs_f
zero_bounds = size_bounds zero_f

one_bounds : Bounds one_f one_f
unfolding of_bits abs_f
one_bounds = size_bounds one_f

pub nothing_bounds : (x : Float) → Bounds (inf false) x
unfolding finite
nothing_bounds x h = never h

-- b has no sign, and x is no larger
pub held : (x b : Float) → le (abs_f x) (abs_f b) ≡ true → Bounds (abs_f b) x
unfolding abs_f le lt eq finite
held nan b t h = never t
held (inf s) nan t h = never h
held (inf s) (inf r) t h = never h
held (inf s) (fin r n d) t h = never t
held (fin s m e) nan t h = never h
held (fin s m e) (inf r) t h = never h
held (fin s m e) (fin r n d) t h = le_parts (m * up e * down d) (n * up d * down e) (rw t tt)

-- a larger one bounds too
through : (x y z p q r : ℕ) → 0 < q → x * q ≤ y * p → y * r ≤ z * q → x * r ≤ z * p
through x y z p q r o a b =
    let e : x * r * q ≤ z * p * q = omega (arith, mul-le-mul_right r a, mul-le-mul_right p b) in
    le_of_mul-le-mul_right e o

pub grown : (x a b : Float) → lt (abs_f a) (abs_f b) ≡ true → Bounds (abs_f a) x → Bounds (abs_f b) x
unfolding abs_f lt finite
grown x nan b t u h = never t
grown x (inf s) nan t u h = never h
grown x (inf s) (inf r) t u h = never h
grown x (inf s) (fin r n d) t u h = never t
grown x (fin s m e) nan t u h = never h
grown x (fin s m e) (inf r) t u h = never h
grown nan (fin s m e) (fin r n d) t u h = absurd (u refl)
grown (inf q) (fin s m e) (fin r n d) t u h = absurd (u refl)
grown (fin q p k) (fin s m e) (fin r n d) t u h =
    through (p * up k) (m * up e) (n * up d) (down k) (down e) (down d) (down_pos e) (u refl) (omega (arith, ltb-true (m * up e * down d) (n * up d * down e) t))

-- ---- powers

odd_bounds : (e : ℕ) (r b R B : Float) → Bounds R r → Bounds B b → Bounds (times_if_odd e R B) (times_if_odd e r b)
odd_bounds e r b R B u v = go (e % 2 == 1)
  where
    go : (t : Bool) → Bounds (cond t (mul binary64 R B) R) (cond t (mul binary64 r b) r)
    go true = mul_bounds binary64 r b R B u v
    go false = u

turns_bounds : (n : ℕ) (stop : Bool) (e : ℕ) (r b R B : Float) → Bounds R r → Bounds B b → Bounds (power_turns n stop e R B) (power_turns n stop e r b)
unfolding power_turns
turns_bounds zero stop e r b R B u v = u
turns_bounds (suc n) true e r b R B u v = u
turns_bounds (suc n) false e r b R B u v =
    turns_bounds n (e / 2 == 0) (e / 2) (times_if_odd e r b) (mul binary64 b b) (times_if_odd e R B) (mul binary64 B B) (odd_bounds e r b R B u v) (mul_bounds binary64 b b B B v v)

power_bounds : (x a : Float) (j : ℕ) → Bounds a x → Bounds (power_f a j) (power_f x j)
unfolding power_f power_from
power_bounds x a j u = turns_bounds (suc j) false j one_f x one_f a one_bounds u

-- ---- the fitted value and the residual

one_term : (f : ℕ → Float) (k : ℕ) → total_f (table f (suc k)) ≡ add binary64 (total_f (table f k)) (f k)
one_term f k = ap (λ (n : ℕ). total_f (table f n)) (sym (add-one k)) ∙ total_again f k

again_bounds : (f g : ℕ → Float) (k : ℕ) → Bounds (add binary64 (total_f (table g k)) (g k)) (add binary64 (total_f (table f k)) (f k)) → Bounds (total_f (table g (suc k))) (total_f (table f (suc k)))
again_bounds f g k b = rw (one_term f k, one_term g k) b

total_bounds : (f g : ℕ → Float) (k : ℕ) → ((j : ℕ) → j < k → Bounds (g j) (f j)) → Bounds (total_f (table g k)) (total_f (table f k))
unfolding table fold
total_bounds f g zero h = zero_bounds
total_bounds f g (suc k) h =
    again_bounds f g k
    (add_bounds binary64 (total_f (table f k)) (f k) (total_f (table g k)) (g k) (total_bounds f g k (λ j q. h j (omega arith))) (h k (omega arith)))

-- a test that passes at one element more
one_more : {A : Type 0} (f : A → Bool) (a : A) (l : List A) → f a ≡ true → all_of f l ≡ true → all_of f (a ∷ l) ≡ true
unfolding fold
one_more f a l e h = ap (λ (t : Bool). fold (λ b x. b && f x) t l) e ∙ h

-- a test that passes at each place of a table
every : {A B : Type 0} (f : B → Bool) (g : A → B) (p : ℕ → A) (n : ℕ) → ((t : ℕ) → t < n → f (g (p t)) ≡ true) → all_of f (map g (table p n)) ≡ true
unfolding table fold
every f g p zero h = refl
every f g p (suc n) h = one_more f (g (p 0)) (map g (table (λ t. p (suc t)) n)) (h 0 (omega arith)) (every f g (λ t. p (suc t)) n (λ t q. h (suc t) (omega arith)))

module _ (k : ℕ) (c : List Float) (h : k ≤ 16) (l : length c ≡ 16) where
  term_bounds : (x a : Float) → Bounds a x → (j : ℕ) → j < k
      → Bounds (mul binary64 (get_or (map abs_f c) j nan) (get_or (table (power_f a) 16) j nan)) (mul binary64 (get_or c j nan) (get_or (table (power_f x) 16) j nan))
  term_bounds x a u j q =
      rw (table_at (power_f a) 16 j nan (omega arith), table_at (power_f x) 16 j nan (omega arith), map_at abs_f c j nan nan (omega arith))
      (mul_bounds binary64 (get_or c j nan) (power_f x j) (abs_f (get_or c j nan)) (power_f a j) (size_bounds (get_or c j nan)) (power_bounds x a j u))

  fitted_bounds : (x a : Float) → Bounds a x → Bounds (fitted k (map abs_f c) (table (power_f a) 16)) (fitted k c (table (power_f x) 16))
  unfolding fitted
  fitted_bounds x a u = total_bounds _ _ k (term_bounds x a u)

  -- of rows of a curve whose x's and y's are within reach
  pub all_within : (across along : Float) (n : ℕ) (xs zs ys : List Float) → All (Bounds across) xs → All (Bounds along) ys → n ≤ length xs → n ≤ length ys
      → finite (add binary64 along (fitted k (map abs_f c) (table (power_f across) 16))) ≡ true → all_of finite (residuals k c (rows_at Curve n xs zs ys)) ≡ true
  unfolding residuals residual rows_at row_at terms_at
  all_within across along n xs zs ys u v p q g = every finite (residual k c) (row_at Curve xs zs ys) n (λ t r.
      under_finite _ _ (sub_bounds binary64 (get_or ys t nan) (fitted k c (table (power_f (get_or xs t nan)) 16)) along (fitted k (map abs_f c) (table (power_f across) 16))
      (all_at (Bounds along) ys t nan v (omega arith)) (fitted_bounds (get_or xs t nan) across (all_at (Bounds across) xs t nan u (omega arith))) g))
