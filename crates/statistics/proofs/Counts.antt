-- Counts of bits over a list of doubles with no NaN and no sign: how they grow along a list, and what they tell of a place of the list in order.
use Rattle.std.proofs.Common.{◌≡◌, ℕ, suc, ◌+◌, ◌-◌, ◌<◌, ◌≤◌, Bool, true, false, not, ◌&&◌, T, ltb, leb, ◌⊎◌, List, [], ◌∷◌, ◌++◌, map, length, get_or, take, sym, refl, ap, ◌∙◌, subst, inl, inr, zero-le, le_trans, le_refl, add_comm, le_antisymm, zero-add, arith, le→leb, leb→le, ltb-false, ltb-true, lt-ltb, le-leb, leb-false, leb-true}
use borrow.Author.Tests.{lt-leb}
use lib.Dec.{nleb→lt}
use lib.Ieee.{Float, nan, binary64, sub, to_bits, of_bits}
use lib.Ieee.Bits.{of_bits-to_bits}
use Rattle.std.specs.Int.{from_bool}
use Rattle.std.proofs.lemmas.List.{map_more}
use Rattle.loops.specs.All.{All}
use Rattle.loops.specs.AllLaws.{all_at}
use Rattle.loops.specs.Cases.{by_test, either, never, and_first, and_second}
use Rattle.loops.specs.Fold.{fold}
use Rattle.loops.specs.FoldLaws.{fold_map_again}
use Rattle.value.specs.Absolute.{abs_f}
use Rattle.value.specs.Keys.{bits_le, plain_fits}
use Rattle.statistics.specs.Medians.{sort}
use Rattle.statistics.specs.Counting.{Plain, distances, count, upto, under, onward, AtPlace, Middles, InRange, nearer, farther, least_from, greatest_under}
use Rattle.statistics.proofs.Sorting.{place, all_sort, length_sort}

-- ---- counts along a list

pub from_bool_most : (t : Bool) → from_bool t ≤ 1
from_bool_most true = le_refl 1
from_bool_most false = zero-le

count_snoc : (p : Float → Bool) (l : List Float) (x : Float) → count p (l ++ (x ∷ [])) ≡ count p l + from_bool (p x)
unfolding count
count_snoc p [] x = add_comm (from_bool (p x)) 0
count_snoc p (y ∷ ys) x = let h = count_snoc p ys x in omega arith

-- one turn of a loop over distances
module _ (d : Float) (a : List Float) (i : ℕ) (h : i < length a) where
  pub count_turn : (p : Float → Bool) → count p (distances d (take i a)) + from_bool (p (abs_f (sub binary64 (abs_f (get_or a i nan)) d))) ≡ count p (distances d (take (i + 1) a))
  unfolding distances
  count_turn p = sym (ap (count p) (map_more (λ x. abs_f (sub binary64 (abs_f x) d)) a i nan h) ∙ count_snoc p (map (λ x. abs_f (sub binary64 (abs_f x) d)) (take i a)) _)

  pub least_turn : (b : ℕ) → nearer b (to_bits binary64 (abs_f (sub binary64 (abs_f (get_or a i nan)) d))) (least_from b (distances d (take i a))) ≡ least_from b (distances d (take (i + 1) a))
  unfolding least_from distances
  least_turn b = sym (fold_map_again (λ v x. nearer b (to_bits binary64 x) v) 0x7FF0_0000_0000_0000 (λ x. abs_f (sub binary64 (abs_f x) d)) a nan i h)

  pub greatest_turn : (b : ℕ) → farther b (to_bits binary64 (abs_f (sub binary64 (abs_f (get_or a i nan)) d))) (greatest_under b (distances d (take i a))) ≡ greatest_under b (distances d (take (i + 1) a))
  unfolding greatest_under distances
  greatest_turn b = sym (fold_map_again (λ v x. farther b (to_bits binary64 x) v) 0 (λ x. abs_f (sub binary64 (abs_f x) d)) a nan i h)

-- a test that passes wherever another does counts as many
one_mono : (a b : Bool) → (T a → T b) → from_bool a ≤ from_bool b
one_mono true true f = omega arith
one_mono true false f = absurd (f tt)
one_mono false b f = zero-le

pub count_mono : (p q : Float → Bool) (l : List Float) → ((x : Float) → T (p x) → T (q x)) → count p l ≤ count q l
unfolding count
count_mono p q [] f = zero-le
count_mono p q (x ∷ xs) f = let a = one_mono (p x) (q x) (f x) in let b = count_mono p q xs f in omega arith

-- what is under b + 1 is up to b
pub under_next : (b : ℕ) (l : List Float) → count (under (b + 1)) l ≡ count (upto b) l
unfolding count
under_next b [] = refl
under_next b (x ∷ xs) = rw (next (to_bits binary64 x) (leb (to_bits binary64 x) b) refl) (ap (λ (n : ℕ). from_bool (leb (to_bits binary64 x) b) + n) (under_next b xs))
  where
    next : (k : ℕ) (t : Bool) → leb k b ≡ t → not (leb (b + 1) k) ≡ t
    next k true q = let h = leb-true k b q in rw (lt-leb (b + 1) k (omega arith))
    next k false q = let h = leb-false k b q in rw (le-leb (b + 1) k (omega arith))

-- what is not under b is b or above
pub under_rest : (b : ℕ) (l : List Float) → count (under b) l + count (onward b) l ≡ length l
unfolding count
under_rest b [] = refl
under_rest b (x ∷ xs) = let h = under_rest b xs in let g = one_rest (onward b x) in omega arith
  where
    one_rest : (t : Bool) → from_bool (not t) + from_bool t ≡ 1
    one_rest true = refl
    one_rest false = refl

pub under_zero : (l : List Float) → count (under 0) l ≡ 0
unfolding count
under_zero [] = refl
under_zero (x ∷ xs) = rw (le-leb 0 (to_bits binary64 x) zero-le) (zero-add (count (under 0) xs) ∙ under_zero xs)

-- no bits are above +infinity's
pub upto_all : (l : List Float) → All Plain l → count (upto 0x7FF0_0000_0000_0000) l ≡ length l
unfolding count
upto_all [] a = refl
upto_all (x ∷ xs) a =
    rw (le-leb (to_bits binary64 x) 0x7FF0_0000_0000_0000 (bits_le x a.0)) (let h = upto_all xs a.1 in omega arith)

-- ---- the least bits that are b or above

and_not : (a b : Bool) → a && b ≡ false → a ≡ true → b ≡ false
and_not true b h q = h
and_not false b h q = never q

-- what a turn makes of v: v itself, or the bits k, which are then b or above and below v
record Turn (b k v r : ℕ) : Type 0 where
  low : r ≤ v
  over : b ≤ k → r ≤ k
  kind : (r ≡ v) ⊎ ((r ≡ k) × (b ≤ k))

turn : (b k v : ℕ) → Turn b k v (nearer b k v)
unfolding nearer
turn b k v =
    by_test (leb b k && ltb k v)
    (λ t. rw t
    (let p = leb-true b k (and_first (leb b k) (ltb k v) t) in let q = ltb-true k v (and_second (leb b k) (ltb k v) t) in
    record { low = omega arith; over = λ _. le_refl k; kind = inr (refl, p) }))
    (λ t. rw t
    (record { low = le_refl v; over = λ h. ltb-false k v (and_not (leb b k) (ltb k v) t (le-leb b k h)); kind = inl refl }))

-- the least from b on, a run that begins at v
least_over : ℕ → ℕ → List Float → ℕ
least_over b v l = fold (λ u x. nearer b (to_bits binary64 x) u) v l

least_low : (b v : ℕ) (l : List Float) → least_over b v l ≤ v
unfolding least_over fold
least_low b v [] = le_refl v
least_low b v (x ∷ xs) = le_trans (least_low b (nearer b (to_bits binary64 x) v) xs) (turn b (to_bits binary64 x) v).low

-- none of the list lies from b up to below it
least_under : (b v : ℕ) (l : List Float) → count (under (least_over b v l)) l ≤ count (under b) l
unfolding least_over fold count
least_under b v [] = zero-le
least_under b v (x ∷ xs) =
    let k = to_bits binary64 x in
    let w = nearer b k v in
    let r = least_over b w xs in
    let ih = least_under b w xs in
    let h = one_mono (under r x) (under b x)
    (λ t. under_true b k (lesser b k r (λ g. le_trans (least_low b w xs) ((turn b k v).over g)) (nleb→lt r k t))) in
    omega (arith, ih, h)
  where
    lesser : (b k r : ℕ) → (b ≤ k → r ≤ k) → k < r → k < b
    lesser b k r f q = either b k (λ h. absurd (let z = f h in omega arith)) (λ h. h)

    under_true : (b k : ℕ) → k < b → T (not (leb b k))
    under_true b k h = subst (λ (t : Bool). T (not t)) (sym (lt-leb b k h)) tt

-- it is where the run began, or one more than are under b are up to it
least_reached : (b v : ℕ) (l : List Float) → b ≤ suc v
    → (b ≤ suc (least_over b v l)) × ((least_over b v l ≡ v) ⊎ (count (under b) l < count (upto (least_over b v l)) l))
unfolding least_over fold count
least_reached b v [] h = (h, inl refl)
least_reached b v (x ∷ xs) h =
    let k = to_bits binary64 x in
    let w = nearer b k v in
    let r = least_over b w xs in
    let ih = least_reached b w xs (from_turn b k v w h (turn b k v).kind) in
    let more = count_mono (under b) (upto r) xs (λ y t. le→leb (to_bits binary64 y) r (let g = nleb→lt b (to_bits binary64 y) t in omega (arith, g, ih.0))) in
    let same = one_mono (under b x) (upto r x) (λ t. le→leb k r (let g = nleb→lt b k t in omega (arith, g, ih.0))) in (
      ih.0,
      joined b k v w r (from_bool (under b x)) (from_bool (upto r x)) (count (under b) xs) (count (upto r) xs) more same
          (λ g. ap (λ (t : Bool). from_bool (not t)) (le-leb b k g)) (λ g. ap from_bool (le-leb k r g)) (turn b k v).kind ih.1,
    )
  where
    from_turn : (b k v w : ℕ) → b ≤ suc v → (w ≡ v) ⊎ ((w ≡ k) × (b ≤ k)) → b ≤ suc w
    from_turn b k v w h (inl e) = omega arith
    from_turn b k v w h (inr e) = omega (arith, e.0, e.1)

    joined : (b k v w r p q m n : ℕ) → m ≤ n → p ≤ q → (b ≤ k → p ≡ 0) → (k ≤ r → q ≡ 1) → (w ≡ v) ⊎ ((w ≡ k) × (b ≤ k)) → (r ≡ w) ⊎ (m < n)
        → (r ≡ v) ⊎ (p + m < q + n)
    joined b k v w r p q m n mn pq f g (inl e) (inl z) = inl (z ∙ e)
    joined b k v w r p q m n mn pq f g (inr e) (inl z) =
        inr (let a = f e.1 in let d = g (omega (arith, z, e.0)) in omega (arith, a, d, mn))
    joined b k v w r p q m n mn pq f g e (inr z) = inr (omega arith)

-- ---- the greatest bits under b

-- what a turn makes of v: v itself, or the bits k, which are then under b and above v
record Further (b k v r : ℕ) : Type 0 where
  high : v ≤ r
  over : k < b → k ≤ r
  kind : (r ≡ v) ⊎ ((r ≡ k) × (k < b))

further : (b k v : ℕ) → Further b k v (farther b k v)
unfolding farther
further b k v =
    by_test (ltb k b && ltb v k)
    (λ t. rw t
    (let p = ltb-true k b (and_first (ltb k b) (ltb v k) t) in let q = ltb-true v k (and_second (ltb k b) (ltb v k) t) in
    record { high = omega arith; over = λ _. le_refl k; kind = inr (refl, p) }))
    (λ t. rw t
    (record { high = le_refl v; over = λ h. ltb-false v k (and_not (ltb k b) (ltb v k) t (lt-ltb k b h)); kind = inl refl }))

-- the greatest under b, a run that begins at v
greatest_over : ℕ → ℕ → List Float → ℕ
greatest_over b v l = fold (λ u x. farther b (to_bits binary64 x) u) v l

greatest_high : (b v : ℕ) (l : List Float) → v ≤ greatest_over b v l
unfolding greatest_over fold
greatest_high b v [] = le_refl v
greatest_high b v (x ∷ xs) = le_trans (further b (to_bits binary64 x) v).high (greatest_high b (farther b (to_bits binary64 x) v) xs)

-- all that are under b are up to it
greatest_upto : (b v : ℕ) (l : List Float) → count (under b) l ≤ count (upto (greatest_over b v l)) l
unfolding greatest_over fold count
greatest_upto b v [] = zero-le
greatest_upto b v (x ∷ xs) =
    let k = to_bits binary64 x in
    let w = farther b k v in
    let r = greatest_over b w xs in
    let ih = greatest_upto b w xs in
    let h = one_mono (under b x) (upto r x) (λ t. le→leb k r (le_trans ((further b k v).over (nleb→lt b k t)) (greatest_high b w xs))) in
    omega (arith, ih, h)

-- it is where the run began, or fewer are under it than under b
greatest_under_lem : (b v : ℕ) (l : List Float) → v ≤ b → (greatest_over b v l ≤ b) × ((greatest_over b v l ≡ v) ⊎ (count (under (greatest_over b v l)) l < count (under b) l))
unfolding greatest_over fold count
greatest_under_lem b v [] h = (h, inl refl)
greatest_under_lem b v (x ∷ xs) h =
    let k = to_bits binary64 x in
    let w = farther b k v in
    let r = greatest_over b w xs in
    let ih = greatest_under_lem b w xs (from_turn b k v w h (further b k v).kind) in
    let more = count_mono (under r) (under b) xs (λ y t. under_yes b r (to_bits binary64 y) ih.0 t) in
    let same = one_mono (under r x) (under b x) (under_yes b r k ih.0) in (
      ih.0,
      joined b k v w r (from_bool (under r x)) (from_bool (under b x)) (count (under r) xs) (count (under b) xs) more same
          (λ g. ap (λ (t : Bool). from_bool (not t)) (le-leb r k g)) (λ g. ap (λ (t : Bool). from_bool (not t)) (lt-leb b k g)) (further b k v).kind ih.1,
    )
  where
    from_turn : (b k v w : ℕ) → v ≤ b → (w ≡ v) ⊎ ((w ≡ k) × (k < b)) → w ≤ b
    from_turn b k v w h (inl e) = omega arith
    from_turn b k v w h (inr e) = omega (arith, e.0, e.1)

    under_yes : (b r k : ℕ) → r ≤ b → T (not (leb r k)) → T (not (leb b k))
    under_yes b r k h t = subst (λ (u : Bool). T (not u)) (sym (lt-leb b k (let g = nleb→lt r k t in omega arith))) tt

    joined : (b k v w r p q m n : ℕ) → m ≤ n → p ≤ q → (r ≤ k → p ≡ 0) → (k < b → q ≡ 1) → (w ≡ v) ⊎ ((w ≡ k) × (k < b)) → (r ≡ w) ⊎ (m < n)
        → (r ≡ v) ⊎ (p + m < q + n)
    joined b k v w r p q m n mn pq f g (inl e) (inl z) = inl (z ∙ e)
    joined b k v w r p q m n mn pq f g (inr e) (inl z) =
        inr (let a = f (omega (arith, z, e.0)) in let d = g e.1 in omega (arith, a, d, mn))
    joined b k v w r p q m n mn pq f g e (inr z) = inr (omega arith)

-- ---- both ends of a range moved to numbers

least_from_lem : (b v : ℕ) (l : List Float) → b ≤ v → b ≤ least_over b v l
unfolding least_over fold
least_from_lem b v [] h = h
least_from_lem b v (x ∷ xs) h = least_from_lem b (nearer b (to_bits binary64 x) v) xs (from_turn b (to_bits binary64 x) v (nearer b (to_bits binary64 x) v) h (turn b (to_bits binary64 x) v).kind)
  where
    from_turn : (b k v w : ℕ) → b ≤ v → (w ≡ v) ⊎ ((w ≡ k) × (b ≤ k)) → b ≤ w
    from_turn b k v w h (inl e) = omega arith
    from_turn b k v w h (inr e) = omega (arith, e.0, e.1)

greatest_below : (b v : ℕ) (l : List Float) → v < b → greatest_over b v l < b
unfolding greatest_over fold
greatest_below b v [] h = h
greatest_below b v (x ∷ xs) h = greatest_below b (farther b (to_bits binary64 x) v) xs (from_turn b (to_bits binary64 x) v (farther b (to_bits binary64 x) v) h (further b (to_bits binary64 x) v).kind)
  where
    from_turn : (b k v w : ℕ) → v < b → (w ≡ v) ⊎ ((w ≡ k) × (k < b)) → w < b
    from_turn b k v w h (inl e) = omega arith
    from_turn b k v w h (inr e) = omega (arith, e.0, e.1)

-- the least from lo on and the greatest up to hi, of a range that place m lies in: a range as good, and no wider
pub record Moved (l : List Float) (lo hi low high : ℕ) : Type 0 where
  pub from : lo ≤ low
  pub to : high ≤ hi
  pub ordered : low ≤ high
  pub below : count (under low) l ≡ count (under lo) l
  pub reached : count (upto high) l ≡ count (upto hi) l

pub ends_moved : (l : List Float) (m lo hi : ℕ) → lo ≤ hi → hi ≤ 0x7FF0_0000_0000_0000 → count (under lo) l ≤ m → m < count (upto hi) l
    → Moved l lo hi (least_from lo l) (greatest_under (hi + 1) l)
unfolding least_from least_over greatest_under greatest_over
ends_moved l m lo hi o s b r =
    let low = least_over lo 0x7FF0_0000_0000_0000 l in
    let high = greatest_over (hi + 1) 0 l in
    let f = least_from_lem lo 0x7FF0_0000_0000_0000 l (le_trans o s) in
    let g = greatest_below (hi + 1) 0 l (omega arith) in
    let u = least_under lo 0x7FF0_0000_0000_0000 l in
    let v = count_mono (under lo) (under low) l (λ x t. under_wider lo low (to_bits binary64 x) f t) in
    let w = greatest_upto (hi + 1) 0 l in
    let n = under_next hi l in
    let z = count_mono (upto high) (upto hi) l (λ x t. le→leb (to_bits binary64 x) hi (let q = leb→le (to_bits binary64 x) high t in omega (arith, q, g))) in
    record {
      from = f;
      to = omega (arith, g);
      ordered = either low high (λ h. h) (λ h. absurd (let c = count_mono (upto high) (under low) l (λ x t. lesser (to_bits binary64 x) high low (leb→le (to_bits binary64 x) high t) h) in omega (arith, c, u, b, r, w, n)));
      below = le_antisymm u v;
      reached = le_antisymm z (omega (arith, w, n));
    }
  where
    under_wider : (b r k : ℕ) → b ≤ r → T (not (leb b k)) → T (not (leb r k))
    under_wider b r k h t = subst (λ (u : Bool). T (not u)) (sym (lt-leb r k (let g = nleb→lt b k t in omega arith))) tt

    lesser : (k high low : ℕ) → k ≤ high → high < low → T (not (leb low k))
    lesser k high low h g = subst (λ (u : Bool). T (not u)) (sym (lt-leb low k (omega arith))) tt

-- ---- places

-- where m are under b, the least from b on stands at place m
pub least_place : (l : List Float) → All Plain l → (m b : ℕ) → b ≤ 0x7FF0_0000_0000_0001 → count (under b) l ≡ m → m < length l → AtPlace l m (least_from b l)
unfolding least_from least_over
least_place l a m b s e h =
    let r = least_over b 0x7FF0_0000_0000_0000 l in
    record {
      small = least_low b 0x7FF0_0000_0000_0000 l;
      below = le_trans (least_under b 0x7FF0_0000_0000_0000 l) (omega arith);
      reached = ends r (least_reached b 0x7FF0_0000_0000_0000 l s).1;
    }
  where
    ends : (r : ℕ) → (r ≡ 0x7FF0_0000_0000_0000) ⊎ (count (under b) l < count (upto r) l) → m < count (upto r) l
    ends r (inl q) = rw (q, upto_all l a) h
    ends r (inr q) = omega arith

-- where m + 1 are under b, the greatest under b stands at place m
pub greatest_place : (l : List Float) (m b : ℕ) → b ≤ 0x7FF0_0000_0000_0000 → count (under b) l ≡ m + 1 → AtPlace l m (greatest_under b l)
unfolding greatest_under greatest_over
greatest_place l m b s e =
    let r = greatest_over b 0 l in
    let h = greatest_under_lem b 0 l zero-le in
    record {
      small = le_trans h.0 s;
      below = ends r h.1;
      reached = let q = greatest_upto b 0 l in omega arith;
    }
  where
    ends : (r : ℕ) → (r ≡ 0) ⊎ (count (under r) l < count (under b) l) → count (under r) l ≤ m
    ends r (inl q) = rw (q, under_zero l) zero-le
    ends r (inr q) = omega arith

-- the double at a place
pub placed : (l : List Float) → All Plain l → (m b : ℕ) → AtPlace l m b → m < length l → of_bits binary64 b ≡ get_or (sort l) m nan
placed l a m b p h =
    ap (of_bits binary64) (sym (place l a b m nan p.below p.reached))
    ∙ of_bits-to_bits binary64 (get_or (sort l) m nan)
    (plain_fits (get_or (sort l) m nan) (all_at Plain (sort l) m nan (all_sort Plain l a) (rw (← length_sort l) at h)))

-- the place before has the same bits, where fewer are under them
place_before : (l : List Float) (m b : ℕ) → AtPlace l m b → count (under b) l < m → AtPlace l (m - 1) b
place_before l m b p h = let q = p.reached in record { small = p.small; below = omega arith; reached = omega arith }

-- where m are under b, the greatest under b and the least from b on stand before place m and at it
edges_stand : (l : List Float) → All Plain l → (m b : ℕ) → m < length l → b ≤ 0x7FF0_0000_0000_0000 → count (under b) l ≡ m → Middles l m (greatest_under b l) (least_from b l)
edges_stand l a m b h s e =
    record {
      upper = least_place l a m b (omega arith) e h;
      lower = λ p. greatest_place l (m - 1) b s (let z : m ≡ m - 1 + 1 = omega arith in e ∙ z);
    }

-- the same of a range that is cut down so far
pub edges_found : (l : List Float) → All Plain l → (m lo hi below most : ℕ) → InRange l m lo hi below most → m < length l → below ≡ m → (low high : ℕ)
    → low ≡ greatest_under lo l → high ≡ least_from lo l → Middles l m low high
edges_found l a m lo hi below most p h e low high q r = rw (q, r) (edges_stand l a m lo h (le_trans p.ordered p.small) (sym p.under_it ∙ e))

-- a range cut down until none but a single number can be left, where fewer than m are under it: that one stands at both places
pub single_stands : (l : List Float) (m lo hi below most : ℕ) → InRange l m lo hi below most → (below ≡ m → ⊥) → (below ≡ m) ⊎ ((lo ≡ hi) ⊎ (most ≤ below + 0)) → Middles l m lo lo
single_stands l m lo hi below most p n s = stands (single s)
  where
    single : (below ≡ m) ⊎ ((lo ≡ hi) ⊎ (most ≤ below + 0)) → lo ≡ hi
    single (inl e) = absurd (n e)
    single (inr (inl e)) = e
    single (inr (inr h)) = absurd (let q = p.least in let r = p.reached in omega arith)

    stands : lo ≡ hi → Middles l m lo lo
    stands e =
        let u = p.under_it in
        let t = p.least in
        let at : AtPlace l m lo = record { small = le_trans p.ordered p.small; below = omega arith; reached = rw (e, ← p.upto_it) p.reached } in
        record { upper = at; lower = λ _. place_before l m lo at (omega (arith, n)) }
