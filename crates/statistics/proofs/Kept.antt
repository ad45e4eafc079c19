-- Of a list only the numbers in a range of bits are kept: what then stands at a place stands so many places further in the whole as are under the range.
use Rattle.std.proofs.Common.{◌≡◌, ℕ, ◌+◌, ◌-◌, ◌*◌, ◌/◌, ◌%◌, ◌<◌, ◌≤◌, Bool, true, false, cond, not, T, leb, List, [], ◌∷◌, ◌++◌, map, length, get_or, take, set, min, sym, refl, ap, ◌∙◌, subst, append-nil, zero-le, le_refl, add-zero, arith, leb→le, le-leb, take_all}
use borrow.Author.Tests.{lt-leb}
use lib.Ieee.{Float, nan, inf, fin, binary64, sub, to_bits, fits}
use Rattle.std.specs.Int.{from_bool}
use Rattle.std.proofs.Math.Nat.{min-eq_left}
use Rattle.std.proofs.lemmas.List.{map_more, take_more_set, take-set, length-set}
use Rattle.loops.specs.All.{All}
use Rattle.loops.specs.Cases.{choose, either}
use Rattle.value.specs.Absolute.{abs_f}
use Rattle.value.specs.Keys.{plain_fits}
use Rattle.value.specs.Numbers.{zero_f}
use Rattle.statistics.specs.Counting.{Plain, distances, count, upto, under, between, keep, AtPlace, Middles, InRange}
use Rattle.statistics.proofs.Counts.{from_bool_most, under_next, count_mono}
use Rattle.statistics.proofs.Deviations.{distances_zero}
use Rattle.statistics.proofs.Pairs.{count_even, count_odd}

pub length_keep : (p : Float → Bool) (l : List Float) → length (keep p l) ≡ count p l
unfolding keep count
length_keep p [] = refl
length_keep p (x ∷ xs) = by (p x) (length_keep p xs)
  where
    by : (t : Bool) → length (keep p xs) ≡ count p xs → length (cond t (x ∷ keep p xs) (keep p xs)) ≡ from_bool t + count p xs
    by true h = omega arith
    by false h = omega arith

pub all_keep : (P : Float → Type 0) (p : Float → Bool) (l : List Float) → All P l → All P (keep p l)
unfolding keep
all_keep P p [] a = tt
all_keep P p (x ∷ xs) a = choose (All P) (p x) (x ∷ keep p xs) (keep p xs) (λ t. (a.0, all_keep P p xs a.1)) (λ t. all_keep P p xs a.1)

count_most : (p : Float → Bool) (l : List Float) → count p l ≤ length l
unfolding count
count_most p [] = zero-le
count_most p (x ∷ xs) = let h = count_most p xs in let g = from_bool_most (p x) in omega arith

module _ (lo hi : ℕ) where
  -- what is under b, from lo on, is under lo or is kept
  kept_under : (b : ℕ) → lo ≤ b → b ≤ hi + 1 → (l : List Float) → count (under b) l ≡ count (under lo) l + count (under b) (keep (between lo hi) l)
  unfolding count keep
  kept_under b p q [] = refl
  kept_under b p q (x ∷ xs) =
      let k = to_bits binary64 x in
      let h = kept_under b p q xs in
      either lo k
      (λ g. either k hi (λ r. rw (le-leb lo k g, le-leb k hi r) (omega arith)) (λ r. rw (le-leb lo k g, lt-leb k hi r, le-leb b k (omega arith)) (omega arith)))
      (λ g. rw (lt-leb lo k g, lt-leb b k (omega arith)) (omega arith))

  -- none that is kept is under lo, and all are up to hi
  pub none_under : lo ≤ hi → (l : List Float) → count (under lo) (keep (between lo hi) l) ≡ 0
  none_under o l = let h = kept_under lo (le_refl lo) (omega arith) l in omega arith

  pub all_upto : (l : List Float) → count (upto hi) (keep (between lo hi) l) ≡ length (keep (between lo hi) l)
  unfolding count keep
  all_upto [] = refl
  all_upto (x ∷ xs) =
      let k = to_bits binary64 x in
      let h = all_upto xs in
      either lo k
      (λ g. either k hi (λ r. let z : from_bool (leb k hi) ≡ 1 = rw (le-leb k hi r) in rw (le-leb lo k g, le-leb k hi r) (omega arith)) (λ r. rw (le-leb lo k g, lt-leb k hi r) h))
      (λ g. rw (lt-leb lo k g) h)

  module _ (o : lo ≤ hi) (l : List Float) where
    -- so many are kept
    pub kept_length : count (under lo) l + length (keep (between lo hi) l) ≡ count (upto hi) l
    kept_length =
        let h = kept_under (hi + 1) (omega arith) (le_refl (hi + 1)) l in
        let g = under_next hi l in
        let r = under_next hi (keep (between lo hi) l) in
        let q = all_upto l in
        omega arith

    -- bits that stand at a place of those kept lie in the range
    kept_range : (m b : ℕ) → AtPlace (keep (between lo hi) l) m b → (lo ≤ b) × (b ≤ hi)
    kept_range m b p =
        let g = keep (between lo hi) l in
        let r = p.reached in
        let w = p.below in
        let none = none_under o l in
        let all = all_upto l in
        let most = count_most (upto b) g in (
          either lo b (λ h. h) (λ h. absurd (let z = count_mono (upto b) (under lo) g (λ x t. low (to_bits binary64 x) b h t) in omega arith)),
          either b hi (λ h. h) (λ h. absurd (let z = count_mono (upto hi) (under b) g (λ x t. low (to_bits binary64 x) hi h t) in omega arith)),
        )
      where
        low : (k b : ℕ) {c : ℕ} → b < c → T (leb k b) → T (not (leb c k))
        low k b {c} h t = subst (λ (u : Bool). T (not u)) (sym (lt-leb c k (let z = leb→le k b t in omega arith))) tt

    kept_place : (m b : ℕ) → AtPlace (keep (between lo hi) l) m b → AtPlace l (count (under lo) l + m) b
    kept_place m b p =
        let g = keep (between lo hi) l in
        let r = kept_range m b p in
        let u = kept_under b r.0 (omega (arith, r.1)) l in
        let v = kept_under (b + 1) (omega (arith, r.0)) (omega (arith, r.1)) l in
        let x = under_next b l in
        let y = under_next b g in
        let w = p.below in
        let z = p.reached in
        record { small = p.small; below = omega arith; reached = omega arith }

    -- what stands in the middle of those kept
    pub kept_middles : (m low high : ℕ) → count (under lo) l < m → Middles (keep (between lo hi) l) (m - count (under lo) l) low high → Middles l m low high
    kept_middles m low high h p =
        let u = count (under lo) l in
        let e : u + (m - u) ≡ m = omega arith in
        let f : u + (m - u - 1) ≡ m - 1 = omega arith in
        record {
          upper = subst (λ (k : ℕ). AtPlace l k high) e (kept_place (m - u) high p.upper);
          lower = λ _. subst (λ (k : ℕ). AtPlace l k low) f (kept_place (m - u - 1) low (p.lower (omega arith)));
        }

-- ---- one turn of the copying loop

keep_snoc : (p : Float → Bool) (l : List Float) (x : Float) → keep p (l ++ (x ∷ [])) ≡ keep p l ++ cond (p x) (x ∷ []) []
unfolding keep
keep_snoc p [] x = refl
keep_snoc p (y ∷ ys) x = by (p y) (keep_snoc p ys x)
  where
    by : (t : Bool) → keep p (ys ++ (x ∷ [])) ≡ keep p ys ++ cond (p x) (x ∷ []) [] → cond t (y ∷ keep p (ys ++ (x ∷ []))) (keep p (ys ++ (x ∷ []))) ≡ cond t (y ∷ keep p ys) (keep p ys) ++ cond (p x) (x ∷ []) []
    by true h = ap (λ (r : List Float). y ∷ r) h
    by false h = h

-- a number v is written at place c, and the place is kept where it lies in the range
keep_at : (out : List Float) (c : ℕ) → c < length out → (v : Float) (t : Bool) → take (c + from_bool t) (set out c v) ≡ take c out ++ cond t (v ∷ []) []
keep_at out c r v true = take_more_set out c v r
keep_at out c r v false = rw (add-zero, take-set) (sym (append-nil (take c out)))

module _ (p : Float → Bool) (d : Float) (a : List Float) (i : ℕ) (h : i < length a) where
  keep_again : keep p (distances d (take (i + 1) a)) ≡ keep p (distances d (take i a)) ++ cond (p (abs_f (sub binary64 (abs_f (get_or a i nan)) d))) (abs_f (sub binary64 (abs_f (get_or a i nan)) d) ∷ []) []
  unfolding distances
  keep_again = ap (keep p) (map_more (λ x. abs_f (sub binary64 (abs_f x) d)) a i nan h) ∙ keep_snoc p (map (λ x. abs_f (sub binary64 (abs_f x) d)) (take i a)) _

  -- x is written at place n, behind those kept so far, if they fit
  pub keep_turn : (out : List Float) (n b : ℕ) (x : Float) → n < length out → take n out ≡ keep p (distances d (take i a))
      → x ≡ abs_f (sub binary64 (abs_f (get_or a i nan)) d) → b ≡ from_bool (p x) → take (n + b) (set out n x) ≡ keep p (distances d (take (i + 1) a))
  keep_turn out n b x l e u g = rw (g, u, keep_again, ← e) (keep_at out n l _ (p _))

  -- or nothing is written, and it is not kept
  pub keep_none : (out : List Float) (n b : ℕ) (x : Float) → take n out ≡ keep p (distances d (take i a)) → x ≡ abs_f (sub binary64 (abs_f (get_or a i nan)) d) → b ≡ from_bool (p x) → b ≡ 0
      → take (n + b) out ≡ keep p (distances d (take (i + 1) a))
  keep_none out n b x e u g z = rw (z, add-zero, keep_again, ← e) (by _ (p _) (rw u at (sym g ∙ z)))
    where
      by : (v : Float) (t : Bool) → from_bool t ≡ 0 → take n out ≡ take n out ++ cond t (v ∷ []) []
      by v true q = absurd (omega arith)
      by v false q = sym (append-nil (take n out))

-- two of them, x and y, of which b and c are kept
module _ (p : Float → Bool) (d : Float) (a : List Float) (i : ℕ) (h : 2 * i + 1 < length a) (out : List Float) (n last : ℕ) (e : length out ≡ last + 1)
    (f : n ≤ last → take n out ≡ keep p (distances d (take (2 * i) a))) (b c : ℕ) (x y : Float) (u : x ≡ abs_f (sub binary64 (abs_f (get_or a (2 * i) nan)) d)) (be : b ≡ from_bool (p x))
    (v : y ≡ abs_f (sub binary64 (abs_f (get_or a (2 * i + 1) nan)) d)) (ce : c ≡ from_bool (p y)) where
  next : 2 * i + 1 + 1 ≡ 2 * (i + 1)
  next = omega arith

  pub keep_two : n < last → n + (b + c) ≤ last → take (n + (b + c)) (set (set out n x) (n + b) y) ≡ keep p (distances d (take (2 * (i + 1)) a))
  keep_two l r =
      let s : n + (b + c) ≡ n + b + c = omega arith in
      let m : b ≤ 1 = rw be (from_bool_most (p x)) in
      rw (s, ← next)
      (keep_turn p d a (2 * i + 1) h (set out n x) (n + b) c y (rw (length-set out n x) (omega arith)) (keep_turn p d a (2 * i) (omega arith) out n b x (omega arith) (f (omega arith)) u be) v ce)

  pub keep_neither : last ≤ n → n + (b + c) ≤ last → take (n + (b + c)) out ≡ keep p (distances d (take (2 * (i + 1)) a))
  keep_neither l r =
      let s : n + (b + c) ≡ n + b + c = omega arith in
      rw (s, ← next)
      (keep_none p d a (2 * i + 1) h out (n + b) c y (keep_none p d a (2 * i) (omega arith) out n b x (f (omega arith)) u be (omega arith)) v ce (omega arith))

-- at the end, of an odd number and of an even one
module _ (p : Float → Bool) (d : Float) (a : List Float) (i : ℕ) (h : i ≡ length a / 2) (out : List Float) (n last : ℕ) (e : n ≡ count p (distances d (take (2 * i) a)))
    (f : n ≤ last → take n out ≡ keep p (distances d (take (2 * i) a))) where
  -- a last number x is written at n, or at the last place
  pub keep_odd : length a % 2 ≡ 1 → (x : Float) → length out ≡ last + 1 → x ≡ abs_f (sub binary64 (abs_f (get_or a (length a - 1) nan)) d)
      → count p (distances d a) ≤ last → take (count p (distances d a)) (set out (min n last) x) ≡ keep p (distances d a)
  keep_odd odd x l u r =
      let z : length a - 1 ≡ 2 * i = omega arith in
      let w : n + from_bool (p x) ≡ count p (distances d a) = rw (e, u) (count_odd p d a i h odd) in
      let q : n ≤ last = omega (arith, w) in
      rw (← w, min-eq_left q)
      (subst (λ (m : List Float). take (n + from_bool (p x)) (set out n x) ≡ keep p (distances d m)) (take_all (2 * i + 1) a (omega arith))
      (keep_turn p d a (2 * i) (omega arith) out n (from_bool (p x)) x (omega (arith, w)) (f (omega (arith, w))) (rw z at u) refl))

  pub keep_even : (length a % 2 ≡ 1 → ⊥) → count p (distances d a) ≤ last → take (count p (distances d a)) out ≡ keep p (distances d a)
  keep_even even r =
      let w : n ≡ count p (distances d a) = e ∙ count_even p d a i h even in
      rw (← w) (subst (λ (m : List Float). take n out ≡ keep p (distances d m)) (take_all (2 * i) a (omega arith)) (f (omega arith)))

abs_plain_self : (x : Float) → Plain x → abs_f x ≡ x
unfolding abs_f
abs_plain_self nan p = absurd p
abs_plain_self (inf true) p = absurd p
abs_plain_self (inf false) p = refl
abs_plain_self (fin true m e) p = absurd p
abs_plain_self (fin false m e) p = refl

-- the deviations of numbers with no sign from +0 are the numbers
pub plain_distances : (l : List Float) → All Plain l → distances zero_f l ≡ l
plain_distances l a = distances_zero l (fit l a) ∙ same l a
  where
    fit : (l : List Float) → All Plain l → All (λ x. T (fits binary64 x)) l
    fit [] a = tt
    fit (x ∷ xs) a = (plain_fits x a.0, fit xs a.1)

    same : (l : List Float) → All Plain l → map abs_f l ≡ l
    same [] a = refl
    same (x ∷ xs) a = rw (abs_plain_self x a.0) (ap (λ (r : List Float). x ∷ r) (same xs a.1))

-- so many are kept as are up to hi and not under lo
pub count_between : (lo hi : ℕ) → lo ≤ hi → (l : List Float) → count (under lo) l + count (between lo hi) l ≡ count (upto hi) l
count_between lo hi o l = let h = kept_length lo hi o l in let k = length_keep (between lo hi) l in omega arith

-- those from lo to hi copied, where place m and the one before it lie among them
module _ (l : List Float) (a : All Plain l) (lo hi m : ℕ) (o : lo ≤ hi) (t : List Float) (e : t ≡ keep (between lo hi) l) where
  copied : distances zero_f t ≡ keep (between lo hi) l
  copied = ap (distances zero_f) e ∙ plain_distances (keep (between lo hi) l) (all_keep Plain (between lo hi) l a)

  pub copied_plain : All Plain (distances zero_f t)
  copied_plain = rw copied (all_keep Plain (between lo hi) l a)

  module _ (low high : ℕ) (u : low ≡ count (under lo) l) (v : high ≡ count (upto hi) l) (h : low < m) (r : m < high) where
    pub copied_range : hi ≤ 0x7FF0_0000_0000_0000 → (m - low < length (distances zero_f t)) × InRange (distances zero_f t) (m - low) lo hi 0 (high - low)
    copied_range s =
        let k = kept_length lo hi o l in
        let n = length (keep (between lo hi) l) in
        let w : high - low ≡ n = omega arith in
        rw copied
        (omega arith, record { ordered = o; small = s; under_it = sym (none_under lo hi o l); least = zero-le; reached = omega arith; upto_it = w ∙ sym (all_upto lo hi l) })

    pub copied_stand : (x y : ℕ) → Middles (distances zero_f t) (m - low) x y → Middles l m x y
    copied_stand x y q = kept_middles lo hi o l m x y (rw u at h) (rw u at (rw copied at q))
