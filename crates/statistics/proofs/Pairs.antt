-- Two numbers side by side: the bits of their deviations, and counts that are kept apart and added at the end.
use Rattle.std.proofs.Common.{◌≡◌, ℕ, ◌+◌, ◌-◌, ◌*◌, ◌/◌, ◌%◌, ◌^◌, ◌<◌, ◌≤◌, Bool, true, false, not, ◌&&◌, cond, T, leb, List, [], ◌∷◌, map, length, get_or, take, refl, ap, ap₂, ◌∙◌, arith, take_all}
use lib.Ieee.{Float, nan, binary64, sub, le, to_bits, of_bits, fits, is_nan, nan_bits}
use lib.Ieee.Fits.{sub-fits}
use lib.Lanes.{top, Each1, zip2, sel_l, sum_l}
use Rattle.std.specs.Int.{from_bool}
use Rattle.loops.specs.All.{All}
use Rattle.value.specs.Absolute.{abs_f}
use Rattle.value.specs.Keys.{le_key}
use Rattle.value.specs.LaneLaws.{lane_selected}
use Rattle.statistics.specs.Counting.{Plain, distances, count, upto, onward, between}
use Rattle.statistics.proofs.Counts.{count_turn}
use Rattle.statistics.proofs.Deviations.{abs_some, sub_some, size_bits, size_pattern, bits_plain, bits_back}

-- the deviation of one number from d, by the bits without the sign
module _ (x d : Float) (f : T (fits binary64 x)) (p : Plain (abs_f (sub binary64 (abs_f x) d))) where
  one_size : of_bits binary64 (to_bits binary64 x % 0x8000_0000_0000_0000) ≡ abs_f x
  one_size = size_bits x f (sub_some x d (abs_some _ p))

  pub deviation_some : T (not (is_nan (sub binary64 (of_bits binary64 (to_bits binary64 x % 0x8000_0000_0000_0000)) d)))
  deviation_some = rw one_size (abs_some _ p)

  pub deviation_pattern : T (not (nan_bits binary64 (to_bits binary64 (sub binary64 (of_bits binary64 (to_bits binary64 x % 0x8000_0000_0000_0000)) d) % 0x8000_0000_0000_0000)))
  deviation_pattern = rw one_size (size_pattern (sub binary64 (abs_f x) d) (sub-fits binary64 (abs_f x) d) (abs_some _ p))

  pub deviation_bits : of_bits binary64 (to_bits binary64 (sub binary64 (of_bits binary64 (to_bits binary64 x % 0x8000_0000_0000_0000)) d) % 0x8000_0000_0000_0000)
      ≡ abs_f (sub binary64 (abs_f x) d)
  deviation_bits = rw one_size (size_bits (sub binary64 (abs_f x) d) (sub-fits binary64 (abs_f x) d) (abs_some _ p))

-- a selected 1 or 0
one_or_none : (t : Bool) → cond t 1 0 ≡ from_bool t
one_or_none true = refl
one_or_none false = refl

-- the one that stands for a number up to b
one_upto : (x : Float) (b : ℕ) → Plain x → b ≤ 0x7FF0_0000_0000_0000 → cond (top 63 (cond (le x (of_bits binary64 b)) 0xFFFF_FFFF_FFFF_FFFF 0)) 1 0 ≡ from_bool (upto b x)
one_upto x b p h =
    ap (λ (t : Bool). cond (top 63 (cond t 0xFFFF_FFFF_FFFF_FFFF 0)) 1 0) (le_key x (of_bits binary64 b) p (bits_plain b h) ∙ ap (leb (to_bits binary64 x)) (bits_back b h))
    ∙ lane_selected (upto b x) 1 0 ∙ one_or_none (upto b x)

pub ones_are : (v : List Float) (b : ℕ) → length v ≡ 2 → All Plain v → b ≤ 0x7FF0_0000_0000_0000
    → sel_l (map (top 63) (zip2 (λ (x l : Float). cond (le x l) 0xFFFF_FFFF_FFFF_FFFF 0) v (of_bits binary64 b ∷ of_bits binary64 b ∷ []))) (1 ∷ 1 ∷ []) (0 ∷ 0 ∷ []) ≡ map (λ x. from_bool (upto b x)) v
ones_are [] b e p h = absurd (omega arith)
ones_are (x ∷ []) b e p h = absurd (omega arith)
ones_are (x ∷ y ∷ []) b e p h = ap₂ (λ (m n : ℕ). m ∷ n ∷ []) (one_upto x b p.0 h) (one_upto y b p.1.0 h)
ones_are (x ∷ y ∷ z ∷ zs) b e p h = absurd (omega arith)

-- the mask of b ≤ x
from_mask : (x : Float) (b : ℕ) → Plain x → b ≤ 0x7FF0_0000_0000_0000 → le (of_bits binary64 b) x ≡ leb b (to_bits binary64 x)
from_mask x b p h = le_key (of_bits binary64 b) x (bits_plain b h) p ∙ ap (λ (k : ℕ). leb k (to_bits binary64 x)) (bits_back b h)

-- the one that stands for a number from lo on, and of such a number that of which m says the rest
one_onward : (x : Float) (b : ℕ) → Plain x → b ≤ 0x7FF0_0000_0000_0000 → cond (top 63 (cond (le (of_bits binary64 b) x) 0xFFFF_FFFF_FFFF_FFFF 0)) 1 0 ≡ from_bool (onward b x)
one_onward x b p h = ap (λ (t : Bool). cond (top 63 (cond t 0xFFFF_FFFF_FFFF_FFFF 0)) 1 0) (from_mask x b p h) ∙ lane_selected (onward b x) 1 0 ∙ one_or_none (onward b x)

one_between : (x : Float) (lo hi m : ℕ) → Plain x → lo ≤ 0x7FF0_0000_0000_0000 → m ≡ from_bool (upto hi x) → cond (top 63 (cond (le (of_bits binary64 lo) x) 0xFFFF_FFFF_FFFF_FFFF 0)) m 0 ≡ from_bool (between lo hi x)
one_between x lo hi m p h e =
    ap (λ (t : Bool). cond (top 63 (cond t 0xFFFF_FFFF_FFFF_FFFF 0)) m 0) (from_mask x lo p h) ∙ lane_selected (leb lo (to_bits binary64 x)) m 0
    ∙ ap (λ (k : ℕ). cond (leb lo (to_bits binary64 x)) k 0) e ∙ both (leb lo (to_bits binary64 x)) (upto hi x)
  where
    both : (s t : Bool) → cond s (from_bool t) 0 ≡ from_bool (s && t)
    both true t = refl
    both false t = refl

pub ones_onward_are : (v : List Float) (b : ℕ) → length v ≡ 2 → All Plain v → b ≤ 0x7FF0_0000_0000_0000
    → sel_l (map (top 63) (zip2 (λ (l x : Float). cond (le l x) 0xFFFF_FFFF_FFFF_FFFF 0) (of_bits binary64 b ∷ of_bits binary64 b ∷ []) v)) (1 ∷ 1 ∷ []) (0 ∷ 0 ∷ []) ≡ map (λ x. from_bool (onward b x)) v
ones_onward_are [] b e p h = absurd (omega arith)
ones_onward_are (x ∷ []) b e p h = absurd (omega arith)
ones_onward_are (x ∷ y ∷ []) b e p h = ap₂ (λ (m n : ℕ). m ∷ n ∷ []) (one_onward x b p.0 h) (one_onward y b p.1.0 h)
ones_onward_are (x ∷ y ∷ z ∷ zs) b e p h = absurd (omega arith)

pub ones_between_are : (v : List Float) (lo hi : ℕ) → length v ≡ 2 → All Plain v → lo ≤ 0x7FF0_0000_0000_0000 → (ls : List ℕ) → ls ≡ map (λ x. from_bool (upto hi x)) v
    → sel_l (map (top 63) (zip2 (λ (l x : Float). cond (le l x) 0xFFFF_FFFF_FFFF_FFFF 0) (of_bits binary64 lo ∷ of_bits binary64 lo ∷ []) v)) ls (0 ∷ 0 ∷ []) ≡ map (λ x. from_bool (between lo hi x)) v
ones_between_are [] lo hi e p h ls r = absurd (omega arith)
ones_between_are (x ∷ []) lo hi e p h ls r = absurd (omega arith)
ones_between_are (x ∷ y ∷ []) lo hi e p h ls r = rw r (ap₂ (λ (m n : ℕ). m ∷ n ∷ []) (one_between x lo hi _ p.0 h refl) (one_between y lo hi _ p.1.0 h refl))
ones_between_are (x ∷ y ∷ z ∷ zs) lo hi e p h ls r = absurd (omega arith)

-- two counts after p turns, each of one number a turn, and their sum
pub record Lanes (ls : List ℕ) (p s : ℕ) : Type 0 where
  pub two : length ls ≡ 2
  pub small : Each1 (λ (k : ℕ). k ≤ p) ls
  pub sum : sum_l ls ≡ s

pub lanes_more : (ls : List ℕ) (p s a b : ℕ) → Lanes ls p s → p < 2 ^ 62 → a ≤ 1 → b ≤ 1 → Lanes (zip2 (λ (m n : ℕ). (m + n) % 2 ^ 64) ls (a ∷ b ∷ [])) (p + 1) (s + (a + b))
lanes_more [] p s a b l h u v = absurd (let z = l.two in omega arith)
lanes_more (m ∷ []) p s a b l h u v = absurd (let z = l.two in omega arith)
lanes_more (m ∷ n ∷ []) p s a b l h u v =
    let x = l.small.0 in
    let y = l.small.1.0 in
    let z = l.sum in
    let i : (m + a) % 2 ^ 64 ≡ m + a = omega arith in
    let j : (n + b) % 2 ^ 64 ≡ n + b = omega arith in
    record { two = refl; small = rw (i, j) (omega arith, (omega arith, tt)); sum = rw (i, j) (omega arith) }
lanes_more (m ∷ n ∷ k ∷ ks) p s a b l h u v = absurd (let z = l.two in omega arith)

pub lanes_sum : (ls : List ℕ) (p s : ℕ) → Lanes ls p s → get_or ls 0 0 + get_or ls 1 0 ≡ s
lanes_sum [] p s l = absurd (let z = l.two in omega arith)
lanes_sum (m ∷ []) p s l = absurd (let z = l.two in omega arith)
lanes_sum (m ∷ n ∷ []) p s l = let z = l.sum in omega arith
lanes_sum (m ∷ n ∷ k ∷ ks) p s l = absurd (let z = l.two in omega arith)

-- a turn of a loop that counts two
pub count_two : (t : Float → Bool) (d : Float) (a : List Float) (i : ℕ) → 2 * i + 1 < length a
    → count t (distances d (take (2 * i) a)) + (from_bool (t (abs_f (sub binary64 (abs_f (get_or a (2 * i) nan)) d))) + from_bool (t (abs_f (sub binary64 (abs_f (get_or a (2 * i + 1) nan)) d))))
    ≡ count t (distances d (take (2 * (i + 1)) a))
count_two t d a i h =
    let x = count_turn d a (2 * i) (omega arith) t in
    let y = count_turn d a (2 * i + 1) h t in
    let e : 2 * i + 1 + 1 ≡ 2 * (i + 1) = omega arith in
    rw (← e) (omega arith)

-- at its end, of an even number and of an odd one
module _ (t : Float → Bool) (d : Float) (a : List Float) (i : ℕ) (e : i ≡ length a / 2) where
  pub count_even : (length a % 2 ≡ 1 → ⊥) → count t (distances d (take (2 * i) a)) ≡ count t (distances d a)
  count_even h = ap (λ (l : List Float). count t (distances d l)) (take_all (2 * i) a (omega arith))

  pub count_odd : length a % 2 ≡ 1 → count t (distances d (take (2 * i) a)) + from_bool (t (abs_f (sub binary64 (abs_f (get_or a (length a - 1) nan)) d))) ≡ count t (distances d a)
  count_odd h =
      let q : length a - 1 ≡ 2 * i = omega arith in
      rw q (count_turn d a (2 * i) (omega arith) t ∙ ap (λ (l : List Float). count t (distances d l)) (take_all (2 * i + 1) a (omega arith)))
