-- Bits that are put in order: what stands at a place of them stands at that place of the numbers in order.
use Rattle.std.proofs.Common.{◌≡◌, ℕ, zero, suc, ◌+◌, ◌-◌, ◌<◌, ◌≤◌, Bool, not, List, [], ◌∷◌, ◌++◌, map, length, get_or, take, set, nat_le, sym, refl, ap, ◌∙◌, zero-le, arith, le-leb}
use lib.Ieee.{Float, nan, binary64, sub, to_bits}
use lib.ListN.{length-map}
use Rattle.std.specs.List.{All as Each, sum_by}
use Rattle.std.specs.List.Sorted.{IsNonDecreasing, IsPermutation}
use Rattle.std.specs.Int.{from_bool}
use Rattle.std.proofs.lemmas.List.{map-append, map_more, take_more_set}
use Rattle.std.proofs.lemmas.List.Sums.{sum_by-cons}
use Rattle.std.proofs.lemmas.List.Elements.{All-nil, All-cons}
use Rattle.std.proofs.lemmas.List.Sorted.{length_permutation, sum_by-IsPermutation, All-permutation}
use Rattle.loops.specs.All.{All}
use Rattle.value.specs.Absolute.{abs_f}
use Rattle.value.specs.Keys.{bits_le}
use Rattle.statistics.specs.Counting.{Plain, distances, count, AtPlace, Middles}
use Rattle.statistics.proofs.Counts.{from_bool_most}

-- a count over numbers is one over their bits
count_bits : (t : ℕ → Bool) (l : List Float) → count (λ x. t (to_bits binary64 x)) l ≡ sum_by (λ k. from_bool (t k)) (map (to_bits binary64) l)
unfolding count
count_bits t [] = refl
count_bits t (x ∷ xs) = ap (λ (n : ℕ). from_bool (t (to_bits binary64 x)) + n) (count_bits t xs) ∙ sym (sum_by-cons (λ k. from_bool (t k)) (to_bits binary64 x) (map (to_bits binary64) xs))

-- more than m are up to what so many places are up to
upto_places : (b m : ℕ) (ks : List ℕ) → m < length ks → ((i : ℕ) → i ≤ m → get_or ks i 0 ≤ b) → m < sum_by (λ k. from_bool (nat_le k b)) ks
upto_places b m [] h f = absurd (omega arith)
upto_places b zero (k ∷ ks) h f = rw (sum_by-cons (λ k. from_bool (nat_le k b)) k ks, le-leb k b (f 0 zero-le)) (omega arith)
upto_places b (suc m) (k ∷ ks) h f =
    let r = upto_places b m ks (omega arith) (λ i l. f (suc i) (omega arith)) in
    rw (sum_by-cons (λ k. from_bool (nat_le k b)) k ks, le-leb k b (f 0 zero-le)) (omega arith)

-- at most m are under what all from place m on reach
under_places : (b m : ℕ) (ks : List ℕ) → ((i : ℕ) → m ≤ i → i < length ks → b ≤ get_or ks i 0) → sum_by (λ k. from_bool (not (nat_le b k))) ks ≤ m
under_places b m [] f = zero-le
under_places b zero (k ∷ ks) f =
    let r = under_places b 0 ks (λ i l h. f (suc i) zero-le (omega arith)) in
    rw (sum_by-cons (λ k. from_bool (not (nat_le b k))) k ks, le-leb b k (f 0 zero-le (omega arith))) (omega arith)
under_places b (suc m) (k ∷ ks) f =
    let r = under_places b m ks (λ i l h. f (suc i) (omega arith) (omega arith)) in
    let g = from_bool_most (not (nat_le b k)) in
    rw (sum_by-cons (λ k. from_bool (not (nat_le b k))) k ks) (omega arith)

-- the bits of numbers with no sign are not above +infinity's
all_small : (l : List Float) → All Plain l → Each (λ k. k ≤ 0x7FF0_0000_0000_0000) (map (to_bits binary64) l)
all_small [] a = All-nil (λ k. k ≤ 0x7FF0_0000_0000_0000)
all_small (x ∷ xs) a = All-cons (λ k. k ≤ 0x7FF0_0000_0000_0000) (to_bits binary64 x) _ (bits_le x a.0) (all_small xs a.1)

module _ (l : List Float) (a : All Plain l) (ks : List ℕ) (p : IsPermutation (map (to_bits binary64) l) ks) (r : IsNonDecreasing ks) where
  many : length ks ≡ length l
  many = length_permutation _ ks p ∙ length-map l (to_bits binary64)

  stands : (m : ℕ) → m < length l → AtPlace l m (get_or ks m 0)
  stands m h =
      let b = get_or ks m 0 in
      record {
        small = All-permutation (λ k. k ≤ 0x7FF0_0000_0000_0000) _ ks p (all_small l a) m 0 (rw many h);
        below = rw (count_bits (λ k. not (nat_le b k)) l, ← sum_by-IsPermutation (λ k. from_bool (not (nat_le b k))) _ ks p) (under_places b m ks (λ i g q. r m i 0 g q));
        reached = rw (count_bits (λ k. nat_le k b) l, ← sum_by-IsPermutation (λ k. from_bool (nat_le k b)) _ ks p) (upto_places b m ks (rw many h) (λ i g. r i m 0 g (rw many h)));
      }

  pub middles_stand : (m : ℕ) → m < length l → Middles l m (get_or ks (m - 1) 0) (get_or ks m 0)
  middles_stand m h = record { upper = stands m h; lower = λ _. stands (m - 1) (omega arith) }

-- a turn of the loop that writes the bits
pub bits_turn : (d : Float) (a : List Float) (i : ℕ) → i < length a → (ks : List ℕ) → length ks ≡ length a → take i ks ≡ map (to_bits binary64) (distances d (take i a))
    → take (i + 1) (set ks i (to_bits binary64 (abs_f (sub binary64 (abs_f (get_or a i nan)) d)))) ≡ map (to_bits binary64) (distances d (take (i + 1) a))
unfolding distances
bits_turn d a i h ks e q =
    let f : Float → Float = λ x. abs_f (sub binary64 (abs_f x) d) in
    let b = to_bits binary64 (f (get_or a i nan)) in
    take_more_set ks i b (rw e h) ∙ ap (λ (l : List ℕ). l ++ (b ∷ [])) q
    ∙ sym (ap (map (to_bits binary64)) (map_more f a i nan h) ∙ map-append (to_bits binary64) (map f (take i a)) (f (get_or a i nan) ∷ []))
