-- Laws of Frames.antt: frames whose bytes differ in the sign of every y hold samples that do.
use Rattle.std.specs.Prelude.{◌≡◌, Bool, cond, List, [], ◌∷◌, ℕ, suc, ◌+◌, ◌-◌, ◌*◌, ◌/◌, ◌%◌, ◌^◌, ◌≤◌, ◌<◌, min, eqb, get_or, take, drop}
use Rattle.std.proofs.Math.Path.{refl, ap, subst}
use Rattle.std.proofs.Common.{sym, ap₂, ◌∙◌, inl, inr, mul-le-mul_right, add-one, length-take, length-drop, ext_get_or, get_or-take, get_or-drop, drop-cons, length-take-le}
use Rattle.std.proofs.Math.Bool.{true, false}
use Rattle.std.proofs.Math.Nat.{pow-succ'}
use native.Mathlib.Omega.{arith}
use Rattle.std.proofs.Math.ListN.{length}
use Rattle.std.specs.Float.{binary64}
use Rattle.std.specs.Float.Ieee.{of_bits}
use Rattle.loops.specs.All.{All}
use Rattle.loops.specs.AllLaws.{all_part}
use Rattle.loops.specs.Digits.{number}
use Rattle.loops.specs.DigitLaws.{number_append}
use Rattle.loops.specs.Fold.{fold}
use Rattle.loops.specs.Places.{table}
use Rattle.value.specs.Numbers.{one_f}
use Rattle.frame.specs.Bytes.{word, float_at}
use Rattle.frame.specs.Frame.{weighted, sample_bytes, place_of, sample_from, decode}
use Rattle.signs.specs.Opposite.{Opposite}
use Rattle.signs.specs.OppositeLaws.{opposite_sym}
use Rattle.signs.specs.Bits.{bits_opposite}
use Rattle.mirror.specs.PairLaws.{pairs_table}
use Rattle.mirrored.specs.Frames.{MirrorFrame, Flipped, SignsFlipped}

-- a word is read from its own bytes
word_same : (k at : ℕ) (f g : List ℕ) → length f ≡ length g → ((j : ℕ) → j < k → get_or f (at + j) 0 ≡ get_or g (at + j) 0) → word k f at ≡ word k g at
unfolding word
word_same k at f g long h =
    let n = length-take k (drop at f) ∙ ap (λ z. min k z) (length-drop at f) in
    let m = length-take k (drop at g) ∙ ap (λ z. min k z) (length-drop at g) in
    ap (number 256)
    (ext_get_or 0 (take k (drop at f)) (take k (drop at g)) (n ∙ ap (λ z. min k (z - at)) long ∙ sym m)
    (λ j q. let b : j < k = omega (arith, n) in
    get_or-take k (drop at f) j 0 b ∙ get_or-drop at f j 0 ∙ h j b ∙ sym (get_or-take k (drop at g) j 0 b ∙ get_or-drop at g j 0)))

-- a number's first byte, and the others
number_first : (d : ℕ) (l : List ℕ) → number 256 (d ∷ l) ≡ d * 256 ^ length l + number 256 l
unfolding number fold
number_first d l = number_append 256 (d ∷ []) l ∙ ap (λ z. z * 256 ^ length l + number 256 l) alone
  where
    alone : 0 * 256 + d ≡ d
    alone = omega arith

number_below : (l : List ℕ) → All (λ b. b < 256) l → number 256 l < 256 ^ length l
unfolding number fold
number_below [] a = omega arith
number_below (d ∷ l) a = rw (pow-succ' 256 (length l)) (below (number 256 (d ∷ l)) (256 ^ length l) (number 256 l) (number_first d l) (number_below l a.1))
  where
    below : (n p r : ℕ) → n ≡ d * p + r → r < p → n < 256 * p
    below n p r e h = let b : d ≤ 255 = omega (arith, a.0) in omega (arith, e, h, mul-le-mul_right p b)

-- 8 bytes: the first, and 7 more
word_first : (l : List ℕ) (at : ℕ) → at + 8 ≤ length l → word 8 l at ≡ get_or l at 0 * 2 ^ 56 + word 7 l (at + 1)
unfolding word
word_first l at h =
    let r = take 7 (drop (suc at) l) in
    ap (λ z. number 256 (take 8 z)) (drop-cons l at 0 (omega arith))
    ∙ number_first (get_or l at 0) r
    ∙ ap (λ z. get_or l at 0 * 256 ^ z + number 256 r) (length-take-le 7 (drop (suc at) l) (rw (length-drop (suc at) l) (omega arith)))
    ∙ ap (λ z. get_or l at 0 * 2 ^ 56 + number 256 (take 7 (drop z l))) (sym (add-one at))

seven_below : (l : List ℕ) (at : ℕ) → All (λ b. b < 256) l → at + 7 ≤ length l → word 7 l at < 2 ^ 56
unfolding word
seven_below l at a h =
    subst (λ z. number 256 (take 7 (drop at l)) < 256 ^ z) (length-take-le 7 (drop at l) (rw (length-drop at l) (omega arith))) (number_below (take 7 (drop at l)) (all_part _ at 7 l a))

-- two patterns whose first bytes differ in the high bit alone
bits_flipped : (a b r : ℕ) → r < 2 ^ 56 → Flipped a b → Opposite (of_bits binary64 (a * 2 ^ 56 + r)) (of_bits binary64 (b * 2 ^ 56 + r))
bits_flipped a b r h (inl q) =
    let e : b * 2 ^ 56 + r ≡ a * 2 ^ 56 + r + 2 ^ 63 = omega (arith, q.1) in
    rw e (bits_opposite (a * 2 ^ 56 + r) (omega (arith, q.0)))
bits_flipped a b r h (inr q) =
    let e : a * 2 ^ 56 + r ≡ b * 2 ^ 56 + r + 2 ^ 63 = omega (arith, q.1) in
    rw e (opposite_sym (bits_opposite (b * 2 ^ 56 + r) (omega (arith, q.0))))

-- ---- where the bytes of a sample stand, with weights or without

-- those of the x, the first of the y, the others of the y, and those of the weight
x_apart : (w : Bool) (i j : ℕ) → j < 8 → (place_of w i + j) % sample_bytes w ≡ 11 → ⊥
x_apart true i j l e = omega arith
x_apart false i j l e = omega arith

y_there : (w : Bool) (i : ℕ) → (place_of w i + 8) % sample_bytes w ≡ 11
y_there true i = omega arith
y_there false i = omega arith

y_apart : (w : Bool) (i j : ℕ) → j < 7 → (place_of w i + 8 + 1 + j) % sample_bytes w ≡ 11 → ⊥
y_apart true i j l e = omega arith
y_apart false i j l e = omega arith

w_apart : (i j : ℕ) → j < 8 → (place_of true i + 16 + j) % sample_bytes true ≡ 11 → ⊥
w_apart i j l e = omega arith

-- the first 3 bytes
head_apart : (w : Bool) (j : ℕ) → j < 3 → j % sample_bytes w ≡ 11 → ⊥
head_apart true j l e = omega arith
head_apart false j l e = omega arith

-- both ends of a y
y_within : (w : Bool) (n i : ℕ) → i < (n - 3) / sample_bytes w → place_of w i + 8 + 8 ≤ n
y_within true n i l = omega arith
y_within false n i l = omega arith

-- the samples, by a frame's length and version
decoded : (g : List ℕ) (w : Bool) (n : ℕ) → weighted g ≡ w → length g ≡ n → decode g ≡ table (λ i. sample_from w g (place_of w i)) ((n - 3) / sample_bytes w)
unfolding decode
decoded g w n e l = ap₂ (λ v m. table (λ i. sample_from v g (place_of v i)) ((m - 3) / sample_bytes v)) e l

module _ {f g : List ℕ} (h : SignsFlipped f g) where
  -- the x's are equal, the y's opposite, and the weights equal
  x_same : (i : ℕ) → float_at f (place_of (weighted f) i) ≡ float_at g (place_of (weighted f) i)
  unfolding float_at
  x_same i =
      let at = place_of (weighted f) i in
      ap (of_bits binary64) (word_same 8 at f g h.long (λ j l. h.alike (at + j) (x_apart (weighted f) i j l)))

  y_opposite : (i : ℕ) → i < (length f - 3) / sample_bytes (weighted f)
      → Opposite (float_at f (place_of (weighted f) i + 8)) (float_at g (place_of (weighted f) i + 8))
  unfolding float_at
  y_opposite i l =
      let at = place_of (weighted f) i + 8 in
      let n : at + 8 ≤ length f = y_within (weighted f) (length f) i l in
      let n' : at + 8 ≤ length g = subst (λ m. at + 8 ≤ m) h.long n in
      let s = word_same 7 (at + 1) f g h.long (λ j b. h.alike (at + 1 + j) (y_apart (weighted f) i j b)) in
      rw (word_first f at n, word_first g at n', ← s)
      (bits_flipped (get_or f at 0) (get_or g at 0) (word 7 f (at + 1)) (seven_below f (at + 1) h.bytes (more at (length f) n))
      (h.flipped at (less at (length f) n) (y_there (weighted f) i)))
    where
      more : (at n : ℕ) → at + 8 ≤ n → at + 1 + 7 ≤ n
      more at n h = omega arith

      less : (at n : ℕ) → at + 8 ≤ n → at < n
      less at n h = omega arith

  w_same : (i : ℕ) (w : Bool) → weighted f ≡ w → cond w (float_at f (place_of w i + 16)) one_f ≡ cond w (float_at g (place_of w i + 16)) one_f
  unfolding float_at
  w_same i false e = refl
  w_same i true e =
      let at = place_of true i + 16 in
      ap (of_bits binary64)
      (word_same 8 at f g h.long
      (λ j l. h.alike (at + j) (subst (λ w. (at + j) % sample_bytes w ≡ 11 → ⊥) (sym e) (w_apart i j l))))

  version_same : get_or f 2 0 ≡ get_or g 2 0
  version_same = h.alike 2 (head_apart (weighted f) 2 (omega arith))

  weighted_same : weighted g ≡ weighted f
  weighted_same = ap (λ v. eqb v 2) (sym version_same)

  said_same : word 2 f 0 ≡ word 2 g 0
  said_same = word_same 2 0 f g h.long (λ j l. h.alike (0 + j) (head_apart (weighted f) (0 + j) (omega arith)))

  -- so they are what a list of calls needs
  pub frame_mirror : MirrorFrame f g
  unfolding sample_from
  frame_mirror =
      record {
        long = rw (h.long, said_same, version_same);
        version = rw version_same;
        samples =
            rw (decoded f (weighted f) (length f) refl refl, decoded g (weighted f) (length f) weighted_same (sym h.long))
            (pairs_table (λ i. sample_from (weighted f) f (place_of (weighted f) i)) (λ i. sample_from (weighted f) g (place_of (weighted f) i))
            ((length f - 3) / sample_bytes (weighted f)) (λ i l. record { x = x_same i; y = y_opposite i l; w = w_same i (weighted f) refl }));
      }
