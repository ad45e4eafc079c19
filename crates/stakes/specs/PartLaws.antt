-- Laws of Parts.antt.
use Rattle.std.specs.Prelude.{◌≡◌, List, ◌++◌, ℕ, ◌+◌, ◌-◌, ◌*◌, ◌/◌, ◌≤◌, ◌<◌, length}
use Rattle.std.proofs.Common.{sym, ◌∙◌, ⊎_elim, arith, mul-le-mul_right, div-mul-le_self, eq-or-lt_of_le, length-append, take_at, drop_at, drop-drop, take-take, take-add}
use Rattle.std.proofs.Math.Path.{ap, ap₂}
use Rattle.std.proofs.Math.ListN.{take, drop, length-drop, take-append-drop}
use Rattle.std.proofs.Math.Seq.{length-take-le}
use Rattle.std.proofs.lemmas.List.{take-append-le}
use Rattle.loops.specs.Cases.{either}
use Rattle.loops.specs.PlaceLaws.{laid_past}
use Rattle.lent.specs.Written.{over}
use Rattle.stakes.specs.Parts.{stakes, Cut, size, part_of, with_part, over_part}

-- ---- where parts lie

-- a part ends before a later one starts
pub apart : (s t m : ℕ) → s < t → s * m + m ≤ t * m
apart s t m h =
    let k : (s + 1) * m ≤ t * m = mul-le-mul_right m (omega arith) in
    omega (arith, k)

-- each ends within the memory
pub ends_within : (n s : ℕ) → s < stakes → s * (n / stakes) + n / stakes ≤ n
ends_within n s h = omega (arith, apart s stakes (n / stakes) h, div-mul-le_self n stakes)

-- a part starts before it ends
pub cut_ordered : {n s a e : ℕ} → Cut n s a e → a ≤ e
cut_ordered c = omega (arith, c.starts, c.ends)

-- ---- a list with p in the place of the k places from a on

module _ {A : Type 0} (a k : ℕ) (p l : List A) (fits : a + k ≤ length l) (long : length p ≡ k) where
  abbrev laid : List A
  laid = take a l ++ (p ++ drop (a + k) l)

  front : length (take a l) ≡ a
  front = length-take-le a l (omega arith)

  length_laid : length laid ≡ length l
  length_laid = simp (length-append, length-drop) (omega (arith, front))

  -- earlier places stand
  laid_before : (c : ℕ) → c ≤ a → take c laid ≡ take c l
  laid_before c h = take-append-le c (take a l) (p ++ drop (a + k) l) (omega (arith, front)) ∙ take-take c a l h

  -- and in its own place stands p
  laid_own : take k (drop a laid) ≡ p
  laid_own = ap (take k) (drop_at (take a l) (p ++ drop (a + k) l) a front) ∙ take_at p (drop (a + k) l) k long

-- a part is told by what stands up to its end
module _ {A : Type 0} (a k : ℕ) where
  of_front : (l : List A) → a ≤ length l → drop a (take (a + k) l) ≡ take k (drop a l)
  of_front l h = ap (drop a) (take-add a k l) ∙ drop_at (take a l) (take k (drop a l)) a (length-take-le a l h)

  by_front : (l m : List A) → a ≤ length l → length m ≡ length l → take (a + k) m ≡ take (a + k) l → take k (drop a m) ≡ take k (drop a l)
  by_front l m h g e = sym (of_front m (omega arith)) ∙ ap (drop a) e ∙ of_front l h

-- ---- the laws

below : (t s : ℕ) → (t ≡ s → ⊥) → t ≤ s → t < s
below t s ne h = ⊎_elim (λ e. absurd (ne e)) (λ b. b) (eq-or-lt_of_le h)

module _ {A : Type 0} (s : ℕ) (l : List A) where
  -- what the code reads and writes back
  pub cut_part : (a e : ℕ) → Cut (length l) s a e → take (e - a) (drop a l) ≡ part_of s l
  unfolding part_of
  cut_part a e c =
      let q : e - a ≡ size l = omega (arith, c.starts, c.ends) in
      ap₂ (λ x y. take x (drop y l)) q c.starts

  pub cut_back : (p : List A) (a e : ℕ) → Cut (length l) s a e → take a l ++ (p ++ drop (e - a) (drop a l)) ≡ with_part s p l
  unfolding with_part
  cut_back p a e c =
      let q : a + (e - a) ≡ s * size l + size l = omega (arith, c.starts, c.ends) in
      ap₂ (λ x y. take x l ++ (p ++ y)) c.starts (drop-drop (e - a) a l ∙ ap (λ z. drop z l) q)

  -- a part put back is all as it was
  pub with_own : with_part s (part_of s l) l ≡ l
  unfolding part_of with_part
  with_own =
      ap (λ x. take (s * size l) l ++ x)
      (ap (λ x. take (size l) (drop (s * size l) l) ++ x) (sym (drop-drop (size l) (s * size l) l)) ∙ take-append-drop (size l) (drop (s * size l) l))
      ∙ take-append-drop (s * size l) l

  module _ (own : s < stakes) where
    pub length_part : length (part_of s l) ≡ size l
    unfolding part_of
    length_part = length-take-le (size l) (drop (s * size l) l) (rw length-drop (omega (arith, ends_within (length l) s own)))

    module _ (p : List A) (long : length p ≡ size l) where
      pub length_with : length (with_part s p l) ≡ length l
      unfolding with_part
      length_with = length_laid (s * size l) (size l) p l (ends_within (length l) s own) long

      pub part_own : part_of s (with_part s p l) ≡ p
      unfolding part_of with_part
      part_own =
          ap (λ n. take (n / stakes) (drop (s * (n / stakes)) (with_part s p l))) length_with ∙ laid_own (s * size l) (size l) p l (ends_within (length l) s own) long

      earlier : (t : ℕ) → t < stakes → t < s → take (size l) (drop (t * size l) (with_part s p l)) ≡ take (size l) (drop (t * size l) l)
      unfolding with_part
      earlier t h b =
          by_front (t * size l) (size l) l (with_part s p l) (omega (arith, ends_within (length l) t h)) length_with
          (laid_before (s * size l) (size l) p l (ends_within (length l) s own) long (t * size l + size l) (apart t s (size l) b))

      later : (t : ℕ) → s < t → take (size l) (drop (t * size l) (with_part s p l)) ≡ take (size l) (drop (t * size l) l)
      unfolding with_part
      later t b = ap (take (size l)) (laid_past (s * size l) (size l) p l (ends_within (length l) s own) long (t * size l) (apart s t (size l) b))

      pub part_other : (t : ℕ) → t < stakes → (t ≡ s → ⊥) → part_of t (with_part s p l) ≡ part_of t l
      unfolding part_of with_part
      part_other t h ne = ap (λ n. take (n / stakes) (drop (t * (n / stakes)) (with_part s p l))) length_with ∙ either t s (λ b. earlier t h (below t s ne b)) (λ b. later t b)

      -- what is past the last part is nobody's
      pub rest_kept : drop (stakes * size l) (with_part s p l) ≡ drop (stakes * size l) l
      unfolding with_part
      rest_kept = laid_past (s * size l) (size l) p l (ends_within (length l) s own) long (stakes * size l) (apart s stakes (size l) own)

-- ---- values written to a part that has room for them

over_long : {A : Type 0} (v p : List A) → length v ≤ length p → length (over v p) ≡ length p
over_long v p h = simp (length-append, length-drop) (omega arith)

module _ {A : Type 0} (s : ℕ) (l : List A) (own : s < stakes) (v : List A) (fits : length v ≤ length (part_of s l)) where
  over_size : length (over v (part_of s l)) ≡ size l
  over_size = over_long v (part_of s l) fits ∙ length_part s l own

  pub length_over : length (over_part s v l) ≡ length l
  length_over = length_with s l own (over v (part_of s l)) over_size

  pub over_own : part_of s (over_part s v l) ≡ over v (part_of s l)
  over_own = part_own s l own (over v (part_of s l)) over_size

  pub over_other : (t : ℕ) → t < stakes → (t ≡ s → ⊥) → part_of t (over_part s v l) ≡ part_of t l
  over_other = part_other s l own (over v (part_of s l)) over_size

  pub over_rest : drop (stakes * size l) (over_part s v l) ≡ drop (stakes * size l) l
  over_rest = rest_kept s l own (over v (part_of s l)) over_size
