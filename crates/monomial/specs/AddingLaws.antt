-- Laws of Adding.antt.
use Rattle.std.specs.Prelude.{◌≡◌, ℕ, ◌+◌, ◌-◌, ◌≤◌, ◌<◌, length, get_or, take, drop, replicate, Float}
use Rattle.std.proofs.Math.Path.{refl, ap}
use Rattle.std.proofs.Common.{sym, ◌∙◌, arith, length-drop, ext_get_or, get_or-drop, get_or-take, length-take-le}
use mathlib.Core.List.{List, [], ◌∷◌, ◌++◌, map}
use Rattle.std.proofs.Math.ListN.{length-replicate}
use Rattle.std.proofs.lemmas.List.{get_or-replicate}
use Rattle.std.specs.Float.Ieee.{nan, binary64, add}
use Rattle.loops.specs.Fold.{fold}
use Rattle.loops.specs.Places.{each}
use Rattle.loops.specs.PlaceLaws.{each_append, each_fill, each_at, length_each}
use Rattle.value.specs.Numbers.{zero_f}
use Rattle.value.specs.Total.{total_f}
use Rattle.monomial.specs.Adding.{add_one, add_all, sums}

module _ {A : Type 0} (f : A → ℕ → Float) (n : ℕ) where
  pub length_add_one : (s : List Float) (a : A) → length (add_one f n s a) ≡ length s
  unfolding add_one
  length_add_one s a = length_each (λ k v. add binary64 v (f a k)) n s

  pub length_add_all : (s : List Float) (l : List A) → length (add_all f n s l) ≡ length s
  unfolding fold
  length_add_all s [] = refl
  length_add_all s (a ∷ l) = length_add_all (add_one f n s a) l ∙ length_add_one s a

  pub sums_length : (l : List A) → length (sums f n l) ≡ n
  unfolding sums
  sums_length l = length_add_all (replicate n zero_f) l ∙ length-replicate n zero_f

  -- what stands behind the n places is left alone
  pub add_one_append : (s t : List Float) (a : A) → length s ≡ n → add_one f n (s ++ t) a ≡ add_one f n s a ++ t
  unfolding add_one
  add_one_append s t a h = rw h at (each_append (λ k v. add binary64 v (f a k)) s t)

  pub add_all_append : (s t : List Float) (l : List A) → length s ≡ n → add_all f n (s ++ t) l ≡ add_all f n s l ++ t
  unfolding fold
  add_all_append s t [] h = refl
  add_all_append s t (a ∷ l) h = rw (add_one_append s t a h) (add_all_append (add_one f n s a) t l (length_add_one s a ∙ h))

  -- the sums over a list, made in lent memory whose first n places were set to +0
  pub sums_afresh : (s : List Float) (l : List A) → n ≤ length s → add_all f n (each (λ _ _. zero_f) n s) l ≡ sums f n l ++ drop n s
  unfolding sums
  sums_afresh s l h = rw (each_fill zero_f n s h) (add_all_append (replicate n zero_f) (drop n s) l (length-replicate n zero_f))

  add_one_at : (s : List Float) (a : A) (k : ℕ) → k < n → k < length s → get_or (add_one f n s a) k nan ≡ add binary64 (get_or s k nan) (f a k)
  unfolding add_one
  add_one_at s a k h g = each_at (λ j v. add binary64 v (f a j)) n s k nan h g

  add_all_at : (s : List Float) (l : List A) (k : ℕ) → k < n → k < length s → get_or (add_all f n s l) k nan ≡ fold (add binary64) (get_or s k nan) (map (λ a. f a k) l)
  unfolding fold
  add_all_at s [] k h g = refl
  add_all_at s (a ∷ l) k h g =
      add_all_at (add_one f n s a) l k h (rw (length_add_one s a) g) ∙ ap (λ (v : Float). fold (add binary64) v (map (λ b. f b k) l)) (add_one_at s a k h g)

  -- a place of the sums is the sum, in index order from +0, of what each element adds there
  pub sums_place : (l : List A) (k : ℕ) → k < n → get_or (sums f n l) k nan ≡ total_f (map (λ a. f a k) l)
  unfolding sums
  sums_place l k h =
      add_all_at (replicate n zero_f) l k h (rw (length-replicate n zero_f) h)
      ∙ ap (λ (v : Float). fold (add binary64) v (map (λ a. f a k) l)) (get_or-replicate n k zero_f nan h)

-- two lists whose elements add the same at each place have the same sums
pub sums_same : {A B : Type 0} (f : A → ℕ → Float) (g : B → ℕ → Float) (n : ℕ) (l : List A) (m : List B)
    → ((k : ℕ) → k < n → map (λ a. f a k) l ≡ map (λ b. g b k) m) → sums f n l ≡ sums g n m
sums_same f g n l m h =
    ext_get_or nan (sums f n l) (sums g n m) (sums_length f n l ∙ sym (sums_length g n m))
    (λ k q. let b : k < n = rw (sums_length f n l) at q in sums_place f n l k b ∙ ap total_f (h k b) ∙ sym (sums_place g n m k b))

-- the first a places of the sums, and those from a on
pub sums_take : {A : Type 0} (f : A → ℕ → Float) (n a : ℕ) (l : List A) → a ≤ n → take a (sums f n l) ≡ sums f a l
sums_take f n a l h =
    let z = length-take-le a (sums f n l) (rw (sums_length f n l) h) in
    ext_get_or nan (take a (sums f n l)) (sums f a l) (z ∙ sym (sums_length f a l))
    (λ k q. let b : k < a = rw z at q in get_or-take a (sums f n l) k nan b ∙ sums_place f n l k (omega arith) ∙ sym (sums_place f a l k b))

pub sums_drop : {A : Type 0} (f : A → ℕ → Float) (n a : ℕ) (l : List A) → a ≤ n → drop a (sums f n l) ≡ sums (λ e k. f e (a + k)) (n - a) l
sums_drop f n a l h =
    let z = length-drop a (sums f n l) ∙ ap (λ (m : ℕ). m - a) (sums_length f n l) in
    ext_get_or nan (drop a (sums f n l)) (sums (λ e k. f e (a + k)) (n - a) l) (z ∙ sym (sums_length (λ e k. f e (a + k)) (n - a) l))
    (λ k q. let b : k < n - a = rw z at q in
    get_or-drop a (sums f n l) k nan ∙ sums_place f n l (a + k) (omega arith) ∙ sym (sums_place (λ e j. f e (a + j)) (n - a) l k b))
