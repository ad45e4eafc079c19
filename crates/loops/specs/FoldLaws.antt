-- Laws of Fold.antt.
use Rattle.std.specs.Prelude.{◌≡◌, refl, Bool, true, false, ◌&&◌, List, [], ◌∷◌, ◌++◌, map, ℕ, ◌+◌, ◌*◌, ◌<◌, length, get_or, take}
use Rattle.std.specs.List as list
use Rattle.std.specs.List.{list_all}
use Rattle.std.proofs.Common.{sym, ap, ◌∙◌, add-one, arith, take-suc}
use Rattle.std.proofs.lemmas.Bool.{false≢true}
use Rattle.std.proofs.lemmas.List.{map-append}
use Rattle.loops.specs.Places.{table}
use Rattle.loops.specs.PlaceLaws.{table_again}
use Rattle.loops.specs.Fold.{fold, all_of}

-- one element more
pub fold_snoc : {A B : Type 0} (f : B → A → B) (b : B) (l : List A) (a : A) → fold f b (l ++ (a ∷ [])) ≡ f (fold f b l) a
unfolding fold
fold_snoc f b [] a = refl
fold_snoc f b (v ∷ vs) a = fold_snoc f (f b v) vs a

-- one list behind another
pub fold_append : {A B : Type 0} (f : B → A → B) (b : B) (l m : List A) → fold f b (l ++ m) ≡ fold f (fold f b l) m
unfolding fold
fold_append f b [] m = refl
fold_append f b (v ∷ vs) m = fold_append f (f b v) vs m

-- one turn of a loop that folds a list
pub fold_again : {A B : Type 0} (f : B → A → B) (b : B) (l : List A) (d : A) (i : ℕ) → i < length l
    → fold f b (take (i + 1) l) ≡ f (fold f b (take i l)) (get_or l i d)
fold_again f b l d i h = ap (λ k. fold f b (take k l)) (add-one i) ∙ ap (λ m. fold f b m) (take-suc l i d h) ∙ fold_snoc f b (take i l) (get_or l i d)

-- one turn of a loop that folds a table
pub fold_table : {A B : Type 0} (g : B → A → B) (b : B) (f : ℕ → A) (i : ℕ) → fold g b (table f (i + 1)) ≡ g (fold g b (table f i)) (f i)
fold_table g b f i = ap (λ m. fold g b m) (table_again f i) ∙ fold_snoc g b (table f i) (f i)

-- one turn of a loop that takes two places
pub fold_two : {A B : Type 0} (g : B → A → B) (b : B) (f : ℕ → A) (p : ℕ) → fold g b (table f (2 * (p + 1))) ≡ g (g (fold g b (table f (2 * p))) (f (2 * p))) (f (2 * p + 1))
fold_two g b f p =
    let e : 2 * (p + 1) ≡ 2 * p + 1 + 1 = omega arith in
    rw (e, fold_table g b f (2 * p + 1), fold_table g b f (2 * p))

-- one turn of a loop that folds what a function makes of a list
pub fold_map_again : {A B C : Type 0} (g : C → B → C) (b : C) (f : A → B) (l : List A) (d : A) (i : ℕ) → i < length l
    → fold g b (map f (take (i + 1) l)) ≡ g (fold g b (map f (take i l))) (f (get_or l i d))
fold_map_again g b f l d i h =
    ap (λ m. fold g b (map f m)) (ap (λ k. take k l) (add-one i) ∙ take-suc l i d h) ∙ ap (λ m. fold g b m) (map-append f (take i l) (get_or l i d ∷ []))
    ∙ fold_snoc g b (map f (take i l)) (f (get_or l i d))

-- one that takes two places
pub fold_map_two : {A B C : Type 0} (g : C → B → C) (b : C) (f : A → B) (l : List A) (d : A) (p : ℕ) → 2 * p + 1 < length l
    → fold g b (map f (take (2 * (p + 1)) l)) ≡ g (g (fold g b (map f (take (2 * p) l))) (f (get_or l (2 * p) d))) (f (get_or l (2 * p + 1) d))
fold_map_two g b f l d p h =
    let e : 2 * (p + 1) ≡ 2 * p + 1 + 1 = omega arith in
    rw (e, fold_map_again g b f l d (2 * p + 1) h, fold_map_again g b f l d (2 * p) (omega arith))

-- a fold over what a function makes of a list
pub fold_map : {A B C : Type 0} (f : C → B → C) (g : A → B) (v : C) (l : List A) → fold f v (map g l) ≡ fold (λ u a. f u (g a)) v l
unfolding fold
fold_map f g v [] = refl
fold_map f g v (a ∷ l) = fold_map f g (f v (g a)) l

-- a test that passes at every element passes at the first, and at every later one
pub all_cons : {A : Type 0} (f : A → Bool) (a : A) (l : List A) → all_of f (a ∷ l) ≡ true → (f a ≡ true) × (all_of f l ≡ true)
unfolding fold
all_cons {A} f a l h = go (f a) refl h
  where
    failed : (l : List A) → fold (λ b a. b && f a) false l ≡ false
    failed [] = refl
    failed (c ∷ l) = failed l

    go : (t : Bool) → f a ≡ t → fold (λ b a. b && f a) t l ≡ true → (f a ≡ true) × (all_of f l ≡ true)
    go true q e = (q, e)
    go false q e = absurd (false≢true (sym (failed l) ∙ e))

-- ---- the library's own fold and test of all

pub fold_listed : {A B : Type 0} (f : B → A → B) (b : B) (l : List A) → list.fold f b l ≡ fold f b l
unfolding fold
fold_listed f b [] = refl
fold_listed f b (a ∷ l) = fold_listed f (f b a) l

pub all_listed : {A : Type 0} (f : A → Bool) (l : List A) → list_all f l ≡ all_of f l
unfolding fold
all_listed {A} f l = go true l
  where
    -- b says whether those passed do
    go : (b : Bool) (l : List A) → (b && list_all f l) ≡ fold (λ c a. c && f a) b l
    go true [] = refl
    go false [] = refl
    go true (a ∷ l) = go (f a) l
    go false (a ∷ l) = go false l
