-- Laws of Pairs.antt.
use Rattle.std.specs.Prelude.{◌≡◌, refl, Bool, ◌&&◌, List, [], ◌∷◌, ◌++◌, map, length, get_or, set, take, drop, replicate}
use Rattle.std.proofs.Common.{ap, ap₂, arith}
use Prim.Native.Nat.{ℕ, zero, suc, ◌<◌}
use Rattle.loops.specs.Fold.{fold, all_of}
use Rattle.loops.specs.Places.{each, table}
use Rattle.runs.specs.Runs.{Each}
use Rattle.mirror.specs.Pairs.{Pairs, none, and}

module _ {A B : Type 0} {R : A → B → Type 0} where
  pub pairs_length : {l : List A} {m : List B} → Pairs R l m → length l ≡ length m
  pairs_length none = refl
  pairs_length (and r p) = ap suc (pairs_length p)

  -- the elements at a place
  pub pairs_at : {l : List A} {m : List B} → Pairs R l m → {d : A} {e : B} → R d e → (i : ℕ) → R (get_or l i d) (get_or m i e)
  pairs_at none r i = r
  pairs_at (and q p) r zero = q
  pairs_at (and q p) r (suc i) = pairs_at p r i

  pub pairs_set : {l : List A} {m : List B} → Pairs R l m → {a : A} {b : B} → R a b → (i : ℕ) → Pairs R (set l i a) (set m i b)
  pairs_set none r i = none
  pairs_set (and q p) r zero = and r p
  pairs_set (and q p) r (suc i) = and q (pairs_set p r i)

  pub pairs_append : {l l' : List A} {m m' : List B} → Pairs R l m → Pairs R l' m' → Pairs R (l ++ l') (m ++ m')
  pairs_append none q = q
  pairs_append (and r p) q = and r (pairs_append p q)

  pub pairs_take : {l : List A} {m : List B} (i : ℕ) → Pairs R l m → Pairs R (take i l) (take i m)
  pairs_take zero p = none
  pairs_take (suc i) none = none
  pairs_take (suc i) (and {a = a} {l = l} r p) = and r (pairs_take {l = l} i p)

  pub pairs_drop : {l : List A} {m : List B} (i : ℕ) → Pairs R l m → Pairs R (drop i l) (drop i m)
  pairs_drop zero p = p
  pairs_drop (suc i) none = none
  pairs_drop (suc i) (and {a = a} {l = l} r p) = pairs_drop {l = l} i p

  pub pairs_table : (f : ℕ → A) (g : ℕ → B) (n : ℕ) → ((k : ℕ) → k < n → R (f k) (g k)) → Pairs R (table f n) (table g n)
  unfolding table
  pairs_table f g zero h = none
  pairs_table f g (suc n) h = and (h 0 (omega arith)) (pairs_table (λ k. f (suc k)) (λ k. g (suc k)) n (λ k l. h (suc k) (omega arith)))

  pub pairs_each : (f : ℕ → A → A) (g : ℕ → B → B) (n : ℕ) → ((k : ℕ) (v : A) (w : B) → R v w → R (f k v) (g k w)) → {l : List A} {m : List B} → Pairs R l m → Pairs R (each f n l) (each g n m)
  unfolding each
  pairs_each f g zero h p = p
  pairs_each f g (suc n) h none = none
  pairs_each f g (suc n) h (and r p) = and (h 0 _ _ r) (pairs_each (λ k. f (suc k)) (λ k. g (suc k)) n (λ k. h (suc k)) p)

  -- what functions make of the elements
  pub pairs_map : {C D : Type 0} (Q : C → D → Type 0) (f : A → C) (g : B → D) → ((a : A) (b : B) → R a b → Q (f a) (g b)) → {l : List A} {m : List B} → Pairs R l m → Pairs Q (map f l) (map g m)
  pairs_map Q f g h none = none
  pairs_map Q f g h (and r p) = and (h _ _ r) (pairs_map Q f g h p)

  -- and where these are equal
  pub pairs_equal : {C : Type 0} (f : A → C) (g : B → C) → ((a : A) (b : B) → R a b → f a ≡ g b) → {l : List A} {m : List B} → Pairs R l m → map f l ≡ map g m
  pairs_equal f g h none = refl
  pairs_equal f g h (and r p) = ap₂ (λ c s. c ∷ s) (h _ _ r) (pairs_equal f g h p)

  -- two folds whose turns keep a relation
  pub pairs_fold : {C D : Type 0} (Q : C → D → Type 0) (f : C → A → C) (g : D → B → D) → ((c : C) (d : D) (a : A) (b : B) → Q c d → R a b → Q (f c a) (g d b))
      → {c : C} {d : D} {l : List A} {m : List B} → Q c d → Pairs R l m → Q (fold f c l) (fold g d m)
  unfolding fold
  pairs_fold Q f g h q none = q
  pairs_fold Q f g h {c = c} q (and {a = a} r p) = pairs_fold Q f g h {c = f c a} (h _ _ _ _ q r) p

  -- a test of every element
  pub pairs_all : (f : A → Bool) (g : B → Bool) → ((a : A) (b : B) → R a b → f a ≡ g b) → {l : List A} {m : List B} → Pairs R l m → all_of f l ≡ all_of g m
  pairs_all f g h p = pairs_fold (λ (b c : Bool). b ≡ c) (λ b a. b && f a) (λ c a. c && g a) (λ b c x y e r. ap₂ ◌&&◌ e (h x y r)) refl p

pub pairs_replicate : {A B : Type 0} (R : A → B → Type 0) {a : A} {b : B} → R a b → (n : ℕ) → Pairs R (replicate n a) (replicate n b)
pairs_replicate R r zero = none
pairs_replicate R r (suc n) = and r (pairs_replicate R r n)

-- it is the relation of the runs of two machines
pub pairs_runs : {A B : Type 0} {R : A → B → Type 0} {l : List A} {m : List B} → Pairs R l m → Each R l m
pairs_runs none = tt
pairs_runs (and r p) = (r, pairs_runs p)

pub runs_pairs : {A B : Type 0} (R : A → B → Type 0) (l : List A) (m : List B) → Each R l m → Pairs R l m
runs_pairs R [] [] e = none
runs_pairs R [] (b ∷ m) e = absurd e
runs_pairs R (a ∷ l) [] e = absurd e
runs_pairs R (a ∷ l) (b ∷ m) e = and e.0 (runs_pairs R l m e.1)
