-- Laws of All.antt.
use Rattle.std.specs.Prelude.{List, [], ◌∷◌, map, ℕ, zero, suc, ◌+◌, ◌<◌, length, get_or, set, take, drop}
use Rattle.std.proofs.Common.{sym, subst, add-one, not-suc-le-zero, le_of_suc-le-suc, arith}
use Rattle.loops.specs.Places.{table}
use Rattle.loops.specs.All.{All}

-- of the element at a place
pub all_at : {A : Type 0} (P : A → Type 0) (l : List A) (i : ℕ) (d : A) → All P l → i < length l → P (get_or l i d)
all_at P [] i d a h = absurd (not-suc-le-zero h)
all_at P (x ∷ xs) zero d a h = a.0
all_at P (x ∷ xs) (suc i) d a h = all_at P xs i d a.1 (le_of_suc-le-suc h)

-- of every element mapped
pub all_map : {A B : Type 0} (P : A → Type 0) (Q : B → Type 0) (f : A → B) (l : List A) → ((x : A) → P x → Q (f x)) → All P l → All Q (map f l)
all_map P Q f [] g a = tt
all_map P Q f (x ∷ xs) g a = (g x a.0, all_map P Q f xs g a.1)

-- of every element of a part
pub all_part : {A : Type 0} (P : A → Type 0) (a m : ℕ) (l : List A) → All P l → All P (take m (drop a l))
all_part P zero zero l h = tt
all_part P zero (suc m) [] h = tt
all_part P zero (suc m) (x ∷ xs) h = (h.0, all_part P zero m xs h.1)
all_part P (suc a) zero l h = tt
all_part P (suc a) (suc m) [] h = tt
all_part P (suc a) (suc m) (x ∷ xs) h = all_part P a (suc m) xs h.1

-- of one element more
all_suc : {A : Type 0} (P : A → Type 0) (l : List A) (i : ℕ) (d : A) → All P (take i l) → P (get_or l i d) → i < length l → All P (take (suc i) l)
all_suc P [] i d a p h = absurd (not-suc-le-zero h)
all_suc P (x ∷ xs) zero d a p h = (p, tt)
all_suc P (x ∷ xs) (suc i) d a p h = (a.0, all_suc P xs i d a.1 p (le_of_suc-le-suc h))

pub all_more : {A : Type 0} (P : A → Type 0) (l : List A) (i : ℕ) (d : A) → All P (take i l) → P (get_or l i d) → i < length l → All P (take (i + 1) l)
all_more P l i d a p h = subst (λ n. All P (take n l)) (sym (add-one i)) (all_suc P l i d a p h)

-- of what follows from it
pub all_weaker : {A : Type 0} (P Q : A → Type 0) (l : List A) → ((x : A) → P x → Q x) → All P l → All Q l
all_weaker P Q [] g a = tt
all_weaker P Q (x ∷ xs) g a = (g x a.0, all_weaker P Q xs g a.1)

-- of one place set
pub all_set : {A : Type 0} (P : A → Type 0) (l : List A) (i : ℕ) (a : A) → All P l → P a → All P (set l i a)
all_set P [] i a h p = tt
all_set P (x ∷ xs) zero a h p = (p, h.1)
all_set P (x ∷ xs) (suc i) a h p = (h.0, all_set P xs i a h.1 p)

-- of every place of a table
pub all_table : {A : Type 0} (P : A → Type 0) (f : ℕ → A) (n : ℕ) → ((k : ℕ) → k < n → P (f k)) → All P (table f n)
unfolding table
all_table P f zero h = tt
all_table P f (suc n) h = (h 0 (omega arith), all_table P (λ k. f (suc k)) n (λ k q. h (suc k) (omega arith)))
