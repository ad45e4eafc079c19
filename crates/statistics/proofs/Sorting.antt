-- What stands at place m of a list in order, told by two counts over the list in any order: at most m are below it, and more than m are at most it.
use Rattle.std.proofs.Common.{◌≡◌, ℕ, zero, suc, ◌+◌, ◌<◌, ◌≤◌, Bool, List, [], ◌∷◌, length, get_or, sym, refl, ap, ◌∙◌, zero-le, le_trans, le_of_suc-le-suc, not-suc-le-zero, le_of_lt, le_antisymm, zero-add, one-add, arith, le-leb, leb-false, leb-true}
use borrow.Author.Tests.{lt-leb}
use lib.Ieee.{Float, binary64, le, to_bits}
use Rattle.std.specs.Int.{from_bool}
use Rattle.loops.specs.All.{All}
use Rattle.loops.specs.Cases.{choose, either}
use Rattle.value.specs.Keys.{le_key}
use Rattle.statistics.specs.Medians.{insert, sort}
use Rattle.statistics.specs.Counting.{Plain, count, upto, under}

-- ---- a sort changes no count, no length, and nothing that holds of every element

count_insert : (p : Float → Bool) (x : Float) (l : List Float) → count p (insert x l) ≡ from_bool (p x) + count p l
unfolding count insert
count_insert p x [] = refl
count_insert p x (y ∷ ys) =
    let ih = count_insert p x ys in
    choose (λ l. count p l ≡ from_bool (p x) + (from_bool (p y) + count p ys)) (le x y) (x ∷ y ∷ ys) (y ∷ insert x ys)
    (λ t. refl) (λ t. omega arith)

count_sort : (p : Float → Bool) (l : List Float) → count p (sort l) ≡ count p l
unfolding count sort
count_sort p [] = refl
count_sort p (x ∷ xs) = count_insert p x (sort xs) ∙ ap (λ (n : ℕ). from_bool (p x) + n) (count_sort p xs)

length_insert : (x : Float) (l : List Float) → length (insert x l) ≡ suc (length l)
unfolding insert
length_insert x [] = refl
length_insert x (y ∷ ys) =
    choose (λ l. length l ≡ suc (suc (length ys))) (le x y) (x ∷ y ∷ ys) (y ∷ insert x ys) (λ t. refl) (λ t. ap suc (length_insert x ys))

pub length_sort : (l : List Float) → length (sort l) ≡ length l
unfolding sort
length_sort [] = refl
length_sort (x ∷ xs) = length_insert x (sort xs) ∙ ap suc (length_sort xs)

all_insert : (P : Float → Type 0) (x : Float) (l : List Float) → P x → All P l → All P (insert x l)
unfolding insert
all_insert P x [] h a = (h, tt)
all_insert P x (y ∷ ys) h a =
    choose (All P) (le x y) (x ∷ y ∷ ys) (y ∷ insert x ys) (λ t. (h, a)) (λ t. (a.0, all_insert P x ys h a.1))

pub all_sort : (P : Float → Type 0) (l : List Float) → All P l → All P (sort l)
unfolding sort
all_sort P [] a = tt
all_sort P (x ∷ xs) a = all_insert P x (sort xs) a.0 (all_sort P xs a.1)

-- ---- sorted by bits

key : Float → ℕ
key x = to_bits binary64 x

-- k is at most the bits of each
Least : ℕ → List Float → Type 0
Least k l = All (λ y. k ≤ key y) l

abbrev Sorted : List Float → Type 0
Sorted [] = Unit {0}
Sorted (x ∷ xs) = Least (key x) xs × Sorted xs

least_less : (j k : ℕ) (l : List Float) → j ≤ k → Least k l → Least j l
unfolding Least
least_less j k [] h a = tt
least_less j k (y ∷ ys) h a = (le_trans h a.0, least_less j k ys h a.1)

sorted_insert : (x : Float) (l : List Float) → Plain x → All Plain l → Sorted l → Sorted (insert x l)
unfolding insert Least key
sorted_insert x [] n a s = (tt, tt)
sorted_insert x (y ∷ ys) n a s =
    choose Sorted (le x y) (x ∷ y ∷ ys) (y ∷ insert x ys)
    (λ t. let h : key x ≤ key y = leb-true (key x) (key y) (sym (le_key x y n a.0) ∙ t) in ((h, least_less (key x) (key y) ys h s.0), s))
    (λ t. let h : key y < key x = leb-false (key x) (key y) (sym (le_key x y n a.0) ∙ t) in
    (all_insert (λ z. key y ≤ key z) x ys (le_of_lt h) s.0, sorted_insert x ys n a.1 s.1))

sorted_sort : (l : List Float) → All Plain l → Sorted (sort l)
unfolding sort
sorted_sort [] a = tt
sorted_sort (x ∷ xs) a = sorted_insert x (sort xs) a.0 (all_sort Plain xs a.1) (sorted_sort xs a.1)

-- where all are at least k none is under k; where all are above k none is up to k
none_under : (k : ℕ) (l : List Float) → Least k l → count (under k) l ≡ 0
unfolding count Least key
none_under k [] a = refl
none_under k (y ∷ ys) a = rw (le-leb k (key y) a.0) (zero-add (count (under k) ys) ∙ none_under k ys a.1)

none_upto : (k : ℕ) (l : List Float) → Least (suc k) l → count (upto k) l ≡ 0
unfolding count Least key
none_upto k [] a = refl
none_upto k (y ∷ ys) a = rw (lt-leb (key y) k a.0) (zero-add (count (upto k) ys) ∙ none_upto k ys a.1)

-- one element more
under_yes : (k : ℕ) (x : Float) (xs : List Float) → key x < k → count (under k) (x ∷ xs) ≡ suc (count (under k) xs)
unfolding count key
under_yes k x xs h = rw (lt-leb k (key x) h) (one-add (count (under k) xs))

upto_yes : (k : ℕ) (x : Float) (xs : List Float) → key x ≤ k → count (upto k) (x ∷ xs) ≡ suc (count (upto k) xs)
unfolding count key
upto_yes k x xs h = rw (le-leb (key x) k h) (one-add (count (upto k) xs))

-- where the first of a list in order is above k, none is up to k
past : (k : ℕ) (x : Float) (xs : List Float) → Sorted (x ∷ xs) → k < key x → count (upto k) (x ∷ xs) ≡ 0
unfolding Least
past k x xs s h = none_upto k (x ∷ xs) (h, least_less (suc k) (key x) xs h s.0)

at_place : (k m : ℕ) (d : Float) (l : List Float) → Sorted l → count (under k) l ≤ m → m < count (upto k) l → key (get_or l m d) ≡ k
unfolding count
at_place k m d [] s a b = absurd (not-suc-le-zero b)
at_place k zero d (x ∷ xs) s a b =
    either (key x) k
    (λ h. either k (key x) (λ g. le_antisymm h g) (λ g. absurd (not-suc-le-zero (rw (under_yes k x xs g) at a))))
    (λ h. absurd (not-suc-le-zero (rw (past k x xs s h) at b)))
at_place k (suc m) d (x ∷ xs) s a b =
    either (key x) k
    (λ h.
    let b' : m < count (upto k) xs = le_of_suc-le-suc (rw (upto_yes k x xs h) at b) in
    either k (key x)
    (λ g. at_place k m d xs s.1 (rw (none_under k xs (least_less k (key x) xs g s.0)) zero-le) b')
    (λ g. at_place k m d xs s.1 (le_of_suc-le-suc (rw (under_yes k x xs g) at a)) b'))
    (λ h. absurd (not-suc-le-zero (rw (past k x xs s h) at b)))

-- the bits at place m of the list in order
pub place : (l : List Float) → All Plain l → (k m : ℕ) (d : Float) → count (under k) l ≤ m → m < count (upto k) l → to_bits binary64 (get_or (sort l) m d) ≡ k
unfolding key
place l a k m d low high =
    at_place k m d (sort l) (sorted_sort l a) (rw (← count_sort (under k) l) at low) (rw (← count_sort (upto k) l) at high)
