-- Laws of Places.antt.
use Rattle.std.specs.Prelude.{◌≡◌, refl, List, [], ◌∷◌, ◌++◌, map, ℕ, zero, suc, ◌+◌, ◌-◌, ◌*◌, ◌≤◌, ◌<◌, length, get_or, set, take, drop, replicate}
use Rattle.std.proofs.Common.{sym, ap, ◌∙◌, append-nil, add-one, arith, length-drop, drop_of_length-le, take_all, drop-drop}
use Rattle.std.proofs.Math.Seq.{drop-append-add}
use Rattle.std.proofs.lemmas.List.{length-take-le}
use Rattle.std.proofs.Math.Path.{fun_ext}
use Rattle.loops.specs.Places.{each, table}

pub length_each : {A : Type 0} (f : ℕ → A → A) (n : ℕ) (s : List A) → length (each f n s) ≡ length s
unfolding each
length_each f zero s = refl
length_each f (suc n) [] = refl
length_each f (suc n) (v ∷ vs) = ap suc (length_each (λ k. f (suc k)) n vs)

more : {A : Type 0} (f : ℕ → A → A) (n : ℕ) (s : List A) (d : A) → n < length s → set (each f n s) n (f n (get_or (each f n s) n d)) ≡ each f (suc n) s
unfolding each
more f n [] d h = absurd (omega arith)
more f zero (v ∷ vs) d h = refl
more f (suc n) (v ∷ vs) d h = ap (λ l. f 0 v ∷ l) (more (λ k. f (suc k)) n vs d (omega arith))

-- one turn of a loop that takes the places in order
pub each_again : {A : Type 0} (f : ℕ → A → A) (n : ℕ) (s : List A) (d : A) → n < length s → set (each f n s) n (f n (get_or (each f n s) n d)) ≡ each f (n + 1) s
each_again f n s d h = rw add-one (more f n s d h)

-- every place through one function
pub each_whole : {A : Type 0} (f : A → A) (s : List A) → each (λ _ v. f v) (length s) s ≡ map f s
unfolding each
each_whole f [] = refl
each_whole f (v ∷ vs) = ap (λ l. f v ∷ l) (each_whole f vs)

-- one turn of a loop that takes two places
pub each_two : {A : Type 0} (f : ℕ → A) (p : ℕ) (s : List A) (d : A) → 2 * p + 1 < length s
    → set (set (each (λ k _. f k) (2 * p) s) (2 * p) (f (2 * p))) (2 * p + 1) (f (2 * p + 1)) ≡ each (λ k _. f k) (2 * (p + 1)) s
each_two f p s d h =
    let e : 2 * p + 1 + 1 ≡ 2 * (p + 1) = omega arith in
    rw (each_again (λ k _. f k) (2 * p) s d (omega arith), each_again (λ k _. f k) (2 * p + 1) s d h, e)

-- a place that is not below n stands
pub each_past : {A : Type 0} (f : ℕ → A → A) (n : ℕ) (s : List A) (k : ℕ) (d : A) → n ≤ k → get_or (each f n s) k d ≡ get_or s k d
unfolding each
each_past f zero s k d h = refl
each_past f (suc n) [] k d h = refl
each_past f (suc n) (v ∷ vs) zero d h = absurd (omega arith)
each_past f (suc n) (v ∷ vs) (suc k) d h = each_past (λ j. f (suc j)) n vs k d (omega arith)

-- a place below n has gone through f
pub each_at : {A : Type 0} (f : ℕ → A → A) (n : ℕ) (s : List A) (k : ℕ) (d : A) → k < n → k < length s → get_or (each f n s) k d ≡ f k (get_or s k d)
unfolding each
each_at f zero s k d h g = absurd (omega arith)
each_at f (suc n) [] k d h g = absurd (omega arith)
each_at f (suc n) (v ∷ vs) zero d h g = refl
each_at f (suc n) (v ∷ vs) (suc k) d h g = each_at (λ j. f (suc j)) n vs k d (omega arith) (omega arith)

-- what stands behind the n places is left alone
pub each_append : {A : Type 0} (f : ℕ → A → A) (s t : List A) → each f (length s) (s ++ t) ≡ each f (length s) s ++ t
unfolding each
each_append f [] t = refl
each_append f (v ∷ vs) t = ap (λ l. f 0 v ∷ l) (each_append (λ k. f (suc k)) vs t)

pub length_table : {A : Type 0} (f : ℕ → A) (n : ℕ) → length (table f n) ≡ n
unfolding table
length_table f zero = refl
length_table f (suc n) = ap suc (length_table (λ k. f (suc k)) n)

pub table_at : {A : Type 0} (f : ℕ → A) (n k : ℕ) (d : A) → k < n → get_or (table f n) k d ≡ f k
unfolding table
table_at f zero k d h = absurd (omega arith)
table_at f (suc n) zero d h = refl
table_at f (suc n) (suc k) d h = table_at (λ j. f (suc j)) n k d (omega arith)

-- the first a values of a table
pub take_table : {A : Type 0} (f : ℕ → A) (a n : ℕ) → a ≤ n → take a (table f n) ≡ table f a
unfolding table
take_table f zero n h = refl
take_table f (suc a) zero h = absurd (omega arith)
take_table f (suc a) (suc n) h = ap (λ l. f 0 ∷ l) (take_table (λ k. f (suc k)) a n (omega arith))

-- a list of n places that were all set
pub each_table : {A : Type 0} (f : ℕ → A) (n : ℕ) (s : List A) → length s ≡ n → each (λ k _. f k) n s ≡ table f n
unfolding each table
each_table f zero [] h = refl
each_table f zero (v ∷ vs) h = absurd (omega arith)
each_table f (suc n) [] h = absurd (omega arith)
each_table f (suc n) (v ∷ vs) h = ap (λ l. f 0 ∷ l) (each_table (λ k. f (suc k)) n vs (omega arith))

one_more : {A : Type 0} (f : ℕ → A) (n : ℕ) → table f (suc n) ≡ table f n ++ (f n ∷ [])
unfolding table
one_more f zero = refl
one_more f (suc n) = ap (λ l. f 0 ∷ l) (one_more (λ k. f (suc k)) n)

-- one place more
pub table_again : {A : Type 0} (f : ℕ → A) (n : ℕ) → table f (n + 1) ≡ table f n ++ (f n ∷ [])
table_again f n = rw add-one (one_more f n)

-- n places are filled
pub each_fill : {A : Type 0} (v : A) (n : ℕ) (s : List A) → n ≤ length s → each (λ _ _. v) n s ≡ replicate n v ++ drop n s
unfolding each
each_fill v zero s h = refl
each_fill v (suc n) [] h = absurd (omega arith)
each_fill v (suc n) (u ∷ us) h = ap (λ l. v ∷ l) (each_fill v n us (omega arith))

-- a tail that was lent, `&mut s[a..]`, is back with its first w places written
pub tail_back : {A : Type 0} (a w : ℕ) (xs r : List A) → take a xs ++ ((r ++ drop w (take (length xs - a) (drop a xs))) ++ drop (length xs - a) (drop a xs)) ≡ take a xs ++ (r ++ drop (a + w) xs)
tail_back a w xs r =
    let d : length (drop a xs) ≤ length xs - a = rw length-drop (omega arith) in
    rw (take_all (length xs - a) (drop a xs) d, drop_of_length-le (drop a xs) d, append-nil, drop-drop)

-- n places are written, the others stand
pub each_write : {A : Type 0} (f : ℕ → A) (n : ℕ) (s : List A) → n ≤ length s → each (λ k _. f k) n s ≡ table f n ++ drop n s
unfolding each table
each_write f zero s h = refl
each_write f (suc n) [] h = absurd (omega arith)
each_write f (suc n) (v ∷ vs) h = ap (λ l. f 0 ∷ l) (each_write (λ k. f (suc k)) n vs (omega arith))

pub map_table : {A B : Type 0} (g : A → B) (f : ℕ → A) (n : ℕ) → table (λ k. g (f k)) n ≡ map g (table f n)
unfolding table
map_table g f zero = refl
map_table g f (suc n) = ap (λ l. g (f 0) ∷ l) (map_table g (λ k. f (suc k)) n)

-- the first n places of a list, as a table
pub table_take : {A : Type 0} (d : A) (n : ℕ) (s : List A) → n ≤ length s → table (λ k. get_or s k d) n ≡ take n s
unfolding table
table_take d zero s h = refl
table_take d (suc n) [] h = absurd (omega arith)
table_take d (suc n) (v ∷ vs) h = ap (λ l. v ∷ l) (table_take d n vs (omega arith))

-- n places are copied from another list
pub each_copy : {A : Type 0} (d : A) (n : ℕ) (t s : List A) → n ≤ length t → n ≤ length s → each (λ k _. get_or t k d) n s ≡ take n t ++ drop n s
each_copy d n t s h g = each_write (λ k. get_or t k d) n s g ∙ ap (λ l. l ++ drop n s) (table_take d n t h)

-- two functions that agree below n
pub each_same : {A : Type 0} (f g : ℕ → A → A) (n : ℕ) (s : List A) → ((k : ℕ) (v : A) → k < n → f k v ≡ g k v) → each f n s ≡ each g n s
unfolding each
each_same f g zero s h = refl
each_same f g (suc n) [] h = refl
each_same f g (suc n) (v ∷ vs) h =
    rw (h 0 v (omega arith)) (ap (λ l. g 0 v ∷ l) (each_same (λ k. f (suc k)) (λ k. g (suc k)) n vs (λ k u q. h (suc k) u (omega arith))))

-- what stands from n on is left alone
pub each_rest : {A : Type 0} (f : ℕ → A → A) (n : ℕ) (s : List A) → drop n (each f n s) ≡ drop n s
unfolding each
each_rest f zero s = refl
each_rest f (suc n) [] = refl
each_rest f (suc n) (v ∷ vs) = each_rest (λ k. f (suc k)) n vs

-- a + b places: the first a, and behind them the other b
pub each_split : {A : Type 0} (f : ℕ → A → A) (a b : ℕ) (s : List A) → a ≤ length s → each f (a + b) s ≡ take a (each f a s) ++ each (λ k. f (a + k)) b (drop a s)
unfolding each
each_split f zero b s h =
    let e : 0 + b ≡ b = omega arith in
    rw e (ap (λ g. each g b s) (fun_ext (λ k. let z : k ≡ 0 + k = omega arith in ap f z)))
each_split f (suc a) b [] h = absurd (omega arith)
each_split f (suc a) b (v ∷ vs) h =
    let e : suc a + b ≡ suc (a + b) = omega arith in
    let i = each_split (λ k. f (suc k)) a b vs (omega arith) in
    let shifted = fun_ext (λ k. let z : suc (a + k) ≡ suc a + k = omega arith in ap f z) in
    rw e (ap (λ l. f 0 v ∷ l) (i ∙ ap (λ g. take a (each (λ k. f (suc k)) a vs) ++ each g b (drop a vs)) shifted))

-- a tail that was lent, `&mut s[a..]`, is back as g left it
pub tail_through : {A : Type 0} (g : List A → List A) (a : ℕ) (xs : List A)
    → take a xs ++ (g (take (length xs - a) (drop a xs)) ++ drop (length xs - a) (drop a xs)) ≡ take a xs ++ g (drop a xs)
tail_through g a xs =
    let d : length (drop a xs) ≤ length xs - a = rw length-drop (omega arith) in
    rw (take_all (length xs - a) (drop a xs) d, drop_of_length-le (drop a xs) d, append-nil)

-- an element of a mapped list
pub map_at : {A B : Type 0} (f : A → B) (l : List A) (i : ℕ) (a : A) (b : B) → i < length l → get_or (map f l) i b ≡ f (get_or l i a)
map_at f [] i a b h = absurd (omega arith)
map_at f (x ∷ xs) zero a b h = refl
map_at f (x ∷ xs) (suc i) a b h = map_at f xs i a b (omega arith)

-- two tables whose functions agree below n
pub table_same : {A : Type 0} (f g : ℕ → A) (n : ℕ) → ((k : ℕ) → k < n → f k ≡ g k) → table f n ≡ table g n
unfolding table
table_same f g zero h = refl
table_same f g (suc n) h = rw (h 0 (omega arith)) (ap (λ l. g 0 ∷ l) (table_same (λ k. f (suc k)) (λ k. g (suc k)) n (λ k q. h (suc k) (omega arith))))

-- a slice from place b on
pub slice_from : {A : Type 0} (b : ℕ) (l : List A) → take (length l - b) (drop b l) ≡ drop b l
slice_from b l = take_all (length l - b) (drop b l) (omega (arith, length-drop b l))

-- a table without its first places, and a map
pub drop_table : {A : Type 0} (f : ℕ → A) (b n : ℕ) → b ≤ n → drop b (table f n) ≡ table (λ k. f (b + k)) (n - b)
unfolding table
drop_table f zero n h =
    let e : n - 0 ≡ n = omega arith in
    rw e (table_same f (λ k. f (0 + k)) n (λ k q. let z : k ≡ 0 + k = omega arith in ap f z))
drop_table f (suc b) zero h = absurd (omega arith)
drop_table f (suc b) (suc n) h =
    let e : suc n - suc b ≡ n - b = omega arith in
    rw e
    (drop_table (λ k. f (suc k)) b n (omega arith)
    ∙ table_same (λ k. f (suc (b + k))) (λ k. f (suc b + k)) (n - b) (λ k q. let z : suc (b + k) ≡ suc b + k = omega arith in ap f z))

pub drop_map : {A B : Type 0} (f : A → B) (b : ℕ) (l : List A) → drop b (map f l) ≡ map f (drop b l)
drop_map f zero l = refl
drop_map f (suc b) [] = refl
drop_map f (suc b) (x ∷ l) = drop_map f b l

-- a place within a list holds the same whatever stands for a missing one
pub get_d_within : {A : Type 0} (l : List A) (i : ℕ) (d e : A) → i < length l → get_or l i d ≡ get_or l i e
get_d_within [] i d e h = absurd (omega arith)
get_d_within (a ∷ l) zero d e h = refl
get_d_within (a ∷ l) (suc i) d e h = get_d_within l i d e (omega arith)

-- a part of the first n places, and a part of a mapped list
pub part_take : {A : Type 0} (a m n : ℕ) (l : List A) → a + m ≤ n → take m (drop a (take n l)) ≡ take m (drop a l)
part_take a zero n l h = refl
part_take a (suc m) zero l h = absurd (omega arith)
part_take a (suc m) (suc n) [] h = refl
part_take zero (suc m) (suc n) (x ∷ xs) h = ap (λ s. x ∷ s) (part_take zero m n xs (omega arith))
part_take (suc a) (suc m) (suc n) (x ∷ xs) h = part_take a (suc m) n xs (omega arith)

pub map_part : {A B : Type 0} (f : A → B) (a m : ℕ) (l : List A) → map f (take m (drop a l)) ≡ take m (drop a (map f l))
map_part f a zero l = refl
map_part f zero (suc m) [] = refl
map_part f zero (suc m) (x ∷ xs) = ap (λ s. f x ∷ s) (map_part f zero m xs)
map_part f (suc a) (suc m) [] = refl
map_part f (suc a) (suc m) (x ∷ xs) = map_part f a (suc m) xs

-- a list with p in the place of the k places from a on: later places stand
pub laid_past : {A : Type 0} (a k : ℕ) (p l : List A) → a + k ≤ length l → length p ≡ k → (c : ℕ) → a + k ≤ c → drop c (take a l ++ (p ++ drop (a + k) l)) ≡ drop c l
laid_past a k p l fits long c h =
    let laid = take a l ++ (p ++ drop (a + k) l) in
    let front : length (take a l) ≡ a = length-take-le a l (omega arith) in
    let e : c ≡ a + (k + (c - (a + k))) = omega arith in
    let j = c - (a + k) in
    let g : length (take a l) + (k + j) ≡ c = omega (arith, front) in
    let f : length p + j ≡ k + j = omega arith in
    let q : a + k + j ≡ c = omega arith in
    sym (ap (λ z. drop z laid) g) ∙ drop-append-add (take a l) (p ++ drop (a + k) l) (k + j) ∙ sym (ap (λ z. drop z (p ++ drop (a + k) l)) f)
    ∙ drop-append-add p (drop (a + k) l) j ∙ drop-drop j (a + k) l ∙ ap (λ z. drop z l) q
