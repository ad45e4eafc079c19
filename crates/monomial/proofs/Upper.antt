-- The upper half of A, place after place: the products that are added there, and the copies that are made of it.
use mathlib.Core.Path.{◌≡◌, refl, sym, ap, ◌∙◌}
use mathlib.Core.List.{List, [], ◌∷◌, ◌++◌}
use Prim.Native.Nat.{ℕ, zero, suc, ◌+◌, ◌-◌, ◌*◌, ◌≤◌, ◌<◌}
use native.Mathlib.Omega.{arith}
use lib.ListN.{length, get_or, set, take, drop, length-set, length-append, length-drop, get_or-append}
use lib.Seq.{ext_get_or, get_or-set_same, get_or-set_other, get_or-take, get_or-drop, get_or-append-add, length-take-le, take_at, drop_at}
use lib.Ieee.{Float, nan, binary64, add}
use Rattle.loops.specs.Places.{each}
use Rattle.loops.specs.PlaceLaws.{each_at, each_past, each_rest, each_same, each_split, length_each, tail_through}
use Rattle.basis.specs.declared.Basis.{Basis}
use Rattle.monomial.specs.Terms.{terms_at}
use Rattle.monomial.specs.Rows.{WeightedRow, weighted_row, row_at, weight_at, weighted_at, weighted_rows_at}
use Rattle.monomial.specs.Sums.{weighted_product, add_row, add_rows}
use Rattle.monomial.specs.Parts.{without_y}
use Rattle.monomial.specs.SumLaws.{length_add_row, weighted_no_y}
use Rattle.monomial.specs.Upper.{SameUpper, Symmetric}
use Rattle.monomial.specs.UpperLaws.{upper_itself, upper_then, row_upper}
use Rattle.monomial.proofs.Lines.{below_last, gains}
use Rattle.monomial.proofs.Parts.{added_g, fold_rows_again}

-- ---- f says what becomes of a place

module _ (f : ℕ → Float → Float) where
  -- the places below k are passed
  pub record Passed (k : ℕ) (s t : List Float) : Type 0 where
    pub long : length t ≡ length s
    pub new : (r c : ℕ) → r ≤ c → c < 16 → 16 * r + c < k → get_or t (16 * r + c) nan ≡ f (16 * r + c) (get_or s (16 * r + c) nan)
    pub old : (p : ℕ) → k ≤ p → get_or t p nan ≡ get_or s p nan

  pub passed_none : (s : List Float) → Passed 0 s s
  passed_none s = record { long = refl; new = λ r c a b h. absurd (omega arith); old = λ p h. refl }

  -- left of the diagonal nothing need be done
  pub passed_left : (i j : ℕ) (s t : List Float) → j ≤ i → Passed (16 * i) s t → Passed (16 * i + j) s t
  passed_left i j s t g w = record { long = w.long; new = λ r c a b h. w.new r c a b (omega arith); old = λ p h. w.old p (omega arith) }

  pub passed_again : (k : ℕ) (s t : List Float) (v : Float) → k < length t → Passed k s t → v ≡ f k (get_or t k nan) → Passed (k + 1) s (set t k v)
  passed_again k s t v l w e =
      record {
        long = length-set t k v ∙ w.long;
        new = λ r c a b h. below_last (16 * r + c) k h
            (λ q. get_or-set_other t k (16 * r + c) v nan (λ z. omega arith) ∙ w.new r c a b q)
            (λ q. rw q (get_or-set_same t k v nan l ∙ e ∙ ap (f k) (w.old k (omega arith))));
        old = λ p h. get_or-set_other t k p v nan (λ z. omega arith) ∙ w.old p (omega arith);
      }

  pub passed_done : (s t : List Float) → 256 ≤ length s → Passed 256 s t → SameUpper t (each f 256 s)
  passed_done s t l w =
      record {
        long = w.long ∙ sym (length_each f 256 s);
        matrix = λ i j a b. w.new i j a b (omega arith) ∙ sym (each_at f 256 s (16 * i + j) nan (omega arith) (omega arith));
        behind = λ p h. w.old p h ∙ sym (each_past f 256 s p nan h);
      }

-- ---- copies

-- the places below k that lie under the diagonal are copied
pub record Mirrored (k : ℕ) (s t : List Float) : Type 0 where
  pub same : SameUpper t s
  pub lower : (r c : ℕ) → c < r → r < 16 → 16 * r + c < k → get_or t (16 * r + c) nan ≡ get_or s (16 * c + r) nan

pub mirrored_none : (s : List Float) → Mirrored 0 s s
mirrored_none s = record { same = upper_itself s; lower = λ r c a b h. absurd (omega arith) }

pub mirrored_again : (i j : ℕ) (s t : List Float) → j < i → i < 16 → 16 * i + j < length t → Mirrored (16 * i + j) s t
    → Mirrored (16 * i + (j + 1)) s (set t (16 * i + j) (get_or t (16 * j + i) nan))
mirrored_again i j s t a b l w =
    record {
      same = record {
        long = length-set t (16 * i + j) v ∙ w.same.long;
        matrix = λ r c g h. get_or-set_other t (16 * i + j) (16 * r + c) v nan (λ z. omega arith) ∙ w.same.matrix r c g h;
        behind = λ p h. get_or-set_other t (16 * i + j) p v nan (λ z. omega arith) ∙ w.same.behind p h;
      };
      lower = λ r c g h n. below_last (16 * r + c) (16 * i + j) (omega arith)
          (λ q. get_or-set_other t (16 * i + j) (16 * r + c) v nan (λ z. omega arith) ∙ w.lower r c g h q)
          (λ q. let x : r ≡ i = omega arith in let y : c ≡ j = omega arith in
          rw (x, y) (get_or-set_same t (16 * i + j) v nan l ∙ w.same.matrix j i (omega arith) b));
    }
  where
    v : Float
    v = get_or t (16 * j + i) nan

pub mirrored_line : (i : ℕ) (s t : List Float) → Mirrored (16 * i + i) s t → Mirrored (16 * (i + 1)) s t
mirrored_line i s t w = record { same = w.same; lower = λ r c a b h. w.lower r c a b (omega arith) }

pub mirrored_done : (s t : List Float) → Mirrored 256 s t → SameUpper t s × Symmetric t
mirrored_done s t w = (w.same, record { turned = λ i j a b. w.lower j i a b (omega arith) ∙ sym (w.same.matrix i j (omega arith) b) })

-- ---- rows

-- g in the tail that is lent
upper_tail : (m u : List Float) (g : List Float → List Float) → 256 ≤ length m → SameUpper m u → SameUpper (take 256 m ++ g (drop 256 m)) (take 256 u ++ g (drop 256 u))
upper_tail m u g l w = rw same_tail both
  where
    z : List Float
    z = g (drop 256 u)

    k : 256 ≤ length u
    k = omega (arith, w.long)

    same_tail : drop 256 m ≡ drop 256 u
    same_tail =
        ext_get_or nan (drop 256 m) (drop 256 u) (length-drop 256 m ∙ ap (λ (n : ℕ). n - 256) w.long ∙ sym (length-drop 256 u))
        (λ p q. get_or-drop 256 m p nan ∙ w.behind (256 + p) (omega arith) ∙ sym (get_or-drop 256 u p nan))

    longer : (s : List Float) → 256 ≤ length s → length (take 256 s ++ z) ≡ 256 + length z
    longer s h = length-append (take 256 s) z ∙ ap (λ (n : ℕ). n + length z) (length-take-le 256 s h)

    head : (s : List Float) (p : ℕ) → 256 ≤ length s → p < 256 → get_or (take 256 s ++ z) p nan ≡ get_or s p nan
    head s p h b = get_or-append (take 256 s) z nan p (omega (arith, length-take-le 256 s h)) ∙ get_or-take 256 s p nan b

    tail : (s : List Float) (p : ℕ) → 256 ≤ length s → 256 ≤ p → get_or (take 256 s ++ z) p nan ≡ get_or z (p - 256) nan
    tail s p h b =
        let e : p ≡ length (take 256 s) + (p - 256) = omega (arith, length-take-le 256 s h) in
        ap (λ (n : ℕ). get_or (take 256 s ++ z) n nan) e ∙ get_or-append-add (take 256 s) z (p - 256) nan

    both : SameUpper (take 256 m ++ z) (take 256 u ++ z)
    both =
        record {
          long = longer m l ∙ sym (longer u k);
          matrix = λ i j a b. head m (16 * i + j) l (omega arith) ∙ w.matrix i j a b ∙ sym (head u (16 * i + j) k (omega arith));
          behind = λ p a. tail m p l a ∙ sym (tail u p k a);
        }

-- two steps at each place are one
each_twice : (f g : ℕ → Float → Float) (n : ℕ) (s : List Float) → each g n (each f n s) ≡ each (λ k v. g k (f k v)) n s
unfolding each
each_twice f g zero s = refl
each_twice f g (suc n) [] = refl
each_twice f g (suc n) (v ∷ vs) = ap (λ l. g 0 (f 0 v) ∷ l) (each_twice (λ k. f (suc k)) (λ k. g (suc k)) n vs)

-- A with the products of two rows, one after the other at each place
abbrev added_two : WeightedRow → WeightedRow → List Float → List Float
added_two r q s = each (λ k e. gains (without_y q) k (gains (without_y r) k e)) 256 s

-- two rows are added to A, and then to g
two_parts : (u : List Float) (r q : WeightedRow) → 256 ≤ length u → take 256 (added_two r q u) ++ added_g q 16 (added_g r 16 (drop 256 (added_two r q u))) ≡ add_row (add_row u r) q
unfolding add_row
two_parts u r q h =
    rw (each_rest (λ k e. gains (without_y q) k (gains (without_y r) k e)) 256 u, each_twice (λ i v. add binary64 v (weighted_product r (256 + i))) (λ i v. add binary64 v (weighted_product q (256 + i))) 16 (drop 256 u))
    (sym
    (each_twice (gains r) (gains q) 272 u
    ∙ each_split (λ k e. gains q k (gains r k e)) 256 16 u h
    ∙ ap (λ l. take 256 l ++ each (λ k e. gains q (256 + k) (gains r (256 + k) e)) 16 (drop 256 u))
    (each_same (λ k e. gains q k (gains r k e)) (λ k e. gains (without_y q) k (gains (without_y r) k e)) 256 u
    (λ k e b. rw (weighted_no_y r k b, weighted_no_y q k b)))))

-- a list whose tail was lent for g
abbrev lent_tail : WeightedRow → List Float → List Float
lent_tail r m = take 256 m ++ (added_g r 16 (take (length m - 256) (drop 256 m)) ++ drop (length m - 256) (drop 256 m))

tails : (m : List Float) (r q : WeightedRow) → 256 ≤ length m → lent_tail q (lent_tail r m) ≡ take 256 m ++ added_g q 16 (added_g r 16 (drop 256 m))
tails m r q h =
    rw (tail_through (added_g r 16) 256 m, tail_through (added_g q 16) 256 (take 256 m ++ added_g r 16 (drop 256 m)), take_at (take 256 m) (added_g r 16 (drop 256 m)) 256 (length-take-le 256 m h), drop_at (take 256 m) (added_g r 16 (drop 256 m)) 256 (length-take-le 256 m h))

pub two_added : (u m terms later : List Float) (y w z v : Float) → 256 ≤ length u → SameUpper m (added_two (weighted_row terms y w) (weighted_row later z v) u)
    → SameUpper (lent_tail (weighted_row later z v) (lent_tail (weighted_row terms y w) m)) (add_row (add_row u (weighted_row terms y w)) (weighted_row later z v))
two_added u m terms later y w z v h g =
    rw (tails m r q l)
    (rw (two_parts u r q h) at (upper_tail m (added_two r q u) (λ t. added_g q 16 (added_g r 16 t)) l g))
  where
    r : WeightedRow
    r = weighted_row terms y w

    q : WeightedRow
    q = weighted_row later z v

    l : 256 ≤ length m
    l = omega (arith, g.long, length_each (λ k e. gains (without_y q) k (gains (without_y r) k e)) 256 u)

-- one row more of the columns, and two
module _ (basis : Basis) (xs zs ys ws s : List Float) where
  -- one row more
  again : (t : ℕ) (u : List Float) → 272 ≤ length u → SameUpper u (add_rows s (weighted_rows_at basis t xs zs ys ws))
      → SameUpper (add_row u (weighted_at basis xs zs ys ws t)) (add_rows s (weighted_rows_at basis (t + 1) xs zs ys ws))
  again t u h i = rw (fold_rows_again add_row s basis t xs zs ys ws) (row_upper u (add_rows s (weighted_rows_at basis t xs zs ys ws)) (weighted_at basis xs zs ys ws t) h i)

  pub one_more : (t : ℕ) (u terms : List Float) (w : Float) → 272 ≤ length u → SameUpper u (add_rows s (weighted_rows_at basis t xs zs ys ws))
      → terms ≡ terms_at basis (get_or xs t nan) (get_or zs t nan) → w ≡ weight_at ws t
      → SameUpper (add_row u (weighted_row terms (get_or ys t nan) w)) (add_rows s (weighted_rows_at basis (t + 1) xs zs ys ws))
  unfolding row_at weighted_at
  one_more t u terms w h i b e = rw (b, e) (again t u h i)

  pub two_more : (t : ℕ) (u o : List Float) → 272 ≤ length u → SameUpper u (add_rows s (weighted_rows_at basis t xs zs ys ws))
      → SameUpper o (add_row (add_row u (weighted_at basis xs zs ys ws t)) (weighted_at basis xs zs ys ws (t + 1)))
      → SameUpper o (add_rows s (weighted_rows_at basis (t + 1 + 1) xs zs ys ws))
  two_more t u o h i g =
      upper_then g
      (again (t + 1) (add_row u (weighted_at basis xs zs ys ws t)) (omega (arith, length_add_row u (weighted_at basis xs zs ys ws t))) (again t u h i))
