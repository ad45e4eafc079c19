-- Columns that hold a ledger's samples, and the sums of the ledger, as each call changes them.
use mathlib.Core.Path.{◌≡◌, refl, sym, ap, ap₂, fun_ext, ◌∙◌}
use mathlib.Core.List.{List, [], ◌∷◌, ◌++◌, map, map-map, map-append, append_assoc}
use Prim.Native.Nat.{ℕ, zero, suc, ◌+◌, ◌-◌, ◌≤◌, ◌<◌}
use native.Mathlib.Numerals.{add-one}
use native.Mathlib.Omega.{arith}
use lib.Dec.{lit≤}
use lib.ListN.{length, get_or, set, take, drop, length-append, length-drop}
use lib.Seq.{take-suc-set, take-take, take_at, drop_at, drop-drop, get_or-drop, paste, take-nil, take-paste, drop-paste, length-take-le}
use lib.Ieee.{Float, nan}
use Rattle.loops.specs.Places.{table}
use Rattle.loops.specs.PlaceLaws.{table_same}
use Rattle.samples.specs.Samples.{ys_of}
use Rattle.samples.specs.declared.Sample.{Sample}
use Rattle.samples.specs.Columns.{sample_at, sample_by, samples_of, Columns, Column, of_x, of_y, of_w, value}
use Rattle.monomial.specs.Rows.{weighted_of, weighted_rows}
use Rattle.monomial.specs.Sums.{add_row, sums_of}
use Rattle.monomial.specs.Parts.{y_aside}
use Rattle.monomial.specs.SumLaws.{length_sums, add_row_append, sums_again, corrected, terms_same, rows_again}
use Rattle.lent.specs.Gaps.{without_at}
use Rattle.ledger.specs.Ledger.{new_y, seen}

-- ---- a list of samples

pub length_new : (l : List Sample) (i : ℕ) (y : Float) → length (new_y l i y) ≡ length l
unfolding new_y
length_new [] i y = refl
length_new (p ∷ l) zero y = refl
length_new (p ∷ l) (suc i) y = ap suc (length_new l i y)

-- but for y nothing is new
pub new_aside : (l : List Sample) (i : ℕ) (y : Float) → map y_aside (new_y l i y) ≡ map y_aside l
unfolding new_y
new_aside [] i y = refl
new_aside (p ∷ l) zero y = refl
new_aside (p ∷ l) (suc i) y = ap (λ r. y_aside p ∷ r) (new_aside l i y)

-- nor is what is read off a sample without its y
pub new_same : (f : Sample → Float) → ((p : Sample) → f (y_aside p) ≡ f p) → (l : List Sample) (i : ℕ) (y : Float) → map f (new_y l i y) ≡ map f l
new_same f e l i y = by_aside (new_y l i y) ∙ ap (map f) (new_aside l i y) ∙ sym (by_aside l)
  where
    by_aside : (l : List Sample) → map f l ≡ map f (map y_aside l)
    by_aside l = sym (map-map f y_aside l ∙ ap (λ g. map g l) (fun_ext e))

pub new_y_lem : (l : List Sample) (i : ℕ) (y : Float) → ys_of (new_y l i y) ≡ set (ys_of l) i y
unfolding new_y
new_y_lem [] i y = refl
new_y_lem (p ∷ l) zero y = refl
new_y_lem (p ∷ l) (suc i) y = ap (λ r. p.y ∷ r) (new_y_lem l i y)

pub length_less : (l : List Sample) (i : ℕ) → i < length l → length (take i l ++ drop (i + 1) l) ≡ length l - 1
length_less l i h =
    let a = length-take-le i l (omega arith) in
    let b = length-drop (i + 1) l in
    length-append (take i l) (drop (i + 1) l) ∙ omega arith

-- ---- a column whose first places hold f of each sample

map_take : {A B : Type 0} (f : A → B) (n : ℕ) (l : List A) → map f (take n l) ≡ take n (map f l)
map_take f zero l = refl
map_take f (suc n) [] = refl
map_take f (suc n) (a ∷ l) = ap (λ r. f a ∷ r) (map_take f n l)

map_drop : {A B : Type 0} (f : A → B) (n : ℕ) (l : List A) → map f (drop n l) ≡ drop n (map f l)
map_drop f zero l = refl
map_drop f (suc n) [] = refl
map_drop f (suc n) (a ∷ l) = map_drop f n l

drop_take : {A : Type 0} (a n : ℕ) (l : List A) → drop a (take n l) ≡ take (n - a) (drop a l)
drop_take zero n l = let e : n ≡ n - 0 = omega arith in ap (λ m. take m l) e
drop_take (suc a) zero l = let e : 0 ≡ 0 - suc a = omega arith in ap (λ m. take m (drop (suc a) l)) e
drop_take (suc a) (suc n) [] = sym (take-nil (suc n - suc a))
drop_take (suc a) (suc n) (u ∷ l) = let e : suc n - suc a ≡ n - a = omega arith in rw e (drop_take a n l)

module _ (f : Sample → Float) (l : List Sample) (n : ℕ) (c : List Float) (is : take n c ≡ map f l) where
  -- one sample at the end
  pub column_add : (p : Sample) → n < length c → take (n + 1) (set c n (f p)) ≡ map f (l ++ (p ∷ []))
  column_add p h = rw (add-one n, map-append f l (p ∷ [])) (take-suc-set c n (f p) h ∙ ap (λ r. r ++ (f p ∷ [])) is)

  -- a place goes, and later ones move down one
  pub column_without : (i : ℕ) → i < n → n ≤ length c → take (n - 1) (without_at i n c) ≡ map f (take i l ++ drop (i + 1) l)
  unfolding without_at
  column_without i h k =
      let m = n - 1 - i in
      let e : n - 1 ≡ i + m = omega arith in
      let g : n - (i + 1) ≡ m = omega arith in
      let first : take i c ≡ map f (take i l) = sym (take-take i n c (omega arith)) ∙ ap (take i) is ∙ sym (map_take f i l) in
      let later : take m (drop (i + 1) c) ≡ map f (drop (i + 1) l) =
      ap (λ j. take j (drop (i + 1) c)) (sym g) ∙ sym (drop_take (i + 1) n c) ∙ ap (drop (i + 1)) is ∙ sym (map_drop f (i + 1) l) in
      ap (λ j. take j (paste c i (drop (i + 1) c) m)) e
      ∙ take-paste c i (drop (i + 1) c) m (omega arith) (rw length-drop (omega arith))
      ∙ ap₂ (λ u v. u ++ v) first later
      ∙ sym (map-append f (take i l) (drop (i + 1) l))

module _ (i n : ℕ) (c : List Float) (h : i < n) (k : n ≤ length c) where
  pub without_rest : drop (n - 1) (without_at i n c) ≡ drop (n - 1) c
  unfolding without_at
  without_rest =
      let m = n - 1 - i in
      let e : n - 1 ≡ i + m = omega arith in
      ap (λ j. drop j (paste c i (drop (i + 1) c) m)) e
      ∙ drop-paste c i (drop (i + 1) c) m (omega arith) (rw length-drop (omega arith))
      ∙ ap (λ j. drop j c) (sym e)

-- the samples that columns hold
holding : (l : List Sample) (c : Columns) → ((k : Column) → take (length l) (c k) ≡ map (value k) l) → samples_of (length l) c ≡ l
unfolding samples_of table
holding [] c e = refl
holding (p ∷ l) c e =
    let first : sample_at c 0 ≡ p = λ i. record { x = head of_x i; y = head of_y i; w = head of_w i } in
    ap₂ (λ q r. q ∷ r) first
    (table_same (λ t. sample_at c (suc t)) (sample_at (λ k. drop 1 (c k))) (length l) (λ t h. ap sample_by (fun_ext (λ (k : Column). tail (c k) t)))
    ∙ holding l (λ k. drop 1 (c k)) (λ k. later (c k) (map (value k) l) (length l) (value k p) (e k)))
  where
    head : (k : Column) → get_or (c k) 0 nan ≡ value k p
    head k = first_of_lem (c k) (map (value k) l) (length l) (value k p) (e k)
      where
        first_of_lem : (a m : List Float) (n : ℕ) (v : Float) → take (suc n) a ≡ v ∷ m → get_or a 0 nan ≡ v
        first_of_lem [] m n v e = absurd (omega (arith, ap length e))
        first_of_lem (u ∷ a) m n v e = ap (λ r. get_or r 0 nan) e

    tail : (a : List Float) (t : ℕ) → get_or a (suc t) nan ≡ get_or (drop 1 a) t nan
    tail [] t = refl
    tail (u ∷ a) t = refl

    later : (a m : List Float) (n : ℕ) (v : Float) → take (suc n) a ≡ v ∷ m → take n (drop 1 a) ≡ m
    later [] m n v e = absurd (omega (arith, ap length e))
    later (u ∷ a) m n v e = ap (drop 1) e

pub samples_are : (l : List Sample) (n : ℕ) (c : Columns) → n ≡ length l → ((k : Column) → take n (c k) ≡ map (value k) l) → samples_of n c ≡ l
samples_are l n c q e = rw q (holding l c (λ k. rw q at (e k)))

-- ---- the sums u: those of the ledger l, then the places past the 272, which hold rest

module _ (l : List Sample) (rest u : List Float) (is : u ≡ sums_of (weighted_rows l) ++ rest) where
  pub sums_first : take 272 u ≡ sums_of (weighted_rows l)
  sums_first = ap (take 272) is ∙ take_at (sums_of (weighted_rows l)) rest 272 (length_sums (weighted_rows l))

  pub sums_rest : drop 272 u ≡ rest
  sums_rest = ap (drop 272) is ∙ drop_at (sums_of (weighted_rows l)) rest 272 (length_sums (weighted_rows l))

  -- an add adds its products
  pub sums_add : (p : Sample) → add_row u (weighted_of p) ≡ sums_of (weighted_rows (l ++ (p ∷ []))) ++ rest
  sums_add p =
      ap (λ t. add_row t (weighted_of p)) is
      ∙ add_row_append (sums_of (weighted_rows l)) rest (weighted_of p) (length_sums (weighted_rows l))
      ∙ ap (λ t. t ++ rest) (sym (sums_again (weighted_rows l) (weighted_of p)) ∙ ap sums_of (sym (rows_again l p)))

  -- a correction leaves A and folds g afresh
  pub sums_correct : (i : ℕ) (y : Float)
      → take 256 u ++ (drop 256 (sums_of (weighted_rows (new_y l i y))) ++ drop 272 u) ≡ sums_of (weighted_rows (new_y l i y)) ++ rest
  sums_correct i y =
      let g = drop 256 (sums_of (weighted_rows (new_y l i y))) in
      ap (λ t. take 256 u ++ (g ++ t)) sums_rest
      ∙ sym (append_assoc (take 256 u) g rest)
      ∙ ap (λ t. t ++ g ++ rest) (sym (take-take 256 272 u (lit≤ tt)) ∙ ap (take 256) sums_first)
      ∙ ap (λ t. t ++ rest) (corrected (weighted_rows l) (weighted_rows (new_y l i y)) (terms_same l (new_y l i y) (sym (new_aside l i y))))

-- sums of any two lists are of one length
pub sums_long : (l k : List Sample) (rest : List Float) → length (sums_of (weighted_rows l) ++ rest) ≡ length (sums_of (weighted_rows k) ++ rest)
sums_long l k rest =
    length-append (sums_of (weighted_rows l)) rest
    ∙ ap (λ n. n + length rest) (length_sums (weighted_rows l) ∙ sym (length_sums (weighted_rows k)))
    ∙ sym (length-append (sums_of (weighted_rows k)) rest)

-- ---- what a place holds

seen_same : (v w : Float) (vs : List Float) (p : ℕ) → (length vs ≤ p → v ≡ w) → seen v vs p ≡ seen w vs p
seen_same v w [] p h = h (omega arith)
seen_same v w (u ∷ vs) zero h = refl
seen_same v w (u ∷ vs) (suc p) h = seen_same v w vs p (λ q. h (omega arith))

pub seen_is : (vs a : List Float) (p : ℕ) → take (length vs) a ≡ vs → get_or a p nan ≡ seen (get_or a p nan) vs p
seen_is [] a p e = refl
seen_is (v ∷ vs) [] p e = absurd (omega (arith, ap length e))
seen_is (v ∷ vs) (u ∷ a) zero e = ap (λ r. get_or r 0 nan) e
seen_is (v ∷ vs) (u ∷ a) (suc p) e = seen_is vs a p (ap (drop 1) e)

-- two columns that are equal from the count on
pub seen_kept : (vs a b : List Float) (p : ℕ) → drop (length vs) a ≡ drop (length vs) b → seen (get_or a p nan) vs p ≡ seen (get_or b p nan) vs p
seen_kept vs a b p e = seen_same (get_or a p nan) (get_or b p nan) vs p (λ h.
    let n = length vs in
    let q : n + (p - n) ≡ p = omega arith in
    ap (λ j. get_or a j nan) (sym q)
    ∙ sym (get_or-drop n a (p - n) nan)
    ∙ ap (λ r. get_or r (p - n) nan) e
    ∙ get_or-drop n b (p - n) nan
    ∙ ap (λ j. get_or b j nan) q)

-- equal from a place on, so from a later one on
pub drop_later : {A : Type 0} (m n : ℕ) (a b : List A) → m ≤ n → drop m a ≡ drop m b → drop n a ≡ drop n b
drop_later m n a b h e =
    let q : m + (n - m) ≡ n = omega arith in
    ap (λ j. drop j a) (sym q) ∙ sym (drop-drop (n - m) m a) ∙ ap (drop (n - m)) e ∙ drop-drop (n - m) m b ∙ ap (λ j. drop j b) q
