-- The lines of the corner, passed one after the other: line i is k places of A and one of g. f says what becomes of a place.
use mathlib.Core.Path.{◌≡◌, refl, sym, ap, ◌∙◌}
use mathlib.Core.Bool.{Bool, true, false}
use mathlib.Core.List.{List}
use Prim.Native.Nat.{ℕ, ◌+◌, ◌*◌, ◌≤◌, ◌<◌}
use native.Mathlib.Omega.{arith}
use borrow.Author.Tests.{ltb-true, ltb-false}
use lib.Dec.{ltb}
use lib.ListN.{length, get_or, set, length-set}
use lib.Seq.{get_or-set_same, get_or-set_other}
use lib.Ieee.{Float, nan, binary64, add}
use Rattle.loops.specs.Fold.{fold}
use Rattle.loops.specs.FoldLaws.{fold_snoc}
use Rattle.loops.specs.Places.{table}
use Rattle.basis.specs.declared.Basis.{Basis}
use Rattle.monomial.specs.Terms.{terms_at}
use Rattle.monomial.specs.Rows.{row_at, WeightedRow, weighted_row, weight_at, weighted_at, weighted_rows_at}
use Rattle.monomial.specs.RowLaws.{weighted_at_again}
use Rattle.monomial.specs.Sums.{weighted_product, add_row, add_rows}
use Rattle.monomial.specs.Corner.{SameCorner, CornerSet}
use Rattle.monomial.specs.CornerLaws.{corner_itself, corner_then, add_row_at, row_corner, length_add_rows}

-- by the last of the numbers below b + 1, or an earlier one
pub below_last : (c b : ℕ) {G : Type 0} → c < b + 1 → (c < b → G) → (c ≡ b → G) → G
below_last c b {G} h f g = go (ltb c b) refl
  where
    go : (t : Bool) → ltb c b ≡ t → G
    go true q = f (ltb-true c b q)
    go false q = g (omega (arith, ltb-false c b q))

module _ (f : ℕ → Float → Float) where
  -- the first j places of line i of A are passed
  pub record Cells (i j : ℕ) (s t : List Float) : Type 0 where
    pub long : length t ≡ length s
    pub new : (c : ℕ) → c < j → get_or t (16 * i + c) nan ≡ f (16 * i + c) (get_or s (16 * i + c) nan)
    pub old : (p : ℕ) → ((c : ℕ) → c < j → p ≡ 16 * i + c → ⊥) → get_or t p nan ≡ get_or s p nan

  pub cells_none : (i : ℕ) (s : List Float) → Cells i 0 s s
  cells_none i s = record { long = refl; new = λ c h. absurd (omega arith); old = λ p h. refl }

  pub cells_again : (i j : ℕ) (s t : List Float) (v : Float) → 16 * i + j < length s → Cells i j s t → v ≡ f (16 * i + j) (get_or t (16 * i + j) nan)
      → Cells i (j + 1) s (set t (16 * i + j) v)
  cells_again i j s t v l w e =
      record {
        long = length-set t (16 * i + j) v ∙ w.long;
        new = λ c h. below_last c j h
            (λ b. get_or-set_other t (16 * i + j) (16 * i + c) v nan (λ q. omega arith) ∙ w.new c b)
            (λ q. rw q (get_or-set_same t (16 * i + j) v nan (omega (arith, w.long)) ∙ e ∙ ap (f (16 * i + j)) (w.old (16 * i + j) (λ c b z. omega arith))));
        old = λ p h. get_or-set_other t (16 * i + j) p v nan (λ q. h j (omega arith) q) ∙ w.old p (λ c b q. h c (omega arith) q);
      }

  -- the first i lines are passed
  pub record Lines (k i : ℕ) (s t : List Float) : Type 0 where
    pub long : length t ≡ length s
    pub cell : (r c : ℕ) → r < i → c < k → get_or t (16 * r + c) nan ≡ f (16 * r + c) (get_or s (16 * r + c) nan)
    pub right : (r : ℕ) → r < i → get_or t (256 + r) nan ≡ f (256 + r) (get_or s (256 + r) nan)
    pub old : (p : ℕ) → ((r c : ℕ) → r < i → c < k → p ≡ 16 * r + c → ⊥) → ((r : ℕ) → r < i → p ≡ 256 + r → ⊥) → get_or t p nan ≡ get_or s p nan

  pub lines_none : (k : ℕ) (s : List Float) → Lines k 0 s s
  lines_none k s = record { long = refl; cell = λ r c a b. absurd (omega arith); right = λ r a. absurd (omega arith); old = λ p g h. refl }

  module _ (k i : ℕ) (s t u : List Float) (v : Float) (fits : k ≤ 16) (hi : i < k) (l : 272 ≤ length s) (w : Lines k i s t) (m : Cells i k t u) (e : v ≡ f (256 + i) (get_or u (256 + i) nan)) where
    -- a place of no passed line stands
    unpassed : (p : ℕ) → ((c : ℕ) → c < k → p ≡ 16 * i + c → ⊥) → (p ≡ 256 + i → ⊥) → get_or (set u (256 + i) v) p nan ≡ get_or t p nan
    unpassed p n q = get_or-set_other u (256 + i) p v nan q ∙ m.old p n

    own_cell : (c : ℕ) → c < k → get_or (set u (256 + i) v) (16 * i + c) nan ≡ f (16 * i + c) (get_or s (16 * i + c) nan)
    own_cell c h =
        get_or-set_other u (256 + i) (16 * i + c) v nan (λ q. omega arith) ∙ m.new c h
        ∙ ap (f (16 * i + c)) (w.old (16 * i + c) (λ r d a b q. omega arith) (λ r a q. omega arith))

    own_right : get_or (set u (256 + i) v) (256 + i) nan ≡ f (256 + i) (get_or s (256 + i) nan)
    own_right =
        get_or-set_same u (256 + i) v nan (omega (arith, m.long, w.long)) ∙ e
        ∙ ap (f (256 + i)) (m.old (256 + i) (λ c a q. omega arith) ∙ w.old (256 + i) (λ r c a b q. omega arith) (λ r a q. omega arith))

    pub lines_again : Lines k (i + 1) s (set u (256 + i) v)
    lines_again =
        record {
          long = length-set u (256 + i) v ∙ m.long ∙ w.long;
          cell = λ r c h g. below_last r i h
              (λ b. unpassed (16 * r + c) (λ d a q. omega arith) (λ q. omega arith) ∙ w.cell r c b g)
              (λ q. rw q (own_cell c g));
          right = λ r h. below_last r i h
              (λ b. unpassed (256 + r) (λ d a q. omega arith) (λ q. omega arith) ∙ w.right r b)
              (λ q. rw q own_right);
          old = λ p g h. unpassed p (λ c a q. g i c (omega arith) a q) (λ q. h i (omega arith) q)
              ∙ w.old p (λ r c a b q. g r c (omega arith) b q) (λ r a q. h r (omega arith) q);
        }

-- ---- a row's products

abbrev pub gains : WeightedRow → ℕ → Float → Float
gains r p v = add binary64 v (weighted_product r p)

-- every line is passed
pub lines_done : (k : ℕ) (s t : List Float) (r : WeightedRow) → k ≤ 16 → 272 ≤ length s → Lines (gains r) k k s t → CornerSet k (add_row s r) s t
lines_done k s t r fits l w =
    record {
      long = w.long;
      corner = record { matrix = λ i j a b. w.cell i j a b ∙ sym (add_row_at s r (16 * i + j) l (omega arith)); right = λ i a. w.right i a ∙ sym (add_row_at s r (256 + i) l (omega arith)) };
      rest = λ p e. w.old p e.not_matrix e.not_right;
    }

-- ---- rows one after the other

pub rows_none : (k : ℕ) (basis : Basis) (xs zs ys ws s : List Float) → CornerSet k (add_rows s (weighted_rows_at basis 0 xs zs ys ws)) s s
unfolding fold weighted_rows_at table
rows_none k basis xs zs ys ws s = record { long = refl; corner = corner_itself k s; rest = λ p e. refl }

pub rows_more : (k t : ℕ) (basis : Basis) (xs zs ys ws s u v terms : List Float) (w : Float) → k ≤ 16 → 272 ≤ length s
    → CornerSet k (add_rows s (weighted_rows_at basis t xs zs ys ws)) s u → terms ≡ terms_at basis (get_or xs t nan) (get_or zs t nan) → w ≡ weight_at ws t
    → CornerSet k (add_row u (weighted_row terms (get_or ys t nan) w)) u v → CornerSet k (add_rows s (weighted_rows_at basis (t + 1) xs zs ys ws)) s v
unfolding row_at weighted_at
rows_more k t basis xs zs ys ws s u v terms a fits l w e b m =
    rw (weighted_at_again basis xs zs ys ws t, fold_snoc add_row s before row)
    (record {
      long = m.long ∙ w.long;
      corner = corner_then (same m) (row_corner k fits u (add_rows s before) row (omega (arith, w.long)) (omega (arith, length_add_rows s before)) w.corner);
      rest = λ p q. m.rest p q ∙ w.rest p q;
    })
  where
    before : List WeightedRow
    before = weighted_rows_at basis t xs zs ys ws

    row : WeightedRow
    row = weighted_at basis xs zs ys ws t

    same : CornerSet k (add_row u (weighted_row terms (get_or ys t nan) a)) u v → SameCorner k v (add_row u row)
    same m = rw b at (rw e at m.corner)
