-- Laws of Columns.antt: a loop of which turn c changes a place of column c changes in column j what turn j does.
use Rattle.std.specs.Prelude.{◌≡◌, refl, Bool, true, false, cond, List, ◌∷◌, ℕ, zero, suc, ◌+◌, ◌*◌, ◌≤◌, ◌<◌, eqb, length, get_or, set, replicate, Float}
use Rattle.std.proofs.Common.{sym, ap, ap₂, ◌∙◌, arith, le_refl, length-set, eqb-true, eq-eqb, ne_eqb}
use Rattle.std.proofs.lemmas.Bool.{eqb-false}
use Rattle.std.proofs.lemmas.List.{get_or-set_same, get_or-set_other}
use Rattle.std.proofs.lemmas.Simd.{get_or-replicate}
use Rattle.std.specs.Float.{nan, binary64}
use Rattle.std.specs.Float.Ieee.{sub, mul}
use Rattle.loops.specs.Loop.{from}
use Rattle.loops.specs.LoopLaws.{from_related, from_only}
use Rattle.loops.specs.Places.{table}
use Rattle.loops.specs.PlaceLaws.{table_at, table_same}
use Rattle.value.specs.Numbers.{zero_f, one_f}
use Rattle.solve.specs.Solve.{cell, less_cell, unit}
use Rattle.solve.specs.Columns.{column_in}

-- a table with one place set
set_table : {A : Type 0} (f : ℕ → A) (n r : ℕ) (x : A) → r < n → set (table f n) r x ≡ table (λ i. cond (eqb i r) x (f i)) n
unfolding table
set_table f zero r x h = absurd (omega arith)
set_table f (suc n) zero x h = ap (λ l. x ∷ l) (table_same (λ k. f (suc k)) (λ k. cond (eqb (suc k) 0) x (f (suc k))) n (λ k l. ap (λ t. cond t x (f (suc k))) (sym (ne_eqb (suc k) 0 (λ e. absurd (omega arith))))))
set_table f (suc n) (suc r) x h =
    ap₂ (λ a l. a ∷ l) (ap (λ t. cond t x (f 0)) (sym (ne_eqb 0 (suc r) (λ e. absurd (omega arith)))))
    (set_table (λ k. f (suc k)) n r x (omega arith) ∙ table_same _ _ n (λ k l. ap (λ t. cond t x (f (suc k))) (same_eqb k r)))
  where
    same_eqb : (k r : ℕ) → eqb k r ≡ eqb (suc k) (suc r)
    same_eqb k r = by (eqb k r) refl
      where
        by : (t : Bool) → eqb k r ≡ t → t ≡ eqb (suc k) (suc r)
        by true e = sym (eq-eqb (suc k) (suc r) (ap suc (eqb-true k r e)))
        by false e = sym (ne_eqb (suc k) (suc r) (λ q. eqb-false k r e (omega arith)))

-- the places of row r, one in each column
module _ (v : List Float) (long : 256 ≤ length v) where
  pub column_set : (r j : ℕ) (x : Float) → r < 16 → j < 16 → column_in (set v (16 * r + j) x) j ≡ set (column_in v j) r x
  unfolding column_in
  column_set r j x h l =
      table_same (λ i. cell (set v (16 * r + j) x) i j) (λ i. cond (eqb i r) x (cell v i j)) 16 (λ i q. by i q (eqb i r) refl) ∙ sym (set_table (λ i. cell v i j) 16 r x h)
    where
      by : (i : ℕ) → i < 16 → (t : Bool) → eqb i r ≡ t → get_or (set v (16 * r + j) x) (16 * i + j) nan ≡ cond t x (get_or v (16 * i + j) nan)
      by i q true e = let z = eqb-true i r e in rw z (get_or-set_same v (16 * r + j) x nan (omega arith))
      by i q false e = let z = eqb-false i r e in get_or-set_other v (16 * r + j) (16 * i + j) x nan (λ w. z (omega arith))

  pub column_other : (r j c : ℕ) (x : Float) → j < 16 → c < 16 → (c ≡ j → ⊥) → column_in (set v (16 * r + c) x) j ≡ column_in v j
  unfolding column_in
  column_other r j c x h l apart =
      table_same (λ i. cell (set v (16 * r + c) x) i j) (λ i. cell v i j) 16 (λ i q. get_or-set_other v (16 * r + c) (16 * i + j) x nan (λ w. apart (omega arith)))

-- turn c sets the place of row ρ c in column c to what it makes of that column
module _ (row : ℕ → ℕ) (x : ℕ → List Float → Float) (y : List Float → Float) (k j : ℕ) (jk : j < k) (h : k ≤ 16) (inside : (c : ℕ) → c < k → row c < 16)
    (same : (t : List Float) → x j t ≡ y (column_in t j)) where
  step : ℕ → List Float → List Float
  step c t = set t (16 * row c + c) (x c t)

  own : ℕ → List Float → List Float
  own c b = cond (eqb c j) (set b (row j) (y b)) b

  record Beside (t b : List Float) : Type 0 where
    long : 256 ≤ length t
    column : column_in t j ≡ b

  turn : (c : ℕ) (t b : List Float) → c < k → Beside t b → Beside (step c t) (own c b)
  unfolding step own
  turn c t b l q = by (eqb c j) refl
    where
      by : (z : Bool) → eqb c j ≡ z → Beside (set t (16 * row c + c) (x c t)) (cond z (set b (row j) (y b)) b)
      by true e =
          let w = eqb-true c j e in
          record {
            long = omega (arith, length-set t (16 * row c + c) (x c t), q.long);
            column = rw (w, same t, q.column) (column_set t q.long (row j) j (y b) (inside j jk) (omega arith) ∙ ap (λ (l : List Float). set l (row j) (y b)) q.column);
          }
      by false e =
          record {
            long = omega (arith, length-set t (16 * row c + c) (x c t), q.long);
            column = column_other t q.long (row c) j c (x c t) (omega arith) (omega arith) (eqb-false c j e) ∙ q.column;
          }

  pub column_after : (v : List Float) → 256 ≤ length v → column_in (from (λ c t. set t (16 * row c + c) (x c t)) 0 k v) j ≡ set (column_in v j) (row j) (y (column_in v j))
  unfolding step own
  column_after v long =
      (from_related Beside step own 0 k v (column_in v j) (λ c t b a l q. turn c t b l q) (record { long = long; column = refl })).column
      ∙ from_only own j (λ c t n. ap (λ z. cond z (set t (row j) (y t)) t) (ne_eqb c j n)) 0 k (column_in v j) (omega arith) jk
      ∙ ap (λ z. cond z (set (column_in v j) (row j) (y (column_in v j))) (column_in v j)) (eq-eqb j j refl)

-- a row less f times another, in every column
pub less_row : (p r k j : ℕ) (f : Float) (v : List Float) → j < k → k ≤ 16 → r < 16 → p < 16 → 256 ≤ length v
    → column_in (from (less_cell p r f) 0 k v) j ≡ set (column_in v j) r (sub binary64 (get_or (column_in v j) r nan) (mul binary64 f (get_or (column_in v j) p nan)))
unfolding column_in
less_row p r k j f v jk h rs ps long =
    column_after (λ c. r) (λ c t. sub binary64 (cell t r c) (mul binary64 f (cell t p c))) (λ b. sub binary64 (get_or b r nan) (mul binary64 f (get_or b p nan))) k j jk h (λ c l. rs)
    (λ t. ap₂ (λ a b. sub binary64 a (mul binary64 f b)) (sym (table_at (λ i. cell t i j) 16 r nan rs)) (sym (table_at (λ i. cell t i j) 16 p nan ps))) v long

zero_column : (j : ℕ) → j < 16 → column_in (replicate 256 zero_f) j ≡ replicate 16 zero_f
unfolding column_in table
zero_column j h = table_same (λ r. cell (replicate 256 zero_f) r j) (λ r. zero_f) 16 (λ r l. get_or-replicate 256 (16 * r + j) zero_f nan (omega arith))

-- ones on the diagonal make unit columns
pub unit_columns : (k j : ℕ) → j < k → k ≤ 16 → column_in (from (λ c t. set t (16 * c + c) one_f) 0 k (replicate 256 zero_f)) j ≡ unit j
unit_columns k j jk h =
    column_after (λ c. c) (λ c t. one_f) (λ b. one_f) k j jk h (λ c l. omega arith) (λ t. refl) (replicate 256 zero_f) (le_refl 256)
    ∙ ap (λ l. set l j one_f) (zero_column j (omega arith))
