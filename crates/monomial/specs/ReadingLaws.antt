-- Laws of Reading.antt: what cut columns hold.
use Rattle.std.specs.Prelude.{◌≡◌, List, ◌++◌, ℕ, ◌+◌, ◌-◌, ◌≤◌, ◌<◌, length, take, drop, get_or, Float}
use Rattle.std.proofs.Common.{sym, ap, ◌∙◌, arith, get_or-drop, get_or-take, take_all, take-append-drop}
use Rattle.std.proofs.Math.Nat.{le_refl}
use Rattle.std.specs.Float.{nan}
use Rattle.loops.specs.Places.{table}
use Rattle.loops.specs.PlaceLaws.{table_same, drop_table, part_take}
use Rattle.value.specs.Numbers.{one_f}
use Rattle.basis.specs.declared.Basis.{Basis}
use Rattle.monomial.specs.Rows.{row_at, rows_at, weighted_at, weighted_rows_at, ys_in, rows_in}
use Rattle.monomial.specs.Reading.{rows_read, weighted_read}
use Rattle.monomial.specs.declared.rows.Rows.{Rows}
use Rattle.monomial.specs.RowLaws.{rows_at_take, weighted_at_take, ys_in_rows, length_rows_at, length_weighted_at, rows_in_weighted}

-- the places from `from` on, so many
cut_at : (from m k : ℕ) (s : List Float) → k < m → get_or (take m (drop from s)) k nan ≡ get_or s (from + k) nan
cut_at from m k s h = get_or-take m (drop from s) k nan h ∙ get_or-drop from s k nan

module _ (basis : Basis) (n : ℕ) (xs zs ys ws : List Float) where
  -- the first n rows stand in the first n places
  pub weighted_first : weighted_rows_at basis n (take n xs) (take n zs) (take n ys) ws ≡ weighted_rows_at basis n xs zs ys ws
  unfolding weighted_rows_at weighted_at row_at
  weighted_first =
      table_same (weighted_at basis (take n xs) (take n zs) (take n ys) ws) (weighted_at basis xs zs ys ws) n
      (λ k h. rw (get_or-take n xs k nan h, get_or-take n zs k nan h, get_or-take n ys k nan h))

  pub rows_first : rows_at basis n (take n xs) (take n zs) (take n ys) ≡ rows_at basis n xs zs ys
  unfolding rows_at row_at
  rows_first =
      table_same (row_at basis (take n xs) (take n zs) (take n ys)) (row_at basis xs zs ys) n
      (λ k h. rw (get_or-take n xs k nan h, get_or-take n zs k nan h, get_or-take n ys k nan h))

module _ (basis : Basis) (from m : ℕ) (xs zs ys ws : List Float) where
  -- the rows of cut columns, at whatever weights
  pub weighted_cut : weighted_rows_at basis m (take m (drop from xs)) (take m (drop from zs)) (take m (drop from ys)) (drop from ws) ≡ drop from (weighted_rows_at basis (from + m) xs zs ys ws)
  unfolding weighted_rows_at weighted_at row_at
  weighted_cut =
      table_same
      (weighted_at basis (take m (drop from xs)) (take m (drop from zs)) (take m (drop from ys)) (drop from ws))
      (λ k. weighted_at basis xs zs ys ws (from + k))
      m
      (λ k h. rw (cut_at from m k xs h, cut_at from m k zs h, cut_at from m k ys h, get_or-drop from ws k one_f))
      ∙ ap (λ n. table (λ k. weighted_at basis xs zs ys ws (from + k)) n) more
      ∙ sym (drop_table (weighted_at basis xs zs ys ws) from (from + m) (omega arith))
    where
      more : m ≡ from + m - from
      more = omega arith

  -- without their weights
  pub rows_cut : rows_at basis m (take m (drop from xs)) (take m (drop from zs)) (take m (drop from ys)) ≡ drop from (rows_at basis (from + m) xs zs ys)
  unfolding rows_at row_at
  rows_cut =
      table_same
      (row_at basis (take m (drop from xs)) (take m (drop from zs)) (take m (drop from ys)))
      (λ k. row_at basis xs zs ys (from + k))
      m
      (λ k h. rw (cut_at from m k xs h, cut_at from m k zs h, cut_at from m k ys h))
      ∙ ap (λ n. table (λ k. row_at basis xs zs ys (from + k)) n) more
      ∙ sym (drop_table (row_at basis xs zs ys) from (from + m) (omega arith))
    where
      more : m ≡ from + m - from
      more = omega arith

module _ (basis : Basis) (start end n : ℕ) (xs zs ys ws : List Float) (h : start ≤ end) (l : end ≤ n) where
  whole : start + (end - start) ≡ end
  whole = omega arith

  -- the rows from start on and before end
  pub weighted_part : weighted_rows_at basis (end - start) (take (end - start) (drop start xs)) (take (end - start) (drop start zs)) (take (end - start) (drop start ys)) (drop start ws) ≡ drop start (take end (weighted_rows_at basis n xs zs ys ws))
  weighted_part =
      weighted_cut basis start (end - start) xs zs ys ws
      ∙ ap (λ e. drop start (weighted_rows_at basis e xs zs ys ws)) whole
      ∙ ap (drop start) (sym (weighted_at_take basis xs zs ys ws end n l))

  pub rows_part : rows_at basis (end - start) (take (end - start) (drop start xs)) (take (end - start) (drop start zs)) (take (end - start) (drop start ys)) ≡ drop start (take end (rows_at basis n xs zs ys))
  rows_part =
      rows_cut basis start (end - start) xs zs ys ws
      ∙ ap (λ e. drop start (rows_at basis e xs zs ys)) whole
      ∙ ap (drop start) (sym (rows_at_take basis xs zs ys end n l))

-- the y's of the rows are the column's
pub ys_read : (r : Rows) → ys_in (rows_read r) ≡ r.ys.now
ys_read r = ys_in_rows r.basis (length r.ys.now) r.xs.now r.zs.now r.ys.now (le_refl _) ∙ take_all (length r.ys.now) r.ys.now (le_refl _)

module _ (r : Rows) where
  pub length_read : length (weighted_read r) ≡ length r.ys.now
  length_read = length_weighted_at r.basis r.xs.now r.zs.now r.ys.now r.ws.now (length r.ys.now)

  pub length_rows_read : length (rows_read r) ≡ length r.ys.now
  length_rows_read = length_rows_at r.basis r.xs.now r.zs.now r.ys.now (length r.ys.now)

  -- without their weights they are the rows
  pub rows_in_read : rows_in (weighted_read r) ≡ rows_read r
  rows_in_read = rows_in_weighted r.basis r.xs.now r.zs.now r.ys.now r.ws.now (length r.ys.now)

  -- the part that ends with the rows
  pub weighted_from : (start : ℕ) → drop start (take (length r.ys.now) (weighted_read r)) ≡ drop start (weighted_read r)
  weighted_from start = ap (drop start) (take_all (length r.ys.now) (weighted_read r) (omega (arith, length_read)))

-- a first part and the one behind it
pub parts_joined : {A : Type 0} (a b : ℕ) (l : List A) → a ≤ b → take a l ++ drop a (take b l) ≡ take b l
parts_joined {A} a b l h = ap (λ (f : List A). f ++ drop a (take b l)) (sym (part_take 0 a b l (omega arith))) ∙ take-append-drop a (take b l)
