-- Laws of Corner.antt: the solution and the inverse for k coefficients read of the sums only the k by k corner of A and the first k places of g.
use Rattle.std.specs.Prelude.{◌≡◌, Bool, true, false, ℕ, ◌+◌, ◌-◌, ◌*◌, ◌≤◌, ◌<◌, eqb, length, set, replicate, Float}
use Rattle.std.proofs.Math.Path.{refl, sym}
use Rattle.std.proofs.Common.{◌∙◌, arith, eqb-true, length-set, get_or-set_same, get_or-set_other}
use mathlib.Core.List.{List}
use Rattle.std.proofs.lemmas.Bool.{eqb-false}
use Rattle.std.proofs.Math.ListN.{get_or, length-replicate}
use Rattle.std.proofs.Math.Seq.{get_or-take, length-take-le}
use Rattle.std.specs.Float.Ieee.{nan, binary64, add, sub, mul, div}
use Rattle.loops.specs.Loop.{Together}
use Rattle.loops.specs.LoopLaws.{from_related, while_related}
use Rattle.loops.specs.PlaceLaws.{each_same, each_at, length_each}
use Rattle.value.specs.Numbers.{zero_f, epsilon}
use Rattle.monomial.specs.Corner.{SameCorner}
use Rattle.solve.specs.Solve.{System, cell, pivot_holds, less_cell, clear_row, clear_below, eliminate, less_term, back_row, back, matrix_of, right_of, solved, solve, ridge_cell, ridge, unit, unit_column, column_holds, inverse_column, inverse_columns, inverse}
use Rattle.solve.specs.Corner.{SameCells, SameSystem, first_rows}

-- ---- two matrices that agree in the corner

pub set_cell : (k r c : ℕ) (m n : List Float) (v w : Float) → k ≤ 16 → r < k → c < k → SameCells k m n → v ≡ w → SameCells k (set m (16 * r + c) v) (set n (16 * r + c) w)
set_cell k r c m n v w h hr hc q e =
    record {
      long = omega (arith, length-set m (16 * r + c) v, q.long);
      long' = omega (arith, length-set n (16 * r + c) w, q.long');
      cells = λ i j hi hj. by_place i j hi hj (eqb (16 * i + j) (16 * r + c)) refl;
    }
  where
    by_place : (i j : ℕ) → i < k → j < k → (t : Bool) → eqb (16 * i + j) (16 * r + c) ≡ t → cell (set m (16 * r + c) v) i j ≡ cell (set n (16 * r + c) w) i j
    by_place i j hi hj true z =
        let at = eqb-true (16 * i + j) (16 * r + c) z in
        rw at (get_or-set_same m (16 * r + c) v nan (omega (arith, q.long)) ∙ e ∙ sym (get_or-set_same n (16 * r + c) w nan (omega (arith, q.long'))))
    by_place i j hi hj false z =
        let at = eqb-false (16 * i + j) (16 * r + c) z in
        get_or-set_other m (16 * r + c) (16 * i + j) v nan at ∙ q.cells i j hi hj ∙ sym (get_or-set_other n (16 * r + c) (16 * i + j) w nan at)

module _ (k : ℕ) (h : k ≤ 16) where
  less_cell_lem : (p r c : ℕ) (f g : Float) (m n : List Float) → p < k → r < k → c < k → f ≡ g → SameCells k m n → SameCells k (less_cell p r f c m) (less_cell p r g c n)
  less_cell_lem p r c f g m n hp hr hc e q =
      set_cell k r c m n (sub binary64 (cell m r c) (mul binary64 f (cell m p c))) (sub binary64 (cell n r c) (mul binary64 g (cell n p c))) h hr hc q
      (rw (q.cells r c hr hc, q.cells p c hp hc, e))

  clear_row_lem : (p r : ℕ) (s t : System) → p < k → r < k → SameSystem k s t → SameSystem k (clear_row k p r s) (clear_row k p r t)
  unfolding clear_row
  clear_row_lem p r s t hp hr q =
      let e : div binary64 (cell s.m r p) (cell s.m p p) ≡ div binary64 (cell t.m r p) (cell t.m p p) = rw (q.corner.cells r p hr hp, q.corner.cells p p hp hp) in
      record {
        corner = from_related (SameCells k) (less_cell p r (div binary64 (cell s.m r p) (cell s.m p p))) (less_cell p r (div binary64 (cell t.m r p) (cell t.m p p))) (p + 1) k s.m t.m
            (λ c m n a b o. less_cell_lem p r c _ _ m n hp hr b e o) q.corner;
        right = rw (e, q.right);
      }

  clear_below_lem : (p : ℕ) (s t : System) → p < k → SameSystem k s t → SameSystem k (clear_below k p s) (clear_below k p t)
  unfolding clear_below
  clear_below_lem p s t hp q = from_related (SameSystem k) (clear_row k p) (clear_row k p) (p + 1) k s t (λ r u v a b o. clear_row_lem p r u v hp b o) q

  pivot_same : (start start' : List Float) (p : ℕ) (s t : System) → p < k → SameCells k start start' → SameSystem k s t → pivot_holds start p s ≡ pivot_holds start' p t
  unfolding pivot_holds
  pivot_same start start' p s t hp a q = rw (a.cells p p hp hp, q.corner.cells p p hp hp)

  -- the elimination reads only the corner
  pub eliminate_same : (start start' : List Float) (s t : System) → SameCells k start start' → SameSystem k s t
      → Together (SameSystem k) (eliminate start k s) (eliminate start' k t)
  unfolding eliminate
  eliminate_same start start' s t a q =
      while_related (SameSystem k) (pivot_holds start) (pivot_holds start') (clear_below k) (clear_below k) 0 k s t
      (λ p u v i b o. (pivot_same start start' p u v b a o, clear_below_lem p u v b o)) q

  back_row_lem : (m n : List Float) (r : ℕ) (b : List Float) → r < k → SameCells k m n → back_row k m r b ≡ back_row k n r b
  unfolding back_row
  back_row_lem m n r b hr q =
      let e =
      from_related (λ (v w : Float). v ≡ w) (less_term m r b) (less_term n r b) (r + 1) k (get_or b r nan) (get_or b r nan)
      (λ c v w i l o. rw (q.cells r c hr l, o)) refl in
      rw (e, q.cells r r hr hr)

  -- and so does back substitution
  pub back_same : (m n b : List Float) → SameCells k m n → back k m b ≡ back k n b
  unfolding back
  back_same m n b q =
      from_related (λ (u v : List Float). u ≡ v) (λ i. back_row k m (k - 1 - i)) (λ i. back_row k n (k - 1 - i)) 0 k b b
      (λ i u v a l o. rw o (back_row_lem m n (k - 1 - i) v (omega arith) q)) refl

  -- so what is solved
  pub solved_same : (start start' : List Float) (s t : System) → SameCells k start start' → SameSystem k s t → solved k (eliminate start k s) ≡ solved k (eliminate start' k t)
  unfolding solved
  solved_same start start' s t a q =
      let e = eliminate_same start start' s t a q in
      rw (e.stop, e.related.right, back_same _ _ (eliminate start' k t).state.b e.related.corner)

  ridge_same : (m n : List Float) → SameCells k m n → SameCells k (ridge k m) (ridge k n)
  unfolding ridge
  ridge_same m n q =
      from_related (SameCells k) ridge_cell ridge_cell 0 k m n
      (λ i u v a l o. set_cell k i i u v (add binary64 (cell u i i) epsilon) (add binary64 (cell v i i) epsilon) h l l o (rw (o.cells i i l l))) q

  -- one column of the inverse
  column_same : (m n : List Float) (j : ℕ) (u v : List Float) → SameCells k m n → u ≡ v → (column_holds k m j u ≡ column_holds k n j v) × (inverse_column k m j u ≡ inverse_column k n j v)
  unfolding column_holds inverse_column unit_column
  column_same m n j u v q o =
      let e = eliminate_same m n (record { m = m; b = unit j }) (record { m = n; b = unit j }) q (record { corner = q; right = refl }) in
      (rw e.stop, rw (o, e.related.right, back_same _ _ (eliminate n k (record { m = n; b = unit j })).state.b e.related.corner))

-- ---- two lists of sums that agree in the corner of A and in the first k places of g

module _ (k : ℕ) (h : k ≤ 16) (s t : List Float) (hs : 256 ≤ length s) (ht : 256 ≤ length t) (same : SameCorner k s t) where
  matrix_of_lem : SameCells k (matrix_of s) (matrix_of t)
  matrix_of_lem =
      record {
        long = omega (arith, length-take-le 256 s hs);
        long' = omega (arith, length-take-le 256 t ht);
        cells = λ i j hi hj. get_or-take 256 s (16 * i + j) nan (omega arith) ∙ same.matrix i j hi hj ∙ sym (get_or-take 256 t (16 * i + j) nan (omega arith));
      }

  right_of_lem : right_of s k ≡ right_of t k
  unfolding right_of
  right_of_lem = each_same (λ i _. get_or s (256 + i) nan) (λ i _. get_or t (256 + i) nan) k (replicate 16 zero_f) (λ i v l. same.right i l)

  -- have one solution
  pub solve_corner : solve s k ≡ solve t k
  unfolding solve
  solve_corner =
      solved_same k h (matrix_of s) (matrix_of t) (record { m = matrix_of s; b = right_of s k }) (record { m = matrix_of t; b = right_of t k }) matrix_of_lem (record { corner = matrix_of_lem; right = right_of_lem })

  -- and one inverse
  pub inverse_corner : inverse s k ≡ inverse t k
  unfolding inverse inverse_columns
  inverse_corner =
      let q = ridge_same k h (matrix_of s) (matrix_of t) matrix_of_lem in
      let e =
      while_related (λ (u v : List Float). u ≡ v) (column_holds k (ridge k (matrix_of s))) (column_holds k (ridge k (matrix_of t))) (inverse_column k (ridge k (matrix_of s))) (inverse_column k (ridge k (matrix_of t)))
      0 k (replicate 256 zero_f) (replicate 256 zero_f) (λ j u v i l o. column_same k h (ridge k (matrix_of s)) (ridge k (matrix_of t)) j u v q o) refl in
      rw (e.stop, e.related)

-- ---- the solution from the first k rows of A alone, with the sums for starting values

module _ (sums : List Float) (k : ℕ) (h : k ≤ 16) (l : 256 ≤ length sums) where
  starts_same : SameCells k (matrix_of sums) sums
  starts_same = record { long = omega (arith, length-take-le 256 sums l); long' = l; cells = λ i j hi hj. get_or-take 256 sums (16 * i + j) nan (omega arith) }

  rows_same : SameCells k (matrix_of sums) (first_rows sums k)
  unfolding first_rows
  rows_same =
      record {
        long = omega (arith, length-take-le 256 sums l);
        long' = omega (arith, length_each (λ p _. get_or sums p nan) (16 * k) (replicate 256 zero_f), length-replicate 256 zero_f);
        cells = λ i j hi hj. get_or-take 256 sums (16 * i + j) nan (omega arith)
            ∙ sym (each_at (λ p _. get_or sums p nan) (16 * k) (replicate 256 zero_f) (16 * i + j) nan (omega arith) (omega (arith, length-replicate 256 zero_f)));
      }

  pub solve_first_rows : solve sums k ≡ solved k (eliminate sums k (record { m = first_rows sums k; b = right_of sums k }))
  unfolding solve
  solve_first_rows =
      solved_same k h (matrix_of sums) sums (record { m = matrix_of sums; b = right_of sums k }) (record { m = first_rows sums k; b = right_of sums k }) starts_same (record { corner = rows_same; right = refl })
