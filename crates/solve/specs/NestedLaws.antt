-- Laws of Nested.antt: the solution for k coefficients from the elimination of K.
use Rattle.std.specs.Prelude.{◌≡◌, Bool, true, false, cond, ℕ, ◌+◌, ◌*◌, ◌≤◌, ◌<◌, min, ltb, eqb, length, set, take, replicate}
use Rattle.std.proofs.Math.Path.{refl, sym}
use Rattle.std.proofs.Common.{ap, ◌∙◌, arith, le-ltb, ltb-true, ltb-false, eqb-true, take-append-drop, get_or-set_same}
use mathlib.Core.List.{List, ◌++◌}
use Rattle.std.proofs.lemmas.Bool.{eqb-false}
use Rattle.std.proofs.Math.ListN.{get_or, length-set, length-replicate}
use Rattle.std.proofs.Math.Seq.{get_or-set_other}
use Rattle.std.specs.Float.Ieee.{Float, nan, binary64, sub, mul, div}
use Rattle.loops.specs.Loop.{Stopped, Longer}
use Rattle.loops.specs.LoopLaws.{from_keeps, from_longer, while_longer}
use Rattle.loops.specs.Within.{Within}
use Rattle.loops.specs.PlaceLaws.{each_at, each_same, each_copy, each_rest, length_each}
use Rattle.value.specs.Numbers.{zero_f}
use Rattle.solve.specs.declared.Solved.{Solved}
use Rattle.solve.specs.Solve.{System, cell, pivot_holds, less_cell, clear_row, clear_below, eliminate, back, right_of, solved, solve}
use Rattle.solve.specs.Corner.{SameCells, first_rows}
use Rattle.solve.specs.CornerLaws.{set_cell, back_same, solve_first_rows}
use Rattle.solve.specs.Laws.{eliminate_within}
use Rattle.solve.specs.Nested.{Nested, elimination, front, solution_of}

-- ---- the steps of an elimination of b coefficients beside those of k

outside : (k r c : ℕ) (m n : List Float) (v : Float) → ((i j : ℕ) → i < k → j < k → 16 * i + j ≡ 16 * r + c → ⊥) → SameCells k m n → SameCells k (set m (16 * r + c) v) n
outside k r c m n v apart q =
    record {
      long = omega (arith, length-set m (16 * r + c) v, q.long);
      long' = q.long';
      cells = λ i j hi hj. get_or-set_other m (16 * r + c) (16 * i + j) v nan (apart i j hi hj) ∙ q.cells i j hi hj;
    }

module _ (k b : ℕ) (l : k ≤ b) (h : b ≤ 16) where
  -- a row of the corner
  row_inside : (p r : ℕ) (s t : System) → p < k → p < r → r < k → Nested k s t → Nested k (clear_row b p r s) (clear_row k p r t)
  unfolding clear_row
  row_inside p r s t hp pr hr q =
      let e : div binary64 (cell s.m r p) (cell s.m p p) ≡ div binary64 (cell t.m r p) (cell t.m p p) = rw (q.corner.cells r p hr hp, q.corner.cells p p hp hp) in
      record {
        corner = from_longer (SameCells k) (less_cell p r (div binary64 (cell s.m r p) (cell s.m p p))) (less_cell p r (div binary64 (cell t.m r p) (cell t.m p p))) (p + 1) k b s.m t.m (omega arith) l
            (λ c m n a z o. set_cell k r c m n _ _ (omega arith) hr z o (rw (o.cells r c hr z, o.cells p c hp z, e)))
            (λ c m n a z o. outside k r c m n _ (λ i j hi hj w. omega arith) o) q.corner;
        right = λ i hi. by_place i hi (eqb i r) refl;
        long = length-set s.b r _ ∙ q.long;
        long' = length-set t.b r _ ∙ q.long';
      }
    where
      v : Float
      v = sub binary64 (get_or s.b r nan) (mul binary64 (div binary64 (cell s.m r p) (cell s.m p p)) (get_or s.b p nan))

      w : Float
      w = sub binary64 (get_or t.b r nan) (mul binary64 (div binary64 (cell t.m r p) (cell t.m p p)) (get_or t.b p nan))

      same : v ≡ w
      same = rw (q.corner.cells r p hr hp, q.corner.cells p p hp hp, q.right r hr, q.right p hp)

      by_place : (i : ℕ) → i < k → (z : Bool) → eqb i r ≡ z → get_or (set s.b r v) i nan ≡ get_or (set t.b r w) i nan
      by_place i hi true z =
          let at = eqb-true i r z in
          rw at (get_or-set_same s.b r v nan (omega (arith, q.long)) ∙ same ∙ sym (get_or-set_same t.b r w nan (omega (arith, q.long'))))
      by_place i hi false z =
          let at = eqb-false i r z in
          get_or-set_other s.b r i v nan at ∙ q.right i hi ∙ sym (get_or-set_other t.b r i w nan at)

  -- a row below it
  row_outside : (p r : ℕ) (s t : System) → k ≤ r → r < b → Nested k s t → Nested k (clear_row b p r s) t
  unfolding clear_row
  row_outside p r s t kr hr q =
      record {
        corner = from_keeps (λ (m : List Float). SameCells k m t.m) (less_cell p r (div binary64 (cell s.m r p) (cell s.m p p))) (p + 1) b s.m
            (λ c m a z o. outside k r c m t.m _ (λ i j hi hj w. omega arith) o) q.corner;
        right = λ i hi. get_or-set_other s.b r i _ nan (λ e. omega arith) ∙ q.right i hi;
        long = length-set s.b r _ ∙ q.long;
        long' = q.long';
      }

  below_inside : (p : ℕ) (s t : System) → p < k → Nested k s t → Nested k (clear_below b p s) (clear_below k p t)
  unfolding clear_below
  below_inside p s t hp q =
      from_longer (Nested k) (clear_row b p) (clear_row k p) (p + 1) k b s t (omega arith) l
      (λ r u v a z o. row_inside p r u v hp (omega arith) z o) (λ r u v a z o. row_outside p r u v a z o) q

  below_outside : (p : ℕ) (s t : System) → k ≤ p → Nested k s t → Nested k (clear_below b p s) t
  unfolding clear_below
  below_outside p s t kp q = from_keeps (λ (u : System). Nested k u t) (clear_row b p) (p + 1) b s (λ r u a z o. row_outside p r u t (omega arith) z o) q

  eliminate_longer : (start : List Float) (s t : System) → Nested k s t → Longer (Nested k) k (eliminate start b s) (eliminate start k t)
  unfolding eliminate pivot_holds
  eliminate_longer start s t q =
      while_longer (Nested k) (pivot_holds start) (pivot_holds start) (clear_below b) (clear_below k) k b s t l
      (λ p u v z o. (rw (o.corner.cells p p z z), below_inside p u v z o)) (λ p u v a z o. below_outside p u v a o) q

-- ---- what is solved

-- a list that is b's below k and +0 from there on is the front of b
front_is : (k : ℕ) (b c : List Float) → k ≤ 16 → Within k (replicate 16 zero_f) c → ((r : ℕ) → r < k → get_or b r nan ≡ get_or c r nan) → front k b ≡ c
unfolding front
front_is k b c h w same =
    let n : length c ≡ 16 = w.long ∙ length-replicate 16 zero_f in
    each_same (λ i _. get_or b i nan) (λ i _. get_or c i nan) k (replicate 16 zero_f) (λ i v z. same i z)
    ∙ each_copy nan k c (replicate 16 zero_f) (omega (arith, n)) (omega (arith, length-replicate 16 zero_f))
    ∙ ap (λ (d : List Float). take k c ++ d) (sym w.rest) ∙ take-append-drop k c

module _ (sums : List Float) (k b : ℕ) (l : k ≤ b) (h : b ≤ 16) (long : 256 ≤ length sums) where
  first : System
  first = record { m = first_rows sums b; b = right_of sums b }

  fewer : System
  fewer = record { m = first_rows sums k; b = right_of sums k }

  begins : Nested k first fewer
  unfolding first fewer first_rows right_of
  begins =
      record {
        corner =
            record {
              long = omega (arith, length_each (λ p _. get_or sums p nan) (16 * b) (replicate 256 zero_f), length-replicate 256 zero_f);
              long' = omega (arith, length_each (λ p _. get_or sums p nan) (16 * k) (replicate 256 zero_f), length-replicate 256 zero_f);
              cells = λ i j hi hj. each_at (λ p _. get_or sums p nan) (16 * b) (replicate 256 zero_f) (16 * i + j) nan (omega arith) (omega (arith, length-replicate 256 zero_f))
                  ∙ sym (each_at (λ p _. get_or sums p nan) (16 * k) (replicate 256 zero_f) (16 * i + j) nan (omega arith) (omega (arith, length-replicate 256 zero_f)));
            };
        right = λ r hr. each_at (λ i _. get_or sums (256 + i) nan) b (replicate 16 zero_f) r nan (omega arith) (omega (arith, length-replicate 16 zero_f))
            ∙ sym (each_at (λ i _. get_or sums (256 + i) nan) k (replicate 16 zero_f) r nan hr (omega (arith, length-replicate 16 zero_f)));
        long = length_each (λ i _. get_or sums (256 + i) nan) b (replicate 16 zero_f) ∙ length-replicate 16 zero_f;
        long' = length_each (λ i _. get_or sums (256 + i) nan) k (replicate 16 zero_f) ∙ length-replicate 16 zero_f;
      }

  front_within : Within k (replicate 16 zero_f) (eliminate sums k fewer).state.b
  unfolding fewer right_of
  front_within =
      eliminate_within k (omega arith) (replicate 16 zero_f) sums fewer
      (record { long = length_each (λ i _. get_or sums (256 + i) nan) k (replicate 16 zero_f); rest = each_rest (λ i _. get_or sums (256 + i) nan) k (replicate 16 zero_f) })

  -- the elimination of b coefficients answers for k
  pub solve_nested : solve sums k ≡ solution_of k (elimination sums b)
  unfolding solution_of solved first fewer
  solve_nested = solve_first_rows sums k (omega arith) long ∙ by_test (ltb E.at k) refl
    where
      E : Stopped System
      E = eliminate sums b first

      e : Stopped System
      e = eliminate sums k fewer

      z : List Float
      z = replicate 16 zero_f

      L : Longer (Nested k) k E e
      L = eliminate_longer k b l h sums first fewer begins

      by_test : (t : Bool) → ltb E.at k ≡ t
          → ◌≡◌ {A = Solved} (record { held = e.at; c = cond (ltb e.at k) z (back k e.state.m e.state.b) })
          (record { held = min k E.at; c = cond (ltb E.at k) z (back k E.state.m (front k E.state.b)) })
      by_test true q =
          let less = ltb-true E.at k q in
          let same : e.at ≡ E.at = L.stop ∙ (omega (arith, less)) in
          let least : min k E.at ≡ E.at = omega (arith, less) in
          rw (same, least, q) refl
      by_test false q =
          let most = ltb-false E.at k q in
          let N = L.related most in
          let same : e.at ≡ k = L.stop ∙ (omega (arith, most)) in
          let least : min k E.at ≡ k = omega (arith, most) in
          let none : ltb k k ≡ false = le-ltb k k (omega arith) in
          rw (same, least, q, none, front_is k E.state.b e.state.b (omega arith) front_within N.right, back_same k (omega arith) E.state.m e.state.m e.state.b N.corner) refl
