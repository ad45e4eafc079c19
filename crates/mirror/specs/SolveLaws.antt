-- The solution of the mirror image: the same pivots hold, the coefficients are opposite, and the inverse is equal.
use Rattle.std.specs.Prelude.{◌≡◌, refl, Bool, true, false, cond, List, ℕ, ◌+◌, ◌-◌, ltb, replicate, Float}
use Rattle.std.proofs.Math.Path.{subst₂}
use Rattle.std.proofs.Math.ListN.{get_or}
use Rattle.std.proofs.Common.{get_or-drop}
use Rattle.std.specs.Float.{nan, binary64}
use Rattle.std.specs.Float.Ieee.{div}
use Rattle.basis.specs.Sizes.{max_terms, matrix_places}
use Rattle.loops.specs.Loop.{Stopped, Together}
use Rattle.loops.specs.LoopLaws.{from_related, while_related}
use Rattle.value.specs.Numbers.{zero_f}
use Rattle.solve.specs.Solve.{System, cell, pivot_holds, clear_row, clear_below, eliminate, less_term, back_row, back, matrix_of, right_of, solved, solve, inverse}
use Rattle.signs.specs.Opposite.{Opposite}
use Rattle.signs.specs.OppositeLaws.{opposite_nan}
use Rattle.signs.specs.Steps.{sub_opposite, mul_opposite_right, div_opposite}
use Rattle.mirror.specs.PairLaws.{pairs_at, pairs_set, pairs_each, pairs_replicate}
use Rattle.mirror.specs.Mirror.{Opposites, MirrorSums}
use Rattle.mirror.specs.SumLaws.{zero_opposite}

-- two systems with one matrix and opposite right sides
record MirrorSystem (s t : System) : Type 0 where
  pub matrix : s.m ≡ t.m
  pub right : Opposites s.b t.b

clear_row_lem : (k p r : ℕ) (s t : System) → MirrorSystem s t → MirrorSystem (clear_row k p r s) (clear_row k p r t)
unfolding clear_row
clear_row_lem k p r s t q =
    let f = div binary64 (cell t.m r p) (cell t.m p p) in
    let row = pairs_at q.right opposite_nan r in
    let pivot = pairs_at q.right opposite_nan p in
    record {
      matrix = rw q.matrix;
      right = rw q.matrix (pairs_set q.right (sub_opposite binary64 row (mul_opposite_right binary64 pivot f)) r);
    }

clear_below_lem : (k p : ℕ) (s t : System) → MirrorSystem s t → MirrorSystem (clear_below k p s) (clear_below k p t)
unfolding clear_below
clear_below_lem k p s t q = from_related MirrorSystem (clear_row k p) (clear_row k p) (p + 1) k s t (λ r u v a b o. clear_row_lem k p r u v o) q

pivot_same : (start : List Float) (p : ℕ) (s t : System) → MirrorSystem s t → pivot_holds start p s ≡ pivot_holds start p t
unfolding pivot_holds
pivot_same start p s t q = rw q.matrix

eliminate_mirror : (start : List Float) (k : ℕ) (s t : System) → MirrorSystem s t → Together MirrorSystem (eliminate start k s) (eliminate start k t)
unfolding eliminate
eliminate_mirror start k s t q =
    while_related MirrorSystem (pivot_holds start) (pivot_holds start) (clear_below k) (clear_below k) 0 k s t
    (λ p u v i b o. (pivot_same start p u v o, clear_below_lem k p u v o)) q

back_row_lem : (k : ℕ) (m : List Float) (r : ℕ) (b c : List Float) → Opposites b c → Opposites (back_row k m r b) (back_row k m r c)
unfolding back_row
back_row_lem k m r b c q =
    pairs_set q
    (div_opposite binary64
    (from_related Opposite (less_term m r b) (less_term m r c) (r + 1) k (get_or b r nan) (get_or c r nan)
    (λ j v w i l o. sub_opposite binary64 o (mul_opposite_right binary64 (pairs_at q opposite_nan j) (cell m r j))) (pairs_at q opposite_nan r))
    (cell m r r)) r

back_mirror : (k : ℕ) (m b c : List Float) → Opposites b c → Opposites (back k m b) (back k m c)
unfolding back
back_mirror k m b c q = from_related Opposites (λ i. back_row k m (k - 1 - i)) (λ i. back_row k m (k - 1 - i)) 0 k b c (λ i u v a l o. back_row_lem k m (k - 1 - i) u v o) q

-- what an elimination that ended leaves
solution : (k : ℕ) (u v : Stopped System) → Together MirrorSystem u v
    → Opposites (cond (ltb u.at k) (replicate max_terms zero_f) (back k u.state.m u.state.b)) (cond (ltb v.at k) (replicate max_terms zero_f) (back k v.state.m v.state.b))
solution k u v e = rw (e.stop, e.related.matrix) (either (ltb v.at k) (pairs_replicate Opposite zero_opposite max_terms) (back_mirror k v.state.m u.state.b v.state.b e.related.right))
  where
    either : (f : Bool) {a b c d : List Float} → Opposites a b → Opposites c d → Opposites (cond f a c) (cond f b d)
    either true p q = p
    either false p q = q

module _ {s t : List Float} (h : MirrorSums s t) (k : ℕ) where
  right_mirror : Opposites (right_of s k) (right_of t k)
  unfolding right_of
  right_mirror =
      pairs_each (λ i _. get_or s (matrix_places + i) nan) (λ i _. get_or t (matrix_places + i) nan) k
      (λ i v w o. subst₂ Opposite (get_or-drop matrix_places s i nan) (get_or-drop matrix_places t i nan) (pairs_at h.right opposite_nan i)) (pairs_replicate Opposite zero_opposite max_terms)

  -- where the elimination ends
  ended : List Float → Stopped System
  ended u = eliminate (matrix_of u) k (record { m = matrix_of u; b = right_of u k })

  ends : Together MirrorSystem (ended s) (ended t)
  unfolding ended
  ends = rw h.matrix (eliminate_mirror (matrix_of t) k _ _ (record { matrix = refl; right = right_mirror }))

  -- as many pivots hold
  pub held_mirror : (solve s k).held ≡ (solve t k).held
  unfolding solve solved ended
  held_mirror = ends.stop

  -- the coefficients are opposite
  pub coefficients_mirror : Opposites (solve s k).c (solve t k).c
  unfolding solve solved ended
  coefficients_mirror = solution k (ended s) (ended t) ends

  -- the inverse is the same
  pub inverse_mirror : inverse s k ≡ inverse t k
  unfolding inverse
  inverse_mirror = rw h.matrix
