-- `solve::put_inverse` meets its contract. The loop's invariant: the definition from here on is the definition at the start.
use Rattle.std.proofs.Common.{◌≡◌, ◌<◌, ◌≤◌, ℕ, List, get_or, replicate, sym, ap, ◌∙◌, arith, le-leb}
use Rattle.std.proofs.lemmas.List.{length-replicate}
use Rattle.std.proofs.lemmas.Bool.{lt-leb}
use lib.Ieee.{Float, nan}
use Rattle.loops.specs.Places.{each}
use Rattle.loops.specs.PlaceLaws.{each_at}
use Rattle.loops.specs.LoopLaws.{while_again, while_fails, while_done}
use Rattle.value.specs.Numbers.{zero_f}
use Rattle.solve.specs.Solve.{cell, eliminate, matrix_of, ridge, unit, inverse_columns}
use Rattle.solve.specs.Columns.{Diagonal, column_in}
use Rattle.solve.specs.Nested.{stopped}
use Rattle.solve.proofs.Steps.{ridged, answered, column_is, holds_is}
use Rattle.solve.proofs.Fronts.{cut_is}
use Rattle.solve.proofs.put_inverse.Goals as goal

-- what one elimination leaves in column j is what an elimination of unit column j leaves
module _ (k held : ℕ) (l r m units v : List Float) (q : l ≡ r) (j : ℕ) (u : column_in units j ≡ unit j)
    (e : stopped held m (column_in v j) ≡ eliminate l k (record { m = l; b = column_in units j })) where
  one_column : stopped held m (column_in v j) ≡ eliminate r k (record { m = r; b = unit j })
  one_column = e ∙ rw (q, u)

-- the starting values are the matrix's own
starts : (k : ℕ) (m d : List Float) → k ≤ 16 → d ≡ each (λ i _. cell m i i) k (replicate 16 zero_f) → Diagonal k m d
starts k m d h e p l = sym (ap (λ (t : List Float). get_or t p nan) e ∙ each_at (λ i _. cell m i i) k (replicate 16 zero_f) p nan l (omega (arith, length-replicate 16 zero_f)))

pub loop-j-preserved : goal.loop-j-preserved
loop-j-preserved c =
    let k = c.args.k.0 in
    let q = ridged c.args.sums.now k _ _ (c.put_front.ensures ∙ cut_is 256 256 c.args.sums.now (omega arith)) c.ridge.ensures in
    let j = c.loop-j.j in
    let e = one_column k c.eliminate_all.result _ (ridge k (matrix_of c.args.sums.now)) c.eliminate_all.new.m c.put_identity.new.v c.eliminate_all.new.v q j (c.put_identity.ensures j c.loop-j-test.true) (c.eliminate_all.ensures _ (starts k _ _ c.requires.1 c.diagonal-start.ensures) j c.loop-j-test.true) in
    rw (c.put_column.ensures, c.back_substitution.ensures, c.column_in-b.ensures, column_is k (ridge k (matrix_of c.args.sums.now)) j c.loop-j.v _ e)
    (while_again _ _ _ _ _ c.loop-j-test.true (holds_is _ _ _ _ _ e ∙ le-leb _ _ c.if-eliminate_all-n.false) ∙ c.loop-j.invariant)

pub returns-then-eliminate_all-n-clause-is : goal.returns-then-eliminate_all-n-clause-is
unfolding inverse_columns
returns-then-eliminate_all-n-clause-is c =
    let k = c.args.k.0 in
    let q = ridged c.args.sums.now k _ _ (c.put_front.ensures ∙ cut_is 256 256 c.args.sums.now (omega arith)) c.ridge.ensures in
    let some : 0 < k = omega (arith, c.if-eliminate_all-n.true) in
    let e = one_column k c.eliminate_all.result _ (ridge k (matrix_of c.args.sums.now)) c.eliminate_all.new.m c.put_identity.new.v c.eliminate_all.new.v q 0 (c.put_identity.ensures 0 some) (c.eliminate_all.ensures _ (starts k _ _ c.requires.1 c.diagonal-start.ensures) 0 some) in
    rw c.requires.2 (answered c.args.sums.now k (record { at = 0; state = replicate 256 zero_f }) (sym (while_fails _ _ _ _ _ some (holds_is _ _ _ _ _ e ∙ lt-leb _ _ c.if-eliminate_all-n.true))))

pub returns-clause-is : goal.returns-clause-is
unfolding inverse_columns
returns-clause-is c =
    let z : c.loop-j.j ≡ c.args.k.0 = omega arith in
    let e = sym (while_done _ _ _ _ _ c.loop-j-test.false) ∙ c.loop-j.invariant in
    answered c.args.sums.now c.args.k.0 (record { at = c.args.k.0; state = c.loop-j.v }) (rw (z, c.requires.2) at e)
