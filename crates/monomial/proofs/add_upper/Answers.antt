-- `monomial::add_upper` meets its contract. The invariants: the places that were passed, those before 16i in the outer loop and before 16i + j in the inner
-- one, have their products.
use mathlib.Core.Path.{◌≡◌, refl, ◌∙◌}
use Prim.Native.Nat.{◌+◌, ◌*◌}
use native.Mathlib.Omega.{arith}
use borrow.Author.Rules.{rules}
use lib.ListN.{length-set}
use Rattle.value.specs.Numbers.{zero_f}
use Rattle.monomial.specs.SumLaws.{weighted_matrix}
use Rattle.monomial.proofs.Upper.{passed_none, passed_left, passed_again, passed_done}
use Rattle.monomial.proofs.add_upper.Invariants.{twice}
use Rattle.monomial.proofs.add_upper.Goals as goal

pub loop-i-init : goal.loop-i-init
loop-i-init c = (search rules, refl, passed_none _ _)

pub loop-j-init : goal.loop-j-init
loop-j-init c = (omega arith, refl, λ s. passed_left _ c.loop-i.i _ s _ (omega arith))

pub loop-j-preserved : goal.loop-j-preserved
loop-j-preserved c =
    let e : 16 * c.loop-i.i + (c.loop-j.j + 1) ≡ 16 * c.loop-i.i + c.loop-j.j + 1 = omega arith in
    (search rules, simp length-set c.loop-j.invariant.1, λ s h. rw e (passed_again (twice c.args.terms.now c.args.w c.args.later.now c.args.v) (16 * c.loop-i.i + c.loop-j.j) s _ _ (search rules) (c.loop-j.invariant.2 s h) (rw (weighted_matrix c.args.terms.now zero_f c.args.w c.loop-i.i c.loop-j.j (search rules) (search rules), weighted_matrix c.args.later.now zero_f c.args.v c.loop-i.i c.loop-j.j (search rules) (search rules)))))

pub loop-i-preserved : goal.loop-i-preserved
loop-i-preserved c =
    let z : 16 * (c.loop-i.i + 1) ≡ 16 * c.loop-i.i + c.loop-j.j = omega arith in
    (search rules, c.loop-j.invariant.1 ∙ c.loop-i.invariant.1, rw z (c.loop-j.invariant.2 _ c.loop-i.invariant.2))

pub returns : goal.returns
returns c =
    let z : 16 * c.loop-i.i ≡ 256 = omega arith in
    passed_done _ _ _ (search rules) (rw z at c.loop-i.invariant.2)
