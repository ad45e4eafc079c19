-- `monomial::add_matrix` meets its contract. The invariants: the places of A that were passed, 16i in the outer loop and 16i + j in the inner one, have
-- their products.
use mathlib.Core.Path.{◌≡◌, refl, ◌∙◌}
use Prim.Native.Nat.{◌+◌, ◌*◌}
use native.Mathlib.Omega.{arith}
use borrow.Author.Rules.{rules}
use lib.ListN.{length-set}
use Rattle.loops.specs.Places.{each}
use Rattle.monomial.proofs.Parts.{add_place}
use Rattle.monomial.proofs.add_matrix.Goals as goal

pub loop-i-init : goal.loop-i-init
unfolding each
loop-i-init c = (search rules, refl, refl)

pub loop-j-init : goal.loop-j-init
loop-j-init c =
    let z : 16 * c.loop-i.i + 0 ≡ 16 * c.loop-i.i = omega arith in
    (search rules, refl, λ s h e. rw z e)

pub loop-j-preserved : goal.loop-j-preserved
loop-j-preserved c = (search rules, simp length-set c.loop-j.invariant.1, λ s h e. rw (c.loop-j.invariant.2 s h e) (add_place c.args.terms.now c.args.w c.loop-i.i c.loop-j.j s (search rules) (search rules) h))

pub loop-i-preserved : goal.loop-i-preserved
loop-i-preserved c =
    let z : 16 * (c.loop-i.i + 1) ≡ 16 * c.loop-i.i + c.loop-j.j = omega arith in
    (search rules, c.loop-j.invariant.1 ∙ c.loop-i.invariant.1, rw z (c.loop-j.invariant.2 _ (search rules) c.loop-i.invariant.2))

pub returns : goal.returns
returns c =
    let z : c.loop-i.i ≡ 16 = omega arith in
    rw z at c.loop-i.invariant.2
