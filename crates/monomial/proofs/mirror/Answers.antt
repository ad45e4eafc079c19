-- `monomial::mirror` meets its contract. The invariants: of the places that were passed, those below the diagonal are copied.
use mathlib.Core.Path.{◌≡◌, refl, ◌∙◌}
use Prim.Native.Nat.{◌+◌, ◌*◌}
use native.Mathlib.Omega.{arith}
use borrow.Author.Rules.{rules}
use lib.ListN.{length-set}
use Rattle.monomial.proofs.Upper.{mirrored_none, mirrored_again, mirrored_line, mirrored_done}
use Rattle.monomial.proofs.mirror.Goals as goal

pub loop-i-init : goal.loop-i-init
loop-i-init c = (search rules, refl, mirrored_none _)

pub loop-j-init : goal.loop-j-init
loop-j-init c =
    let z : 16 * c.loop-i.i + 0 ≡ 16 * c.loop-i.i = omega arith in
    (search rules, refl, λ s h. rw z h)

pub loop-j-preserved : goal.loop-j-preserved
loop-j-preserved c = (search rules, simp length-set c.loop-j.invariant.1, λ s h. mirrored_again c.loop-i.i c.loop-j.j s _ (search rules) (search rules) (search rules) (c.loop-j.invariant.2 s h))

pub loop-i-preserved : goal.loop-i-preserved
loop-i-preserved c =
    let z : c.loop-j.j ≡ c.loop-i.i = omega arith in
    (search rules, c.loop-j.invariant.1 ∙ c.loop-i.invariant.1, mirrored_line c.loop-i.i _ _ (rw z at (c.loop-j.invariant.2 _ c.loop-i.invariant.2)))

pub returns : goal.returns
returns c =
    let z : 16 * c.loop-i.i ≡ 256 = omega arith in
    mirrored_done _ _ (rw z at c.loop-i.invariant.2)
