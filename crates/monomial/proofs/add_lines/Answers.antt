-- `monomial::add_lines` meets its contract. The invariants: the lines passed have their products, and of a line the places passed.
use mathlib.Core.Path.{◌≡◌, refl, sym, ap, ◌∙◌}
use native.Mathlib.Omega.{arith}
use borrow.Author.Rules.{rules}
use lib.ListN.{length-set}
use lib.Ieee.{binary64, add}
use Rattle.monomial.specs.SumLaws.{weighted_matrix, weighted_right}
use Rattle.monomial.specs.Rows.{weighted_row}
use Rattle.monomial.proofs.Lines.{gains, cells_none, cells_again, lines_none, lines_again, lines_done}
use Rattle.monomial.proofs.add_lines.Goals as goal

pub loop-i-init : goal.loop-i-init
loop-i-init c = (search rules, refl, lines_none _ _ _)

pub loop-j-init : goal.loop-j-init
loop-j-init c = (search rules, refl, cells_none _ _ _)

pub loop-j-preserved : goal.loop-j-preserved
loop-j-preserved c = (search rules, simp length-set c.loop-j.invariant.1, cells_again (gains (weighted_row c.args.terms.now c.args.y c.args.w)) c.loop-i.i c.loop-j.j _ _ _ (search rules) c.loop-j.invariant.2 (ap (add binary64 _) (sym (weighted_matrix c.args.terms.now c.args.y c.args.w c.loop-i.i c.loop-j.j (search rules) (search rules)))))

pub loop-i-preserved : goal.loop-i-preserved
loop-i-preserved c =
    let z : c.loop-j.j ≡ c.args.k.0 = omega arith in
    (search rules, simp length-set (c.loop-j.invariant.1 ∙ c.loop-i.invariant.1), lines_again (gains (weighted_row c.args.terms.now c.args.y c.args.w)) c.args.k.0 c.loop-i.i c.args.sums.now c.loop-i.sums c.loop-j.sums _ (search rules) (search rules) (search rules) c.loop-i.invariant.2 (rw z at c.loop-j.invariant.2) (ap (add binary64 _) (sym (weighted_right c.args.terms.now c.args.y c.args.w c.loop-i.i))))

pub returns : goal.returns
returns c =
    let z : c.loop-i.i ≡ c.args.k.0 = omega arith in
    lines_done c.args.k.0 c.args.sums.now _ (weighted_row c.args.terms.now c.args.y c.args.w) (search rules) (search rules) (rw z at c.loop-i.invariant.2)
