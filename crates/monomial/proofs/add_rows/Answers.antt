-- `monomial::add_rows` meets its contract. The invariant: the rows passed are added in the corner.
use mathlib.Core.Path.{◌≡◌, refl, ◌∙◌}
use native.Mathlib.Omega.{arith}
use borrow.Author.Rules.{rules}
use lib.ListN.{length}
use Rattle.monomial.proofs.Lines.{rows_none, rows_more}
use Rattle.monomial.proofs.add_rows.Goals as goal

pub loop-t-init : goal.loop-t-init
loop-t-init c = let r = c.args.rows in (search rules, refl, rows_none c.args.k.0 r.basis r.xs.now r.zs.now r.ys.now r.ws.now c.args.sums.now)

pub loop-t-preserved : goal.loop-t-preserved
loop-t-preserved c =
    let r = c.args.rows in
    (search rules, c.add_row_corner.ensures.long ∙ c.loop-t.invariant.1, rows_more c.args.k.0 c.loop-t.t r.basis r.xs.now r.zs.now r.ys.now r.ws.now c.args.sums.now c.loop-t.sums _ _ _ (search rules) (search rules) c.loop-t.invariant.2 c.terms.ensures c.weight.ensures c.add_row_corner.ensures)

pub returns : goal.returns
returns c =
    let z : c.loop-t.t ≡ length c.args.rows.ys.now = omega arith in
    rw z at c.loop-t.invariant.2
