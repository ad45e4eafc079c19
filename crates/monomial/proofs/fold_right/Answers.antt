-- `monomial::fold_right` meets its contract.
use mathlib.Core.Path.{◌≡◌, refl, sym, ap, ◌∙◌}
use native.Mathlib.Omega.{arith}
use borrow.Author.Rules.{rules}
use lib.ListN.{length, replicate}
use lib.Seq.{length-take-le}
use Rattle.loops.specs.Fold.{fold}
use Rattle.loops.specs.Places.{table}
use Rattle.loops.specs.PlaceLaws.{each_fill}
use Rattle.value.specs.Numbers.{zero_f}
use Rattle.monomial.specs.Rows.{row_at, weighted_at, weighted_row, weighted_rows_at}
use Rattle.monomial.specs.Adding.{add_one}
use Rattle.monomial.specs.AddingLaws.{length_add_one, sums_afresh}
use Rattle.monomial.specs.Parts.{right_product}
use Rattle.monomial.specs.SumLaws.{right_is}
use Rattle.monomial.proofs.Parts.{fold_rows_again}
use Rattle.monomial.proofs.fold_right.Goals as goal

pub loop-t-init : goal.loop-t-init
unfolding fold weighted_rows_at table
loop-t-init c = (search rules, refl, refl)

pub loop-t-preserved : goal.loop-t-preserved
unfolding weighted_at row_at add_one
loop-t-preserved c =
    let r = c.args.rows in
    (search rules, ap length c.add_right.ensures ∙ length_add_one right_product 16 _ (weighted_row _ _ _) ∙ c.loop-t.invariant.1, c.add_right.ensures ∙ (rw (c.terms.ensures, c.weight.ensures, c.loop-t.invariant.2) (sym (fold_rows_again (add_one right_product 16) _ r.basis c.loop-t.t r.xs.now r.zs.now r.ys.now r.ws.now))))

pub returns : goal.returns
returns c =
    let last : c.loop-t.t ≡ length c.args.rows.ys.now = omega arith in
    let filled : c.fill.new.self ≡ replicate 16 zero_f = rw (length-take-le 16 c.args.g.now c.requires) at (c.fill.ensures.after (λ y e. e)) in
    (rw last at c.loop-t.invariant.2) ∙ (rw (filled, ← (each_fill zero_f 16 c.args.g.now c.requires), right_is) (sums_afresh right_product 16 c.args.g.now _ c.requires))
