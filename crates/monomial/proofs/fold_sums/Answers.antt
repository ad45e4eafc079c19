-- `monomial::fold_sums` meets its contract.
use mathlib.Core.Path.{◌≡◌, refl, ap, ◌∙◌}
use mathlib.Core.List.{◌++◌}
use Prim.Native.Nat.{◌+◌, ◌*◌, ◌/◌}
use native.Mathlib.Omega.{arith}
use borrow.Author.Rules.{rules}
use lib.ListN.{length, drop, replicate}
use lib.Seq.{length-take-le}
use Rattle.loops.specs.Fold.{fold}
use Rattle.loops.specs.Places.{table}
use Rattle.loops.specs.PlaceLaws.{each_fill}
use Rattle.value.specs.Numbers.{zero_f}
use Rattle.monomial.specs.Rows.{weighted_rows_at}
use Rattle.monomial.specs.Reading.{weighted_read}
use Rattle.monomial.specs.Sums.{add_rows, sums_of}
use Rattle.monomial.specs.SumLaws.{length_add_row, rows_afresh}
use Rattle.monomial.specs.CornerLaws.{length_add_rows}
use Rattle.monomial.specs.UpperLaws.{upper_itself, upper_then, upper_all, sums_symmetric}
use Rattle.monomial.proofs.Upper.{one_more, two_more}
use Rattle.monomial.proofs.fold_sums.Goals as goal

pub loop-p-init : goal.loop-p-init
unfolding fold weighted_rows_at table
loop-p-init c = (search rules, search rules, refl, upper_itself _)

pub loop-p-preserved : goal.loop-p-preserved
loop-p-preserved c =
    let r = c.args.rows in
    let next : 2 * (c.loop-p.p + 1) ≡ 2 * c.loop-p.p + 1 + 1 = omega arith in
    let more = two_more r.basis r.xs.now r.zs.now r.ys.now r.ws.now _ (2 * c.loop-p.p) c.loop-p.sums _ c.loop-p.invariant.1 c.loop-p.invariant.3 c.add_two.ensures in
    let long = more.long ∙ length_add_rows _ _ in
    (search rules, omega (arith, long, c.loop-p.invariant), long, rw next more)

pub loop-t-init : goal.loop-t-init
loop-t-init c = (omega arith, c.loop-p.invariant.1, refl, λ s h. h)

pub loop-t-preserved : goal.loop-t-preserved
loop-t-preserved c =
    let r = c.args.rows in
    let long = ap length c.add_row.ensures ∙ length_add_row _ _ ∙ c.loop-t.invariant.2 in
    (search rules, omega (arith, long, c.loop-t.invariant.1, c.loop-t.invariant.2), long, λ s h. rw c.add_row.ensures (one_more r.basis r.xs.now r.zs.now r.ys.now r.ws.now s c.loop-t.t c.loop-t.sums _ _ c.loop-t.invariant.1 (c.loop-t.invariant.3 s h) c.terms.ensures c.weight.ensures))

pub returns : goal.returns
returns c =
    let pairs : c.loop-p.p ≡ c.len-n.result / 2 = omega arith in
    let last : c.loop-t.t ≡ length c.args.rows.ys.now = omega arith in
    let rows = weighted_read c.args.rows in
    let filled : c.fill.new.self ≡ replicate 272 zero_f = rw (length-take-le 272 c.args.sums.now c.requires) at (c.fill.ensures.after (λ y e. e)) in
    let afresh : add_rows (c.fill.new.self ++ drop 272 c.args.sums.now) rows ≡ sums_of rows ++ drop 272 c.args.sums.now = rw (filled, ← (each_fill zero_f 272 c.args.sums.now c.requires)) (rows_afresh c.args.sums.now rows c.requires) in
    upper_all _ _ (upper_then c.mirror.ensures.0 (rw afresh at (rw last at (c.loop-t.invariant.3 (c.fill.new.self ++ drop 272 c.args.sums.now) (rw pairs at c.loop-p.invariant.3))))) c.mirror.ensures.1 (sums_symmetric rows (drop 272 c.args.sums.now))
