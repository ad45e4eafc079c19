-- `losses::losses` meets its contract.
use mathlib.Core.Path.{refl, sym, ap, ◌∙◌}
use native.Mathlib.Omega.{arith}
use lib.ListN.{length, take}
use lib.Seq.{length-take-le}
use Rattle.basis.specs.CountLaws.{curve_count}
use Rattle.monomial.specs.ReadingLaws.{length_rows_read}
use Rattle.refusal.specs.NamedLaws.{passed, refused_on}
use Rattle.report.specs.Reports.{report_choice}
use Rattle.losses.specs.Losses.{loss_on}
use Rattle.losses.specs.RefusalLaws.{loss_room}
use Rattle.losses.proofs.Telling.{refused_early_lem, let_through, refused_late_lem, few_terms, told_whole}
use Rattle.losses.proofs.losses.Goals as goal

pub returns-in_err-check_losses : goal.returns-in_err-check_losses
unfolding loss_on
returns-in_err-check_losses c = refused_early_lem _ _ c.args.scratch.now c.args.losses.now (refused_on c.check_losses.ensures c.in_err-check_losses.was c.from_residual.ensures.1)

pub curve-rows-requires : goal.curve-rows-requires
curve-rows-requires c =
    let w = loss_room _ _ _ _ _ _ _ (passed c.check_losses.ensures c.in_ok-check_losses.was) in
    (w.0.within.0, w.0.within.1.0)

pub slice_bounds-choose-end : goal.slice_bounds-choose-end
slice_bounds-choose-end c =
    let w = loss_room _ _ _ _ _ _ _ (passed c.check_losses.ensures c.in_ok-check_losses.was) in
    sym (length-take-le 272 c.args.sums.now w.0.enough.0)

pub choose-m-requires : goal.choose-m-requires
choose-m-requires c =
    let w = loss_room _ _ _ _ _ _ _ (passed c.check_losses.ensures c.in_ok-check_losses.was) in
    (omega (arith, w.0.enough.1.0, c.curve-rows.ensures.long), omega (arith, length-take-le 272 c.args.sums.now w.0.enough.0), omega (arith, c.max_degree-last.ensures, w.2), rw c.curve-rows.ensures.curved (omega (arith, c.max_degree-last.ensures, w.2, curve_count c.max_degree-last.result.0)), refl)

pub clear-requires : goal.clear-requires
clear-requires c =
    let w = loss_room _ _ _ _ _ _ _ (passed c.check_losses.ensures c.in_ok-check_losses.was) in
    omega (arith, w.0.enough.1.0)

pub returns-in-Err : goal.returns-in-Err
unfolding loss_on report_choice
returns-in-Err c = let_through _ c.args.book.count c.args.settings _ _ (take 272 c.args.sums.now) _ _ _ _ _ (passed c.check_losses.ensures c.in_ok-check_losses.was) refl
    (refused_late_lem c.args.book.count c.args.settings _ (take 272 c.args.sums.now) _ _ _ _ _ _ c.choose-m.result (rw (c.curve-rows.ensures.rows, c.curve-rows.ensures.long, c.curve-rows.ensures.curved, c.max_degree-last.ensures) at c.choose-m.ensures) c.in-Err.is refl _ _ c.clear.ensures)

pub k-k-requires : goal.k-k-requires
unfolding report_choice
k-k-requires c =
    let w = loss_room _ _ _ _ _ _ _ (passed c.check_losses.ensures c.in_ok-check_losses.was) in
    few_terms c.args.book.count c.args.settings _ (take 272 c.args.sums.now) _ _ _ _ _ _ c.choose-m.result (rw (c.curve-rows.ensures.rows, c.curve-rows.ensures.long, c.curve-rows.ensures.curved, c.max_degree-last.ensures) at c.choose-m.ensures) c.in-Ok.is w.2

pub sizes-requires : goal.sizes-requires
unfolding report_choice
sizes-requires c =
    let w = loss_room _ _ _ _ _ _ _ (passed c.check_losses.ensures c.in_ok-check_losses.was) in
    let d = few_terms c.args.book.count c.args.settings _ (take 272 c.args.sums.now) _ _ _ _ _ _ c.choose-m.result (rw (c.curve-rows.ensures.rows, c.curve-rows.ensures.long, c.curve-rows.ensures.curved, c.max_degree-last.ensures) at c.choose-m.ensures) c.in-Ok.is w.2 in
    (omega (arith, w.0.enough.1.0, c.choose-m.ensures.within.long, c.curve-rows.ensures.long), omega (arith, d, c.k-k.ensures ∙ curve_count c.in-Ok.degree.0))

pub slice_bounds-put_losses-end : goal.slice_bounds-put_losses-end
slice_bounds-put_losses-end c =
    let w = loss_room _ _ _ _ _ _ _ (passed c.check_losses.ensures c.in_ok-check_losses.was) in
    omega (arith, w.0.enough.1.0)

pub slice_bounds-put_losses-end-2 : goal.slice_bounds-put_losses-end-2
slice_bounds-put_losses-end-2 c =
    let w = loss_room _ _ _ _ _ _ _ (passed c.check_losses.ensures c.in_ok-check_losses.was) in
    sym (length-take-le c.args.book.count c.sizes.new.scratch (omega (arith, w.0.enough.1.0)))

pub put_losses-total-requires : goal.put_losses-total-requires
put_losses-total-requires c =
    let w = loss_room _ _ _ _ _ _ _ (passed c.check_losses.ensures c.in_ok-check_losses.was) in
    omega (arith, w.0.enough.1.0, w.0.enough.1.1.0, length-take-le c.args.book.count c.sizes.new.scratch)

pub clear-requires-2 : goal.clear-requires-2
clear-requires-2 c =
    let w = loss_room _ _ _ _ _ _ _ (passed c.check_losses.ensures c.in_ok-check_losses.was) in
    omega (arith, w.0.enough.1.0)

pub returns : goal.returns
unfolding loss_on report_choice
returns c =
    let n = c.args.book.count in
    let w = loss_room _ _ _ _ _ _ _ (passed c.check_losses.ensures c.in_ok-check_losses.was) in
    let_through _ n c.args.settings _ _ (take 272 c.args.sums.now) _ _ _ _ _ (passed c.check_losses.ensures c.in_ok-check_losses.was) refl
    (told_whole n c.args.settings _ (take 272 c.args.sums.now) _ _ _ _ _ _ c.choose-m.result (rw (c.curve-rows.ensures.rows, c.curve-rows.ensures.long, c.curve-rows.ensures.curved, c.max_degree-last.ensures) at c.choose-m.ensures) c.in-Ok.is c.k-k.result.0 c.k-k.ensures (ap length (sym c.curve-rows.ensures.rows) ∙ length_rows_read c.curve-rows.result ∙ c.curve-rows.ensures.long) _ (rw (c.curve-rows.ensures.rows, c.curve-rows.ensures.long) at c.sizes.ensures.written)
    (omega (arith, w.0.enough.1.0, c.choose-m.ensures.within.long)) _ _ _ _ _ c.put_losses-total.ensures.total (rw (length-take-le n c.sizes.new.scratch (omega (arith, w.0.enough.1.0))) at c.put_losses-total.ensures.written) c.score.ensures c.clear-2.ensures)
