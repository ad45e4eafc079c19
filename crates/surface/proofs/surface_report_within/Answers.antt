-- `surface::surface_report_within` meets its contract.
use Rattle.std.proofs.Common.{◌≤◌, refl, arith, ◌∙◌}
use Rattle.refusal.specs.NamedLaws.{passed}
use Rattle.surface.specs.RefusalLaws.{total_terms, surface_report_room}
use Rattle.surface.specs.TriedLaws.{last_within, last_fits}
use Rattle.surface.proofs.Surfacing.{within_refused, within_past_lem}
use Rattle.surface.proofs.surface_report_within.Goals as goal

pub returns-in-Err : goal.returns-in-Err
returns-in-Err c = within_refused _ _ _ _ _ (rw c.places.ensures at c.check_report.ensures) c.in-Err.is

pub last_tried-last-requires : goal.last_tried-last-requires
last_tried-last-requires c =
    let w = surface_report_room _ _ _ _ _ (passed (rw c.places.ensures at c.check_report.ensures) c.in_default.is) in
    omega (arith, w.1.1, c.max_degree-most.ensures)

pub rows-rows-requires : goal.rows-rows-requires
rows-rows-requires c =
    let w = surface_report_room _ _ _ _ _ (passed (rw c.places.ensures at c.check_report.ensures) c.in_default.is) in
    (w.0.within.0, w.0.within.1.0, w.0.within.1.1.0)

pub report_rows-counted-requires : goal.report_rows-counted-requires
report_rows-counted-requires c =
    let w = surface_report_room _ _ _ _ _ (passed (rw c.places.ensures at c.check_report.ensures) c.in_default.is) in
    let e = w.0.enough in
    let within = last_within c.args.count c.max_degree-most.result.0 w.1.0 in
    let fits = last_fits c.args.count c.max_degree-most.result.0 w.1.0 in
    let four : c.last_tried-last.result.0 ≤ 4 = omega (arith, within, c.last_tried-last.ensures, c.max_degree-most.ensures, w.1.1) in
    rw (c.rows-rows.ensures.long, c.rows-rows.ensures.surface)
    (record {
      last_in_bounds = (omega (arith, c.sums_of-sums.ensures.long), omega arith, rw c.last_tried-last.ensures fits, omega (arith, total_terms c.last_tried-last.result.0 four));
      outputs_fit = (e.0, e.1.0, e.1.1.0, e.1.1.1.0, e.1.1.1.1.0, e.1.1.1.1.1.0, e.1.1.1.1.1.1.0);
    })

pub returns : goal.returns
returns c =
    within_past_lem _ _ _ _ _ (rw c.places.ensures at c.check_report.ensures) c.in_default.is _ refl _ (c.sums_of-sums.ensures.is ∙ c.rows-rows.ensures.sums) _ _ c.max_degree-most.ensures c.last_tried-last.ensures _ _ (rw (c.rows-rows.ensures.rows, c.rows-rows.ensures.long, c.rows-rows.ensures.surface) at c.report_rows-counted.ensures)
