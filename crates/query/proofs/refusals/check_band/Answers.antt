-- `query::refusals::check_band` meets its contract.
use Rattle.std.proofs.Common.{refl, sym, ap, ◌∙◌, [], ◌∷◌, length-take-le}
use lib.Dec.{eqb}
use Rattle.samples.specs.Columns.{of_x}
use Rattle.samples.specs.Held.{held}
use Rattle.samples.specs.ColumnLaws.{column_of_samples}
use Rattle.refusal.specs.Refusals.{by, first_of}
use Rattle.refusal.specs.Named.{judged}
use Rattle.refusal.specs.NamedLaws.{first_asked, then_asked}
use Rattle.refusal.specs.RoomLaws.{room_passed}
use Rattle.refusal.specs.Tests.{outside}
use Rattle.query.specs.Refusals.{band_refusal}
use Rattle.query.proofs.refusals.check_band.Goals as goal

pub returns-in_err-check_samples : goal.returns-in_err-check_samples
unfolding band_refusal
returns-in_err-check_samples c =
    let asked = rw (c.is_finite.ensures, c.score_finite.ensures, c.tolerance_finite.ensures) at c.check_samples.ensures in
    first_asked _ _ refl asked c.in_err-check_samples.was c.from_residual.ensures.1

pub slice_bounds-outside-end : goal.slice_bounds-outside-end
slice_bounds-outside-end c = sym (length-take-le c.args.n c.args.columns.xs.now (room_passed _ _ _ _ c.check_samples.ensures c.in_ok-check_samples.was).within.0)

pub returns : goal.returns
unfolding band_refusal
returns c =
    let asked = rw (c.is_finite.ensures, c.score_finite.ensures, c.tolerance_finite.ensures) at c.check_samples.ensures in
    let within = (room_passed _ _ _ _ c.check_samples.ensures c.in_ok-check_samples.was).within.0 in
    let beyond = c.outside-outside.ensures ∙ ap (outside c.args.x) (sym (column_of_samples c.args.n (held c.args.columns) of_x within)) in
    then_asked _ _ refl asked c.in_ok-check_samples.was
    (c.first_of.ensures ∙ (λ i. judged (first_of (by (eqb c.args.n 0) 7 ∷ by (c.degree_too_high-high.ensures i) 8 ∷ by (beyond i) 9 ∷ []))))
