-- `surface::refusals::check_band` meets its contract.
use Rattle.std.proofs.Common.{arith, refl, sym, ap, ◌∙◌, [], ◌∷◌, ◌||◌, length-take-le}
use lib.Dec.{eqb}
use Rattle.refusal.specs.Refusals.{by, first_of}
use Rattle.refusal.specs.Named.{judged}
use Rattle.refusal.specs.NamedLaws.{first_asked, then_asked}
use Rattle.refusal.specs.RoomLaws.{room_passed}
use Rattle.refusal.specs.Tests.{outside}
use Rattle.surface.specs.Points.{held_points}
use Rattle.surface.specs.PointLaws.{xs_of_points, zs_of_points}
use Rattle.surface.specs.Refusals.{surface_band_refusal}
use Rattle.surface.proofs.refusals.check_band.Goals as goal

pub returns-in_err-check_points : goal.returns-in_err-check_points
unfolding surface_band_refusal
returns-in_err-check_points c =
    let asked = rw (c.is_finite.ensures, c.is_finite-2.ensures, c.score_finite.ensures, c.tolerance_finite.ensures) at c.check_points.ensures in
    first_asked _ _ refl asked c.in_err-check_points.was c.from_residual.ensures.1

pub slice_bounds-outside-end : goal.slice_bounds-outside-end
slice_bounds-outside-end c = sym (length-take-le c.args.n c.args.points.xs.now (room_passed _ _ _ _ c.check_points.ensures c.in_ok-check_points.was).within.0)

pub slice_bounds-outside-end-2 : goal.slice_bounds-outside-end-2
slice_bounds-outside-end-2 c =
    let within = (room_passed _ _ _ _ c.check_points.ensures c.in_ok-check_points.was).within in
    sym (length-take-le c.args.n _ (omega (arith, within.0, within.1.0)))

pub returns : goal.returns
unfolding surface_band_refusal
returns c =
    let asked = rw (c.is_finite.ensures, c.is_finite-2.ensures, c.score_finite.ensures, c.tolerance_finite.ensures) at c.check_points.ensures in
    let within = (room_passed _ _ _ _ c.check_points.ensures c.in_ok-check_points.was).within in
    let columns = held_points c.args.points in
    let beside = c.outside.ensures ∙ ap (outside c.args.x) (sym (xs_of_points c.args.n columns within.0)) in
    let above = c.outside-2.ensures ∙ ap (outside c.args.z) (sym (zs_of_points c.args.n columns within.1.0)) in
    then_asked _ _ refl asked c.in_ok-check_points.was
    (c.first_of.ensures ∙ (λ i. judged (first_of (by (eqb c.args.n 0) 7 ∷ by (c.total_too_high.ensures i) 8 ∷ by (beside i || above i) 9 ∷ []))))
