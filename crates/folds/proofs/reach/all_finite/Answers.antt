-- `folds::reach::all_finite` meets its contract.
use Rattle.std.proofs.Common.{length, sym, ap, ◌∙◌, arith}
use Rattle.std.proofs.Math.Nat.{le_refl}
use Rattle.loops.specs.Fold.{all_of}
use Rattle.value.specs.Finite.{finite}
use Rattle.monomial.specs.Rows.{rows_at}
use Rattle.fit.specs.Residuals.{residuals}
use Rattle.folds.specs.ReachLaws.{all_within}
use Rattle.folds.proofs.reach.all_finite.Goals as goal

pub returns-in-Curve-clause-is : goal.returns-in-Curve-clause-is
returns-in-Curve-clause-is c =
    let r = c.args.rows in
    let n = length r.ys.now in
    let sure = ap finite (sym c.farthest.ensures) ∙ sym c.is_finite.ensures ∙ c.if-is_finite.true in
    sym
    (ap (λ b. all_of finite (residuals c.args.k.0 c.args.c.now (rows_at b n r.xs.now r.zs.now r.ys.now))) c.in-Curve.is
    ∙ all_within c.args.k.0 c.args.c.now (omega (arith, c.requires)) c.told-c c.args.reach.across c.args.reach.along n r.xs.now r.zs.now r.ys.now c.requires.2.0 c.requires.2.1
    (omega (arith, r.as_long.0)) (le_refl n) sure)
