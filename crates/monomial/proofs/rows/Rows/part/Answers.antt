-- `monomial::rows::Rows::part` meets its contract.
use Rattle.std.specs.Prelude.{◌≡◌, ◌-◌, length, take, drop}
use Rattle.std.proofs.Common.{arith, length-take-le, length-drop}
use Rattle.monomial.specs.ReadingLaws.{rows_part, weighted_part}
use Rattle.monomial.proofs.rows.Rows.part.Goals as goal

pub returns-clause-rows : goal.returns-clause-rows
returns-clause-rows c =
    let r = c.args.self in
    let long : length (take (c.args.end - c.args.start) (drop c.args.start r.ys.now)) ≡ c.args.end - c.args.start = length-take-le _ _ (omega (arith, length-drop c.args.start r.ys.now, c.requires)) in
    rw long (rows_part r.basis c.args.start c.args.end (length r.ys.now) r.xs.now r.zs.now r.ys.now r.ws.now c.requires.0 c.requires.1)

pub returns-clause-weighted : goal.returns-clause-weighted
returns-clause-weighted c =
    let r = c.args.self in
    let long : length (take (c.args.end - c.args.start) (drop c.args.start r.ys.now)) ≡ c.args.end - c.args.start = length-take-le _ _ (omega (arith, length-drop c.args.start r.ys.now, c.requires)) in
    rw (long, c.weights_from.ensures) (weighted_part r.basis c.args.start c.args.end (length r.ys.now) r.xs.now r.zs.now r.ys.now r.ws.now c.requires.0 c.requires.1)
