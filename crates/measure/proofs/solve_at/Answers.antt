-- `measure::solve_at` meets its contract.
use Rattle.std.proofs.Common.{List, ℕ, length, take, sym, ap, ap₂, ◌∙◌}
use Rattle.std.specs.Float.{Float}
use Rattle.solve.specs.Solve.{solve}
use Rattle.solve.specs.declared.Solved.{Solved}
use Rattle.lent.specs.Written.{over}
use Rattle.lent.specs.WrittenLaws.{over_cleared}
use Rattle.measure.proofs.Fitting.{fit_unsolved, fit_solved}
use Rattle.measure.proofs.solve_at.Goals as goal

pub returns-else-tried : goal.returns-else-tried
returns-else-tried c =
    let ran = rw c.k-k.ensures at c.judged-tried.ensures in
    fit_unsolved c.args.rows.basis (length c.args.rows.ys.now) c.args.degree.0 _ _ c.args.scratch.now _ c.args.coefficients.now (over_cleared (length c.args.rows.ys.now) _ _ _ ran.within c.clear.ensures) (sym ran.solved ∙ c.if-tried.false)

pub returns-then-tried : goal.returns-then-tried
returns-then-tried c =
    let ran = rw c.k-k.ensures at c.judged-tried.ensures in
    let is = ap (λ (s : Solved). s.c) (c.solve-s.ensures ∙ ap (solve c.args.sums.now) c.k-k.ensures) in
    let written = c.put_first.ensures ∙ ap₂ (λ (m : ℕ) (c' : List Float). over (take m c') c.args.coefficients.now) c.term_places-places.ensures.is is in
    fit_solved c.args.rows.basis (length c.args.rows.ys.now) c.args.degree.0 _ _ c.args.scratch.now _ c.args.coefficients.now (over_cleared (length c.args.rows.ys.now) _ _ _ ran.within c.clear.ensures) (sym ran.solved ∙ c.if-tried.true) _ written
