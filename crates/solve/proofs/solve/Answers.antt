-- `solve::solve` meets its contract: an elimination of k coefficients answers for k.
use Rattle.std.proofs.Common.{sym, ap, ◌∙◌, arith, rules}
use Rattle.solve.specs.Nested.{solution_of}
use Rattle.solve.specs.NestedLaws.{solve_nested}
use Rattle.solve.proofs.solve.Goals as goal

pub returns : goal.returns
returns c = c.solution.ensures ∙ ap (solution_of c.args.k.0) c.put_eliminated-held.ensures ∙ sym (solve_nested c.args.sums.now c.args.k.0 c.args.k.0 (search rules) (search rules) (omega arith))
