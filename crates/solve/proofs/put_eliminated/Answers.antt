-- `solve::put_eliminated` meets its contract.
use Rattle.std.proofs.Common.{List, ◌∙◌, ap₂, arith, rules}
use Rattle.std.specs.Float.Ieee.{Float}
use Rattle.solve.specs.Solve.{eliminate}
use Rattle.solve.proofs.Fronts.{rows_are, right_is, cut_is}
use Rattle.solve.proofs.put_eliminated.Goals as goal

pub returns : goal.returns
returns c = c.eliminate.ensures
    ∙ ap₂ (λ (m b : List Float). eliminate c.args.sums.now c.args.k.0 (record { m = m; b = b }))
    (c.put_front.ensures ∙ (rw c.requires.2 (cut_is 256 _ _ (omega arith))) ∙ rows_are c.args.sums.now c.args.k.0 (search rules) (omega arith))
    (c.put_front-2.ensures ∙ (rw c.requires.3 (cut_is 16 _ _ (search rules))) ∙ right_is c.args.sums.now c.args.k.0 (search rules) (search rules))
