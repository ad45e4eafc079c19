-- `fit::choose` meets its contract.
use Rattle.std.proofs.Common.{refl, ap, ◌∙◌, arith}
use Rattle.solve.specs.Nested.{elimination}
use Rattle.fit.proofs.choose.Goals as goal

pub k-most-requires : goal.k-most-requires
k-most-requires c = c.requires.2

pub put_eliminated-held-requires : goal.put_eliminated-held-requires
put_eliminated-held-requires c = (c.requires.1, omega (arith, c.k-most.ensures, c.requires.3), refl, refl)

pub choose_from-requires-clause-eliminated : goal.choose_from-requires-clause-eliminated
choose_from-requires-clause-eliminated c = c.put_eliminated-held.ensures ∙ ap (elimination c.args.sums.now) c.k-most.ensures
