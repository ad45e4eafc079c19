-- `surface::sums_of` meets its contract.
use Rattle.std.proofs.Common.{ap, ◌∙◌, length, append-nil}
use Rattle.monomial.specs.SumLaws.{length_sums}
use Rattle.surface.proofs.sums_of.Goals as goal

pub returns-clause-long : goal.returns-clause-long
returns-clause-long c = ap length (c.fold_sums.ensures ∙ append-nil _) ∙ length_sums _

pub returns-clause-is : goal.returns-clause-is
returns-clause-is c = c.fold_sums.ensures ∙ append-nil _
