-- `covariance::tested` meets its contract.
use mathlib.Core.Path.{sym, ap, ◌∙◌}
use borrow.Author.Rules.{rules}
use Rattle.covariance.specs.Pruning.{tested}
use Rattle.covariance.proofs.tested.Goals as goal

pub returns-in-Positive : goal.returns-in-Positive
unfolding tested
returns-in-Positive c = search rules

pub returns-in-Size : goal.returns-in-Size
unfolding tested
returns-in-Size c = c.requires ∙ sym (ap (λ rule. tested rule c.args.c) c.in-Size.is)
