-- `folds::fold_others` meets its contract.
use Rattle.std.proofs.Common.{rules, ◌∙◌}
use Rattle.monomial.specs.ReadingLaws.{weighted_from}
use Rattle.folds.proofs.fold_others.Goals as goal

pub returns : goal.returns
returns c = record { long = c.add_corner.ensures.long ∙ search rules; same = rw (c.part.ensures.weighted, weighted_from c.args.rows c.args.end) at c.add_corner.ensures.corner }
