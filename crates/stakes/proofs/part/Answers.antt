-- `stakes::part` meets its contract: the places from where the part starts to where it ends.
use Rattle.stakes.specs.PartLaws.{cut_part}
use Rattle.stakes.proofs.part.Goals as goal

pub returns : goal.returns
returns c = cut_part c.args.stake c.args.s.now _ _ c.cut.ensures
