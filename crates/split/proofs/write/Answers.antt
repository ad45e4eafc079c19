-- `split::write` meets its contract: the samples before the break are the first of all.
use Rattle.std.proofs.Common.{rules}
use Rattle.monomial.specs.ReadingLaws.{weighted_from}
use Rattle.split.proofs.write.Goals as goal

pub returns-clause-earlier : goal.returns-clause-earlier
returns-clause-earlier c = rw (← c.part.ensures.weighted) (search rules)

pub returns-clause-later : goal.returns-clause-later
returns-clause-later c = rw (← (weighted_from c.args.rows c.args.best.at), ← c.part-2.ensures.weighted) (search rules)
