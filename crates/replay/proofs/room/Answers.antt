-- `replay::room` meets its contract.
use borrow.Author.Tests.{eq-eqb, ne_eqb}
use Rattle.replay.proofs.room.Goals as goal

pub returns-then-width-eq0 : goal.returns-then-width-eq0
returns-then-width-eq0 c = rw (eq-eqb c.args.width 0 c.if-width-eq0.true)

pub returns : goal.returns
returns c = rw (ne_eqb c.args.width 0 c.if-width-eq0.false)
