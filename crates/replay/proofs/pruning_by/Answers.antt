-- `replay::pruning_by` meets its contract.
use mathlib.Core.Path.{refl}
use borrow.Author.Tests.{eq-eqb, ne_eqb}
use Rattle.replay.specs.Records.{pruning_by}
use Rattle.replay.proofs.pruning_by.Goals as goal

pub returns-then-kind-eq4 : goal.returns-then-kind-eq4
unfolding pruning_by
returns-then-kind-eq4 c = rw (eq-eqb c.args.kind 4 c.if-kind-eq4.true) refl

pub returns : goal.returns
unfolding pruning_by
returns c = rw (ne_eqb c.args.kind 4 c.if-kind-eq4.false) refl
