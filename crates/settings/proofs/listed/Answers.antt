-- `settings::listed` meets its contract.
use Rattle.settings.specs.Numbers.{settings_in}
use Rattle.settings.proofs.listed.Goals as goal

pub returns : goal.returns
unfolding settings_in
returns c = rw (← c.word-bound.ensures, ← c.word-most.ensures, ← c.word-criterion.ensures, ← c.word-confidence.ensures, ← c.value-score.ensures, ← c.word-tolerance.ensures, ← c.value-allowed.ensures, ← c.word-pruning.ensures) c.numbered.ensures
