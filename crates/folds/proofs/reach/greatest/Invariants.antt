-- `folds::reach::greatest` meets its contract.
use Rattle.folds.proofs.Reaching.{Greatest}
use Rattle.folds.proofs.reach.greatest.Given as goal

abbrev pub invariant-loop-v : goal.invariant-loop-v
invariant-loop-v l = Greatest l.a l.v-index l.most
