-- `choice::least` meets its contract.
use Rattle.std.proofs.Common.{◌≡◌, length}
use Rattle.choice.specs.Choice.{yields, scored_at}
use Rattle.loops.specs.Loop.{from}
use Rattle.choice.proofs.least.Given as goal

abbrev pub invariant-loop-score : goal.invariant-loop-score
invariant-loop-score l = from (λ j v. yields (scored_at l.scores j) v) l.score-index (length l.scores) l.a ≡ from (λ j v. yields (scored_at l.scores j) v) 0 (length l.scores) l.initial.a
