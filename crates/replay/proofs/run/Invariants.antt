-- `replay::run` meets its contract.
use Rattle.book.specs.Calls.{state_of}
use Rattle.samples.specs.Columns.{columns_of}
use Rattle.replay.proofs.Turns.{Upto}
use Rattle.replay.proofs.run.Given as goal

abbrev pub invariant-loop-k : goal.invariant-loop-k
invariant-loop-k l = Upto l.calls.kinds.now l.calls.words.now l.calls.numbers.now l.width (state_of l.initial.book.count (columns_of l.initial.xs l.initial.ys l.initial.ws) l.initial.sums) (record { columns = columns_of l.initial.xs l.initial.ys l.initial.ws; sums = l.initial.sums; results = l.initial.results; outputs = record { scratch = l.initial.scratch; coefficients = l.initial.coefficients; errors = l.initial.errors; pruned = l.initial.pruned; lower = l.initial.lower; upper = l.initial.upper; outliers = l.initial.outliers } }) l.book.count (record { columns = columns_of l.xs l.ys l.ws; sums = l.sums; results = l.results; outputs = record { scratch = l.scratch; coefficients = l.coefficients; errors = l.errors; pruned = l.pruned; lower = l.lower; upper = l.upper; outliers = l.outliers } }) l.k
