-- `replay::replay` meets its contract.
use mathlib.Core.Path.{sym, ◌∙◌}
use Rattle.samples.specs.Columns.{columns_of}
use Rattle.replay.proofs.Turns.{replay_malformed, replay_ran}
use Rattle.reporting.specs.Outputs.{outputs_now}
use Rattle.replay.proofs.replay.Goals as goal

pub returns-then-not-well_formed : goal.returns-then-not-well_formed
returns-then-not-well_formed c = replay_malformed c.args.calls.kinds.now c.args.calls.words.now c.args.calls.numbers.now c.args.width (record { columns = columns_of c.args.xs.now c.args.ys.now c.args.ws.now; sums = c.args.sums.now; results = c.args.results.now; outputs = (outputs_now c.args.outputs) }) (sym (rw c.places.ensures at c.well_formed-2.ensures) ∙ c.if-not-well_formed.true)

pub run-book-requires : goal.run-book-requires
run-book-requires c = sym (rw c.places.ensures at c.well_formed-2.ensures) ∙ c.if-not-well_formed.false

pub returns : goal.returns
returns c = replay_ran c.args.calls.kinds.now c.args.calls.words.now c.args.calls.numbers.now c.args.width (record { columns = columns_of c.args.xs.now c.args.ys.now c.args.ws.now; sums = c.args.sums.now; results = c.args.results.now; outputs = (outputs_now c.args.outputs) }) (sym (rw c.places.ensures at c.well_formed-2.ensures) ∙ c.if-not-well_formed.false) _ _ c.run-book.ensures
