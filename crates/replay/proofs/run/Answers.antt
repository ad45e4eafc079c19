-- `replay::run` meets its contract.
use mathlib.Core.Path.{ap}
use Prim.Native.Nat.{◌<◌}
use native.Mathlib.Omega.{arith}
use Rattle.replay.specs.Records.{call_count}
use Rattle.replay.specs.Replay.{Memory, buffers_in}
use Rattle.samples.specs.Columns.{of_x, of_y, of_w, columns_of}
use Rattle.replay.proofs.Rooms.{stands, results_room, windows, sums_room}
use Rattle.replay.proofs.Turns.{still_formed, none, more, all}
use Rattle.reporting.specs.Outputs.{outputs_now}
use Rattle.replay.proofs.run.Goals as goal

pub loop-k-init : goal.loop-k-init
loop-k-init c = none _ _ _ _ _ _

pub turn-book-requires : goal.turn-book-requires
turn-book-requires c =
    let m : Memory = (record { columns = columns_of c.loop-k.xs c.loop-k.ys c.loop-k.ws; sums = c.loop-k.sums; results = c.loop-k.results; outputs = (record { scratch = c.loop-k.scratch; coefficients = c.loop-k.coefficients; errors = c.loop-k.errors; pruned = c.loop-k.pruned; lower = c.loop-k.lower; upper = c.loop-k.upper; outliers = c.loop-k.outliers }) }) in
    let h = still_formed c.args.calls.kinds.now c.args.calls.words.now c.args.calls.numbers.now c.args.width (record { columns = columns_of c.args.xs.now c.args.ys.now c.args.ws.now; sums = c.args.sums.now; results = c.args.results.now; outputs = (outputs_now c.args.outputs) }) _ m c.open-answer.auto.sums c.loop-k.invariant.same (c.requires) in
    let q : c.loop-k.k < call_count c.args.calls.kinds.now = omega (arith, c.loop-k-test.true) in
    (stands c.args.calls.kinds.now c.args.calls.words.now c.args.calls.numbers.now c.args.width c.loop-k.k m h q, results_room c.args.calls.kinds.now c.args.calls.words.now c.args.calls.numbers.now c.args.width c.loop-k.k m h q, windows c.args.calls.kinds.now c.args.calls.words.now c.args.calls.numbers.now c.args.width c.loop-k.k m h q)

pub loop-k-preserved : goal.loop-k-preserved
loop-k-preserved c =
    let q : c.loop-k.k < call_count c.args.calls.kinds.now = omega (arith, c.loop-k-test.true) in
    more c.args.calls.kinds.now c.args.calls.words.now c.args.calls.numbers.now c.args.width _ _ c.loop-k.book.count (record { columns = columns_of c.loop-k.xs c.loop-k.ys c.loop-k.ws; sums = c.loop-k.sums; results = c.loop-k.results; outputs = (record { scratch = c.loop-k.scratch; coefficients = c.loop-k.coefficients; errors = c.loop-k.errors; pruned = c.loop-k.pruned; lower = c.loop-k.lower; upper = c.loop-k.upper; outliers = c.loop-k.outliers }) }) c.loop-k.k c.loop-k.invariant q _ _ c.turn-book.ensures (record { columns = elim [ of_x ↦ c.turn-book.auto.xs | of_y ↦ c.turn-book.auto.ys | of_w ↦ c.turn-book.auto.ws ]; sums = c.turn-book.auto.sums; results = c.turn-book.auto.results; outputs = λ i. record { scratch = c.turn-book.auto.outputs.0 i; coefficients = c.turn-book.auto.outputs.1.0 i; errors = c.turn-book.auto.outputs.1.1.0 i; pruned = c.turn-book.auto.outputs.1.1.1.0 i; lower = c.turn-book.auto.outputs.1.1.1.1.0 i; upper = c.turn-book.auto.outputs.1.1.1.1.1.0 i; outliers = c.turn-book.auto.outputs.1.1.1.1.1.1.0 i } })

pub returns : goal.returns
returns c =
    let m : Memory = (record { columns = columns_of c.args.xs.now c.args.ys.now c.args.ws.now; sums = c.args.sums.now; results = c.args.results.now; outputs = (outputs_now c.args.outputs) }) in
    all c.args.calls.kinds.now c.args.calls.words.now c.args.calls.numbers.now c.args.width m c.open-answer.result _ c.open-answer.ensures _ (ap (λ z. z.count) c.record_change-first.ensures) _ (record { columns = columns_of c.loop-k.xs c.loop-k.ys c.loop-k.ws; sums = c.loop-k.sums; results = c.loop-k.results; outputs = (record { scratch = c.loop-k.scratch; coefficients = c.loop-k.coefficients; errors = c.loop-k.errors; pruned = c.loop-k.pruned; lower = c.loop-k.lower; upper = c.loop-k.upper; outliers = c.loop-k.outliers }) }) c.loop-k.k c.loop-k.invariant (omega (arith, c.loop-k.invariant.upto, c.loop-k-test.false)) (sums_room c.args.calls.kinds.now c.args.calls.words.now c.args.calls.numbers.now c.args.width (buffers_in m) (c.requires))
