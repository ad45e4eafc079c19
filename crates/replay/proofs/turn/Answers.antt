-- `replay::turn` meets its contract.
use mathlib.Core.Path.{sym, subst}
use Prim.Native.Nat.{◌*◌}
use native.Mathlib.Omega.{arith}
use lib.ListN.{length-take, length-drop}
use Rattle.replay.specs.Steps.{Windows}
use Rattle.samples.specs.Columns.{columns_of}
use Rattle.replay.proofs.Turns.{turned_change, turned_report}
use Rattle.reporting.specs.Outputs.{outputs_now}
use Rattle.replay.proofs.turn.Goals as goal

pub settings_at-settings-requires : goal.settings_at-settings-requires
settings_at-settings-requires c = record { kind = omega (arith, c.requires.0.kind); word = omega (arith, c.requires.0.word); number = omega (arith, c.requires.0.number) }

pub places_at-places-requires : goal.places_at-places-requires
places_at-places-requires c = c.requires.0.word

pub change-d-requires : goal.change-d-requires
change-d-requires c = c.if-kind-lt3.true

pub put-requires : goal.put-requires
put-requires c = simp (length-take, length-drop) (omega (arith, c.requires.1))

pub returns-then-kind-lt3 : goal.returns-then-kind-lt3
returns-then-kind-lt3 c = turned_change c.args.calls.kinds.now c.args.calls.words.now c.args.calls.numbers.now c.args.width c.args.k c.args.book.count (record { columns = columns_of c.args.xs.now c.args.ys.now c.args.ws.now; sums = c.args.sums.now; results = c.args.results.now; outputs = (outputs_now c.args.outputs) }) _ _ c.settings_at-settings.ensures c.places_at-places.ensures c.change-d.result _ c.put.ensures c.put.auto.out _ _ c.if-kind-lt3.true (c.change-d.ensures _ _)

pub report_at-d-requires : goal.report_at-d-requires
report_at-d-requires c = subst (λ p. Windows (c.args.width * c.args.k) p (outputs_now c.args.outputs)) (sym c.places_at-places.ensures) c.requires.2

pub put-requires-2 : goal.put-requires-2
put-requires-2 c = simp (length-take, length-drop) (omega (arith, c.requires.1))

pub returns : goal.returns
returns c = turned_report c.args.calls.kinds.now c.args.calls.words.now c.args.calls.numbers.now c.args.width c.args.k c.args.book.count (record { columns = columns_of c.args.xs.now c.args.ys.now c.args.ws.now; sums = c.args.sums.now; results = c.args.results.now; outputs = (outputs_now c.args.outputs) }) _ _ c.settings_at-settings.ensures c.places_at-places.ensures c.report_at-d.result _ c.put-2.ensures c.put-2.auto.out _ c.if-kind-lt3.false c.report_at-d.ensures
