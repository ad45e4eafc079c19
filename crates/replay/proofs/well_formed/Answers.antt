-- `replay::well_formed` meets its contract.
use mathlib.Core.Path.{sym, ap, ◌∙◌}
use mathlib.Core.Bool.{◌&&◌}
use lib.ListN.{length}
use Rattle.replay.specs.Records.{all_fit, call_count, well_formed}
use Rattle.replay.proofs.Rooms.{words_room}
use Rattle.replay.proofs.well_formed.Goals as goal

pub returns-then-not-has_room : goal.returns-then-not-has_room
unfolding well_formed
returns-then-not-has_room c = ap (λ t. t && all_fit c.args.calls.words.now c.args.width (call_count c.args.calls.kinds.now)) (sym c.if-not-has_room.true ∙ c.has_room.ensures)

pub all_fit-requires : goal.all_fit-requires
all_fit-requires c = words_room (call_count c.args.calls.kinds.now) (length c.args.calls.words.now) (length c.args.calls.numbers.now) c.args.width c.args.b (sym c.has_room.ensures ∙ c.if-not-has_room.false)

pub returns : goal.returns
unfolding well_formed
returns c = c.all_fit.ensures ∙ ap (λ t. t && all_fit c.args.calls.words.now c.args.width (call_count c.args.calls.kinds.now)) (sym c.if-not-has_room.false ∙ c.has_room.ensures)
