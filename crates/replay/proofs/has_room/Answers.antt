-- `replay::has_room` meets its contract.
use Rattle.replay.specs.Records.{has_room}
use Rattle.replay.proofs.has_room.Goals as goal

pub returns : goal.returns
unfolding has_room
returns c = rw c.room_in_all.ensures
