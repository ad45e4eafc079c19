-- `replay::room_in_all` meets its contract.
use Rattle.replay.specs.Records.{holds_all}
use Rattle.replay.proofs.room_in_all.Goals as goal

pub returns : goal.returns
unfolding holds_all
returns c = rw (c.room.ensures, c.room-2.ensures, c.room-3.ensures, c.room-4.ensures, c.room-5.ensures, c.room-6.ensures, c.room-7.ensures)
