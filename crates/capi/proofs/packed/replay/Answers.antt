-- `capi::packed::replay` meets its contract.
use Rattle.std.proofs.Common.{rules}
use Rattle.capi.specs.Packed.{packed_replay}
use Rattle.capi.proofs.packed.replay.Goals as goal

pub returns-in-Some : goal.returns-in-Some
unfolding packed_replay
returns-in-Some c = search rules

pub returns-in-None : goal.returns-in-None
unfolding packed_replay
returns-in-None c = rw c.in-None.is
