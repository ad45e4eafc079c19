-- `capi::stakebook_replay` meets its contract.
use Rattle.capi.proofs.Promises.{replay_packed}
use Rattle.capi.proofs.stakebook_replay.Goals as goal

pub returns : goal.returns
returns c = replay_packed c.replay.ensures c.replay-2.ensures
