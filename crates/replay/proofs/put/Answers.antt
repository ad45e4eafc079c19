-- `replay::put` meets its contract.
use native.Mathlib.Omega.{arith}
use lib.ListN.{length-set}
use Rattle.replay.proofs.Laws.{five_set}
use Rattle.replay.proofs.put.Goals as goal

pub bounds-out-1 : goal.bounds-out-1
bounds-out-1 c = simp length-set (omega (arith, c.requires))

pub bounds-out-2 : goal.bounds-out-2
bounds-out-2 c = simp length-set (omega (arith, c.requires))

pub bounds-out-3 : goal.bounds-out-3
bounds-out-3 c = simp length-set (omega (arith, c.requires))

pub returns : goal.returns
returns c = five_set _ _ _ _ _ c.args.out.now c.requires
