-- `statistics::whole::root_to` meets its contract. The invariant: the power of r is at most n.
use Rattle.std.proofs.Common.{◌≡◌, arith}
use Rattle.statistics.proofs.Roots.{root_is, root_cap, zero_le_power, small_power}
use Rattle.statistics.proofs.whole.root_to.Goals as goal

pub loop-r-init : goal.loop-r-init
loop-r-init c = zero_le_power c.args.p c.args.n c.requires.0

pub pow-requires : goal.pow-requires
pow-requires c = small_power _ _ (omega arith) c.requires.1

pub returns-then-pow-n : goal.returns-then-pow-n
returns-then-pow-n c = root_is c.args.p c.args.n c.loop-r.r c.args.cap c.requires.0 (omega arith) c.loop-r.invariant (omega arith)

pub returns : goal.returns
returns c =
    let z : c.loop-r.r ≡ c.args.cap = omega arith in root_cap c.args.p c.args.n c.args.cap c.requires.0 (rw z at c.loop-r.invariant)
