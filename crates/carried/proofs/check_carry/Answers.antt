-- `carried::check_carry` meets its contract.
use Rattle.std.proofs.Common.{rules}
use Rattle.carried.specs.Carry.{carry_refusal}
use Rattle.carried.proofs.check_carry.Goals as goal

pub returns : goal.returns
unfolding carry_refusal
returns c = search rules
