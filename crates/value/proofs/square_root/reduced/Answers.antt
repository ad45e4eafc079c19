-- `value::square_root::reduced` meets its contract.
use Rattle.std.proofs.Common.{arith}
use Rattle.value.specs.Nan.{bits_some}
use Rattle.value.proofs.square_root.reduced.Goals as goal
use Rattle.value.proofs.square_root.reduced.Goals.{then-m-lt9007199254740992, else-m-lt9007199254740992}

pub float_from_bits-result : goal.float_from_bits-result
float_from_bits-result c = elim c.if-m-lt9007199254740992.branch [ then-m-lt9007199254740992 w ↦ bits_some _ (omega arith) | else-m-lt9007199254740992 w ↦ bits_some _ (omega arith) ]
