-- `value::square_root::root_by` meets its contract.
use lib.Ieee.{of_bits}
use Rattle.loops.specs.Cases.{and_first, and_second}
use Rattle.value.proofs.Positive.{above}
use Rattle.value.proofs.square_root.root_by.Goals as goal

pub usual_root-requires : goal.usual_root-requires
unfolding of_bits
usual_root-requires c = (above c.args.x (and_first _ _ c.if-x.true) (and_second _ _ c.if-x.true), c.if-x-ge4503599627370496.true, c.requires.0, c.requires.1)
