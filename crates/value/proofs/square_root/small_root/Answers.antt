-- `value::small_root` meets its contract. The shift is in `proofs/SquareRoot/Numbers.antt`.
use Rattle.std.proofs.Common.{◌∙◌, ap, arith}
use Rattle.value.specs.Root.{root_of}
use Rattle.value.proofs.SquareRoot.Numbers.{shifted, shifted_back}
use Rattle.value.proofs.square_root.small_root.Goals as goal

pub overflow_sub-s : goal.overflow_sub-s
overflow_sub-s c = omega (arith, shifted c.args.c c.requires.0 c.requires.1)

pub halved-m-requires : goal.halved-m-requires
halved-m-requires c = let h = shifted c.args.c c.requires.0 c.requires.1 in omega arith

pub scaled_root-requires : goal.scaled_root-requires
scaled_root-requires c = let h = shifted c.args.c c.requires.0 c.requires.1 in (omega arith, omega arith, omega arith, omega arith, c.guess.ensures.0, c.guess.ensures.1)

pub returns-clause-is : goal.returns-clause-is
returns-clause-is c =
    let h = shifted c.args.c c.requires.0 c.requires.1 in
    c.scaled_root.ensures.is ∙ rw c.from-j.ensures (ap root_of (shifted_back c.args.c _ (omega arith) h.full.1))
