-- `value::closest_root` meets its contract. The laws are in `proofs/SquareRoot/Guess.antt`.
use Rattle.value.proofs.SquareRoot.Guess.{settled}
use Rattle.value.proofs.square_root.closest_root.Goals as goal

pub returns-then-d-r : goal.returns-then-d-r
returns-then-d-r c =
    rw (c.from.ensures, c.from-then-d-r.ensures)
    (settled c.args.m c.args.r c.in-Some.d c.requires.0 c.in-Some.ensures.is c.if-d-r.true)
