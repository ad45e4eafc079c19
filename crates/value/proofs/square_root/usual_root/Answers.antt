-- `value::square_root::usual_root` meets its contract.
use Rattle.std.proofs.Common.{T, sym, ap, ◌∙◌, subst, arith}
use Rattle.value.specs.Nan.{bits_some}
use Rattle.value.specs.Root.{root_f}
use Rattle.value.proofs.Positive.{positive_plain, plain_some}
use Rattle.value.proofs.SquareRoot.Reading.{Pattern, pattern, large_value}
use Rattle.value.proofs.square_root.usual_root.Goals as goal
use Rattle.value.proofs.square_root.usual_root.Goals.{Start}

inside : (c : Start) → Pattern c.args.v
inside c = pattern c.args.v (subst T (sym c.well_formed.0.1) tt) c.requires.0

pub float_to_bits-b : goal.float_to_bits-b
float_to_bits-b c = plain_some _ (positive_plain c.args.v (subst T (sym c.well_formed.0.1) tt) c.requires.0)

pub overflow_add-e : goal.overflow_add-e
overflow_add-e c = let p = inside (goal.at.overflow_add-e c).Start in omega arith

pub scaled_root-requires : goal.scaled_root-requires
scaled_root-requires c = let p = inside (goal.at.scaled_root-requires c).Start in (omega arith, omega arith, omega arith, omega arith, c.requires.2, c.requires.3)

pub float_from_bits-result : goal.float_from_bits-result
float_from_bits-result c = bits_some c.scaled_root.result (omega (arith, c.scaled_root.ensures.small))

pub returns : goal.returns
returns c =
    let p = inside (goal.at.returns c).Start in
    c.scaled_root.ensures.is ∙ sym (large_value _ p.finite (λ z. absurd (omega (arith, z, c.requires.1)))) ∙ ap root_f p.back
