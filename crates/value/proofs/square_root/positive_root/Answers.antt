-- `value::positive_root` meets its contract.
use Rattle.std.proofs.Common.{◌≡◌, ℕ, ◌*◌, ◌/◌, ◌%◌, ◌^◌, T, sym, ap, ◌∙◌, subst, arith}
use lib.Ieee.{binary64, to_bits}
use Rattle.value.specs.Nan.{bits_some}
use Rattle.value.specs.Root.{root_f, root_of}
use Rattle.value.proofs.Positive.{positive_plain, plain_some}
use Rattle.value.proofs.SquareRoot.Reading.{Pattern, pattern, small_value}
use Rattle.value.proofs.square_root.positive_root.Goals as goal
use Rattle.value.proofs.square_root.positive_root.Goals.{Start}

inside : (c : Start) → Pattern c.args.v
inside c = pattern c.args.v (subst T (sym c.well_formed.0.1) tt) c.requires

pub float_to_bits-b : goal.float_to_bits-b
float_to_bits-b c = plain_some _ (positive_plain c.args.v (subst T (sym c.well_formed.0.1) tt) c.requires)

pub small_root-requires : goal.small_root-requires
small_root-requires c = let p = inside (goal.at.small_root-requires c).Start in (omega arith, omega arith)

pub float_from_bits-result : goal.float_from_bits-result
float_from_bits-result c = bits_some c.small_root.result (omega (arith, c.small_root.ensures.small))

pub returns-then-b-lt4503599627370496 : goal.returns-then-b-lt4503599627370496
returns-then-b-lt4503599627370496 c =
    let p = inside (goal.at.returns-then-b-lt4503599627370496 c).Start in
    let b = to_bits binary64 c.args.v in
    let none : b / 2 ^ 52 ≡ 0 = omega arith in
    let whole : b ≡ b % 2 ^ 52 = omega arith in
    c.small_root.ensures.is ∙ ap (λ (t : ℕ). root_of (t * 2 ^ 1074)) whole ∙ sym (small_value b p.some none) ∙ ap root_f p.back

pub usual_root-requires : goal.usual_root-requires
usual_root-requires c = (c.requires, omega arith, c.guess.ensures.0, c.guess.ensures.1)
