-- `value::ln_positive` meets its contract.
use Rattle.std.proofs.Common.{false, T, pos, sym, ◌∙◌, subst, arith, le-ltb, lt-ltb}
use lib.Ieee.{binary64, fin, mul, of_bits}
use Rattle.value.specs.Keys.{bits_le}
use Rattle.value.specs.Logarithm.{ln_positive}
use Rattle.value.proofs.Positive.{positive_plain, plain_some, scaled_plain}
use Rattle.value.proofs.logarithm.ln_positive.Goals as goal

pub float_to_bits-b : goal.float_to_bits-b
float_to_bits-b c = plain_some _ ((positive_plain c.args.v (subst T (sym c.well_formed.0.1) tt) c.requires))

pub float_to_bits-scaled : goal.float_to_bits-scaled
unfolding of_bits
float_to_bits-scaled c = plain_some _ (scaled_plain c.args.v c.requires)

pub ln_bits-requires : goal.ln_bits-requires
unfolding of_bits
ln_bits-requires c =
    let h = bits_le (mul binary64 c.args.v (fin false 1 (pos 54))) (scaled_plain c.args.v c.requires) in
    (omega arith, omega arith)

pub returns-then-b-lt4503599627370496 : goal.returns-then-b-lt4503599627370496
unfolding ln_positive
returns-then-b-lt4503599627370496 c = c.ln_bits.ensures ∙ (rw (lt-ltb _ _ c.if-b-lt4503599627370496.true))

pub ln_bits-requires-2 : goal.ln_bits-requires-2
ln_bits-requires-2 c =
    let h = bits_le c.args.v ((positive_plain c.args.v (subst T (sym c.well_formed.0.1) tt) c.requires)) in (omega arith, omega arith)

pub returns : goal.returns
unfolding ln_positive
returns c = c.ln_bits-2.ensures ∙ (rw (le-ltb _ _ c.if-b-lt4503599627370496.false))
