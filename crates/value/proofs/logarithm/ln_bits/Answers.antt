-- `value::ln_bits` meets its contract: the m and the k without a branch are those of the definition.
use Rattle.std.proofs.Common.{◌+◌, ◌/◌, ◌^◌, ◌∙◌, arith}
use Rattle.value.specs.Logarithm.{ln_bits}
use Rattle.value.specs.Moved.{moved}
use Rattle.value.specs.LogarithmLaws.{m_moved, k_moved}
use Rattle.value.specs.Nan.{bits_some}
use Rattle.value.proofs.Positive.{num_sub}
use Rattle.value.proofs.logarithm.ln_bits.Goals as goal

pub float_from_bits-m : goal.float_from_bits-m
float_from_bits-m c = bits_some _ (omega arith)

pub returns : goal.returns
unfolding ln_bits
returns c =
    let b = c.args.b in
    let shift = c.args.shift in
    c.ln_sum.ensures
    ∙ rw (c.nearest_u64_to_f64.ensures, c.nearest_u64_to_f64-2.ensures, m_moved b, num_sub (moved b / 2 ^ 20) (1023 + shift) (omega arith) (omega arith), k_moved b)
