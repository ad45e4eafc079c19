-- `split::choose_side` meets its contract.
use mathlib.Core.Path.{◌∙◌}
use Prim.Native.Nat.{◌≤◌}
use native.Mathlib.Omega.{arith}
use Rattle.basis.specs.CountLaws.{curve_count}
use Rattle.monomial.specs.Reading.{rows_read}
use Rattle.fit.specs.Chosen.{choice_of, counts_of}
use Rattle.split.proofs.choose_side.Goals as goal

pub choose-requires : goal.choose-requires
choose-requires c =
    let few : c.max_degree-most.result.0 ≤ 15 = omega (arith, c.max_degree-most.ensures, c.requires.3) in
    (c.requires.1, c.requires.2, few, rw c.requires.0 (omega (arith, curve_count c.max_degree-most.result.0, few)))

pub returns : goal.returns
returns c = record {
  is = c.choose.ensures.is
      ∙ (λ i. choice_of c.args.criterion c.args.sums.now (rows_read c.args.rows) (counts_of (c.requires.0 i) (c.max_degree-most.ensures i)));
  within = c.choose.ensures.within;
}
