-- `monomial::add_sample` meets its contract: the row's term values are the powers.
use mathlib.Core.Path.{ap, ◌∙◌}
use Rattle.monomial.specs.Rows.{row_of, weighted_row}
use Rattle.monomial.specs.Sums.{add_row}
use Rattle.monomial.proofs.add_sample.Goals as goal

pub returns : goal.returns
unfolding row_of
returns c = c.add_row.ensures ∙ ap (λ t. add_row c.args.sums.now (weighted_row t c.args.y c.args.w)) c.powers-terms.ensures
