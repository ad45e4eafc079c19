-- `monomial::add_row` meets its contract: A is added, and then g in the tail that is lent.
use borrow.Author.Rules.{rules}
use Rattle.monomial.specs.Rows.{weighted_row}
use Rattle.monomial.proofs.Parts.{add_parts}
use Rattle.monomial.proofs.add_row.Goals as goal

pub returns : goal.returns
returns c = rw c.add_right.ensures (add_parts c.args.sums.now c.add_matrix.new.sums (weighted_row c.args.terms.now c.args.y c.args.w) (search rules) c.add_matrix.ensures)
