-- `capi::stakebook_two_column_add_frame` meets its contract.
use Rattle.capi.proofs.Promises.{pair_packed}
use Rattle.capi.proofs.stakebook_two_column_add_frame.Goals as goal

pub returns : goal.returns
returns c = pair_packed c.add_frame.ensures c.book.ensures
