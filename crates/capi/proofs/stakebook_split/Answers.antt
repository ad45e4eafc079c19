-- `capi::stakebook_split` meets its contract.
use mathlib.Core.Path.{refl}
use borrow.Author.Tests.{lt-ltb, le-ltb}
use lib.ListN.{length}
use Rattle.samples.specs.Columns.{columns_of}
use Rattle.capi.specs.SplitFitting.{split_fits}
use Rattle.capi.proofs.Promises.{split_short, split_packed}
use Rattle.capi.proofs.stakebook_split.Goals as goal

pub returns-then-total-lt1 : goal.returns-then-total-lt1
returns-then-total-lt1 c = split_short _ _ _ _ (lt-ltb _ _ c.if-total-lt1.true) (record { answer = refl; scratch = refl; before = refl; after = refl }) refl _ c.refused.ensures

pub packed_split-requires : goal.packed_split-requires
packed_split-requires c = record { split_fits = rw c.split-answer.ensures.answer (split_fits c.args.count _ c.args.limit (columns_of c.args.xs.now c.args.ys.now c.args.ws.now) (length c.args.sums.now) _); in_bounds = c.if-total-lt1.false }

pub returns : goal.returns
returns c = rw (← c.listed-settings.ensures)
    (split_packed _ _ _ _ (le-ltb _ _ c.if-total-lt1.false) _ _ c.split-answer.ensures c.packed_split.ensures.0 c.packed_split.ensures.1)
