-- `capi::stakebook_group_split` meets its contract.
use mathlib.Core.Path.{refl}
use borrow.Author.Tests.{lt-ltb, le-ltb}
use lib.ListN.{length}
use Rattle.samples.specs.Columns.{columns_of}
use Rattle.capi.specs.GroupFitting.{group_split_fits}
use Rattle.capi.proofs.Promises.{split_charged_short, split_charged_packed}
use Rattle.capi.proofs.stakebook_group_split.Goals as goal

pub returns-then-total-lt1 : goal.returns-then-total-lt1
returns-then-total-lt1 c = split_charged_short _ _ _ _ _ (lt-ltb _ _ c.if-total-lt1.true) (record { answer = refl; scratch = refl; before = refl; after = refl }) refl refl _ c.refused.ensures

pub packed_split-requires : goal.packed_split-requires
packed_split-requires c = record { split_fits = rw c.group_split-answer.ensures.does.answer (group_split_fits c.args.group c.args.table.now c.args.count _ (columns_of c.args.xs.now c.args.ys.now c.args.ws.now) (length c.args.sums.now) _); in_bounds = c.if-total-lt1.false }

pub returns : goal.returns
returns c = rw (← c.listed-settings.ensures) (split_charged_packed _ _ _ _ _ (le-ltb _ _ c.if-total-lt1.false) _ _ c.group_split-answer.ensures c.packed_split.ensures.0 c.packed_split.ensures.1)
