-- `replay::change` meets its contract.
use Rattle.samples.specs.Columns.{columns_of}
use Rattle.replay.proofs.Calling.{change_adds, change_corrects, change_withdraws}
use Rattle.replay.proofs.change.Goals as goal

pub returns-then-kind-eq0 : goal.returns-then-kind-eq0
returns-then-kind-eq0 c settings places = change_adds c.args.kind c.args.index c.args.sample.x c.args.sample.y c.args.sample.w settings places c.args.book.count (columns_of c.args.xs.now c.args.ys.now c.args.ws.now) c.args.sums.now _ _ _ _ c.record_change.ensures c.if-kind-eq0.true c.add-a.ensures

pub returns-then-kind-eq1 : goal.returns-then-kind-eq1
returns-then-kind-eq1 c settings places = change_corrects c.args.kind c.args.index c.args.sample.x c.args.sample.y c.args.sample.w settings places c.args.book.count (columns_of c.args.xs.now c.args.ys.now c.args.ws.now) c.args.sums.now _ _ _ _ c.record_change-then-kind-eq1.ensures c.if-kind-eq1.true c.correct-a.ensures

pub returns : goal.returns
returns c settings places = change_withdraws c.args.kind c.args.index c.args.sample.x c.args.sample.y c.args.sample.w settings places c.args.book.count (columns_of c.args.xs.now c.args.ys.now c.args.ws.now) c.args.sums.now _ _ _ _ c.record_change-2.ensures (c.requires) c.if-kind-eq0.false c.if-kind-eq1.false c.withdraw-a.ensures
