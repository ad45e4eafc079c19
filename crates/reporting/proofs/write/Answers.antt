-- `reporting::write` meets its contract.
use Rattle.monomial.specs.Reading.{rows_read}
use Rattle.monomial.specs.ReadingLaws.{length_rows_read, ys_read}
use mathlib.Core.Path.{◌≡◌, ap}
use mathlib.Core.List.{◌++◌}
use borrow.Author.Rules.{rules}
use lib.ListN.{length, take, drop}
use lib.Seq.{length-take-le}
use Rattle.reporting.proofs.Writing.{writes_is}
use Rattle.reporting.proofs.write.Goals as goal

pub returns : goal.returns
returns c =
    let cut : length (take c.term_places-places.result c.args.memory.pruned.now) ≡ c.term_places-places.result = length-take-le _ _ (search rules) in
    let n = (length c.args.rows.ys.now) in
    let rows = rows_read c.args.rows in
    writes_is c.args.rows.basis n c.args.settings rows c.args.degree.0 c.args.solved c.args.c.now c.args.v.now
    c.term_places-places.result c.term_places-places.ensures.is
    c.k-k.result.0 c.k-k.ensures (length_rows_read c.args.rows)
    c.t_score-t.result c.z_score-z.result c.deviation_read-sd.result c.errors-e.result c.t_score-t.ensures c.z_score-z.ensures
    (rw (ys_read c.args.rows) c.deviation_read-sd.ensures) c.errors-e.ensures
    c.put_bands-marks.result c.put_pruned-terms.result _ _ c.put_bands-marks.ensures.counted (rw cut at c.put_pruned-terms.ensures.counted) c.clear.ensures c.put_first.ensures c.put_first-2.ensures (ap (λ l. l ++ drop c.term_places-places.result c.args.memory.pruned.now) (rw cut at c.put_pruned-terms.ensures.written)) c.put_bands-marks.ensures.lowers c.put_bands-marks.ensures.uppers c.put_bands-marks.ensures.bytes
