-- `folds::pass_fold` meets its contract.
use Rattle.std.proofs.Common.{length, arith, rules}
use Rattle.folds.specs.FoldLaws.{start_end, end_below}
use Rattle.folds.proofs.Others.{passed_same}
use Rattle.monomial.specs.Reading.{weighted_read}
use Rattle.folds.proofs.pass_fold.Goals as goal

pub part-requires : goal.part-requires
part-requires c =
    let l = start_end (length c.args.rows.ys.now) c.args.folds c.args.f (search rules) in
    let g = end_below (length c.args.rows.ys.now) c.args.folds c.args.f (search rules) in
    (omega (arith, l, c.start_of-start.ensures, c.end_of-end.ensures), omega (arith, g, c.end_of-end.ensures))

pub returns : goal.returns
returns c =
    passed_same c.args.k.0 (search rules) (weighted_read c.args.rows) c.args.before.now _ (search rules) (length c.args.rows.ys.now) c.args.folds c.args.f _ _ (search rules) c.start_of-start.ensures c.requires.same_corner c.end_of-end.ensures
    (rw c.part.ensures.weighted at c.add_corner.ensures.corner)
