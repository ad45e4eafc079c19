-- `split::choose_sides` meets its contract.
use mathlib.Core.Path.{◌≡◌, sym, ap, ◌∙◌}
use Prim.Native.Nat.{◌-◌}
use native.Mathlib.Omega.{arith}
use lib.ListN.{length}
use Rattle.loops.specs.WithinLaws.{within_then, within_more}
use Rattle.basis.specs.Counts.{count_of}
use Rattle.basis.specs.CountLaws.{curve_count}
use Rattle.basis.specs.declared.Basis.TheVariants.{Curve}
use Rattle.monomial.specs.Rows.{rows_in}
use Rattle.monomial.specs.Reading.{rows_read, weighted_read}
use Rattle.monomial.specs.ReadingLaws.{length_read, rows_in_read, weighted_from}
use Rattle.fit.specs.Chosen.{choice_of, counts_of}
use Rattle.statistics.specs.Degrees.{max_degree}
use Rattle.split.proofs.Corners.{left_most, right_most, left_is, right_is}
use Rattle.split.proofs.choose_sides.Goals as goal

pub choose_side-left-requires : goal.choose_side-left-requires
choose_side-left-requires c =
    let r = c.args.rows in
    let q = c.requires.b_in_bounds in
    let first : length c.part.result.ys.now ≡ c.args.b = omega (arith, c.part.ensures.long) in
    (c.part.ensures.same ∙ q.0, omega (arith, c.part.ensures.long, q.1, q.2), omega (arith, c.requires.left_sums.0), rw first (left_most c.args.bound c.args.criterion (weighted_read r) (length r.ys.now) c.args.b (length_read r) q.2 q.3))

pub k-requires : goal.k-requires
k-requires c =
    let r = c.args.rows in
    let q = c.requires.b_in_bounds in
    omega (arith, c.max_degree-most.ensures, right_most c.args.bound c.args.criterion (weighted_read r) (length r.ys.now) c.args.b (length_read r) q.2 q.3)

pub side_sums-own-requires : goal.side_sums-own-requires
side_sums-own-requires c =
    let r = c.args.rows in
    let q = c.requires.b_in_bounds in
    omega (arith, c.k.ensures ∙ curve_count c.max_degree-most.result.0, c.max_degree-most.ensures, right_most c.args.bound c.args.criterion (weighted_read r) (length r.ys.now) c.args.b (length_read r) q.2 q.3)

pub choose_side-right-requires : goal.choose_side-right-requires
choose_side-right-requires c =
    let r = c.args.rows in
    let q = c.requires.b_in_bounds in
    (c.part-later.ensures.same ∙ q.0, omega (arith, c.part-later.ensures.long, c.choose_side-left.ensures.within.long, q.1), omega (arith, c.side_sums-own.ensures.long), rw c.part-later.ensures.long (right_most c.args.bound c.args.criterion (weighted_read r) (length r.ys.now) c.args.b (length_read r) q.2 q.3))

pub returns : goal.returns
returns c =
    let r = c.args.rows in
    let n = length r.ys.now in
    let b = c.args.b in
    let q = c.requires.b_in_bounds in
    let first : length c.part.result.ys.now ≡ b = omega (arith, c.part.ensures.long) in
    let later = c.part-later.ensures.weighted ∙ weighted_from r b in
    let left_rows = sym (rows_in_read c.part.result) ∙ ap rows_in c.part.ensures.weighted in
    let right_rows = sym (rows_in_read c.part-later.result) ∙ ap rows_in later in
    record {
      left = left_is c.args.bound c.args.criterion (weighted_read r) n b (length_read r) q.2 q.3 _ c.args.sums.now _ left_rows c.requires.left_sums.0 c.requires.left_sums.1 (c.choose_side-left.ensures.is ∙ ap (λ m. choice_of c.args.criterion c.args.sums.now (rows_read c.part.result) (counts_of Curve (max_degree c.args.bound m))) first);
      right = right_is c.args.bound c.args.criterion (weighted_read r) n b (length_read r) q.2 q.3 c.k.result.0 _ c.side_sums-own.result _ right_rows (c.k.ensures ∙ ap (count_of Curve) c.max_degree-most.ensures) c.side_sums-own.ensures.long (rw later at c.side_sums-own.ensures.same) (c.choose_side-right.ensures.is ∙ ap (λ m. choice_of c.args.criterion c.side_sums-own.result (rows_read c.part-later.result) (counts_of Curve (max_degree c.args.bound m))) c.part-later.ensures.long);
      within = within_then (within_more b n _ _ q.2 (rw first at c.choose_side-left.ensures.within)) (within_more (n - b) n _ _ (omega (arith, q.2)) (rw c.part-later.ensures.long at c.choose_side-right.ensures.within));
    }
