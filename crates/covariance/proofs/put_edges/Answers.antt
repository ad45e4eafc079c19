-- `covariance::put_edges` meets its contract. The loop's invariant: the places passed are written, from what stood where it began, and count is their number
-- of ones.
use mathlib.Core.Path.{◌≡◌, refl, sym, ap, ap₂, ◌∙◌}
use Prim.Native.Nat.{◌+◌}
use native.Mathlib.Nat.{le_refl}
use native.Mathlib.Omega.{arith}
use borrow.Author.Rules.{rules}
use lib.Ieee.{nan}
use lib.ListN.{length, length-set}
use Rattle.loops.specs.Fold.{fold}
use Rattle.loops.specs.Places.{each, table}
use Rattle.covariance.specs.declared.Band.{Band}
use Rattle.covariance.specs.Marks.{ones}
use Rattle.covariance.specs.MarkLaws.{mark_byte, mark_at_most, ones_again}
use Rattle.covariance.specs.BandsFrom.{band_by, band_from, outlier_from}
use Rattle.covariance.proofs.Rows.{written, written_again, written_later}
use Rattle.covariance.proofs.put_edges.Goals as goal

pub loop-i-init : goal.loop-i-init
unfolding written each ones fold table
loop-i-init c = (search rules, search rules, refl, refl, refl, refl, refl, refl, refl)

pub overflow_add-count : goal.overflow_add-count
overflow_add-count c = omega (arith, c.from-count.ensures, mark_at_most c.outlies-is_outlier.result, c.loop-i.invariant.1)

pub loop-i-preserved : goal.loop-i-preserved
unfolding band_from outlier_from
loop-i-preserved c =
    let l = c.loop-i-test.true in
    let i = c.loop-i.i in
    let band : c.band_by-band.result ≡ band_from c.args.spread.tolerance c.args.spread.z c.args.lower.now c.args.upper.now i = c.band_by-band.ensures ∙ ap₂ (band_by c.args.spread.tolerance c.args.spread.z) (written_later _ i i _ _ nan (le_refl i) c.loop-i.invariant.4) (written_later _ i i _ _ nan (le_refl i) c.loop-i.invariant.6) in
    let at = outlier_from c.args.spread.tolerance c.args.spread.z c.args.lower.now c.args.upper.now c.args.ys.now in
    let o : c.from.result ≡ at i = c.from.ensures ∙ mark_byte _ ∙ rw (c.outlies-is_outlier.ensures, band) in
    let m : c.from-count.result ≡ at i = c.from-count.ensures ∙ mark_byte _ ∙ rw (c.outlies-is_outlier.ensures, band) in (
      search rules,
      omega (arith, c.from-count.ensures, mark_at_most c.outlies-is_outlier.result, c.loop-i.invariant.1),
      ap₂ ◌+◌ c.loop-i.invariant.2 m ∙ sym (ones_again _ i),
      simp length-set c.loop-i.invariant.3,
      written_again _ i _ _ _ c.loop-i.invariant.4 (ap (λ (b : Band). b.lower) band) (omega (arith, l, c.requires.0)),
      simp length-set c.loop-i.invariant.5,
      written_again _ i _ _ _ c.loop-i.invariant.6 (ap (λ (b : Band). b.upper) band) (omega (arith, l, c.requires.1)),
      simp length-set c.loop-i.invariant.7,
      written_again _ i _ _ _ c.loop-i.invariant.8 o (omega (arith, l, c.requires.2)),
    )

pub returns : goal.returns
unfolding written
returns c =
    let z : c.loop-i.i ≡ length c.args.ys.now = omega arith in record { value = rw z at c.loop-i.invariant.2; lower_after = rw z at c.loop-i.invariant.4; upper_after = rw z at c.loop-i.invariant.6; outlier_after = rw z at c.loop-i.invariant.8 }
