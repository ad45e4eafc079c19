-- `covariance::put_values_by` meets its contract. The loop's invariant: the places passed are written.
use Prim.Native.Nat.{◌/◌}
use mathlib.Core.Path.{◌≡◌, refl, ◌∙◌}
use native.Mathlib.Omega.{arith}
use borrow.Author.Rules.{rules}
use lib.ListN.{length, length-set}
use Rattle.loops.specs.Places.{each}
use Rattle.covariance.proofs.Rows.{written, written_again, written_two}
use Rattle.covariance.proofs.put_values_by.Goals as goal

pub loop-p-init : goal.loop-p-init
unfolding written each
loop-p-init c = (refl, refl, refl, refl)

pub loop-p-preserved : goal.loop-p-preserved
loop-p-preserved c =
    let l = c.loop-p-test.true in
    let t = c.pair_terms-terms.ensures in
    let b = c.pair_coefficients-both.ensures in
    let v = c.pair_fitted.ensures in
    let w = c.pair_prediction_variance.ensures in
    let p = c.loop-p.p in (
      simp length-set c.loop-p.invariant.0,
      written_two _ p _ _ _ _ c.loop-p.invariant.1 (rw (v, b.first, t.first)) (rw (v, b.second, t.second)) (omega (arith, l, c.requires.1)),
      simp length-set c.loop-p.invariant.2,
      written_two _ p _ _ _ _ c.loop-p.invariant.3 (rw (w, t.first)) (rw (w, t.second)) (omega (arith, l, c.requires.2)),
    )

pub loop-i-init : goal.loop-i-init
loop-i-init c =
    let z : c.loop-p.p ≡ c.len-n.result / 2 = omega arith in
    (omega arith, c.loop-p.invariant.0, rw (← z) c.loop-p.invariant.1, c.loop-p.invariant.2, rw (← z) c.loop-p.invariant.3)

pub loop-i-preserved : goal.loop-i-preserved
loop-i-preserved c =
    let l = c.loop-i-test.true in
    let terms = c.terms-terms.ensures in
    let i = c.loop-i.i in (
      search rules,
      simp length-set c.loop-i.invariant.1,
      written_again _ i _ _ _ c.loop-i.invariant.2 (c.fitted.ensures ∙ rw terms) (omega (arith, l, c.requires.1)),
      simp length-set c.loop-i.invariant.3,
      written_again _ i _ _ _ c.loop-i.invariant.4 (c.prediction_variance.ensures ∙ rw terms) (omega (arith, l, c.requires.2)),
    )

pub returns : goal.returns
unfolding written
returns c =
    let z : c.loop-i.i ≡ length c.args.rows.ys.now = omega arith in record { values_after = rw z at c.loop-i.invariant.2; variances_after = rw z at c.loop-i.invariant.4 }
