-- `replay::all_fit` meets its contract.
use mathlib.Core.Path.{◌≡◌, refl, sym, ap, ◌∙◌}
use mathlib.Core.Bool.{true, ◌&&◌}
use native.Mathlib.Omega.{arith}
use Rattle.loops.specs.Fold.{fold}
use Rattle.loops.specs.FoldLaws.{fold_table}
use Rattle.loops.specs.Places.{table}
use Rattle.replay.specs.Records.{places_at, fits_in, all_fit}
use Rattle.replay.proofs.all_fit.Goals as goal

pub loop-k-init : goal.loop-k-init
unfolding all_fit fold table
loop-k-init c = (omega arith, refl)

pub places_at-p-requires : goal.places_at-p-requires
places_at-p-requires c = omega (arith, c.requires, c.loop-k-test.true)

pub loop-k-preserved : goal.loop-k-preserved
unfolding all_fit
loop-k-preserved c = (omega arith, ap (λ t. t && c.fits_in-fit.result) c.loop-k.invariant.1 ∙ ap (λ t. all_fit c.args.words.now c.args.width c.loop-k.k && t) (c.fits_in-fit.ensures ∙ ap (fits_in c.args.width) c.places_at-p.ensures) ∙ sym (fold_table (λ b p. b && fits_in c.args.width p) true (places_at c.args.words.now) c.loop-k.k))

pub returns : goal.returns
returns c =
    let e : c.loop-k.k ≡ c.args.m = omega (arith, c.loop-k.invariant.0, c.loop-k-test.false) in
    c.loop-k.invariant.1 ∙ ap (all_fit c.args.words.now c.args.width) e
