-- `listing::write_losses` meets its contract.
use mathlib.Core.Path.{ap, ◌∙◌}
use mathlib.Core.List.{◌++◌}
use native.Mathlib.Omega.{arith}
use lib.Ieee.{nan}
use Rattle.std.proofs.lemmas.List.{get_or-take, length-take}
use Rattle.listing.specs.Listing.{loss_line, loss_lines, loss_listing}
use Rattle.listing.specs.ListingLaws.{loss_none, loss_again}
use Rattle.listing.specs.WritingLaws.{wrote_none, wrote_same, then}
use Rattle.listing.proofs.write_losses.Goals as goal

pub loop-i-init : goal.loop-i-init
loop-i-init c = wrote_same (loss_none c.args.losses.now) (wrote_none c.args.w.now (omega arith))

pub loop-i-preserved : goal.loop-i-preserved
loop-i-preserved c =
    let ls = c.args.losses.now in
    let i = c.loop-i.i in
    let v = get_or-take c.min.result ls i nan (omega (arith, length-take c.min.result ls)) in
    wrote_same (ap (λ x. loss_lines i ls ++ loss_line i x) v ∙ loss_again i ls) (then (omega arith) c.loop-i.invariant (λ _. c.put_loss_line.ensures))

pub returns : goal.returns
unfolding loss_listing
returns c =
    let ls = c.args.losses.now in
    then (omega arith) (wrote_same (ap (λ k. loss_lines k ls) (omega (arith, length-take c.min.result ls))) c.loop-i.invariant) (λ _. c.put_total.ensures)
