-- `listing::write_listing` meets its contract.
use mathlib.Core.Path.{◌≡◌, sym, ap, ◌∙◌}
use mathlib.Core.List.{◌++◌}
use native.Mathlib.Omega.{arith}
use lib.ListN.{length}
use Rattle.std.proofs.lemmas.Iterator.{YieldsList-from_slice, YieldsList-from_zip, YieldsList-from_take}
use Rattle.std.proofs.lemmas.Iterator.Consumers.{YieldsList-from_enumerate, YieldsList-turn, YieldsList-end}
use Rattle.std.proofs.lemmas.List.{length_push}
use Rattle.basis.specs.CountLaws.{curve_count}
use Rattle.listing.specs.Text.{ascii}
use Rattle.listing.specs.Listing.{c_line, c_lines, c_count, listing}
use Rattle.listing.specs.ListingLaws.{c_none, c_again}
use Rattle.listing.specs.WritingLaws.{wrote_none, wrote_same, length_wrote, then}
use Rattle.listing.proofs.Pairs.{length_pairs, pair_at}
use Rattle.listing.proofs.write_listing.Goals as goal

pub loop-i-init : goal.loop-i-init
loop-i-init c = wrote_same (c_none c.args.coefficients.now c.args.errors.now) (wrote_none c.line-2.new.self (omega arith))

pub loop-i-preserved : goal.loop-i-preserved
loop-i-preserved c =
    let cs = c.args.coefficients.now in
    let es = c.args.errors.now in
    let n = c.saturating_add-terms.result in
    let i = length c.loop-i.yielded in
    let t = YieldsList-turn (YieldsList-from_enumerate (YieldsList-from_take n (YieldsList-from_zip (YieldsList-from_slice cs cc) (YieldsList-from_slice es cc)) (cc)) (cc))
    c.loop-i.yielded _ c.loop-i.yielded_by _ c.next.new.self _ c.in-Some.is c.next.ensures.steps in
    let p = pair_at n cs es i _ t.0 t.1 in
    wrote_same (ap (λ v. c_lines i cs es ++ c_line v.0 v.1.0 v.1.1) p ∙ c_again i cs es ∙ ap (λ k. c_lines k cs es) (sym (length_push c.loop-i.yielded _)))
    (then (omega (arith, length_wrote c.line.ensures, length_wrote c.line-2.ensures)) c.loop-i.invariant (λ _. c.put_c_line.ensures))

pub returns : goal.returns
unfolding listing ascii
returns c =
    let cs = c.args.coefficients.now in
    let es = c.args.errors.now in
    let n = c.saturating_add-terms.result in
    let i = length c.loop-i.yielded in
    let t = YieldsList-end (YieldsList-from_enumerate (YieldsList-from_take n (YieldsList-from_zip (YieldsList-from_slice cs cc) (YieldsList-from_slice es cc)) (cc)) (cc))
    c.loop-i.yielded _ c.loop-i.yielded_by _ c.next.new.self c.in-None.is c.next.ensures.steps in
    let k : i ≡ c_count c.args.degree.0 cs es = omega (arith, t.1, length_pairs n cs es, curve_count c.args.degree.0) in
    let l = wrote_same (ap (λ k. c_lines k cs es) k) c.loop-i.invariant in
    then (omega arith) c.line.ensures (λ h. then h c.line-2.ensures (λ j. then j l (λ m. then m c.line-3.ensures (λ _. c.line-4.ensures))))
