-- `listing::writing::Writer::hex` meets its contract.
use mathlib.Core.Path.{sym, ap, ◌∙◌}
use mathlib.Core.List.{[], ◌∷◌, ◌++◌}
use native.Mathlib.Omega.{arith}
use lib.ListN.{take}
use lib.Seq.{take_all}
use Rattle.std.proofs.lemmas.List.{take_more}
use Rattle.listing.specs.Text.{glyph, hexadecimal}
use Rattle.listing.specs.TextLaws.{length_hexadecimal}
use Rattle.listing.specs.WritingLaws.{wrote_same, then}
use Rattle.listing.proofs.Hexadecimal.{hex_at}
use Rattle.listing.proofs.writing.Writer.hex.Goals as goal

pub loop-i-preserved : goal.loop-i-preserved
loop-i-preserved c =
    let n = c.args.n in
    let i = c.loop-i.i in
    let e = ap (λ z. take i (hexadecimal n) ++ (z ∷ [])) (hex_at n i (omega arith)) ∙ sym (take_more (hexadecimal n) i (glyph 0) (omega (arith, length_hexadecimal n))) in
    wrote_same e (then (omega arith) c.loop-i.invariant (λ _. c.byte.ensures))

pub returns : goal.returns
returns c = wrote_same (take_all c.loop-i.i (hexadecimal c.args.n) (omega (arith, length_hexadecimal c.args.n))) c.loop-i.invariant
