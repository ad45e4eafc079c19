-- `listing::writing::Writer::text` meets its contract.
use mathlib.Core.Path.{sym}
use native.Mathlib.Omega.{arith}
use Rattle.std.proofs.lemmas.List.{take_more}
use Rattle.listing.specs.WritingLaws.{then, wrote_same}
use Rattle.listing.proofs.writing.Writer.text.Goals as goal

pub loop-b-preserved : goal.loop-b-preserved
loop-b-preserved c = wrote_same (sym (take_more c.args.text.now c.loop-b.b-index 0 (omega arith))) (then (omega arith) c.loop-b.invariant (λ _. c.byte.ensures))
