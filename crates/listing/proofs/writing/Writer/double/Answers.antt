-- `listing::writing::Writer::double` meets its contract.
use mathlib.Core.Path.{ap}
use mathlib.Core.List.{◌∷◌}
use native.Mathlib.Omega.{arith}
use Rattle.listing.specs.Text.{hexadecimal, bits_of}
use Rattle.listing.specs.WritingLaws.{then, wrote_same}
use Rattle.listing.proofs.writing.Writer.double.Goals as goal

pub returns : goal.returns
unfolding bits_of
returns c = wrote_same (ap (λ z. 32 ∷ hexadecimal z) c.to_bits.ensures) (then (omega arith) c.byte.ensures (λ _. c.hex.ensures))
