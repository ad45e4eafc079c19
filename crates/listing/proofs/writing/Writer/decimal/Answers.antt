-- `listing::writing::Writer::decimal` meets its contract.
use mathlib.Core.Path.{◌∙◌}
use Rattle.listing.specs.WritingLaws.{wrote_same}
use Rattle.listing.proofs.Spelled.{decimal_spelled}
use Rattle.listing.proofs.writing.Writer.decimal.Goals as goal

pub returns : goal.returns
returns c = wrote_same (c.as_bytes.ensures.value ∙ c.format.ensures.text ∙ decimal_spelled c.args.n c.ranges.n.fits) c.text.ensures
