-- `capi::stakebook_reader` meets its contract.
use mathlib.Core.Path.{ap, ◌∙◌}
use Rattle.capi.specs.Packed.{packed_opened}
use Rattle.capi.proofs.stakebook_reader.Goals as goal

pub returns : goal.returns
returns c = c.opened.ensures ∙ ap packed_opened c.reader.ensures
