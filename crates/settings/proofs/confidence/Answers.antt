-- `settings::confidence` meets its contract. Written out for one case, so that a wrong one is refused where two terms differ.
use Rattle.std.proofs.Common.{refl}
use Rattle.settings.specs.Numbers.{confidence_of}
use Rattle.settings.proofs.confidence.Goals as goal

pub returns-in-2 : goal.returns-in-2
unfolding confidence_of
returns-in-2 c = rw c.in-2.is refl
