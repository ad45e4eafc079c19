-- `value::abs` meets its contract: the library's definition is the same.
use Rattle.std.proofs.Common.{◌≡◌, false, refl, ◌∙◌}
use Rattle.std.specs.Float.{float_with_sign}
use lib.Ieee.{Float, nan, inf, fin}
use Rattle.value.specs.Absolute.{abs_f}
use Rattle.value.proofs.abs.Goals as goal

same : (x : Float) → float_with_sign false x ≡ abs_f x
unfolding float_with_sign abs_f
same nan = refl
same (inf s) = refl
same (fin s m e) = refl

pub returns : goal.returns
returns c = c.abs.ensures.value ∙ same c.args.x
