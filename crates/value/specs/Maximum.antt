-- Document 01's maximum. Definitions only.
use Rattle.std.specs.Prelude.{cond, is_nan, Float}
use Rattle.std.specs.Float.Ieee.{lt}

-- Maximum: the larger, or the other one beside a NaN. Of two that are equal, as +0 and −0, the first.
unfoldable pub maximum_f : Float → Float → Float
maximum_f a b = cond (is_nan a) b (cond (is_nan b) a (cond (lt a b) b a))
