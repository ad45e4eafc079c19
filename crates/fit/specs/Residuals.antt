-- Residuals, over rows of term values. Definitions only.
use Rattle.std.specs.Prelude.{List, map, ℕ, Float}
use Rattle.std.specs.Float.{binary64}
use Rattle.std.specs.Float.Ieee.{sub}
use Rattle.monomial.specs.Rows.{Row, fitted}

-- y − fitted value, by k coefficients
unfoldable pub residual : ℕ → List Float → Row → Float
residual k c r = sub binary64 r.y (fitted k c r.terms)

unfoldable pub residuals : ℕ → List Float → List Row → List Float
residuals k c rows = map (residual k c) rows
