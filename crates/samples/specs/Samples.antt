-- Samples. Definitions only.
use Rattle.std.specs.Prelude.{List, map, Float}
use Rattle.samples.specs.declared.Sample.{Sample}

abbrev pub xs_of : List Sample → List Float
xs_of ps = map (λ (p : Sample). p.x) ps

abbrev pub ys_of : List Sample → List Float
ys_of ps = map (λ (p : Sample). p.y) ps

abbrev pub ws_of : List Sample → List Float
ws_of ps = map (λ (p : Sample). p.w) ps
