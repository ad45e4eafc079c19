-- `surface::last_tried` meets its contract. The invariant: the last one is that of the total degrees passed.
use Rattle.std.proofs.Common.{◌≡◌}
use Rattle.surface.specs.Surfaces.{last_tried}
use Rattle.surface.proofs.last_tried.Given as goal

abbrev pub invariant-loop-d : goal.invariant-loop-d
invariant-loop-d l = l.last.0 ≡ last_tried l.n l.d
