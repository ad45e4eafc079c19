-- `value::square_root::put_roots` meets its contract. The loop's invariant: the places passed are roots.
use Rattle.std.proofs.Common.{◌≡◌, length}
use Rattle.loops.specs.Places.{each}
use Rattle.value.specs.Root.{root_f}
use Rattle.value.proofs.square_root.put_roots.Given as goal

abbrev pub invariant-loop-i : goal.invariant-loop-i
invariant-loop-i l = (length l.v ≡ length l.fn.v) × (l.v ≡ each (λ _ x. root_f x) l.i l.fn.v)
