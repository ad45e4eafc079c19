-- `solve::columns::put_identity` meets its contract. The loop's invariant: the definition from here on is the definition at the start.
use Rattle.std.proofs.Common.{◌≡◌, ◌+◌, ◌*◌, set}
use Rattle.loops.specs.Loop.{from}
use Rattle.value.specs.Numbers.{one_f}
use Rattle.solve.proofs.columns.put_identity.Given as goal

abbrev pub invariant-loop-i : goal.invariant-loop-i
invariant-loop-i l = from (λ c t. set t (16 * c + c) one_f) l.i l.fn.k.0 l.v ≡ from (λ c t. set t (16 * c + c) one_f) 0 l.fn.k.0 l.initial.v
