-- `value::scaled_root` meets its contract.
use Rattle.std.proofs.Common.{◌≡◌, ℕ, ◌+◌, ◌-◌, ◌*◌, ◌/◌, ◌^◌, ◌<◌, ◌≤◌, ap, ◌∙◌, arith}
use lib.Ieee.{binary64, of_bits}
use Rattle.value.specs.Root.{closest_root}
use Rattle.value.proofs.SquareRoot.Packing.{closest_high, even_root, odd_root}
use Rattle.value.proofs.square_root.scaled_root.Goals as goal
use Rattle.value.proofs.square_root.scaled_root.Goals.{then-j-eq0, else-j-eq0, After-closest_root}

high : (c : After-closest_root) → c.closest_root.result ≤ 2 ^ 53
high c =
    let short : c.if-j-eq0.m < 2 ^ 54 = elim c.if-j-eq0.branch [ then-j-eq0 w ↦ omega arith | else-j-eq0 w ↦ omega arith ] in
    rw c.closest_root.ensures (closest_high (c.if-j-eq0.m * 2 ^ 52) (omega arith))

pub overflow_add-result : goal.overflow_add-result
overflow_add-result c = omega (arith, high c)

pub returns-clause-is : goal.returns-clause-is
returns-clause-is c =
    let a = c.args in
    let k = a.j / 2 - 26 in
    let p = c.requires in
    let is : (m : ℕ) → c.if-j-eq0.m ≡ m → of_bits binary64 (k * 2 ^ 52 + c.closest_root.result) ≡ of_bits binary64 (k * 2 ^ 52 + closest_root (m * 2 ^ 52)) =
    λ m e. ap (λ (r : ℕ). of_bits binary64 (k * 2 ^ 52 + r)) (c.closest_root.ensures ∙ ap (λ (x : ℕ). closest_root (x * 2 ^ 52)) e) in
    elim c.if-j-eq0.branch [
      | then-j-eq0 w ↦ is a.c w.m-is ∙ even_root a.c a.j k p.0 p.1 (omega arith) (omega arith)
      | else-j-eq0 w ↦ is (a.c * 2) w.m-is ∙ odd_root a.c a.j k p.0 p.1 (omega arith) (omega arith)
    ]

pub returns-clause-small : goal.returns-clause-small
returns-clause-small c = omega (arith, high c)
