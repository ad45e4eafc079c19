-- `basis::Degree::k` meets its contract.
use Prim.Native.Nat.{◌+◌, ◌≤◌}
use native.Mathlib.Nat.{mul-le-mul}
use native.Mathlib.Omega.{arith}
use Rattle.basis.specs.Counts.{count_of}
use Rattle.basis.proofs.Degree.k.Goals as goal

pub overflow_mul-result : goal.overflow_mul-result
overflow_mul-result c =
    let d = c.args.self.0 in
    let p : d + 1 ≤ 16 = omega arith in
    let q : d + 2 ≤ 17 = omega arith in
    omega (arith, mul-le-mul p q)

pub returns-in-Curve : goal.returns-in-Curve
unfolding count_of
returns-in-Curve c = rw c.in-Curve.is

pub returns-in-Surface : goal.returns-in-Surface
unfolding count_of
returns-in-Surface c = rw c.in-Surface.is
