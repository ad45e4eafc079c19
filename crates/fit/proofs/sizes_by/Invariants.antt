-- `fit::sizes_by` meets its contract.
use mathlib.Core.Path.{◌≡◌}
use Prim.Native.Nat.{◌*◌, ◌≤◌}
use lib.ListN.{length}
use Rattle.loops.specs.Fold.{all_of}
use Rattle.loops.specs.Places.{each}
use Rattle.value.specs.Finite.{finite}
use Rattle.value.specs.Absolute.{abs_f}
use Rattle.monomial.specs.Rows.{Row, row_at, rows_at}
use Rattle.fit.specs.Residuals.{residual}
use Rattle.fit.proofs.sizes_by.Given as goal

abbrev pub invariant-loop-p : goal.invariant-loop-p
invariant-loop-p l = (length l.scratch ≡ length l.initial.scratch) × (l.scratch ≡ each (λ t _. abs_f (residual l.k.0 l.c (row_at l.rows.basis l.rows.xs.now l.rows.zs.now l.rows.ys.now t))) (2 * l.p) l.initial.scratch)
    × (l.all ≡ all_of (λ (r : Row). finite (residual l.k.0 l.c r)) (rows_at l.rows.basis (2 * l.p) l.rows.xs.now l.rows.zs.now l.rows.ys.now))

abbrev pub invariant-loop-i : goal.invariant-loop-i
invariant-loop-i l = (l.i ≤ (length l.rows.ys.now)) × (length l.scratch ≡ length l.fn.scratch) × (l.scratch ≡ each (λ t _. abs_f (residual l.k.0 l.c (row_at l.rows.basis l.rows.xs.now l.rows.zs.now l.rows.ys.now t))) l.i l.fn.scratch)
    × (l.all ≡ all_of (λ (r : Row). finite (residual l.k.0 l.c r)) (rows_at l.rows.basis l.i l.rows.xs.now l.rows.zs.now l.rows.ys.now))
