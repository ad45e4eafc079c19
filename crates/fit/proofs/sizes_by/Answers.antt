-- `fit::sizes_by` meets its contract.
use Prim.Native.Nat.{ℕ, ◌/◌}
use mathlib.Core.Path.{◌≡◌, refl, sym, ◌∙◌}
use mathlib.Core.Bool.{true, ◌&&◌}
use native.Mathlib.Omega.{arith}
use borrow.Author.Rules.{rules}
use lib.ListN.{length, length-set}
use lib.Ieee.{nan}
use Rattle.loops.specs.Fold.{fold}
use Rattle.loops.specs.FoldLaws.{fold_table, fold_two}
use Rattle.loops.specs.Places.{each, table}
use Rattle.loops.specs.PlaceLaws.{each_again, each_two}
use Rattle.value.specs.Finite.{finite}
use Rattle.value.specs.Absolute.{abs_f}
use Rattle.monomial.specs.Rows.{Row, row_at, rows_at}
use Rattle.monomial.specs.Reading.{rows_read}
use Rattle.fit.specs.Residuals.{residual}
use Rattle.fit.specs.ResidualLaws.{sizes_written, every_residual}
use Rattle.fit.proofs.sizes_by.Goals as goal

pub loop-p-init : goal.loop-p-init
unfolding each fold rows_at table
loop-p-init c = (refl, refl, refl)

pub loop-p-preserved : goal.loop-p-preserved
unfolding rows_at
loop-p-preserved c =
    let row : ℕ → Row = row_at c.args.rows.basis c.args.rows.xs.now c.args.rows.zs.now c.args.rows.ys.now in (
      simp length-set c.loop-p.invariant.0,
      rw (c.pair_abs-s.ensures, c.pair_residuals-r.ensures, c.pair_coefficients-both.ensures.first, c.pair_coefficients-both.ensures.second, c.loop-p.invariant.1) (each_two (λ t. abs_f (residual c.args.k.0 c.args.c.now (row t))) c.loop-p.p _ nan (omega arith)),
      rw (c.is_finite.ensures, c.is_finite-in-loop-p.ensures, c.pair_residuals-r.ensures, c.pair_coefficients-both.ensures.first, c.pair_coefficients-both.ensures.second, c.loop-p.invariant.2) (sym (fold_two (λ b (r : Row). b && finite (residual c.args.k.0 c.args.c.now r)) true row c.loop-p.p)),
    )

pub loop-i-init : goal.loop-i-init
loop-i-init c =
    let z : c.loop-p.p ≡ c.len-n.result / 2 = omega arith in
    (omega arith, c.loop-p.invariant.0, rw (← z) c.loop-p.invariant.1, rw (← z) c.loop-p.invariant.2)

pub loop-i-preserved : goal.loop-i-preserved
unfolding rows_at row_at
loop-i-preserved c = (
  search rules,
  simp length-set c.loop-i.invariant.1,
  rw (c.abs.ensures, c.residual-r.ensures, c.loop-i.invariant.2) (each_again (λ t _. abs_f (residual c.args.k.0 c.args.c.now (row_at c.args.rows.basis c.args.rows.xs.now c.args.rows.zs.now c.args.rows.ys.now t))) c.loop-i.i _ nan (search rules)),
  rw (c.is_finite-all.ensures, c.residual-r.ensures, c.loop-i.invariant.3) (sym (fold_table (λ b (r : Row). b && finite (residual c.args.k.0 c.args.c.now r)) true (row_at c.args.rows.basis c.args.rows.xs.now c.args.rows.zs.now c.args.rows.ys.now) c.loop-i.i)),
)

pub returns : goal.returns
returns c =
    let z : c.loop-i.i ≡ length c.args.rows.ys.now = omega arith in record { is = (rw z at c.loop-i.invariant.3) ∙ every_residual finite c.args.k.0 c.args.c.now (rows_read c.args.rows); written = (rw z at c.loop-i.invariant.2) ∙ sizes_written c.args.k.0 c.args.c.now c.args.rows.basis (length c.args.rows.ys.now) c.args.rows.xs.now c.args.rows.zs.now c.args.rows.ys.now _ (search rules) }
