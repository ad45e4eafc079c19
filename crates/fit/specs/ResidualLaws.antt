-- Laws of Residuals.antt.
use Rattle.std.specs.Prelude.{◌≡◌, Bool, true, ◌&&◌, List, ◌++◌, map, ℕ, ◌≤◌, length, drop, Float}
use Rattle.std.proofs.Common.{sym, ap, ◌∙◌}
use Rattle.std.proofs.lemmas.Simd.{map-map}
use Rattle.loops.specs.Fold.{all_of}
use Rattle.loops.specs.FoldLaws.{fold_map}
use Rattle.loops.specs.Places.{each}
use Rattle.value.specs.Absolute.{abs_f}
use Rattle.basis.specs.declared.Basis.{Basis}
use Rattle.monomial.specs.Rows.{Row, row_at, rows_at}
use Rattle.monomial.specs.RowLaws.{each_rows_at}
use Rattle.fit.specs.Residuals.{residual, residuals}

-- n places are written: the sizes of the residuals of n rows
pub sizes_written : (k : ℕ) (c : List Float) (basis : Basis) (n : ℕ) (xs zs ys s : List Float) → n ≤ length s
    → each (λ t _. abs_f (residual k c (row_at basis xs zs ys t))) n s ≡ map abs_f (residuals k c (rows_at basis n xs zs ys)) ++ drop n s
unfolding residuals
sizes_written k c basis n xs zs ys s h =
    each_rows_at basis xs zs ys (λ r. abs_f (residual k c r)) n s h
    ∙ ap (λ l. l ++ drop n s) (sym (map-map abs_f (residual k c) (rows_at basis n xs zs ys)))

-- a test of every residual
pub every_residual : (f : Float → Bool) (k : ℕ) (c : List Float) (rows : List Row) → all_of (λ r. f (residual k c r)) rows ≡ all_of f (residuals k c rows)
unfolding residuals
every_residual f k c rows = sym (fold_map (λ b a. b && f a) (residual k c) true rows)
