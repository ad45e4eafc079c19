-- `statistics::residual_variance` meets its contract. The contracts of the callees are put into the definition.
use Rattle.statistics.specs.Variances.{residual_variance}
use Rattle.statistics.proofs.residual_variance.Goals as goal

pub returns-then-nf-kf : goal.returns-then-nf-kf
unfolding residual_variance
returns-then-nf-kf c = rw (← c.nearest_usize_to_f64-nf.ensures, ← c.nearest_usize_to_f64-kf.ensures, c.if-nf-kf.true)

pub returns : goal.returns
unfolding residual_variance
returns c = rw (← c.nearest_usize_to_f64-nf.ensures, ← c.nearest_usize_to_f64-kf.ensures, c.if-nf-kf.false, c.squares.ensures)
