-- `score::aic` meets its contract.
use Rattle.std.proofs.Common.{ap, ◌∙◌}
use Rattle.score.specs.ScoreLaws.{aic_few, aic_many}
use Rattle.value.specs.Logarithm.{ln_f}
use Rattle.score.proofs.aic.Goals as goal

pub returns-then-nf-kf : goal.returns-then-nf-kf
returns-then-nf-kf c = aic_few c.args.n c.args.k c.args.total _ _ _ c.nearest_u64_to_f64-nf.ensures c.nearest_u64_to_f64-kf.ensures (c.ln.ensures ∙ ap ln_f c.likelihood.ensures) c.if-nf-kf.true

pub returns : goal.returns
returns c = aic_many c.args.n c.args.k c.args.total _ _ _ c.nearest_u64_to_f64-nf.ensures c.nearest_u64_to_f64-kf.ensures (c.ln.ensures ∙ ap ln_f c.likelihood.ensures) c.if-nf-kf.false
