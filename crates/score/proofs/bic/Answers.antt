-- `score::bic` meets its contract.
use Rattle.std.proofs.Common.{ap, ◌∙◌}
use Rattle.score.specs.ScoreLaws.{bic_is}
use Rattle.value.specs.Logarithm.{ln_f}
use Rattle.score.proofs.bic.Goals as goal

pub returns : goal.returns
returns c = bic_is c.args.n c.args.k c.args.total _ _ _ c.nearest_u64_to_f64-nf.ensures c.nearest_u64_to_f64-kf.ensures (c.ln.ensures ∙ ap ln_f c.likelihood.ensures) _ c.ln-2.ensures
