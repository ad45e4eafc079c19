-- `score::score` meets its contract.
use Rattle.std.proofs.Common.{sym, ap, ◌∙◌, eq-eqb, ne_eqb}
use Rattle.value.specs.Nan.{made_nan}
use Rattle.score.specs.Score.{score_by, score_of}
use Rattle.score.specs.declared.Criterion.{Criterion}
use Rattle.score.proofs.score.Goals as goal

pub returns-then-n-eq0 : goal.returns-then-n-eq0
unfolding score_of
returns-then-n-eq0 c = rw (eq-eqb c.args.n 0 c.if-n-eq0.true) made_nan

pub returns-in-Aic : goal.returns-in-Aic
unfolding score_of score_by
returns-in-Aic c = rw (ne_eqb c.args.n 0 c.if-n-eq0.false) (c.aic.ensures ∙ sym (ap (λ (t : Criterion). score_by t c.args.n c.args.k.0 c.args.total) c.in-Aic.is))

pub returns-in-Bic : goal.returns-in-Bic
unfolding score_of score_by
returns-in-Bic c = rw (ne_eqb c.args.n 0 c.if-n-eq0.false) (c.bic.ensures ∙ sym (ap (λ (t : Criterion). score_by t c.args.n c.args.k.0 c.args.total) c.in-Bic.is))
