-- `capi::stakebook_scores` meets its contract.
use mathlib.Core.Path.{refl}
use borrow.Author.Tests.{lt-ltb, le-ltb}
use Rattle.samples.specs.Columns.{columns_of}
use Rattle.capi.specs.ScoresFitting.{scores_fits}
use Rattle.capi.proofs.Promises.{scores_short, scores_packed}
use Rattle.capi.proofs.stakebook_scores.Goals as goal

pub returns-then-least-lt1 : goal.returns-then-least-lt1
returns-then-least-lt1 c = scores_short _ _ _ _ _ _ (lt-ltb _ _ c.if-least-lt1.true) refl refl refl refl _ c.refused.ensures

pub packed_scores-requires : goal.packed_scores-requires
packed_scores-requires c = record { scores_fits = rw c.scores-answer.ensures.answer (scores_fits c.args.count _ (columns_of c.args.xs.now c.args.ys.now c.args.ws.now) c.args.sums.now c.args.scratch.now c.args.solved.now c.args.scores.now); in_bounds = c.if-least-lt1.false }

pub returns : goal.returns
returns c = rw (← c.listed-settings.ensures)
    (scores_packed _ _ _ _ _ _ (le-ltb _ _ c.if-least-lt1.false) _ _ c.scores-answer.ensures c.packed_scores.ensures.0 c.packed_scores.ensures.1)
