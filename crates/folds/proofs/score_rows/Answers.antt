-- `folds::score_rows` meets its contract: the sizes of residuals have the residuals' losses.
use Rattle.std.proofs.Common.{◌≡◌, ◌++◌, map, length, ap, ◌∙◌, arith}
use Rattle.std.proofs.lemmas.List.{length-map, drop_all, append-nil}
use Rattle.value.specs.Absolute.{abs_f}
use Rattle.value.specs.Total.{total_f}
use Rattle.statistics.specs.Losses.{losses}
use Rattle.statistics.specs.LossLaws.{losses_sizes}
use Rattle.score.specs.Score.{score_of}
use Rattle.monomial.specs.Reading.{rows_read}
use Rattle.monomial.specs.ReadingLaws.{length_rows_read}
use Rattle.fit.specs.Residuals.{residual, residuals}
use Rattle.folds.proofs.score_rows.Goals as goal

pub returns-clause-scored : goal.returns-clause-scored
unfolding residuals
returns-clause-scored c =
    let k = c.args.k.0 in
    let rs = residuals k c.args.c.now (rows_read c.args.rows) in
    let n = length c.args.rows.ys.now in
    let written : c.sizes.new.scratch ≡ map abs_f rs =
    c.sizes.ensures.written ∙ ap (λ l. map abs_f rs ++ l) (drop_all n c.args.scratch.now (omega (arith, c.requires.0))) ∙ append-nil (map abs_f rs) in
    let long : length c.sizes.new.scratch ≡ length c.args.scratch.now =
    ap length written ∙ length-map rs abs_f ∙ length-map (rows_read c.args.rows) (residual k c.args.c.now) ∙ length_rows_read c.args.rows ∙ c.requires.0 in
    c.score_on.ensures ∙ ap (λ m. score_of c.args.criterion m k (total_f (losses c.sizes.new.scratch))) long
    ∙ ap (λ l. score_of c.args.criterion (length c.args.scratch.now) k (total_f l)) (ap losses written ∙ losses_sizes rs)
