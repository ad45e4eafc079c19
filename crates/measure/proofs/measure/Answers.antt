-- `measure::measure` meets its contract.
use Rattle.std.proofs.Common.{sym, ap, ◌∙◌, refl, arith, lt-ltb, le-ltb, ltb, rules}
use Rattle.std.proofs.lemmas.Bool.{not-false, not-true}
use Rattle.solve.specs.Solve.{Inverted}
use Rattle.solve.specs.declared.Solved.{Solved}
use Rattle.measure.specs.MeasureLaws.{measure_unsolved, measure_failed, measure_whole, measured_refused, measured_whole, measured_covariance}
use Rattle.measure.proofs.measure.Goals as goal

pub returns-then-not-judged : goal.returns-then-not-judged
returns-then-not-judged c =
    record {
      measured_is = measured_refused _ _ _ 10 (measure_unsolved _ _ _ (sym c.judged.ensures.solved ∙ not-true _ c.if-not-judged.true)) (λ z. absurd (omega (arith, z)));
      kept = (refl, refl);
      within = c.judged.ensures.within;
    }

pub returns-then-put_inverse-k : goal.returns-then-put_inverse-k
returns-then-put_inverse-k c =
    let solved = sym c.judged.ensures.solved ∙ not-false _ c.if-not-judged.false in
    let fails = ap (λ (v : Inverted). ltb v.columns c.args.k.0) (sym c.put_inverse.ensures.is) ∙ lt-ltb _ _ c.if-put_inverse-k.true in
    record {
      measured_is = measured_refused _ _ _ 12 (measure_failed _ _ _ solved fails) (λ z. absurd (omega (arith, z)));
      kept = (refl, c.put_inverse.ensures.kept c.if-put_inverse-k.true);
      within = c.judged.ensures.within;
    }

pub returns : goal.returns
returns c =
    let solved = sym c.judged.ensures.solved ∙ not-false _ c.if-not-judged.false in
    let whole = measure_whole _ _ _ solved (ap (λ (v : Inverted). ltb v.columns c.args.k.0) (sym c.put_inverse.ensures.is) ∙ le-ltb _ _ c.if-put_inverse-k.false) in
    let covariance = measured_covariance _ _ _ _ _ _ _ c.put_inverse.ensures.is (c.judged.ensures.sizes solved) c.residual_variance-variance.ensures c.put_covariance.ensures in
    record { measured_is = measured_whole _ _ _ whole _ _ (ap (λ (s : Solved). s.c) c.requires.3) covariance; kept = search rules; within = c.judged.ensures.within }
