-- `query::validate` meets its contract.
use Rattle.std.proofs.Common.{sym, ◌∙◌, arith}
use lib.Seq.{length-take-le}
use Rattle.basis.specs.Counts.{count_of}
use Rattle.basis.specs.CountLaws.{curve_count}
use Rattle.basis.specs.declared.Basis.TheVariants.{Curve}
use Rattle.samples.specs.Columns.{samples_of}
use Rattle.samples.specs.Held.{held}
use Rattle.monomial.specs.Rows.{weighted_rows}
use Rattle.lent.specs.WrittenLaws.{over_cleared}
use Rattle.refusal.specs.NamedLaws.{passed, refused_on}
use Rattle.choice.specs.Laws.{chosen}
use Rattle.folds.specs.Folds.{validated, validated_choice}
use Rattle.measure.proofs.Fitting.{refused_early_lem}
use Rattle.query.specs.RefusalLaws.{validate_room}
use Rattle.query.specs.Fits.{validate_on}
use Rattle.query.proofs.Fitting.{same_choice, none_validated, one_validated}
use Rattle.query.proofs.validate.Goals as goal

pub returns-in_err-check_validate : goal.returns-in_err-check_validate
unfolding validate_on
returns-in_err-check_validate c = refused_early_lem _ _ c.args.scratch.now c.args.coefficients.now (refused_on c.check_validate.ensures c.in_err-check_validate.was c.from_residual.ensures.1)

pub curve-rows-requires : goal.curve-rows-requires
curve-rows-requires c =
    let w = validate_room _ _ _ _ _ c.args.folds c.args.bound _ (passed c.check_validate.ensures c.in_ok-check_validate.was) in
    (w.0.within.0, w.0.within.1.0)

pub choose_by_folds-chosen-requires : goal.choose_by_folds-chosen-requires
choose_by_folds-chosen-requires c =
    let w = validate_room _ _ _ _ _ c.args.folds c.args.bound _ (passed c.check_validate.ensures c.in_ok-check_validate.was) in
    (omega (arith, w.0.enough.1.0, c.curve-rows.ensures.long), omega (arith, w.1, c.max_degree-most.ensures))

pub clear-requires : goal.clear-requires
clear-requires c =
    let w = validate_room _ _ _ _ _ c.args.folds c.args.bound _ (passed c.check_validate.ensures c.in_ok-check_validate.was) in
    omega (arith, w.0.enough.1.0, c.choose_by_folds-chosen.ensures.within.long)

pub returns-in_default : goal.returns-in_default
unfolding validate_on
returns-in_default c =
    let let_by = passed c.check_validate.ensures c.in_ok-check_validate.was in
    let w = validate_room _ _ _ _ _ c.args.folds c.args.bound _ let_by in
    let found = same_choice _ _ _ _ _ _ _ _ w.0.within.1.1.0 c.max_degree-most.ensures (rw c.curve-rows.ensures.weighted at c.choose_by_folds-chosen.ensures.is) in
    rw let_by (none_validated _ _ _ _ _ _ (sym found ∙ c.in_default.is) _ (over_cleared _ _ _ _ (rw c.curve-rows.ensures.long at c.choose_by_folds-chosen.ensures.within) c.clear.ensures))

pub slice_bounds-solve_at-end : goal.slice_bounds-solve_at-end
slice_bounds-solve_at-end c =
    let w = validate_room _ _ _ _ _ c.args.folds c.args.bound _ (passed c.check_validate.ensures c.in_ok-check_validate.was) in
    sym (length-take-le 272 c.args.sums.now w.0.enough.0)

pub solve_at-requires : goal.solve_at-requires
unfolding validated_choice
solve_at-requires c =
    let n = c.args.book.count in
    let w = validate_room _ _ _ _ _ c.args.folds c.args.bound _ (passed c.check_validate.ensures c.in_ok-check_validate.was) in
    let found = same_choice _ _ _ _ _ _ _ _ w.0.within.1.1.0 c.max_degree-most.ensures (rw c.curve-rows.ensures.weighted at c.choose_by_folds-chosen.ensures.is) in
    let d = chosen (λ d. validated c.args.criterion (weighted_rows (samples_of n (held c.args.columns))) c.args.folds (count_of Curve d)) _ _ (sym found ∙ c.in-Some.is) in
    rw (c.curve-rows.ensures.long, c.curve-rows.ensures.curved)
    (record {
      n_in_bounds = (omega (arith, w.0.enough.1.0, c.choose_by_folds-chosen.ensures.within.long), omega (arith, length-take-le 272 c.args.sums.now w.0.enough.0), w.0.enough.1.1.0);
      degree_le_highest_degree = (omega (arith, w.1, d.within), omega (arith, curve_count c.in-Some.degree.0, w.1, d.within));
    })

pub returns : goal.returns
unfolding validate_on
returns c =
    let let_by = passed c.check_validate.ensures c.in_ok-check_validate.was in
    let w = validate_room _ _ _ _ _ c.args.folds c.args.bound _ let_by in
    let found = same_choice _ _ _ _ _ _ _ _ w.0.within.1.1.0 c.max_degree-most.ensures (rw c.curve-rows.ensures.weighted at c.choose_by_folds-chosen.ensures.is) in
    rw let_by
    (one_validated _ _ _ _ _ _ _ (sym found ∙ c.in-Some.is) _ _ _ _ (rw c.curve-rows.ensures.long at c.choose_by_folds-chosen.ensures.within) (rw (c.curve-rows.ensures.rows, c.curve-rows.ensures.long, c.curve-rows.ensures.curved) at c.solve_at.ensures))
