-- `statistics::order::any_nan` meets its contract. By the test on d.
use Rattle.std.proofs.Common.{sym, ◌∙◌}
use Rattle.statistics.proofs.Deviations.{nan_finite}
use Rattle.statistics.proofs.order.any_nan.Goals as goal

pub returns-then-is_finite : goal.returns-then-is_finite
returns-then-is_finite c = c.holds_nan.ensures ∙ sym (nan_finite c.args.d (sym c.is_finite.ensures ∙ c.if-is_finite.true) c.args.a.now)
