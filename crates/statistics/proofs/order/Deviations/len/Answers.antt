-- `statistics::order::Deviations::len` meets its contract.
use Rattle.std.proofs.Common.{length, sym, ap, ◌∙◌, subst}
use Rattle.loops.specs.All.{All}
use Rattle.statistics.specs.Counting.{Plain}
use Rattle.statistics.proofs.Deviations.{length_distances}
use Rattle.statistics.proofs.order.Deviations.len.Goals as goal

pub returns : goal.returns
returns c = record { is = sym (length_distances _ _) ∙ ap length c.self.view_is; plain = subst (All Plain) c.self.view_is c.self.invariant }
