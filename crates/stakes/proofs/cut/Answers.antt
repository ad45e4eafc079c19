-- `stakes::cut` meets its contract: a part of one of 32 stakes ends within the memory, so that no sum or product wraps.
use mathlib.Core.Path.{refl}
use native.Mathlib.Omega.{arith}
use Rattle.stakes.specs.PartLaws.{ends_within}
use Rattle.stakes.proofs.cut.Goals as goal

pub overflow_mul-start : goal.overflow_mul-start
overflow_mul-start c = record { fits = omega (arith, ends_within c.args.len c.args.stake c.requires, c.well_formed) }

pub overflow_add-end : goal.overflow_add-end
overflow_add-end c = record { fits = omega (arith, ends_within c.args.len c.args.stake c.requires, c.well_formed) }

pub returns : goal.returns
returns c = record { starts = refl; ends = refl; within = ends_within c.args.len c.args.stake c.requires }
