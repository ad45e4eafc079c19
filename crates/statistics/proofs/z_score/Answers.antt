-- `statistics::z_score` meets its contract. Arm by arm; each literal is the double nearest to its thousandths, which antt computes.
use Rattle.std.proofs.Common.{rules}
use lib.Ieee.{of_bits, round}
use Rattle.statistics.specs.Table.{z_thousandths}
use Rattle.statistics.specs.Scores.{milli, z_at, z_score}
use Rattle.statistics.proofs.z_score.Goals as goal

pub returns-in-P80 : goal.returns-in-P80
unfolding z_score z_at z_thousandths milli round of_bits
returns-in-P80 c = rw c.in-P80.is

pub returns-in-P90 : goal.returns-in-P90
unfolding z_score z_at z_thousandths milli round of_bits
returns-in-P90 c = rw c.in-P90.is

pub returns-in-P95 : goal.returns-in-P95
unfolding z_score z_at z_thousandths milli round of_bits
returns-in-P95 c = rw c.in-P95.is

pub returns-in-P98 : goal.returns-in-P98
unfolding z_score z_at z_thousandths milli round of_bits
returns-in-P98 c = rw c.in-P98.is

pub returns-in-P99 : goal.returns-in-P99
unfolding z_score z_at z_thousandths milli round of_bits
returns-in-P99 c = rw c.in-P99.is

pub returns-in-P999 : goal.returns-in-P999
unfolding z_score z_at z_thousandths milli round of_bits
returns-in-P999 c = rw c.in-P999.is

pub returns-in-Custom : goal.returns-in-Custom
unfolding z_score
returns-in-Custom c = search rules
