-- `statistics::table_score` meets its contract. Arm by arm.
use Rattle.std.proofs.Common.{rules}
use Rattle.statistics.specs.Scores.{z_score, table_score}
use Rattle.statistics.proofs.table_score.Goals as goal

pub returns-in-Custom : goal.returns-in-Custom
unfolding table_score z_score
returns-in-Custom c = search rules

pub returns : goal.returns
unfolding table_score
returns c = search rules
