-- `statistics::sums::squares_about` meets its contract. The invariant: v is the sum so far.
use Rattle.std.proofs.Common.{◌≡◌, map, take}
use lib.Ieee.{binary64, sub}
use Rattle.value.specs.Total.{total_f}
use Rattle.statistics.specs.Variances.{square}
use Rattle.statistics.proofs.sums.squares_about.Given as goal

abbrev pub invariant-loop-x : goal.invariant-loop-x
invariant-loop-x l = l.v ≡ total_f (map (λ x. square (sub binary64 x l.m)) (take l.x-index l.a))
