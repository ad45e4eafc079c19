-- `split::search` meets its contract. At break b: the tests so far are within the limit, the sums are those of the samples before b in the corner that the
-- bound of the whole list reads, and what is left of the search, from the best break so far, is the whole search.
use mathlib.Core.Path.{◌≡◌}
use Prim.Native.Nat.{◌+◌, ◌-◌, ◌*◌, ◌≤◌}
use lib.ListN.{length, take}
use Rattle.loops.specs.Within.{Within}
use Rattle.monomial.specs.Reading.{weighted_read}
use Rattle.monomial.specs.Sums.{sums_of}
use Rattle.monomial.specs.Corner.{SameCorner}
use Rattle.split.specs.Search.{best_break, search_tests}
use Rattle.split.proofs.Searching.{best_from, tests_from}
use Rattle.split.proofs.search.Given as goal

abbrev pub invariant-loop-b : goal.invariant-loop-b
invariant-loop-b l = (2 ≤ l.b) × (l.b ≤ l.last) × (l.tests ≤ l.limit) × (l.tests + 544 ≤ 272 * l.b) × Within (length l.rows.ys.now) l.initial.scratch l.scratch × (length l.sums ≡ 272)
    × SameCorner l.k.0 l.sums (sums_of (take l.b (weighted_read l.rows)))
    × (best_from l.bound l.criterion (weighted_read l.rows) l.b l.last l.best ≡ best_break l.bound l.criterion (weighted_read l.rows))
    × (tests_from l.bound l.criterion (weighted_read l.rows) l.b l.last l.tests ≡ search_tests l.bound l.criterion (weighted_read l.rows))

abbrev pub decreases-loop-b : goal.decreases-loop-b
decreases-loop-b l = l.last - l.b
