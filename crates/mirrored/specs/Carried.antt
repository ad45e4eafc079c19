-- A course group whose book was carried over in mid season (document 02, E6 with E10 and E13). A carry is no call of a group, but a group may begin with such a
-- book. The theorems, `carried_group` and `carried_mirror`, are proved in proofs/Carried.antt. Definitions only.
use Rattle.std.specs.Prelude.{◌≡◌, List, [], map, ℕ, ◌≤◌, length, Float}
use Rattle.runs.specs.Runs.{replies, only, pick}
use Rattle.samples.specs.declared.Sample.{Sample}
use Rattle.samples.specs.Columns.{columns_of}
use Rattle.book.specs.Calls.{book_of}
use Rattle.ledger.specs.Ledger.{Lent, lent_of}
use Rattle.allowance.specs.Table.{table_places, counter_of, quota_of}
use Rattle.groups.specs.Ledger.{GroupLedger, group_ledger}
use Rattle.groups.specs.Shared.{Shared, SharedCall, shared, mine}
use Rattle.mirror.specs.Pairs.{Pairs}
use Rattle.two_column.specs.Pairs.{Columns, at_weight_one}
use Rattle.two_column.specs.Calls.{open_out}
use Rattle.two_column.specs.Ledger.{Change}
use Rattle.two_column.specs.Ledger as pairs
use Rattle.carried.specs.Carried.{carried}
use Rattle.mirrored.specs.Samples.{MirrorSamples}
use Rattle.mirrored.specs.Groups.{MirrorShared, GroupImage, SameTable}

-- the group's book was opened with two columns, had the calls earlier, refused ones included, and was carried over with the weight column ws
pub record WasCarried (group : ℕ) (s : Shared) (c : Columns) (ws sums : List Float) (earlier : List Change) : Type 0 where
  pub opens : (open_out sums).answer ≡ book_of 0
  pub wide : length c.xs ≤ length ws
  pub high : length c.ys ≤ length ws
  pub book : s.books group ≡ carried c ws sums earlier

-- what the two-column ledger held then, at weight 1
abbrev pub carried_samples : Columns → List Float → List Change → List Sample
carried_samples c sums earlier = map at_weight_one (pairs.ledger_end (pairs.lent_of c sums) [] earlier)

abbrev pub carried_lent : Columns → List Float → List Float → Lent
carried_lent c ws sums = lent_of (columns_of c.xs c.ys ws) sums

-- From there its replies, in the run of all groups' calls, are those of its ledger, which begins with these samples, and with the counter and quota as they stand.
abbrev pub AnyCarriedGroup : Type 0
AnyCarriedGroup =
    (group : ℕ) (s : Shared) → table_places ≤ length s.table → (c : Columns) (ws sums : List Float) (earlier : List Change)
    → WasCarried group s c ws sums earlier → (cs : List SharedCall)
    → let begins : GroupLedger = record { samples = carried_samples c sums earlier; counter = counter_of s.table group; quota = quota_of s.table } in
    pick (mine group) cs (replies shared s cs) ≡ replies (group_ledger group (length s.table) (carried_lent c ws sums)) begins (only (mine group) cs)

-- And two such groups, whose samples then were alike but for the sign of every y, in memory of the same lengths, are each other's mirror image.
abbrev pub AnyCarriedMirror : Type 0
AnyCarriedMirror =
    (group : ℕ) (s t : Shared) → table_places ≤ length s.table → SameTable group s.table t.table
    → (c d : Columns) (ws vs sums sums' : List Float) (earlier earlier' : List Change) → WasCarried group s c ws sums earlier → WasCarried group t d vs sums' earlier'
    → carried_lent c ws sums ≡ carried_lent d vs sums' → MirrorSamples (carried_samples c sums earlier) (carried_samples d sums' earlier')
    → (cs ds : List SharedCall) → Pairs MirrorShared cs ds → GroupImage group s t cs ds
