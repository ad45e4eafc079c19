-- A group whose book was carried over: it begins with a ledger, as a book just opened does.
use mathlib.Core.Path.{refl, sym, subst}
use mathlib.Core.List.{List, []}
use Prim.Native.Nat.{ℕ}
use lib.ListN.{length, drop}
use lib.Ieee.{Float}
use Rattle.book.specs.Calls.{State}
use Rattle.ledger.proofs.Steps.{Holds}
use Rattle.allowance.specs.Table.{counter_of, quota_of}
use Rattle.groups.specs.Ledger.{GroupLedger}
use Rattle.groups.specs.Shared.{Shared}
use Rattle.two_column.specs.Pairs.{Columns}
use Rattle.two_column.specs.Ledger.{Change}
use Rattle.two_column.specs.Ledger as pairs
use Rattle.two_column.proofs.Whole.{pairs_from, opened_pairs}
use Rattle.carried.specs.Carried.{two_column}
use Rattle.carried.proofs.Over.{carried_holds}
use Rattle.mirrored.specs.Carried.{WasCarried, carried_samples, carried_lent, AnyCarriedGroup, AnyCarriedMirror}
use Rattle.mirrored.proofs.Groups.{by_ledger, mirror_from}

carried_now : (group : ℕ) (s : Shared) (c : Columns) (ws sums : List Float) (earlier : List Change) → WasCarried group s c ws sums earlier
    → Holds (carried_lent c ws sums) (drop 272 sums) (carried_samples c sums earlier) (s.books group)
carried_now group s c ws sums earlier h =
    let xs = length c.xs in
    let ys = length c.ys in
    let rest = drop 272 sums in
    let w = (pairs_from xs ys (length sums) rest (pairs.opened c sums) [] (opened_pairs c sums h.opens) earlier).1 in
    subst (λ (b : State). Holds (carried_lent c ws sums) rest (carried_samples c sums earlier) b) (sym h.book)
    (carried_holds xs ys (length sums) rest ws h.wide h.high (two_column c sums earlier) (pairs.ledger_end (pairs.lent_of c sums) [] earlier) w)

pub carried_group : AnyCarriedGroup
carried_group group s long c ws sums earlier h cs =
    let g : GroupLedger = record { samples = carried_samples c sums earlier; counter = counter_of s.table group; quota = quota_of s.table } in
    (by_ledger group (carried_lent c ws sums) (drop 272 sums) s g
    (record { long = long; holds = carried_now group s c ws sums earlier h; counter = λ _. refl; quota = refl }) cs).answered

pub carried_mirror : AnyCarriedMirror
carried_mirror group s t long same c d ws vs sums sums' earlier earlier' h h' lent p =
    let counter = counter_of t.table group in
    let quota = quota_of t.table in
    mirror_from group (carried_lent c ws sums) (drop 272 sums) (drop 272 sums') s t
    (record { samples = carried_samples c sums earlier; counter = counter; quota = quota })
    (record { samples = carried_samples d sums' earlier'; counter = counter; quota = quota })
    (record { long = long; holds = carried_now group s c ws sums earlier h; counter = same.counter; quota = same.quota })
    (record { long = rw (← same.long) long; holds = rw lent (carried_now group t d vs sums' earlier' h'); counter = λ _. refl; quota = refl })
    same.long (record { samples = p; counter = refl; quota = refl })
