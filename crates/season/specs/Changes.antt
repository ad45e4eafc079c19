-- What each call that changes a season answers and leaves, over the memory that it was lent. Definitions only.
use Rattle.std.specs.Prelude.{◌≡◌, ℕ, length}
use Rattle.loops.specs.Loop.{from}
use Rattle.refusal.specs.Refusals.{settle}
use Rattle.refusal.specs.Named.{refused_by}
use Rattle.book.specs.Calls.{Answer, Out, State, state_after, book_of, open_out}
use Rattle.ledger.specs.Ledger.{Change, out_of}
use Rattle.ledger.specs.Ledger as ledger
use Rattle.carried.specs.Carry.{carry_out}
use Rattle.stakes.specs.Parts.{stakes}
use Rattle.stakes.specs.Season.{SeasonState, stake_state, with_stake, stake_refusal, season_open_refusal}
use Rattle.season.specs.declared.Asked.{Asked}
use Rattle.season.specs.declared.Asked.TheVariants as asked

pub record SeasonOut : Type 0 where
  pub answer : Answer
  pub season : SeasonState

-- the promise: the answer, and every place of the counts, the columns and the sums
pub record SeasonIs (o : SeasonOut) (r : Answer) (left : SeasonState) : Type 0 where
  pub answer : r ≡ o.answer
  pub season : left ≡ o.season

-- refused by r: everything is left
abbrev pub left_alone : ℕ → SeasonState → SeasonOut
left_alone r S = record { answer = refused_by r; season = S }

-- the book's own call on the parts of stake s, put back in their place
unfoldable pub on_stake : ℕ → SeasonState → (State → Out) → SeasonOut
on_stake s S call =
    let r = stake_refusal s (length S.counts) in
    let o = call (stake_state s S) in
    settle r (record { answer = o.answer; season = with_stake s (state_after (stake_state s S).count o) S }) (left_alone r S)

-- add, correct, withdraw, frame, lines and window
abbrev pub season_out : ℕ → SeasonState → Change → SeasonOut
season_out s S c = on_stake s S (λ b. out_of b c)

-- what the code asks of a stake, as a call of the ledger's lists
unfoldable pub change_of : Asked → Change
change_of (asked.Add p) = ledger.adds p
change_of (asked.Window p) = ledger.windows p
change_of (asked.Withdraw i) = ledger.withdraws i
change_of (asked.Frame f) = ledger.frames f.now
change_of (asked.Lines t) = ledger.texts t.now

-- open: the stake is empty, and its columns stand
abbrev pub opens : State → Out
opens b = record { answer = (open_out b.sums).answer; columns = b.columns; sums = (open_out b.sums).sums }

abbrev pub open_stake_out : ℕ → SeasonState → SeasonOut
open_stake_out s S = on_stake s S opens

-- carry: an open two-column book of a stake goes on with weights
abbrev pub carries : State → Out
carries b = carry_out b.count b.columns b.sums

abbrev pub carry_stake_out : ℕ → SeasonState → SeasonOut
carry_stake_out s S = on_stake s S carries

-- all 32 stakes are opened, one after another
abbrev pub emptied : SeasonState → SeasonState
emptied S = from (λ s T. (open_stake_out s T).season) 0 stakes S

unfoldable pub season_open_out : SeasonState → SeasonOut
season_open_out S =
    let r = season_open_refusal (length S.counts) (length S.sums) in
    settle r (record { answer = book_of 0; season = emptied S }) (left_alone r S)
