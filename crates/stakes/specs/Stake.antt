-- A season that a call is lent in one struct, and a stake's book that is cut out of it. Definitions only.
use Rattle.std.specs.Prelude.{◌≡◌, ℕ, length, Result, Ok, Err}
use Rattle.samples.specs.Held.{held}
use Rattle.refusal.specs.declared.refusals.Refusal.{Refusal}
use Rattle.refusal.specs.Named.{number}
use Rattle.book.specs.Calls.{State, state_of}
use Rattle.stakes.specs.declared.Season.{Season}
use Rattle.stakes.specs.declared.Stake.{Stake}
use Rattle.stakes.specs.Season.{SeasonState, season_of, stake_state, stake_refusal}

-- the season
abbrev pub season_held : Season → SeasonState
season_held s = season_of s.counts.now (held s.columns) s.sums.now

-- the book
abbrev pub book_held : Stake → State
book_held b = state_of b.book.count (held b.columns) b.sums.now

-- the promise: what is refused is refused by the season's own tests; else it is the stake's book, its count and its parts
pub record StakeIs (s : ℕ) (S : SeasonState) (r : Result Stake Refusal) : Type 0 where
  pub refused : (e : Refusal) → r ≡ Err e → number e ≡ stake_refusal s (length S.counts)
  pub taken : (b : Stake) → r ≡ Ok b → (stake_refusal s (length S.counts) ≡ 0) × (book_held b ≡ stake_state s S)
