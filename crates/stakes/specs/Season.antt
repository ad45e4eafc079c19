-- The season book of 32 stakes: what it keeps, a stake's book in it, and the tests of its own. Definitions only.
use Rattle.std.specs.Prelude.{◌≡◌, ◌||◌, List, [], ◌∷◌, ℕ, ◌/◌, ltb, leb, length, get_or, set, Float}
use Rattle.basis.specs.Sizes.{sum_places}
use Rattle.samples.specs.Columns.{Column, Columns}
use Rattle.refusal.specs.Refusals.{Test, by, first_of, settle}
use Rattle.refusal.specs.Tests.{needed, any_short}
use Rattle.book.specs.Calls.{State, state_of}
use Rattle.stakes.specs.Parts.{stakes, size, part_of, with_part}

-- the 32 counts, and the columns and the sums of all stakes
pub record SeasonState : Type 0 where
  pub counts : List ℕ
  pub columns : Columns
  pub sums : List Float

abbrev pub season_of : List ℕ → Columns → List Float → SeasonState
season_of counts columns sums = record { counts = counts; columns = columns; sums = sums }

-- the book of stake s: its count, and its parts of the columns and of the sums
abbrev pub stake_state : ℕ → SeasonState → State
stake_state s S = state_of (get_or S.counts s 0) (λ k. part_of s (S.columns k)) (part_of s S.sums)

-- b in its place; every other count and place is left
abbrev pub with_stake : ℕ → State → SeasonState → SeasonState
with_stake s b S = season_of (set S.counts s b.count) (λ k. with_part s (b.columns k) (S.columns k)) (with_part s b.sums S.sums)

-- a book that is as long as the parts of a season
pub record Sized (b : State) (S : SeasonState) : Type 0 where
  pub columns : (k : Column) → length (b.columns k) ≡ size (S.columns k)
  pub sums : length b.sums ≡ size S.sums

-- ---- refusals

-- A stake number above 31 gets 18, before every other check; then 1 judges the 32 counts. The book's own call on the stake's parts judges the rest.
abbrev pub stake_tests : ℕ → ℕ → List Test
stake_tests s counts = by (leb stakes s) 18 ∷ by (ltb counts stakes) 1 ∷ []

unfoldable pub stake_refusal : ℕ → ℕ → ℕ
stake_refusal s counts = first_of (stake_tests s counts)

-- with the tests of a call on the stake's parts, of which the first is 1
abbrev pub season_tests : ℕ → ℕ → List Test → List Test
season_tests s counts [] = []
season_tests s counts (short ∷ later) = by (leb stakes s) 18 ∷ by (ltb counts stakes || short.holds) 1 ∷ later

-- of all 32 books to be opened: there are so many counts, and each stake's part of the sums has its 272 places
abbrev pub season_open_tests : ℕ → ℕ → List Test
season_open_tests counts sums = by (any_short (needed stakes counts ∷ needed sum_places (sums / stakes) ∷ [])) 1 ∷ []

unfoldable pub season_open_refusal : ℕ → ℕ → ℕ
season_open_refusal counts sums = first_of (season_open_tests counts sums)

-- ---- calls that read a stake's book

-- what `call` makes of the book of stake s, or what `refused` makes of a refusal's number
unfoldable pub read_stake : {O : Type 0} → ℕ → SeasonState → (State → O) → (ℕ → O) → O
read_stake s S call refused =
    let r = stake_refusal s (length S.counts) in
    settle r (call (stake_state s S)) (refused r)
