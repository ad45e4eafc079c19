-- Document 02's words on what a search finds, of any choices for the two sides and any floats. Definitions only.
use Rattle.std.specs.Prelude.{◌≡◌, Bool, true, false, ◌&&◌, List, ℕ, ◌+◌, ◌≤◌, ◌<◌, length, Option, Some, None}
use Rattle.std.specs.Float.Ieee.{lt, le}
use Rattle.basis.specs.declared.Degree.{Degree}
use Rattle.statistics.specs.declared.DegreeBound.{DegreeBound}
use Rattle.monomial.specs.Rows.{WeightedRow}
use Rattle.score.specs.declared.Criterion.{Criterion}
use Rattle.fit.specs.declared.Choice.{Choice}
use Rattle.split.specs.declared.Best.{Best}
use Rattle.split.specs.declared.Break.{Break}
use Rattle.split.specs.Search.{total_of, left_of, right_of, search_tests}

-- a side is chosen
abbrev pub is_some : Option Degree → Bool
is_some (Some d) = true
is_some None = false

-- both sides of break b are chosen: it is not passed over
abbrev pub both : (ℕ → Choice) → (ℕ → Choice) → ℕ → Bool
both L R b = is_some (L b).chosen && is_some (R b).chosen

module _ (L R : ℕ → Choice) (i m : ℕ) where
  -- s is the best of the breaks from i on and below m: both its sides are chosen, no break totals less, and none before it as little
  pub record IsBest (s : Best) : Type 0 where
    pub after_first : i ≤ s.at
    pub before_last : s.at < m
    pub left : (L s.at).chosen ≡ Some s.before
    pub right : (R s.at).chosen ≡ Some s.after
    pub totals : s.total ≡ total_of (L s.at) (R s.at)
    pub least : (b : ℕ) → i ≤ b → b < m → both L R b ≡ true → lt (total_of (L b) (R b)) s.total ≡ false
    pub first : (b : ℕ) → i ≤ b → b < s.at → both L R b ≡ true → le (total_of (L b) (R b)) s.total ≡ false

  -- every break is passed over
  abbrev pub AllPassed : Type 0
  AllPassed = (b : ℕ) → i ≤ b → b < m → both L R b ≡ false

module _ (bound : DegreeBound) (criterion : Criterion) (limit : ℕ) (rows : List WeightedRow) where
  -- What a split answers: a break that leaves at least two samples on each side, and both sides' chosen degrees; the total is the sum of the two
  -- chosen scores; no other break totals less, and none before it as little; the number of pivot tests is the definition's, and within the limit.
  pub record Answered (b : Break) : Type 0 where
    pub two_before : 2 ≤ b.at
    pub two_after : b.at + 2 ≤ length rows
    pub left : (left_of bound criterion rows b.at).chosen ≡ Some b.before
    pub right : (right_of bound criterion rows b.at).chosen ≡ Some b.after
    pub totals : b.total ≡ total_of (left_of bound criterion rows b.at) (right_of bound criterion rows b.at)
    pub least : (c : ℕ) → 2 ≤ c → c + 2 ≤ length rows → both (left_of bound criterion rows) (right_of bound criterion rows) c ≡ true
        → lt (total_of (left_of bound criterion rows c) (right_of bound criterion rows c)) b.total ≡ false
    pub first : (c : ℕ) → 2 ≤ c → c < b.at → both (left_of bound criterion rows) (right_of bound criterion rows) c ≡ true
        → le (total_of (left_of bound criterion rows c) (right_of bound criterion rows c)) b.total ≡ false
    pub number : b.tests ≡ search_tests bound criterion rows
    pub few : b.tests ≤ limit

  -- every break that leaves at least two samples on each side is passed over
  abbrev pub NoneChosen : Type 0
  NoneChosen = (b : ℕ) → 2 ≤ b → b + 2 ≤ length rows → both (left_of bound criterion rows) (right_of bound criterion rows) b ≡ false
