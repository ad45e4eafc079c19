-- What a season's calls may refuse by, in the checking order: 18, then 1 of the counts or of the stake's parts, then the later tests of the book's own call.
use Rattle.std.specs.Prelude.{◌≡◌, refl, Bool, true, false, cond, ◌||◌, ℕ, ltb, leb, eqb, length, Float}
use Rattle.std.proofs.Common.{ap, ◌∙◌}
use mathlib.Core.List.{List, [], ◌∷◌, Memᴰ}
use Rattle.loops.specs.Cases.{never}
use Rattle.samples.specs.declared.Sample.{Sample}
use Rattle.refusal.specs.Refusals.{Test, by, first_of, settle, numbers_of, InOrder, those, is_among}
use Rattle.refusal.specs.Laws.{numbered}
use Rattle.book.specs.Refusals.{open_tests, add_tests, correct_tests, withdraw_tests, frame_tests, lines_tests}
use Rattle.book.specs.Calls.{State}
use Rattle.stakes.specs.Parts.{stakes}
use Rattle.stakes.specs.Season.{SeasonState, stake_state, stake_refusal, season_open_refusal, season_tests, read_stake}

pub stake_numbers : (s counts : ℕ) → Memᴰ (stake_refusal s counts) (0 ∷ 18 ∷ 1 ∷ [])
unfolding stake_refusal
stake_numbers s counts = numbered _

pub season_open_numbers : (counts sums : ℕ) → Memᴰ (season_open_refusal counts sums) (0 ∷ 1 ∷ [])
unfolding season_open_refusal
season_open_numbers counts sums = numbered _

-- k is none of these
avoids : ℕ → List ℕ → Bool
avoids k [] = true
avoids k (o ∷ os) = cond (eqb o k) false (avoids k os)

passed_over : (k : ℕ) (os ks : List ℕ) → avoids k os ≡ true → those os (k ∷ ks) ≡ those os ks
unfolding those is_among avoids
passed_over k [] ks h = refl
passed_over k (o ∷ os) ks h = go (eqb o k) h (passed_over k os ks)
  where
    go : (t : Bool) → cond t false (avoids k os) ≡ true → (avoids k os ≡ true → those os (k ∷ ks) ≡ those os ks)
        → (let rest = those os (k ∷ ks) in cond (t || is_among o ks) (o ∷ rest) rest) ≡ (let rest = those os ks in cond (is_among o ks) (o ∷ rest) rest)
    go true e f = never e
    go false e f = ap (λ (rest : List ℕ). cond (is_among o ks) (o ∷ rest) rest) (f e)

-- the first of an order may stand before numbers that are in it
first_stands : (o : ℕ) (os ks : List ℕ) → eqb o o ≡ true → avoids o os ≡ true → is_among o ks ≡ false → those (o ∷ os) ks ≡ ks → those (o ∷ os) (o ∷ ks) ≡ o ∷ ks
unfolding those is_among
first_stands o os ks self other none e = rw self (ap (λ (z : List ℕ). o ∷ z) (passed_over o os ks other ∙ (rw none at e)))

-- where a call's own tests, of which the first is 1, stand in the checking order, so do those of the season's call
pub season_in_order : (s counts : ℕ) (short : Bool) (later : List Test) → is_among 18 (numbers_of later) ≡ false → InOrder (numbers_of (by short 1 ∷ later))
    → InOrder (numbers_of (season_tests s counts (by short 1 ∷ later)))
unfolding is_among avoids
season_in_order s counts short later h e = first_stands 18 _ _ refl refl h e

-- so do those of the calls that open and change a stake's book
pub changes_in_order : (s counts n : ℕ) (columns : List ℕ) (sums : ℕ) (p : Sample) (i : ℕ) (y : Float) (frame text : List ℕ)
    → InOrder (numbers_of (season_tests s counts (open_tests sums))) × InOrder (numbers_of (season_tests s counts (add_tests n columns sums p)))
    × InOrder (numbers_of (season_tests s counts (correct_tests n columns sums i y))) × InOrder (numbers_of (season_tests s counts (withdraw_tests n columns sums i)))
    × InOrder (numbers_of (season_tests s counts (frame_tests n columns sums frame))) × InOrder (numbers_of (season_tests s counts (lines_tests n columns sums text)))
unfolding those is_among
changes_in_order s counts n columns sums p i y frame text = (refl, refl, refl, refl, refl, refl)

-- with all numbers that the book's calls have, which name no group
pub answers_in_order : InOrder (18 ∷ 1 ∷ 2 ∷ 3 ∷ 13 ∷ 14 ∷ 4 ∷ 15 ∷ 5 ∷ 6 ∷ 7 ∷ 8 ∷ 9 ∷ 10 ∷ 16 ∷ 11 ∷ 12 ∷ [])
unfolding those is_among
answers_in_order = refl

-- the number of a call on the book of stake s, asked behind the season's own tests, is that of the first of all these tests that holds
pub season_number : (s : ℕ) (S : SeasonState) (short : State → Bool) (later : State → List Test)
    → read_stake s S (λ b. first_of (by (short b) 1 ∷ later b)) (λ r. r)
    ≡ first_of (season_tests s (length S.counts) (by (short (stake_state s S)) 1 ∷ later (stake_state s S)))
unfolding read_stake stake_refusal first_of
season_number s S short later = go (leb stakes s) (ltb (length S.counts) stakes) (short (stake_state s S)) (first_of (later (stake_state s S)))
  where
    go : (a b c : Bool) (k : ℕ) → settle (cond a 18 (cond b 1 0)) (cond c 1 k) (cond a 18 (cond b 1 0)) ≡ cond a 18 (cond (b || c) 1 k)
    go true b c k = refl
    go false true c k = refl
    go false false c k = refl
