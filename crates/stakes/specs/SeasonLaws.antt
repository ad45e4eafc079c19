-- Laws of Season.antt.
use Rattle.std.specs.Prelude.{◌≡◌, List, [], ◌/◌, length}
use Rattle.std.proofs.Math.Path.{refl}
use Rattle.std.proofs.Common.{sym, arith, leb-false, ltb-false, le-ltb, get_or-set_same, get_or-set_other}
use Prim.Native.Nat.{ℕ, zero, suc, ◌≤◌, ◌<◌}
use Rattle.std.proofs.lemmas.Bool.{lt-leb}
use Rattle.std.proofs.lemmas.List.{set-get_or}
use Rattle.loops.specs.Cases.{or_false}
use Rattle.basis.specs.Sizes.{sum_places}
use Rattle.refusal.specs.Refusals.{settle, first_of}
use Rattle.refusal.specs.Laws.{first_none}
use Rattle.refusal.specs.Tests.{any_short}
use Rattle.book.specs.Calls.{State, state_of}
use Rattle.stakes.specs.Parts.{stakes, over_part}
use Rattle.stakes.specs.PartLaws.{with_own, length_part, part_own, part_other}
use Rattle.stakes.specs.Season.{SeasonState, season_of, stake_state, with_stake, Sized, stake_refusal, season_open_refusal, read_stake}

-- a stake that is not refused is one of the 32, and so many counts are lent
pub stake_below : (s n : ℕ) → stake_refusal s n ≡ 0 → s < stakes
unfolding stake_refusal
stake_below s n e = leb-false stakes s (first_none _ 17 _ e).0

pub counts_long : (s n : ℕ) → stake_refusal s n ≡ 0 → stakes ≤ n
unfolding stake_refusal
counts_long s n e = ltb-false n stakes (first_none _ 0 _ (first_none _ 17 _ e).1).0

pub stake_counted : (s n : ℕ) → stake_refusal s n ≡ 0 → s < n
stake_counted s n e = omega (arith, stake_below s n e, counts_long s n e)

-- one of the 32 is not refused where there are so many counts
pub stake_taken : (s n : ℕ) → s < stakes → stakes ≤ n → stake_refusal s n ≡ 0
unfolding stake_refusal first_of
stake_taken s n h m = rw (lt-leb stakes s h, le-ltb n stakes m) refl

-- where all 32 are opened, so many counts are lent, and each stake's sums have their places
pub all_counted : (n sums : ℕ) → season_open_refusal n sums ≡ 0 → (stakes ≤ n) × (sum_places ≤ sums / stakes)
unfolding season_open_refusal any_short
all_counted n sums e =
    let q = or_false _ _ (first_none _ 0 _ e).0 in
    (ltb-false _ _ q.0, ltb-false _ _ (or_false _ _ q.1).0)

-- where nothing is written, all is left, whatever the stake's number
pub none_over : {A : Type 0} (s : ℕ) (l : List A) → l ≡ over_part s [] l
none_over s l = sym (with_own s l)

module _ {O : Type 0} (s : ℕ) (S : SeasonState) (call : State → O) (refused : ℕ → O) where
  -- not refused
  pub read_done : stake_refusal s (length S.counts) ≡ 0 → read_stake s S call refused ≡ call (stake_state s S)
  unfolding read_stake
  read_done e = rw e

  -- refused by r
  pub read_refused : (r : ℕ) → r ≡ stake_refusal s (length S.counts) → (r ≡ 0 → ⊥) → read_stake s S call refused ≡ refused r
  unfolding read_stake
  read_refused r e h = rw (← e) (go r h)
    where
      go : (r : ℕ) → (r ≡ 0 → ⊥) → settle r (call (stake_state s S)) (refused r) ≡ refused r
      go zero h = absurd (h refl)
      go (suc r) h = refl

-- ---- a stake's book put back

-- unchanged, all is as it was
pub same_stake : (s : ℕ) (S : SeasonState) → with_stake s (stake_state s S) S ≡ S
same_stake s S = λ j. season_of (set-get_or S.counts s 0 j) (λ k. with_own s (S.columns k) j) (with_own s S.sums j)

-- its own book is of the parts' lengths
pub own_sized : (s : ℕ) (S : SeasonState) → s < stakes → Sized (stake_state s S) S
own_sized s S h = record { columns = λ k. length_part s (S.columns k) h; sums = length_part s S.sums h }

module _ (s : ℕ) (S : SeasonState) (b : State) (own : s < stakes) (sized : Sized b S) where
  -- it is then the stake's book
  pub own_stake : s < length S.counts → stake_state s (with_stake s b S) ≡ b
  own_stake h =
      λ j. state_of (get_or-set_same S.counts s b.count 0 h j) (λ k. part_own s (S.columns k) own (b.columns k) (sized.columns k) j)
      (part_own s S.sums own b.sums sized.sums j)

  -- and every other stake's stands
  pub other_stake : (t : ℕ) → t < stakes → (t ≡ s → ⊥) → stake_state t (with_stake s b S) ≡ stake_state t S
  other_stake t h ne =
      λ j. state_of (get_or-set_other S.counts s t b.count 0 ne j) (λ k. part_other s (S.columns k) own (b.columns k) (sized.columns k) t h ne j)
      (part_other s S.sums own b.sums sized.sums t h ne j)
