-- A call on one stake: what it makes of that stake's book, and that it leaves every other.
use mathlib.Core.Path.{◌≡◌, refl, ap, ◌∙◌}
use mathlib.Core.List.{List, [], ◌∷◌}
use Prim.Native.Nat.{ℕ, zero, suc, ◌≤◌, ◌<◌}
use native.Mathlib.Omega.{arith}
use lib.ListN.{length, length-set}
use borrow.Author.Tests.{le-leb}
use Rattle.loops.specs.Fold.{fold}
use Rattle.refusal.specs.Refusals.{settle, first_of}
use Rattle.book.specs.Calls.{Out, State, state_after}
use Rattle.ledger.specs.Ledger.{said, told}
use Rattle.stakes.specs.Parts.{stakes}
use Rattle.stakes.specs.PartLaws.{length_part}
use Rattle.stakes.specs.Season.{SeasonState, stake_state, with_stake, Sized, stake_refusal, read_stake}
use Rattle.stakes.specs.SeasonLaws.{stake_below, stake_taken, own_stake, other_stake}
use Rattle.season.specs.Changes.{SeasonOut, left_alone, on_stake}
use Rattle.seasons.specs.Calls.{StakeChange, StakeCall, alters, looks, names, of_stake, by_part, out_by, read_from, refused_told, season_next, season_reply}
use Rattle.seasons.specs.Claims.{LeavesOthers, Strays, changed_by}
use Rattle.seasons.proofs.Lengths.{Long, long_by}

-- a call on stake s of the season S, not refused, refused, and in either case
module _ (s : ℕ) (S : SeasonState) (call : State → Out) where
  abbrev pub left : State
  left = state_after (stake_state s S).count (call (stake_state s S))

  pub on_done : stake_refusal s (length S.counts) ≡ 0
      → on_stake s S call ≡ record { answer = (call (stake_state s S)).answer; season = with_stake s left S }
  unfolding on_stake
  on_done z = rw z

  pub sized : s < stakes → Long (stake_state s S) left → Sized left S
  sized h l = record { columns = λ k. l.columns k ∙ length_part s (S.columns k) h; sums = l.sums ∙ length_part s S.sums h }

  pub by_refusal : (P : SeasonState → Type 0) → P S → (stake_refusal s (length S.counts) ≡ 0 → P (with_stake s left S)) → P (on_stake s S call).season
  unfolding on_stake
  by_refusal P p q = go (stake_refusal s (length S.counts)) refl
    where
      go : (r : ℕ) → stake_refusal s (length S.counts) ≡ r
          → P (settle {A = SeasonOut} r (record { answer = (call (stake_state s S)).answer; season = with_stake s left S }) (left_alone r S)).season
      go zero z = q z
      go (suc r) z = p

  module _ (keeps : Long (stake_state s S) left) where
    -- its own book is what the call left
    pub on_own : s < stakes → stakes ≤ length S.counts → stake_state s (on_stake s S call).season ≡ left
    on_own h m =
        let z = stake_taken s (length S.counts) h m in
        ap (λ o. stake_state s o.season) (on_done z) ∙ own_stake s S left h (sized h keeps) (omega (arith, h, m))

    -- every other stands
    pub on_other : (t : ℕ) → t < stakes → (t ≡ s → ⊥) → stake_state t (on_stake s S call).season ≡ stake_state t S
    on_other t h ne =
        by_refusal (λ T. stake_state t T ≡ stake_state t S) refl
        (λ z. let b = stake_below s (length S.counts) z in other_stake s S left b (sized b keeps) t h ne)

  -- there are as many counts as before
  pub on_counts : length (on_stake s S call).season.counts ≡ length S.counts
  on_counts = by_refusal (λ T. length T.counts ≡ length S.counts) refl (λ z. length-set S.counts s left.count)

-- no call that names a stake changes the number of counts
pub counts_kept : (S : SeasonState) (s : ℕ) (c : StakeCall) → length (season_next S (names s c)).counts ≡ length S.counts
unfolding season_next
counts_kept S s (alters c) = on_counts s S (out_by c)
counts_kept S s (looks q) = refl

pub leaves_others : LeavesOthers
unfolding season_next
leaves_others S s t (alters c) h ne = on_other s S (out_by c) (long_by c (stake_state s S)) t h ne
leaves_others S s t (looks q) h ne = refl

-- and no list of changes of one stake does either, nor changes another
pub calls_counted : (s : ℕ) (cs : List StakeChange) (S : SeasonState) → length (changed_by S s cs).counts ≡ length S.counts
unfolding fold
calls_counted s [] S = refl
calls_counted s (c ∷ cs) S = calls_counted s cs (season_next S (names s (alters c))) ∙ counts_kept S s (alters c)

pub calls_leave_others : (s t : ℕ) → t < stakes → (t ≡ s → ⊥) → (cs : List StakeChange) (S : SeasonState)
    → stake_state t (changed_by S s cs) ≡ stake_state t S
unfolding fold
calls_leave_others s t h ne [] S = refl
calls_leave_others s t h ne (c ∷ cs) S = calls_leave_others s t h ne cs (season_next S (names s (alters c))) ∙ leaves_others S s t (alters c) h ne

above_31 : (s n : ℕ) → stakes ≤ s → stake_refusal s n ≡ 18
unfolding stake_refusal first_of
above_31 s n h = rw (le-leb stakes s h) refl

-- a number above 31
on_stray : (s : ℕ) (S : SeasonState) (call : State → Out) → stakes ≤ s → on_stake s S call ≡ left_alone 18 S
unfolding on_stake
on_stray s S call h = rw (above_31 s (length S.counts) h)

read_stray : {O : Type 0} (s : ℕ) (S : SeasonState) (call : State → O) (refused : ℕ → O) → stakes ≤ s → read_stake s S call refused ≡ refused 18
unfolding read_stake
read_stray s S call refused h = rw (above_31 s (length S.counts) h)

stray_left : (S : SeasonState) (s : ℕ) → stakes ≤ s → (c : StakeCall) → season_next S (names s c) ≡ S
unfolding season_next
stray_left S s h (alters c) = ap (λ (o : SeasonOut). o.season) (on_stray s S (out_by c) h)
stray_left S s h (looks q) = refl

pub strays : Strays
unfolding season_reply
strays S s h =
    record {
      changes = λ c. ap (λ (o : SeasonOut). of_stake (said o.answer)) (on_stray s S (out_by c) h);
      reads = λ q. ap (λ r. of_stake (told r)) (read_stray s S (read_from (by_part q)) (refused_told q) h);
      season = stray_left S s h;
    }
