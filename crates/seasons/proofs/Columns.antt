-- An opening is lent no columns: over any columns it answers and leaves the same, and these stand.
use mathlib.Core.Path.{◌≡◌, refl, sym, ap, ◌∙◌}
use Prim.Native.Nat.{ℕ, zero, suc}
use native.Mathlib.Omega.{arith}
use lib.ListN.{length}
use Rattle.loops.specs.Loop.{from}
use Rattle.loops.specs.LoopLaws.{last_from, done}
use Rattle.refusal.specs.Refusals.{settle}
use Rattle.samples.specs.Columns.{Columns}
use Rattle.book.specs.Calls.{book_of, state_after}
use Rattle.stakes.specs.Parts.{stakes}
use Rattle.stakes.specs.PartLaws.{with_own}
use Rattle.stakes.specs.Season.{SeasonState, season_of, stake_state, with_stake, stake_refusal, season_open_refusal}
use Rattle.season.specs.Changes.{SeasonOut, left_alone, on_stake, opens, open_stake_out, emptied, season_open_out}

module _ (columns : Columns) where
  abbrev pub beside : SeasonState → SeasonState
  beside S = season_of S.counts columns S.sums

  abbrev pub beside_out : SeasonOut → SeasonOut
  beside_out o = record { answer = o.answer; season = beside o.season }

  pub opening_beside : (s : ℕ) (S : SeasonState) → open_stake_out s (beside S) ≡ beside_out (open_stake_out s S)
  unfolding on_stake
  opening_beside s S = go (stake_refusal s (length S.counts))
    where
      go : (r : ℕ)
          → settle {A = SeasonOut} r (record { answer = (opens (stake_state s (beside S))).answer; season = with_stake s (state_after (stake_state s S).count (opens (stake_state s (beside S)))) (beside S) }) (left_alone r (beside S))
          ≡ beside_out (settle {A = SeasonOut} r (record { answer = (opens (stake_state s S)).answer; season = with_stake s (state_after (stake_state s S).count (opens (stake_state s S))) S }) (left_alone r S))
      go zero =
          let T = with_stake s (state_after (stake_state s S).count (opens (stake_state s S))) S in
          λ j. record { answer = (opens (stake_state s S)).answer; season = season_of T.counts (λ k. with_own s (columns k) j) T.sums }
      go (suc r) = refl

  abbrev turn : ℕ → SeasonState → SeasonState
  turn s T = (open_stake_out s T).season

  turns_beside : (b : ℕ) (S : SeasonState) → from turn 0 b (beside S) ≡ beside (from turn 0 b S)
  turns_beside zero S = rw (done turn 0 0 (beside S) (omega arith), done turn 0 0 S (omega arith)) refl
  turns_beside (suc b) S =
      last_from turn 0 b (beside S) (omega arith) ∙ ap (turn b) (turns_beside b S) ∙ ap (λ (o : SeasonOut). o.season) (opening_beside b (from turn 0 b S))
      ∙ ap beside (sym (last_from turn 0 b S (omega arith)))

  pub all_beside : (S : SeasonState) → season_open_out (beside S) ≡ beside_out (season_open_out S)
  unfolding season_open_out
  all_beside S = go (season_open_refusal (length S.counts) (length S.sums))
    where
      go : (r : ℕ)
          → settle {A = SeasonOut} r (record { answer = book_of 0; season = emptied (beside S) }) (left_alone r (beside S))
          ≡ beside_out (settle {A = SeasonOut} r (record { answer = book_of 0; season = emptied S }) (left_alone r S))
      go zero = ap (λ (T : SeasonState). record { answer = book_of 0; season = T }) (turns_beside stakes S)
      go (suc r) = refl
