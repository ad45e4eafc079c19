-- Laws of Changes.antt.
use Rattle.std.specs.Prelude.{◌≡◌, refl, List, ℕ, zero, suc, length, Float, Result, Ok, Err, IsErrAnd, ⊤}
use Rattle.samples.specs.Columns.{Columns}
use Rattle.refusal.specs.declared.refusals.Refusal.{Refusal}
use Rattle.refusal.specs.Refusals.{settle}
use Rattle.refusal.specs.Named.{refused_by, judged}
use Rattle.refusal.specs.NamedLaws.{passed, refused_on}
use Rattle.book.specs.Calls.{Answer, Out, State, state_of, Is, book_of, book_after}
use Rattle.stakes.specs.Season.{SeasonState, stake_state, with_stake, stake_refusal, season_open_refusal}
use Rattle.season.specs.Changes.{SeasonOut, SeasonIs, left_alone, on_stake, emptied, season_open_out}

-- ---- the promise of a call, refused and not: r is what its tests came to

refused_is : (k : ℕ) (good : SeasonOut) (S : SeasonState) → (k ≡ 0 → ⊥) → {a : Answer} → a ≡ refused_by k → SeasonIs (settle k good (left_alone k S)) a S
refused_is zero good S h q = absurd (h refl)
refused_is (suc k) good S h q = record { answer = q; season = refl }

module _ (s : ℕ) (S : SeasonState) (call : State → Out) {r : Result ⊤ Refusal} (p : r ≡ judged (stake_refusal s (length S.counts))) where
  pub stake_refused : {e : Refusal} {a : Answer} → r ≡ Err e → IsErrAnd a (λ d. d ≡ e) → SeasonIs (on_stake s S call) a S
  unfolding on_stake
  stake_refused h q = let w = refused_on p h q in refused_is _ _ S w.0 w.1

  -- what the book's call answered and left is put back
  pub stake_done : {u : ⊤} → r ≡ Ok u → (a : Answer) (columns : Columns) (sums : List Float) → Is (call (stake_state s S)) a columns sums
      → SeasonIs (on_stake s S call) a (with_stake s (state_of (book_after (stake_state s S).count a) columns sums) S)
  unfolding on_stake
  stake_done h a columns sums i =
      rw (passed p h)
      (record {
        answer = i.answer;
        season = λ j. with_stake s (state_of (book_after (stake_state s S).count (i.answer j)) (i.columns j) (i.sums j)) S;
      })

module _ (S : SeasonState) {r : Result ⊤ Refusal} (p : r ≡ judged (season_open_refusal (length S.counts) (length S.sums))) where
  pub open_refused : {e : Refusal} {a : Answer} → r ≡ Err e → IsErrAnd a (λ d. d ≡ e) → SeasonIs (season_open_out S) a S
  unfolding season_open_out
  open_refused h q = let w = refused_on p h q in refused_is _ _ S w.0 w.1

  pub open_done : {u : ⊤} → r ≡ Ok u → (T : SeasonState) → T ≡ emptied S → SeasonIs (season_open_out S) (book_of 0) T
  unfolding season_open_out
  open_done h T q = rw (passed p h) (record { answer = refl; season = q })
