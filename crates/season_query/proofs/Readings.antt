-- From what the book's own call promises on a stake's parts to what the season's call promises: one law for each kind of call, refused and not.
use Rattle.std.specs.Prelude.{Result, Ok, Err, IsErrAnd}
use mathlib.Core.Path.{◌≡◌, refl, sym, ap, ◌∙◌}
use mathlib.Core.List.{List, []}
use Prim.Native.Nat.{ℕ}
use lib.ListN.{length}
use lib.Ieee.{Float}
use Rattle.lent.specs.Slices.{contents_of}
use Rattle.lent.specs.Written.{over}
use Rattle.book.specs.Calls.{State}
use Rattle.refusal.specs.declared.refusals.Refusal.{Refusal}
use Rattle.measure.specs.Fits.{FitAnswer, FitOut, FitIs, fit_refused}
use Rattle.measure.specs.Bands.{BandAnswer, BandOut, BandIs, band_refused}
use Rattle.losses.specs.Losses.{LossAnswer, LossOut, LossIs, loss_refused}
use Rattle.scores.specs.Scores.{ScoresAnswer, ScoresOut, ScoresIs, scores_refused}
use Rattle.split.specs.Splits.{SplitAnswer, SplitOut, LentSplit, Does, split_refused}
use Rattle.stakes.specs.Parts.{part_of, over_part}
use Rattle.stakes.specs.Season.{SeasonState, stake_refusal, read_stake}
use Rattle.stakes.specs.declared.Stake.{Stake}
use Rattle.stakes.specs.Stake.{book_held, StakeIs}
use Rattle.stakes.specs.SeasonLaws.{read_done, read_refused, none_over}
use Rattle.stakes.proofs.Pieces.{Piece, wrote, turned_away}
use Rattle.season_query.specs.Reads.{StakeFitIs, StakeBandIs, StakeLossIs, StakeScoresIs, StakeSplitIs}

-- r is what `Season::stake` answered
module _ {s : ℕ} {S : SeasonState} {r : Result Stake Refusal} (is : StakeIs s S r) where
  abbrev refusal : ℕ
  refusal = stake_refusal s (length S.counts)

  -- fit and validation
  module _ (t c : List Float) (call : State → List Float → List Float → FitOut) where
    abbrev fitted : FitOut
    fitted = read_stake s S (λ b. call b (part_of s t) (part_of s c)) fit_refused

    pub fit_refused_lem : {e : Refusal} {a : FitAnswer} → r ≡ Err e → IsErrAnd a (λ d. d ≡ e) → StakeFitIs s fitted a (contents_of t t) (contents_of c c)
    fit_refused_lem h given =
        let w = turned_away is h given in
        let q = sym (read_refused s S (λ b. call b (part_of s t) (part_of s c)) fit_refused refusal refl w.0) in
        record {
          answer = w.1 ∙ ap (λ (o : FitOut). o.answer) q;
          scratch = none_over s t ∙ ap (λ (o : FitOut). over_part s o.scratch t) q;
          coefficients = none_over s c ∙ ap (λ (o : FitOut). over_part s o.coefficients c) q;
        }

    pub fit_done : {b : Stake} → r ≡ Ok b → {tp tq tm cp cq cm : List Float} → Piece s t tp tq tm → Piece s c cp cq cm → {a : FitAnswer}
        → FitIs (call (book_held b) tp cp) a (contents_of tp tq) (contents_of cp cq) → StakeFitIs s fitted a (contents_of t tm) (contents_of c cm)
    fit_done h {tp = tp} {cp = cp} wt wc i =
        let own = is.taken _ h in
        let q = (λ j. call (own.1 j) (wt.found j) (wc.found j)) ∙ sym (read_done s S (λ b. call b (part_of s t) (part_of s c)) fit_refused own.0) in
        record {
          answer = i.answer ∙ ap (λ (o : FitOut). o.answer) q;
          scratch = wrote s fitted.scratch wt (i.scratch ∙ ap (λ (o : FitOut). over o.scratch tp) q);
          coefficients = wrote s fitted.coefficients wc (i.coefficients ∙ ap (λ (o : FitOut). over o.coefficients cp) q);
        }

  -- band
  module _ (t : List Float) (call : State → List Float → BandOut) where
    abbrev banded : BandOut
    banded = read_stake s S (λ b. call b (part_of s t)) band_refused

    pub band_refused_lem : {e : Refusal} {a : BandAnswer} → r ≡ Err e → IsErrAnd a (λ d. d ≡ e) → StakeBandIs s banded a (contents_of t t)
    band_refused_lem h given =
        let w = turned_away is h given in
        let q = sym (read_refused s S (λ b. call b (part_of s t)) band_refused refusal refl w.0) in
        record { answer = w.1 ∙ ap (λ (o : BandOut). o.answer) q; scratch = none_over s t ∙ ap (λ (o : BandOut). over_part s o.scratch t) q }

    pub band_done : {b : Stake} → r ≡ Ok b → {tp tq tm : List Float} → Piece s t tp tq tm → {a : BandAnswer}
        → BandIs (call (book_held b) tp) a (contents_of tp tq) → StakeBandIs s banded a (contents_of t tm)
    band_done h {tp = tp} wt i =
        let own = is.taken _ h in
        let q = (λ j. call (own.1 j) (wt.found j)) ∙ sym (read_done s S (λ b. call b (part_of s t)) band_refused own.0) in
        record {
          answer = i.answer ∙ ap (λ (o : BandOut). o.answer) q;
          scratch = wrote s banded.scratch wt (i.scratch ∙ ap (λ (o : BandOut). over o.scratch tp) q);
        }

  -- losses
  module _ (t l : List Float) (call : State → List Float → LossOut) where
    abbrev lost : LossOut
    lost = read_stake s S (λ b. call b (part_of s t)) loss_refused

    pub loss_refused_lem : {e : Refusal} {a : LossAnswer} → r ≡ Err e → IsErrAnd a (λ d. d ≡ e) → StakeLossIs s lost a (contents_of t t) (contents_of l l)
    loss_refused_lem h given =
        let w = turned_away is h given in
        let q = sym (read_refused s S (λ b. call b (part_of s t)) loss_refused refusal refl w.0) in
        record {
          answer = w.1 ∙ ap (λ (o : LossOut). o.answer) q;
          scratch = none_over s t ∙ ap (λ (o : LossOut). over_part s o.scratch t) q;
          losses = ap (λ (o : LossOut). over o.losses l) q;
        }

    pub loss_done : {b : Stake} → r ≡ Ok b → {tp tq tm lm : List Float} → Piece s t tp tq tm → {a : LossAnswer}
        → LossIs (call (book_held b) tp) a (contents_of tp tq) (contents_of l lm) → StakeLossIs s lost a (contents_of t tm) (contents_of l lm)
    loss_done h {tp = tp} wt i =
        let own = is.taken _ h in
        let q = (λ j. call (own.1 j) (wt.found j)) ∙ sym (read_done s S (λ b. call b (part_of s t)) loss_refused own.0) in
        record {
          answer = i.answer ∙ ap (λ (o : LossOut). o.answer) q;
          scratch = wrote s lost.scratch wt (i.scratch ∙ ap (λ (o : LossOut). over o.scratch tp) q);
          losses = i.losses ∙ ap (λ (o : LossOut). over o.losses l) q;
        }

  -- scores
  module _ (t : List Float) (d : List ℕ) (l : List Float) (call : State → List Float → ScoresOut) where
    abbrev scored : ScoresOut
    scored = read_stake s S (λ b. call b (part_of s t)) scores_refused

    pub scores_refused_lem : {e : Refusal} {a : ScoresAnswer} → r ≡ Err e → IsErrAnd a (λ d. d ≡ e) → StakeScoresIs s scored a (contents_of t t) (contents_of d d) (contents_of l l)
    scores_refused_lem h given =
        let w = turned_away is h given in
        let q = sym (read_refused s S (λ b. call b (part_of s t)) scores_refused refusal refl w.0) in
        record {
          answer = w.1 ∙ ap (λ (o : ScoresOut). o.answer) q;
          scratch = none_over s t ∙ ap (λ (o : ScoresOut). over_part s o.scratch t) q;
          solved = ap (λ (o : ScoresOut). over o.solved d) q;
          scores = ap (λ (o : ScoresOut). over o.scores l) q;
        }

    pub scores_done : {b : Stake} → r ≡ Ok b → {tp tq tm : List Float} {dm : List ℕ} {lm : List Float} → Piece s t tp tq tm → {a : ScoresAnswer}
        → ScoresIs (call (book_held b) tp) a (contents_of tp tq) (contents_of d dm) (contents_of l lm)
        → StakeScoresIs s scored a (contents_of t tm) (contents_of d dm) (contents_of l lm)
    scores_done h {tp = tp} wt i =
        let own = is.taken _ h in
        let q = (λ j. call (own.1 j) (wt.found j)) ∙ sym (read_done s S (λ b. call b (part_of s t)) scores_refused own.0) in
        record {
          answer = i.answer ∙ ap (λ (o : ScoresOut). o.answer) q;
          scratch = wrote s scored.scratch wt (i.scratch ∙ ap (λ (o : ScoresOut). over o.scratch tp) q);
          solved = i.solved ∙ ap (λ (o : ScoresOut). over o.solved d) q;
          scores = i.scores ∙ ap (λ (o : ScoresOut). over o.scores l) q;
        }

  -- split
  module _ (t f g : List Float) (call : State → List Float → SplitOut) where
    abbrev divided : SplitOut
    divided = read_stake s S (λ b. call b (part_of s t)) (λ k. split_refused k [])

    abbrev lent : List Float → List Float → List Float → LentSplit
    lent tm fm gm = record { scratch = contents_of t tm; before = contents_of f fm; after = contents_of g gm }

    pub split_refused_lem : {e : Refusal} {a : SplitAnswer} → r ≡ Err e → IsErrAnd a (λ d. d ≡ e) → StakeSplitIs s divided a (lent t f g)
    split_refused_lem h given =
        let w = turned_away is h given in
        let q = sym (read_refused s S (λ b. call b (part_of s t)) (λ k. split_refused k []) refusal refl w.0) in
        record {
          answer = w.1 ∙ ap (λ (o : SplitOut). o.answer) q;
          scratch = none_over s t ∙ ap (λ (o : SplitOut). over_part s o.scratch t) q;
          before = ap (λ (o : SplitOut). over o.before f) q;
          after = ap (λ (o : SplitOut). over o.after g) q;
        }

    pub split_done : {b : Stake} → r ≡ Ok b → {tp tq tm fm gm : List Float} → Piece s t tp tq tm → {a : SplitAnswer}
        → Does (call (book_held b) tp) a (record { scratch = contents_of tp tq; before = contents_of f fm; after = contents_of g gm }) → StakeSplitIs s divided a (lent tm fm gm)
    split_done h {tp = tp} wt i =
        let own = is.taken _ h in
        let q = (λ j. call (own.1 j) (wt.found j)) ∙ sym (read_done s S (λ b. call b (part_of s t)) (λ k. split_refused k []) own.0) in
        record {
          answer = i.answer ∙ ap (λ (o : SplitOut). o.answer) q;
          scratch = wrote s divided.scratch wt (i.scratch ∙ ap (λ (o : SplitOut). over o.scratch tp) q);
          before = i.before ∙ ap (λ (o : SplitOut). over o.before f) q;
          after = i.after ∙ ap (λ (o : SplitOut). over o.after g) q;
        }
