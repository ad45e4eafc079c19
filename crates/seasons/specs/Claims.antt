-- What is claimed of a season book. The theorems are in proofs/. Definitions only.
use Rattle.std.specs.Prelude.{◌≡◌, List, map, ℕ, ◌*◌, ◌≤◌, ◌<◌, length, get_or, drop, Err, Float}
use Rattle.refusal.specs.declared.refusals.Refusal.{Refusal}
use Rattle.refusal.specs.Named.{refused_by}
use Rattle.loops.specs.Fold.{fold}
use Rattle.runs.specs.Runs.{replies as replies_of, only, pick}
use Rattle.samples.specs.Columns.{Columns}
use Rattle.statistics.specs.declared.Confidence.{Confidence}
use Rattle.statistics.specs.declared.DegreeBound.{DegreeBound}
use Rattle.statistics.specs.declared.Tolerance.{Tolerance}
use Rattle.score.specs.declared.Criterion.{Criterion}
use Rattle.settings.specs.declared.Settings.{Settings}
use Rattle.book.specs.Calls.{book_of, open_out}
use Rattle.reporting.specs.Outputs.{Outputs, places_of, over_all}
use Rattle.ledger.specs.Ledger.{Call, said, told, program_replies, final, opened}
use Rattle.ledger.specs.ReadCalls.{ReadCall, read_on}
use Rattle.ledger.specs.Whole.{WholeBook}
use Rattle.stakes.specs.Parts.{stakes, size, part_of, over_part}
use Rattle.stakes.specs.Season.{SeasonState, season_of, stake_state}
use Rattle.season.specs.Changes.{open_stake_out, season_open_out}
use Rattle.season_query.specs.Reads.{fit_from, validate_from, stake_fit_out, band_from, stake_band_out, loss_from, stake_loss_out, scores_from, stake_scores_out, split_from, stake_split_out}
use Rattle.reporting.specs.Reports.{ReportAnswer}
use Rattle.season_report.specs.Reports.{parts_of, over_parts, stake_report_out, Reported, season_report}
use Rattle.seasons.specs.Calls.{StakeChange, StakeCall, alters, looks, SeasonCall, names, of_stake, as_stake, own_book, book_next, refused_told, season_next, season_reply, season_book, reports_of, passed_of, own_call, own_reply}

-- ---- a call on one stake changes no count, column or sum of another

abbrev pub LeavesOthers : Type 0
LeavesOthers =
    (S : SeasonState) (s t : ℕ) (c : StakeCall) → t < stakes → (t ≡ s → ⊥) → stake_state t (season_next S (names s c)) ≡ stake_state t S

-- ---- a refused call leaves the counts, the columns and the sums, whether the season's own tests refuse it or the book's

abbrev pub RefusedLeaves : Type 0
RefusedLeaves = (S : SeasonState) (c : SeasonCall) (r : Refusal) → season_reply S c ≡ of_stake (said (Err r)) → season_next S c ≡ S

-- ---- no call changes what is past the 32 parts, which is nobody's

abbrev pub rest : {A : Type 0} → List A → List A
rest l = drop (stakes * size l) l

abbrev pub season_rest : SeasonState → SeasonState
season_rest S = season_of (drop stakes S.counts) (λ k. rest (S.columns k)) (rest S.sums)

abbrev pub LeavesRest : Type 0
LeavesRest = (S : SeasonState) (c : SeasonCall) → season_rest (season_next S c) ≡ season_rest S

-- ---- a stake number above 31 gets 18, before every other check, and changes nothing

pub record Stray (S : SeasonState) (s : ℕ) : Type 0 where
  pub changes : (c : StakeChange) → season_reply S (names s (alters c)) ≡ of_stake (said (refused_by 18))
  pub reads : (q : ReadCall) → season_reply S (names s (looks q)) ≡ of_stake (told (refused_told q 18))
  pub season : (c : StakeCall) → season_next S (names s c) ≡ S

abbrev pub Strays : Type 0
Strays = (S : SeasonState) (s : ℕ) → stakes ≤ s → Stray S s

-- ---- and a call that reads one stake writes no place of another's parts, nor of what is past the 32

-- what is seen of the memory l stands where values go to the part of stake s
abbrev pub Stands : ((A : Type 0) → List A → List A) → ℕ → List Float → List Float → Type 0
Stands seen s l values = seen Float (over_part s values l) ≡ seen Float l

-- of each memory that a report writes
abbrev pub seen_of : ((A : Type 0) → List A → List A) → Outputs → Outputs
seen_of seen w =
    record {
      scratch = seen _ w.scratch;
      coefficients = seen _ w.coefficients;
      errors = seen _ w.errors;
      pruned = seen _ w.pruned;
      lower = seen _ w.lower;
      upper = seen _ w.upper;
      outliers = seen _ w.outliers;
    }

pub record ReadsLeave (seen : (A : Type 0) → List A → List A) (s : ℕ) (S : SeasonState) : Type 0 where
  pub report : (settings : Settings) (w : Outputs) → seen_of seen (over_parts s (stake_report_out settings s S w).written w) ≡ seen_of seen w
  pub fit : (degree : ℕ) (l c : List Float)
      → Stands seen s l (stake_fit_out (fit_from degree) s S l c).scratch × Stands seen s c (stake_fit_out (fit_from degree) s S l c).coefficients
  pub validate : (folds : ℕ) (bound : DegreeBound) (criterion : Criterion) (l c : List Float)
      → Stands seen s l (stake_fit_out (validate_from folds bound criterion) s S l c).scratch
      × Stands seen s c (stake_fit_out (validate_from folds bound criterion) s S l c).coefficients
  pub band : (x : Float) (degree : ℕ) (confidence : Confidence) (tolerance : Tolerance) (l : List Float)
      → Stands seen s l (stake_band_out (band_from x degree confidence tolerance) s S l).scratch
  pub losses : (settings : Settings) (d l : List Float) → Stands seen s l (stake_loss_out (loss_from settings d) s S l).scratch
  pub scores : (settings : Settings) (b : List ℕ) (d l : List Float) → Stands seen s l (stake_scores_out (scores_from settings b d) s S l).scratch
  pub split : (settings : Settings) (limit : ℕ) (f g l : List Float) → Stands seen s l (stake_split_out (split_from settings limit f g) s S l).scratch

abbrev pub ReadsLeaveOthers : Type 0
ReadsLeaveOthers = (s t : ℕ) (S : SeasonState) → t < stakes → (t ≡ s → ⊥) → ReadsLeave (λ A l. part_of t l) s S

abbrev pub ReadsLeaveRest : Type 0
ReadsLeaveRest = (s : ℕ) (S : SeasonState) → ReadsLeave (λ A l. rest l) s S

-- ---- a season report

-- of the stakes together: each one's report on the memory as it was found
pub record EachReports (settings : Settings) (S : SeasonState) (w : Outputs) : Type 0 where
  pub told : (season_report settings S w).reports ≡ map (λ o. o.answer) (reports_of settings (places_of w) S)
  pub passed : (season_report settings S w).passed ≡ passed_of (reports_of settings (places_of w) S)
  -- stake t's answer, and its parts of the written memory, are those of its own report
  pub answer : (t : ℕ) → t < stakes → (d : ReportAnswer) → get_or (season_report settings S w).reports t d ≡ (stake_report_out settings t S w).answer
  pub written : (t : ℕ) → t < stakes → parts_of t (season_report settings S w).lent ≡ over_all (stake_report_out settings t S w).written (parts_of t w)
  -- the rest is nobody's, and at most 32 are not refused
  pub rest : seen_of (λ A l. rest l) (season_report settings S w).lent ≡ seen_of (λ A l. rest l) w
  pub most : (season_report settings S w).passed ≤ stakes

-- ---- any list of calls

-- stake t's replies, and its part of each season report's, are those of a book of its own given its own calls, which it then is
pub record OnItsOwn (S : SeasonState) (t : ℕ) (cs : List SeasonCall) : Type 0 where
  pub replies : map (own_reply t) (pick (own_call t) cs (replies_of season_book S cs)) ≡ replies_of own_book (stake_state t S) (only (own_call t) cs)
  pub book : stake_state t (fold season_next S cs) ≡ fold book_next (stake_state t S) (only (own_call t) cs)

-- from any season of 32 counts
abbrev pub StakeByStake : Type 0
StakeByStake = (S : SeasonState) → stakes ≤ length S.counts → (t : ℕ) → t < stakes → (cs : List SeasonCall) → OnItsOwn S t cs

-- demand 3, stake by stake: from a season just opened, of any list in which the calls of stake t are calls of the ledger's lists
pub record StakeWhole (columns : Columns) (sums : List Float) (S : SeasonState) (t : ℕ) (cs : List SeasonCall) (ds : List (Call ReadCall)) : Type 0 where
  pub replies : map (own_reply t) (pick (own_call t) cs (replies_of season_book S cs)) ≡ program_replies read_on (opened columns sums) ds
  pub book : stake_state t (fold season_next S cs) ≡ final (opened columns sums) ds
  pub whole : WholeBook columns sums ds

-- wherever the stake is a book just opened, by the opening of all or by its own
abbrev pub WholeStake : Type 0
WholeStake =
    (S : SeasonState) → stakes ≤ length S.counts → (t : ℕ) → t < stakes → (columns : Columns) (sums : List Float) → (open_out sums).answer ≡ book_of 0
    → stake_state t S ≡ opened columns sums → (cs : List SeasonCall) (ds : List (Call ReadCall)) → only (own_call t) cs ≡ map as_stake ds
    → StakeWhole columns sums S t cs ds

-- after open_stake
abbrev pub OpenedStake : Type 0
OpenedStake =
    (S : SeasonState) (t : ℕ) → (open_stake_out t S).answer ≡ book_of 0 → (cs : List SeasonCall) (ds : List (Call ReadCall)) → only (own_call t) cs ≡ map as_stake ds
    → StakeWhole (λ k. part_of t (S.columns k)) (part_of t S.sums) (open_stake_out t S).season t cs ds

abbrev pub WholeStakes : Type 0
WholeStakes =
    (S : SeasonState) → (season_open_out S).answer ≡ book_of 0 → (t : ℕ) → t < stakes → (cs : List SeasonCall) (ds : List (Call ReadCall))
    → only (own_call t) cs ≡ map as_stake ds
    → StakeWhole (λ k. part_of t (S.columns k)) (part_of t S.sums) (season_open_out S).season t cs ds

-- ---- the user's case

-- the second of two season reports on the same lent memory, with changes of stake s between them
abbrev pub changed_by : SeasonState → ℕ → List StakeChange → SeasonState
changed_by S s cs = fold season_next S (map (λ c. names s (alters c)) cs)

abbrev pub report_after : Settings → SeasonState → Outputs → ℕ → List StakeChange → Reported
report_after settings S w s cs = season_report settings (changed_by S s cs) (season_report settings S w).lent

-- Correct one stake, and nothing else, between two season reports with the same settings and lent memory, and the other 31 reports keep their bits, refused or
-- not: the answer, and every written place of the stake's parts. NaNs are one value.
pub record KeepsBits (settings : Settings) (S : SeasonState) (w : Outputs) (s : ℕ) (cs : List StakeChange) (t : ℕ) : Type 0 where
  pub answer : (d : ReportAnswer) → get_or (report_after settings S w s cs).reports t d ≡ get_or (season_report settings S w).reports t d
  pub written : parts_of t (report_after settings S w s cs).lent ≡ parts_of t (season_report settings S w).lent

-- corrections, one or more, are such changes, and so is every other call that changes the stake, refused or not
abbrev pub OneCorrected : Type 0
OneCorrected =
    (settings : Settings) (S : SeasonState) (w : Outputs) (s : ℕ) (cs : List StakeChange) (t : ℕ) → t < stakes → (t ≡ s → ⊥) → KeepsBits settings S w s cs t
