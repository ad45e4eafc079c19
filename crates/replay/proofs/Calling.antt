-- One call: what it answers becomes its results, and what it leaves the next state.
use Rattle.std.specs.Prelude.{Ok, Err}
use mathlib.Core.Path.{◌≡◌, refl, ap, subst, ◌∙◌}
use mathlib.Core.List.{List, ◌++◌}
use Prim.Native.Nat.{ℕ, zero, suc, ◌+◌, ◌-◌, ◌≤◌, ◌<◌}
use native.Mathlib.Omega.{arith}
use lib.ListN.{length, take, drop}
use lib.Ieee.{Float}
use Rattle.book.specs.Calls.{Answer, Is, State, state_of, book_after, add_out, correct_out, withdraw_out}
use Rattle.samples.specs.Columns.{Columns}
use Rattle.settings.specs.declared.Settings.{Settings}
use Rattle.reporting.specs.declared.Places.{Places}
use Rattle.reporting.specs.Reports.{ReportAnswer, ReportOut, Does}
use Rattle.reporting.specs.Outputs.{Outputs, nothing, places_of}
use Rattle.ledger.specs.Ledger.{said, changes, reads, Change, adds, corrects, withdraws, out_of, next, reply}
use Rattle.ledger.specs.ReadCalls.{reports, read_on}
use Rattle.replay.specs.declared.Done.{Done}
use Rattle.replay.specs.Records.{call_of}
use Rattle.replay.specs.Replay.{results_of, report_results, written_of, over_all_at}
use Rattle.replay.specs.Steps.{results_in, change_record, report_record, Changed, Reported, Windows}
use Rattle.replay.proofs.Laws.{window_over, window_length, over_nothing}

-- what is recorded of an answer
pub change_count : (n : ℕ) (a : Answer) → (change_record n a).count ≡ book_after n a
unfolding change_record
change_count n (Ok b) = refl
change_count n (Err r) = refl

change_results : (n : ℕ) (a : Answer) → results_in (change_record n a) ≡ results_of (said a)
unfolding change_record results_of
change_results n (Ok b) = refl
change_results n (Err r) = refl

pub report_count : (n : ℕ) (a : ReportAnswer) → (report_record n a).count ≡ n
unfolding report_record
report_count n (Ok r) = refl
report_count n (Err r) = refl

pub report_results_lem : (n : ℕ) (a : ReportAnswer) → results_in (report_record n a) ≡ report_results a
unfolding report_record
report_results_lem n (Ok r) = refl
report_results_lem n (Err r) = refl

-- a call that changes a book
module _ (s : State) (c : Change) (r : Answer) (d : Done) (left : Columns) (t : List Float) where
  pub changed : Is (out_of s c) r left t → d ≡ change_record s.count r → Changed s (changes c) d left t
  unfolding next reply
  changed h e =
      let n = ap (λ (z : Done). z.count) e ∙ change_count s.count r ∙ ap (book_after s.count) h.answer in
      record {
        state = λ i. state_of (n i) (h.columns i) (h.sums i);
        results = ap results_in e ∙ change_results s.count r ∙ ap (λ z. results_of (said z)) h.answer;
      }

-- by its kind
module _ (kind i : ℕ) (x y w : Float) (settings : Settings) (places : Places) (n : ℕ) (columns : Columns) (sums : List Float) where
  module _ (r : Answer) (d : Done) (left : Columns) (t : List Float) (e : d ≡ change_record n r) where
    pub change_adds : kind ≡ 0 → Is (add_out n (record { x = x; y = y; w = w }) columns sums) r left t
        → Changed (state_of n columns sums) (call_of kind i x y w settings places) d left t
    unfolding call_of out_of
    change_adds q h = rw q (changed (state_of n columns sums) (adds (record { x = x; y = y; w = w })) r d left t h e)

    pub change_corrects : kind ≡ 1 → Is (correct_out n i y columns sums) r left t
        → Changed (state_of n columns sums) (call_of kind i x y w settings places) d left t
    unfolding call_of out_of
    change_corrects q h = rw q (changed (state_of n columns sums) (corrects i y) r d left t h e)

    pub change_withdraws : kind < 3 → (kind ≡ 0 → ⊥) → (kind ≡ 1 → ⊥) → Is (withdraw_out n i columns sums) r left t
        → Changed (state_of n columns sums) (call_of kind i x y w settings places) d left t
    unfolding call_of out_of
    change_withdraws l q₀ q₁ h =
        let q : kind ≡ 2 = omega (arith, q₀, q₁) in
        rw q (changed (state_of n columns sums) (withdraws i) r d left t h e)

-- a call that changes a book writes nothing else
none_written : (at : ℕ) (w : Outputs) → w ≡ over_all_at at nothing w
none_written at w = λ i. record {
  scratch = over_nothing at w.scratch i;
  coefficients = over_nothing at w.coefficients i;
  errors = over_nothing at w.errors i;
  pruned = over_nothing at w.pruned i;
  lower = over_nothing at w.lower i;
  upper = over_nothing at w.upper i;
  outliers = over_nothing at w.outliers i;
}

pub nothing_else : (kind i : ℕ) (x y w : Float) (settings : Settings) (places : Places) → kind < 3 → (s : State) (at : ℕ) (o : Outputs)
    → o ≡ over_all_at at (written_of (reply read_on s (call_of kind i x y w settings places))) o
unfolding call_of reply written_of
nothing_else zero i x y w settings places h s at o = none_written at o
nothing_else (suc zero) i x y w settings places h s at o = none_written at o
nothing_else (suc (suc zero)) i x y w settings places h s at o = none_written at o
nothing_else (suc (suc (suc k))) i x y w settings places h s at o = absurd (omega arith)

-- any other is a report
pub is_report_lem : (kind i : ℕ) (x y w : Float) (settings : Settings) (places : Places) → 3 ≤ kind
    → call_of kind i x y w settings places ≡ reads (reports settings places)
unfolding call_of
is_report_lem zero i x y w settings places h = absurd (omega arith)
is_report_lem (suc zero) i x y w settings places h = absurd (omega arith)
is_report_lem (suc (suc zero)) i x y w settings places h = absurd (omega arith)
is_report_lem (suc (suc (suc k))) i x y w settings places h = refl

-- ---- a report into windows

module _ (n at : ℕ) (p : Places) (w : Outputs) (room : Windows at p w) where
  -- the windows that are cut out
  abbrev cut : Outputs
  cut =
      record {
        scratch = take (at + p.scratch - at) (drop at w.scratch);
        coefficients = take (at + p.coefficients - at) (drop at w.coefficients);
        errors = take (at + p.errors - at) (drop at w.errors);
        pruned = take (at + p.pruned - at) (drop at w.pruned);
        lower = take (at + p.lower - at) (drop at w.lower);
        upper = take (at + p.upper - at) (drop at w.upper);
        outliers = take (at + p.outliers - at) (drop at w.outliers);
      }

  -- have the lengths that are asked for
  cut_is : places_of cut ≡ p
  cut_is = λ j. record {
    scratch = window_length at p.scratch w.scratch room.scratch j;
    coefficients = window_length at p.coefficients w.coefficients room.coefficients j;
    errors = window_length at p.errors w.errors room.errors j;
    pruned = window_length at p.pruned w.pruned room.pruned j;
    lower = window_length at p.lower w.lower room.lower j;
    upper = window_length at p.upper w.upper room.upper j;
    outliers = window_length at p.outliers w.outliers room.outliers j;
  }

  -- g is the report by its places; v is what it left in the windows, and is put back
  module _ (g : Places → ReportOut) (r : ReportAnswer) (d : Done) (v : Outputs) where
    abbrev filled : Outputs
    filled =
        record {
          scratch = take at w.scratch ++ (v.scratch ++ drop (at + p.scratch - at) (drop at w.scratch));
          coefficients = take at w.coefficients ++ (v.coefficients ++ drop (at + p.coefficients - at) (drop at w.coefficients));
          errors = take at w.errors ++ (v.errors ++ drop (at + p.errors - at) (drop at w.errors));
          pruned = take at w.pruned ++ (v.pruned ++ drop (at + p.pruned - at) (drop at w.pruned));
          lower = take at w.lower ++ (v.lower ++ drop (at + p.lower - at) (drop at w.lower));
          upper = take at w.upper ++ (v.upper ++ drop (at + p.upper - at) (drop at w.upper));
          outliers = take at w.outliers ++ (v.outliers ++ drop (at + p.outliers - at) (drop at w.outliers));
        }

    pub report_into : Does (g (places_of cut)) r (record { found = cut; left = v }) → length v.scratch ≡ length cut.scratch
        → length v.coefficients ≡ length cut.coefficients → length v.errors ≡ length cut.errors → length v.pruned ≡ length cut.pruned
        → length v.lower ≡ length cut.lower → length v.upper ≡ length cut.upper → length v.outliers ≡ length cut.outliers → d ≡ report_record n r
        → Reported n at (g p) d (record { found = w; left = filled })
    report_into h ls lc le lb ll lu lo q =
        let o = (g (places_of cut)).written in
        let e = h.outputs in
        subst (λ (z : ReportOut). Reported n at z d (record { found = w; left = filled })) (ap g cut_is)
        (record {
          done = q ∙ ap (report_record n) h.answer;
          wrote = λ i. record {
            scratch = window_over at (at + p.scratch - at) o.scratch w.scratch v.scratch (ap (λ (z : Outputs). z.scratch) e) ls i;
            coefficients = window_over at (at + p.coefficients - at) o.coefficients w.coefficients v.coefficients (ap (λ (z : Outputs). z.coefficients) e) lc i;
            errors = window_over at (at + p.errors - at) o.errors w.errors v.errors (ap (λ (z : Outputs). z.errors) e) le i;
            pruned = window_over at (at + p.pruned - at) o.pruned w.pruned v.pruned (ap (λ (z : Outputs). z.pruned) e) lb i;
            lower = window_over at (at + p.lower - at) o.lower w.lower v.lower (ap (λ (z : Outputs). z.lower) e) ll i;
            upper = window_over at (at + p.upper - at) o.upper w.upper v.upper (ap (λ (z : Outputs). z.upper) e) lu i;
            outliers = window_over at (at + p.outliers - at) o.outliers w.outliers v.outliers (ap (λ (z : Outputs). z.outliers) e) lo i;
          };
        })
