-- A report of one stake: from what the book's own report promises on the stake's parts to what the season's promises, refused and not.
use Rattle.std.specs.Prelude.{Bool, Result, Ok, Err, IsErrAnd, ◌≤◌}
use Rattle.std.specs.Int.{from_bool}
use Rattle.std.proofs.Common.{arith}
use Rattle.std.specs.Result.{is_ok}
use mathlib.Core.Path.{◌≡◌, refl, sym, ap, ◌∙◌}
use Prim.Native.Nat.{ℕ, ◌+◌}
use lib.ListN.{length, set}
use Rattle.book.specs.Calls.{State}
use Rattle.refusal.specs.declared.refusals.Refusal.{Refusal}
use Rattle.settings.specs.declared.Settings.{Settings}
use Rattle.reporting.specs.Outputs.{Outputs, nothing, over_all}
use Rattle.reporting.specs.Reports.{ReportAnswer, ReportOut, Does, refused_early}
use Rattle.stakes.specs.Parts.{with_part}
use Rattle.stakes.specs.Season.{SeasonState, stake_refusal}
use Rattle.stakes.specs.declared.Stake.{Stake}
use Rattle.stakes.specs.Stake.{book_held, StakeIs}
use Rattle.stakes.specs.SeasonLaws.{read_done, read_refused, none_over}
use Rattle.stakes.proofs.Pieces.{Piece, turned_away}
use Rattle.season_report.specs.Reports.{parts_of, over_parts, report_from, stake_report_out, StakeReportIs, passes, Reported, report_turn}

-- r is what `Season::stake` answered
module _ {s : ℕ} {S : SeasonState} {r : Result Stake Refusal} (is : StakeIs s S r) (settings : Settings) (w : Outputs) where
  abbrev refusal : ℕ
  refusal = stake_refusal s (length S.counts)

  abbrev call : State → ReportOut
  call b = report_from settings b (parts_of s w)

  -- where nothing is written, all is left
  none_over_all : w ≡ over_parts s nothing w
  none_over_all =
      λ j. record {
        scratch = none_over s w.scratch j;
        coefficients = none_over s w.coefficients j;
        errors = none_over s w.errors j;
        pruned = none_over s w.pruned j;
        lower = none_over s w.lower j;
        upper = none_over s w.upper j;
        outliers = none_over s w.outliers j;
      }

  pub report_refused : {e : Refusal} {a : ReportAnswer} → r ≡ Err e → IsErrAnd a (λ d. d ≡ e) → StakeReportIs s (stake_report_out settings s S w) a (record { found = w; left = w })
  report_refused h given =
      let away = turned_away is h given in
      let q : refused_early refusal ≡ stake_report_out settings s S w = sym (read_refused s S call refused_early refusal refl away.0) in
      record {
        answer = away.1 ∙ ap (λ (o : ReportOut). o.answer) q;
        outputs = none_over_all ∙ ap (λ (o : ReportOut). over_parts s o.written w) q;
      }

  -- parts put back
  abbrev put_back : Outputs → Outputs
  put_back q =
      record {
        scratch = with_part s q.scratch w.scratch;
        coefficients = with_part s q.coefficients w.coefficients;
        errors = with_part s q.errors w.errors;
        pruned = with_part s q.pruned w.pruned;
        lower = with_part s q.lower w.lower;
        upper = with_part s q.upper w.upper;
        outliers = with_part s q.outliers w.outliers;
      }

  pub report_done : {b : Stake} → r ≡ Ok b → {p q m : Outputs}
      → Piece s w.scratch p.scratch q.scratch m.scratch
      → Piece s w.coefficients p.coefficients q.coefficients m.coefficients
      → Piece s w.errors p.errors q.errors m.errors
      → Piece s w.pruned p.pruned q.pruned m.pruned
      → Piece s w.lower p.lower q.lower m.lower
      → Piece s w.upper p.upper q.upper m.upper
      → Piece s w.outliers p.outliers q.outliers m.outliers
      → {a : ReportAnswer} → Does (report_from settings (book_held b) p) a (record { found = p; left = q }) → StakeReportIs s (stake_report_out settings s S w) a (record { found = w; left = m })
  report_done {b = b} h {p = p} {q = q} {m = m} pt pc pe pp pl pu po i =
      let own = is.taken b h in
      let parts : p ≡ parts_of s w = λ j. record { scratch = pt.found j; coefficients = pc.found j; errors = pe.found j; pruned = pp.found j; lower = pl.found j; upper = pu.found j; outliers = po.found j } in
      let o : report_from settings (book_held b) p ≡ stake_report_out settings s S w
      = (λ j. report_from settings (own.1 j) (parts j)) ∙ sym (read_done s S call refused_early own.0) in
      let left : m ≡ put_back q = λ j. record { scratch = pt.left j; coefficients = pc.left j; errors = pe.left j; pruned = pp.left j; lower = pl.left j; upper = pu.left j; outliers = po.left j } in
      record {
        answer = i.answer ∙ ap (λ (o : ReportOut). o.answer) o;
        outputs = left ∙ ap put_back (i.outputs ∙ (λ j. over_all (o j).written (parts j)));
      }

-- ---- one turn of the season report: a is the stake's answer, p says whether it passed, and m is the memory that it left

-- a report that is not refused adds 1
pub passes_is : {p : ℕ} {b : Bool} (a : ReportAnswer) → p ≡ from_bool b → b ≡ is_ok a → (p ≡ passes a) × (p ≤ 1)
passes_is (Ok r) e q = rw (e, q) (refl, omega arith)
passes_is (Err k) e q = rw (e, q) (refl, omega arith)

pub turn_is : (settings : Settings) (S : SeasonState) (s : ℕ) (t : Reported) {a : ReportAnswer} {p : ℕ} {m : Outputs}
    → StakeReportIs s (stake_report_out settings s S t.lent) a (record { found = t.lent; left = m }) → p ≡ passes a
    → ◌≡◌ {A = Reported} (record { reports = set t.reports s a; passed = t.passed + p; lent = m }) (report_turn settings S s t)
unfolding report_turn
turn_is settings S s t i e =
    let q = e ∙ ap passes i.answer in
    λ j. record { reports = set t.reports s (i.answer j); passed = t.passed + q j; lent = i.outputs j }
