-- The season report, stake by stake: what the first b turns leave. Then the user's case.
use mathlib.Core.Path.{◌≡◌, refl, sym, ap, ap₂, ◌∙◌}
use mathlib.Core.List.{List, [], ◌∷◌, map, ◌++◌}
use Prim.Native.Nat.{ℕ, zero, suc, ◌+◌, ◌≤◌, ◌<◌}
use native.Mathlib.Omega.{arith}
use native.Mathlib.Numerals.{add-one}
use native.Mathlib.Nat.{eq-or-lt_of_le}
use mathlib.Core.Logic.{⊎_elim}
use lib.ListN.{length, get_or, set, drop, replicate, length-replicate}
use lib.Seq.{drop_at}
use Rattle.refusal.specs.Named.{refused_by}
use Rattle.loops.specs.Fold.{fold}
use Rattle.loops.specs.FoldLaws.{fold_table}
use Rattle.loops.specs.Loop.{from}
use Rattle.loops.specs.LoopLaws.{last_from, done}
use Rattle.loops.specs.Places.{each, table}
use Rattle.loops.specs.PlaceLaws.{each_again, each_table, length_table, map_table, table_at, table_same}
use Rattle.lent.specs.Written.{over}
use Rattle.settings.specs.declared.Settings.{Settings}
use Rattle.refusal.specs.Refusals.{settle}
use Rattle.reporting.specs.declared.Places.{Places}
use Rattle.reporting.specs.Outputs.{Outputs, places_of, over_all}
use Rattle.reporting.specs.declared.Report.{Report}
use Rattle.reporting.specs.Reports.{ReportAnswer, ReportOut, refused_early}
use Rattle.stakes.specs.Parts.{stakes}
use Rattle.stakes.specs.PartLaws.{length_over, over_own, over_other}
use Rattle.stakes.specs.Season.{SeasonState, stake_state, stake_refusal, read_stake}
use Rattle.season_report.specs.ReportLaws.{passes_most}
use Rattle.season_report.specs.Reports.{parts_of, over_parts, stake_report_out, passes, Reported, report_turn, unreported, season_report, report_from}
use Rattle.seasons.specs.Calls.{report_at, reports_of, passed_of}
use Rattle.seasons.specs.CallLaws.{report_is}
use Rattle.seasons.specs.Claims.{rest, seen_of, EachReports, changed_by, OneCorrected}
use Rattle.seasons.proofs.Stakes.{calls_counted, calls_leave_others}
use Rattle.seasons.proofs.Written.{Fits, stake_fits, rest_over}

-- a report depends on the lent memory by its lengths alone
same_places : (settings : Settings) (s : ℕ) (S : SeasonState) (v w : Outputs) → places_of v ≡ places_of w → stake_report_out settings s S v ≡ stake_report_out settings s S w
same_places settings s S v w e = report_is s S settings v ∙ ap (λ (p : Places). report_at settings p S s) e ∙ sym (report_is s S settings w)

-- and on the season by the stake's own book and the number of counts
same_book : (settings : Settings) (t : ℕ) (S T : SeasonState) (w : Outputs) → length T.counts ≡ length S.counts → stake_state t T ≡ stake_state t S
    → stake_report_out settings t T w ≡ stake_report_out settings t S w
unfolding read_stake
same_book settings t S T w n b =
    λ j. settle (stake_refusal t (n j)) (report_from settings (b j) (parts_of t w)) (refused_early (stake_refusal t (n j)))

-- ---- values written to the parts of stake s

module _ (s : ℕ) (h : s < stakes) (v w : Outputs) (f : Fits v (places_of (parts_of s w))) where
  parts_own : parts_of s (over_parts s v w) ≡ over_all v (parts_of s w)
  parts_own =
      λ j. record {
        scratch = over_own s w.scratch h v.scratch f.scratch j;
        coefficients = over_own s w.coefficients h v.coefficients f.coefficients j;
        errors = over_own s w.errors h v.errors f.errors j;
        pruned = over_own s w.pruned h v.pruned f.pruned j;
        lower = over_own s w.lower h v.lower f.lower j;
        upper = over_own s w.upper h v.upper f.upper j;
        outliers = over_own s w.outliers h v.outliers f.outliers j;
      }

  parts_other : (t : ℕ) → t < stakes → (t ≡ s → ⊥) → parts_of t (over_parts s v w) ≡ parts_of t w
  parts_other t k ne =
      λ j. record {
        scratch = over_other s w.scratch h v.scratch f.scratch t k ne j;
        coefficients = over_other s w.coefficients h v.coefficients f.coefficients t k ne j;
        errors = over_other s w.errors h v.errors f.errors t k ne j;
        pruned = over_other s w.pruned h v.pruned f.pruned t k ne j;
        lower = over_other s w.lower h v.lower f.lower t k ne j;
        upper = over_other s w.upper h v.upper f.upper t k ne j;
        outliers = over_other s w.outliers h v.outliers f.outliers t k ne j;
      }

  places_kept : places_of (over_parts s v w) ≡ places_of w
  places_kept =
      λ j. record {
        scratch = length_over s w.scratch h v.scratch f.scratch j;
        coefficients = length_over s w.coefficients h v.coefficients f.coefficients j;
        errors = length_over s w.errors h v.errors f.errors j;
        pruned = length_over s w.pruned h v.pruned f.pruned j;
        lower = length_over s w.lower h v.lower f.lower j;
        upper = length_over s w.upper h v.upper f.upper j;
        outliers = length_over s w.outliers h v.outliers f.outliers j;
      }

  rest_kept : seen_of (λ A l. rest l) (over_parts s v w) ≡ seen_of (λ A l. rest l) w
  rest_kept =
      λ j. record {
        scratch = rest_over s w.scratch v.scratch h f.scratch j;
        coefficients = rest_over s w.coefficients v.coefficients h f.coefficients j;
        errors = rest_over s w.errors v.errors h f.errors j;
        pruned = rest_over s w.pruned v.pruned h f.pruned j;
        lower = rest_over s w.lower v.lower h f.lower j;
        upper = rest_over s w.upper v.upper h f.upper j;
        outliers = rest_over s w.outliers v.outliers h f.outliers j;
      }

-- the same values written once more
twice : {A : Type 0} (v l : List A) → over v (over v l) ≡ over v l
twice {A} v l = ap (λ (r : List A). v ++ r) (drop_at v (drop (length v) l) (length v) refl)

twice_all : (v w : Outputs) → over_all v (over_all v w) ≡ over_all v w
twice_all v w =
    λ j. record {
      scratch = twice v.scratch w.scratch j;
      coefficients = twice v.coefficients w.coefficients j;
      errors = twice v.errors w.errors j;
      pruned = twice v.pruned w.pruned j;
      lower = twice v.lower w.lower j;
      upper = twice v.upper w.upper j;
      outliers = twice v.outliers w.outliers j;
    }

-- at most all are not refused
passed_most : (os : List ReportOut) (n : ℕ) → fold (λ (m : ℕ) (o : ReportOut). m + passes o.answer) n os ≤ n + length os
unfolding fold
passed_most [] n = omega arith
passed_most (o ∷ os) n = omega (arith, passes_most o.answer, passed_most os (n + passes o.answer))

-- ---- the turns

module _ (settings : Settings) (S : SeasonState) (w : Outputs) where
  -- each stake's own report, on the memory as it was found
  abbrev own : ℕ → ReportOut
  own s = stake_report_out settings s S w

  abbrev no_reports : List ReportAnswer
  no_reports = replicate stakes (refused_by {A = Report} 1)

  abbrev tell : ℕ → ReportAnswer
  tell s = (own s).answer

  -- after the first b stakes
  pub record Turned (b : ℕ) (t : Reported) : Type 0 where
    pub reports : t.reports ≡ each (λ s _. tell s) b no_reports
    pub passed : t.passed ≡ passed_of (table own b)
    pub places : places_of t.lent ≡ places_of w
    pub rest : seen_of (λ A l. rest l) t.lent ≡ seen_of (λ A l. rest l) w
    pub later : (s : ℕ) → b ≤ s → s < stakes → parts_of s t.lent ≡ parts_of s w
    pub done : (s : ℕ) → s < b → s < stakes → parts_of s t.lent ≡ over_all (own s).written (parts_of s w)

  turned_first : Turned 0 (unreported w)
  unfolding each table fold
  turned_first = record { reports = refl; passed = refl; places = refl; rest = refl; later = λ s h k. refl; done = λ s h k. absurd (omega arith) }

  module _ (b : ℕ) (h : b < stakes) (t : Reported) (g : Turned b t) where
    abbrev now_told : ReportOut
    now_told = stake_report_out settings b S t.lent

    same : now_told ≡ own b
    same = same_places settings b S t.lent w g.places

    fits : Fits now_told.written (places_of (parts_of b t.lent))
    fits = stake_fits settings b S t.lent

    done_by : (s : ℕ) → s < suc b → s < stakes → parts_of s (over_parts b now_told.written t.lent) ≡ over_all (own s).written (parts_of s w)
    done_by s k l =
        ⊎_elim
        (λ e.
        let q = ap (λ (x : ℕ). parts_of x (over_parts b now_told.written t.lent)) e in
        q ∙ parts_own b h now_told.written t.lent fits ∙ ap₂ (λ (o : ReportOut) (z : Outputs). over_all o.written z) same (g.later b (omega arith) h)
        ∙ sym (ap (λ (x : ℕ). over_all (own x).written (parts_of x w)) e))
        (λ m. parts_other b h now_told.written t.lent fits s l (λ e. omega (arith, m, e)) ∙ g.done s m l)
        (eq-or-lt_of_le {n = s} {m = b} (omega arith))

    turned_again : Turned (suc b) (report_turn settings S b t)
    unfolding report_turn
    turned_again =
        record {
          reports =
              ap₂ (λ (rs : List ReportAnswer) (o : ReportOut). set rs b o.answer) g.reports same
              ∙ each_again (λ s _. tell s) b no_reports (tell b) (omega (arith, h, length-replicate stakes (refused_by {A = Report} 1)))
              ∙ ap (λ (k : ℕ). each (λ s _. tell s) k no_reports) (add-one b);
          passed =
              ap₂ (λ (n : ℕ) (o : ReportOut). n + passes o.answer) g.passed same
              ∙ sym (fold_table (λ (n : ℕ) (o : ReportOut). n + passes o.answer) 0 own b) ∙ ap (λ (k : ℕ). passed_of (table own k)) (add-one b);
          places = places_kept b h now_told.written t.lent fits ∙ g.places;
          rest = rest_kept b h now_told.written t.lent fits ∙ g.rest;
          later = λ s k l. parts_other b h now_told.written t.lent fits s l (λ e. omega (arith, k, e)) ∙ g.later s (omega arith) l;
          done = done_by;
        }

  turned : (b : ℕ) → b ≤ stakes → Turned b (from (report_turn settings S) 0 b (unreported w))
  turned zero h = rw (done (report_turn settings S) 0 0 (unreported w) (omega arith)) turned_first
  turned (suc b) h =
      rw (last_from (report_turn settings S) 0 b (unreported w) (omega arith))
      (turned_again b (omega arith) (from (report_turn settings S) 0 b (unreported w)) (turned b (omega arith)))

  pub all_turned : Turned stakes (season_report settings S w)
  unfolding season_report
  all_turned = turned stakes (omega arith)

  -- the stakes' answers as a list
  all_told : (season_report settings S w).reports ≡ table tell stakes
  all_told = all_turned.reports ∙ each_table tell stakes no_reports (length-replicate stakes (refused_by {A = Report} 1))

  own_reports : table own stakes ≡ reports_of settings (places_of w) S
  own_reports = table_same own (report_at settings (places_of w) S) stakes (λ s h. report_is s S settings w)

  pub told_at : (t : ℕ) → t < stakes → (d : ReportAnswer) → get_or (season_report settings S w).reports t d ≡ tell t
  told_at t h d = ap (λ (rs : List ReportAnswer). get_or rs t d) all_told ∙ table_at tell stakes t d h

  pub each_reports : EachReports settings S w
  each_reports =
      record {
        told = all_told ∙ map_table (λ (o : ReportOut). o.answer) own stakes ∙ ap (map (λ (o : ReportOut). o.answer)) own_reports;
        passed = all_turned.passed ∙ ap passed_of own_reports;
        answer = told_at;
        written = λ t h. all_turned.done t h h;
        rest = all_turned.rest;
        most = rw all_turned.passed (omega (arith, passed_most (table own stakes) 0, length_table own stakes));
      }

-- ---- the user's case, for any season that is the same to stake t

module _ (settings : Settings) (S T : SeasonState) (w : Outputs) (t : ℕ) (h : t < stakes) (n : length T.counts ≡ length S.counts)
    (b : stake_state t T ≡ stake_state t S) where
  abbrev first : Reported
  first = season_report settings S w

  again : stake_report_out settings t T first.lent ≡ stake_report_out settings t S w
  again = same_places settings t T first.lent w (all_turned settings S w).places ∙ same_book settings t S T w n b

  same_answer : (d : ReportAnswer) → get_or (season_report settings T first.lent).reports t d ≡ get_or first.reports t d
  same_answer d = told_at settings T first.lent t h d ∙ ap (λ (o : ReportOut). o.answer) again ∙ sym (told_at settings S w t h d)

  same_written : parts_of t (season_report settings T first.lent).lent ≡ parts_of t first.lent
  same_written =
      let q = (all_turned settings S w).done t h h in
      (all_turned settings T first.lent).done t h h ∙ ap₂ (λ (o : ReportOut) (z : Outputs). over_all o.written z) again q
      ∙ twice_all (stake_report_out settings t S w).written (parts_of t w) ∙ sym q

pub one_corrected : OneCorrected
one_corrected settings S w s cs t h ne =
    let T = changed_by S s cs in
    let n : length T.counts ≡ length S.counts = calls_counted s cs S in
    let b : stake_state t T ≡ stake_state t S = calls_leave_others s t h ne cs S in
    record { answer = same_answer settings S T w t h n b; written = same_written settings S T w t h n b }
