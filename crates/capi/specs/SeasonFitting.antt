-- What the season's calls answer fits, as Fitting.antt has it of the book's, and reading a packed answer gives the answer back.
use Rattle.std.specs.Prelude.{◌≡◌, Bool, true, false, List, ℕ, ◌+◌, ◌≤◌, ◌<◌, eqb, length, get_or, set, Ok, Err}
use Rattle.std.proofs.Math.Path.{refl, subst}
use Rattle.std.proofs.Common.{◌∙◌, mod-eq_of_lt, eqb-true, length-set, get_or-set_same, get_or-set_other}
use Rattle.std.proofs.Math.Nat.{div-eq_of_lt}
use native.Mathlib.Omega.{arith}
use Rattle.std.proofs.lemmas.Bool.{eqb-false}
use Rattle.std.proofs.Math.ListN.{length-replicate}
use Rattle.std.proofs.lemmas.List.{get_or-replicate}
use Rattle.refusal.specs.Named.{refused_by}
use Rattle.refusal.specs.Refusals.{most_number}
use Rattle.refusal.specs.Laws.{among, numbered}
use Rattle.reporting.specs.declared.Report.{Report}
use Rattle.reporting.specs.Reports.{ReportAnswer}
use Rattle.loops.specs.Loop.{from, turns}
use Rattle.loops.specs.LoopLaws.{from_keeps, from_related}
use Rattle.loops.specs.PlaceLaws.{map_at}
use Rattle.book.specs.Calls.{Out, State}
use Rattle.ledger.specs.Ledger.{Change, adds, corrects, withdraws, frames, texts, windows, out_of}
use Rattle.settings.specs.declared.Settings.{Settings}
use Rattle.reporting.specs.Outputs.{Outputs, places_of}
use Rattle.stakes.specs.Parts.{stakes}
use Rattle.stakes.specs.Season.{SeasonState, stake_state, stake_tests, stake_refusal, season_open_refusal, read_stake}
use Rattle.season.specs.Changes.{SeasonOut, left_alone, on_stake, season_out, opens, open_stake_out, carries, carry_stake_out, season_open_out}
use Rattle.season_report.specs.ReportLaws.{passes_most}
use Rattle.season_report.specs.Reports.{parts_of, stake_report_out, passes, Reported, report_turn, unreported, season_report}
use Rattle.capi.specs.Packed.{packed_book, packed_report, BookFits, ReportFits}
use Rattle.capi.specs.Fitting.{settled_fits, open_fits, add_fits, correct_fits, withdraw_fits, frame_fits, lines_fits, window_fits, report_settles, report_fits}
use Rattle.capi.specs.CarryFitting.{carry_fits}
use Rattle.capi.specs.Reading.{number_in, count_in, BookRead, ReportRead}
use Rattle.capi.specs.ReadingLaws.{book_read, report_read}
use Rattle.capi.specs.SeasonPacked.{StakesFit, packed_stakes}

pub stake_most : (s n : ℕ) → stake_refusal s n ≤ most_number
unfolding stake_refusal
stake_most s n = omega (arith, among _ (numbered (stake_tests s n)))

-- ---- calls that change a season

change_fits : (b : State) (c : Change) → BookFits (out_of b c).answer
unfolding out_of
change_fits b (adds p) = add_fits b.count b.columns b.sums p
change_fits b (corrects i y) = correct_fits b.count b.columns b.sums i y
change_fits b (withdraws i) = withdraw_fits b.count b.columns b.sums i
change_fits b (frames f) = frame_fits b.count b.columns b.sums f
change_fits b (texts t) = lines_fits b.count b.columns b.sums t
change_fits b (windows p) = window_fits b.count b.columns b.sums p

module _ (s : ℕ) (S : SeasonState) where
  on_stake_fits : (call : State → Out) → ((b : State) → BookFits (call b).answer) → BookFits (on_stake s S call).answer
  unfolding on_stake
  on_stake_fits call h =
      let r = stake_refusal s (length S.counts) in
      settled_fits (λ (o : SeasonOut). o.answer) r _ (left_alone r S) refl (λ e. h (stake_state s S))

  pub season_fits : (c : Change) → BookFits (season_out s S c).answer
  season_fits c = on_stake_fits (λ b. out_of b c) (λ b. change_fits b c)

  pub open_stake_fits : BookFits (open_stake_out s S).answer
  open_stake_fits = on_stake_fits opens (λ b. open_fits b.sums)

  pub carry_stake_fits : BookFits (carry_stake_out s S).answer
  carry_stake_fits = on_stake_fits carries (λ b. carry_fits b.count b.columns b.sums)

  pub season_back : (c : Change) → (let a = (season_out s S c).answer in BookRead (packed_book a) a)
  season_back c = book_read _ (season_fits c)

  pub open_stake_back : (let a = (open_stake_out s S).answer in BookRead (packed_book a) a)
  open_stake_back = book_read _ open_stake_fits

  pub carry_stake_back : (let a = (carry_stake_out s S).answer in BookRead (packed_book a) a)
  carry_stake_back = book_read _ carry_stake_fits

pub season_open_fits : (S : SeasonState) → BookFits (season_open_out S).answer
unfolding season_open_out season_open_refusal BookFits
season_open_fits S =
    let r = season_open_refusal (length S.counts) (length S.sums) in
    settled_fits (λ (o : SeasonOut). o.answer) r _ (left_alone r S) refl (λ e. omega arith)

pub season_open_back : (S : SeasonState) → (let a = (season_open_out S).answer in BookRead (packed_book a) a)
season_open_back S = book_read _ (season_open_fits S)

-- ---- reports

-- one stake's answer more
set_fits : (told : List ReportAnswer) (j : ℕ) (a : ReportAnswer) → j < stakes → ReportFits a → StakesFit told → StakesFit (set told j a)
set_fits told j a h f all =
    record { long = length-set told j a ∙ all.long; fits = λ i l d. by_test i l d (eqb i j) refl }
  where
    by_test : (i : ℕ) → i < stakes → (d : ReportAnswer) (t : Bool) → eqb i j ≡ t → ReportFits (get_or (set told j a) i d)
    by_test i l d true e =
        rw (eqb-true i j e, get_or-set_same told j a d (omega (arith, h, all.long))) f
    by_test i l d false e = rw (get_or-set_other told j i a d (eqb-false i j e)) (all.fits i l d)

-- a count of 32 turns
all_turns : from (λ (j n : ℕ). n + 1) 0 stakes 0 ≡ stakes
unfolding from turns
all_turns = refl

module _ (settings : Settings) (S : SeasonState) where
  pub stake_report_fits : (s : ℕ) (w : Outputs) → ReportFits (stake_report_out settings s S w).answer
  unfolding read_stake
  stake_report_fits s w =
      let b = stake_state s S in
      report_settles (stake_refusal s (length S.counts)) _
      (λ e. report_fits b.count settings b.columns b.sums (places_of (parts_of s w)))

  pub stake_report_back : (s : ℕ) (w : Outputs) → (let a = (stake_report_out settings s S w).answer in ReportRead (packed_report a) a)
  stake_report_back s w = report_read _ (stake_report_fits s w)

  pub stakes_fit : (w : Outputs) → StakesFit (season_report settings S w).reports
  unfolding season_report report_turn ReportFits
  stakes_fit w =
      from_keeps (λ (t : Reported). StakesFit t.reports) (report_turn settings S) 0 stakes (unreported w)
      (λ j t a l f. set_fits t.reports j _ l (stake_report_fits j t.lent) f)
      (record {
        long = length-replicate stakes (refused_by {A = Report} 1);
        fits = λ i l d. rw (get_or-replicate stakes i (refused_by {A = Report} 1) d l) (omega arith, omega arith);
      })

  -- each of the 32 packed answers is read as its stake's
  pub stakes_back : (w : Outputs) (i : ℕ) → i < stakes → (d : ReportAnswer) (p : ℕ)
      → (let told = (season_report settings S w).reports in ReportRead (get_or (packed_stakes told) i p) (get_or told i d))
  stakes_back w i l d p =
      let f = stakes_fit w in
      let told = (season_report settings S w).reports in
      rw (map_at packed_report told i d p (omega (arith, l, f.long))) (report_read _ (f.fits i l d))

  -- at most 32 stakes pass
  pub passed_most : (w : Outputs) → (season_report settings S w).passed ≤ stakes
  unfolding season_report report_turn
  passed_most w =
      subst (λ n. (season_report settings S w).passed ≤ n) all_turns
      (from_related (λ (t : Reported) n. t.passed ≤ n) (report_turn settings S) (λ j n. n + 1) 0 stakes (unreported w) 0
      (λ j t n a l h. omega (arith, h, passes_most (stake_report_out settings j S t.lent).answer)) (omega arith))

  -- so their number is no refusal's
  pub passed_back : (w : Outputs) → (let n = (season_report settings S w).passed in (number_in n ≡ 0) × (count_in n ≡ n))
  passed_back w =
      let few = passed_most w in
      (div-eq_of_lt (omega (arith, few)), mod-eq_of_lt (omega (arith, few)))
