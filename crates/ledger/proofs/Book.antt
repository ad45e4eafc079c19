-- Demand 3, whole: any list of calls from a book just opened, with the words on each report.
use mathlib.Core.Path.{◌≡◌, refl, ap, ◌∙◌}
use mathlib.Core.List.{List, []}
use lib.ListN.{length}
use Rattle.runs.specs.RunLaws.{replies_at_lem}
use Rattle.samples.specs.declared.Sample.{Sample}
use Rattle.settings.specs.declared.Settings.{Settings}
use Rattle.reporting.specs.declared.Places.{Places}
use Rattle.report.specs.Refusals.{report_refusal}
use Rattle.report.specs.Reports.{report_on}
use Rattle.ledger.specs.Ledger.{reads, Lent, lent_of, ledger_next, ledger_reply, ledger, ledger_end, ledger_replies}
use Rattle.ledger.specs.ReadCalls.{reports, read_on}
use Rattle.ledger.specs.Words.{Words}
use Rattle.ledger.specs.Whole.{ledger_report, AnyList}
use Rattle.ledger.proofs.Whole.{whole_list}
use Rattle.ledger.proofs.Words.{past_chosen, words_of}

-- a report of the ledger that passes refusals 1 to 9
ledger_words : (m : Lent) (l : List Sample) (settings : Settings) (places : Places)
    → report_refusal (length l) settings l m.columns m.sums places ≡ 0 → Words settings l (ledger_report m l settings places)
unfolding report_on
ledger_words m l settings places h = words_of settings l (ledger_report m l settings places) (rw (h, past_chosen settings l) refl)

pub whole_book : AnyList
unfolding ledger_reply read_on
whole_book columns sums h cs =
    let m = lent_of columns sums in
    let w = whole_list read_on columns sums h cs in
    record {
      agrees = w;
      each_report = λ before settings places after e.
          let l = ledger_end m [] before in
          record {
            later = ledger_replies read_on m (ledger_next m l (reads (reports settings places))) after;
            stands = w.answered ∙ ap (ledger_replies read_on m []) e ∙ replies_at_lem (ledger read_on m) [] before (reads (reports settings places)) after;
            words = ledger_words m l settings places;
          };
    }
