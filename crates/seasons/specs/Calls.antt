-- A season book and a list of calls on it, and a book of one stake alone with its own calls. The answers and what is left are the definitions that the contracts
-- of the season's calls promise. Definitions only.
use Rattle.std.specs.Prelude.{cond, List, [], ℕ, ◌+◌, ◌/◌, eqb, length, get_or, take, Option, None, Some}
use Rattle.basis.specs.Sizes.{sum_places}
use Rattle.loops.specs.Fold.{fold}
use Rattle.loops.specs.Places.{table}
use Rattle.runs.specs.Runs.{Machine}
use Rattle.samples.specs.Columns.{samples_of, lengths}
use Rattle.settings.specs.declared.Settings.{Settings}
use Rattle.book.specs.Calls.{Out, State, state_after}
use Rattle.measure.specs.Fits.{fit_refused}
use Rattle.measure.specs.Bands.{band_refused}
use Rattle.reporting.specs.declared.Places.{Places}
use Rattle.reporting.specs.Reports.{ReportOut, refused_early}
use Rattle.report.specs.Reports.{report_out}
use Rattle.split.specs.Splits.{split_refused}
use Rattle.losses.specs.Losses.{loss_refused}
use Rattle.scores.specs.Scores.{scores_refused}
use Rattle.ledger.specs.Ledger.{Change, Call, changes, reads, Reply, said, told, out_of}
use Rattle.ledger.specs.ReadCalls.{ReadCall, fits, validates, bands, reports, splits, losses, scores, Told, fit_reply, band_reply, report_reply, split_reply, loss_reply, scores_reply, read_on}
use Rattle.stakes.specs.Parts.{stakes}
use Rattle.stakes.specs.Season.{SeasonState, read_stake}
use Rattle.season.specs.Changes.{on_stake, opens, carries, season_open_out}
use Rattle.season_report.specs.Reports.{passes}

-- ---- calls

-- a call that changes the book of one stake
pub data StakeChange : Type 0 where
  changing : Change → StakeChange
  opening : StakeChange
  carrying : StakeChange

-- a call on the book of one stake. One that reads has the lengths of the memory lent to it.
pub data StakeCall : Type 0 where
  alters : StakeChange → StakeCall
  looks : ReadCall → StakeCall

-- a call on a season: one that names a stake, the opening of all stakes, or a season report. The lengths are those of memory lent whole.
pub data SeasonCall : Type 0 where
  names : ℕ → StakeCall → SeasonCall
  opens_all : SeasonCall
  seasonal : Settings → Places → SeasonCall

-- what comes back: of a call that names a stake what the book replies, of a season report each stake's report and the number of stakes not refused
pub data SeasonReply : Type 0 where
  of_stake : Reply Told → SeasonReply
  of_season : List ReportOut → ℕ → SeasonReply

-- ---- lengths by part

-- the places of a stake's parts, where these are lent whole
abbrev pub part_places : Places → Places
part_places p =
    record {
      scratch = p.scratch / stakes;
      coefficients = p.coefficients / stakes;
      errors = p.errors / stakes;
      pruned = p.pruned / stakes;
      lower = p.lower / stakes;
      upper = p.upper / stakes;
      outliers = p.outliers / stakes;
    }

-- Scratch and what a season report writes are cut; the two fits of a split, the losses, the solved bytes and the scores are lent for that call alone.
unfoldable pub by_part : ReadCall → ReadCall
by_part (fits degree scratch coefficients) = fits degree (scratch / stakes) (coefficients / stakes)
by_part (validates folds bound criterion scratch coefficients) = validates folds bound criterion (scratch / stakes) (coefficients / stakes)
by_part (bands x degree confidence tolerance scratch) = bands x degree confidence tolerance (scratch / stakes)
by_part (reports settings places) = reports settings (part_places places)
by_part (splits settings limit places) =
    splits settings limit (record { scratch = places.scratch / stakes; before = places.before; after = places.after })
by_part (losses settings scratch values) = losses settings (scratch / stakes) values
by_part (scores settings scratch solved values) = scores settings (scratch / stakes) solved values

-- ---- a book of its own

unfoldable pub out_by : StakeChange → State → Out
out_by (changing c) b = out_of b c
out_by opening b = opens b
out_by carrying b = carries b

abbrev pub read_from : ReadCall → State → Told
read_from q b = read_on q b.count (samples_of b.count b.columns) (take sum_places b.sums) (lengths b.columns) (length b.sums)

unfoldable pub book_next : State → StakeCall → State
book_next b (alters c) = state_after b.count (out_by c b)
book_next b (looks q) = b

unfoldable pub book_reply : State → StakeCall → Reply Told
book_reply b (alters c) = said (out_by c b).answer
book_reply b (looks q) = told (read_from q b)

abbrev pub own_book : Machine State StakeCall (Reply Told)
own_book = record { step = book_next; reply = book_reply }

-- a call of the ledger's lists is one of these
abbrev pub as_stake : Call ReadCall → StakeCall
as_stake (changes c) = alters (changing c)
as_stake (reads q) = looks q

-- ---- the season

-- a call that reads and is refused by the season's own tests
unfoldable pub refused_told : ReadCall → ℕ → Told
refused_told (fits degree scratch coefficients) r = fit_reply (fit_refused r)
refused_told (validates folds bound criterion scratch coefficients) r = fit_reply (fit_refused r)
refused_told (bands x degree confidence tolerance scratch) r = band_reply (band_refused r)
refused_told (reports settings places) r = report_reply (refused_early r)
refused_told (splits settings limit places) r = split_reply (split_refused r [])
refused_told (losses settings scratch values) r = loss_reply (loss_refused r)
refused_told (scores settings scratch solved values) r = scores_reply (scores_refused r)

abbrev pub read_season : ℕ → SeasonState → ReadCall → Told
read_season s S q = read_stake s S (read_from (by_part q)) (refused_told q)

-- the stakes' reports, each answer with the values that it writes
abbrev pub report_at : Settings → Places → SeasonState → ℕ → ReportOut
report_at settings places S s = read_stake s S (λ b. report_out b.count settings b.columns b.sums (part_places places)) refused_early

abbrev pub reports_of : Settings → Places → SeasonState → List ReportOut
reports_of settings places S = table (report_at settings places S) stakes

-- how many are not refused
abbrev pub passed_of : List ReportOut → ℕ
passed_of os = fold (λ n (o : ReportOut). n + passes o.answer) 0 os

unfoldable pub season_next : SeasonState → SeasonCall → SeasonState
season_next S (names s (alters c)) = (on_stake s S (out_by c)).season
season_next S (names s (looks q)) = S
season_next S opens_all = (season_open_out S).season
season_next S (seasonal settings places) = S

unfoldable pub season_reply : SeasonState → SeasonCall → SeasonReply
season_reply S (names s (alters c)) = of_stake (said (on_stake s S (out_by c)).answer)
season_reply S (names s (looks q)) = of_stake (told (read_season s S q))
season_reply S opens_all = of_stake (said (season_open_out S).answer)
season_reply S (seasonal settings places) = of_season (reports_of settings places S) (passed_of (reports_of settings places S))

abbrev pub season_book : Machine SeasonState SeasonCall SeasonReply
season_book = record { step = season_next; reply = season_reply }

-- ---- what is a stake's own in it

-- a call that names it, by its parts; and a season report is a report of each
unfoldable pub as_part : StakeCall → StakeCall
as_part (alters c) = alters c
as_part (looks q) = looks (by_part q)

unfoldable pub own_call : ℕ → SeasonCall → Option StakeCall
own_call t (names s c) = cond (eqb s t) (Some (as_part c)) None
own_call t opens_all = Some (alters opening)
own_call t (seasonal settings places) = Some (looks (reports settings (part_places places)))

unfoldable pub own_reply : ℕ → SeasonReply → Reply Told
own_reply t (of_stake r) = r
own_reply t (of_season os n) = told (report_reply (get_or os t (refused_early 1)))
