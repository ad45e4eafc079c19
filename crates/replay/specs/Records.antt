-- How a list of calls stands in lent buffers: the k-th call has 5 kinds from place 5 k on, 9 words from 9 k on, and 5 numbers from 5 k on.
-- Definitions only.
use Rattle.std.specs.Prelude.{Bool, cond, ◌&&◌, ◌||◌, List, ℕ, zero, suc, ◌+◌, ◌*◌, ◌/◌, leb, eqb, length, get_or, Float}
use Rattle.std.specs.Float.{nan}
use Rattle.loops.specs.Fold.{all_of}
use Rattle.loops.specs.Places.{table}
use Rattle.basis.specs.Sizes.{sum_places}
use Rattle.settings.specs.Numbers.{settings_of}
use Rattle.settings.specs.declared.Settings.{Settings}
use Rattle.reporting.specs.declared.Places.{Places}
use Rattle.replay.specs.declared.Buffers.{Buffers}
use Rattle.ledger.specs.Ledger.{Call, changes, reads, adds, corrects, withdraws}
use Rattle.ledger.specs.ReadCalls.{ReadCall, reports}

-- the rule of pruning by the kind of the call: 4 is a report by size, every other has polyfit's rule
unfoldable pub pruning_by : ℕ → ℕ
pruning_by kind = cond (eqb kind 4) 1 0

-- the kinds: of the call, of the bound, the criterion, the confidence and the tolerance;
-- the words: the index, the bound's degree, and the lengths of scratch, coefficients, errors, pruning bytes, lower, upper and outlier bytes;
-- the numbers: x, y, the weight, the Custom score, and the tolerance's number
unfoldable pub settings_at : List ℕ → List ℕ → List Float → ℕ → Settings
settings_at kinds words numbers k =
    settings_of (get_or kinds (5 * k + 1) 0) (get_or words (9 * k + 1) 0) (get_or kinds (5 * k + 2) 0) (get_or kinds (5 * k + 3) 0) (get_or numbers (5 * k + 3) nan)
    (get_or kinds (5 * k + 4) 0) (get_or numbers (5 * k + 4) nan) (pruning_by (get_or kinds (5 * k) 0))

unfoldable pub places_at : List ℕ → ℕ → Places
places_at words k =
    record {
      scratch = get_or words (9 * k + 2) 0;
      coefficients = get_or words (9 * k + 3) 0;
      errors = get_or words (9 * k + 4) 0;
      pruned = get_or words (9 * k + 5) 0;
      lower = get_or words (9 * k + 6) 0;
      upper = get_or words (9 * k + 7) 0;
      outliers = get_or words (9 * k + 8) 0;
    }

-- a call by its kind: 0 add, 1 correct, 2 withdraw, else report (4 by size, every other with polyfit's rule of pruning)
unfoldable pub call_of : ℕ → ℕ → Float → Float → Float → Settings → Places → Call ReadCall
call_of zero i x y w settings places = changes (adds (record { x = x; y = y; w = w }))
call_of (suc zero) i x y w settings places = changes (corrects i y)
call_of (suc (suc zero)) i x y w settings places = changes (withdraws i)
call_of (suc (suc (suc kind))) i x y w settings places = reads (reports settings places)

unfoldable pub call_at : List ℕ → List ℕ → List Float → ℕ → Call ReadCall
call_at kinds words numbers k =
    call_of (get_or kinds (5 * k) 0) (get_or words (9 * k) 0) (get_or numbers (5 * k) nan) (get_or numbers (5 * k + 1) nan) (get_or numbers (5 * k + 2) nan)
    (settings_at kinds words numbers k) (places_at words k)

-- as many calls as there are whole records of kinds
abbrev pub call_count : List ℕ → ℕ
call_count kinds = length kinds / 5

unfoldable pub calls_of : List ℕ → List ℕ → List Float → List (Call ReadCall)
calls_of kinds words numbers = table (call_at kinds words numbers) (call_count kinds)

-- ---- well formed

-- a buffer of so many places holds m windows of this width
abbrev pub holds : ℕ → ℕ → ℕ → Bool
holds width m places = eqb width 0 || leb m (places / width)

-- a record's memory fits into windows of this width
unfoldable pub fits_in : ℕ → Places → Bool
fits_in width p =
    leb p.scratch width && leb p.coefficients width && leb p.errors width && leb p.pruned width && leb p.lower width && leb p.upper width
    && leb p.outliers width

-- of every record
unfoldable pub all_fit : List ℕ → ℕ → ℕ → Bool
all_fit words width m = all_of (fits_in width) (table (places_at words) m)

-- memory of these lengths holds m windows each
unfoldable pub holds_all : ℕ → ℕ → Places → Bool
holds_all width m p =
    holds width m p.scratch && holds width m p.coefficients && holds width m p.errors && holds width m p.pruned && holds width m p.lower
    && holds width m p.upper && holds width m p.outliers

-- buffers of these lengths hold m records, five results a call, a window a call, and the 272 sums
unfoldable pub has_room : ℕ → ℕ → ℕ → ℕ → Buffers → Bool
has_room m words numbers width b =
    leb m (words / 9) && leb m (numbers / 5) && leb m (b.results / 5) && leb sum_places b.sums && holds_all width m b.outputs

-- they do, and every record's memory fits
unfoldable pub well_formed : List ℕ → List ℕ → List Float → ℕ → Buffers → Bool
well_formed kinds words numbers width b =
    has_room (call_count kinds) (length words) (length numbers) width b && all_fit words width (call_count kinds)
