-- What is claimed of eight groups that share one table. The theorems are proved in proofs/Isolation.antt, proofs/Ledgers.antt and proofs/Costing.antt. Definitions only.
use Rattle.std.specs.Prelude.{◌≡◌, List, [], ◌∷◌, ◌++◌, map, ℕ, ◌≤◌, ◌<◌, length, take, Float, Option, None, Some, Ok}
use Rattle.refusal.specs.Named.{number_of}
use Rattle.basis.specs.Sizes.{sum_places}
use Rattle.loops.specs.Fold.{fold}
use Rattle.runs.specs.Runs.{replies, only, pick, along}
use Rattle.samples.specs.declared.Sample.{Sample}
use Rattle.samples.specs.Columns.{Column, value, Columns}
use Rattle.monomial.specs.Rows.{weighted_rows}
use Rattle.monomial.specs.Sums.{sums_of}
use Rattle.refusal.specs.Refusals.{settle}
use Rattle.settings.specs.declared.Settings.{Settings}
use Rattle.reporting.specs.declared.Places.{Places}
use Rattle.reporting.specs.Reports.{ReportOut}
use Rattle.book.specs.Calls.{book_of, open_out}
use Rattle.ledger.specs.Ledger.{Call, Lent, lent_of, told, final, opened}
use Rattle.ledger.specs.ReadCalls.{ReadCall, Told, fit_reply, band_reply, report_reply, split_reply, loss_reply, scores_reply}
use Rattle.ledger.specs.Words.{Words}
use Rattle.ledger.specs.Whole.{WholeBook}
use Rattle.allowance.specs.Table.{groups, table_places, counter_of, quota_of, start_out}
use Rattle.groups.specs.Calls.{CostCall, group_reports, GroupCall, books, surfaces, costs, GroupReply, replied}
use Rattle.groups.specs.Ledger.{Fed, starts, renews, calls, GroupLedger, refused_by, costing, cost_told, group_next, group_ledger}
use Rattle.groups.specs.Shared.{Shared, SharedCall, shared_next, shared, mine, seen_by}

-- ---- isolation

-- A group's answers may depend on its own samples, settings, calls, the lengths of memory lent in them, the quota and the renewals, in their order, and on
-- nothing of the other seven: where it sees the same at first, and is fed the same, it gets the same replies, every value written among them, and ends with
-- the same book, columns, sums and counter. ds may be the list without the others' calls.
abbrev pub Isolated : Type 0
Isolated =
    (group : ℕ) → group < groups → (s t : Shared) → table_places ≤ length s.table → length s.table ≡ length t.table → seen_by group s ≡ seen_by group t
    → (cs ds : List SharedCall) → only (mine group) cs ≡ only (mine group) ds
    → (pick (mine group) cs (replies shared s cs) ≡ pick (mine group) ds (replies shared t ds))
    × (seen_by group (fold shared_next s cs) ≡ seen_by group (fold shared_next t ds))

-- ---- the ledger

-- what the program keeps of a group is what the group's ledger has
pub record Keeps (group : ℕ) (s : Shared) (g : GroupLedger) : Type 0 where
  pub book : (s.books group).count ≡ length g.samples
  pub below : (k : Column) → take (s.books group).count ((s.books group).columns k) ≡ map (value k) g.samples
  pub sums : take sum_places (s.books group).sums ≡ sums_of (weighted_rows g.samples)
  pub counter : (seen_by group s).counter ≡ g.counter
  pub quota : (seen_by group s).quota ≡ g.quota

-- books just opened, and a table that holds anything
abbrev pub opened_on : (ℕ → Columns) → (ℕ → List Float) → List ℕ → Shared
opened_on columns sums table = record { books = λ h. opened (columns h) (sums h); table = table }

-- a group's ledger begins with no sample, and with the counter and quota of the table as it stands
abbrev pub ledger_of : ℕ → List ℕ → GroupLedger
ledger_of group table = record { samples = []; counter = counter_of table group; quota = quota_of table }

-- of what a group is fed, the calls of its book
abbrev pub book_call : Fed → Option (Call ReadCall)
book_call (starts q) = None
book_call renews = None
book_call (calls (books c)) = Some c
book_call (calls (surfaces q)) = None
book_call (calls (costs q)) = None

-- the claim of one group and the list of calls cs
pub record GroupWhole (columns : ℕ → Columns) (sums : ℕ → List Float) (table : List ℕ) (group : ℕ) (cs : List SharedCall) : Type 0 where
  -- A group's replies are those of its ledger, which is fed the quota, the renewals and the group's own calls, and keeps the counter by the rule.
  pub answered : pick (mine group) cs (replies shared (opened_on columns sums table) cs)
      ≡ replies (group_ledger group (length table) (lent_of (columns group) (sums group))) (ledger_of group table) (only (mine group) cs)
  pub keeps : Keeps group (fold shared_next (opened_on columns sums table) cs)
      (fold (group_next group (length table) (lent_of (columns group) (sums group))) (ledger_of group table) (only (mine group) cs))
  -- Its book, with every place of columns and sums, is the one that its own calls leave, and of these demand 3 holds whole.
  pub book : (fold shared_next (opened_on columns sums table) cs).books group ≡ final (opened (columns group) (sums group)) (only book_call (only (mine group) cs))
  pub demand_3 : WholeBook (columns group) (sums group) (only book_call (only (mine group) cs))

-- Take any list of starts, renewals and calls of all groups, refused ones included, in any order, from books just opened. The quota may be set by any call of the list; before it the counters are
-- what stands in the table.
abbrev pub AnyTable : Type 0
AnyTable =
    (columns : ℕ → Columns) (sums : ℕ → List Float) (table : List ℕ) → table_places ≤ length table → (group : ℕ) → group < groups
    → (open_out (sums group)).answer ≡ book_of 0 → (cs : List SharedCall) → GroupWhole columns sums table group cs

-- the same from a table just started with the quota
abbrev pub begun : (ℕ → Columns) → (ℕ → List Float) → ℕ → List ℕ → Shared
begun columns sums quota table = opened_on columns sums (start_out quota table).table

abbrev pub new_ledger : ℕ → GroupLedger
new_ledger quota = record { samples = []; counter = quota; quota = quota }

abbrev pub AnyGroups : Type 0
AnyGroups =
    (columns : ℕ → Columns) (sums : ℕ → List Float) (quota : ℕ) (table : List ℕ) → (start_out quota table).answer ≡ (Ok tt)
    → (group : ℕ) → group < groups → (open_out (sums group)).answer ≡ book_of 0 → (cs : List SharedCall)
    → let m = lent_of (columns group) (sums group) in
    let fed = only (mine group) cs in
    (pick (mine group) cs (replies shared (begun columns sums quota table) cs) ≡ replies (group_ledger group (length table) m) (new_ledger quota) fed)
    × Keeps group (fold shared_next (begun columns sums quota table) cs) (fold (group_next group (length table) m) (new_ledger quota) fed)

-- ---- a call that costs, by the ledger

-- the number of an answer: 0 where it is none
unfoldable pub told_number : Told → ℕ
told_number (fit_reply o) = number_of o.answer
told_number (band_reply o) = number_of o.answer
told_number (report_reply o) = number_of o.answer
told_number (split_reply o) = number_of o.answer
told_number (loss_reply o) = number_of o.answer
told_number (scores_reply o) = number_of o.answer

-- group is the group's number, table the length of the table, l the ledger's samples
module _ (group table : ℕ) (m : Lent) (counter : ℕ) (l : List Sample) where
  pub record Costs (q : CostCall) : Type 0 where
    -- 16 comes exactly where 1 to 9 do not, and the ledger's counter is below the cost
    pub over : refused_by group table m l q ≡ 0 → counter < costing group table m l q → told_number (cost_told group table m counter l q) ≡ 16
    pub only_over : told_number (cost_told group table m counter l q) ≡ 16 → (refused_by group table m l q ≡ 0) × (counter < costing group table m l q)

  -- Demand 3 speaks of the reports that 16 and 17 let through: its words hold of them.
  abbrev pub ReportLetThrough : Settings → Places → Type 0
  ReportLetThrough settings places =
      refused_by group table m l (group_reports settings places) ≡ 0 → costing group table m l (group_reports settings places) ≤ counter
      → (o : ReportOut) × (cost_told group table m counter l (group_reports settings places) ≡ report_reply o) × Words settings l o

-- a call that costs, which stands in what a group is fed after `before`; all are what the group is replied: its reply comes after theirs, and is that of the ledger which they leave
pub record CostedIn (group table : ℕ) (m : Lent) (start : GroupLedger) (before : List Fed) (q : CostCall) (all : List GroupReply) : Type 0 where
  pub later : List GroupReply
  pub stands : all
      ≡ replies (group_ledger group table m) start before
      ++ (replied (told (cost_told group table m (fold (group_next group table m) start before).counter (fold (group_next group table m) start before).samples q)) ∷ later)
  pub costs : Costs group table m (fold (group_next group table m) start before).counter (fold (group_next group table m) start before).samples q
  -- of a report that 16 and 17 let through demand 3's words hold
  pub words : (settings : Settings) (places : Places) → q ≡ group_reports settings places
      → ReportLetThrough group table m (fold (group_next group table m) start before).counter (fold (group_next group table m) start before).samples settings places

-- each call that costs, in the run of all groups
abbrev pub AnyCost : Type 0
AnyCost =
    (columns : ℕ → Columns) (sums : ℕ → List Float) (table : List ℕ) → table_places ≤ length table → (group : ℕ) → group < groups
    → (open_out (sums group)).answer ≡ book_of 0 → (cs : List SharedCall) (before : List Fed) (q : CostCall) (after : List Fed)
    → only (mine group) cs ≡ before ++ (calls (costs q) ∷ after)
    → CostedIn group (length table) (lent_of (columns group) (sums group)) (ledger_of group table) before q (pick (mine group) cs (replies shared (opened_on columns sums table) cs))

-- ---- right after a renewal

-- the group's ledger made so many calls, of no start or renewal
abbrev pub after_calls : ℕ → ℕ → Lent → GroupLedger → GroupCall → GroupLedger
after_calls group table m g c = group_next group table m g (calls c)

-- what a call costs: nothing, unless it is one that costs and 1 to 9 let it through
abbrev pub cost_for : ℕ → ℕ → Lent → GroupLedger → GroupCall → ℕ
cost_for group table m g (books c) = 0
cost_for group table m g (surfaces q) = 0
cost_for group table m g (costs q) = settle (refused_by group table m g.samples q) (costing group table m g.samples q) 0

-- Right after a renewal, or a start, the counter is the quota;
abbrev pub Refilled : Type 0
Refilled =
    (group table : ℕ) (m : Lent) (g : GroupLedger) → table_places ≤ table
    → ((group_next group table m g renews).counter ≡ g.quota) × ((q : ℕ) → (group_next group table m g (starts q)).counter ≡ q)

-- and work that costs at most what the counter has gets through: of a list of the group's calls whose costs add up to at most that none is refused by 16. What the other groups do
-- meanwhile does not matter, by isolation.
abbrev pub GetsThrough : Type 0
GetsThrough =
    (group table : ℕ) (m : Lent) (g : GroupLedger) (before : List GroupCall) (q : CostCall) (after : List GroupCall)
    → along (after_calls group table m) (cost_for group table m) g (before ++ (costs q ∷ after)) ≤ g.counter
    → let then = fold (after_calls group table m) g before in
    told_number (cost_told group table m then.counter then.samples q) ≡ 16 → ⊥

-- of the replies to what a group is fed, the one after so many is that of a call that costs, and not 16
pub record LetThrough (place : ℕ) (all : List GroupReply) : Type 0 where
  pub earlier : List GroupReply
  pub answer : Told
  pub later : List GroupReply
  pub long : length earlier ≡ place
  pub stands : all ≡ earlier ++ (replied (told answer) ∷ later)
  pub through : told_number answer ≡ 16 → ⊥

-- In the run of all groups: of a group's work right after a renewal, which costs at most the quota, no call gets 16, whatever the others call meanwhile. `first` is what the group was fed
-- before the renewal.
abbrev pub RightAfter : Type 0
RightAfter =
    (columns : ℕ → Columns) (sums : ℕ → List Float) (table : List ℕ) → table_places ≤ length table → (group : ℕ) → group < groups
    → (open_out (sums group)).answer ≡ book_of 0 → (cs : List SharedCall) (first : List Fed) (before : List GroupCall) (q : CostCall) (after : List GroupCall) (rest : List Fed)
    → only (mine group) cs ≡ (first ++ (renews ∷ map (λ c. calls c) before)) ++ (calls (costs q) ∷ (map (λ c. calls c) after ++ rest))
    → let m = lent_of (columns group) (sums group) in
    let n = length table in
    let g = group_next group n m (fold (group_next group n m) (ledger_of group table) first) renews in
    along (after_calls group n m) (cost_for group n m) g (before ++ (costs q ∷ after)) ≤ g.quota
    → LetThrough (length (first ++ (renews ∷ map (λ c. calls c) before))) (pick (mine group) cs (replies shared (opened_on columns sums table) cs))
