-- The program: eight groups, each with its own book, columns and sums, and one table that each call gets as the one before left it. Definitions only.
use Rattle.std.specs.Prelude.{cond, List, ℕ, eqb, length, take, Option, None, Some}
use Rattle.basis.specs.Sizes.{sum_places}
use Rattle.runs.specs.Runs.{Machine}
use Rattle.refusal.specs.Refusals.{settle}
use Rattle.samples.specs.declared.Sample.{Sample}
use Rattle.samples.specs.Columns.{samples_of, lengths}
use Rattle.surface.specs.Points.{points_of, point_lengths}
use Rattle.book.specs.Calls.{State}
use Rattle.ledger.specs.Ledger.{told, next, reply}
use Rattle.ledger.specs.ReadCalls.{Told, report_reply, split_reply, read_on}
use Rattle.allowance.specs.Table.{counter_of, quota_of, table_refusal, start_out, renew_out}
use Rattle.allowance.specs.Charges.{Charged, group_report_on, group_surface_on, group_split_on}
use Rattle.groups.specs.Calls.{surface_on, CostCall, group_reports, group_surfaces, group_splits, GroupCall, books, surfaces, costs, GroupReply, tabled, replied, cost_refusal, cost_of, cost_reply, left_of}
use Rattle.groups.specs.Ledger.{Fed, starts, renews, calls, table_answer}

pub record Shared : Type 0 where
  pub books : ℕ → State
  pub table : List ℕ

-- a start, a renewal, or a call of the group with this number
pub data SharedCall : Type 0 where
  start_all : ℕ → SharedCall
  renew_all : SharedCall
  of : ℕ → GroupCall → SharedCall

abbrev pub put_book : ℕ → State → (ℕ → State) → ℕ → State
put_book group s bs h = cond (eqb h group) s (bs h)

-- what a call that costs answers and writes, and the table after it: the definitions that the contracts of `group_report`, `group_surface_report` and
-- `group_split` promise
abbrev pub charged_as : {A : Type 0} → (A → Told) → Charged A → Charged Told
charged_as tell o = record { does = tell o.does; table = o.table }

unfoldable pub charge : ℕ → List ℕ → State → CostCall → Charged Told
charge group table s (group_reports settings places) =
    charged_as (λ o. report_reply o)
    (group_report_on group table s.count settings (samples_of s.count s.columns) (take sum_places s.sums) (lengths s.columns) (length s.sums) places)
charge group table s (group_surfaces n settings columns places) =
    charged_as (λ o. report_reply o) (group_surface_on group table n settings (points_of n columns) (point_lengths columns) places)
charge group table s (group_splits settings places) =
    charged_as (λ o. split_reply o)
    (group_split_on group table s.count settings (samples_of s.count s.columns) (lengths s.columns) (length s.sums) places)

unfoldable pub shared_next : Shared → SharedCall → Shared
shared_next s (start_all q) = record { books = s.books; table = (start_out q s.table).table }
shared_next s renew_all = record { books = s.books; table = (renew_out s.table).table }
shared_next s (of group (books c)) = record { books = put_book group (next (s.books group) c) s.books; table = s.table }
shared_next s (of group (surfaces q)) = s
shared_next s (of group (costs q)) = record { books = s.books; table = (charge group s.table (s.books group) q).table }

unfoldable pub shared_reply : Shared → SharedCall → GroupReply
shared_reply s (start_all q) = tabled (start_out q s.table).answer
shared_reply s renew_all = tabled (renew_out s.table).answer
shared_reply s (of group (books c)) = replied (reply read_on (s.books group) c)
shared_reply s (of group (surfaces q)) = replied (told (surface_on q))
shared_reply s (of group (costs q)) = replied (told (charge group s.table (s.books group) q).does)

abbrev pub shared : Machine Shared SharedCall GroupReply
shared = record { step = shared_next; reply = shared_reply }

-- of a list of calls, what a group is fed: the starts, the renewals and its own calls
abbrev pub mine : ℕ → SharedCall → Option Fed
mine group (start_all q) = Some (starts q)
mine group renew_all = Some renews
mine group (of h c) = cond (eqb h group) (Some (calls c)) None

-- ---- one group by itself

-- what a group sees: its book with columns and sums, its counter and the quota
pub record OneGroup : Type 0 where
  pub book : State
  pub counter : ℕ
  pub quota : ℕ

abbrev pub seen_by : ℕ → Shared → OneGroup
seen_by group s = record { book = s.books group; counter = counter_of s.table group; quota = quota_of s.table }

-- the same calls by what it sees alone; table is the length of the table
module _ (group table : ℕ) where
  abbrev pub own_samples : State → List Sample
  own_samples s = samples_of s.count s.columns

  abbrev pub own_refusal : State → CostCall → ℕ
  own_refusal s q = cost_refusal group table q s.count (own_samples s) (lengths s.columns) (length s.sums)

  abbrev pub own_cost : State → CostCall → ℕ
  own_cost s q = cost_of q s.count (own_samples s) (take sum_places s.sums)

  unfoldable pub one_next : OneGroup → Fed → OneGroup
  one_next g (starts q) = settle (table_refusal table) (record { book = g.book; counter = q; quota = q }) g
  one_next g renews = settle (table_refusal table) (record { book = g.book; counter = g.quota; quota = g.quota }) g
  one_next g (calls (books c)) = record { book = next g.book c; counter = g.counter; quota = g.quota }
  one_next g (calls (surfaces q)) = g
  one_next g (calls (costs q)) = record { book = g.book; counter = left_of (own_refusal g.book q) g.counter (own_cost g.book q); quota = g.quota }

  unfoldable pub one_reply : OneGroup → Fed → GroupReply
  one_reply g (starts q) = tabled (table_answer table)
  one_reply g renews = tabled (table_answer table)
  one_reply g (calls (books c)) = replied (reply read_on g.book c)
  one_reply g (calls (surfaces q)) = replied (told (surface_on q))
  one_reply g (calls (costs q)) =
      replied (told (cost_reply q (own_refusal g.book q) g.counter g.book.count (own_samples g.book) (take sum_places g.book.sums)))

  abbrev pub one_group : Machine OneGroup Fed GroupReply
  one_group = record { step = one_next; reply = one_reply }
