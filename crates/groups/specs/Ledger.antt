-- The plain ledger of one course group: its samples, its counter and the quota. It is fed the quota, the renewals and its group's calls, with the lengths of the
-- lent memory, and nothing of the other groups. Definitions only.
use Rattle.std.specs.Prelude.{List, ℕ, length, Ok}
use Rattle.refusal.specs.Named as named
use Rattle.runs.specs.Runs.{Machine}
use Rattle.samples.specs.declared.Sample.{Sample}
use Rattle.monomial.specs.Rows.{weighted_rows}
use Rattle.monomial.specs.Sums.{sums_of}
use Rattle.refusal.specs.Refusals.{settle}
use Rattle.ledger.specs.Ledger.{Lent, told, ledger_next, ledger_reply}
use Rattle.ledger.specs.ReadCalls.{Told, read_on}
use Rattle.allowance.specs.Table.{TableAnswer, table_refusal}
use Rattle.groups.specs.Calls.{surface_on, CostCall, GroupCall, books, surfaces, costs, GroupReply, tabled, replied, cost_refusal, cost_of, cost_reply, left_of}

-- what a group's ledger is fed
pub data Fed : Type 0 where
  starts : ℕ → Fed
  renews : Fed
  calls : GroupCall → Fed

pub record GroupLedger : Type 0 where
  pub samples : List Sample
  pub counter : ℕ
  pub quota : ℕ

-- start and renew answer 1 where the table is too short
abbrev pub table_answer : ℕ → TableAnswer
table_answer table = settle (table_refusal table) (Ok tt) (named.refused_by (table_refusal table))

-- group is its number, table the length of the table, m the lengths of its columns and sums
module _ (group table : ℕ) (m : Lent) where
  -- the number from 1 to 9, the cost and the reply of a call that costs, by the ledger's samples
  abbrev pub refused_by : List Sample → CostCall → ℕ
  refused_by l q = cost_refusal group table q (length l) l m.columns m.sums

  abbrev pub costing : List Sample → CostCall → ℕ
  costing l q = cost_of q (length l) l (sums_of (weighted_rows l))

  abbrev pub cost_told : ℕ → List Sample → CostCall → Told
  cost_told counter l q = cost_reply q (refused_by l q) counter (length l) l (sums_of (weighted_rows l))

  unfoldable pub group_next : GroupLedger → Fed → GroupLedger
  group_next g (starts q) = settle (table_refusal table) (record { samples = g.samples; counter = q; quota = q }) g
  group_next g renews = settle (table_refusal table) (record { samples = g.samples; counter = g.quota; quota = g.quota }) g
  group_next g (calls (books c)) = record { samples = ledger_next m g.samples c; counter = g.counter; quota = g.quota }
  group_next g (calls (surfaces q)) = g
  group_next g (calls (costs q)) =
      record { samples = g.samples; counter = left_of (refused_by g.samples q) g.counter (costing g.samples q); quota = g.quota }

  unfoldable pub group_reply : GroupLedger → Fed → GroupReply
  group_reply g (starts q) = tabled (table_answer table)
  group_reply g renews = tabled (table_answer table)
  group_reply g (calls (books c)) = replied (ledger_reply read_on m g.samples c)
  group_reply g (calls (surfaces q)) = replied (told (surface_on q))
  group_reply g (calls (costs q)) = replied (told (cost_told g.counter g.samples q))

  abbrev pub group_ledger : Machine GroupLedger Fed GroupReply
  group_ledger = record { step = group_next; reply = group_reply }
