-- The table that eight course groups share: a counter for each, and the quota (document 02, E10). Definitions only.
use Rattle.std.specs.Prelude.{◌≡◌, List, [], ◌∷◌, ℕ, ◌-◌, length, get_or, set, replicate, Result, Ok, ⊤}
use Rattle.lent.specs.Written.{over}
use Rattle.refusal.specs.Refusals.{by, first_of, settle}
use Rattle.refusal.specs.Tests.{needed, any_short}
use Rattle.refusal.specs.declared.refusals.Refusal.{Refusal}
use Rattle.refusal.specs.Named.{refused_by}

-- Eight groups, numbered 0 to 7. The table has nine lent places: the counters of groups 0 to 7, and the quota.
abbrev pub groups : ℕ
groups = 8

abbrev pub table_places : ℕ
table_places = 9

abbrev pub counter_of : List ℕ → ℕ → ℕ
counter_of table group = get_or table group 0

abbrev pub quota_of : List ℕ → ℕ
quota_of table = get_or table groups 0

-- Each group's counter begins at one quota for all, set at the start.
unfoldable pub started : ℕ → List ℕ → List ℕ
started quota table = over (replicate table_places quota) table

-- Renew refills all eight.
unfoldable pub renewed : List ℕ → List ℕ
renewed table = over (replicate groups (quota_of table)) table

-- A call takes so many from its group's counter.
abbrev pub taken_from : List ℕ → ℕ → ℕ → List ℕ
taken_from table group taken = set table group (counter_of table group - taken)

-- ---- start and renew

-- 1: the table has fewer than nine places
unfoldable pub table_refusal : ℕ → ℕ
table_refusal table = first_of (by (any_short (needed table_places table ∷ [])) 1 ∷ [])

-- what they answer: nothing, or a refusal
abbrev pub TableAnswer : Type 0
TableAnswer = Result ⊤ Refusal

pub record TableOut : Type 0 where
  pub answer : TableAnswer
  pub table : List ℕ

unfoldable pub start_out : ℕ → List ℕ → TableOut
start_out quota table =
    let r = table_refusal (length table) in
    settle r (record { answer = Ok tt; table = started quota table }) (record { answer = refused_by r; table = table })

unfoldable pub renew_out : List ℕ → TableOut
renew_out table =
    let r = table_refusal (length table) in
    settle r (record { answer = Ok tt; table = renewed table }) (record { answer = refused_by r; table = table })

-- the promise: o is what the call answers, and what it leaves of the table
pub record TableIs (o : TableOut) (r : TableAnswer) (t : List ℕ) : Type 0 where
  pub answer : r ≡ o.answer
  pub table : t ≡ o.table
