-- A group by itself agrees with its plain ledger, by demand 3.
use Rattle.std.specs.Prelude.{Ok}
use mathlib.Core.Path.{◌≡◌, refl, sym, ap, subst, ◌∙◌}
use mathlib.Core.List.{List, [], ◌∷◌}
use Prim.Native.Nat.{ℕ, zero, suc, ◌≤◌}
use native.Mathlib.Omega.{arith}
use lib.ListN.{length, get_or, drop}
use lib.Ieee.{Float}
use Rattle.refusal.specs.Named.{refused_by}
use Rattle.loops.specs.Fold.{fold}
use Rattle.runs.specs.Runs.{replies, only, front_of}
use Rattle.runs.specs.RunLaws.{agree}
use Rattle.refusal.specs.Refusals.{settle}
use Rattle.book.specs.Calls.{State}
use Rattle.ledger.specs.Ledger.{Call, Lent, lent_of, told, final}
use Rattle.ledger.specs.ReadCalls.{ReadCall, read_on}
use Rattle.ledger.proofs.Book.{whole_book}
use Rattle.ledger.proofs.Lists.{sums_first}
use Rattle.ledger.proofs.Steps.{Holds, held_by_lem}
use Rattle.ledger.proofs.Whole.{leaves_next, reply_next, opened_now}
use Rattle.allowance.specs.Table.{table_places, started, table_refusal, start_out}
use Rattle.groups.specs.Calls.{books, surfaces, costs, replied, cost_refusal, cost_of, cost_reply, left_of}
use Rattle.groups.specs.Ledger.{Fed, starts, renews, calls, GroupLedger, group_next, group_reply, group_ledger}
use Rattle.groups.specs.Shared.{shared_next, mine, OneGroup, seen_by, one_next, one_reply, one_group}
use Rattle.groups.specs.Claims.{Keeps, opened_on, ledger_of, book_call, AnyTable, begun, new_ledger, AnyGroups}
use Rattle.groups.proofs.Tables.{long_enough, started_at, length_started}
use Rattle.groups.proofs.Isolation.{alone}

module _ (group table : ℕ) (m : Lent) (rest : List Float) where
  -- the book holds the ledger's samples, and counter and quota are its own
  pub record Agree (t : OneGroup) (g : GroupLedger) : Type 0 where
    pub holds : Holds m rest g.samples t.book
    pub counter : t.counter ≡ g.counter
    pub quota : t.quota ≡ g.quota

  go : (t : OneGroup) (g : GroupLedger) (c : Fed) → Agree t g
      → (one_reply group table t c ≡ group_reply group table m g c) × Agree (one_next group table t c) (group_next group table m g c)
  unfolding one_reply one_next group_reply group_next
  go t g (starts q) a = (refl, by (table_refusal table))
    where
      by : (r : ℕ) → Agree (settle r (record { book = t.book; counter = q; quota = q }) t) (settle r (record { samples = g.samples; counter = q; quota = q }) g)
      by zero = record { holds = a.holds; counter = refl; quota = refl }
      by (suc r) = a
  go t g renews a = (refl, by (table_refusal table))
    where
      by : (r : ℕ) → Agree (settle r (record { book = t.book; counter = t.quota; quota = t.quota }) t) (settle r (record { samples = g.samples; counter = g.quota; quota = g.quota }) g)
      by zero = record { holds = a.holds; counter = a.quota; quota = a.quota }
      by (suc r) = a
  go t g (calls (books c)) a = (
    ap (λ r. replied r) (reply_next read_on m rest t.book g.samples c a.holds),
    record { holds = (leaves_next read_on m rest t.book g.samples c a.holds).holds; counter = a.counter; quota = a.quota },
  )
  go t g (calls (surfaces q)) a = (refl, a)
  go t g (calls (costs q)) a =
      let h = a.holds in
      let e = held_by_lem g.samples t.book h.count h.below in
      let s = sums_first g.samples rest t.book.sums h.sums in (
        λ i. replied (told (cost_reply q (cost_refusal group table q (h.count i) (e i) (h.lent i).columns (h.lent i).sums) (a.counter i) (h.count i) (e i) (s i))),
        record {
          holds = h;
          counter = λ i. left_of (cost_refusal group table q (h.count i) (e i) (h.lent i).columns (h.lent i).sums) (a.counter i) (cost_of q (h.count i) (e i) (s i));
          quota = a.quota;
        },
      )

  pub agrees : (t : OneGroup) (g : GroupLedger) → Agree t g → (fs : List Fed)
      → (replies (one_group group table) t fs ≡ replies (group_ledger group table m) g fs) × Agree (fold (one_next group table) t fs) (fold (group_next group table m) g fs)
  agrees t g a fs = agree (one_group group table) (group_ledger group table m) Agree go t g a fs

-- a start that answers was not refused
not_short : (quota : ℕ) (table : List ℕ) (k : ℕ) → table_refusal (length table) ≡ k → (start_out quota table).answer ≡ (Ok tt)
    → (table_places ≤ length table) × ((start_out quota table).table ≡ started quota table)
unfolding start_out
not_short quota table zero e h = (long_enough (length table) e, rw e refl)
not_short quota table (suc k) e h =
    let w : refused_by (suc k) ≡ (Ok tt) = rw e at h in
    let z : ◌≡◌ {A = ℕ} 0 1 = cc in
    absurd (omega arith)

same : (group table : ℕ) (t : OneGroup) (f : Fed) (cs : List (Call ReadCall)) → final (one_next group table t f).book cs ≡ final t.book (front_of (book_call f) cs)
unfolding one_next fold
same group table t (starts q) cs = ap (λ (b : State). final b cs) (kept (table_refusal table))
  where
    kept : (r : ℕ) → (settle {A = OneGroup} r (record { book = t.book; counter = q; quota = q }) t).book ≡ t.book
    kept zero = refl
    kept (suc r) = refl
same group table t renews cs = ap (λ (b : State). final b cs) (kept (table_refusal table))
  where
    kept : (r : ℕ) → (settle {A = OneGroup} r (record { book = t.book; counter = t.quota; quota = t.quota }) t).book ≡ t.book
    kept zero = refl
    kept (suc r) = refl
same group table t (calls (books c)) cs = refl
same group table t (calls (surfaces q)) cs = refl
same group table t (calls (costs q)) cs = refl

-- its book is the one that the calls of the book leave
book_of_lem : (group table : ℕ) (t : OneGroup) (fs : List Fed) → (fold (one_next group table) t fs).book ≡ final t.book (only book_call fs)
unfolding fold only
book_of_lem group table t [] = refl
book_of_lem group table t (f ∷ fs) = step f (book_of_lem group table (one_next group table t f) fs)
  where
    step : (f : Fed) → (fold (one_next group table) (one_next group table t f) fs).book ≡ final (one_next group table t f).book (only book_call fs)
        → (fold (one_next group table) (one_next group table t f) fs).book ≡ final t.book (front_of (book_call f) (only book_call fs))
    step f e = e ∙ same group table t f (only book_call fs)

pub any_table : AnyTable
any_table columns sums table long group one o cs =
    let m = lent_of (columns group) (sums group) in
    let rest = drop 272 (sums group) in
    let n = length table in
    let s = opened_on columns sums table in
    let fed = only (mine group) cs in
    let a = alone group n one long s refl cs in
    let g = agrees group n m rest (seen_by group s) (ledger_of group table) (record { holds = opened_now (columns group) (sums group) o; counter = refl; quota = refl }) fed in
    let f = fold shared_next s cs in
    let k = fold (group_next group n m) (ledger_of group table) fed in
    let held = subst (λ (u : OneGroup). Agree group n m rest u k) (sym a.1) g.1 in
    record {
      answered = a.0 ∙ g.0;
      keeps =
          record {
            book = held.holds.count;
            below = held.holds.below;
            sums = sums_first k.samples rest (f.books group).sums held.holds.sums;
            counter = held.counter;
            quota = held.quota;
          };
      book = ap (λ (u : OneGroup). u.book) a.1 ∙ book_of_lem group n (seen_by group s) fed;
      demand_3 = whole_book (columns group) (sums group) o (only book_call fed);
    }

pub any_groups : AnyGroups
any_groups columns sums quota table h group one o cs =
    let w = not_short quota table (table_refusal (length table)) refl h in
    let t = (start_out quota table).table in
    let e = ap length w.1 ∙ length_started quota table w.0 in
    let counter = ap (λ (u : List ℕ). get_or u group 0) w.1 ∙ started_at quota table group (omega (arith, one)) in
    let total = ap (λ (u : List ℕ). get_or u 8 0) w.1 ∙ started_at quota table 8 (omega arith) in
    let begins : ledger_of group t ≡ new_ledger quota = λ i. record { samples = []; counter = counter i; quota = total i } in
    let r = any_table columns sums t (rw e w.0) group one o cs in
    let m = lent_of (columns group) (sums group) in
    let fed = only (mine group) cs in (
      r.answered ∙ (λ i. replies (group_ledger group (e i) m) (begins i) fed),
      subst (λ (g : GroupLedger). Keeps group (fold shared_next (begun columns sums quota table) cs) g) (λ i. fold (group_next group (e i) m) (begins i) fed) r.keeps,
    )
