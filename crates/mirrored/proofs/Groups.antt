-- The mirror image with groups: by each number's ledger, which the program agrees with.
use mathlib.Core.Path.{◌≡◌, refl, sym, ap, subst₂, ◌∙◌}
use mathlib.Core.List.{List, [], map}
use Prim.Native.Nat.{ℕ, ◌≤◌, ◌<◌}
use native.Mathlib.Omega.{arith}
use lib.ListN.{length, get_or, take, drop}
use lib.Ieee.{Float}
use Rattle.loops.specs.All.{All}
use Rattle.loops.specs.Cases.{either}
use Rattle.loops.specs.Fold.{fold}
use Rattle.runs.specs.Runs.{replies, only, pick}
use Rattle.basis.specs.Counts.{count_of}
use Rattle.basis.specs.declared.Basis.TheVariants.{Curve}
use Rattle.samples.specs.Columns.{Columns, samples_of}
use Rattle.book.specs.Calls.{State, book_of, open_out}
use Rattle.ledger.specs.Ledger.{Lent, lent_of}
use Rattle.ledger.proofs.Steps.{Holds, held_by_lem}
use Rattle.ledger.proofs.Whole.{opened_now}
use Rattle.allowance.specs.Table.{groups, table_places, counter_of, quota_of, started, start_out}
use Rattle.groups.specs.Ledger.{Fed, GroupLedger, group_next, group_ledger}
use Rattle.groups.specs.Shared.{Shared, SharedCall, shared_next, shared, mine, OneGroup, seen_by, one_next, one_group}
use Rattle.groups.specs.Claims.{opened_on, begun}
use Rattle.groups.proofs.Tables.{long_table, started_at, length_started}
use Rattle.groups.proofs.Isolation.{alone}
use Rattle.groups.proofs.Ledgers.{agrees}
use Rattle.mirror.specs.Pairs.{Pairs, none}
use Rattle.mirror.specs.PairLaws.{pairs_take}
use Rattle.mirror.specs.FitLaws.{scored_mirror}
use Rattle.mirrored.specs.Samples.{MirrorSamples}
use Rattle.mirrored.specs.SampleLaws.{rows_mirror, book_sums_mirror}
use Rattle.mirrored.specs.Calls.{ByCall}
use Rattle.mirrored.proofs.CallLaws.{related_by_call}
use Rattle.mirrored.specs.Groups.{MirrorShared, MirrorFed, MirrorGroupReply, MirrorLedger, held_by, GroupImage, SameTable, AnyGroupMirror}
use Rattle.mirrored.proofs.GroupLaws.{only_mirror, surface_scores_mirror, group_next_mirror, group_reply_mirror}
use Rattle.mirrored.specs.Flipped.{flip_shared, SharedInBytes}
use Rattle.mirrored.specs.FlippedLaws.{flip_shared_calls}
use Rattle.mirrored.proofs.Strays.{strays}

-- What the program replies and holds of a number is what its ledger does, from a book that holds the ledger's samples and a table that has its quota and, of
-- a group, its counter. Such is a book just opened (`opened_now`), a book in use (`whole_from` of crate `ledger`) and one that was carried over (`carried_holds`
-- of crate `carried`).
module _ (group : ℕ) (m : Lent) (rest : List Float) (s : Shared) (g : GroupLedger) where
  pub record Begins : Type 0 where
    pub long : table_places ≤ length s.table
    pub holds : Holds m rest g.samples (s.books group)
    pub counter : group < groups → counter_of s.table group ≡ g.counter
    pub quota : quota_of s.table ≡ g.quota

  pub record ByLedger (cs : List SharedCall) : Type 0 where
    pub answered : pick (mine group) cs (replies shared s cs) ≡ replies (group_ledger group (length s.table) m) g (only (mine group) cs)
    pub held : held_by group (fold shared_next s cs) ≡ (fold (group_next group (length s.table) m) g (only (mine group) cs)).samples
    pub counter : group < groups → (seen_by group (fold shared_next s cs)).counter ≡ (fold (group_next group (length s.table) m) g (only (mine group) cs)).counter

  -- the number's book, with the ledger's counter and quota
  abbrev sees : OneGroup
  sees = record { book = s.books group; counter = g.counter; quota = g.quota }

  by_itself : Begins → (cs : List SharedCall)
      → let fed = only (mine group) cs in
      let u = fold (one_next group (length s.table)) sees fed in
      pick (mine group) cs (replies shared s cs) ≡ replies (one_group group (length s.table)) sees fed → (fold shared_next s cs).books group ≡ u.book
      → (group < groups → (seen_by group (fold shared_next s cs)).counter ≡ u.counter) → ByLedger cs
  by_itself b cs answered book counter =
      let n = length s.table in
      let fed = only (mine group) cs in
      let a = agrees group n m rest sees g (record { holds = b.holds; counter = refl; quota = refl }) fed in
      let h = a.1.holds in
      record {
        answered = answered ∙ a.0;
        held = ap (λ (c : State). samples_of c.count c.columns) book ∙ held_by_lem _ (fold (one_next group n) sees fed).book h.count h.below;
        counter = λ l. counter l ∙ a.1.counter;
      }

  pub by_ledger : Begins → (cs : List SharedCall) → ByLedger cs
  by_ledger b cs = either groups group above below
    where
      below : group < groups → ByLedger cs
      below l =
          let n = length s.table in
          let fed = only (mine group) cs in
          let a = alone group n l b.long s refl cs in
          let e : seen_by group s ≡ sees = λ i. record { book = s.books group; counter = b.counter l i; quota = b.quota i } in
          let f = a.1 ∙ ap (λ (u : OneGroup). fold (one_next group n) u fed) e in
          by_itself b cs (a.0 ∙ ap (λ (u : OneGroup). replies (one_group group n) u fed) e) (ap (λ (u : OneGroup). u.book) f)
          (λ _. ap (λ (u : OneGroup). u.counter) f)

      above : groups ≤ group → ByLedger cs
      above l =
          let w = strays group (length s.table) l b.long s sees (record { length = refl; book = refl }) cs in
          by_itself b cs w.0 w.1.book (λ one. absurd (omega (arith, l, one)))

-- by the ledger, of one length of the table
group_ledger_mirror : (group : ℕ) {n n' : ℕ} → n ≡ n' → (m : Lent) {g k : GroupLedger} → MirrorLedger g k → {fs gs : List Fed} → Pairs MirrorFed fs gs
    → ByCall MirrorGroupReply fs (replies (group_ledger group n m) g fs) (replies (group_ledger group n' m) k gs)
    × MirrorLedger (fold (group_next group n m) g fs) (fold (group_next group n' m) k gs)
group_ledger_mirror group {n'} e m {g} {k} h p =
    rw e
    (related_by_call (group_ledger group n' m) (group_ledger group n' m) MirrorLedger MirrorFed MirrorGroupReply
    (λ a b c d i q. (group_reply_mirror group n' m i q, group_next_mirror group n' m i q)) g k h p)

-- from any two such beginnings whose ledgers are mirrored
module _ (group : ℕ) (m : Lent) (rest rest' : List Float) (s t : Shared) (g k : GroupLedger) (b : Begins group m rest s g) (b' : Begins group m rest' t k)
    (long : length s.table ≡ length t.table) (h : MirrorLedger g k) where
  pub mirror_from : (cs ds : List SharedCall) → Pairs MirrorShared cs ds → GroupImage group s t cs ds
  mirror_from cs ds p =
      record {
        fed = only_mirror group p;
        replied = subst₂ (ByCall MirrorGroupReply (only (mine group) cs)) (sym (w cs).answered) (sym (w' ds).answered) (both p).0;
        counters = λ one n. (w (take n cs)).counter one ∙ (both (pairs_take n p)).1.counter ∙ sym ((w' (take n ds)).counter one);
        samples = held;
        scores = λ n settings d. let e = held n in scored_mirror settings.criterion (book_sums_mirror e) (rows_mirror e) (rows_mirror e) (count_of Curve d);
        surface_scores = surface_scores_mirror (only_mirror group p);
      }
    where
      w : (cs : List SharedCall) → ByLedger group m rest s g cs
      w = by_ledger group m rest s g b

      w' : (ds : List SharedCall) → ByLedger group m rest' t k ds
      w' = by_ledger group m rest' t k b'

      both : {cs ds : List SharedCall} → Pairs MirrorShared cs ds
          → let n = length s.table in
          let n' = length t.table in
          let fs = only (mine group) cs in
          let gs = only (mine group) ds in
          ByCall MirrorGroupReply fs (replies (group_ledger group n m) g fs) (replies (group_ledger group n' m) k gs)
          × MirrorLedger (fold (group_next group n m) g fs) (fold (group_next group n' m) k gs)
      both q = group_ledger_mirror group long m h (only_mirror group q)

      held : (n : ℕ) → MirrorSamples (held_by group (fold shared_next s (take n cs))) (held_by group (fold shared_next t (take n ds)))
      held n = rw ((w (take n cs)).held, (w' (take n ds)).held) (both (pairs_take n p)).1.samples

pub group_mirror : AnyGroupMirror
group_mirror columns columns' sums sums' table table' long group same lent opens opens' =
    let g : GroupLedger = record { samples = []; counter = counter_of table' group; quota = quota_of table' } in
    mirror_from group (lent_of (columns group) (sums group)) (drop 272 (sums group)) (drop 272 (sums' group)) (opened_on columns sums table) (opened_on columns' sums' table') g g
    (record { long = long; holds = opened_now (columns group) (sums group) opens; counter = same.counter; quota = same.quota })
    (record {
      long = rw (← same.long) long;
      holds = rw lent (opened_now (columns' group) (sums' group) opens');
      counter = λ _. refl;
      quota = refl;
    })
    same.long (record { samples = none; counter = refl; quota = refl })

-- ---- tables just started with one quota, which held anything

module _ (quota : ℕ) (table : List ℕ) (long : table_places ≤ length table) where
  start_table : (start_out quota table).table ≡ started quota table
  unfolding start_out
  start_table = rw (long_table (length table) long)

  start_length : length (start_out quota table).table ≡ length table
  start_length = ap length start_table ∙ length_started quota table long

  start_at : (place : ℕ) → place < table_places → get_or (start_out quota table).table place 0 ≡ quota
  start_at place l = ap (λ (t : List ℕ). get_or t place 0) start_table ∙ started_at quota table place l

module _ (quota : ℕ) (table table' : List ℕ) (long : table_places ≤ length table) (same : length table ≡ length table') (group : ℕ) where
  started_same : SameTable group (start_out quota table).table (start_out quota table').table
  started_same =
      let long' : table_places ≤ length table' = rw (← same) long in
      record {
        long = start_length quota table long ∙ same ∙ sym (start_length quota table' long');
        counter = λ l. start_at quota table long group (omega (arith, l)) ∙ sym (start_at quota table' long' group (omega (arith, l)));
        quota = start_at quota table long 8 (omega arith) ∙ sym (start_at quota table' long' 8 (omega arith));
      }

  pub started_mirror : (columns columns' : ℕ → Columns) (sums sums' : ℕ → List Float) → lent_of (columns group) (sums group) ≡ lent_of (columns' group) (sums' group)
      → (open_out (sums group)).answer ≡ book_of 0 → (open_out (sums' group)).answer ≡ book_of 0 → (cs ds : List SharedCall) → Pairs MirrorShared cs ds
      → GroupImage group (begun columns sums quota table) (begun columns' sums' quota table') cs ds
  started_mirror columns columns' sums sums' =
      group_mirror columns columns' sums sums' (start_out quota table).table (start_out quota table').table (rw (start_length quota table long) long) group started_same

-- ---- the mirror image that every list has

-- every list of calls of groups and the same list with the sign of every y changed
pub flipped_groups : (columns : ℕ → Columns) (sums : ℕ → List Float) (table : List ℕ) → table_places ≤ length table
    → (group : ℕ) → (open_out (sums group)).answer ≡ book_of 0 → (cs : List SharedCall) → All SharedInBytes cs
    → GroupImage group (opened_on columns sums table) (opened_on columns sums table) cs (map flip_shared cs)
flipped_groups columns sums table long group opens cs b =
    group_mirror columns columns sums sums table table long group (record { long = refl; counter = λ _. refl; quota = refl }) refl opens opens cs (map flip_shared cs)
    (flip_shared_calls cs b)
