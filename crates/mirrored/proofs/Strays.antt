-- A number above 7 names no group, and crate `groups` speaks of groups alone (`alone` in its proofs/Isolation.antt). Here, of such a number: in the run of all
-- calls it gets the replies, and ends with the book, of its own calls by themselves. Those that cost are refused before a counter has a say.
use mathlib.Core.Path.{◌≡◌, refl, sym, ap, ◌∙◌}
use mathlib.Core.Bool.{Bool, true, false, cond}
use Rattle.std.specs.Prelude.{Some, None}
use mathlib.Core.List.{List}
use Prim.Native.Nat.{ℕ, zero, suc, ◌≤◌}
use native.Mathlib.Omega.{arith}
use borrow.Author.Tests.{eqb-true, eqb-false, eq-eqb, ne_eqb}
use lib.Dec.{eqb}
use lib.ListN.{length, take}
use lib.Ieee.{Float}
use Rattle.loops.specs.Fold.{fold}
use Rattle.runs.specs.Runs.{replies, only, pick}
use Rattle.runs.specs.RunLaws.{no_call, each_equal, projected}
use Rattle.samples.specs.declared.Sample.{Sample}
use Rattle.ledger.specs.Ledger.{told, next, reply}
use Rattle.ledger.specs.ReadCalls.{read_on}
use Rattle.allowance.specs.Table.{groups, table_places, counter_of, table_refusal, start_out, renew_out}
use Rattle.groups.specs.Calls.{CostCall, group_reports, group_surfaces, group_splits, GroupCall, books, surfaces, costs, replied, cost_reply}
use Rattle.groups.specs.Ledger.{Fed, starts, renews, calls}
use Rattle.groups.specs.Shared.{Shared, SharedCall, start_all, renew_all, of, shared_next, shared_reply, shared, mine, OneGroup, own_samples, own_refusal, one_next, one_reply, one_group}
use Rattle.groups.proofs.Tables.{long_table, length_started, length_renewed, has_group, charge_does, charge_length}

-- refused by 1 to 9 a call that costs is answered alike, whatever the counter
refused_alike : (q : CostCall) (r : ℕ) → (r ≡ 0 → ⊥) → (a b n : ℕ) (l : List Sample) (sums : List Float) → cost_reply q r a n l sums ≡ cost_reply q r b n l sums
unfolding cost_reply
refused_alike q zero h a b n l sums = absurd (h refl)
refused_alike (group_reports settings places) (suc r) h a b n l sums = refl
refused_alike (group_surfaces count settings points places) (suc r) h a b n l sums = refl
refused_alike (group_splits settings places) (suc r) h a b n l sums = refl

-- table is the length of a table of nine places or more
module _ (group table : ℕ) (above : groups ≤ group) (long : table_places ≤ table) where
  -- t has the number's book of s, and any counter and quota
  pub record SameBook (s : Shared) (t : OneGroup) : Type 0 where
    pub length : length s.table ≡ table
    pub book : s.books group ≡ t.book

  -- the calls of another leave it
  other_call : (s : Shared) (t : OneGroup) (h : ℕ) (c : GroupCall) → (group ≡ h → ⊥) → SameBook s t → SameBook (shared_next s (of h c)) t
  unfolding shared_next
  other_call s t h (books c) z w =
      record { length = w.length; book = ap (λ b. cond b (next (s.books h) c) (s.books group)) (ne_eqb group h z) ∙ w.book }
  other_call s t h (surfaces q) z w = w
  other_call s t h (costs q) z w = record { length = charge_length h s.table (s.books h) q ∙ w.length; book = w.book }

  others : (s : Shared) (t : OneGroup) (c : SharedCall) → SameBook s t → mine group c ≡ None → SameBook (shared_next s c) t
  others s t (start_all q) w e = absurd (no_call (starts q) e)
  others s t renew_all w e = absurd (no_call renews e)
  others s t (of h c) w e = by (eqb h group) refl e
    where
      by : (b : Bool) → eqb h group ≡ b → cond b (Some (calls c)) None ≡ None → SameBook (shared_next s (of h c)) t
      by true q e = absurd (no_call (calls c) e)
      by false q e = other_call s t h c (λ z. eqb-false h group q (sym z)) w

  -- its own are answered by the book
  own_call_lem : (s : Shared) (t : OneGroup) (c : GroupCall) → SameBook s t
      → (shared_reply s (of group c) ≡ one_reply group table t (calls c)) × SameBook (shared_next s (of group c)) (one_next group table t (calls c))
  unfolding shared_reply shared_next one_reply one_next
  own_call_lem s t (books c) w = (
    λ i. replied (reply read_on (w.book i) c),
    record {
      length = w.length;
      book = ap (λ b. cond b (next (s.books group) c) (s.books group)) (eq-eqb group group refl) ∙ (λ i. next (w.book i) c);
    },
  )
  own_call_lem s t (surfaces q) w = (refl, w)
  own_call_lem s t (costs q) w =
      let b = s.books group in
      let n = length s.table in
      let refused : own_refusal group n b q ≡ 0 → ⊥ = λ z. let k = has_group group n b q z in omega (arith, above, k) in
      let alike = refused_alike q (own_refusal group n b q) refused (counter_of s.table group) t.counter b.count (own_samples group n b) (take 272 b.sums) in (
        ap (λ z. replied (told z)) (charge_does group s.table b q ∙ alike)
            ∙ (λ i.
            let d = w.book i in
            replied (told (cost_reply q (own_refusal group (w.length i) d q) t.counter d.count (own_samples group (w.length i) d) (take 272 d.sums)))),
        record { length = charge_length group s.table b q ∙ w.length; book = w.book },
      )

  none_refused : table_refusal table ≡ 0
  none_refused = long_table table long

  own_start : (s : Shared) (t : OneGroup) (q : ℕ) → SameBook s t
      → (shared_reply s (start_all q) ≡ one_reply group table t (starts q)) × SameBook (shared_next s (start_all q)) (one_next group table t (starts q))
  unfolding shared_reply shared_next one_reply one_next start_out
  own_start s t q w =
      let r : table_refusal (length s.table) ≡ 0 = ap table_refusal w.length ∙ none_refused in
      rw (r, none_refused) (refl, record { length = length_started q s.table (rw w.length long) ∙ w.length; book = w.book })

  own_renew : (s : Shared) (t : OneGroup) → SameBook s t
      → (shared_reply s renew_all ≡ one_reply group table t renews) × SameBook (shared_next s renew_all) (one_next group table t renews)
  unfolding shared_reply shared_next one_reply one_next renew_out
  own_renew s t w =
      let r : table_refusal (length s.table) ≡ 0 = ap table_refusal w.length ∙ none_refused in
      rw (r, none_refused) (refl, record { length = length_renewed s.table (rw w.length long) ∙ w.length; book = w.book })

  own : (s : Shared) (t : OneGroup) (c : SharedCall) (d : Fed) → SameBook s t → mine group c ≡ Some d
      → (shared_reply s c ≡ one_reply group table t d) × SameBook (shared_next s c) (one_next group table t d)
  own s t (start_all q) d w e = let z : starts q ≡ d = cc in rw (← z) (own_start s t q w)
  own s t renew_all d w e = let z : renews ≡ d = cc in rw (← z) (own_renew s t w)
  own s t (of h c) d w e = by (eqb h group) refl e
    where
      by : (b : Bool) → eqb h group ≡ b → cond b (Some (calls c)) None ≡ Some d
          → (shared_reply s (of h c) ≡ one_reply group table t d) × SameBook (shared_next s (of h c)) (one_next group table t d)
      by true q e =
          let z : calls c ≡ d = cc in
          rw (← z, eqb-true h group q) (own_call_lem s t c w)
      by false q e = absurd (no_call d (sym e))

  -- any list of calls
  pub strays : (s : Shared) (t : OneGroup) → SameBook s t → (cs : List SharedCall)
      → (pick (mine group) cs (replies shared s cs) ≡ replies (one_group group table) t (only (mine group) cs))
      × SameBook (fold shared_next s cs) (fold (one_next group table) t (only (mine group) cs))
  strays s t w cs =
      let r = projected shared (one_group group table) (mine group) SameBook (λ a b. a ≡ b) others own s t w cs in
      (each_equal _ _ r.0, r.1)
