-- Isolation: in the run of all calls a group gets the replies, and ends with the book and counter, of its own calls by themselves.
use mathlib.Core.Path.{◌≡◌, refl, sym, ap, subst, ◌∙◌}
use mathlib.Core.Bool.{Bool, true, false, cond}
use Rattle.std.specs.Prelude.{Some, None}
use mathlib.Core.List.{List}
use Prim.Native.Nat.{ℕ, ◌≤◌, ◌<◌}
use native.Mathlib.Omega.{arith}
use borrow.Author.Tests.{eqb-true, eqb-false, eq-eqb, ne_eqb}
use lib.Dec.{eqb}
use lib.ListN.{length, take}
use Rattle.loops.specs.Fold.{fold}
use Rattle.runs.specs.Runs.{replies, only, pick}
use Rattle.runs.specs.RunLaws.{no_call, each_equal, projected}
use Rattle.book.specs.Calls.{State}
use Rattle.ledger.specs.Ledger.{next, told}
use Rattle.allowance.specs.Table.{groups, table_places, counter_of, quota_of, table_refusal, start_out, renew_out}
use Rattle.groups.specs.Calls.{GroupCall, books, surfaces, costs, replied, cost_reply, left_of}
use Rattle.groups.specs.Ledger.{Fed, starts, renews, calls}
use Rattle.groups.specs.Shared.{Shared, SharedCall, start_all, renew_all, of, put_book, shared_next, shared_reply, shared, mine, OneGroup, seen_by, own_samples, own_refusal, own_cost, one_next, one_reply, one_group}
use Rattle.groups.specs.Claims.{Isolated}
use Rattle.groups.proofs.Tables.{long_table, started_at, length_started, renewed_at, renewed_quota, length_renewed, charge_does, charge_length, charge_others, charge_quota, charge_counter}

-- another group's book stands, and a group's own is the one that was put
put_other : (h group : ℕ) (s : State) (bs : ℕ → State) → (group ≡ h → ⊥) → put_book h s bs group ≡ bs group
put_other h group s bs n = ap (λ t. cond t s (bs group)) (ne_eqb group h n)

put_own : (group : ℕ) (s : State) (bs : ℕ → State) → put_book group s bs group ≡ s
put_own group s bs = ap (λ t. cond t s (bs group)) (eq-eqb group group refl)

-- group is one of eight, and table the length of a table of nine places or more
module _ (group table : ℕ) (one : group < groups) (long : table_places ≤ table) where
  -- t is what the group sees of s
  record Seen (s : Shared) (t : OneGroup) : Type 0 where
    pub length : length s.table ≡ table
    pub seen : seen_by group s ≡ t

  none_refused : table_refusal table ≡ 0
  none_refused = long_table table long

  long_of : (s : Shared) → length s.table ≡ table → table_places ≤ length s.table
  long_of s e = rw e long

  -- ---- the calls of another group leave what it sees

  other_call : (s : Shared) (h : ℕ) (c : GroupCall) → (group ≡ h → ⊥) → (length (shared_next s (of h c)).table ≡ length s.table) × (seen_by group (shared_next s (of h c)) ≡ seen_by group s)
  unfolding shared_next
  other_call s h (books c) n =
      (refl, λ i. record { book = put_other h group (next (s.books h) c) s.books n i; counter = counter_of s.table group; quota = quota_of s.table })
  other_call s h (surfaces q) n = (refl, refl)
  other_call s h (costs q) n = (
    charge_length h s.table (s.books h) q,
    λ i. record { book = s.books group; counter = charge_others h s.table (s.books h) q group n i; quota = charge_quota h s.table (s.books h) q i },
  )

  -- which of its calls it is fed
  not_fed : (h : ℕ) (c : GroupCall) (b : Bool) → eqb h group ≡ b → cond b (Some (calls c)) None ≡ None → group ≡ h → ⊥
  not_fed h c true q e = absurd (no_call (calls c) e)
  not_fed h c false q e = λ z. eqb-false h group q (sym z)

  others : (s : Shared) (t : OneGroup) (c : SharedCall) → Seen s t → mine group c ≡ None → Seen (shared_next s c) t
  others s t (start_all q) w e = absurd (no_call (starts q) e)
  others s t renew_all w e = absurd (no_call renews e)
  others s t (of h c) w e =
      let n = other_call s h c (not_fed h c (eqb h group) refl e) in
      record { length = n.0 ∙ w.length; seen = n.1 ∙ w.seen }

  -- ---- its own calls go by what it sees

  -- of a state, not of what is seen of it
  own_start : (s : Shared) (q : ℕ) → length s.table ≡ table
      → (shared_reply s (start_all q) ≡ one_reply group table (seen_by group s) (starts q)) × Seen (shared_next s (start_all q)) (one_next group table (seen_by group s) (starts q))
  unfolding shared_reply shared_next one_reply one_next start_out
  own_start s q e =
      let r : table_refusal (length s.table) ≡ 0 = ap table_refusal e ∙ none_refused in
      rw (r, none_refused)
      (refl, record { length = length_started q s.table (long_of s e) ∙ e; seen = λ i. record { book = s.books group; counter = started_at q s.table group (omega (arith, one)) i; quota = started_at q s.table 8 (omega arith) i } })

  own_renew : (s : Shared) → length s.table ≡ table
      → (shared_reply s renew_all ≡ one_reply group table (seen_by group s) renews) × Seen (shared_next s renew_all) (one_next group table (seen_by group s) renews)
  unfolding shared_reply shared_next one_reply one_next renew_out
  own_renew s e =
      let r : table_refusal (length s.table) ≡ 0 = ap table_refusal e ∙ none_refused in
      rw (r, none_refused)
      (refl, record { length = length_renewed s.table (long_of s e) ∙ e; seen = λ i. record { book = s.books group; counter = renewed_at s.table group one i; quota = renewed_quota s.table i } })

  own_call_lem : (s : Shared) (c : GroupCall) → length s.table ≡ table
      → (shared_reply s (of group c) ≡ one_reply group table (seen_by group s) (calls c)) × Seen (shared_next s (of group c)) (one_next group table (seen_by group s) (calls c))
  unfolding shared_reply shared_next one_reply one_next
  own_call_lem s (books c) e =
      (refl, record { length = e; seen = λ i. record { book = put_own group (next (s.books group) c) s.books i; counter = counter_of s.table group; quota = quota_of s.table } })
  own_call_lem s (surfaces q) e = (refl, record { length = e; seen = refl })
  own_call_lem s (costs q) e =
      let b = s.books group in
      let t = s.table in
      let inside : group < length t = rw e (omega (arith, one, long)) in (
        ap (λ z. replied (told z)) (charge_does group t b q)
            ∙ ap (λ n. replied (told (cost_reply q (own_refusal group n b q) (counter_of t group) b.count (own_samples group n b) (take 272 b.sums)))) e,
        record {
          length = charge_length group t b q ∙ e;
          seen = λ i. record {
            book = b;
            counter = (charge_counter group t b q inside ∙ ap (λ n. left_of (own_refusal group n b q) (counter_of t group) (own_cost group n b q)) e) i;
            quota = charge_quota group t b q i;
          };
        },
      )

  is_fed : (s : Shared) (h : ℕ) (c : GroupCall) (d : Fed) → length s.table ≡ table → (b : Bool) → eqb h group ≡ b → cond b (Some (calls c)) None ≡ Some d
      → (shared_reply s (of h c) ≡ one_reply group table (seen_by group s) d) × Seen (shared_next s (of h c)) (one_next group table (seen_by group s) d)
  is_fed s h c d w true q e =
      let z : calls c ≡ d = cc in
      let y : h ≡ group = eqb-true h group q in
      rw (← z, y) (own_call_lem s c w)
  is_fed s h c d w false q e = absurd (no_call d (sym e))

  own : (s : Shared) (t : OneGroup) (c : SharedCall) (d : Fed) → Seen s t → mine group c ≡ Some d
      → (shared_reply s c ≡ one_reply group table t d) × Seen (shared_next s c) (one_next group table t d)
  own s t c d w e = subst (λ (u : OneGroup). (shared_reply s c ≡ one_reply group table u d) × Seen (shared_next s c) (one_next group table u d)) w.seen (go c e)
    where
      go : (c : SharedCall) → mine group c ≡ Some d → (shared_reply s c ≡ one_reply group table (seen_by group s) d) × Seen (shared_next s c) (one_next group table (seen_by group s) d)
      go (start_all q) e = let z : starts q ≡ d = cc in rw (← z) (own_start s q w.length)
      go renew_all e = let z : renews ≡ d = cc in rw (← z) (own_renew s w.length)
      go (of h c) e = is_fed s h c d w.length (eqb h group) refl e

  -- any list of calls
  pub alone : (s : Shared) → length s.table ≡ table → (cs : List SharedCall)
      → (pick (mine group) cs (replies shared s cs) ≡ replies (one_group group table) (seen_by group s) (only (mine group) cs))
      × (seen_by group (fold shared_next s cs) ≡ fold (one_next group table) (seen_by group s) (only (mine group) cs))
  alone s e cs =
      let r = projected shared (one_group group table) (mine group) Seen (λ a b. a ≡ b) others own s (seen_by group s) (record { length = e; seen = refl }) cs in
      (each_equal _ _ r.0, r.1.seen)

pub isolated : Isolated
isolated group one s t long same seen cs ds fed =
    let n = length s.table in
    let a = alone group n one long s refl cs in
    let b = alone group n one long t (sym same) ds in
    let e = ap (λ (u : OneGroup). replies (one_group group n) u (only (mine group) cs)) seen ∙ ap (replies (one_group group n) (seen_by group t)) fed in
    let f = ap (λ (u : OneGroup). fold (one_next group n) u (only (mine group) cs)) seen ∙ ap (fold (one_next group n) (seen_by group t)) fed in
    (a.0 ∙ e ∙ sym b.0, a.1 ∙ f ∙ sym b.1)
