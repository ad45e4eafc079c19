-- What a start, a renewal and a charge make of each counter and of the quota.
use mathlib.Core.Path.{◌≡◌, refl, sym, ap, ◌∙◌}
use mathlib.Core.Bool.{Bool, true, false, cond}
use mathlib.Core.List.{List, [], ◌∷◌}
use Prim.Native.Nat.{ℕ, zero, suc, ◌-◌, ◌≤◌, ◌<◌}
use native.Mathlib.Omega.{arith}
use borrow.Author.Tests.{ltb-false, le-ltb}
use lib.Dec.{ltb}
use lib.ListN.{length, get_or, set, take, drop, replicate, length-set, length-append, length-drop, length-replicate, get_or-replicate, get_or-append}
use lib.Seq.{get_or-set_same, get_or-set_other, set-get_or, get_or-drop, get_or-append-add}
use Rattle.loops.specs.Cases.{or_false}
use Rattle.refusal.specs.Refusals.{Test, by, first_of, settle}
use Rattle.refusal.specs.Laws.{first_none}
use Rattle.refusal.specs.Tests.{needed, any_short}
use Rattle.monomial.specs.Rows.{rows_of, weighted_rows}
use Rattle.reporting.specs.Limited.{Limited, limited_of}
use Rattle.reporting.specs.Reports.{refused_early, refused_late, report_of}
use Rattle.report.specs.Reports.{report_choice}
use Rattle.surface.specs.Points.{points_of, rows_of_points, surface_sums}
use Rattle.surface.specs.Surfaces.{surface_choice}
use Rattle.basis.specs.declared.Basis.TheVariants.{Curve, Surface}
use Rattle.split.specs.Search.{search_tests}
use Rattle.basis.specs.declared.Basis.{Basis}
use Rattle.monomial.specs.Rows.{Row}
use Rattle.fit.specs.declared.Choice.{Choice}
use Rattle.settings.specs.declared.Settings.{Settings}
use Rattle.report.specs.Limited.{within_past}
use Rattle.surface.specs.Limited.{surface_within_past}
use Rattle.split.specs.Splits.{split_refused, split_past, taken_of}
use Rattle.book.specs.Calls.{State}
use Rattle.ledger.specs.ReadCalls.{report_reply, split_reply}
use lib.Ieee.{Float}
use Rattle.allowance.specs.Table.{groups, table_places, counter_of, quota_of, started, renewed, table_refusal}
use Rattle.allowance.specs.Refusals.{no_group, group_report_refusal, group_surface_refusal, group_split_refusal}
use Rattle.allowance.specs.Charges.{charged, group_report_on, group_surface_on, group_split_on}
use Rattle.groups.specs.Calls.{CostCall, group_reports, group_surfaces, group_splits, cost_refusal, cost_of, cost_reply, left_of}
use Rattle.groups.specs.Shared.{charge, own_refusal, own_cost, own_samples}

-- ---- start and renew

pub long_table : (table : ℕ) → table_places ≤ table → table_refusal table ≡ 0
unfolding table_refusal first_of any_short
long_table table h = rw (le-ltb table 9 h)

not_short : (table : ℕ) → any_short (needed 9 table ∷ []) ≡ false → 9 ≤ table
unfolding any_short
not_short table q = ltb-false _ _ (or_false (ltb table 9) false q).0

pub long_enough : (table : ℕ) → table_refusal table ≡ 0 → table_places ≤ table
unfolding table_refusal
long_enough table e = not_short table (first_none _ 0 _ e).0

module _ (quota : ℕ) (table : List ℕ) where
  pub started_at : (group : ℕ) → group < table_places → get_or (started quota table) group 0 ≡ quota
  unfolding started
  started_at group h =
      get_or-append (replicate 9 quota) (drop 9 table) 0 group (rw (length-replicate 9 quota) h) ∙ get_or-replicate 9 group quota 0 h

  pub length_started : table_places ≤ length table → length (started quota table) ≡ length table
  unfolding started
  length_started h = length-append (replicate 9 quota) (drop 9 table) ∙ omega (arith, length-replicate 9 quota, length-drop 9 table)

module _ (table : List ℕ) where
  pub renewed_at : (group : ℕ) → group < groups → get_or (renewed table) group 0 ≡ quota_of table
  unfolding renewed
  renewed_at group h =
      get_or-append (replicate 8 (quota_of table)) (drop 8 table) 0 group (rw (length-replicate 8 (quota_of table)) h) ∙ get_or-replicate 8 group (quota_of table) 0 h

  pub renewed_quota : quota_of (renewed table) ≡ quota_of table
  unfolding renewed
  renewed_quota = get_or-append-add (replicate 8 (quota_of table)) (drop 8 table) 0 0 ∙ get_or-drop 8 table 0 0

  pub length_renewed : table_places ≤ length table → length (renewed table) ≡ length table
  unfolding renewed
  length_renewed h = length-append (replicate 8 (quota_of table)) (drop 8 table) ∙ omega (arith, length-replicate 8 (quota_of table), length-drop 8 table)

-- ---- a charge

-- a call that 1 and 17 let through has a group
passed : (group : ℕ) (short : Bool) (later : List Test) → first_of (by short 1 ∷ by (no_group group) 17 ∷ later) ≡ 0 → group < groups
passed group short later e =
    let p17 = first_none _ 16 _ (first_none _ 0 _ e).1 in
    let h : group ≤ 7 = ltb-false _ _ p17.0 in
    omega arith

pub has_group : (group table : ℕ) (s : State) (q : CostCall) → own_refusal group table s q ≡ 0 → group < groups
unfolding cost_refusal group_report_refusal group_surface_refusal group_split_refusal
has_group group table s (group_reports settings places) e = passed group _ _ e
has_group group table s (group_surfaces n settings columns places) e = passed group _ _ e
has_group group table s (group_splits settings places) e = passed group _ _ e

-- what a report within a limit takes
pub limited_takes : (basis : Basis) (n : ℕ) (settings : Settings) (limit : ℕ) (rows : List Row) (sums : List Float) (choice : Choice)
    → (limited_of basis n settings limit rows sums choice).taken ≡ taken_of limit choice.tests
unfolding limited_of taken_of
limited_takes basis n settings limit rows sums choice = go (ltb limit choice.tests)
  where
    go : (t : Bool)
        → (cond {A = Limited} t (record { does = refused_late n 16; taken = 0 }) (record { does = report_of basis n settings rows sums choice.solved choice.chosen; taken = choice.tests })).taken
        ≡ cond t 0 choice.tests
    go true = refl
    go false = refl

-- the counter is what is left, and the reply that of what was left before
module _ {A : Type 0} (group : ℕ) (table : List ℕ) where
  charged_does : (r : ℕ) (early past : A) (taken : ℕ) → (charged group table r early past taken).does ≡ settle r past early
  charged_does zero early past taken = refl
  charged_does (suc r) early past taken = refl

  charged_table : (r : ℕ) (early past : A) (taken cost : ℕ) → taken ≡ taken_of (counter_of table group) cost
      → (charged group table r early past taken).table ≡ set table group (left_of r (counter_of table group) cost)
  unfolding left_of
  charged_table zero early past taken cost e = ap (λ t. set table group (counter_of table group - t)) e
  charged_table (suc r) early past taken cost e = sym (set-get_or table group 0)

-- refused by 1 to 9 it stands
left_kept : (group : ℕ) (table : List ℕ) (r cost : ℕ) → set table group (left_of (suc r) (counter_of table group) cost) ≡ table
unfolding left_of
left_kept group table r cost = set-get_or table group 0

module _ (group : ℕ) (table : List ℕ) (s : State) where
  pub charge_does : (q : CostCall)
      → (charge group table s q).does
      ≡ cost_reply q (own_refusal group (length table) s q) (counter_of table group) s.count (own_samples group (length table) s) (take 272 s.sums)
  unfolding charge cost_reply cost_refusal group_report_on group_surface_on group_split_on
  charge_does (group_reports settings places) =
      let r = own_refusal group (length table) s (group_reports settings places) in
      let o = within_past s.count settings (counter_of table group) (rows_of (own_samples group (length table) s)) (take 272 s.sums) in
      ap (λ z. report_reply z) (charged_does group table r (refused_early r) o.does o.taken)
  charge_does (group_surfaces n settings columns places) =
      let r = own_refusal group (length table) s (group_surfaces n settings columns places) in
      let o = surface_within_past n settings (counter_of table group) (rows_of_points (points_of n columns)) (surface_sums (points_of n columns)) in
      ap (λ z. report_reply z) (charged_does group table r (refused_early r) o.does o.taken)
  charge_does (group_splits settings places) =
      let r = own_refusal group (length table) s (group_splits settings places) in
      let rows = weighted_rows (own_samples group (length table) s) in
      let limit = counter_of table group in
      ap (λ z. split_reply z)
      (charged_does group table r (split_refused r []) (split_past s.count settings.bound settings.criterion limit rows)
      (taken_of limit (search_tests settings.bound settings.criterion rows)))

  pub charge_table : (q : CostCall)
      → (charge group table s q).table
      ≡ set table group (left_of (own_refusal group (length table) s q) (counter_of table group) (own_cost group (length table) s q))
  unfolding charge cost_of cost_refusal group_report_on group_surface_on group_split_on within_past surface_within_past
  charge_table (group_reports settings places) =
      let q = group_reports settings places in
      let r = own_refusal group (length table) s q in
      let limit = counter_of table group in
      let rows = rows_of (own_samples group (length table) s) in
      let sums = take 272 s.sums in
      let o = within_past s.count settings limit rows sums in
      charged_table group table r (refused_early r) o.does o.taken (own_cost group (length table) s q)
      (limited_takes Curve s.count settings limit rows sums (report_choice s.count settings rows sums))
  charge_table (group_surfaces n settings columns places) =
      let q = group_surfaces n settings columns places in
      let r = own_refusal group (length table) s q in
      let limit = counter_of table group in
      let rows = rows_of_points (points_of n columns) in
      let sums = surface_sums (points_of n columns) in
      let o = surface_within_past n settings limit rows sums in
      charged_table group table r (refused_early r) o.does o.taken (own_cost group (length table) s q)
      (limited_takes Surface n settings limit rows sums (surface_choice n settings rows sums))
  charge_table (group_splits settings places) =
      let q = group_splits settings places in
      let r = own_refusal group (length table) s q in
      let rows = weighted_rows (own_samples group (length table) s) in
      let limit = counter_of table group in
      charged_table group table r (split_refused r []) (split_past s.count settings.bound settings.criterion limit rows)
      (taken_of limit (search_tests settings.bound settings.criterion rows)) (own_cost group (length table) s q) refl

  -- it leaves the counters of the other groups, the quota and the table's length
  pub charge_length : (q : CostCall) → length (charge group table s q).table ≡ length table
  charge_length q = ap length (charge_table q) ∙ length-set table group _

  pub charge_others : (q : CostCall) (place : ℕ) → (place ≡ group → ⊥) → get_or (charge group table s q).table place 0 ≡ get_or table place 0
  charge_others q place h = ap (λ (t : List ℕ). get_or t place 0) (charge_table q) ∙ get_or-set_other table group place _ 0 h

  pub charge_quota : (q : CostCall) → quota_of (charge group table s q).table ≡ quota_of table
  charge_quota q = go (own_refusal group (length table) s q) refl
    where
      go : (r : ℕ) → own_refusal group (length table) s q ≡ r → quota_of (charge group table s q).table ≡ quota_of table
      go zero e = charge_others q 8 (λ z. let g = has_group group (length table) s q e in omega arith)
      go (suc r) e =
          ap quota_of
          (charge_table q ∙ ap (λ k. set table group (left_of k (counter_of table group) (own_cost group (length table) s q))) e
          ∙ left_kept group table r (own_cost group (length table) s q))

  pub charge_counter : (q : CostCall) → group < length table
      → counter_of (charge group table s q).table group ≡ left_of (own_refusal group (length table) s q) (counter_of table group) (own_cost group (length table) s q)
  charge_counter q h = ap (λ (t : List ℕ). get_or t group 0) (charge_table q) ∙ get_or-set_same table group _ 0 h
