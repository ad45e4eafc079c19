-- A call that costs, by the ledger: when it gets 16, what is told of a report that is let through, and that work of at most the quota gets through.
use Rattle.std.specs.Prelude.{Ok, Err}
use mathlib.Core.Path.{◌≡◌, refl, sym, ap, ◌∙◌}
use mathlib.Core.Bool.{Bool, true, false}
use mathlib.Core.List.{List, [], ◌∷◌, ◌++◌, map, Memᴰ}
use Prim.Native.Nat.{ℕ, zero, suc, ◌+◌, ◌≤◌, ◌<◌}
use native.Mathlib.Omega.{arith}
use borrow.Author.Tests.{ltb-true, ltb-false, lt-ltb, le-ltb}
use lib.Dec.{ltb}
use lib.ListN.{length}
use lib.Ieee.{Float}
use Rattle.refusal.specs.declared.refusals.Refusal.{Refusal}
use Rattle.refusal.specs.Named as named
use Rattle.refusal.specs.Named.{number_of, judged}
use Rattle.refusal.specs.NamedLaws.{number_judged, named_number}
use Rattle.loops.specs.Fold.{fold}
use Rattle.runs.specs.Runs.{replies, along}
use Rattle.runs.specs.RunLaws.{afforded, replies_at_lem, length_replies}
use Rattle.basis.specs.declared.Basis.{Basis}
use Rattle.samples.specs.declared.Sample.{Sample}
use Rattle.monomial.specs.Rows.{Row, rows_of, weighted_rows}
use Rattle.monomial.specs.Sums.{sums_of}
use Rattle.fit.specs.declared.Choice.{Choice}
use Rattle.refusal.specs.Refusals.{settle}
use Rattle.settings.specs.declared.Settings.{Settings}
use Rattle.reporting.specs.declared.Places.{Places}
use Rattle.reporting.specs.Limited.{Limited, limited_of}
use Rattle.reporting.specs.LimitedLaws.{within_limit, report_number_lem, chosen_not_16}
use Rattle.reporting.specs.Reports.{ReportOut, refused_early, refused_late}
use Rattle.report.specs.Reports.{report_choice, report_past}
use Rattle.basis.specs.declared.Basis.TheVariants.{Curve}
use Rattle.report.specs.Limited.{within_past}
use Rattle.surface.specs.Limited.{surface_within_past}
use Rattle.split.specs.Splits.{SplitAnswer, SplitOut, split_refused, taken_of}
use Rattle.split.specs.SplitLaws.{over_16, only_over_16}
use Rattle.ledger.specs.Ledger.{Lent, lent_of}
use Rattle.ledger.proofs.Words.{past_chosen, words_of}
use Rattle.allowance.specs.Table.{table_places}
use Rattle.allowance.specs.RefusalLaws.{group_report_numbers, group_split_numbers, group_surface_numbers}
use Rattle.groups.specs.Calls.{CostCall, group_reports, group_surfaces, group_splits, GroupCall, books, surfaces, costs, cost_refusal, cost_of, cost_reply, left_of}
use Rattle.groups.specs.Ledger.{Fed, renews, GroupLedger, calls, refused_by, costing, cost_told, group_next, group_reply, group_ledger}
use Rattle.groups.specs.Claims.{told_number, Costs, ReportLetThrough, after_calls, cost_for, ledger_of, AnyCost, Refilled, GetsThrough, RightAfter}
use Rattle.groups.proofs.Tables.{long_table}
use Rattle.groups.proofs.Ledgers.{any_table}

-- ---- 16

-- a report past 1 to 9 within a limit
module _ (basis : Basis) (n : ℕ) (settings : Settings) (limit : ℕ) (rows : List Row) (sums : List Float) (choice : Choice) where
  over_limit : limit < choice.tests → (limited_of basis n settings limit rows sums choice).does ≡ refused_late n 16
  unfolding limited_of
  over_limit h = rw (lt-ltb limit choice.tests h)

  only_over : number_of (limited_of basis n settings limit rows sums choice).does.answer ≡ 16 → limit < choice.tests
  only_over e = go (ltb limit choice.tests) refl
    where
      go : (t : Bool) → ltb limit choice.tests ≡ t → limit < choice.tests
      go true q = ltb-true _ _ q
      go false q =
          let w = ap (λ (o : Limited). number_of o.does.answer) (within_limit basis n settings limit rows sums choice (ltb-false _ _ q)) in
          absurd (chosen_not_16 basis choice.chosen sums (sym (report_number_lem basis n settings rows sums choice.solved choice.chosen) ∙ sym w ∙ e))

-- none of the numbers from 1 to 9 is 16
not_16 : {k : ℕ} → Memᴰ {A = ℕ} k (0 ∷ 1 ∷ 17 ∷ 4 ∷ 7 ∷ 8 ∷ []) → k ≡ 16 → ⊥
not_16 {k} m e = none m
  where
    none : Memᴰ {A = ℕ} k (0 ∷ 1 ∷ 17 ∷ 4 ∷ 7 ∷ 8 ∷ []) → ⊥
    none (Memᴰ.head z) = omega (arith, z, e)
    none (Memᴰ.tail (Memᴰ.head z)) = omega (arith, z, e)
    none (Memᴰ.tail (Memᴰ.tail (Memᴰ.head z))) = omega (arith, z, e)
    none (Memᴰ.tail (Memᴰ.tail (Memᴰ.tail (Memᴰ.head z)))) = omega (arith, z, e)
    none (Memᴰ.tail (Memᴰ.tail (Memᴰ.tail (Memᴰ.tail (Memᴰ.head z))))) = omega (arith, z, e)
    none (Memᴰ.tail (Memᴰ.tail (Memᴰ.tail (Memᴰ.tail (Memᴰ.tail (Memᴰ.head z)))))) = omega (arith, z, e)
    none (Memᴰ.tail (Memᴰ.tail (Memᴰ.tail (Memᴰ.tail (Memᴰ.tail (Memᴰ.tail z)))))) = elim z [ ]

module _ (group table : ℕ) (m : Lent) (counter : ℕ) (l : List Sample) where
  -- 16 of a call past 1 to 9, and no number from 1 to 9 is 16
  report_costs : (r cost : ℕ) (past : ReportOut) → (r ≡ 16 → ⊥) → number_of (judged r) ≡ r → (counter < cost → number_of past.answer ≡ 16)
      → (number_of past.answer ≡ 16 → counter < cost) → number_of (settle r past (refused_early r)).answer ≡ 16 → (r ≡ 0) × (counter < cost)
  report_costs zero cost past n j h k e = (refl, k e)
  report_costs (suc r) cost past n j h k e = absurd (n (sym j ∙ e))

  split_costs : (r cost : ℕ) (past : SplitOut) → (r ≡ 16 → ⊥) → number_of (judged r) ≡ r → (number_of past.answer ≡ 16 → counter < cost)
      → number_of (settle r past (split_refused r [])).answer ≡ 16 → (r ≡ 0) × (counter < cost)
  split_costs zero cost past n j k e = (refl, k e)
  split_costs (suc r) cost past n j k e = absurd (n (sym j ∙ e))

  refused_number : (a : SplitAnswer) → number_of a ≡ 16 → a ≡ named.refused_by 16
  refused_number (Ok r) z = absurd (omega arith)
  refused_number (Err e) z = ap (λ r. Err r) (sym (named_number e) ∙ ap named.named z)

  pub costs_of : (q : CostCall) → Costs group table m counter l q
  unfolding told_number cost_reply cost_refusal cost_of within_past surface_within_past
  costs_of (group_reports settings places) =
      record {
        over = λ z h. rw z (ap (λ (o : ReportOut). number_of o.answer) (over_limit _ _ settings counter _ _ _ h));
        only_over = report_costs _ _ _ (not_16 (group_report_numbers group table (length l) settings l m.columns m.sums places)) (number_judged _ refl (group_report_numbers group table (length l) settings l m.columns m.sums places)) (λ h. ap (λ (o : ReportOut). number_of o.answer) (over_limit _ _ settings counter _ _ _ h)) (only_over _ _ settings counter _ _ _);
      }
  costs_of (group_surfaces n settings columns places) =
      record {
        over = λ z h. rw z (ap (λ (o : ReportOut). number_of o.answer) (over_limit _ _ settings counter _ _ _ h));
        only_over = report_costs _ _ _ (not_16 (group_surface_numbers group table n settings _ _ places)) (number_judged _ refl (group_surface_numbers group table n settings _ _ places)) (λ h. ap (λ (o : ReportOut). number_of o.answer) (over_limit _ _ settings counter _ _ _ h)) (only_over _ _ settings counter _ _ _);
      }
  costs_of (group_splits settings places) =
      record {
        over = λ z h. rw z (ap number_of (over_16 (length l) settings.bound settings.criterion counter (weighted_rows l) h));
        only_over = split_costs _ _ _ (not_16 (group_split_numbers group table (length l) settings l m.columns m.sums places)) (number_judged _ refl (group_split_numbers group table (length l) settings l m.columns m.sums places)) (λ e. only_over_16 (length l) settings.bound settings.criterion counter (weighted_rows l) (refused_number _ e));
      }

  -- ---- a report that is let through

  pub report_let_through : (settings : Settings) (places : Places) → ReportLetThrough group table m counter l settings places
  unfolding cost_reply cost_refusal cost_of within_past report_past
  report_let_through settings places z h =
      let o = report_past (length l) settings (rows_of l) (sums_of (weighted_rows l)) in
      (o, rw (z, within_limit Curve (length l) settings counter (rows_of l) (sums_of (weighted_rows l)) (report_choice (length l) settings (rows_of l) (sums_of (weighted_rows l))) h), words_of settings l o (past_chosen settings l))

-- ---- right after a renewal

left_lowers : (r counter cost : ℕ) → settle r cost 0 ≤ counter → counter ≤ settle r cost 0 + left_of r counter cost
unfolding left_of taken_of
left_lowers zero counter cost k = rw (le-ltb counter cost k) (omega arith)
left_lowers (suc r) counter cost k = omega arith

pub refilled : Refilled
unfolding group_next
refilled group table m g long = rw (long_table table long) (refl, λ q. refl)

-- a call of the group lowers its counter by its cost at most
lowers : (group table : ℕ) (m : Lent) (g : GroupLedger) (c : GroupCall) → cost_for group table m g c ≤ g.counter
    → g.counter ≤ cost_for group table m g c + (after_calls group table m g c).counter
unfolding group_next
lowers group table m g (books c) h = omega arith
lowers group table m g (surfaces q) h = omega arith
lowers group table m g (costs q) h = go (refused_by group table m g.samples q) (costing group table m g.samples q) h
  where
    go : (r cost : ℕ) → settle r cost 0 ≤ g.counter → g.counter ≤ settle r cost 0 + left_of r g.counter cost
    go r cost k = left_lowers r g.counter cost k

pub gets_through : GetsThrough
gets_through group table m g before q after h e =
    let then = fold (after_calls group table m) g before in
    let w = afforded (after_calls group table m) (cost_for group table m) (λ (k : GroupLedger). k.counter) (lowers group table m) g before (costs q) after h in
    let o = (costs_of group table m then.counter then.samples q).only_over e in
    let c : cost_for group table m then (costs q) ≡ costing group table m then.samples q = rw o.0 refl in
    omega (arith, w, c, o.1)

-- ---- in the run of all groups

pub any_cost : AnyCost
unfolding group_reply
any_cost columns sums table long group one o cs before q after e =
    let m = lent_of (columns group) (sums group) in
    let n = length table in
    let start = ledger_of group table in
    let g = fold (group_next group n m) start before in
    record {
      later = replies (group_ledger group n m) (group_next group n m g (calls (costs q))) after;
      stands =
          (any_table columns sums table long group one o cs).answered ∙ ap (replies (group_ledger group n m) start) e
          ∙ replies_at_lem (group_ledger group n m) start before (calls (costs q)) after;
      costs = costs_of group n m g.counter g.samples q;
      words = λ settings places z. report_let_through group n m g.counter g.samples settings places;
    }

-- calls of the group alone, as calls that it is fed
fed_calls : (group table : ℕ) (m : Lent) (g : GroupLedger) (cs : List GroupCall)
    → fold (group_next group table m) g (map (λ c. calls c) cs) ≡ fold (after_calls group table m) g cs
unfolding fold
fed_calls group table m g [] = refl
fed_calls group table m g (c ∷ cs) = fed_calls group table m (group_next group table m g (calls c)) cs

fold_behind : (group table : ℕ) (m : Lent) (g : GroupLedger) (cs ds : List Fed)
    → fold (group_next group table m) g (cs ++ ds) ≡ fold (group_next group table m) (fold (group_next group table m) g cs) ds
unfolding fold
fold_behind group table m g [] ds = refl
fold_behind group table m g (c ∷ cs) ds = fold_behind group table m (group_next group table m g c) cs ds

renewed_then : (group table : ℕ) (m : Lent) (g : GroupLedger) (cs : List GroupCall)
    → fold (group_next group table m) g (renews ∷ map (λ c. calls c) cs) ≡ fold (after_calls group table m) (group_next group table m g renews) cs
unfolding fold
renewed_then group table m g cs = fed_calls group table m (group_next group table m g renews) cs

renewed_quota : (group table : ℕ) (m : Lent) (g : GroupLedger) → table_places ≤ table → (group_next group table m g renews).counter ≡ (group_next group table m g renews).quota
unfolding group_next
renewed_quota group table m g long = rw (long_table table long) refl

pub right_after : RightAfter
right_after columns sums table long group one o cs first before q after rest e h =
    let m = lent_of (columns group) (sums group) in
    let n = length table in
    let start = ledger_of group table in
    let fed = first ++ (renews ∷ map (λ c. calls c) before) in
    let g = group_next group n m (fold (group_next group n m) start first) renews in
    let r = any_cost columns sums table long group one o cs fed q (map (λ c. calls c) after ++ rest) e in
    let then : fold (group_next group n m) start fed ≡ fold (after_calls group n m) g before
    = fold_behind group n m start first (renews ∷ map (λ c. calls c) before) ∙ renewed_then group n m (fold (group_next group n m) start first) before in
    let room : along (after_calls group n m) (cost_for group n m) g (before ++ (costs q ∷ after)) ≤ g.counter
    = omega (arith, h, renewed_quota group n m (fold (group_next group n m) start first) long) in
    record {
      earlier = replies (group_ledger group n m) start fed;
      answer = cost_told group n m (fold (group_next group n m) start fed).counter (fold (group_next group n m) start fed).samples q;
      later = r.later;
      long = length_replies (group_ledger group n m) start fed;
      stands = r.stands;
      through = λ z.
          gets_through group n m g before q after room
          (sym (ap (λ (k : GroupLedger). told_number (cost_told group n m k.counter k.samples q)) then) ∙ z);
    }
