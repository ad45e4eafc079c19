-- Laws of Groups.antt: what a group is fed, and what one call and its mirror image leave and reply, by the group's ledger.
use Rattle.std.specs.Prelude.{◌≡◌, Bool, cond, ℕ, eqb, length, Some, None}
use Rattle.std.proofs.Math.Path.{refl, ap}
use Rattle.std.proofs.Math.Bool.{true, false}
use mathlib.Core.List.{List, []}
use Rattle.runs.specs.Runs.{front_of, only}
use Rattle.basis.specs.Counts.{count_of}
use Rattle.basis.specs.declared.Basis.TheVariants.{Curve, Surface}
use Rattle.samples.specs.declared.Sample.{Sample}
use Rattle.settings.specs.declared.Settings.{Settings}
use Rattle.fit.specs.declared.Choice.{Choice}
use Rattle.report.specs.Limited.{within_past}
use Rattle.surface.specs.Points.{Point, point_lengths}
use Rattle.surface.specs.Limited.{surface_within_past}
use Rattle.ledger.specs.Ledger.{Lent}
use Rattle.allowance.specs.Table.{table_refusal}
use Rattle.allowance.specs.Refusals.{group_report_refusal, group_surface_refusal, group_split_refusal}
use Rattle.groups.specs.Calls.{SurfaceCall, surface_on, CostCall, group_reports, group_surfaces, group_splits, cost_refusal, cost_of, cost_reply, left_of}
use Rattle.groups.specs.Ledger.{Fed, calls, GroupLedger, table_answer, refused_by, costing, cost_told, group_next, group_reply}
use Rattle.groups.specs.Shared.{SharedCall, mine}
use Rattle.mirror.specs.Pairs.{Pairs, none, and}
use Rattle.mirror.specs.PairLaws.{pairs_length}
use Rattle.mirror.specs.FitLaws.{scored_mirror}
use Rattle.mirror.specs.SplitLaws.{search_mirror}
use Rattle.mirrored.specs.Samples.{MirrorSamples, MirrorPoints}
use Rattle.mirrored.specs.SampleLaws.{rows_mirror, weights_mirror, book_sums_mirror, all_finite_mirror, point_rows_mirror, surface_sums_mirror, points_finite_mirror}
use Rattle.mirrored.specs.Replies.{MirrorTold, MirrorReport, MirrorSplit, fit, band, report, split, BySize}
use Rattle.mirrored.proofs.ReplyLaws.{settle_mirror, report_refused, split_refused_lem, split_past_mirror, limited_mirror}
use Rattle.mirrored.proofs.ReadLaws.{report_choice_mirror}
use Rattle.mirrored.proofs.SurfaceLaws.{surface_fit_mirror, surface_report_mirror, surface_band_mirror, surface_choice_mirror}
use Rattle.mirrored.proofs.CallLaws.{next_mirror, reply_mirror}
use Rattle.mirrored.specs.Groups.{MirrorSurface, surface_fitting, surface_reporting, surface_banding, MirrorCost, group_reporting, group_surfacing, group_splitting, of_book, of_surface, of_cost, MirrorShared, starting_all, renewing_all, made, MirrorFed, starting, renewing, calling, SurfaceBySize, CostBySize, MirrorGroupReply, start_reply, renew_reply, book_reply, surface_reply, charged_reply, MirrorLedger, surface_reported, surface_scored, SameScores}

-- ---- what a group is fed

module _ (group : ℕ) where
  pub only_mirror : {cs ds : List SharedCall} → Pairs MirrorShared cs ds → Pairs MirrorFed (only (mine group) cs) (only (mine group) ds)
  unfolding only
  only_mirror none = none
  only_mirror (and (starting_all quota) p) = and (starting quota) (only_mirror p)
  only_mirror (and renewing_all p) = and renewing (only_mirror p)
  only_mirror (and (made h {c} {d} q) p) = go (eqb h group) (only_mirror p)
    where
      go : (b : Bool) {l m : List Fed} → Pairs MirrorFed l m
          → Pairs MirrorFed (front_of (cond b (Some (calls c)) None) l) (front_of (cond b (Some (calls d)) None) m)
      go true r = and (calling q) r
      go false r = r

-- ---- a surface's calls without a group

pub surface_on_mirror : {c d : SurfaceCall} → MirrorSurface c d → MirrorTold (SurfaceBySize c) (surface_on c) (surface_on d)
unfolding surface_on
surface_on_mirror (surface_fitting n degree {d} h scratch coefficients) =
    rw h.lengths (fit (surface_fit_mirror h.points n (point_lengths d) degree scratch coefficients))
surface_on_mirror (surface_reporting n settings {d} h places) =
    rw h.lengths (report (surface_report_mirror h.points n (point_lengths d) settings places))
surface_on_mirror (surface_banding n x z degree confidence tolerance {d} h scratch) =
    rw h.lengths (band (surface_band_mirror h.points n (point_lengths d) x z degree confidence tolerance scratch))

surface_scored_mirror : {ps qs : List Point} → MirrorPoints ps qs → (settings : Settings) (d : ℕ) → surface_scored settings ps d ≡ surface_scored settings qs d
surface_scored_mirror p settings d =
    let r = point_rows_mirror p in
    scored_mirror settings.criterion (surface_sums_mirror p) r r (count_of Surface d)

-- the reports among what a group is fed
pub surface_scores_mirror : {fs gs : List Fed} → Pairs MirrorFed fs gs → Pairs SameScores (only surface_reported fs) (only surface_reported gs)
unfolding only
surface_scores_mirror none = none
surface_scores_mirror (and (starting quota) p) = surface_scores_mirror p
surface_scores_mirror (and renewing p) = surface_scores_mirror p
surface_scores_mirror (and (calling (of_book q)) p) = surface_scores_mirror p
surface_scores_mirror (and (calling (of_surface (surface_fitting n degree h scratch coefficients))) p) = surface_scores_mirror p
surface_scores_mirror (and (calling (of_surface (surface_reporting n settings h places))) p) =
    and (surface_scored_mirror h.points settings) (surface_scores_mirror p)
surface_scores_mirror (and (calling (of_surface (surface_banding n x z degree confidence tolerance h scratch))) p) = surface_scores_mirror p
surface_scores_mirror (and (calling (of_cost (group_reporting settings places))) p) = surface_scores_mirror p
surface_scores_mirror (and (calling (of_cost (group_surfacing n settings h places))) p) =
    and (surface_scored_mirror h.points settings) (surface_scores_mirror p)
surface_scores_mirror (and (calling (of_cost (group_splitting settings places))) p) = surface_scores_mirror p

-- ---- a call that costs, of any group number

module _ (group table : ℕ) (m : Lent) {l k : List Sample} (p : MirrorSamples l k) where
  -- refusals 1 to 9 agree by number, 17 among them
  pub cost_refusal_mirror : {q r : CostCall} → MirrorCost q r → refused_by group table m l q ≡ refused_by group table m k r
  unfolding cost_refusal group_report_refusal group_surface_refusal group_split_refusal
  cost_refusal_mirror (group_reporting settings places) = rw (pairs_length p, all_finite_mirror p)
  cost_refusal_mirror (group_surfacing n settings h places) = rw (h.lengths, points_finite_mirror h.points)
  cost_refusal_mirror (group_splitting settings places) = rw (pairs_length p, all_finite_mirror p)

  -- the cost is equal
  pub cost_mirror : {q r : CostCall} → MirrorCost q r → costing group table m l q ≡ costing group table m k r
  unfolding cost_of
  cost_mirror (group_reporting settings places) =
      rw (pairs_length p) (ap (λ (c : Choice). c.tests) (report_choice_mirror (book_sums_mirror p) p (length k) [] 0 settings))
  cost_mirror (group_surfacing n settings h places) = ap (λ (c : Choice). c.tests) (surface_choice_mirror h.points n [] settings)
  cost_mirror (group_splitting settings places) = search_mirror settings.bound settings.criterion (weights_mirror p)

  -- and so is what is left of the counter
  pub left_mirror : (counter : ℕ) {q r : CostCall} → MirrorCost q r
      → left_of (refused_by group table m l q) counter (costing group table m l q) ≡ left_of (refused_by group table m k r) counter (costing group table m k r)
  left_mirror counter h = rw (cost_refusal_mirror h, cost_mirror h)

  pub cost_told_mirror : (counter : ℕ) {q r : CostCall} → MirrorCost q r → MirrorTold (CostBySize q) (cost_told group table m counter l q) (cost_told group table m counter k r)
  unfolding cost_reply within_past surface_within_past
  cost_told_mirror counter (group_reporting settings places) =
      let r = refused_by group table m k (group_reports settings places) in
      rw (cost_refusal_mirror (group_reporting settings places), pairs_length p, report_choice_mirror (book_sums_mirror p) p (length k) [] 0 settings)
      (report
      (settle_mirror (MirrorReport (BySize settings)) r (limited_mirror Curve (book_sums_mirror p) (rows_mirror p) (length k) settings counter _)
      (report_refused (BySize settings) r)))
  cost_told_mirror counter (group_surfacing n settings {d} h places) =
      let q = h.points in
      let r = refused_by group table m k (group_surfaces n settings d places) in
      rw (cost_refusal_mirror (group_surfacing n settings h places), surface_choice_mirror q n [] settings)
      (report
      (settle_mirror (MirrorReport (BySize settings)) r (limited_mirror Surface (surface_sums_mirror q) (point_rows_mirror q) n settings counter _)
      (report_refused (BySize settings) r)))
  cost_told_mirror counter (group_splitting settings places) =
      let r = refused_by group table m k (group_splits settings places) in
      rw (cost_refusal_mirror (group_splitting settings places), pairs_length p)
      (split
      (settle_mirror MirrorSplit r (split_past_mirror (weights_mirror p) (length k) settings.bound settings.criterion counter) (split_refused_lem r [])))

-- ---- whatever a group is fed

module _ (group table : ℕ) (m : Lent) {g k : GroupLedger} (h : MirrorLedger g k) where
  pub group_next_mirror : {c d : Fed} → MirrorFed c d → MirrorLedger (group_next group table m g c) (group_next group table m k d)
  unfolding group_next
  group_next_mirror (starting quota) =
      settle_mirror MirrorLedger (table_refusal table) (record { samples = h.samples; counter = refl; quota = refl }) h
  group_next_mirror renewing =
      settle_mirror MirrorLedger (table_refusal table) (record { samples = h.samples; counter = h.quota; quota = h.quota }) h
  group_next_mirror (calling (of_book q)) = record { samples = next_mirror m h.samples q; counter = h.counter; quota = h.quota }
  group_next_mirror (calling (of_surface q)) = h
  group_next_mirror (calling (of_cost q)) =
      record { samples = h.samples; counter = rw h.counter (left_mirror group table m h.samples k.counter q); quota = h.quota }

  pub group_reply_mirror : {c d : Fed} → MirrorFed c d → MirrorGroupReply c (group_reply group table m g c) (group_reply group table m k d)
  unfolding group_reply
  group_reply_mirror (starting quota) = start_reply quota (table_answer table)
  group_reply_mirror renewing = renew_reply (table_answer table)
  group_reply_mirror (calling (of_book q)) = book_reply (reply_mirror m h.samples q)
  group_reply_mirror (calling (of_surface {c} q)) = surface_reply c (surface_on_mirror q)
  group_reply_mirror (calling (of_cost {c} q)) = rw h.counter (charged_reply c (cost_told_mirror group table m h.samples k.counter q))
