-- Document 02's mirror image with eight course groups on one table: two lists of starts, renewals and calls of all groups, alike but for the sign of
-- every y, and what a group is replied. The theorem, `group_mirror`, is proved in proofs/Groups.antt, and so is `flipped_groups`, that every list of
-- such calls has its mirror image. Definitions only.
use Rattle.std.specs.Prelude.{◌≡◌, List, ℕ, ◌≤◌, ◌<◌, length, take, Float, Option, None, Some}
use Rattle.loops.specs.Fold.{fold}
use Rattle.runs.specs.Runs.{replies, only, pick}
use Rattle.basis.specs.Counts.{count_of}
use Rattle.basis.specs.declared.Basis.TheVariants.{Surface}
use Rattle.statistics.specs.declared.Confidence.{Confidence}
use Rattle.statistics.specs.declared.Tolerance.{Tolerance}
use Rattle.samples.specs.declared.Sample.{Sample}
use Rattle.samples.specs.Columns.{Columns, samples_of}
use Rattle.fit.specs.Solved.{scored_by}
use Rattle.settings.specs.declared.Settings.{Settings}
use Rattle.reporting.specs.declared.Places.{Places}
use Rattle.surface.specs.Points.{Point, PointColumns, points_of, rows_of_points, surface_sums}
use Rattle.split.specs.declared.Places.{Places as SplitPlaces}
use Rattle.book.specs.Calls.{book_of, open_out}
use Rattle.ledger.specs.Ledger.{Call, Reply, told, lent_of}
use Rattle.ledger.specs.ReadCalls.{ReadCall, Told}
use Rattle.ledger.specs.Words.{scored}
use Rattle.allowance.specs.Table.{TableAnswer, groups, table_places, counter_of, quota_of}
use Rattle.groups.specs.Calls.{SurfaceCall, surface_fits, surface_reports, surface_bands, CostCall, group_reports, group_surfaces, group_splits, GroupCall, books, surfaces, costs, GroupReply, tabled, replied}
use Rattle.groups.specs.Ledger.{Fed, starts, renews, calls, GroupLedger}
use Rattle.groups.specs.Shared.{Shared, SharedCall, start_all, renew_all, of, shared_next, shared, mine, seen_by}
use Rattle.groups.specs.Claims.{opened_on}
use Rattle.mirror.specs.Pairs.{Pairs}
use Rattle.mirrored.specs.Samples.{MirrorSamples, MirrorPointColumns}
use Rattle.mirrored.specs.Replies.{MirrorTold, BySize}
use Rattle.mirrored.specs.Calls.{MirrorCall, MirrorReply, ByCall}

-- ---- the calls

-- a surface's samples come with its call: x and z are equal, and every y has its sign changed; all else is asked alike
pub data MirrorSurface : SurfaceCall → SurfaceCall → Type 0 where
  surface_fitting : (n degree : ℕ) {c d : PointColumns} → MirrorPointColumns n c d → (scratch coefficients : ℕ)
      → MirrorSurface (surface_fits n degree c scratch coefficients) (surface_fits n degree d scratch coefficients)
  surface_reporting : (n : ℕ) (settings : Settings) {c d : PointColumns} → MirrorPointColumns n c d → (places : Places)
      → MirrorSurface (surface_reports n settings c places) (surface_reports n settings d places)
  surface_banding : (n : ℕ) (x z : Float) (degree : ℕ) (confidence : Confidence) (tolerance : Tolerance) {c d : PointColumns} → MirrorPointColumns n c d
      → (scratch : ℕ) → MirrorSurface (surface_bands n x z degree confidence tolerance c scratch) (surface_bands n x z degree confidence tolerance d scratch)

-- calls that cost are asked alike
pub data MirrorCost : CostCall → CostCall → Type 0 where
  group_reporting : (settings : Settings) (places : Places) → MirrorCost (group_reports settings places) (group_reports settings places)
  group_surfacing : (n : ℕ) (settings : Settings) {c d : PointColumns} → MirrorPointColumns n c d → (places : Places)
      → MirrorCost (group_surfaces n settings c places) (group_surfaces n settings d places)
  group_splitting : (settings : Settings) (places : SplitPlaces) → MirrorCost (group_splits settings places) (group_splits settings places)

pub data MirrorGroupCall : GroupCall → GroupCall → Type 0 where
  of_book : {c d : Call ReadCall} → MirrorCall c d → MirrorGroupCall (books c) (books d)
  of_surface : {c d : SurfaceCall} → MirrorSurface c d → MirrorGroupCall (surfaces c) (surfaces d)
  of_cost : {c d : CostCall} → MirrorCost c d → MirrorGroupCall (costs c) (costs d)

-- quota and renewals included: the quota is the same, and so is the group that makes a call
pub data MirrorShared : SharedCall → SharedCall → Type 0 where
  starting_all : (quota : ℕ) → MirrorShared (start_all quota) (start_all quota)
  renewing_all : MirrorShared renew_all renew_all
  made : (group : ℕ) {c d : GroupCall} → MirrorGroupCall c d → MirrorShared (of group c) (of group d)

-- what one group is fed of them
pub data MirrorFed : Fed → Fed → Type 0 where
  starting : (quota : ℕ) → MirrorFed (starts quota) (starts quota)
  renewing : MirrorFed renews renews
  calling : {c d : GroupCall} → MirrorGroupCall c d → MirrorFed (calls c) (calls d)

-- ---- the replies

-- where a surface's call, or one that costs, prunes, it prunes by size
abbrev pub SurfaceBySize : SurfaceCall → Type 0
SurfaceBySize (surface_fits n degree columns scratch coefficients) = Unit {0}
SurfaceBySize (surface_reports n settings columns places) = BySize settings
SurfaceBySize (surface_bands n x z degree confidence tolerance columns scratch) = Unit {0}

abbrev pub CostBySize : CostCall → Type 0
CostBySize (group_reports settings places) = BySize settings
CostBySize (group_surfaces n settings columns places) = BySize settings
CostBySize (group_splits settings places) = Unit {0}

-- the replies to what a group is fed and to its mirror image: start and renew answer the same, and all else is mirrored as without a group
pub data MirrorGroupReply : Fed → GroupReply → GroupReply → Type 0 where
  start_reply : (quota : ℕ) (a : TableAnswer) → MirrorGroupReply (starts quota) (tabled a) (tabled a)
  renew_reply : (a : TableAnswer) → MirrorGroupReply renews (tabled a) (tabled a)
  book_reply : {c : Call ReadCall} {a b : Reply Told} → MirrorReply c a b → MirrorGroupReply (calls (books c)) (replied a) (replied b)
  surface_reply : (q : SurfaceCall) {a b : Told} → MirrorTold (SurfaceBySize q) a b → MirrorGroupReply (calls (surfaces q)) (replied (told a)) (replied (told b))
  charged_reply : (q : CostCall) {a b : Told} → MirrorTold (CostBySize q) a b → MirrorGroupReply (calls (costs q)) (replied (told a)) (replied (told b))

-- ---- a group's ledger: the samples are mirrored, counter and quota equal

pub record MirrorLedger (g k : GroupLedger) : Type 0 where
  pub samples : MirrorSamples g.samples k.samples
  pub counter : g.counter ≡ k.counter
  pub quota : g.quota ≡ k.quota

-- ---- the reports of surfaces

-- the settings and the samples of one
pub record SurfaceReport : Type 0 where
  pub settings : Settings
  pub points : List Point

-- of what a group is fed, the reports of surfaces, those that cost and those that do not
abbrev pub surface_reported : Fed → Option SurfaceReport
surface_reported (starts quota) = None
surface_reported renews = None
surface_reported (calls (books c)) = None
surface_reported (calls (surfaces (surface_fits n degree columns scratch coefficients))) = None
surface_reported (calls (surfaces (surface_reports n settings columns places))) = Some (record { settings = settings; points = points_of n columns })
surface_reported (calls (surfaces (surface_bands n x z degree confidence tolerance columns scratch))) = None
surface_reported (calls (costs (group_reports settings places))) = None
surface_reported (calls (costs (group_surfaces n settings columns places))) = Some (record { settings = settings; points = points_of n columns })
surface_reported (calls (costs (group_splits settings places))) = None

-- the score of a total degree, if it is solved: `scored` of crate `ledger`, of a surface's rows and sums
abbrev pub surface_scored : Settings → List Point → ℕ → Option Float
surface_scored settings points d =
    scored_by settings.criterion (surface_sums points) (rows_of_points points) (rows_of_points points) (count_of Surface d)

abbrev pub SameScores : SurfaceReport → SurfaceReport → Type 0
SameScores a b = (d : ℕ) → surface_scored a.settings a.points d ≡ surface_scored b.settings b.points d

-- ---- what is claimed

-- the samples that stand in a group's columns
abbrev pub held_by : ℕ → Shared → List Sample
held_by group s = samples_of (s.books group).count (s.books group).columns

-- Of one number, where s and t are what the program begins with. A number above 7 names no group: its calls that cost get 17, past 1, and it has no
-- counter.
pub record GroupImage (group : ℕ) (s t : Shared) (cs ds : List SharedCall) : Type 0 where
  -- the group is fed calls alike but for the sign of every y,
  pub fed : Pairs MirrorFed (only (mine group) cs) (only (mine group) ds)
  -- its replies, in the run of all groups' calls, are mirrored call by call, and refusals agree by number, 16 and 17 too,
  pub replied : ByCall MirrorGroupReply (only (mine group) cs) (pick (mine group) cs (replies shared s cs)) (pick (mine group) ds (replies shared t ds))
  -- and after the first n calls of both its counter is equal,
  pub counters : group < groups → (n : ℕ) → (seen_by group (fold shared_next s (take n cs))).counter ≡ (seen_by group (fold shared_next t (take n ds))).counter
  -- its samples are mirrored,
  pub samples : (n : ℕ) → MirrorSamples (held_by group (fold shared_next s (take n cs))) (held_by group (fold shared_next t (take n ds)))
  -- and of every degree whether it is solved, and its score, are equal.
  pub scores : (n : ℕ) (settings : Settings) (d : ℕ)
      → scored settings (held_by group (fold shared_next s (take n cs))) d ≡ scored settings (held_by group (fold shared_next t (take n ds))) d
  -- So they are, of every total degree, in its reports of surfaces, report by report.
  pub surface_scores : Pairs SameScores (only surface_reported (only (mine group) cs)) (only surface_reported (only (mine group) ds))

-- two tables of one length that are the same to a number: its counter, where it is a group's, and the quota; its calls see no other place
pub record SameTable (group : ℕ) (table table' : List ℕ) : Type 0 where
  pub long : length table ≡ length table'
  pub counter : group < groups → counter_of table group ≡ counter_of table' group
  pub quota : quota_of table ≡ quota_of table'

-- Take two lists of starts, renewals and calls of all groups, refused ones included, in any order, alike but for the sign of every y, from books just
-- opened, whose lent memory has the same lengths and held anything, and tables of nine places or more with the same counter and quota, such as two just
-- started with one quota.
abbrev pub AnyGroupMirror : Type 0
AnyGroupMirror =
    (columns columns' : ℕ → Columns) (sums sums' : ℕ → List Float) (table table' : List ℕ) → table_places ≤ length table
    → (group : ℕ) → SameTable group table table' → lent_of (columns group) (sums group) ≡ lent_of (columns' group) (sums' group)
    → (open_out (sums group)).answer ≡ book_of 0 → (open_out (sums' group)).answer ≡ book_of 0
    → (cs ds : List SharedCall) → Pairs MirrorShared cs ds
    → GroupImage group (opened_on columns sums table) (opened_on columns' sums' table') cs ds
