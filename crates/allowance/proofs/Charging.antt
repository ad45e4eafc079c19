-- What a group's call comes to: refused by 1 or 17, or the call within its group's counter, which is less what it takes.
use Rattle.std.specs.Prelude.{Result, Ok, Err, IsErrAnd, ⊤}
use mathlib.Core.Path.{◌≡◌, refl, ap, subst, ◌∙◌}
use mathlib.Core.Bool.{Bool, true, false, cond, ◌||◌}
use mathlib.Core.List.{List, [], ◌∷◌}
use Prim.Native.Nat.{ℕ, zero, suc, ◌-◌, ◌≤◌, ◌<◌}
use native.Mathlib.Omega.{arith}
use borrow.Author.Tests.{ltb-false}
use lib.Dec.{ltb}
use lib.ListN.{length, get_or, set}
use lib.Ieee.{Float}
use Rattle.basis.specs.declared.Basis.{Basis}
use Rattle.basis.specs.declared.Basis.TheVariants.{Curve, Surface}
use Rattle.samples.specs.declared.Sample.{Sample}
use Rattle.monomial.specs.Rows.{Row, rows_of, weighted_rows}
use Rattle.fit.specs.declared.Choice.{Choice}
use Rattle.lent.specs.Slices.{contents_of}
use Rattle.settings.specs.declared.Settings.{Settings}
use Rattle.refusal.specs.declared.refusals.Refusal.{Refusal}
use Rattle.refusal.specs.Refusals.{Test, by, first_of, settle}
use Rattle.refusal.specs.Tests.{any_short}
use Rattle.refusal.specs.Laws.{first_none}
use Rattle.refusal.specs.Named.{refused_by, judged}
use Rattle.refusal.specs.NamedLaws.{passed, refused_on}
use Rattle.reporting.specs.declared.Counted.{Counted}
use Rattle.reporting.specs.declared.Places.{Places}
use Rattle.reporting.specs.Limited.{Limited, limited_of, limited_early, DoesWithin}
use Rattle.reporting.specs.Outputs.{LentOutputs, Outputs}
use Rattle.reporting.specs.Reports.{ReportAnswer, refused_early, refused_late, report_of}
use Rattle.report.specs.Refusals.{report_refusal}
use Rattle.report.specs.Reports.{report_choice}
use Rattle.report.specs.Limited.{within_past, within_on}
use Rattle.surface.specs.Points.{Point, rows_of_points, surface_sums}
use Rattle.surface.specs.Refusals.{surface_report_refusal}
use Rattle.surface.specs.Surfaces.{surface_choice}
use Rattle.surface.specs.Limited.{surface_within_past, surface_within_on}
use Rattle.split.specs.declared.CountedSplit.{CountedSplit}
use Rattle.split.specs.Refusals.{split_refusal}
use Rattle.split.specs.Search.{search_tests}
use Rattle.split.specs.Splits.{SplitAnswer, SplitOut, LentSplit, split_refused, taken_of, split_taken, Does as SplitDoes}
use Rattle.split.specs.declared.Places.{Places as SplitPlaces}
use Rattle.allowance.specs.Table.{taken_from, table_places, table_refusal, TableAnswer, TableOut, TableIs}
use Rattle.allowance.specs.TableLaws.{nothing_taken}
use Rattle.allowance.specs.Refusals.{no_group, with_group}
use Rattle.allowance.specs.RefusalLaws.{group_refused, group_passed}
use Rattle.allowance.specs.Charges.{charged, ReportCharged, SplitCharged}

-- ---- start and renew

-- a table that is not refused has nine places
pub table_long : {n : ℕ} {r : Result ⊤ Refusal} {u : ⊤} → r ≡ judged (table_refusal n) → r ≡ Ok u → table_places ≤ n
unfolding table_refusal any_short
table_long {n} e h = go (ltb n table_places) refl (first_none _ 0 _ (passed e h)).0
  where
    go : (t : Bool) → ltb n table_places ≡ t → (t || false) ≡ false → table_places ≤ n
    go true q z = absurd (cc)
    go false q z = ltb-false n table_places q

pub table_refused : (k : ℕ) (good : TableOut) (table : List ℕ) {a : TableAnswer} → (k ≡ 0 → ⊥) × (a ≡ refused_by k)
    → TableIs (settle k good (record { answer = refused_by k; table = table })) a table
table_refused zero good table h = absurd (h.0 refl)
table_refused (suc k) good table h = record { answer = h.1; table = refl }

-- ---- a call of a group: short is 1 of the call without a group, later are its further tests, and r is what 1 and 17 came to

-- it is one of eight, and has a counter
pub group_counted : {group table : ℕ} (short : Bool) {r : Result ⊤ Refusal} {u : ⊤}
    → r ≡ judged (first_of (by (ltb table table_places || short) 1 ∷ by (no_group group) 17 ∷ [])) → r ≡ Ok u → (group < table) × (group < 8)
group_counted {group} {table} short e h =
    let p = group_passed group table short [] _ refl (passed e h) in
    (omega (arith, p.0, p.1), p.1)

module _ (group : ℕ) (table : List ℕ) (short : Bool) (later : List Test) where
  -- the number of all tests, and of those of the call without a group
  abbrev all : ℕ
  all = first_of (with_group group (length table) (by short 1 ∷ later))

  abbrev own : ℕ
  own = first_of (by short 1 ∷ later)

  module _ {r : Result ⊤ Refusal} (e : r ≡ judged (first_of (by (ltb (length table) table_places || short) 1 ∷ by (no_group group) 17 ∷ []))) where
    all_refused : {A : Type 0} {x : Refusal} {a : Result A Refusal} → r ≡ Err x → IsErrAnd a (λ d. d ≡ x) → (all ≡ 0 → ⊥) × (a ≡ refused_by all)
    all_refused {A = A} {a = a} h q =
        let p = refused_on e h q in
        subst (λ (k : ℕ). (k ≡ 0 → ⊥) × (a ≡ refused_by k)) (group_refused group (length table) short later _ refl p.0) p

    all_own : {u : ⊤} → r ≡ Ok u → all ≡ own
    all_own h = (group_passed group (length table) short later _ refl (passed e h)).2

    -- refused by 1 or 17
    pub report_refused : {x : Refusal} {a : ReportAnswer} → r ≡ Err x → IsErrAnd a (λ d. d ≡ x) → (past : Limited) (w : Outputs)
        → ReportCharged (charged group table all (refused_early all) past.does past.taken) a (record { found = w; left = w }) table
    report_refused h q past w = let p = all_refused h q in go all p.0 p.1
      where
        go : (k : ℕ) → (k ≡ 0 → ⊥) → {a : ReportAnswer} → a ≡ refused_by k
            → ReportCharged (charged group table k (refused_early k) past.does past.taken) a (record { found = w; left = w }) table
        go zero n q = absurd (n refl)
        go (suc k) n q = record { does = record { answer = q; outputs = refl }; table = refl }

    -- let through by both
    pub report_charged : {u : ⊤} → r ≡ Ok u → (past : Limited) (a : Counted) (w : LentOutputs) → DoesWithin (settle own past (limited_early own)) a w
        → ReportCharged (charged group table all (refused_early all) past.does past.taken) a.answer w (set table group (get_or table group 0 - a.tests))
    report_charged h past a w d = rw (all_own h) (go own d)
      where
        go : (k : ℕ) → DoesWithin (settle k past (limited_early k)) a w
            → ReportCharged (charged group table k (refused_early k) past.does past.taken) a.answer w (set table group (get_or table group 0 - a.tests))
        go zero d = record { does = d.does; table = ap (taken_from table group) d.taken }
        go (suc k) d = record { does = d.does; table = ap (taken_from table group) d.taken ∙ nothing_taken table group }

    -- the same of a split
    pub split_refused_early : {x : Refusal} {a : SplitAnswer} → r ≡ Err x → IsErrAnd a (λ d. d ≡ x) → (past : SplitOut) (taken : ℕ) (s b l : List Float)
        → SplitCharged (charged group table all (split_refused all []) past taken) a (record { scratch = contents_of s s; before = contents_of b b; after = contents_of l l }) table
    split_refused_early h q past taken s b l = let p = all_refused h q in go all p.0 p.1
      where
        go : (k : ℕ) → (k ≡ 0 → ⊥) → {a : SplitAnswer} → a ≡ refused_by k
            → SplitCharged (charged group table k (split_refused k []) past taken) a (record { scratch = contents_of s s; before = contents_of b b; after = contents_of l l }) table
        go zero n q = absurd (n refl)
        go (suc k) n q = record { does = record { answer = q; scratch = refl; before = refl; after = refl }; table = refl }

    pub split_charged : {u : ⊤} → r ≡ Ok u → (past : SplitOut) (taken : ℕ) (a : CountedSplit) (w : LentSplit)
        → SplitDoes (settle own past (split_refused own [])) a.answer w → a.tests ≡ settle own taken 0
        → SplitCharged (charged group table all (split_refused all []) past taken) a.answer w (set table group (get_or table group 0 - a.tests))
    split_charged h past taken a w d t = rw (all_own h) (go own d t)
      where
        go : (k : ℕ) → SplitDoes (settle k past (split_refused k [])) a.answer w → a.tests ≡ settle k taken 0
            → SplitCharged (charged group table k (split_refused k []) past taken) a.answer w (set table group (get_or table group 0 - a.tests))
        go zero d t = record { does = d; table = ap (taken_from table group) t }
        go (suc k) d t = record { does = d; table = ap (taken_from table group) t ∙ nothing_taken table group }

-- a call takes no more than is left
limited_taken : (basis : Basis) (n : ℕ) (settings : Settings) (limit : ℕ) (rows : List Row) (sums : List Float) (choice : Choice)
    → (limited_of basis n settings limit rows sums choice).taken ≤ limit
unfolding limited_of
limited_taken basis n settings limit rows sums choice = go (ltb limit choice.tests) refl
  where
    go : (t : Bool) → ltb limit choice.tests ≡ t
        → (cond {A = Limited} t (record { does = refused_late n 16; taken = 0 }) (record { does = report_of basis n settings rows sums choice.solved choice.chosen; taken = choice.tests })).taken ≤ limit
    go true e = omega arith
    go false e = ltb-false _ _ e

settled_taken : (q limit : ℕ) (past : Limited) → past.taken ≤ limit → (settle q past (limited_early q)).taken ≤ limit
settled_taken zero limit past h = h
settled_taken (suc q) limit past h = omega arith

pub report_taken : (n : ℕ) (settings : Settings) (limit : ℕ) (samples : List Sample) (sums : List Float) (columns : List ℕ) (len : ℕ) (places : Places)
    → (within_on n settings limit samples sums columns len places).taken ≤ limit
unfolding within_on within_past
report_taken n settings limit samples sums columns len places =
    let rows = rows_of samples in
    let choice = report_choice n settings rows sums in
    settled_taken (report_refusal n settings samples columns len places) limit (limited_of Curve n settings limit rows sums choice) (limited_taken Curve n settings limit rows sums choice)

pub surface_taken : (n : ℕ) (settings : Settings) (limit : ℕ) (points : List Point) (columns : List ℕ) (places : Places)
    → (surface_within_on n settings limit points columns places).taken ≤ limit
unfolding surface_within_on surface_within_past
surface_taken n settings limit points columns places =
    let rows = rows_of_points points in
    let sums = surface_sums points in
    let choice = surface_choice n settings rows sums in
    settled_taken (surface_report_refusal n points columns settings places) limit (limited_of Surface n settings limit rows sums choice) (limited_taken Surface n settings limit rows sums choice)

split_settled : (q limit tests : ℕ) → settle q (taken_of limit tests) 0 ≤ limit
unfolding taken_of
split_settled (suc q) limit tests = omega arith
split_settled zero limit tests = go (ltb limit tests) refl
  where
    go : (t : Bool) → ltb limit tests ≡ t → cond t 0 tests ≤ limit
    go true e = omega arith
    go false e = ltb-false _ _ e

pub split_taken_most : (n : ℕ) (settings : Settings) (limit : ℕ) (samples : List Sample) (columns : List ℕ) (sums : ℕ) (places : SplitPlaces)
    → split_taken n settings limit samples columns sums places ≤ limit
unfolding split_taken
split_taken_most n settings limit samples columns sums places =
    split_settled (split_refusal n settings samples columns sums places) limit (search_tests settings.bound settings.criterion (weighted_rows samples))
