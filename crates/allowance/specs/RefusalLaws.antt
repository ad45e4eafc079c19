-- What a group's calls may refuse by before they are charged, in the checking order, and what the code's tests come to.
use Rattle.std.proofs.Math.Path.{◌≡◌, refl}
use Rattle.std.proofs.Common.{sym, ◌∙◌}
use Rattle.std.specs.Prelude.{Bool, ◌||◌, ℕ, ◌≤◌, ◌<◌}
use Rattle.std.proofs.Math.Bool.{true, false, cond}
use mathlib.Core.List.{List, [], ◌∷◌, Memᴰ}
use native.Mathlib.Omega.{arith}
use borrow.Author.Tests.{ltb-false}
use Rattle.std.proofs.Math.Dec.{ltb}
use Rattle.samples.specs.declared.Sample.{Sample}
use Rattle.refusal.specs.Refusals.{Test, by, first_of, InOrder, those, is_among}
use Rattle.refusal.specs.Laws.{numbered}
use Rattle.settings.specs.declared.Settings.{Settings}
use Rattle.reporting.specs.declared.Places.{Places}
use Rattle.surface.specs.Points.{Point}
use Rattle.split.specs.declared.Places.{Places as SplitPlaces}
use Rattle.allowance.specs.Table.{table_places}
use Rattle.allowance.specs.Refusals.{no_group, with_group, group_report_refusal, group_surface_refusal, group_split_refusal}

module _ (group table : ℕ) where
  module _ (n : ℕ) (settings : Settings) (samples : List Sample) (columns : List ℕ) (sums : ℕ) where
    pub group_report_numbers : (places : Places) → Memᴰ (group_report_refusal group table n settings samples columns sums places) (0 ∷ 1 ∷ 17 ∷ 4 ∷ 7 ∷ 8 ∷ [])
    unfolding group_report_refusal
    group_report_numbers places = numbered _

    pub group_split_numbers : (places : SplitPlaces) → Memᴰ (group_split_refusal group table n settings samples columns sums places) (0 ∷ 1 ∷ 17 ∷ 4 ∷ 7 ∷ 8 ∷ [])
    unfolding group_split_refusal
    group_split_numbers places = numbered _

  pub group_surface_numbers : (n : ℕ) (settings : Settings) (points : List Point) (columns : List ℕ) (places : Places)
      → Memᴰ (group_surface_refusal group table n settings points columns places) (0 ∷ 1 ∷ 17 ∷ 4 ∷ 7 ∷ 8 ∷ [])
  unfolding group_surface_refusal
  group_surface_numbers n settings points columns places = numbered _

-- with 16, 11 and 12 of a call that is charged, they stand in the checking order
pub answers_in_order : InOrder (1 ∷ 17 ∷ 4 ∷ 7 ∷ 8 ∷ 16 ∷ 11 ∷ 12 ∷ [])
unfolding those is_among
answers_in_order = refl

-- ---- the code's tests: short is 1 of the call without a group

module _ (group table : ℕ) (short : Bool) (later : List Test) where
  -- a number that is not 0 is that of all tests
  pub group_refused : (r : ℕ) → r ≡ first_of (by (ltb table table_places || short) 1 ∷ by (no_group group) 17 ∷ []) → (r ≡ 0 → ⊥)
      → r ≡ first_of (with_group group table (by short 1 ∷ later))
  unfolding first_of
  group_refused r e h = go (ltb table table_places || short) (no_group group) e
    where
      go : (a b : Bool) → r ≡ cond a 1 (cond b 17 0) → r ≡ cond a 1 (cond b 17 (first_of later))
      go true b q = q
      go false true q = q
      go false false q = absurd (h q)

  -- at 0 the table has nine places, the group is one of eight, and the tests are those of the call without a group
  pub group_passed : (r : ℕ) → r ≡ first_of (by (ltb table table_places || short) 1 ∷ by (no_group group) 17 ∷ []) → r ≡ 0
      → (table_places ≤ table) × (group < 8) × (first_of (with_group group table (by short 1 ∷ later)) ≡ first_of (by short 1 ∷ later))
  unfolding first_of
  group_passed r e z = go (ltb table table_places) short (no_group group) refl refl (sym e ∙ z)
    where
      go : (a s b : Bool) → ltb table table_places ≡ a → no_group group ≡ b → ◌≡◌ {A = ℕ} (cond (a || s) 1 (cond b 17 0)) 0
          → (table_places ≤ table) × (group < 8) × (cond (a || s) 1 (cond b 17 (first_of later)) ≡ cond s 1 (first_of later))
      go true s b ea eb q = absurd (omega arith)
      go false true b ea eb q = absurd (omega arith)
      go false false true ea eb q = absurd (omega arith)
      go false false false ea eb q =
          let t : 9 ≤ table = ltb-false _ _ ea in
          let g : group ≤ 7 = ltb-false _ _ eb in
          (omega arith, omega arith, refl)
