-- One break more.
use Rattle.std.specs.Prelude.{Option, Some, None}
use mathlib.Core.Path.{◌≡◌, refl, sym, ap, ◌∙◌}
use mathlib.Core.Bool.{true, false}
use Prim.Native.Nat.{ℕ}
use Rattle.basis.specs.declared.Degree.{Degree}
use Rattle.fit.specs.declared.Choice.{Choice}
use Rattle.split.specs.declared.Best.{Best}
use Rattle.split.specs.Search.{total_of, stands, better_by, better}

module _ (b : ℕ) (left right : Choice) (best : Option Best) where
  -- a side is not chosen
  pub better_none_left : left.chosen ≡ None → best ≡ better b left right best
  unfolding better better_by
  better_none_left h = rw h

  pub better_none_right : right.chosen ≡ None → best ≡ better b left right best
  unfolding better better_by
  better_none_right h = go left.chosen ∙ ap (λ (o : Option Degree). better_by b left.chosen o (total_of left right) best) (sym h)
    where
      go : (o : Option Degree) → best ≡ better_by b o None (total_of left right) best
      go None = refl
      go (Some d) = refl

  -- both are
  module _ (d e : Degree) (l : left.chosen ≡ Some d) (r : right.chosen ≡ Some e) where
    pub better_stays : stands (total_of left right) best ≡ true → best ≡ better b left right best
    unfolding better better_by
    better_stays h = rw (l, r, h)

    pub better_new : stands (total_of left right) best ≡ false → Some (record { at = b; total = total_of left right; before = d; after = e }) ≡ better b left right best
    unfolding better better_by
    better_new h = rw (l, r, h)
