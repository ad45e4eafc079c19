-- The greatest size of numbers, one number more.
use Rattle.std.proofs.Common.{◌≡◌, ℕ, ◌+◌, ◌<◌, true, false, List, length, take, get_or, sym, refl, subst}
use lib.Ieee.{Float, nan, inf, lt, le}
use Rattle.loops.specs.All.{All}
use Rattle.loops.specs.AllLaws.{all_more, all_weaker}
use Rattle.value.specs.Absolute.{abs_f}
use Rattle.value.specs.AbsoluteLaws.{abs_abs}
use Rattle.folds.specs.Reach.{Bounds}
use Rattle.folds.specs.ReachLaws.{held, grown, size_bounds, nothing_bounds}

-- after i numbers
pub record Greatest (l : List Float) (i : ℕ) (most : Float) : Type 0 where
  pub plain : abs_f most ≡ most
  pub bounds : All (Bounds most) (take i l)

pub none_yet : (l : List Float) (most : Float) → abs_f most ≡ most → Greatest l 0 most
none_yet l most p = record { plain = p; bounds = tt }

module _ (l : List Float) (i : ℕ) (most size : Float) (g : Greatest l i most) (h : i < length l) (e : size ≡ abs_f (get_or l i nan)) where
  pub as_great : le size most ≡ true → Greatest l (i + 1) most
  as_great t =
      let q : le (abs_f (get_or l i nan)) (abs_f most) ≡ true = rw (← e, g.plain) t in
      record { plain = g.plain; bounds = all_more (Bounds most) l i nan g.bounds (subst (λ b. Bounds b (get_or l i nan)) g.plain (held (get_or l i nan) most q)) h }

  pub greater : lt most size ≡ true → Greatest l (i + 1) size
  greater t =
      let v = get_or l i nan in
      let q : lt (abs_f most) (abs_f v) ≡ true = rw (← e, g.plain) t in
      record {
        plain = rw e (abs_abs v);
        bounds =
            all_more (Bounds size) l i nan
            (all_weaker (Bounds most) (Bounds size) (take i l)
            (λ x b. subst (λ s. Bounds s x) (sym e) (grown x most v q (subst (λ m. Bounds m x) (sym g.plain) b))) g.bounds)
            (subst (λ s. Bounds s v) (sym e) (size_bounds v)) h;
      }

  pub without_end : Greatest l (i + 1) (inf false)
  unfolding abs_f
  without_end =
      record {
        plain = refl;
        bounds = all_more (Bounds (inf false)) l i nan (all_weaker (Bounds most) (Bounds (inf false)) (take i l) (λ x b. nothing_bounds x) g.bounds) (nothing_bounds (get_or l i nan)) h;
      }
