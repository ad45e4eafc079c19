-- `statistics::order::Deviations::middles_between` meets its contract.
use Rattle.std.proofs.Common.{◌≡◌, ℕ, ◌-◌, ◌<◌, ◌≤◌, List, take, ap, ◌∙◌, arith}
use lib.Ieee.{Float}
use Rattle.statistics.specs.Counting.{count, under, upto, between, keep}
use Rattle.statistics.proofs.Kept.{count_between, copied_plain, copied_range, copied_stand}
use Rattle.statistics.proofs.order.Deviations.middles_between.Goals as goal

-- as many are copied as lie from lo to hi, if they fit
module _ (l : List Float) (lo hi low high room : ℕ) (o : lo ≤ hi) (u : low ≡ count (under lo) l) (v : high ≡ count (upto hi) l) where
  many : high - low ≡ count (between lo hi) l
  many = let h = count_between lo hi o l in omega arith

  fewer : low ≤ high
  fewer = let h = count_between lo hi o l in omega arith

  taken : (out : List Float) → high - low < room → (count (between lo hi) l < room → take (count (between lo hi) l) out ≡ keep (between lo hi) l) → take (high - low) out ≡ keep (between lo hi) l
  taken out h f = ap (λ (n : ℕ). take n out) many ∙ f (rw (← many) h)

pub overflow_sub-many : goal.overflow_sub-many
overflow_sub-many c = fewer _ _ _ _ _ 0 c.requires.0 c.gather-found.ensures.low c.gather-found.ensures.high

pub invariant_of-left : goal.invariant_of-left
invariant_of-left c =
    copied_plain _ c.gather-found.ensures.plain _ _ 0 c.requires.0 _
    (taken _ _ _ _ _ _ c.requires.0 c.gather-found.ensures.low c.gather-found.ensures.high _ (omega arith) c.gather-found.ensures.out_after)

pub middles_in-requires : goal.middles_in-requires
middles_in-requires c =
    copied_range _ c.gather-found.ensures.plain _ _ _ c.requires.0 _
    (taken _ _ _ _ _ _ c.requires.0 c.gather-found.ensures.low c.gather-found.ensures.high _ (omega arith) c.gather-found.ensures.out_after)
    _ _ c.gather-found.ensures.low c.gather-found.ensures.high (omega arith) (omega arith) c.requires.1

pub returns-clause-is : goal.returns-clause-is
returns-clause-is c =
    copied_stand _ c.gather-found.ensures.plain _ _ _ c.requires.0 _
    (taken _ _ _ _ _ _ c.requires.0 c.gather-found.ensures.low c.gather-found.ensures.high _ (omega arith) c.gather-found.ensures.out_after)
    _ _ c.gather-found.ensures.low c.gather-found.ensures.high (omega arith) (omega arith) _ _ c.middles_in.ensures
