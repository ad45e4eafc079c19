-- `covariance::put_covariance` meets its contract. The loop's invariant: the places passed are products.
use Rattle.std.proofs.Common.{◌≡◌, ℕ, List, map, length, get_or, length-set, refl, sym, ap, ◌∙◌, take_all, arith, rules}
use lib.Ieee.{Float, nan, binary64, mul}
use Rattle.loops.specs.Places.{each}
use Rattle.loops.specs.PlaceLaws.{each_again, each_whole, table_take, map_table}
use Rattle.covariance.specs.Covariance.{covariance_of}
use Rattle.covariance.proofs.put_covariance.Goals as goal

-- in place, each product takes the place of its factor
in_place : (v : List Float) (x : Float) → length v ≡ 256 → each (λ _ a. mul binary64 a x) 256 v ≡ covariance_of v x
unfolding covariance_of
in_place v x n =
    ap (λ (k : ℕ). each (λ _ a. mul binary64 a x) k v) (sym n) ∙ each_whole (λ a. mul binary64 a x) v
    ∙ ap (map (λ a. mul binary64 a x)) (sym (table_take nan 256 v (omega arith) ∙ take_all 256 v (omega arith))) ∙ sym (map_table (λ a. mul binary64 a x) (λ t. get_or v t nan) 256)

pub loop-t-init : goal.loop-t-init
unfolding each
loop-t-init c = (search rules, refl)

pub loop-t-preserved : goal.loop-t-preserved
loop-t-preserved c = (simp length-set c.loop-t.invariant.0, rw c.loop-t.invariant.1 (each_again (λ _ v. mul binary64 v c.args.variance) _ _ nan (search rules)))

pub returns : goal.returns
returns c =
    let z : c.loop-t.t ≡ 256 = omega arith in
    (rw z at c.loop-t.invariant.1) ∙ in_place c.args.inverse.now c.args.variance (search rules)
