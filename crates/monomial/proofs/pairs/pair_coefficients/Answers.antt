-- `monomial::pairs::pair_coefficients` meets its contract. The loop's invariant: the places passed are written.
use Rattle.std.proofs.Common.{◌≡◌, ℕ, List, [], ◌∷◌, get_or, replicate, length, refl, sym, ap, ◌∙◌, subst, arith, take_all}
use Rattle.std.proofs.lemmas.List.{length-replicate}
use lib.Ieee.{Float, nan, of_bits, binary64}
use Rattle.loops.specs.AllLaws.{all_table}
use Rattle.loops.specs.Places.{each, table}
use Rattle.loops.specs.PlaceLaws.{each_again, each_table, map_table, table_take}
use Rattle.value.specs.Lanes.{Paired, lane}
use Rattle.monomial.proofs.pairs.pair_coefficients.Goals as goal

pub loop-j-init : goal.loop-j-init
unfolding each
loop-j-init c = refl

pub loop-j-preserved : goal.loop-j-preserved
loop-j-preserved c = rw c.loop-j.invariant (each_again (λ i _. get_or c.args.c.now i nan ∷ get_or c.args.c.now i nan ∷ []) c.loop-j.j _ [] (omega arith))

-- each number in both places
both : List Float → ℕ → List Float
both c i = get_or c i nan ∷ get_or c i nan ∷ []

module _ (c : List Float) (long : length c ≡ 16) (v : List (List Float)) (e : v ≡ table (both c) 16) where
  first : lane 0 v ≡ c
  unfolding lane both
  first = ap (lane 0) e ∙ sym (map_table (λ t. get_or t 0 nan) (both c) 16) ∙ table_take nan 16 c (omega arith) ∙ take_all 16 c (omega arith)

  second : lane 1 v ≡ c
  unfolding lane both
  second = ap (lane 1) e ∙ sym (map_table (λ t. get_or t 1 nan) (both c) 16) ∙ table_take nan 16 c (omega arith) ∙ take_all 16 c (omega arith)

  paired : Paired v
  unfolding both
  paired = subst Paired (sym e) (all_table (λ (t : List Float). length t ≡ 2) (both c) 16 (λ k h. refl))

pub returns : goal.returns
unfolding both
returns c =
    let z : c.loop-j.j ≡ 16 = omega arith in
    let e : c.loop-j.v ≡ table (both c.args.c.now) 16 = rw z at c.loop-j.invariant ∙ each_table (both c.args.c.now) 16 (replicate 16 (of_bits binary64 0 ∷ of_bits binary64 0 ∷ [])) (length-replicate 16 (of_bits binary64 0 ∷ of_bits binary64 0 ∷ [])) in
    record { first = first c.args.c.now c.told-c c.loop-j.v e; second = second c.args.c.now c.told-c c.loop-j.v e; paired = paired c.args.c.now c.told-c c.loop-j.v e }
