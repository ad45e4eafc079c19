-- Laws of Lanes.antt.
use Rattle.std.specs.Prelude.{◌≡◌, ℕ, ◌<◌, Bool, true, false, cond, List, [], ◌∷◌, length, get_or, Float}
use Rattle.std.specs.Simd.Lanes.{top}
use Rattle.std.specs.Float.{nan}
use Rattle.std.proofs.Common.{refl, sym, ap₂, ◌∙◌, arith}
use Rattle.loops.specs.AllLaws.{all_at}
use Rattle.loops.specs.PlaceLaws.{map_at}
use Rattle.value.specs.Lanes.{Paired, lane}

-- what a comparison selects in a lane
pub lane_selected : {A : Type 0} (t : Bool) (a b : A) → cond (top 63 (cond t 0xFFFF_FFFF_FFFF_FFFF 0)) a b ≡ cond t a b
lane_selected true a b = refl
lane_selected false a b = refl

-- two places are a whole vector
pub both_lanes : (v : List Float) → length v ≡ 2 → v ≡ get_or v 0 nan ∷ get_or v 1 nan ∷ []
both_lanes [] h = absurd (omega arith)
both_lanes (a ∷ []) h = absurd (omega arith)
both_lanes (a ∷ b ∷ []) h = refl
both_lanes (a ∷ b ∷ e ∷ es) h = absurd (omega arith)

-- the vector at a place
pub pair_at : (vs : List (List Float)) → Paired vs → (j : ℕ) → j < length vs → get_or vs j [] ≡ get_or (lane 0 vs) j nan ∷ get_or (lane 1 vs) j nan ∷ []
unfolding lane
pair_at vs p j h =
    both_lanes (get_or vs j []) (all_at (λ (v : List Float). length v ≡ 2) vs j [] p h)
    ∙ ap₂ (λ (a b : Float). a ∷ b ∷ []) (sym (map_at (λ (v : List Float). get_or v 0 nan) vs j [] nan h)) (sym (map_at (λ (v : List Float). get_or v 1 nan) vs j [] nan h))
