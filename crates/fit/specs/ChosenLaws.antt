-- Laws of Chosen.antt.
use Rattle.std.specs.Prelude.{◌≡◌, List, ℕ, ◌≤◌, ◌<◌, length, take, replicate, Float, Option, None}
use Rattle.std.proofs.Common.{ap, ◌∙◌, arith, length-take-le}
use Rattle.std.proofs.lemmas.List.{get_or-take}
use Rattle.loops.specs.Places.{each}
use Rattle.loops.specs.PlaceLaws.{each_at, each_same, length_each}
use Rattle.choice.specs.Choice.{scored_at}
use Rattle.fit.specs.Chosen.{scores_of}

-- what a list holds of the degrees below b, where it holds their scores
module _ (S : ℕ → Option Float) (b : ℕ) (u : List (Option Float)) (l : b ≤ 16) (e : u ≡ each (λ d _. S d) b (replicate 16 None)) where
  pub length_scores : length (take b u) ≡ b
  length_scores = length-take-le b u (omega (arith, ap length e ∙ length_each (λ d _. S d) b (replicate 16 None)))

  pub scores_at : (d : ℕ) → d < b → scored_at (take b u) d ≡ S d
  scores_at d h = get_or-take b u d None h ∙ ap (λ v. scored_at v d) e ∙ each_at (λ d _. S d) b (replicate 16 None) d None h (omega arith)

-- what is known of the degrees below b decides what is carried of them
pub scores_same : (S R : ℕ → Option Float) (b : ℕ) → ((d : ℕ) → d < b → S d ≡ R d) → scores_of S b ≡ scores_of R b
scores_same S R b same = each_same _ _ b _ (λ d v h. same d h)
