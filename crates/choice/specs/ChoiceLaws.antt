-- Laws of Choice.antt.
use Rattle.std.specs.Prelude.{◌≡◌, ℕ, ◌+◌, ◌<◌, Float, Option, is_some}
use Rattle.std.proofs.Math.Path.{ap}
use Rattle.std.proofs.Common.{◌∙◌}
use Rattle.std.proofs.Math.Bool.{cond}
use Rattle.loops.specs.LoopLaws.{from_same, seek_same}
use Rattle.value.specs.Numbers.{infinity_f}
use Rattle.choice.specs.Choice.{yields, least_of, near, degree_of, chosen_of, solved_count}

-- what is known of the degrees below b decides

module _ (S R : ℕ → Option Float) (b : ℕ) (same : (d : ℕ) → d < b → S d ≡ R d) where
  pub least_same : least_of S b ≡ least_of R b
  unfolding least_of
  least_same = from_same _ _ b (infinity_f) (λ d a h. ap (λ (s : Option Float). yields s a) (same d h))

  pub chosen_same : chosen_of S b ≡ chosen_of R b
  unfolding chosen_of
  chosen_same = ap degree_of (seek_same _ _ b (λ d h. ap (λ (s : Option Float). near (least_of S b) s) (same d h) ∙ ap (λ (a : Float). near a (R d)) least_same))

  pub count_same : solved_count S b ≡ solved_count R b
  unfolding solved_count
  count_same = from_same _ _ b 0 (λ d m h. ap (λ (s : Option Float). cond (is_some s) (m + 1) m) (same d h))
