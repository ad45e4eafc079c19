-- `choice::score_of` meets its contract.
use Rattle.std.specs.Prelude.{◌≡◌, Option, Some, None, Float, refl, unwrap_or}
use Rattle.std.proofs.Common.{ap, ◌∙◌, arith}
use Rattle.std.specs.Option.{option_flatten, option_copied}
use Rattle.value.specs.Numbers.{zero_f}
use Rattle.choice.specs.Choice.{chosen_score}
use Rattle.choice.proofs.score_of.Goals as goal

flat : (o : Option (Option Float)) → option_flatten o ≡ unwrap_or o None
flat None = refl
flat (Some s) = refl

pub returns-in_default : goal.returns-in_default
unfolding chosen_score
returns-in_default c = rw c.in_default.is

pub returns : goal.returns
unfolding chosen_score
returns c =
    rw c.in-Some.is
    (c.unwrap_or.ensures ∙ ap (λ (s : Option Float). unwrap_or s zero_f) (c.flatten.ensures ∙ ap option_flatten c.copied.ensures ∙ flat (option_copied c.get.result) ∙ c.get.ensures.lookup.4 (omega arith) None))
