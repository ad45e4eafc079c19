-- `choice::solved_of` meets its contract.
use Rattle.std.proofs.Common.{◌∙◌}
use Rattle.std.proofs.lemmas.Iterator.{YieldsList-from_slice}
use Rattle.std.proofs.lemmas.Iterator.Adapters.{YieldsList-from_flatten}
use Rattle.std.proofs.lemmas.Iterator.Consumers.{count_from_yields_List, YieldsList-at}
use Rattle.std.specs.Option.{option_to_list}
use Rattle.choice.proofs.Counted.{yields_value, counted}
use Rattle.choice.proofs.solved_of.Goals as goal

pub returns : goal.returns
returns c =
    count_from_yields_List _ _ c.count.ensures.ran
    (YieldsList-from_flatten _ _ (λ y. y.now) option_to_list (λ x j b. yields_value j x.now b.0 b.1) (YieldsList-at c.flatten.ensures.source (YieldsList-from_slice c.args.scores.now cc)) c.flatten.ensures.front c.flatten.ensures.back c.flatten.ensures.done)
    ∙ counted c.args.scores.now
