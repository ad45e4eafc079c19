-- `folds::choose_by_means` meets its contract.
use Rattle.std.specs.Prelude.{None}
use Rattle.std.proofs.Common.{◌≡◌, length, take, ◌∙◌, arith, rules, length-take-le}
use Rattle.std.proofs.lemmas.List.{get_or-take}
use Rattle.choice.specs.Choice.{scored_at}
use Rattle.choice.specs.ChoiceLaws.{chosen_same}
use Rattle.folds.specs.Tallies.{no_tally, mean_at}
use Rattle.folds.proofs.choose_by_means.Goals as goal

pub returns : goal.returns
unfolding mean_at
returns c =
    let means = c.map-means.result in
    let items = c.map-means.ensures.items in
    let sixteen : length c.args.tallies ≡ 16 = search rules in
    let long : length (take c.args.b means) ≡ c.args.b = length-take-le c.args.b means (omega (arith, items.long)) in
    rw long at c.lowest.ensures
    ∙ chosen_same (scored_at (take c.args.b means)) (mean_at c.args.tallies) c.args.b (λ d h. get_or-take c.args.b means d None h ∙ (items.at d no_tally None (omega (arith, h, items.long))).2.met)
