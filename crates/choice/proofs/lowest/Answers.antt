-- `choice::lowest` meets its contract.
use Rattle.std.proofs.Common.{ap, ◌∙◌, true, false, ◌≡◌, rules, tests}
use Rattle.std.proofs.lemmas.Iterator.{YieldsList-from_slice, IsFirst-from_position}
use Rattle.choice.specs.Choice.{near, degree_of, chosen_of}
use Rattle.choice.proofs.Found.{made, first_found}
use Rattle.choice.proofs.lowest.Goals as goal

pub returns : goal.returns
unfolding chosen_of
returns c =
    let a = c.least-a.result in
    let first = IsFirst-from_position _ _ c.position.result (λ s. true ≡ near a s) (λ s. false ≡ near a s) c.position.ensures.ran (YieldsList-from_slice c.args.scores.now cc) (λ x q k. search (rules, tests)) (λ x q k. search (rules, tests)) in
    rw (← c.least-a.ensures) (made c.position.result c.map.result c.map.ensures.cases ∙ ap degree_of (first_found (near a) c.args.scores.now c.position.result first))
