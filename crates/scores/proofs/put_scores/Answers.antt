-- `scores::put_scores` meets its contract.
use Rattle.std.specs.Prelude.{None}
use Rattle.std.proofs.Common.{◌≡◌, List, sym, ap, ◌∙◌, map, ◌<◌, ℕ, length, get_or, arith, rules}
use Rattle.std.proofs.lemmas.List.{ext_get_or, length-map}
use lib.Ieee.{Float, nan}
use Rattle.loops.specs.PlaceLaws.{map_at}
use Rattle.lent.specs.Written.{over}
use Rattle.scores.specs.Scores.{score_or_zero}
use Rattle.scores.proofs.put_scores.Goals as goal

pub put_first-requires : goal.put_first-requires
put_first-requires c = omega (arith, c.map-told.ensures.items.long)

pub returns : goal.returns
returns c =
    let told = c.map-told.result in
    let items = c.map-told.ensures.items in
    let sixteen : length c.args.scores ≡ 16 = search rules in
    let same : (i : ℕ) → i < length told → get_or told i nan ≡ get_or (map score_or_zero c.args.scores) i nan =
    λ i h.
    (items.at i None nan (omega (arith, h, items.long))).2.met
    ∙ sym (map_at score_or_zero c.args.scores i None nan (omega (arith, h, items.long, sixteen))) in
    c.put_first.ensures ∙ ap (λ (l : List Float). over l c.args.out.now) (ext_get_or nan told (map score_or_zero c.args.scores) (items.long ∙ sym (length-map c.args.scores score_or_zero ∙ sixteen)) same)
