-- `scores::put_solved` meets its contract.
use Rattle.std.specs.Prelude.{None}
use Rattle.std.proofs.Common.{◌≡◌, sym, ap, ◌∙◌, ◌++◌, map, ◌<◌, ℕ, length, drop, get_or, arith, rules}
use Rattle.std.proofs.lemmas.List.{ext_get_or, length-map}
use Rattle.loops.specs.PlaceLaws.{map_at}
use Rattle.scores.specs.Scores.{solved_mark}
use Rattle.scores.proofs.put_solved.Goals as goal

pub returns : goal.returns
returns c =
    let bytes = c.map-bytes.result in
    let items = c.map-bytes.ensures.items in
    let sixteen : length c.args.scores ≡ 16 = search rules in
    let same : (i : ℕ) → i < length bytes → get_or bytes i 0 ≡ get_or (map solved_mark c.args.scores) i 0 =
    λ i h.
    (items.at i None 0 (omega (arith, h, items.long))).2.met
    ∙ sym (map_at solved_mark c.args.scores i None 0 (omega (arith, h, items.long, sixteen))) in
    ap (λ l. l ++ drop 16 c.args.out.now)
    (c.copy_from_slice.ensures.after ∙ ext_get_or 0 bytes (map solved_mark c.args.scores) (items.long ∙ sym (length-map c.args.scores solved_mark ∙ sixteen)) same)
