-- `folds::reach::Reach::farthest` meets its contract: the array of sizes is the list of them.
use Rattle.std.proofs.Common.{◌≡◌, ◌<◌, map, length, ap, ◌∙◌, sym, arith}
use Rattle.std.proofs.lemmas.List.{length-map, ext_get_or}
use lib.Ieee.{nan, add, binary64}
use Rattle.loops.specs.Places.{table}
use Rattle.loops.specs.PlaceLaws.{map_at}
use Rattle.value.specs.Absolute.{abs_f}
use Rattle.value.specs.Power.{power_f}
use Rattle.monomial.specs.Rows.{fitted}
use Rattle.folds.proofs.reach.Reach.farthest.Goals as goal

pub returns : goal.returns
returns c =
    let items = c.map-sizes.ensures.items in
    let sizes : c.map-sizes.result ≡ map abs_f c.args.c.now =
    ext_get_or nan c.map-sizes.result (map abs_f c.args.c.now) (omega (arith, items.long, length-map c.args.c.now abs_f, c.told-c))
    (λ i h.
    let k : i < length c.args.c.now = omega (arith, h, items.long) in
    (items.at i nan nan (omega (arith, k, c.told-c))).2.met ∙ sym (map_at abs_f c.args.c.now i nan nan (omega (arith, h, items.long, c.told-c)))) in
    ap (add binary64 c.args.self.along) (c.curve_at.ensures ∙ ap (λ l. fitted c.args.k.0 l (table (power_f c.args.self.across) 16)) sizes)
