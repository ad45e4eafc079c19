-- `solve::solution` meets its contract.
use Rattle.std.proofs.Common.{◌≡◌, min, ◌∙◌, refl, arith, rules, lt-ltb, le-ltb}
use Rattle.solve.specs.Nested.{solution_of}
use Rattle.solve.proofs.Fronts.{front_is, cut_is}
use Rattle.solve.proofs.solution.Goals as goal

pub returns-then-held-k : goal.returns-then-held-k
unfolding solution_of
returns-then-held-k c =
    let least : min c.args.k.0 c.args.held ≡ c.args.held = omega (arith, c.if-held-k.true) in
    rw (lt-ltb _ _ c.if-held-k.true, least) refl

pub returns : goal.returns
unfolding solution_of
returns c =
    let least : min c.args.k.0 c.args.held ≡ c.args.k.0 = omega (arith, c.if-held-k.false) in
    rw (le-ltb _ _ c.if-held-k.false, least, c.back_substitution.ensures, c.put_front.ensures ∙ cut_is 16 _ _ (omega arith) ∙ front_is c.args.k.0 c.args.b.now c.requires (search rules)) refl
