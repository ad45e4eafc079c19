-- Laws of the table: taking nothing leaves it.
use Rattle.std.specs.Prelude.{◌≡◌, List, ℕ, ◌-◌, get_or, set}
use Rattle.std.proofs.Common.{ap, ◌∙◌, arith}
use Rattle.std.proofs.lemmas.List.{set-get_or}
use Rattle.allowance.specs.Table.{taken_from}

pub nothing_taken : (table : List ℕ) (group : ℕ) → taken_from table group 0 ≡ table
nothing_taken table group =
    let z : get_or table group 0 - 0 ≡ get_or table group 0 = omega arith in
    ap (set table group) z ∙ set-get_or table group 0
