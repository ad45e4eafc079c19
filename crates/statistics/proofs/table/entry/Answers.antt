-- `statistics::table::entry` meets its contract. The table of the code is the rows of `map milli thousandths`, which antt computes.
use Rattle.std.proofs.Common.{◌≡◌, ℕ, zero, suc, ◌+◌, ◌-◌, ◌*◌, ◌<◌, List, [], ◌∷◌, map, get_or, take, drop, ◌∙◌, arith, get_or-take, get_or-drop}
use lib.Ieee.{Float, nan, of_bits, round}
use Rattle.loops.specs.PlaceLaws.{map_at}
use Rattle.statistics.specs.Table.{thousandths, table_entry}
use Rattle.statistics.specs.Scores.{milli, entry_at}
use Rattle.statistics.proofs.table.entry.Goals as goal

abbrev rows : ℕ → List Float → List (List Float)
rows zero l = []
rows (suc n) l = take 6 l ∷ rows n (drop 6 l)

rows_at : (n r c : ℕ) (l : List Float) (d : Float) → r < n → c < 6 → get_or (get_or (rows n l) r []) c d ≡ get_or l (r * 6 + c) d
rows_at zero r c l d h g = absurd (omega arith)
rows_at (suc n) zero c l d h g = let z : 0 * 6 + c ≡ c = omega arith in rw z (get_or-take 6 l c d g)
rows_at (suc n) (suc r) c l d h g =
    let z : suc r * 6 + c ≡ 6 + (r * 6 + c) = omega arith in rw z (rows_at n r c (drop 6 l) d (omega arith) g ∙ get_or-drop 6 l (r * 6 + c) d)

pub returns : goal.returns
unfolding thousandths milli table_entry entry_at of_bits round
returns c = rows_at 30 (c.args.df - 1) c.args.col (map milli thousandths) nan (omega arith) c.requires.2 ∙ map_at milli thousandths ((c.args.df - 1) * 6 + c.args.col) 0 _ (omega arith)
