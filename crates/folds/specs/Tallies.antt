-- Folds outside and degrees inside: S d f is what fold f says of degree d. Definitions only.
use Rattle.std.specs.Prelude.{◌≡◌, ℕ, ◌+◌, ◌<◌, List, length, get_or, Float, Option, None, Some}
use Rattle.std.specs.Float.{binary64}
use Rattle.std.specs.Float.Ieee.{add}
use Rattle.basis.specs.Sizes.{max_terms}
use Rattle.loops.specs.Places.{table}
use Rattle.value.specs.Numbers.{zero_f}
use Rattle.value.specs.Total.{total_f}
use Rattle.folds.specs.declared.Tally.{Tally}
use Rattle.folds.specs.Folds.{solved_of, mean_of}

-- a solved fold's score is added to a running total, and counted
unfoldable pub added : Option Float → Tally → Tally
added None t = t
added (Some v) t = record { total = add binary64 t.total v; count = t.count + 1 }

-- no score yet
abbrev pub no_tally : Tally
no_tally = record { total = zero_f; count = 0 }

-- scores tallied: their total, from +0 in order, and their number
abbrev pub tally_of : List Float → Tally
tally_of l = record { total = total_f l; count = length l }

-- the mean of degree d
unfoldable pub mean_at : List Tally → ℕ → Option Float
mean_at tallies d = let t = get_or tallies d no_tally in mean_of t.total t.count

-- What stands after f folds at each of the degrees below b: the total and the number of the scores of the folds that solved it, in fold order.
pub record Tallied (S : ℕ → ℕ → Option Float) (f b : ℕ) (tallies : List Tally) : Type 0 where
  pub long : length tallies ≡ max_terms
  pub tally : (d : ℕ) (t : Tally) → d < b → get_or tallies d t ≡ tally_of (solved_of (table (S d) f))
