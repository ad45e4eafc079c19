-- What a call that 1 lets through may count on, of any columns and any memory. Definitions only.
use Rattle.std.specs.Prelude.{List, ℕ, ◌≤◌}
use Rattle.loops.specs.All.{All}
use Rattle.basis.specs.Sizes.{max_samples}
use Rattle.refusal.specs.Tests.{Needed, capacity}

-- a memory has the places that the call needs
abbrev pub Enough : Needed → Type 0
Enough m = m.needs ≤ m.lent

-- n samples are within the columns, and each memory is enough
pub record Room (n : ℕ) (columns : List ℕ) (memories : List Needed) : Type 0 where
  pub count : n ≤ capacity columns
  pub within : All (λ l. n ≤ l) columns
  pub most : n ≤ max_samples
  pub enough : All Enough memories
