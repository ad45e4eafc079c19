-- The memory that a report writes: one record for what it holds, for the values written to it, and its lengths. Definitions only.
use Rattle.std.specs.Prelude.{List, [], ℕ, ◌≤◌, length, Float, ⊤}
use denote.Triple.Both.{Both}
use Rattle.basis.specs.declared.Basis.{Basis}
use Rattle.lent.specs.Slices.{Given, Slice, before, after}
use Rattle.lent.specs.Written.{over, zeros}
use Rattle.measure.specs.Places.{term_places}
use Rattle.reporting.specs.declared.Memory.{Memory}
use Rattle.reporting.specs.declared.Places.{Places}

pub record Outputs : Type 0 where
  pub scratch : List Float
  pub coefficients : List Float
  pub errors : List Float
  pub pruned : List ℕ
  pub lower : List Float
  pub upper : List Float
  pub outliers : List ℕ

-- nothing is written, and nothing but scratch
abbrev pub nothing : Outputs
nothing = record { scratch = []; coefficients = []; errors = []; pruned = []; lower = []; upper = []; outliers = [] }

abbrev pub scratch_alone : ℕ → Outputs
scratch_alone n = record { scratch = zeros n; coefficients = []; errors = []; pruned = []; lower = []; upper = []; outliers = [] }

-- the values are written from the first place of each memory on, and what stands past them is left
abbrev pub over_all : Outputs → Outputs → Outputs
over_all values lent =
    record {
      scratch = over values.scratch lent.scratch;
      coefficients = over values.coefficients lent.coefficients;
      errors = over values.errors lent.errors;
      pruned = over values.pruned lent.pruned;
      lower = over values.lower lent.lower;
      upper = over values.upper lent.upper;
      outliers = over values.outliers lent.outliers;
    }

abbrev pub places_of : Outputs → Places
places_of w =
    record {
      scratch = length w.scratch;
      coefficients = length w.coefficients;
      errors = length w.errors;
      pruned = length w.pruned;
      lower = length w.lower;
      upper = length w.upper;
      outliers = length w.outliers;
    }

-- the places of a report of n samples
abbrev pub RoomFor : Basis → ℕ → Outputs → Type 0
RoomFor basis n w =
    (n ≤ length w.scratch) × (term_places basis ≤ length w.coefficients) × (term_places basis ≤ length w.errors) × (term_places basis ≤ length w.pruned)
    × (n ≤ length w.lower) × (n ≤ length w.upper) × (n ≤ length w.outliers)

-- the memory lent to a call, as it finds it and as it leaves it
pub record LentOutputs : Type 0 where
  pub found : Outputs
  pub left : Outputs

-- what the lent places hold where a call finds them
abbrev pub outputs_now : Memory → Outputs
outputs_now m =
    record {
      scratch = m.scratch.now;
      coefficients = m.coefficients.now;
      errors = m.errors.now;
      pruned = m.pruned.now;
      lower = m.lower.now;
      upper = m.upper.now;
      outliers = m.outliers.now;
    }

-- where a call leaves them: the borrows in the order of the fields
abbrev pub MemoryLeft : Type 0
MemoryLeft = Given Float × (Given Float × (Given Float × (Given ℕ × (Given Float × (Given Float × (Given ℕ × ⊤))))))

abbrev pub memory_left : MemoryLeft → Memory
memory_left m =
    record {
      scratch = m.0;
      coefficients = m.1.0;
      errors = m.1.1.0;
      pruned = m.1.1.1.0;
      lower = m.1.1.1.1.0;
      upper = m.1.1.1.1.1.0;
      outliers = m.1.1.1.1.1.1.0;
    }

-- both, of a parameter
abbrev pub lent_outputs : Both Memory MemoryLeft → LentOutputs
lent_outputs m = record { found = outputs_now m.entry; left = outputs_now (memory_left m.exit) }

-- both, of seven slices: C's, and parts of others
abbrev pub outputs : Slice Float → Slice Float → Slice Float → Slice ℕ → Slice Float → Slice Float → Slice ℕ → LentOutputs
outputs s c e p l u o =
    record {
      found =
          record { scratch = before s; coefficients = before c; errors = before e; pruned = before p; lower = before l; upper = before u; outliers = before o };
      left = record { scratch = after s; coefficients = after c; errors = after e; pruned = after p; lower = after l; upper = after u; outliers = after o };
    }
