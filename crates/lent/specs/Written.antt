-- What a call writes to lent memory: values from its first place on. What stands past them is left; where nothing is written, all of it. Definitions only.
use Rattle.std.specs.Prelude.{List, ◌++◌, ℕ, length, drop, replicate, Float}
use Rattle.value.specs.Numbers.{zero_f}

abbrev pub over : {A : Type 0} → List A → List A → List A
over values lent = values ++ drop (length values) lent

-- Scratch: its first n places end as +0.
abbrev pub zeros : ℕ → List Float
zeros n = replicate n zero_f
