-- The sizes that document 01 names. Definitions only.
use Rattle.std.specs.Prelude.{ℕ}

-- i and j are 0 to 15: at most 16 terms, and degree 15 is the highest
abbrev pub max_terms : ℕ
max_terms = 16

abbrev pub highest_degree : ℕ
highest_degree = 15

-- A has 256 places, A and g together have 272
abbrev pub matrix_places : ℕ
matrix_places = 256

abbrev pub sum_places : ℕ
sum_places = 272

-- the most samples that a book holds
abbrev pub max_samples : ℕ
max_samples = 4096
