-- Writing a text into lent memory: as much of it as has room, and the place behind it. Definitions only.
use Rattle.std.specs.Prelude.{◌≡◌, List, ℕ, ◌+◌, min, length}
use Rattle.std.proofs.lemmas.List.Edits.{sets}
use Rattle.listing.specs.declared.writing.Writer.{Writer}

-- A place is a usize; the last of them stands for every later one.
abbrev pub last_place : ℕ
last_place = 18446744073709551615

abbrev pub up_to : ℕ → ℕ
up_to n = min n last_place

-- The writer s wrote the text t from its place on: what doesn't fit is cut, and no other place of its memory is changed. That left q, the same memory
-- with the place behind the whole text, cut or not.
pub record Wrote (s : Writer) (t : List ℕ) (q : Writer) : Type 0 where
  pub text : q.out.now ≡ sets s.out.now s.at t
  pub behind : q.at ≡ up_to (s.at + length t)
  pub same : q.out.ghost_name ≡ s.out.ghost_name
