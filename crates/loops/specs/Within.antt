-- Memory of which only the first n places are used: t is s but there. Definitions only.
use Rattle.std.specs.Prelude.{◌≡◌, List, ℕ, length, drop}

pub record Within {A : Type 0} (n : ℕ) (s t : List A) : Type 0 where
  pub long : length t ≡ length s
  pub rest : drop n t ≡ drop n s
