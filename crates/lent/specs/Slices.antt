-- A lent slice in a contract: its values as the call finds them and as it leaves them. Definitions only.
use Rattle.std.specs.Prelude.{List}
use Rattle.std.specs.Borrow.{MutBor}
use denote.Triple.Both.{Both}

-- what a parameter of the type `&mut [T]` means in a `requires`, and in an `ensures`
abbrev pub Given : Type 0 → Type 0
Given A = MutBor (List A)

abbrev pub Slice : Type 0 → Type 0
Slice A = Both (Given A) (Given A)

abbrev pub before : {A : Type 0} → Slice A → List A
before s = s.entry.now

abbrev pub after : {A : Type 0} → Slice A → List A
after s = s.exit.now

-- what a lent slice holds, as the call finds it and as it leaves it
pub record Contents (A : Type 0) : Type 0 where
  pub found : List A
  pub left : List A

abbrev pub contents_of : {A : Type 0} → List A → List A → Contents A
contents_of found left = record { found = found; left = left }

abbrev pub contents : {A : Type 0} → Slice A → Contents A
contents s = contents_of (before s) (after s)
