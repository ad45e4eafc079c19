-- Two lists of one length whose elements are related place by place. `PairLaws.antt` shows that `Each` of crate `runs` says the same, by recursion.
-- Definitions only.
use Rattle.std.specs.Prelude.{List, [], ◌∷◌}

pub data Pairs {A B : Type 0} (R : A → B → Type 0) : List A → List B → Type 0 where
  none : Pairs R [] []
  and : {a : A} {b : B} {l : List A} {m : List B} → R a b → Pairs R l m → Pairs R (a ∷ l) (b ∷ m)
