-- A fold in index order. Definitions only.
use Rattle.std.specs.Prelude.{Bool, true, ◌&&◌, List, [], ◌∷◌}

unfoldable pub fold : {A B : Type 0} → (B → A → B) → B → List A → B
fold f b [] = b
fold f b (a ∷ l) = fold f (f b a) l

-- a test passes at every element
abbrev pub all_of : {A : Type 0} → (A → Bool) → List A → Bool
all_of f l = fold (λ b a. b && f a) true l
