-- What is said of a surface's terms: which stand in a list, and their order. Definitions only.
use Rattle.std.specs.Prelude.{Bool, true, false, ◌&&◌, ◌||◌, List, [], ◌∷◌, ℕ, ◌+◌, ltb, eqb}
use Rattle.monomial.specs.Terms.{Powers}

-- xᵃ × zᵇ is one of these
unfoldable pub stands_in : ℕ → ℕ → List Powers → Bool
stands_in a b [] = false
stands_in a b (p ∷ ps) = (eqb a p.a && eqb b p.b) || stands_in a b ps

-- ordered by a + b and then by falling a; no term is before itself
abbrev pub is_before : Powers → Powers → Bool
is_before p q = ltb (p.a + p.b) (q.a + q.b) || (eqb (p.a + p.b) (q.a + q.b) && ltb q.a p.a)

-- each is before all that follow it, so that none stands twice
unfoldable pub all_after : Powers → List Powers → Bool
all_after p [] = true
all_after p (q ∷ qs) = is_before p q && all_after p qs

unfoldable pub in_order : List Powers → Bool
in_order [] = true
in_order (p ∷ ps) = all_after p ps && in_order ps
