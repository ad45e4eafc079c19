-- The 15 terms are every xᵃ × zᵇ with a + b at most 4, each once, ordered by a + b and then by falling a.
use Rattle.std.specs.Prelude.{◌≡◌, refl, Bool, true, not, ◌||◌, ℕ, ◌+◌, ◌≤◌, T, leb, length}
use Rattle.std.proofs.Common.{arith, le-leb}
use Rattle.loops.specs.Fold.{fold, all_of}
use Rattle.loops.specs.Places.{table}
use Rattle.statistics.specs.Table.{all_below}
use Rattle.statistics.specs.TableLaws.{all_cells}
use Rattle.monomial.specs.Terms.{Powers, surface_powers}
use Rattle.surface.specs.Order.{stands_in, all_after, in_order}

pub fifteen_terms : length surface_powers ≡ 15
unfolding surface_powers table
fifteen_terms = refl

-- none has a higher total degree
pub totals_most : all_of (λ (p : Powers). leb (p.a + p.b) 4) surface_powers ≡ true
unfolding surface_powers table fold
totals_most = refl

pub stated_order : in_order surface_powers ≡ true
unfolding surface_powers table in_order all_after
stated_order = refl

abbrev stands : ℕ → ℕ → Bool
stands a b = not (leb (a + b) 4) || stands_in a b surface_powers

all_stand : T (all_below (λ a. all_below (stands a) 5) 5)
unfolding all_below stands_in surface_powers table
all_stand = tt

meant : (a b : ℕ) → a + b ≤ 4 → T (stands a b) → T (stands_in a b surface_powers)
meant a b h t = rw (le-leb (a + b) 4 h) at t

-- every one of them stands there
pub every_term : (a b : ℕ) → a + b ≤ 4 → T (stands_in a b surface_powers)
every_term a b h = meant a b h (all_cells stands 5 5 all_stand a b (omega arith) (omega arith))
