-- A split's refusals in checking order: 1, 4, 7 and 8 over its settings, the count, the samples and the lengths of the lent memory; then 16 and 11 of
-- its search. Definitions only.
use Rattle.std.specs.Prelude.{Option, is_none, List, [], ◌∷◌, ℕ, ltb, cond, None, Some, Result, Ok}
use Rattle.basis.specs.Sizes.{max_terms, sum_places}
use Rattle.samples.specs.declared.Sample.{Sample}
use Rattle.refusal.specs.declared.refusals.Refusal.{Refusal}
use Rattle.refusal.specs.Named.{refused_by}
use Rattle.refusal.specs.Refusals.{Test, by, first_of}
use Rattle.refusal.specs.Tests.{Needed, needed, too_short}
use Rattle.settings.specs.declared.Settings.{Settings}
use Rattle.reporting.specs.Refusals.{settings_tests}
use Rattle.split.specs.declared.Best.{Best}
use Rattle.split.specs.declared.Places.{Places}

-- what 1 judges of a split: the sums, scratch, and the two fits
abbrev pub split_needs : ℕ → ℕ → Places → List Needed
split_needs n sums p = needed sum_places sums ∷ needed n p.scratch ∷ needed max_terms p.before ∷ needed max_terms p.after ∷ []

-- 4 judges as in a report; fewer than four samples give 7; 8 is judged by the bound for the whole list
abbrev pub split_tests : ℕ → Settings → List Sample → List ℕ → ℕ → Places → List Test
split_tests n settings samples columns sums places =
    by (too_short n columns (split_needs n sums places)) 1 ∷ settings_tests n settings samples (ltb n 4)

unfoldable pub split_refusal : ℕ → Settings → List Sample → List ℕ → ℕ → Places → ℕ
split_refusal n settings samples columns sums places = first_of (split_tests n settings samples columns sums places)

-- 16: the whole search needs more pivot tests than the limit; 11: every break is passed over
abbrev pub search_refusals : ℕ → ℕ → Option Best → List Test
search_refusals limit tests best = by (ltb limit tests) 16 ∷ by (is_none best) 11 ∷ []

unfoldable pub search_refusal : ℕ → ℕ → Option Best → ℕ
search_refusal limit tests best = first_of (search_refusals limit tests best)

-- the best break, or 11
abbrev pub found_in : Option Best → Result Best Refusal
found_in None = refused_by 11
found_in (Some s) = Ok s

-- what the search comes to: the best break, or the refusal
unfoldable pub searched : ℕ → ℕ → Option Best → Result Best Refusal
searched limit tests best = cond (ltb limit tests) (refused_by 16) (found_in best)
