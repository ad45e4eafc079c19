-- What a call that chooses a degree by a report's settings may count on past 1 to 9, whatever memory its 1 judges.
use Rattle.std.specs.Prelude.{◌≡◌, List, ◌∷◌, ℕ, ◌≤◌, ◌<◌}
use Rattle.std.proofs.Common.{arith, ltb-false}
use Rattle.std.proofs.lemmas.Bool.{eqb-false}
use Rattle.basis.specs.Sizes.{highest_degree}
use Rattle.statistics.specs.Degrees.{max_degree}
use Rattle.samples.specs.declared.Sample.{Sample}
use Rattle.refusal.specs.Refusals.{by, first_of}
use Rattle.refusal.specs.Laws.{first_none}
use Rattle.refusal.specs.Tests.{Needed, too_short, no_samples}
use Rattle.refusal.specs.Rooms.{Room}
use Rattle.refusal.specs.RoomLaws.{room}
use Rattle.settings.specs.declared.Settings.{Settings}
use Rattle.reporting.specs.Refusals.{settings_tests}

-- 0: the memory, a sample at least, and a bound of 15 at most
pub choosing_room : (n : ℕ) (settings : Settings) (samples : List Sample) (columns : List ℕ) (needs : List Needed)
    → first_of (by (too_short n columns needs) 1 ∷ settings_tests n settings samples (no_samples n)) ≡ 0
    → Room n columns needs × (0 < n) × (max_degree settings.bound n ≤ highest_degree)
choosing_room n settings samples columns needs e =
    let p1 = first_none _ 0 _ e in
    let p4 = first_none _ 3 _ p1.1 in
    let p7 = first_none _ 6 _ p4.1 in
    let p8 = first_none _ 7 _ p7.1 in
    let z : n ≡ 0 → ⊥ = eqb-false n 0 p7.0 in
    (room n columns needs p1.0, omega (arith, z), ltb-false _ _ p8.0)
