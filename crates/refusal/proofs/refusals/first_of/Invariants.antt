-- `refusal::first_of` meets its contract: what the tests left come to is what all of them do.
use Rattle.std.proofs.Common.{◌≡◌, drop}
use Rattle.refusal.specs.Refusals.{first_of}
use Rattle.refusal.specs.Named.{tests_of}
use Rattle.refusal.proofs.refusals.first_of.Given as goal

abbrev pub invariant-loop-holds : goal.invariant-loop-holds
invariant-loop-holds l = first_of (tests_of l.tests) ≡ first_of (tests_of (drop l.holds-index l.tests))
