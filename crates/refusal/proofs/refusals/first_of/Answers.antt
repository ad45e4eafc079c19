-- `refusal::first_of` meets its contract.
use Rattle.std.proofs.Common.{◌≡◌, refl, sym, ap, ◌∙◌, ◌+◌, drop, false}
use Rattle.std.proofs.lemmas.List.{drop_all}
use Rattle.refusal.specs.declared.refusals.Refusal.TheVariants.{Short}
use Rattle.refusal.specs.Refusals.{first_of}
use Rattle.refusal.specs.Named.{number, tests_of, judged}
use Rattle.refusal.specs.NamedLaws.{judged_number, tests_from}
use Rattle.refusal.proofs.refusals.first_of.Goals as goal

pub returns-then-holds : goal.returns-then-holds
returns-then-holds c =
    let at = tests_from c.args.tests.now c.loop-holds.holds-index (false, Short) c.loop-holds-test.true in
    let is : first_of (tests_of c.args.tests.now) ≡ number _ = c.loop-holds.invariant ∙ at ∙ rw c.if-holds.true refl in
    sym (ap judged is ∙ judged_number _)

pub loop-holds-preserved : goal.loop-holds-preserved
loop-holds-preserved c =
    let at = tests_from c.args.tests.now c.loop-holds.holds-index (false, Short) c.loop-holds-test.true in
    let on : first_of (tests_of (drop c.loop-holds.holds-index c.args.tests.now)) ≡ first_of (tests_of (drop (c.loop-holds.holds-index + 1) c.args.tests.now)) = at ∙ rw c.if-holds.false refl in
    c.loop-holds.invariant ∙ on

pub returns : goal.returns
unfolding first_of
returns c = sym (ap judged (c.loop-holds.invariant ∙ ap (λ l. first_of (tests_of l)) (drop_all _ _ c.loop-holds-test.false)))
