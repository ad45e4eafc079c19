-- `split::search` meets its contract. At break b: the tests so far are within the limit, the sums are those of the samples before b in the corner that the
-- bound of the whole list reads, and what is left of the search, from the best break so far, is the whole search.
use mathlib.Core.Path.{sym, ap, subst, ◌∙◌}
use Prim.Native.Nat.{ℕ, ◌+◌, ◌-◌, ◌≤◌}
use lib.ListN.{length, take}
use native.Mathlib.Omega.{arith}
use borrow.Author.Rules.{rules}
use Rattle.loops.specs.WithinLaws.{within_itself, within_then}
use Rattle.basis.specs.Counts.{count_of}
use Rattle.basis.specs.CountLaws.{curve_count}
use Rattle.basis.specs.declared.Basis.TheVariants.{Curve}
use Rattle.statistics.specs.Degrees.{max_degree}
use Rattle.monomial.specs.Reading.{weighted_read}
use Rattle.monomial.specs.ReadingLaws.{length_read}
use Rattle.monomial.specs.Sums.{sums_of}
use Rattle.monomial.specs.Corner.{SameCorner}
use Rattle.split.proofs.Corners.{corner_grows}
use Rattle.split.proofs.Searching.{tests_from, best_again, tests_again, tests_few, best_done, tests_done, best_whole, tests_whole, tests_grow, searches_over, searches_done, found_or}
use Rattle.split.proofs.search.Goals as goal

pub k-k-requires : goal.k-k-requires
k-k-requires c = omega (arith, c.max_degree-most.ensures, c.requires.4)

pub side_sums-sums-requires : goal.side_sums-sums-requires
side_sums-sums-requires c = omega (arith, c.k-k.ensures ∙ curve_count c.max_degree-most.result.0, c.max_degree-most.ensures, c.requires.4)

pub loop-b-init : goal.loop-b-init
loop-b-init c =
    let rows = weighted_read c.args.rows in
    let long = length_read c.args.rows in
    (search rules, omega (arith, c.requires.2), search rules, search rules, within_itself _ _, c.side_sums-sums.ensures.long, rw c.part.ensures.weighted at c.side_sums-sums.ensures.same, best_whole c.args.bound c.args.criterion rows (length c.args.rows.ys.now) long, tests_whole c.args.bound c.args.criterion rows (length c.args.rows.ys.now) long)

pub choose_sides-s-requires : goal.choose_sides-s-requires
choose_sides-s-requires c = record { b_in_bounds = (c.requires.0, omega (arith, c.requires.1, c.loop-b.invariant.4.long), omega (arith, c.loop-b.invariant.1, c.requires.2), c.requires.4); left_sums = (c.loop-b.invariant.5, subst (λ (m : ℕ). SameCorner m c.loop-b.sums (sums_of (take c.loop-b.b (weighted_read c.args.rows)))) (c.k-k.ensures ∙ ap (count_of Curve) c.max_degree-most.ensures) c.loop-b.invariant.6) }

pub tests_of-tests-requires : goal.tests_of-tests-requires
tests_of-tests-requires c =
    let rows = weighted_read c.args.rows in
    let fits : max_degree c.args.bound (length (weighted_read c.args.rows)) ≤ 15 = rw (length_read c.args.rows) c.requires.4 in
    tests_few c.args.bound c.args.criterion rows c.loop-b.b ((length c.args.rows.ys.now) - 1) c.choose_sides-s.result.left c.choose_sides-s.result.right c.choose_sides-s.ensures.left c.choose_sides-s.ensures.right fits

pub overflow_add-tests : goal.overflow_add-tests
overflow_add-tests c =
    let rows = weighted_read c.args.rows in
    let fits : max_degree c.args.bound (length (weighted_read c.args.rows)) ≤ 15 = rw (length_read c.args.rows) c.requires.4 in
    let few = tests_few c.args.bound c.args.criterion rows c.loop-b.b ((length c.args.rows.ys.now) - 1) c.choose_sides-s.result.left c.choose_sides-s.result.right c.choose_sides-s.ensures.left c.choose_sides-s.ensures.right fits in
    omega (arith, c.tests_of-tests.ensures, few, c.loop-b.invariant.3, c.loop-b.invariant.1, c.requires.4)

pub returns-then-limit-tests : goal.returns-then-limit-tests
returns-then-limit-tests c =
    let rows = weighted_read c.args.rows in
    let fits : max_degree c.args.bound (length (weighted_read c.args.rows)) ≤ 15 = rw (length_read c.args.rows) c.requires.4 in
    let grown = tests_grow c.args.bound c.args.criterion rows fits (c.loop-b.b + 1) ((length c.args.rows.ys.now) - 1) (c.loop-b.tests + c.tests_of-tests.result) (omega (arith, c.loop-b-test.true)) in
    let e = ap (λ k. tests_from c.args.bound c.args.criterion rows (c.loop-b.b + 1) ((length c.args.rows.ys.now) - 1) (c.loop-b.tests + k)) c.tests_of-tests.ensures
    ∙ tests_again c.args.bound c.args.criterion rows c.loop-b.b ((length c.args.rows.ys.now) - 1) c.choose_sides-s.result.left c.choose_sides-s.result.right c.choose_sides-s.ensures.left c.choose_sides-s.ensures.right c.loop-b-test.true c.loop-b.tests
    ∙ c.loop-b.invariant.8 in
    searches_over c.args.bound c.args.criterion rows c.args.limit (length c.args.rows.ys.now) _ _ (within_then c.loop-b.invariant.4 c.choose_sides-s.ensures.within) _ c.if-limit-tests.true (omega (arith, grown, e))

pub overflow_add-b : goal.overflow_add-b
overflow_add-b c = omega (arith, c.loop-b-test.true, c.requires.4)

pub add_corner-requires : goal.add_corner-requires
add_corner-requires c = (omega (arith, c.k-k.ensures ∙ curve_count c.max_degree-most.result.0, c.max_degree-most.ensures, c.requires.4), omega (arith, c.loop-b.invariant.5))

pub overflow_step-b : goal.overflow_step-b
overflow_step-b c = omega (arith, c.loop-b-test.true, c.requires.4)

pub loop-b-preserved : goal.loop-b-preserved
loop-b-preserved c =
    let rows = weighted_read c.args.rows in
    let fits : max_degree c.args.bound (length (weighted_read c.args.rows)) ≤ 15 = rw (length_read c.args.rows) c.requires.4 in
    let few = tests_few c.args.bound c.args.criterion rows c.loop-b.b ((length c.args.rows.ys.now) - 1) c.choose_sides-s.result.left c.choose_sides-s.result.right c.choose_sides-s.ensures.left c.choose_sides-s.ensures.right fits in
    let e = ap (λ k. tests_from c.args.bound c.args.criterion rows (c.loop-b.b + 1) ((length c.args.rows.ys.now) - 1) (c.loop-b.tests + k)) c.tests_of-tests.ensures
    ∙ tests_again c.args.bound c.args.criterion rows c.loop-b.b ((length c.args.rows.ys.now) - 1) c.choose_sides-s.result.left c.choose_sides-s.result.right c.choose_sides-s.ensures.left c.choose_sides-s.ensures.right c.loop-b-test.true c.loop-b.tests
    ∙ c.loop-b.invariant.8 in (
      omega (arith, c.loop-b.invariant.0),
      omega (arith, c.loop-b-test.true),
      c.if-limit-tests.false,
      omega (arith, few, c.tests_of-tests.ensures, c.loop-b.invariant.3),
      within_then c.loop-b.invariant.4 c.choose_sides-s.ensures.within,
      c.add_corner.ensures.long ∙ c.loop-b.invariant.5,
      corner_grows c.k-k.result.0 (omega (arith, c.k-k.ensures ∙ curve_count c.max_degree-most.result.0, c.max_degree-most.ensures, c.requires.4)) c.loop-b.b (weighted_read c.args.rows) c.loop-b.sums _ c.loop-b.invariant.5 c.loop-b.invariant.6 (rw c.part-in-loop-b.ensures.weighted at c.add_corner.ensures.corner),
      best_again c.args.bound c.args.criterion rows c.loop-b.b ((length c.args.rows.ys.now) - 1) c.choose_sides-s.result.left c.choose_sides-s.result.right c.choose_sides-s.ensures.left c.choose_sides-s.ensures.right c.loop-b-test.true _ _ c.better-best.ensures ∙ c.loop-b.invariant.7,
      e,
    )

pub returns : goal.returns
returns c =
    let rows = weighted_read c.args.rows in
    let et = sym (tests_done c.args.bound c.args.criterion rows c.loop-b.b ((length c.args.rows.ys.now) - 1) c.loop-b.tests c.loop-b-test.false) ∙ c.loop-b.invariant.8 in
    let eb = sym (best_done c.args.bound c.args.criterion rows c.loop-b.b ((length c.args.rows.ys.now) - 1) c.loop-b.best c.loop-b-test.false) ∙ c.loop-b.invariant.7 in
    searches_done c.args.bound c.args.criterion rows c.args.limit (length c.args.rows.ys.now) _ _ c.loop-b.invariant.4 c.loop-b.tests c.loop-b.invariant.2 et c.loop-b.best eb _ (c.ok_or.ensures.value ∙ found_or c.loop-b.best)
