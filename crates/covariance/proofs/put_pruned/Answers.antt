-- `covariance::put_pruned` meets its contract. The loop's invariant: the places passed hold their bytes, and count is their number of ones.
use mathlib.Core.Path.{◌≡◌, refl, sym, ◌∙◌}
use native.Mathlib.Omega.{arith}
use borrow.Author.Rules.{rules}
use lib.ListN.{length, length-set}
use Rattle.loops.specs.Fold.{fold}
use Rattle.loops.specs.Places.{each, table}
use Rattle.loops.specs.PlaceLaws.{each_again, each_table}
use Rattle.covariance.specs.Marks.{ones}
use Rattle.covariance.specs.MarkLaws.{mark_byte, mark_at_most, ones_again}
use Rattle.covariance.specs.Pruning.{pruned_at}
use Rattle.covariance.proofs.put_pruned.Goals as goal

pub loop-i-init : goal.loop-i-init
unfolding each ones fold table
loop-i-init c = (search rules, refl, refl, search rules, refl)

pub overflow_add-count : goal.overflow_add-count
overflow_add-count c = omega (arith, c.from-count.ensures, mark_at_most c.is_pruned-pruned.result, c.loop-i.invariant.3)

pub loop-i-preserved : goal.loop-i-preserved
unfolding pruned_at
loop-i-preserved c =
    let at = pruned_at c.args.rule c.args.k.0 c.args.c.now c.args.errors.now c.args.t in
    let b : c.from.result ≡ at c.loop-i.i = c.from.ensures ∙ mark_byte _ ∙ rw c.is_pruned-pruned.ensures in
    let m : c.from-count.result ≡ at c.loop-i.i = c.from-count.ensures ∙ mark_byte _ ∙ rw c.is_pruned-pruned.ensures in (
      search rules,
      simp length-set c.loop-i.invariant.1,
      rw (b, c.loop-i.invariant.2) (each_again (λ j _. at j) c.loop-i.i _ 0 (search rules)),
      omega (arith, c.from-count.ensures, mark_at_most c.is_pruned-pruned.result, c.loop-i.invariant.3),
      rw (m, c.loop-i.invariant.4) (sym (ones_again at c.loop-i.i)),
    )

pub returns : goal.returns
returns c =
    let z : c.loop-i.i ≡ length c.args.out.now = omega (arith, c.loop-i.invariant.1) in
    record {
      counted = rw z at c.loop-i.invariant.4;
      written = (rw z at c.loop-i.invariant.2) ∙ each_table _ (length c.args.out.now) c.args.out.now refl;
    }
