-- `solve::columns::column_in` meets its contract. The loop's invariant: the places passed are copied.
use Rattle.std.proofs.Common.{◌≡◌, refl, replicate, ◌∙◌, arith}
use Rattle.std.proofs.lemmas.List.{length-replicate}
use lib.Ieee.{nan}
use Rattle.loops.specs.Places.{each}
use Rattle.loops.specs.PlaceLaws.{each_again, each_table}
use Rattle.value.specs.Numbers.{zero_f}
use Rattle.solve.specs.Solve.{cell}
use Rattle.solve.specs.Columns.{column_in}
use Rattle.solve.proofs.columns.column_in.Goals as goal

pub loop-r-init : goal.loop-r-init
unfolding each
loop-r-init c = refl

pub loop-r-preserved : goal.loop-r-preserved
loop-r-preserved c = rw c.loop-r.invariant (each_again (λ i _. cell c.args.v.now i c.args.j) c.loop-r.r _ nan (omega arith))

pub returns : goal.returns
unfolding column_in
returns c =
    let z : c.loop-r.r ≡ 16 = omega arith in
    rw z at c.loop-r.invariant ∙ each_table (λ i. cell c.args.v.now i c.args.j) 16 (replicate 16 zero_f) (length-replicate 16 zero_f)
