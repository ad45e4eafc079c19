-- `carried::carry` meets its contract: refused, nothing changes; else there is room, and it leaves what `fill` does.
use Rattle.refusal.specs.NamedLaws.{passed}
use mathlib.Core.Path.{refl}
use native.Mathlib.Omega.{arith}
use Rattle.samples.specs.Columns.{columns_of}
use Rattle.samples.specs.ColumnLaws.{columns_are}
use Rattle.book.specs.CallLaws.{is_refused, is_done}
use Rattle.carried.specs.Carry.{carried_columns, carry_out}
use Rattle.carried.specs.CarryLaws.{carry_room}
use Rattle.carried.proofs.carry.Goals as goal

pub returns-in_err-check_carry : goal.returns-in_err-check_carry
unfolding carry_out
returns-in_err-check_carry c = is_refused _ _ _ _ c.check_carry.ensures c.in_err-check_carry.was c.from_residual.ensures.1

pub fill-requires-clause-within : goal.fill-requires-clause-within
fill-requires-clause-within c = omega (arith, (carry_room _ _ _ (passed c.check_carry.ensures c.in_ok-check_carry.was)).within.1.1.0)

pub returns : goal.returns
unfolding carry_out
returns c =
    let now = columns_are {c = carried_columns c.args.book.count (columns_of c.args.xs.now c.args.ys.now c.args.ws.now)} refl refl c.fill.ensures in
    is_done _ _ _ _ c.check_carry.ensures c.in_ok-check_carry.was _ _ _ (record { answer = refl; columns = now; sums = refl })
