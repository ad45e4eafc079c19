-- `book::window::add_window` meets its contract: refused, nothing changes; else a place is made, and the sample is put there.
use Rattle.refusal.specs.NamedLaws.{passed}
use native.Mathlib.Omega.{arith}
use Rattle.samples.specs.Columns.{columns_of}
use Rattle.samples.specs.ColumnLaws.{columns_are}
use Rattle.book.specs.Calls.{state_of}
use Rattle.book.specs.CallLaws.{is_refused, is_done}
use Rattle.book.specs.Window.{window_out}
use Rattle.book.specs.WindowLaws.{window_room}
use Rattle.book.proofs.Withdrawn.{window_free, window_put}
use Rattle.book.proofs.window.add_window.Goals as goal

pub returns-in_err-check_window : goal.returns-in_err-check_window
unfolding window_out
returns-in_err-check_window c = is_refused _ _ _ _ c.check_window.ensures c.in_err-check_window.was c.from_residual.ensures.1

pub make_place-less-requires : goal.make_place-less-requires
make_place-less-requires c =
    let room = window_room _ _ _ _ (passed c.check_window.ensures c.in_ok-check_window.was) in
    (room.0, room.3)

pub put-requires : goal.put-requires
put-requires c =
    let s = state_of c.args.book.count (columns_of c.args.xs.now c.args.ys.now c.args.ws.now) c.args.sums.now in
    let room = window_free s _ (passed c.check_window.ensures c.in_ok-check_window.was) _ _ _ c.make_place-less.ensures in
    (omega (arith, room.within.0), omega (arith, room.within.1.0), omega (arith, room.within.1.1.0), room.enough.0)

pub overflow_add-result : goal.overflow_add-result
overflow_add-result c =
    let s = state_of c.args.book.count (columns_of c.args.xs.now c.args.ys.now c.args.ws.now) c.args.sums.now in
    omega (arith, (window_free s _ (passed c.check_window.ensures c.in_ok-check_window.was) _ _ _ c.make_place-less.ensures).most)

pub returns : goal.returns
unfolding window_out
returns c =
    let s = state_of c.args.book.count (columns_of c.args.xs.now c.args.ys.now c.args.ws.now) c.args.sums.now in
    is_done _ _ _ _ c.check_window.ensures c.in_ok-check_window.was _ _ _ (window_put s _ (passed c.check_window.ensures c.in_ok-check_window.was) _ _ _ c.make_place-less.ensures _ _ (columns_are c.put.ensures.0 c.put.ensures.1 c.put.ensures.2) c.put.ensures.3)
