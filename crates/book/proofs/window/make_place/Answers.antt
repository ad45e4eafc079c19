-- `book::window::make_place` meets its contract: a full book is left as `take_out` leaves it, any other as it was.
use mathlib.Core.Path.{sym, ap, ◌∙◌}
use mathlib.Core.Bool.{Bool, cond}
use native.Mathlib.Omega.{arith}
use borrow.Author.Tests.{eq-eqb, ne_eqb}
use Rattle.samples.specs.Columns.{columns_of}
use Rattle.book.specs.Calls.{state_of}
use Rattle.book.proofs.Withdrawn.{withdrawn, taken_out, place_made}
use Rattle.book.proofs.window.make_place.Goals as goal

pub overflow_sub-less : goal.overflow_sub-less
overflow_sub-less c = omega (arith, c.requires.1, c.capacity.ensures, c.if-n-capacity.true)

pub take_out-requires : goal.take_out-requires
take_out-requires c = (omega (arith, c.requires.1, c.capacity.ensures, c.if-n-capacity.true), c.requires.0.within.0, c.requires.0.within.1.0, c.requires.0.within.1.1.0, c.requires.0.enough.0)

pub returns-then-n-capacity : goal.returns-then-n-capacity
returns-then-n-capacity c =
    let s = state_of c.args.n (columns_of c.args.xs.now c.args.ys.now c.args.ws.now) c.args.sums.now in
    let full = eq-eqb _ _ (c.if-n-capacity.true ∙ c.capacity.ensures) in
    taken_out s c.requires.0 0 _ _ _ _ (omega (arith, c.requires.1, c.capacity.ensures, c.if-n-capacity.true)) c.take_out.ensures.0 c.take_out.ensures.1 c.take_out.ensures.2 c.take_out.ensures.3 ∙ sym (place_made s c.requires.0 c.requires.1 ∙ ap (λ (b : Bool). cond b (withdrawn s 0) s) full)

pub returns : goal.returns
returns c =
    let s = state_of c.args.n (columns_of c.args.xs.now c.args.ys.now c.args.ws.now) c.args.sums.now in
    sym (place_made s c.requires.0 c.requires.1 ∙ ap (λ (b : Bool). cond b (withdrawn s 0) s) (ne_eqb _ _ (λ q. c.if-n-capacity.false (q ∙ sym c.capacity.ensures))))
