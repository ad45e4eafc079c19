-- `season::call` meets its contract: each arm is the book's own call.
use Rattle.ledger.specs.Ledger.{out_of}
use Rattle.season.specs.Changes.{change_of}
use Rattle.season.proofs.call.Goals as goal

pub returns-in-Add : goal.returns-in-Add
unfolding out_of change_of
returns-in-Add c = rw c.in-Add.is c.add.ensures

pub returns-in-Window : goal.returns-in-Window
unfolding out_of change_of
returns-in-Window c = rw c.in-Window.is c.add_window.ensures

pub returns-in-Withdraw : goal.returns-in-Withdraw
unfolding out_of change_of
returns-in-Withdraw c = rw c.in-Withdraw.is c.withdraw.ensures

pub returns-in-Frame : goal.returns-in-Frame
unfolding out_of change_of
returns-in-Frame c = rw c.in-Frame.is c.add_frame.ensures

pub returns-in-Lines : goal.returns-in-Lines
unfolding out_of change_of
returns-in-Lines c = rw c.in-Lines.is c.add_lines.ensures
