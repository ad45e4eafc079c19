-- What a carry answers fits, as Fitting.antt has it of the calls that change a book.
use Rattle.std.specs.Prelude.{refl, List, ℕ, Float, length}
use Rattle.samples.specs.Columns.{Columns, lengths}
use Rattle.book.specs.Calls.{Out, refused}
use Rattle.carried.specs.Carry.{carry_refusal, carry_out}
use Rattle.carried.specs.CarryLaws.{carry_room}
use Rattle.capi.specs.Packed.{BookFits}
use Rattle.capi.specs.Fitting.{settled_fits}

pub carry_fits : (n : ℕ) (columns : Columns) (sums : List Float) → BookFits (carry_out n columns sums).answer
unfolding carry_out BookFits
carry_fits n columns sums =
    let r = carry_refusal n (lengths columns) (length sums) in
    settled_fits (λ (o : Out). o.answer) r _ (refused r columns sums) refl
    (λ e. (carry_room n (lengths columns) (length sums) e).most)
