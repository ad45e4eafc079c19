-- `capi::stakebook_next` meets its contract.
use mathlib.Core.Path.{refl}
use Rattle.capi.proofs.Promises.{read_short, read_packed}
use Rattle.capi.proofs.stakebook_next.Goals as goal

pub returns-then-numbers-lt-SAMPLE : goal.returns-then-numbers-lt-SAMPLE
returns-then-numbers-lt-SAMPLE c = read_short _ _ c.if-numbers-lt-SAMPLE.true refl _ c.refused.ensures

pub returns : goal.returns
returns c = read_packed _ _ c.if-numbers-lt-SAMPLE.false _ _ c.next.ensures c.packed_read.ensures.0 c.packed_read.ensures.1
