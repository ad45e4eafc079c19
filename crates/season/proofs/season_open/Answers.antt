-- `season::season_open` meets its contract. The loop's invariant: opening the stakes that are left makes of the present season what opening all made of the first.
use mathlib.Core.Path.{◌≡◌, refl, sym, ap, ◌∙◌}
use Prim.Native.Nat.{◌+◌}
use borrow.Author.Rules.{rules}
use Rattle.stakes.specs.Parts.{stakes}
use Rattle.stakes.specs.Season.{SeasonState, season_open_refusal}
use lib.ListN.{length}
use Rattle.samples.specs.Columns.{no_columns}
use Rattle.refusal.specs.NamedLaws.{passed}
use Rattle.season.specs.ChangeLaws.{open_refused, open_done}
use Rattle.loops.specs.Loop.{from}
use Rattle.loops.specs.LoopLaws.{again, done}
use Rattle.season.proofs.Changed.{opens_stake, not_refused_lem}
use Rattle.season.proofs.season_open.Invariants.{Step}
use Rattle.season.proofs.season_open.Goals as goal

pub returns-in_err-check_open : goal.returns-in_err-check_open
returns-in_err-check_open c = open_refused _ c.check_open.ensures c.in_err-check_open.was c.from_residual.ensures.1

pub loop-stake-init : goal.loop-stake-init
loop-stake-init c = (refl, refl, refl)

pub loop-stake-preserved : goal.loop-stake-preserved
loop-stake-preserved c = (search rules, search rules, ap (λ (T : SeasonState). from Step (c.loop-stake.stake + 1) stakes T) c.open_stake.ensures.season ∙ again Step c.loop-stake.stake stakes _ c.loop-stake-test.true ∙ c.loop-stake.invariant.2)

pub returns-in_err-open_stake : goal.returns-in_err-open_stake
returns-in_err-open_stake c =
    let none = passed c.check_open.ensures c.in_ok-check_open.was in
    let at : season_open_refusal (length c.loop-stake.counts) (length c.loop-stake.sums) ≡ 0 = rw (c.loop-stake.invariant.0, c.loop-stake.invariant.1) none in
    absurd (not_refused_lem (c.open_stake.ensures.answer ∙ opens_stake c.loop-stake.stake c.loop-stake.counts no_columns c.loop-stake.sums c.loop-stake-test.true at) c.in_err-open_stake.was)

pub returns : goal.returns
returns c = open_done _ c.check_open.ensures c.in_ok-check_open.was _ (sym (done Step c.loop-stake.stake stakes _ c.loop-stake-test.false) ∙ c.loop-stake.invariant.2)
