-- `season_report::season_report` meets its contract. The loop's invariant: the turns that are left make of the present reports and memory what all turns make of
-- the first, and no more stakes passed than were asked.
use mathlib.Core.Path.{refl, sym, ap, ◌∙◌}
use Prim.Native.Nat.{◌+◌}
use native.Mathlib.Omega.{arith}
use borrow.Author.Rules.{rules}
use lib.ListN.{length-set}
use Rattle.stakes.specs.Parts.{stakes}
use Rattle.stakes.specs.Stake.{season_held}
use Rattle.season_report.specs.Reports.{Reported, report_turn, season_report}
use Rattle.season_report.proofs.Reporting.{passes_is, turn_is}
use Rattle.loops.specs.Loop.{from}
use Rattle.loops.specs.LoopLaws.{again, done}
use Rattle.season_report.proofs.season_report.Goals as goal

pub loop-stake-init : goal.loop-stake-init
loop-stake-init c = (refl, refl, refl, refl, refl, refl, refl, refl, search rules, refl)

pub loop-stake-preserved : goal.loop-stake-preserved
loop-stake-preserved c =
    let S = season_held c.args.season in
    let counted = passes_is c.report-answer.result c.from-passed.ensures c.is_ok.ensures.value in (
      search rules,
      search rules,
      search rules,
      search rules,
      search rules,
      search rules,
      search rules,
      simp length-set c.loop-stake.invariant.7,
      omega (arith, c.loop-stake.invariant.8, counted.1),
      ap (λ (t : Reported). from (report_turn c.args.settings S) (c.loop-stake.stake + 1) stakes t)
          (turn_is c.args.settings S c.loop-stake.stake (record { reports = c.loop-stake.reports; passed = c.loop-stake.passed; lent = record { scratch = c.loop-stake.scratch; coefficients = c.loop-stake.coefficients; errors = c.loop-stake.errors; pruned = c.loop-stake.pruned; lower = c.loop-stake.lower; upper = c.loop-stake.upper; outliers = c.loop-stake.outliers } }) c.report-answer.ensures counted.0)
          ∙ again (report_turn c.args.settings S) c.loop-stake.stake stakes _ c.loop-stake-test.true ∙ c.loop-stake.invariant.9,
    )

pub returns : goal.returns
unfolding season_report
returns c =
    let S = season_held c.args.season in
    let q = sym (done (report_turn c.args.settings S) c.loop-stake.stake stakes _ c.loop-stake-test.false) ∙ c.loop-stake.invariant.9 in
    record { reports = ap (λ (t : Reported). t.reports) q; passed = ap (λ (t : Reported). t.passed) q; outputs = ap (λ (t : Reported). t.lent) q }
