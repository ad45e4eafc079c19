-- What a report within a limit comes to past 1 to 9: refused by 16, refused by 11 or 12, or written.
use Rattle.std.specs.Prelude.{Ok, Err}
use mathlib.Core.Path.{◌≡◌, refl, ap, ◌∙◌}
use mathlib.Core.List.{List, ◌++◌}
use Prim.Native.Nat.{ℕ, ◌≤◌, ◌<◌}
use borrow.Author.Tests.{lt-ltb}
use lib.ListN.{drop}
use lib.Ieee.{Float}
use Rattle.basis.specs.Counts.{count_of}
use Rattle.basis.specs.CountLaws.{count_mono}
use Rattle.basis.specs.declared.Basis.{Basis}
use Rattle.monomial.specs.Rows.{Row}
use Rattle.fit.specs.Chosen.{choice_of, counts_of}
use Rattle.fit.specs.declared.Choice.{Choice}
use Rattle.score.specs.declared.Criterion.{Criterion}
use Rattle.lent.specs.Written.{zeros}
use Rattle.lent.specs.WrittenLaws.{over_cleared}
use Rattle.settings.specs.declared.Settings.{Settings}
use Rattle.refusal.specs.declared.refusals.Refusal.{Refusal}
use Rattle.refusal.specs.Named.{refused_by}
use Rattle.basis.specs.declared.Degree.{Degree}
use Rattle.reporting.specs.declared.Chosen.{Chosen}
use Rattle.reporting.specs.declared.Report.{Report}
use Rattle.reporting.specs.Chosen.{chosen_refusal, Chooses}
use Rattle.reporting.specs.ChosenLaws.{last_solved, none_found, one_found}
use Rattle.reporting.specs.Limited.{limited_of, DoesWithin}
use Rattle.reporting.specs.LimitedLaws.{within_limit}
use Rattle.reporting.specs.Outputs.{Outputs}
use Rattle.reporting.specs.Reports.{Does, refused_late, written_by, report_of}
use Rattle.reporting.proofs.Reporting.{late_refused, chosen_whole, used_scratch, written_scratch}

-- the memory w, with scratch t
abbrev pub with_scratch : Outputs → List Float → Outputs
with_scratch w t =
    record { scratch = t; coefficients = w.coefficients; errors = w.errors; pruned = w.pruned; lower = w.lower; upper = w.upper; outliers = w.outliers }

-- m is what was chosen of the rows, by the choice o, and u scratch after it
module _ (basis : Basis) (n : ℕ) (settings : Settings) (limit : ℕ) (rows : List Row) (sums : List Float) (o : Choice) (w : Outputs) (m : Chosen) (u c c' v v' : List Float)
    (ch : Chooses basis o n rows sums w.scratch u c c' v v' m) where
  -- scratch is cleared, and nothing else written
  late : (k : ℕ) (t : List Float) → t ≡ zeros n ++ drop n u → Does (refused_late n k) (refused_by k) (record { found = w; left = with_scratch w t })
  late k t cleared =
      let q = over_cleared n w.scratch u t ch.within cleared in
      record { answer = refl; outputs = λ i. with_scratch w (q i) }

  same_tests : m.choice.tests ≡ o.tests
  same_tests = ap (λ (a : Choice). a.tests) ch.choice

  -- 16
  pub over_limit : limit < m.choice.tests → (t : List Float) → t ≡ zeros n ++ drop n u
      → DoesWithin (limited_of basis n settings limit rows sums o) (record { answer = refused_by 16; tests = 0 }) (record { found = w; left = with_scratch w t })
  unfolding limited_of
  over_limit h t cleared =
      let l : limit < o.tests = rw same_tests at h in
      rw (lt-ltb limit o.tests l) (record { does = late 16 t cleared; taken = refl })

  -- the limit is not passed
  module _ (within : m.choice.tests ≤ limit) where
    enough : o.tests ≤ limit
    enough = rw same_tests at within

    -- 11 or 12
    pub limited_late : {e : Refusal} → m.found ≡ Err e → (t : List Float) → t ≡ zeros n ++ drop n u
        → DoesWithin (limited_of basis n settings limit rows sums o) (record { answer = Err e; tests = m.choice.tests }) (record { found = w; left = with_scratch w t })
    limited_late h t cleared =
        let k = chosen_refusal basis o.chosen sums in
        let q = none_found basis rows sums c' v' o.chosen ch.found h in
        rw (within_limit basis n settings limit rows sums o enough, late_refused basis n settings rows sums o.solved o.chosen k refl q.0, q.1)
        (record { does = late k t cleared; taken = same_tests })

    -- what is answered of the chosen degree
    module _ {e : Degree} (h : m.found ≡ Ok e) where
      whole_chosen : report_of basis n settings rows sums o.solved o.chosen ≡ written_by basis n settings rows e.0 m.choice.solved c' v'
      whole_chosen =
          let d = one_found basis rows sums c' v' o.chosen ch.found h in
          let s : m.choice.solved ≡ o.solved = ap (λ (a : Choice). a.solved) ch.choice in
          rw (d.0, ← s, d.2, d.3) (chosen_whole basis n settings rows sums m.choice.solved e d.1)

      -- the report is written
      pub limited_whole : (a : Report) (w' : Outputs)
          → Does (written_by basis n settings rows e.0 m.choice.solved c' v') (Ok a) (record { found = with_scratch w u; left = w' })
          → DoesWithin (limited_of basis n settings limit rows sums o) (record { answer = Ok a; tests = m.choice.tests }) (record { found = w; left = w' })
      limited_whole a w' d =
          let written = written_by basis n settings rows e.0 m.choice.solved c' v' in
          rw (within_limit basis n settings limit rows sums o enough, whole_chosen)
          (record {
            does =
                record {
                  answer = d.answer;
                  outputs =
                      d.outputs
                      ∙ used_scratch n w.scratch u ch.within written.written w (written_scratch basis n settings rows e.0 m.choice.solved c' v');
                };
            taken = same_tests;
          })

-- the degree that a report is written of is at most the last one tried, and has no more terms
pub chosen_fits : (basis : Basis) (criterion : Criterion) (n last : ℕ) (rows : List Row) (sums s t c c' v v' : List Float) (m : Chosen)
    → Chooses basis (choice_of criterion sums rows (counts_of basis last)) n rows sums s t c c' v v' m → {e : Degree} → m.found ≡ Ok e
    → (e.0 ≤ last) × (count_of basis e.0 ≤ count_of basis last)
chosen_fits basis criterion n last rows sums s t c c' v v' m w {e} z =
    let o = one_found basis rows sums c' v' _ w.found z in
    let d = last_solved basis criterion rows sums last e o.0 in
    (d.0, count_mono basis e.0 last d.0)
