-- Laws of Scores.antt: what the scores may answer, that they answer where a report does and of the degree that it tells, and what the 16 bytes and the 16
-- scores hold.
use Rattle.std.specs.Prelude.{◌≡◌, Bool, cond, length, get_or, drop, replicate, Float, Option, Some, None, Ok, is_some}
use Rattle.std.proofs.Math.Path.{refl, sym, ap}
use Rattle.std.proofs.Common.{◌∙◌, add-one, arith}
use Rattle.std.proofs.Math.Bool.{true, false}
use mathlib.Core.List.{List, [], ◌∷◌, ◌++◌, map, map-append, Memᴰ}
use Prim.Native.Nat.{ℕ, zero, suc, ◌+◌, ◌-◌, ◌≤◌, ◌<◌}
use borrow.Author.Tests.{ltb-true, ltb-false}
use Rattle.std.proofs.Math.Dec.{ltb}
use Rattle.std.proofs.Math.ListN.{length-map}
use Rattle.std.specs.Float.Ieee.{nan, lt}
use Rattle.std.proofs.lemmas.Option.{none-some}
use Rattle.loops.specs.Fold.{fold}
use Rattle.loops.specs.FoldLaws.{fold_append}
use Rattle.loops.specs.LoopLaws.{last, done}
use Rattle.loops.specs.Places.{table}
use Rattle.loops.specs.PlaceLaws.{length_each, each_at, each_past, each_write, length_table, map_table, map_at}
use Rattle.basis.specs.Counts.{count_of}
use Rattle.basis.specs.declared.Basis.TheVariants.{Curve}
use Rattle.basis.specs.declared.Degree.{Degree}
use Rattle.statistics.specs.Degrees.{max_degree}
use Rattle.samples.specs.declared.Sample.{Sample}
use Rattle.monomial.specs.Rows.{Row, rows_of}
use Rattle.choice.specs.Choice.{solved_count}
use Rattle.choice.specs.Laws.{none_below, score_some}
use Rattle.fit.specs.Chosen.{counts_of, tried, scores_of as scores_kept, choice_of}
use Rattle.fit.specs.declared.Choice.{Choice}
use Rattle.covariance.specs.Marks.{mark, ones}
use Rattle.covariance.specs.MarkLaws.{ones_again}
use Rattle.refusal.specs.Refusals.{settle, first_of}
use Rattle.refusal.specs.Named.{refused_by, number_of}
use Rattle.refusal.specs.NamedLaws.{answer_among}
use Rattle.refusal.specs.Tests.{too_short}
use Rattle.refusal.specs.RoomLaws.{long_enough}
use Rattle.lent.specs.Written.{zeros}
use Rattle.settings.specs.declared.Settings.{Settings}
use Rattle.reporting.specs.declared.Places.{Places}
use Rattle.reporting.specs.declared.Report.{Report}
use Rattle.reporting.specs.Chosen.{chosen_refusal}
use Rattle.reporting.specs.ChosenLaws.{of_either, of_number, chosen_numbers}
use Rattle.report.specs.Refusals.{report_needs, report_refusal}
use Rattle.report.specs.RefusalLaws.{report_room}
use Rattle.report.specs.Reports.{report_choice, report_on}
use Rattle.report.specs.ReportLaws.{number_alike, told_alike}
use Rattle.report.specs.ChosenLaws.{chosen_solved}
use Rattle.scores.specs.declared.ScoreTable.{ScoreTable}
use Rattle.scores.specs.Refusals.{scores_needs, scores_refusal}
use Rattle.scores.specs.RefusalLaws.{scores_numbers, scores_room}
use Rattle.scores.specs.Scores.{ScoresAnswer, ScoresOut, solved_mark, score_or_zero, scores_refused, scores_late, scores_by, scores_of, scores_past, scores_on}

-- ---- what they may answer, by document 01's numbers

by_number : (n bound : ℕ) (choice : Choice) (d : Degree) → number_of (scores_by n bound choice d).answer ≡ 0
unfolding scores_by
by_number n bound choice d = refl

-- past 1 to 9 it is the number of the choice
past_number : (n bound : ℕ) (sums : List Float) (choice : Choice) → number_of (scores_of n bound sums choice).answer ≡ chosen_refusal Curve choice.chosen sums
unfolding scores_of
past_number n bound sums choice =
    of_number Curve sums (scores_late n) (scores_by n bound choice) (λ w. number_of w.answer) refl refl (by_number n bound choice) choice.chosen

pub scores_answers : (n : ℕ) (settings : Settings) (samples : List Sample) (sums : List Float) (columns : List ℕ) (places scratch solved scores : ℕ)
    → Memᴰ (number_of (scores_on n settings samples sums columns places scratch solved scores).answer) (0 ∷ 1 ∷ 4 ∷ 7 ∷ 8 ∷ 11 ∷ 12 ∷ [])
unfolding scores_on scores_past
scores_answers n settings samples sums columns places scratch solved scores =
    answer_among (λ (o : ScoresOut). o.answer) (scores_refusal n settings samples columns places scratch solved scores) (scores_past n settings (rows_of samples) sums) _
    (0 ∷ 1 ∷ 4 ∷ 7 ∷ 8 ∷ []) (11 ∷ 12 ∷ []) refl (scores_numbers n settings samples columns places scratch solved scores) refl
    (rw (past_number n (max_degree settings.bound n) sums (report_choice n settings (rows_of samples) sums)) (chosen_numbers Curve _ sums))

-- ---- they answer where a report answers, and are refused by its number where it is refused

-- past 1
pub same_refusal : (n : ℕ) (settings : Settings) (samples : List Sample) (columns : List ℕ) (places scratch solved scores : ℕ) (lent : Places)
    → too_short n columns (scores_needs n places scratch solved scores) ≡ false → too_short n columns (report_needs n places lent) ≡ false
    → scores_refusal n settings samples columns places scratch solved scores ≡ report_refusal n settings samples columns places lent
unfolding scores_refusal report_refusal first_of
same_refusal n settings samples columns places scratch solved scores lent h q = rw (h, q)

module _ (n : ℕ) (settings : Settings) (samples : List Sample) (sums : List Float) (columns : List ℕ) (places scratch solved scores : ℕ) (lent : Places)
    (enough : too_short n columns (scores_needs n places scratch solved scores) ≡ false) where
  pub same_answer : too_short n columns (report_needs n places lent) ≡ false
      → number_of (scores_on n settings samples sums columns places scratch solved scores).answer ≡ number_of (report_on n settings samples sums columns places lent).answer
  unfolding scores_on scores_past scores_of
  same_answer q =
      number_alike n settings samples sums columns places lent (scores_refusal n settings samples columns places scratch solved scores) scores_refused (scores_late n)
      (scores_by n (max_degree settings.bound n) (report_choice n settings (rows_of samples) sums)) (λ w. w.answer) (λ r. refl) (λ r. refl)
      (by_number n (max_degree settings.bound n) (report_choice n settings (rows_of samples) sums)) (same_refusal n settings samples columns places scratch solved scores lent enough q)

  -- where a report tells a degree, it is the chosen one, and the scores are told with it
  pub told_with_report : {a : Report} → (report_on n settings samples sums columns places lent).answer ≡ Ok a
      → ((report_choice n settings (rows_of samples) sums).chosen ≡ Some a.degree)
      × (scores_on n settings samples sums columns places scratch solved scores ≡ scores_by n (max_degree settings.bound n) (report_choice n settings (rows_of samples) sums) a.degree)
  unfolding scores_on scores_past scores_of
  told_with_report =
      told_alike n settings samples sums columns places lent (scores_refusal n settings samples columns places scratch solved scores) scores_refused (scores_late n)
      (scores_by n (max_degree settings.bound n) (report_choice n settings (rows_of samples) sums))
      (λ z.
      same_refusal n settings samples columns places scratch solved scores lent enough
      (long_enough n columns (report_needs n places lent) (report_room n settings samples columns places lent z).room)
      ∙ z)

-- ---- the 16 bytes and the 16 scores

drop_replicate : {A : Type 0} (n k : ℕ) (v : A) → drop k (replicate n v) ≡ replicate (n - k) v
drop_replicate n zero v =
    let z : n ≡ n - 0 = omega arith in
    ap (λ m. replicate m v) z
drop_replicate zero (suc k) v =
    let z : 0 ≡ 0 - suc k = omega arith in
    ap (λ m. replicate m v) z
drop_replicate (suc n) (suc k) v =
    let z : n - k ≡ suc n - suc k = omega arith in
    drop_replicate n k v ∙ ap (λ m. replicate m v) z

none_at : (n d : ℕ) → get_or {A = Option Float} (replicate n None) d None ≡ None
none_at zero d = refl
none_at (suc n) zero = refl
none_at (suc n) (suc d) = none_at n d

no_marks : (f : ℕ → ℕ) → 0 ≡ ones (table f 0)
unfolding ones fold table
no_marks f = refl

ones_none : (m k : ℕ) → fold ◌+◌ m (map solved_mark (replicate k None)) ≡ m
unfolding fold
ones_none m zero = refl
ones_none m (suc k) =
    let z : m + 0 ≡ m = omega arith in
    ap (λ j. fold ◌+◌ j (map solved_mark (replicate k None))) z ∙ ones_none m k

-- as many ones as there are solved degrees
module _ (S : ℕ → Option Float) where
  solved_none : solved_count S 0 ≡ 0
  unfolding solved_count
  solved_none = done _ 0 0 0 (omega arith)

  solved_last : (b : ℕ) → solved_count S (suc b) ≡ cond (is_some (S b)) (solved_count S b + 1) (solved_count S b)
  unfolding solved_count
  solved_last b = last _ b 0

  ones_solved : (b : ℕ) → solved_count S b ≡ ones (table (λ d. solved_mark (S d)) b)
  ones_solved zero = solved_none ∙ no_marks (λ d. solved_mark (S d))
  ones_solved (suc b) =
      solved_last b ∙ more (is_some (S b)) _ _ (ones_solved b) ∙ sym (ones_again (λ d. solved_mark (S d)) b)
      ∙ ap (λ k. ones (table (λ d. solved_mark (S d)) k)) (add-one b)
    where
      more : (t : Bool) (m k : ℕ) → m ≡ k → cond t (m + 1) m ≡ k + mark t
      more true m k e = omega arith
      more false m k e = omega arith

  ones_scores : (b : ℕ) → b ≤ 16 → solved_count S b ≡ ones (map solved_mark (scores_kept S b))
  unfolding ones
  ones_scores b h =
      ones_solved b ∙ ap (fold ◌+◌ 0) (map_table solved_mark S b) ∙ sym (ones_none _ (16 - b))
      ∙ sym (fold_append ◌+◌ 0 (map solved_mark (table S b)) (map solved_mark (replicate (16 - b) None)))
      ∙ ap (fold ◌+◌ 0) (sym (map-append solved_mark (table S b) (replicate (16 - b) None)))
      ∙ ap (λ l. fold ◌+◌ 0 (map solved_mark (table S b ++ l))) (sym (drop_replicate 16 b None))
      ∙ ap (λ l. fold ◌+◌ 0 (map solved_mark l)) (sym (each_write S b (replicate 16 None) h))

module _ (n : ℕ) (settings : Settings) (rows : List Row) (sums : List Float) where
  abbrev choice : Choice
  choice = report_choice n settings rows sums

  -- what is known of each degree, and the degrees tried
  abbrev S : ℕ → Option Float
  S = tried settings.criterion sums rows (counts_of Curve (max_degree settings.bound n))

  abbrev b : ℕ
  b = length (counts_of Curve (max_degree settings.bound n))

  tried_count : b ≡ max_degree settings.bound n + 1
  tried_count = length_table (count_of Curve) (max_degree settings.bound n + 1)

  -- 16 of them
  pub length_scores : length choice.scores ≡ 16
  unfolding report_choice choice_of
  length_scores = length_each _ b (replicate 16 None)

  -- past the bound no degree is solved, and there is no score
  pub score_past : (d : ℕ) → max_degree settings.bound n < d → get_or choice.scores d None ≡ None
  unfolding report_choice choice_of
  score_past d h = each_past _ b (replicate 16 None) d None (omega (arith, tried_count)) ∙ none_at 16 d

  module _ (most : max_degree settings.bound n ≤ 15) where
    few : b ≤ 16
    few = omega (arith, tried_count)

    score_at : (d : ℕ) → d < b → get_or choice.scores d None ≡ S d
    unfolding report_choice choice_of
    score_at d h = each_at (λ e _. S e) b (replicate 16 None) d None h (omega (arith, few))

    -- the number of solved degrees is that of the ones
    pub solved_ones : choice.solved ≡ ones (map solved_mark choice.scores)
    unfolding report_choice choice_of
    solved_ones = ones_scores S b few

    -- no solved degree scores below the least
    pub none_less : (d : ℕ) (v : Float) → get_or choice.scores d None ≡ Some v → lt v choice.least ≡ false
    unfolding report_choice choice_of
    none_less d v h = go (ltb d b) refl
      where
        go : (t : Bool) → ltb d b ≡ t → lt v choice.least ≡ false
        go true q =
            let k = ltb-true d b q in
            none_below S b d v k (sym (score_at d k) ∙ h)
        go false q = absurd (none-some v (sym (score_past d (omega (arith, ltb-false d b q, tried_count))) ∙ h))

    -- the chosen degree's score is the score of the choice, which `split` and the losses tell
    pub chosen_score_lem : (d : Degree) → choice.chosen ≡ Some d → (d.0 < 16) × (score_or_zero (get_or choice.scores d.0 None) ≡ choice.score)
    unfolding report_choice choice_of
    chosen_score_lem d h =
        let w = chosen_solved n settings rows sums d h in
        (omega (arith, w.0, most), ap score_or_zero (score_at d.0 (omega (arith, w.0, tried_count))) ∙ score_some S _ d h)

-- ---- where they are told: as many ones as solved degrees, 16 bytes and scores, none of a solved degree below the least, and the chosen degree's is the
-- score that a split and the losses tell

abbrev Told : Float → ScoresOut → Type 0
Told score o =
    (a : ScoreTable) → o.answer ≡ Ok a
    → (a.solved ≡ ones o.solved) × (length o.solved ≡ 16) × (length o.scores ≡ 16) × (get_or o.scores a.degree.0 nan ≡ score)
    × ((e : ℕ) → get_or o.solved e 0 ≡ 1 → lt (get_or o.scores e nan) a.least ≡ false)

none_told : (score : Float) (r : ℕ) (s : List Float) → Told score (record { answer = refused_by r; scratch = s; solved = []; scores = [] })
none_told score r s a h = absurd cc

-- where the byte is 1, the score is a solved degree's
marked : (l : List (Option Float)) (e : ℕ) → get_or (map solved_mark l) e 0 ≡ 1 → (v : Float) × (get_or l e None ≡ Some v) × (v ≡ get_or (map score_or_zero l) e nan)
marked [] e h = absurd (omega arith)
marked (Some v ∷ l) zero h = (v, refl, refl)
marked (None ∷ l) zero h = absurd (omega arith)
marked (s ∷ l) (suc e) h = marked l e h

module _ (n : ℕ) (settings : Settings) (rows : List Row) (sums : List Float) (most : max_degree settings.bound n ≤ 15) where
  by_told : (d : Degree) → (report_choice n settings rows sums).chosen ≡ Some d
      → Told (report_choice n settings rows sums).score (scores_by n (max_degree settings.bound n) (report_choice n settings rows sums) d)
  unfolding scores_by
  by_told d chosen a h =
      let o = report_choice n settings rows sums in
      let same = table_of h in
      let long = length_scores n settings rows sums in
      let c = chosen_score_lem n settings rows sums most d chosen in
      rw (← same) (
        solved_ones n settings rows sums most,
        length-map o.scores solved_mark ∙ long,
        length-map o.scores score_or_zero ∙ long,
        map_at score_or_zero o.scores d.0 None nan (omega (arith, c.0, long)) ∙ c.1,
        λ e q.
            let m = marked o.scores e q in
            rw m.2 at (none_less n settings rows sums most e m.0 m.1),
      )
    where
      table_of : {b : ScoreTable} → ◌≡◌ {A = ScoresAnswer} (Ok b) (Ok a) → b ≡ a
      table_of q = cc

  past_told : Told (report_choice n settings rows sums).score (scores_past n settings rows sums)
  unfolding scores_past scores_of
  past_told =
      of_either Curve sums (scores_late n) _ (Told (report_choice n settings rows sums).score) (report_choice n settings rows sums).chosen
      (none_told _ 11 (zeros n)) (none_told _ 12 (zeros n)) by_told

settled_told : (score : Float) (r : ℕ) (w : ScoresOut) → (r ≡ 0 → Told score w) → Told score (settle r w (scores_refused r))
settled_told score zero w h = h refl
settled_told score (suc r) w h = none_told score (suc r) []

pub scores_told : (n : ℕ) (settings : Settings) (samples : List Sample) (sums : List Float) (columns : List ℕ) (places scratch solved scores : ℕ)
    (a : ScoreTable) → (scores_on n settings samples sums columns places scratch solved scores).answer ≡ Ok a
    → (let o = scores_on n settings samples sums columns places scratch solved scores in
    (a.solved ≡ ones o.solved) × (length o.solved ≡ 16) × (length o.scores ≡ 16) × (get_or o.scores a.degree.0 nan ≡ (report_choice n settings (rows_of samples) sums).score)
    × ((e : ℕ) → get_or o.solved e 0 ≡ 1 → lt (get_or o.scores e nan) a.least ≡ false))
unfolding scores_on
scores_told n settings samples sums columns places scratch solved scores =
    settled_told _ (scores_refusal n settings samples columns places scratch solved scores) _
    (λ z. past_told n settings (rows_of samples) sums (scores_room n settings samples columns places scratch solved scores z).2)
