-- Document 02's words hold of what a split answers past refusals 1 to 9, and the numbers that it may answer.
use Rattle.std.proofs.Math.Path.{◌≡◌, ap}
use Rattle.std.specs.Prelude.{refl, Bool, true, Option, None, Some, Ok, ◌⊎◌, ℕ, ◌-◌, ◌≤◌, ◌<◌, ltb, length}
use Rattle.std.proofs.Common.{sym, subst, ◌∙◌, inl, inr, arith, ltb-true, ltb-false}
use Rattle.std.proofs.Math.Bool.{false}
use mathlib.Core.List.Memᴰ
use mathlib.Core.List.{List, [], ◌∷◌, Memᴰ}
use Rattle.statistics.specs.declared.DegreeBound.{DegreeBound}
use Rattle.samples.specs.declared.Sample.{Sample}
use Rattle.monomial.specs.Rows.{WeightedRow, weighted_rows}
use Rattle.score.specs.declared.Criterion.{Criterion}
use Rattle.refusal.specs.Named.{refused_by, number_of}
use Rattle.refusal.specs.NamedLaws.{answer_among}
use Rattle.settings.specs.declared.Settings.{Settings}
use Rattle.split.specs.declared.Best.{Best}
use Rattle.split.specs.declared.Places.{Places}
use Rattle.split.specs.declared.Break.{Break}
use Rattle.split.specs.Search.{left_of, right_of, best_break, search_tests}
use Rattle.split.specs.Words.{Answered, NoneChosen}
use Rattle.split.specs.SearchLaws.{found_best, none_found, none_found_only}
use Rattle.split.specs.Refusals.{split_refusal, searched}
use Rattle.split.specs.RefusalLaws.{split_numbers}
use Rattle.split.specs.Splits.{SplitAnswer, SplitOut, split_refused, split_at, split_by, split_past, split_on}

-- the three ends of a search
abbrev Ends : ℕ → ℕ → Option Best → Type 0
Ends limit tests best =
    ((limit < tests) × (searched limit tests best ≡ refused_by 16))
    ⊎ (((tests ≤ limit) × (best ≡ None) × (searched limit tests best ≡ refused_by 11)) ⊎ ((s : Best) × (tests ≤ limit) × (best ≡ Some s) × (searched limit tests best ≡ Ok s)))

ends : (limit tests : ℕ) (best : Option Best) → Ends limit tests best
unfolding searched
ends limit tests best = go (ltb limit tests) refl best refl
  where
    go : (t : Bool) → ltb limit tests ≡ t → (o : Option Best) → best ≡ o → Ends limit tests best
    go true q o e = inl (ltb-true limit tests q, rw q)
    go false q None e = inr (inl (ltb-false limit tests q, e, (rw (q, e))))
    go false q (Some s) e = inr (inr (s, ltb-false limit tests q, e, (rw (q, e))))

module _ (n : ℕ) (bound : DegreeBound) (criterion : Criterion) (limit : ℕ) (rows : List WeightedRow) where
  abbrev best : Option Best
  best = best_break bound criterion rows

  abbrev tests : ℕ
  tests = search_tests bound criterion rows

  abbrev answer : SplitAnswer
  answer = (split_past n bound criterion limit rows).answer

  answer_16 : searched limit tests best ≡ refused_by 16 → answer ≡ refused_by 16
  unfolding split_past
  answer_16 e = ap (λ r. (split_by n tests rows r).answer) e

  answer_11 : searched limit tests best ≡ refused_by 11 → answer ≡ refused_by 11
  unfolding split_past
  answer_11 e = ap (λ r. (split_by n tests rows r).answer) e

  -- the answer that is the break s
  abbrev told : Best → Break
  told s = record { total = s.total; at = s.at; tests = tests; before = s.before; after = s.after }

  answer_0 : (s : Best) → searched limit tests best ≡ Ok s → answer ≡ Ok (told s)
  unfolding split_past split_at
  answer_0 s e = ap (λ r. (split_by n tests rows r).answer) e

  -- 16 is given exactly if the whole search needs more pivot tests than the limit
  pub over_16 : limit < tests → answer ≡ refused_by 16
  over_16 h = go (ends limit tests best)
    where
      go : Ends limit tests best → answer ≡ refused_by 16
      go (inl (a, e)) = answer_16 e
      go (inr (inl (a, f, e))) = absurd (omega arith)
      go (inr (inr (s, a, f, e))) = absurd (omega arith)

  pub only_over_16 : answer ≡ refused_by 16 → limit < tests
  only_over_16 h = go (ends limit tests best)
    where
      go : Ends limit tests best → limit < tests
      go (inl (a, e)) = a
      go (inr (inl (a, f, e))) = absurd (let q = ap number_of (sym h ∙ answer_11 e) in omega (arith, q))
      go (inr (inr (s, a, f, e))) = absurd (let q = ap number_of (sym h ∙ answer_0 s e) in omega (arith, q))

  -- within the limit, 11 is given exactly if every break is passed over
  pub none_11 : tests ≤ limit → NoneChosen bound criterion limit rows → answer ≡ refused_by 11
  unfolding best_break
  none_11 h p = go (ends limit tests best) (none_found_only (left_of bound criterion rows) (right_of bound criterion rows) 2 (length rows - 1) (λ b a l. p b a (omega arith)))
    where
      go : Ends limit tests best → best ≡ None → answer ≡ refused_by 11
      go (inl (a, e)) q = absurd (omega arith)
      go (inr (inl (a, f, e))) q = answer_11 e
      go (inr (inr (s, a, f, e))) q = absurd (cc)

  pub only_none_11 : answer ≡ refused_by 11 → (tests ≤ limit) × NoneChosen bound criterion limit rows
  unfolding best_break
  only_none_11 h = go (ends limit tests best)
    where
      go : Ends limit tests best → (tests ≤ limit) × NoneChosen bound criterion limit rows
      go (inl (a, e)) = absurd (let q = ap number_of (sym h ∙ answer_16 e) in omega (arith, q))
      go (inr (inl (a, f, e))) = (a, λ b two l. none_found (left_of bound criterion rows) (right_of bound criterion rows) 2 (length rows - 1) f b two (omega arith))
      go (inr (inr (s, a, f, e))) = absurd (let q = ap number_of (sym h ∙ answer_0 s e) in omega (arith, q))

  -- otherwise it answers the best break
  best_answered : (s : Best) → tests ≤ limit → best ≡ Some s → Answered bound criterion limit rows (told s)
  unfolding best_break
  best_answered s h f =
      let w = found_best (left_of bound criterion rows) (right_of bound criterion rows) 2 (length rows - 1) s f in
      record {
        two_before = w.after_first;
        two_after = omega (arith, w.before_last);
        left = w.left;
        right = w.right;
        totals = w.totals;
        least = λ b a l c. w.least b a (omega arith) c;
        first = w.first;
        number = refl;
        few = h;
      }

  pub answered : (b : Break) → answer ≡ Ok b → Answered bound criterion limit rows b
  answered b h = go (ends limit tests best)
    where
      go : Ends limit tests best → Answered bound criterion limit rows b
      go (inl (a, e)) = absurd (let q = ap number_of (sym (answer_16 e) ∙ h) in omega (arith, q))
      go (inr (inl (a, f, e))) = absurd (let q = ap number_of (sym (answer_11 e) ∙ h) in omega (arith, q))
      go (inr (inr (s, a, f, e))) =
          let q = sym (answer_0 s e) ∙ h in
          let same : told s ≡ b = cc in
          subst (λ v. Answered bound criterion limit rows v) same (best_answered s a f)

  past_number : Memᴰ (number_of answer) (0 ∷ 1 ∷ 4 ∷ 7 ∷ 8 ∷ 16 ∷ 11 ∷ [])
  past_number = go (ends limit tests best)
    where
      go : Ends limit tests best → Memᴰ (number_of answer) (0 ∷ 1 ∷ 4 ∷ 7 ∷ 8 ∷ 16 ∷ 11 ∷ [])
      go (inl (a, e)) = Memᴰ.append_right (0 ∷ 1 ∷ 4 ∷ 7 ∷ 8 ∷ []) (Memᴰ.head (ap number_of (answer_16 e)))
      go (inr (inl (a, f, e))) = Memᴰ.append_right (0 ∷ 1 ∷ 4 ∷ 7 ∷ 8 ∷ 16 ∷ []) (Memᴰ.head (ap number_of (answer_11 e)))
      go (inr (inr (s, a, f, e))) = Memᴰ.head (ap number_of (answer_0 s e))

-- a split that refusals 1 to 9 let through is what is said above
pub let_through : (n : ℕ) (settings : Settings) (limit : ℕ) (samples : List Sample) (columns : List ℕ) (sums : ℕ) (places : Places)
    → split_refusal n settings samples columns sums places ≡ 0
    → split_on n settings limit samples columns sums places ≡ split_past n settings.bound settings.criterion limit (weighted_rows samples)
unfolding split_on
let_through n settings limit samples columns sums places e = rw e

-- what a split may answer, by number
pub split_answers : (n : ℕ) (settings : Settings) (limit : ℕ) (samples : List Sample) (columns : List ℕ) (sums : ℕ) (places : Places)
    → Memᴰ (number_of (split_on n settings limit samples columns sums places).answer) (0 ∷ 1 ∷ 4 ∷ 7 ∷ 8 ∷ 16 ∷ 11 ∷ [])
unfolding split_on
split_answers n settings limit samples columns sums places =
    answer_among (λ (o : SplitOut). o.answer) (split_refusal n settings samples columns sums places)
    (split_past n settings.bound settings.criterion limit (weighted_rows samples)) (split_refused (split_refusal n settings samples columns sums places) []) (0 ∷ 1 ∷ 4 ∷ 7 ∷ 8 ∷ []) (16 ∷ 11 ∷ []) refl
    (split_numbers n settings samples columns sums places) refl (past_number n settings.bound settings.criterion limit (weighted_rows samples))
