-- Laws of Writing.antt.
use Rattle.std.specs.Prelude.{◌≡◌, refl, Bool, true, false, ℕ, suc, ◌+◌, ◌≤◌, leb, length, set, drop}
use Rattle.std.proofs.Common.{sym, ap, ap₂, subst, ◌∙◌, zero-add, arith, leb-true, leb-false, length-append}
use mathlib.Core.List.{List, [], ◌∷◌, ◌++◌, append-nil, append_assoc, flatten}
use Rattle.std.proofs.lemmas.List.Edits.{sets, sets-eq}
use Rattle.std.proofs.Math.Seq.{length-sets, set_out}
use Rattle.loops.specs.Places.{table}
use Rattle.loops.specs.PlaceLaws.{table_again}
use Rattle.listing.specs.declared.writing.Writer.{Writer}
use Rattle.listing.specs.Writing.{last_place, up_to, Wrote}

sets_append : (s : List ℕ) (i : ℕ) (t u : List ℕ) → sets s i (t ++ u) ≡ sets (sets s i t) (i + length t) u
sets_append s i [] u = ap (λ z. sets s z u) (omega arith)
sets_append s i (b ∷ t) u = sets_append (set s i b) (suc i) t u ∙ ap (λ z. sets (sets (set s i b) (suc i) t) z u) (omega arith)

sets_past : (s : List ℕ) (i : ℕ) (t : List ℕ) → length s ≤ i → sets s i t ≡ s
sets_past s i [] h = refl
sets_past s i (b ∷ t) h =
    let e : set s i b ≡ s = set_out s i b h in
    ap (λ z. sets z (suc i) t) e ∙ sets_past s (suc i) t (omega arith)

-- nothing was written yet
pub wrote_none : (s : Writer) → s.at ≤ last_place → Wrote s [] s
wrote_none s h = record { text = refl; behind = omega arith; same = refl }

pub length_wrote : {s q : Writer} {t : List ℕ} → Wrote s t q → length q.out.now ≡ length s.out.now
length_wrote {s} {t = t} w = ap length w.text ∙ length-sets s.out.now s.at t

-- the same text, said otherwise
pub wrote_same : {s q : Writer} {t u : List ℕ} → t ≡ u → Wrote s t q → Wrote s u q
wrote_same {s} {q} e w = subst (λ z. Wrote s z q) e w

-- one text behind another. A slice's length is a usize; what the first text left is as long.
pub then : {s o q : Writer} {t u : List ℕ} → length s.out.now ≤ last_place → Wrote s t o → (length o.out.now ≤ last_place → Wrote o u q) → Wrote s (t ++ u) q
then {s} {o} {q} {t} {u} h a f =
    let b = f (omega (arith, length_wrote a)) in record {
      text = b.text ∙ ap₂ (λ y z. sets y z u) a.text a.behind ∙ joined (leb (s.at + length t) last_place) refl ∙ sym (sets_append s.out.now s.at t u);
      behind = b.behind ∙ ap (λ z. up_to (z + length u)) a.behind ∙ further s.at (length t) (length u) ∙ ap (λ z. up_to (s.at + z)) (sym (length-append t u));
      same = b.same ∙ a.same;
    }
  where
    further : (i a b : ℕ) → up_to (up_to (i + a) + b) ≡ up_to (i + (a + b))
    further i a b = omega arith

    joined : (c : Bool) → leb (s.at + length t) last_place ≡ c → sets (sets s.out.now s.at t) (up_to (s.at + length t)) u ≡ sets (sets s.out.now s.at t) (s.at + length t) u
    joined true e =
        let l = leb-true (s.at + length t) last_place e in
        ap (λ z. sets (sets s.out.now s.at t) z u) (omega arith)
    joined false e =
        let l = leb-false (s.at + length t) last_place e in
        let k = length-sets s.out.now s.at t in
        sets_past (sets s.out.now s.at t) (up_to (s.at + length t)) u (omega arith) ∙ sym (sets_past (sets s.out.now s.at t) (s.at + length t) u (omega arith))

flatten_snoc : (l : List (List ℕ)) (t : List ℕ) → flatten (l ++ (t ∷ [])) ≡ flatten l ++ t
unfolding flatten
flatten_snoc [] t = append-nil t
flatten_snoc (u ∷ l) t = ap (λ z. u ++ z) (flatten_snoc l t) ∙ sym (append_assoc u (flatten l) t)

-- one more of a table of texts
pub flatten_again : (f : ℕ → List ℕ) (n : ℕ) → flatten (table f n) ++ f n ≡ flatten (table f (n + 1))
flatten_again f n = sym (ap flatten (table_again f n) ∙ flatten_snoc (table f n) (f n))

-- Where there is room, the text stands in front, the rest is as it was, and the place is the text's length.
pub wrote_whole : {s q : Writer} {t : List ℕ} → s.at ≡ 0 → length s.out.now ≤ last_place → length t ≤ length s.out.now → Wrote s t q
    → (q.out.now ≡ t ++ drop (length t) s.out.now) × (q.at ≡ length t)
wrote_whole {s} {t = t} e h k w =
    (w.text ∙ ap (λ z. sets s.out.now z t) e ∙ sets-eq t s.out.now 0 (omega arith) ∙ ap (λ z. t ++ drop z s.out.now) (zero-add (length t)), omega (arith, w.behind))
