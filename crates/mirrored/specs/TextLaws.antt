-- Laws of `flip_text`: of every text, well formed or not, it is the mirror image.
use Rattle.std.specs.Prelude.{◌≡◌, Bool, cond, not, List, [], ◌∷◌, ◌++◌, map, ℕ, zero, suc, ◌+◌, ◌<◌, ◌^◌, length, take, drop, Float, Ok, Err}
use Rattle.std.proofs.Math.Path.{refl}
use Rattle.std.proofs.Common.{sym, ap, ap₂, subst, ◌∙◌, append_assoc, arith, ne_eqb, eqb-true, length-append, take_at, drop_at}
use Rattle.std.proofs.Math.Bool.{true, false}
use Rattle.std.proofs.Math.Dec.{eqb}
use Rattle.std.specs.Float.{binary64}
use Rattle.std.specs.Float.Ieee.{round}
use Rattle.decimal.specs.Bytes.{index_of, index_after}
use Rattle.loops.specs.All.{All}
use Rattle.loops.specs.Cases.{by_test, and_first, never}
use Rattle.loops.specs.Fold.{fold}
use Rattle.loops.specs.FoldLaws.{all_cons}
use Rattle.decimal.specs.Characters.{minus_byte, point_byte, space_byte, newline_byte}
use Rattle.decimal.specs.IndexLaws.{drop_behind}
use Rattle.decimal.specs.Digits.{is_digit, digits_only, remaining, spells}
use Rattle.decimal.specs.DigitLaws.{digit_range, only_digits}
use Rattle.decimal.specs.Nearest.{nearest_to}
use Rattle.decimal.specs.Readings.{Reading, has_minus, behind_sign, whole_of, formed, too_many, unsigned_of, reading_of}
use Rattle.decimal.specs.Lines.{Entry, pair_of, body_of, space_in, newline_in, line_of, in_front, lines_in, joined, entry_refusal, or_later, first_refusal, lines_refusal, sample_of, read_lines}
use Rattle.decimal.specs.LineLaws.{line_with, line_without}
use Rattle.decimal.specs.declared.errors.ReadingError.TheVariants.{Malformed, TooManyDigits}
use Rattle.signs.specs.Opposite.{Opposite}
use Rattle.signs.specs.OppositeLaws.{opposite_of, opposite_nan}
use Rattle.signs.specs.Negated.{round_neg}
use Rattle.mirror.specs.Pairs.{Pairs, none, and}
use Rattle.mirror.specs.PairLaws.{pairs_map}
use Rattle.mirrored.specs.Samples.{MirrorSample}
use Rattle.mirrored.specs.Frames.{MirrorText}
use Rattle.mirrored.specs.Flipped.{flip_reading, flip_body, flip_line, flip_text}

-- ---- readings

data MirrorDecimal : Reading → Reading → Type 0 where
  values : {v w : Float} → Opposite v w → MirrorDecimal (Ok v) (Ok w)
  many : MirrorDecimal (Err TooManyDigits) (Err TooManyDigits)
  malformed : MirrorDecimal (Err Malformed) (Err Malformed)

nearest_opposite : (s : Bool) (d p : ℕ) → Opposite (nearest_to s d p) (nearest_to (not s) d p)
unfolding nearest_to
nearest_opposite s d p = rw (round_neg binary64 s d (10 ^ p)) (opposite_of (round binary64 s d (10 ^ p)))

judged : (f m : Bool) {v w : Float} → Opposite v w
    → MirrorDecimal (cond f (cond m (Err TooManyDigits) (Ok v)) (Err Malformed)) (cond f (cond m (Err TooManyDigits) (Ok w)) (Err Malformed))
judged true true o = many
judged true false o = values o
judged false m o = malformed

-- the same digits with the other sign
unsigned_mirror : (s : Bool) (u : List ℕ) → MirrorDecimal (unsigned_of s u) (unsigned_of (not s) u)
unfolding unsigned_of
unsigned_mirror s u = judged (formed u) (too_many u) (nearest_opposite s _ _)

-- what begins with digits has no minus
first_digit : (u : List ℕ) → digits_only (whole_of u) ≡ true → has_minus u ≡ false
unfolding has_minus digits_only index_of index_after
first_digit [] d = never d
first_digit (b ∷ u) d = first (eqb b point_byte) d
  where
    first : (t : Bool) → digits_only (take (index_after t (index_of point_byte u)) (b ∷ u)) ≡ true → eqb b minus_byte ≡ false
    first true d = never d
    first false d =
        let r = digit_range b (all_cons is_digit b (take (index_of point_byte u) u) (only_digits (b ∷ take (index_of point_byte u) u) d)).0 in
        ne_eqb b minus_byte (λ (e : b ≡ 45). absurd (omega arith))

no_minus : (u : List ℕ) → formed u ≡ true → has_minus u ≡ false
unfolding formed
no_minus u h = first_digit u (and_first (digits_only (whole_of u)) _ h)

-- a reading that is not malformed, and the same with its minus taken out or one put in
reading_mirror : (y : List ℕ) → formed (behind_sign y) ≡ true → MirrorDecimal (reading_of y) (reading_of (flip_reading y))
unfolding reading_of flip_reading
reading_mirror y h = go (has_minus y) h
  where
    plain : has_minus (minus_byte ∷ y) ≡ true
    plain = unfold has_minus in refl

    go : (m : Bool) → formed (cond m (drop 1 y) y) ≡ true
        → MirrorDecimal (unsigned_of m (cond m (drop 1 y) y)) (unsigned_of (has_minus (cond m (drop 1 y) (minus_byte ∷ y))) (behind_sign (cond m (drop 1 y) (minus_byte ∷ y))))
    go true f = rw (no_minus (drop 1 y) f) (unsigned_mirror true (drop 1 y))
    go false f = rw plain (unsigned_mirror false y)

-- ---- lines

-- two lines: the same number refuses both or none, and their samples are alike but for the sign of y
record MirrorEntry (a b : Entry) : Type 0 where
  pub refusal : entry_refusal a ≡ entry_refusal b
  pub sample : MirrorSample (sample_of a) (sample_of b)

pair_mirror : (x : Reading) {y z : Reading} → MirrorDecimal y z → MirrorEntry (pair_of x y) (pair_of x z)
unfolding pair_of entry_refusal sample_of
pair_mirror (Err Malformed) o = record { refusal = refl; sample = record { x = refl; y = opposite_nan; w = refl } }
pair_mirror (Err TooManyDigits) malformed = record { refusal = refl; sample = record { x = refl; y = opposite_nan; w = refl } }
pair_mirror (Err TooManyDigits) many = record { refusal = refl; sample = record { x = refl; y = opposite_nan; w = refl } }
pair_mirror (Err TooManyDigits) (values o) = record { refusal = refl; sample = record { x = refl; y = opposite_nan; w = refl } }
pair_mirror (Ok u) malformed = record { refusal = refl; sample = record { x = refl; y = opposite_nan; w = refl } }
pair_mirror (Ok u) many = record { refusal = refl; sample = record { x = refl; y = opposite_nan; w = refl } }
pair_mirror (Ok u) (values o) = record { refusal = refl; sample = record { x = refl; y = o; w = refl } }

-- a line that is refused is its own mirror image: its numbers count as NaNs
refused_mirror : (a : Entry) → eqb (entry_refusal a) 0 ≡ false → MirrorEntry a a
unfolding entry_refusal sample_of
refused_mirror (Ok v) e = never (sym e)
refused_mirror (Err Malformed) e = record { refusal = refl; sample = record { x = refl; y = opposite_nan; w = refl } }
refused_mirror (Err TooManyDigits) e = record { refusal = refl; sample = record { x = refl; y = opposite_nan; w = refl } }

-- of a line that is not refused, y is not malformed
y_formed : (x : Reading) (y : List ℕ) → eqb (entry_refusal (pair_of x (reading_of y))) 0 ≡ true → formed (behind_sign y) ≡ true
unfolding reading_of unsigned_of
y_formed x y e = by_test (formed (behind_sign y)) (λ f. f) (λ f. absurd (bad x (rw f at e)))
  where
    bad : (x : Reading) → eqb (entry_refusal (pair_of x (Err Malformed))) 0 ≡ true → ⊥
    bad (Err Malformed) e = never (unfold pair_of in unfold entry_refusal in e)
    bad (Err TooManyDigits) e = never (unfold pair_of in unfold entry_refusal in e)
    bad (Ok u) e = never (unfold pair_of in unfold entry_refusal in e)

-- ---- where a byte first stands

abbrev Without : ℕ → List ℕ → Type 0
Without v l = All (λ b. eqb b v ≡ false) l

front_without : (v : ℕ) (l : List ℕ) → Without v (take (index_of v l) l)
unfolding index_of index_after
front_without v [] = tt
front_without v (b ∷ l) = go (eqb b v) refl (front_without v l)
  where
    go : (t : Bool) → eqb b v ≡ t → Without v (take (index_of v l) l) → Without v (take (index_after t (index_of v l)) (b ∷ l))
    go true e r = tt
    go false e r = (e, r)

index_end : (v : ℕ) (l : List ℕ) → Without v l → index_of v l ≡ length l
unfolding index_of index_after
index_end v [] n = refl
index_end v (b ∷ l) n = rw n.0 (ap suc (index_end v l n.1))

index_there : (v : ℕ) (l m : List ℕ) → eqb v v ≡ true → Without v l → index_of v (l ++ v ∷ m) ≡ length l
unfolding index_of index_after
index_there v [] m e n = rw e
index_there v (b ∷ l) m e n = rw n.0 (ap suc (index_there v l m e n.1))

without_append : (v : ℕ) (l m : List ℕ) → Without v l → Without v m → Without v (l ++ m)
without_append v [] m a b = b
without_append v (c ∷ l) m a b = (a.0, without_append v l m a.1 b)

without_take : (v i : ℕ) (l : List ℕ) → Without v l → Without v (take i l)
without_take v zero l n = tt
without_take v (suc i) [] n = tt
without_take v (suc i) (b ∷ l) n = (n.0, without_take v i l n.1)

without_drop : (v i : ℕ) (l : List ℕ) → Without v l → Without v (drop i l)
without_drop v zero l n = n
without_drop v (suc i) [] n = tt
without_drop v (suc i) (b ∷ l) n = without_drop v i l n.1

-- ---- what stands in front of a newline

body_without : (l : List ℕ) → Without newline_byte l → Without newline_byte (flip_body l)
unfolding flip_body flip_reading
body_without l n =
    let y = drop (space_in l + 1) l in
    let m = without_drop newline_byte (space_in l + 1) l n in
    without_append newline_byte (take (space_in l) l) (space_byte ∷ flip_reading y) (without_take newline_byte (space_in l) l n) (refl, go (has_minus y) y m)
  where
    go : (t : Bool) (y : List ℕ) → Without newline_byte y → Without newline_byte (cond t (drop 1 y) (minus_byte ∷ y))
    go true y m = without_drop newline_byte 1 y m
    go false y m = (refl, m)

body_mirror : (l : List ℕ) → eqb (entry_refusal (body_of l)) 0 ≡ true → MirrorEntry (body_of l) (body_of (flip_body l))
unfolding body_of flip_body
body_mirror l e =
    let x = take (space_in l) l in
    let y = drop (space_in l + 1) l in
    let m = x ++ space_byte ∷ flip_reading y in
    let s : space_in m ≡ length x = index_there space_byte x (flip_reading y) refl (front_without space_byte l) in
    let a : take (space_in m) m ≡ x = take_at x (space_byte ∷ flip_reading y) (space_in m) (sym s) in
    let b : drop (space_in m + 1) m ≡ flip_reading y = drop_behind space_byte x (flip_reading y) (space_in m) s in
    rw (a, b) (pair_mirror (reading_of x) (reading_mirror y (y_formed (reading_of x) y e)))

-- ---- the lines of a text: each ends with its newline, and the last may lack one

data Lines : List (List ℕ) → Type 0 where
  end : Lines []
  last : (b : ℕ) (l : List ℕ) → Without newline_byte (b ∷ l) → Lines ((b ∷ l) ∷ [])
  line : (l : List ℕ) {ls : List (List ℕ)} → Without newline_byte l → Lines ls → Lines ((l ++ newline_byte ∷ []) ∷ ls)

lines_are : (t : List ℕ) → Lines (lines_in t)
unfolding lines_in in_front
lines_are [] = end
lines_are (b ∷ t) = go (eqb b newline_byte) refl (lines_are t)
  where
    go : (x : Bool) → eqb b newline_byte ≡ x → {ls : List (List ℕ)} → Lines ls → Lines (cond x ((b ∷ []) ∷ ls) (in_front b ls))
    go true e {ls} h = subst (λ c. Lines ((c ∷ []) ∷ ls)) (sym (eqb-true b newline_byte e)) (line [] tt h)
    go false e end = last b [] (e, tt)
    go false e (last c l n) = last b (c ∷ l) (e, n)
    go false e (line l n h) = line (b ∷ l) (e, n) h

-- and such lines, one after another, are the lines of that text
newline_there : (l t : List ℕ) → Without newline_byte l → lines_in (l ++ newline_byte ∷ t) ≡ (l ++ newline_byte ∷ []) ∷ lines_in t
unfolding lines_in in_front
newline_there [] t n = refl
newline_there (b ∷ l) t n = rw n.0 (ap (in_front b) (newline_there l t n.1))

newline_none : (b : ℕ) (l : List ℕ) → Without newline_byte (b ∷ l) → lines_in ((b ∷ l) ++ []) ≡ (b ∷ l) ∷ []
unfolding lines_in in_front
newline_none b [] n = rw n.0
newline_none b (c ∷ l) n = rw n.0 (ap (in_front b) (newline_none c l n.1))

lines_joined : {ls : List (List ℕ)} → Lines ls → lines_in (joined ls) ≡ ls
unfolding lines_in
lines_joined end = refl
lines_joined (last b l n) = newline_none b l n
lines_joined (line l {ls} n h) =
    ap lines_in (append_assoc l (newline_byte ∷ []) (joined ls)) ∙ newline_there l (joined ls) n ∙ ap (λ r. (l ++ newline_byte ∷ []) ∷ r) (lines_joined h)

-- ---- a line with its newline, and one without

line_is : (l : List ℕ) → Without newline_byte l → line_of (l ++ newline_byte ∷ []) ≡ body_of l
line_is l n =
    let t = l ++ newline_byte ∷ [] in
    let i : newline_in t ≡ length l = index_there newline_byte l [] refl n in
    let long : newline_in t < length t = let e = length-append l (newline_byte ∷ []) in omega arith in
    sym (line_with t (newline_in t) refl long) ∙ ap body_of (take_at l (newline_byte ∷ []) (newline_in t) (sym i))

-- it is flipped in front of its newline, unless it is refused
line_flips : (l : List ℕ) → Without newline_byte l
    → flip_line (l ++ newline_byte ∷ []) ≡ cond (eqb (entry_refusal (body_of l)) 0) (flip_body l) l ++ newline_byte ∷ []
unfolding flip_line
line_flips l n =
    let t = l ++ newline_byte ∷ [] in
    let i : newline_in t ≡ length l = index_there newline_byte l [] refl n in
    rw (line_is l n, take_at l (newline_byte ∷ []) (newline_in t) (sym i), drop_at l (newline_byte ∷ []) (newline_in t) (sym i)) (go (eqb (entry_refusal (body_of l)) 0))
  where
    go : (t : Bool) → cond t (flip_body l ++ newline_byte ∷ []) (l ++ newline_byte ∷ []) ≡ cond t (flip_body l) l ++ newline_byte ∷ []
    go true = refl
    go false = refl

-- the last line without a newline is malformed, and stays
last_is : (l : List ℕ) → Without newline_byte l → line_of l ≡ Err Malformed
last_is l n = sym (line_without l (newline_in l) refl (let i = index_end newline_byte l n in omega arith))

last_stays : (l : List ℕ) → Without newline_byte l → flip_line l ≡ l
unfolding flip_line entry_refusal
last_stays l n = rw (last_is l n)

module _ (l : List ℕ) (n : Without newline_byte l) where
  flipped_body : List ℕ
  flipped_body = cond (eqb (entry_refusal (body_of l)) 0) (flip_body l) l

  flipped_without : Without newline_byte flipped_body
  unfolding flipped_body
  flipped_without = go (eqb (entry_refusal (body_of l)) 0)
    where
      go : (t : Bool) → Without newline_byte (cond t (flip_body l) l)
      go true = body_without l n
      go false = n

  flipped_mirror : MirrorEntry (body_of l) (body_of flipped_body)
  unfolding flipped_body
  flipped_mirror = go (eqb (entry_refusal (body_of l)) 0) refl
    where
      go : (t : Bool) → eqb (entry_refusal (body_of l)) 0 ≡ t → MirrorEntry (body_of l) (body_of (cond t (flip_body l) l))
      go true e = body_mirror l e
      go false e = refused_mirror (body_of l) e

  flips : flip_line (l ++ newline_byte ∷ []) ≡ flipped_body ++ newline_byte ∷ []
  unfolding flipped_body
  flips = line_flips l n

  line_mirror : MirrorEntry (line_of (l ++ newline_byte ∷ [])) (line_of (flip_line (l ++ newline_byte ∷ [])))
  line_mirror = rw (flips, line_is l n, line_is flipped_body flipped_without) flipped_mirror

-- ---- a text

flip_lines : {ls : List (List ℕ)} → Lines ls → Lines (map flip_line ls)
flip_lines end = end
flip_lines (last b l n) = subst (λ m. Lines (m ∷ [])) (sym (last_stays (b ∷ l) n)) (last b l n)
flip_lines (line l {ls} n h) = subst (λ m. Lines (m ∷ map flip_line ls)) (sym (flips l n)) (line (flipped_body l n) (flipped_without l n) (flip_lines h))

lines_mirror : {ls : List (List ℕ)} → Lines ls → Pairs (λ l m. MirrorEntry (line_of l) (line_of m)) ls (map flip_line ls)
lines_mirror end = none
lines_mirror (last b l n) =
    and (subst (λ m. MirrorEntry (line_of (b ∷ l)) (line_of m)) (sym (last_stays (b ∷ l) n)) (refused_mirror (line_of (b ∷ l)) (ap (λ a. eqb (entry_refusal a) 0) (last_is (b ∷ l) n) ∙ (unfold entry_refusal in refl)))) none
lines_mirror (line l n h) = and (line_mirror l n) (lines_mirror h)

refusals_mirror : {ls ms : List (List ℕ)} → Pairs (λ l m. MirrorEntry (line_of l) (line_of m)) ls ms → first_refusal ls ≡ first_refusal ms
unfolding first_refusal
refusals_mirror none = refl
refusals_mirror (and h p) = ap₂ or_later h.refusal (refusals_mirror p)

pub text_mirror : (t : List ℕ) → MirrorText t (flip_text t)
unfolding flip_text lines_refusal read_lines
text_mirror t =
    let p = lines_mirror (lines_are t) in
    let e = lines_joined (flip_lines (lines_are t)) in
    record {
      refusal = rw e (refusals_mirror p);
      samples = rw e (pairs_map MirrorSample (λ l. sample_of (line_of l)) (λ l. sample_of (line_of l)) (λ l m h. h.sample) p);
    }

-- 1 2 and 3 -4 become 1 -2 and 3 4; 1 --2 is refused, and stays
pub text_example : flip_text (49 ∷ 32 ∷ 50 ∷ 10 ∷ 51 ∷ 32 ∷ 45 ∷ 52 ∷ 10 ∷ []) ≡ 49 ∷ 32 ∷ 45 ∷ 50 ∷ 10 ∷ 51 ∷ 32 ∷ 52 ∷ 10 ∷ []
unfolding flip_text flip_line flip_body flip_reading lines_in in_front line_of body_of pair_of reading_of unsigned_of formed too_many has_minus digits_only is_digit remaining spells entry_refusal index_of index_after fold
text_example = refl

pub refused_example : flip_text (49 ∷ 32 ∷ 45 ∷ 45 ∷ 50 ∷ 10 ∷ []) ≡ 49 ∷ 32 ∷ 45 ∷ 45 ∷ 50 ∷ 10 ∷ []
unfolding flip_text flip_line flip_body flip_reading lines_in in_front line_of body_of pair_of reading_of unsigned_of formed too_many has_minus digits_only is_digit remaining spells entry_refusal index_of index_after fold
refused_example = refl
