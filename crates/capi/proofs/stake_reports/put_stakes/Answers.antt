-- `capi::stake_reports::put_stakes` meets its contract: each stake's answer is packed, and the packed answers are copied to the first places.
use Rattle.std.proofs.Common.{◌≡◌, sym, ap, subst, ◌∙◌, ◌++◌, ◌∷◌, [], List, ◌<◌, ℕ, length, drop, get_or, arith, length-append}
use Rattle.std.specs.Prelude.{⊤}
use Rattle.std.specs.Array.{list_steps}
use Rattle.std.specs.Iterator.{Yields, CallableAtEachTurn}
use Rattle.std.proofs.Math.Seq.{get_or-append_seam, length-take-le}
use Rattle.std.proofs.lemmas.List.{ext_get_or, length-map}
use Rattle.loops.specs.PlaceLaws.{map_at}
use Rattle.lent.specs.WrittenLaws.{over_by}
use Rattle.stakes.specs.Parts.{stakes}
use Rattle.refusal.specs.Named.{refused_by}
use Rattle.reporting.specs.Reports.{ReportAnswer}
use Rattle.capi.specs.Packed.{packed_report}
use Rattle.capi.specs.SeasonPacked.{packed_stakes}
use Rattle.capi.proofs.stake_reports.put_stakes.Goals as goal

-- the items of a list come in its order
list_run : {A : Type 0} (l xs t : List A) → Yields list_steps l xs t → l ≡ xs ++ t
list_run l [] t y = y
list_run l (x ∷ xs) t y = y.1 ∙ ap (λ z. x ∷ z) (list_run y.0 xs t y.2)

-- what holds of each place's item holds of each in its turn
in_turn : {A P : Type 0} {R : P → A → P → Type 0} {Q : P → A → Type 0} (l : List A) (p : P) → ((q : P) (k : ℕ) → k < length l → (d : A) → Q q (get_or l k d))
    → CallableAtEachTurn list_steps R Q l p
in_turn {Q = Q} l p f =
    record {
      at = λ xs t q x u y c z.
          let e : l ≡ xs ++ (x ∷ u) = list_run l xs t y ∙ ap (λ r. xs ++ r) z in
          let k : length xs < length l = rw (e, length-append) (omega arith) in
          subst (Q q) (ap (λ r. get_or r (length xs) x) e ∙ get_or-append_seam xs x u x) (f q (length xs) k x);
    }

pub map-packed-requires : goal.map-packed-requires
map-packed-requires c = (omega arith, (omega arith, (omega arith, in_turn c.args.told.reports tt (λ (q : ⊤) k h d. c.requires.stakes_fit.fits k (omega (arith, h, c.requires.stakes_fit.long)) d))))

pub copy_from_slice-requires : goal.copy_from_slice-requires
copy_from_slice-requires c = length-take-le 32 c.args.answers.now c.requires.stakes_in_bounds ∙ sym c.map-packed.ensures.items.long

pub returns : goal.returns
returns c =
    let told = c.args.told.reports in
    let bytes = c.map-packed.result in
    let items = c.map-packed.ensures.items in
    let d : ReportAnswer = refused_by 1 in
    let long = c.requires.stakes_fit.long in
    let same : (i : ℕ) → i < length bytes → get_or bytes i 0 ≡ get_or (packed_stakes told) i 0 =
    λ i h. (items.at i d 0 (omega (arith, h, items.long))).2.met ∙ sym (map_at packed_report told i d 0 (omega (arith, h, items.long, long))) in
    over_by stakes (packed_stakes told) c.args.answers.now _ (length-map told packed_report ∙ long)
    (ap (λ l. l ++ drop 32 c.args.answers.now) (c.copy_from_slice.ensures.after ∙ ext_get_or 0 bytes (packed_stakes told) (items.long ∙ sym (length-map told packed_report ∙ long)) same))
