-- Laws of Listing.antt.
use Rattle.std.specs.Prelude.{◌≡◌, refl, ℕ, zero, suc, ◌+◌, ◌*◌, ◌≤◌, ◌<◌, Float, length, get_or, replicate}
use Rattle.std.proofs.Common.{ap, ◌∙◌, arith, length-append}
use mathlib.Core.List.{List, [], ◌∷◌, ◌++◌, flatten}
use Rattle.std.specs.Float.{nan}
use Rattle.std.specs.Float.Ieee.{of_bits, to_bits}
use Rattle.std.proofs.Math.ListN.{get_or-append}
use Rattle.basis.specs.Counts.{count_of}
use Rattle.basis.specs.CountLaws.{curve_count}
use Rattle.loops.specs.Digits.{digits}
use Rattle.loops.specs.Places.{table}
use Rattle.loops.specs.PlaceLaws.{table_same}
use Rattle.value.specs.Numbers.{zero_f, one_f}
use Rattle.listing.specs.WritingLaws.{flatten_again}
use Rattle.listing.specs.Text.{ascii, decimal, decimal_in, hexadecimal, bits_of, fields, line}
use Rattle.listing.specs.TextLaws.{length_decimal, length_small, length_bits, length_line}
use Rattle.listing.specs.Listing.{c_line, c_lines, c_count, listing, loss_line, loss_lines, total_line, loss_count, loss_listing, refused_line}

pub c_none : (cs es : List Float) → [] ≡ c_lines 0 cs es
unfolding c_lines flatten table
c_none cs es = refl

-- one c line more
pub c_again : (i : ℕ) (cs es : List Float) → c_lines i cs es ++ c_line i (get_or cs i nan) (get_or es i nan) ≡ c_lines (i + 1) cs es
unfolding c_lines
c_again i cs es = flatten_again (λ j. c_line j (get_or cs j nan) (get_or es j nan)) i

-- a c line for each coefficient up to the degree, where the lists have one
pub c_count_lem : (degree : ℕ) (cs es : List Float) → degree < length cs → degree < length es → c_count degree cs es ≡ degree + 1
c_count_lem degree cs es h g = omega (arith, curve_count degree)

-- a c line has at most 57 bytes, the listing of a degree up to 15 at most 1,021, and a refusal's at most 29
length_c : (i : ℕ) (c e : Float) → length (c_line i c e) ≤ 57
unfolding c_line line fields ascii
length_c i c e =
    let n = length_decimal i in
    let a = length_bits c in
    let b = length_bits e in
    simp length-append (omega arith)

length_cs : (k : ℕ) (cs es : List Float) → length (c_lines k cs es) ≤ 57 * k
length_cs zero cs es = rw (← c_none cs es) (omega arith)
length_cs (suc k) cs es =
    let e : k + 1 ≡ suc k = omega arith in
    let l = length-append (c_lines k cs es) (c_line k (get_or cs k nan) (get_or es k nan)) in
    rw (← e, ← c_again k cs es) (omega (arith, length_cs k cs es, length_c k (get_or cs k nan) (get_or es k nan)))

pub listing_short : (n degree : ℕ) (cs es : List Float) (outliers pruned : ℕ) → degree < 16 → length (listing n degree cs es outliers pruned) ≤ 1021
unfolding listing ascii
listing_short n degree cs es outliers pruned h =
    let lines = c_lines (c_count degree cs es) cs es in
    let o = line (ascii "outliers") (decimal outliers ∷ []) in
    let p = line (ascii "pruned") (decimal pruned ∷ []) in
    let d = line (ascii "degree") (decimal degree ∷ []) in
    omega (
      arith,
      length-append (line (ascii "n") (decimal n ∷ [])) (d ++ (lines ++ (o ++ p))),
      length-append d (lines ++ (o ++ p)),
      length-append lines (o ++ p),
      length-append o p,
      length_line (ascii "n") (decimal n),
      length_line (ascii "degree") (decimal degree),
      length_line (ascii "outliers") (decimal outliers),
      length_line (ascii "pruned") (decimal pruned),
      length_decimal n,
      length_decimal degree,
      length_decimal outliers,
      length_decimal pruned,
      length_cs (c_count degree cs es) cs es,
      curve_count degree,
    )

pub refused_short : (r : ℕ) → length (refused_line r) ≤ 29
unfolding refused_line ascii
refused_short r = omega (arith, length_line (ascii "refused") (decimal r), length_decimal r)

-- ---- the losses

pub loss_none : (ls : List Float) → [] ≡ loss_lines 0 ls
unfolding loss_lines flatten table
loss_none ls = refl

-- one loss line more
pub loss_again : (i : ℕ) (ls : List Float) → loss_lines i ls ++ loss_line i (get_or ls i nan) ≡ loss_lines (i + 1) ls
unfolding loss_lines
loss_again i ls = flatten_again (λ j. loss_line j (get_or ls j nan)) i

-- a line for each of n losses
pub loss_count_lem : (n : ℕ) (ls : List Float) → length ls ≡ n → loss_count n ls ≡ n
loss_count_lem n ls h = omega arith

-- losses that stand in front of longer memory print the same
pub losses_front : (n : ℕ) (ls rest : List Float) (total : Float) → length ls ≡ n → loss_listing n (ls ++ rest) total ≡ loss_listing n ls total
unfolding loss_listing loss_lines
losses_front n ls rest total h =
    let a : loss_count n (ls ++ rest) ≡ n = omega (arith, length-append ls rest, h) in
    let b : loss_count n ls ≡ n = loss_count_lem n ls h in
    let f : (k : ℕ) → k < n → loss_line k (get_or (ls ++ rest) k nan) ≡ loss_line k (get_or ls k nan) = λ k q. ap (loss_line k) (get_or-append ls rest nan k (omega (arith, q, h))) in
    rw (a, b) (ap (λ l. flatten l ++ total_line total) (table_same _ _ n f))

-- a loss line of an index below 10,000 has at most 27 bytes, the line of the total 23
pub length_loss : (i : ℕ) (v : Float) → i < 10000 → length (loss_line i v) ≤ 27
unfolding loss_line line fields ascii
length_loss i v h =
    let n = length_small i h in
    let b = length_bits v in
    simp length-append (omega arith)

pub length_losses : (n : ℕ) (ls : List Float) → n ≤ 10000 → length (loss_lines n ls) ≤ 27 * n
length_losses zero ls h = rw (← loss_none ls) (omega arith)
length_losses (suc n) ls h =
    let e : n + 1 ≡ suc n = omega arith in
    let l = length-append (loss_lines n ls) (loss_line n (get_or ls n nan)) in
    rw (← e, ← loss_again n ls) (omega (arith, length_losses n ls (omega arith), length_loss n (get_or ls n nan) (omega arith)))

pub length_total : (v : Float) → length (total_line v) ≡ 23
unfolding total_line ascii
length_total v = length_line (ascii "total") (bits_of v) ∙ ap (λ z. 5 + (z + 2)) (length_bits v)

-- the losses of 4,095 samples at most
pub losses_short : (n : ℕ) (ls : List Float) (total : Float) → n ≤ 4095 → length (loss_listing n ls total) ≤ 4095 * 27 + 23
unfolding loss_listing
losses_short n ls total h =
    let k = loss_count n ls in
    omega (arith, length-append (loss_lines k ls) (total_line total), length_losses k ls (omega arith), length_total total)

-- 01's example, x = y = 0, 1, 2, 3, 4: the report writes 16 coefficients and 16 errors; every loss is +0
pub example : listing 5 1 (zero_f ∷ one_f ∷ replicate 14 zero_f) (replicate 16 zero_f) 0 0 ++ loss_listing 5 (replicate 5 zero_f) zero_f
    ≡ ascii "n 5\ndegree 1\nc 0 0000000000000000 0000000000000000\nc 1 3FF0000000000000 0000000000000000\noutliers 0\npruned 0\nloss 0 0000000000000000\nloss 1 0000000000000000\nloss 2 0000000000000000\nloss 3 0000000000000000\nloss 4 0000000000000000\ntotal 0000000000000000\n"
unfolding count_of listing c_lines c_line loss_listing loss_lines loss_line total_line flatten table line fields ascii decimal decimal_in bits_of hexadecimal digits to_bits of_bits
example = refl

pub nan_prints : bits_of nan ≡ ascii "7FF8000000000000"
unfolding ascii bits_of hexadecimal digits to_bits
nan_prints = refl

pub refused_seven : refused_line 7 ≡ ascii "refused 7\n"
unfolding refused_line line fields ascii decimal decimal_in
refused_seven = refl
