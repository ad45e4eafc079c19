-- The listing that `stakebook` prints, in the words of document 01, and the losses of document 02 behind it. Definitions only.
use mathlib.Core.List.{List, [], ◌∷◌, ◌++◌, flatten}
use Rattle.std.specs.Prelude.{ℕ, min, Float, length, get_or}
use Rattle.std.specs.Float.{nan}
use Rattle.basis.specs.Counts.{count_of}
use Rattle.basis.specs.declared.Basis.TheVariants.{Curve}
use Rattle.loops.specs.Places.{table}
use Rattle.listing.specs.Text.{ascii, decimal, bits_of, line}

-- fields of a c line: index, coefficient bits, error bits
unfoldable pub c_line : ℕ → Float → Float → List ℕ
c_line i c e = line (ascii "c") (decimal i ∷ bits_of c ∷ bits_of e ∷ [])

-- k c lines, one after another
unfoldable pub c_lines : ℕ → List Float → List Float → List ℕ
c_lines k cs es = flatten (table (λ i. c_line i (get_or cs i nan) (get_or es i nan)) k)

-- how many: 0 to the chosen degree, where there are as many coefficients and errors
abbrev pub c_count : ℕ → List Float → List Float → ℕ
c_count degree cs es = min (count_of Curve degree) (min (length cs) (length es))

-- samples, chosen degree, c lines, outliers, pruned terms
unfoldable pub listing : ℕ → ℕ → List Float → List Float → ℕ → ℕ → List ℕ
listing n degree cs es outliers pruned =
    line (ascii "n") (decimal n ∷ [])
    ++ (line (ascii "degree") (decimal degree ∷ [])
    ++ (c_lines (c_count degree cs es) cs es
    ++ (line (ascii "outliers") (decimal outliers ∷ [])
    ++ line (ascii "pruned") (decimal pruned ∷ []))))

-- fields of a loss line: the sample's index and the bits of its loss
unfoldable pub loss_line : ℕ → Float → List ℕ
loss_line i v = line (ascii "loss") (decimal i ∷ bits_of v ∷ [])

-- n loss lines, one after another
unfoldable pub loss_lines : ℕ → List Float → List ℕ
loss_lines n ls = flatten (table (λ i. loss_line i (get_or ls i nan)) n)

-- the line of their total
unfoldable pub total_line : Float → List ℕ
total_line v = line (ascii "total") (bits_of v ∷ [])

-- how many: one for each of n samples, where there are as many losses
abbrev pub loss_count : ℕ → List Float → ℕ
loss_count n ls = min n (length ls)

-- document 02's lines behind the listing: a loss for each of n samples, in order, then the total
unfoldable pub loss_listing : ℕ → List Float → Float → List ℕ
loss_listing n ls total = loss_lines (loss_count n ls) ls ++ total_line total

-- a refusal prints `refused` and its number
unfoldable pub refused_line : ℕ → List ℕ
refused_line r = line (ascii "refused") (decimal r ∷ [])
