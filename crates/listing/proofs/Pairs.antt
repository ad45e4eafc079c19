-- The pairs of a loop over two lists at once: at most n, each with its index.
use mathlib.Core.Path.{◌≡◌, ap₂, ◌∙◌}
use mathlib.Core.List.{List}
use Prim.Native.Nat.{ℕ, ◌<◌, min}
use native.Mathlib.Omega.{arith}
use lib.Ieee.{Float, nan}
use lib.ListN.{length, take, get_or}
use Rattle.std.proofs.Common.{zero-add}
use Rattle.std.proofs.lemmas.List.{length-take, get_or-take, get_or_default}
use Rattle.std.proofs.lemmas.List.FromFn.{length-enumerate_from, get_or-enumerate_from}
use Rattle.std.proofs.lemmas.Slice.Zip.{length-zip, get_or-zip}
use Rattle.std.specs.List.{enumerate_from, zip}

module _ (n : ℕ) (cs es : List Float) where
  abbrev pub pairs : List (ℕ × (Float × Float))
  pairs = enumerate_from 0 (take n (zip cs es))

  pub length_pairs : length pairs ≡ min n (min (length cs) (length es))
  length_pairs = omega (arith, length-enumerate_from 0 (take n (zip cs es)), length-take n (zip cs es), length-zip cs es)

  pub pair_at : (i : ℕ) (p : ℕ × (Float × Float)) → i < length pairs → p ≡ get_or pairs i p → p ≡ (i, (get_or cs i nan, get_or es i nan))
  pair_at i p h e =
      let l = length_pairs in
      let k : i < length (zip cs es) = omega (arith, length-zip cs es) in
      e ∙ get_or-enumerate_from 0 (take n (zip cs es)) i p (omega (arith, length-enumerate_from 0 (take n (zip cs es))))
      ∙ ap₂ (λ j v. (j, v)) (zero-add i)
      (get_or-take n (zip cs es) i p.1 (omega arith) ∙ get_or_default (zip cs es) i p.1 (nan, nan) k ∙ get_or-zip cs es i (nan, nan) (omega arith) (omega arith))
