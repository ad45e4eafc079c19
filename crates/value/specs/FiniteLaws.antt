-- Laws of Finite.antt.
use Rattle.std.specs.Prelude.{◌≡◌, refl, Bool, true, false, ◌&&◌, List, [], ◌∷◌, map, Float}
use Rattle.std.proofs.Common.{sym, ap, ◌∙◌}
use Rattle.std.specs.Float.{nan, inf, fin}
use Rattle.std.specs.Float.Ieee.{lt}
use Rattle.loops.specs.Fold.{fold, all_of}
use Rattle.value.specs.Absolute.{abs_f}
use Rattle.value.specs.Finite.{finite}

-- the two tests of a program
pub low_fails : (x : Float) → lt (inf true) x ≡ false → false ≡ finite x
unfolding finite lt
low_fails nan h = refl
low_fails (inf s) h = refl
low_fails (fin s m e) h = sym h

pub high_tells : (x : Float) → lt (inf true) x ≡ true → lt x (inf false) ≡ finite x
unfolding finite lt
high_tells nan h = refl
high_tells (inf true) h = sym h
high_tells (inf false) h = refl
high_tells (fin s m e) h = refl

-- a size is finite where the number is
pub finite_abs : (x : Float) → finite (abs_f x) ≡ finite x
unfolding abs_f finite
finite_abs nan = refl
finite_abs (inf s) = refl
finite_abs (fin s m e) = refl

-- sizes are where the numbers are
pub finite_sizes : (l : List Float) → all_of finite (map abs_f l) ≡ all_of finite l
unfolding fold
finite_sizes l = each true l
  where
    each : (b : Bool) (l : List Float) → fold (λ c x. c && finite x) b (map abs_f l) ≡ fold (λ c x. c && finite x) b l
    each b [] = refl
    each b (x ∷ xs) = ap (λ (t : Bool). fold (λ c y. c && finite y) (b && t) (map abs_f xs)) (finite_abs x) ∙ each (b && finite x) xs
