-- A refusal and its number in documents 01 and 02, and what a call answers by the number that its tests give. Definitions only.
use Rattle.std.specs.Prelude.{Bool, List, [], ◌∷◌, map, ℕ, zero, suc, ◌-◌, get_or, Result, Ok, Err, ⊤}
use Rattle.refusal.specs.Refusals.{Test, by}
use Rattle.refusal.specs.Tests.{Needed, needed}
use Rattle.refusal.specs.declared.refusals.Refusal.{Refusal}
use Rattle.refusal.specs.declared.refusals.Refusal.TheVariants.{Short, FrameLength, FrameVersion, NotFinite, Full, NoSample, TooFew, DegreeTooHigh, Outside, Unsolved, NoneChosen, NoInverse, Malformed, TooManyDigits, Weightless, OverLimit, NoGroup, NoStake}

abbrev pub number : Refusal → ℕ
number Short = 1
number FrameLength = 2
number FrameVersion = 3
number NotFinite = 4
number Full = 5
number NoSample = 6
number TooFew = 7
number DegreeTooHigh = 8
number Outside = 9
number Unsolved = 10
number NoneChosen = 11
number NoInverse = 12
number Malformed = 13
number TooManyDigits = 14
number Weightless = 15
number OverLimit = 16
number NoGroup = 17
number NoStake = 18

-- the refusal that has a number from 1 to 18
abbrev pub named : ℕ → Refusal
named k =
    get_or
    (Short ∷ FrameLength ∷ FrameVersion ∷ NotFinite ∷ Full ∷ NoSample ∷ TooFew ∷ DegreeTooHigh ∷ Outside ∷ Unsolved ∷ NoneChosen ∷ NoInverse ∷ Malformed ∷ TooManyDigits
    ∷ Weightless ∷ OverLimit ∷ NoGroup ∷ NoStake ∷ [])
    (k - 1) Short

-- the answer that is the refusal with a number
abbrev pub refused_by : {A : Type 0} → ℕ → Result A Refusal
refused_by k = Err (named k)

-- the number of an answer: 0 where it is no refusal
abbrev pub number_of : {A : Type 0} → Result A Refusal → ℕ
number_of (Ok a) = 0
number_of (Err r) = number r

-- a call's tests, each with its refusal
abbrev pub tests_of : List (Bool × Refusal) → List Test
tests_of ts = map (λ (t : Bool × Refusal). by t.0 (number t.1)) ts

-- what a call's tests come to, by their number
abbrev pub judged : ℕ → Result ⊤ Refusal
judged zero = Ok tt
judged (suc k) = refused_by (suc k)

-- the memories that a call needs, each as how many places it needs and how many are lent
abbrev pub memories_of : List (ℕ × ℕ) → List Needed
memories_of ms = map (λ (m : ℕ × ℕ). needed m.0 m.1) ms
