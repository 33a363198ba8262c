-- The values in the fields of a line, by any reader of one field. Assumes nothing.
use Rattle.std.specs.Prelude.{◌≡◌, ◌≢◌, ℕ, zero, suc, ◌+◌, ◌<◌, ◌⊎◌, List, [], ◌∷◌, drop, length, map, slice_index_or, Some, None, Ok, Err, Option, Result}
use Rattle.lines.specs.declared.fault.LineFault.{LineFault}
use Rattle.lines.specs.declared.fault.LineFault.TheVariants.{Unreadable}
use Rattle.lines.specs.Faults.{place_of}

-- the answer is the value in the first of the fields fs, and gs are the others; or that field, at place p, is missing or bad
abbrev pub Taken : {X : Type 0} → (List ℕ → Option X) → ℕ → List (List ℕ) → Result X LineFault → List (List ℕ) → Type 0
Taken read p fs (Ok x) gs = (f : List ℕ) × (fs ≡ f ∷ gs) × (read f ≡ Some x)
Taken read p fs (Err e) gs =
    (e ≡ Unreadable p) × (((fs ≡ []) × (gs ≡ [])) ⊎ ((f : List ℕ) × (fs ≡ f ∷ gs) × (read f ≡ None)))

-- there is no field; or there is one, at place p, and gs are those after it
abbrev pub Ended : ℕ → List (List ℕ) → Result (Unit {0}) LineFault → List (List ℕ) → Type 0
Ended p fs (Ok _) gs = (fs ≡ []) × (gs ≡ [])
Ended p fs (Err e) gs = (e ≡ Unreadable p) × ((f : List ℕ) × (fs ≡ f ∷ gs))

-- the value in the field at place p, and then those in the fields after it
abbrev pub with_first : {X : Type 0} → ℕ → Option X → Result (List X) ℕ → Result (List X) ℕ
with_first p None r = Err p
with_first p (Some x) (Ok xs) = Ok (x ∷ xs)
with_first p (Some x) (Err q) = Err q

-- just k values in the fields from place p on, or the place of the first field that is missing, bad or extra
abbrev pub readings : {X : Type 0} → (List ℕ → Option X) → ℕ → ℕ → List (List ℕ) → Result (List X) ℕ
readings read p zero [] = Ok []
readings read p zero (f ∷ fs) = Err p
readings read p (suc k) [] = Err p
readings read p (suc k) (f ∷ fs) = with_first p (read f) (readings read (suc p) k fs)

-- an answer of the code as a reading: the values in its array, or the place that it refuses
abbrev pub listed : {X : Type 0} → Result (List X) LineFault → Result (List X) ℕ
listed (Ok xs) = Ok xs
listed (Err e) = Err (place_of e)

-- the fields, from place 1 on, are just the n values of the answer, or the one that it refuses is the first at fault
abbrev pub HoldsJust : {X : Type 0} → (List ℕ → Option X) → ℕ → List (List ℕ) → Result (List X) LineFault → Type 0
HoldsJust read n fs r = readings read 1 n fs ≡ listed r

-- gs are what is left of the fields fs, from place 1 on: none after an answer, and after a refusal those after the field at fault
abbrev pub TakenUpto : {X : Type 0} → List (List ℕ) → Result (List X) LineFault → List (List ℕ) → Type 0
TakenUpto fs (Ok xs) gs = gs ≡ []
TakenUpto fs (Err e) gs = gs ≡ drop (place_of e) fs

-- the field at this place, from 0, is there and has a value
abbrev pub HasValue : {X : Type 0} → (List ℕ → Option X) → List (List ℕ) → ℕ → Type 0
HasValue read fs k = (k < length fs) × (read (slice_index_or fs k []) ≢ None)

-- Of n fields, k from 0 is the first at fault: those before it have values, and it has none or is not there, or it is one more than n.
pub record FirstAtFault {X : Type 0} (read : List ℕ → Option X) (n : ℕ) (fs : List (List ℕ)) (k : ℕ) : Type 0 where
  pub before : (j : ℕ) → j < k → HasValue read fs j
  pub fault : ((k < n) × (¬ HasValue read fs k)) ⊎ ((k ≡ n) × (k < length fs))

-- The law of readings: values are those of the fields, one each, of which there are n; and a refusal names the first field at fault, from 1.
abbrev pub Told : {X : Type 0} → (List ℕ → Option X) → ℕ → List (List ℕ) → Result (List X) LineFault → Type 0
Told read n fs (Ok xs) = (map read fs ≡ map Some xs) × (length fs ≡ n)
Told read n fs (Err e) = (k : ℕ) × (place_of e ≡ k + 1) × FirstAtFault read n fs k
