-- The numbers are those from 1 to 16, each of one refusal.
use mathlib.Core.Path.{◌≡◌, refl, sym, ap, ◌∙◌}
use mathlib.Core.List.{[], ◌∷◌}
use Prim.Native.Nat.{ℕ, ◌≤◌}
use lib.ListN.{get_or}
use native.Mathlib.Omega.{arith}
use Rattle.refusal.specs.declared.Refusal.{Refusal}
use Rattle.refusal.specs.declared.Refusal.TheVariants.{NotInDomain, DoesNotFit, WouldAssert, WouldPanic, EndsEarly, NotShortest, UnknownOperator, NotEarlier, LowAboveHigh, TooManySteps, LeftOver, DivisorZero, ResultTooWide, NotLogical, InputsWrong, NoRoom}
use Rattle.refusal.specs.Number.{number_of}
use Rattle.refusal.specs.declared.Fault.{Fault}
use Rattle.refusal.specs.declared.Fault.TheVariants.{AtStep, AtByte, By}
use Rattle.refusal.specs.Answer.{Told, done, at_step, at_byte, refused_by}
use Rattle.refusal.specs.Count.{fault_told, count_told}
use Rattle.std.specs.Prelude.{Result, Ok, Err, IsErrAnd}
use Rattle.std.proofs.lemmas.Result.{err_from_is_err_and}

-- the refusal of a number
unfoldable pub with_number : ℕ → Refusal
with_number n =
    get_or
    (NoRoom ∷ NotInDomain ∷ DoesNotFit ∷ WouldAssert ∷ WouldPanic ∷ EndsEarly ∷ NotShortest ∷ UnknownOperator ∷ NotEarlier ∷ LowAboveHigh ∷ TooManySteps ∷ LeftOver ∷ DivisorZero ∷ ResultTooWide ∷ NotLogical ∷ InputsWrong ∷ NoRoom ∷ [])
    n
    NoRoom

-- a number tells its refusal
pub number-back : (r : Refusal) → with_number (number_of r) ≡ r
unfolding with_number
number-back NotInDomain = refl
number-back DoesNotFit = refl
number-back WouldAssert = refl
number-back WouldPanic = refl
number-back EndsEarly = refl
number-back NotShortest = refl
number-back UnknownOperator = refl
number-back NotEarlier = refl
number-back LowAboveHigh = refl
number-back TooManySteps = refl
number-back LeftOver = refl
number-back DivisorZero = refl
number-back ResultTooWide = refl
number-back NotLogical = refl
number-back InputsWrong = refl
number-back NoRoom = refl

-- two refusals with one number are one
pub number-tells : (r s : Refusal) → number_of r ≡ number_of s → r ≡ s
number-tells r s e = sym (number-back r) ∙ ap with_number e ∙ number-back s

pub number-range : (r : Refusal) → (1 ≤ number_of r) × (number_of r ≤ 16)
number-range NotInDomain = omega arith
number-range DoesNotFit = omega arith
number-range WouldAssert = omega arith
number-range WouldPanic = omega arith
number-range EndsEarly = omega arith
number-range NotShortest = omega arith
number-range UnknownOperator = omega arith
number-range NotEarlier = omega arith
number-range LowAboveHigh = omega arith
number-range TooManySteps = omega arith
number-range LeftOver = omega arith
number-range DivisorZero = omega arith
number-range ResultTooWide = omega arith
number-range NotLogical = omega arith
number-range InputsWrong = omega arith
number-range NoRoom = omega arith

-- ---- what a count or a fault tells is one answer's

abbrev count_back : Told → Result ℕ Fault
count_back (done n) = Ok n
count_back (at_step r k) = Err (AtStep (with_number r) k)
count_back (at_byte r p) = Err (AtByte (with_number r) p)
count_back (refused_by r) = Err (By (with_number r))

count-back : (r : Result ℕ Fault) → count_back (count_told r) ≡ r
count-back (Ok n) = refl
count-back (Err (AtStep r k)) = ap (λ q. Err (AtStep q k)) (number-back r)
count-back (Err (AtByte r p)) = ap (λ q. Err (AtByte q p)) (number-back r)
count-back (Err (By r)) = ap (λ q. Err (By q)) (number-back r)

pub count-tells : (r r' : Result ℕ Fault) → count_told r ≡ count_told r' → r ≡ r'
count-tells r r' h = sym (count-back r) ∙ ap count_back h ∙ count-back r'

-- what a `?` hands on is told as the fault that it is
pub count-fault : (r : Result ℕ Fault) (f : Fault) → IsErrAnd r (λ y. y ≡ f) → count_told r ≡ fault_told f
count-fault r f h =
    let p = err_from_is_err_and r h in
    rw (p.1, p.2) refl

-- no fault is told as done
pub fault-not-done : (f : Fault) (n : ℕ) → fault_told f ≡ done n → ⊥
fault-not-done (AtStep r k) n h = let z : ◌≡◌ {A = ℕ} 0 1 = cc in omega arith
fault-not-done (AtByte r p) n h = let z : ◌≡◌ {A = ℕ} 0 1 = cc in omega arith
fault-not-done (By r) n h = let z : ◌≡◌ {A = ℕ} 0 1 = cc in omega arith
