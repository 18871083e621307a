-- What a `?` hands on: the same refusal, at the same byte, or as a fault.
use Prim.Native.Nat.{ℕ}
use mathlib.Core.Path.{◌≡◌, refl}
use Rattle.std.specs.Prelude.{Result, IsErrAnd}
use Rattle.std.proofs.lemmas.Result.{err_from_is_err_and}
use Rattle.refusal.specs.Number.{number_of}
use Rattle.refusal.specs.declared.Refusal.{Refusal}
use Rattle.sheet.specs.Got.{refused, wrong, fault}
use Rattle.sheet.specs.Found.{found, check_found, fault_found}
use Rattle.sheet.specs.declared.number.BadByte.{BadByte}

pub found-refused : {A : Type 0} (r : Result (A × ℕ) BadByte) (bad : BadByte) → IsErrAnd r (λ y. y ≡ bad) → found r ≡ refused (number_of bad.0) bad.1
found-refused r bad h =
    let p = err_from_is_err_and r h in
    rw (p.1, p.2) refl

pub check-refused : (r : Result (Unit {0}) BadByte) (bad : BadByte) → IsErrAnd r (λ y. y ≡ bad) → check_found r ≡ wrong (number_of bad.0) bad.1
check-refused r bad h =
    let p = err_from_is_err_and r h in
    rw (p.1, p.2) refl

pub fault-refused : (r : Result (Unit {0}) Refusal) (why : Refusal) → IsErrAnd r (λ y. y ≡ why) → fault_found r ≡ fault (number_of why)
fault-refused r why h =
    let p = err_from_is_err_and r h in
    rw (p.1, p.2) refl
