-- Sheets: bytes and steps are each other's, refused bytes are no sheet, what was read is valid, and answers are determined.
use Prim.Native.Nat.{ℕ, ◌*◌, ◌/◌, ◌%◌, ◌^◌, ◌≤◌, ◌<◌}
use mathlib.Core.Path.{◌≡◌, refl, sym, ap, ◌∙◌}
use mathlib.Core.List.{List, [], ◌∷◌}
use native.Mathlib.Omega.{arith}
use lib.IntN.{ℤ, pos}
use lib.ListN.{length, take}
use lib.Seq.{sets}
use mir.Syntax.{w64}
use mir.Val.{SFits}
use Rattle.refusal.specs.Answer.{done, at_byte}
use Rattle.refusal.specs.Count.{count_told}
use Rattle.refusal.specs.declared.Fault.{Fault}
use Rattle.refusal.proofs.Claims.{with_number, number-back, count-tells}
use Rattle.std.specs.Prelude.{Result, Ok, Err}
use Rattle.whole.specs.Test.{◌<?◌}
use Rattle.sheet.specs.Got.{Got, got, refused}
use Rattle.sheet.specs.Number.{read_number, groups_from}
use Rattle.sheet.specs.Signed.{fold_signed, unfold_number}
use Rattle.sheet.specs.Operator.{fields_of}
use Rattle.sheet.specs.Field.{field_at}
use Rattle.sheet.specs.Step.{Step, step, fields_at, step_at}
use Rattle.sheet.specs.Sheet.{steps_from, parse, bytes_of, flat, steps_of}
use Rattle.sheet.specs.Valid.{ValidSheet}
use Rattle.sheet.specs.Lent.{Bytes, Words}
use Rattle.sheet.specs.Found.{number_found}
use Rattle.sheet.specs.Answer.{answer, content, reading, writing}
use Rattle.sheet.specs.declared.number.BadByte.{BadByte}
use Rattle.sheet.proofs.Signs.{unfold-fold, fold-unfold}
use Rattle.sheet.proofs.Fielded.{fold-below, unfold-fits}
use Rattle.sheet.proofs.Parts.{length-flat}
use Rattle.sheet.proofs.Plans.{steps-count}
use Rattle.sheet.proofs.Sheeted.{RightFrom, right-steps, steps-right, sheet-read, sheet-written}
use Rattle.sheet.proofs.Answered.{steps-flat, flat-steps, words-fitted, stored-first, Reads, reads, reads-back, refuses, Writes, writes, writes-back}
use Rattle.sheet.proofs.Sound.{valid-from, sheet-most}

-- the bytes that writing stored
abbrev pub written : List ℤ → List ℕ → ℕ → List ℕ
written l out n = take n (content (writing l) out)

-- the numbers that reading stored
abbrev pub taken : List ℕ → List ℤ → ℕ → List ℤ
taken s room n = take (n * 4) (content (reading s) room)

written_is : (l : List ℤ) (out : List ℕ) (n : ℕ) → Writes l out n → written l out n ≡ bytes_of (steps_of l)
written_is l out n w = rw (w.stored, w.count) (stored-first out (bytes_of (steps_of l)) w.fits)

taken_is : (s : List ℕ) (room : List ℤ) (n : ℕ) (r : Reads s room n) → taken s room n ≡ flat r.steps
taken_is s room n r =
    let e : n * 4 ≡ length (flat r.steps) = omega (arith, r.count, length-flat r.steps) in
    rw (r.stored, e) (stored-first room (flat r.steps) r.fits)

right : (l : List ℤ) → Words l → (out : List ℕ) (n : ℕ) → Writes l out n → RightFrom 0 (steps_of l)
right l h out n w = steps-right 0 (steps_of l) (words-fitted l h) w.right

parsed : (l : List ℤ) → Words l → (out : List ℕ) (n : ℕ) → answer (writing l) out ≡ done n → parse (written l out n) ≡ got (steps_of l) (length (bytes_of (steps_of l)))
parsed l h out n a =
    let w = writes l out n a in
    rw (written_is l out n w) (sheet-written (steps_of l) w.few (right l h out n w))

-- Reading what was written gives the steps back, with any room that suffices.
pub read-of-write : (l : List ℤ) → Words l → (out : List ℕ) (n : ℕ) → answer (writing l) out ≡ done n → (room : List ℤ) → length l ≤ length room
    → (answer (reading (written l out n)) room ≡ done (length l / 4)) × (content (reading (written l out n)) room ≡ sets room 0 l)
read-of-write l h out n a room fits =
    let e = flat-steps l (writes l out n a).even in
    let r = reads-back (written l out n) room (steps_of l) (length (bytes_of (steps_of l))) (parsed l h out n a) (rw e fits) in
    (r.0 ∙ ap done (steps-count l), r.1 ∙ ap (sets room 0) e)

-- Writing what was read gives the bytes back.
pub write-of-read : (s : List ℕ) → Bytes s → (room : List ℤ) (n : ℕ) → answer (reading s) room ≡ done n → (out : List ℕ) → length s ≤ length out
    → (answer (writing (taken s room n)) out ≡ done (length s)) × (content (writing (taken s room n)) out ≡ sets out 0 s)
write-of-read s h room n a out fits =
    let r = reads s room n a in
    let q = sheet-read s h r.steps r.end r.parsed in
    let e = steps-flat r.steps in
    let even : length (flat r.steps) % 4 ≡ 0 = omega (arith, length-flat r.steps) in
    let w = writes-back (flat r.steps) out even (rw e q.few) (rw e (right-steps 0 r.steps q.right)) (rw (e, q.bytes) fits) in
    rw (taken_is s room n r) (rw (e, q.bytes) at w)

-- Refused bytes are the writing of no steps.
pub refused-is-unwritten : (s : List ℕ) (room : List ℤ) (r p : ℕ) → answer (reading s) room ≡ at_byte r p
    → (l : List ℤ) → Words l → (out : List ℕ) (n : ℕ) → answer (writing l) out ≡ done n → written l out n ≡ s → ⊥
refused-is-unwritten s room r p a l h out n b e =
    let x = refuses s room r p a in
    let y : parse s ≡ got (steps_of l) (length (bytes_of (steps_of l))) = rw e at (parsed l h out n b) in
    let z : ◌≡◌ {A = ℕ} 0 1 = cc in
    omega arith

-- Two lists of steps with the same bytes are the same.
pub same-bytes-same-steps : (l l' : List ℤ) → Words l → Words l' → (out out' : List ℕ) (n n' : ℕ) → answer (writing l) out ≡ done n → answer (writing l') out' ≡ done n'
    → written l out n ≡ written l' out' n' → l ≡ l'
same-bytes-same-steps l l' h h' out out' n n' a a' e =
    let x = parsed l h out n a in
    let x' = parsed l' h' out' n' a' in
    let g = sym x ∙ ap parse e ∙ x' in
    let s : steps_of l ≡ steps_of l' = cc in
    sym (flat-steps l (writes l out n a).even) ∙ ap flat s ∙ flat-steps l' (writes l' out' n' a').even

-- A sheet takes at most 5,378 bytes.
pub sheet-size : (l : List ℤ) → Words l → (out : List ℕ) (n : ℕ) → answer (writing l) out ≡ done n → n ≤ 5378
sheet-size l h out n a =
    let w = writes l out n a in
    rw w.count (sheet-most (steps_of l) w.few (right l h out n w))

pub read-size : (s : List ℕ) → Bytes s → (room : List ℤ) (n : ℕ) → answer (reading s) room ≡ done n → length s ≤ 5378
read-size s h room n a =
    let r = reads s room n a in
    let q = sheet-read s h r.steps r.end r.parsed in
    rw q.bytes at (sheet-most r.steps q.few q.right)

-- A sheet that was read is valid.
pub read-valid : (s : List ℕ) → Bytes s → (xs : List Step) (end : ℕ) → parse s ≡ got xs end → ValidSheet xs
read-valid s h xs end e =
    let q = sheet-read s h xs end e in
    record { few = q.few; steps = valid-from 0 xs q.right }

-- Every signed number of 64 bits is folded to a number below 2^64, and the other way round.
pub signed-folds : (z : ℤ) → SFits w64 z → (fold_signed z < 2 ^ 64) × (unfold_number (fold_signed z) ≡ z)
signed-folds z h = (fold-below z h, unfold-fold z)

pub number-unfolds : (n : ℕ) → n < 2 ^ 64 → SFits w64 (unfold_number n) × (fold_signed (unfold_number n) ≡ n)
number-unfolds n h = (unfold-fits n h, fold-unfold n)

-- The sheet of number (14), read.
abbrev pub fourteen : List ℕ
fourteen = 0x03 ∷ 0x01 ∷ 0x02 ∷ 0x08 ∷ 0x00 ∷ 0xF4 ∷ 0x03 ∷ 0x04 ∷ 0x00 ∷ 0x01 ∷ []

pub fourteen-read : parse fourteen ≡ got (step (pos 1) (pos 1) (pos 4) (pos 0) ∷ step (pos 0) (pos 250) (pos 0) (pos 0) ∷ step (pos 4) (pos 0) (pos 1) (pos 0) ∷ []) 10
unfolding parse steps_from step_at fields_at fields_of field_at read_number groups_from ◌<?◌
fourteen-read = refl

-- ---- answers are determined

-- Any two answers that reading's promise admits are equal, and the buffers with them.
pub read-determined : (s : List ℕ) (room after after' : List ℤ) (r r' : Result ℕ Fault)
    → (count_told r ≡ answer (reading s) room) × (after ≡ content (reading s) room) → (count_told r' ≡ answer (reading s) room) × (after' ≡ content (reading s) room)
    → (r ≡ r') × (after ≡ after')
read-determined s room after after' r r' h h' = (count-tells r r' (h.0 ∙ sym h'.0), h.1 ∙ sym h'.1)

-- The same of writing.
pub write-determined : (l : List ℤ) (out after after' : List ℕ) (r r' : Result ℕ Fault)
    → (count_told r ≡ answer (writing l) out) × (after ≡ content (writing l) out) → (count_told r' ≡ answer (writing l) out) × (after' ≡ content (writing l) out)
    → (r ≡ r') × (after ≡ after')
write-determined l out after after' r r' h h' = (count-tells r r' (h.0 ∙ sym h'.0), h.1 ∙ sym h'.1)

-- the answer of what was found
abbrev number_back : Got ℕ → Result (ℕ × ℕ) BadByte
number_back (got n p) = Ok (n, p)
number_back (refused r p) = Err (record { 0 = with_number r; 1 = p })

number-read-back : (r : Result (ℕ × ℕ) BadByte) → number_back (number_found r) ≡ r
number-read-back (Ok v) = refl
number-read-back (Err bad) = ap (λ q. Err (record { 0 = q; 1 = bad.1 })) (number-back bad.0)

-- The same of a number at a place.
pub number-determined : (s : List ℕ) (at : ℕ) (r r' : Result (ℕ × ℕ) BadByte) → number_found r ≡ read_number s at → number_found r' ≡ read_number s at → r ≡ r'
number-determined s at r r' h h' = sym (number-read-back r) ∙ ap number_back (h ∙ sym h') ∙ number-read-back r'
