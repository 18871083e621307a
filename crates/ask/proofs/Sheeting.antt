-- What a sheet that was read or written leaves in the lent room, and what is said of it.
use Prim.Native.Nat.{ℕ, ◌*◌, ◌/◌, ◌%◌, ◌≤◌}
use mathlib.Core.Path.{◌≡◌, sym, ap}
use mathlib.Core.List.{List, [], ◌∷◌}
use mathlib.Core.Bool.{Bool, true, false}
use native.Mathlib.Omega.{arith}
use lib.Dec.{leb}
use lib.IntN.{ℤ}
use lib.ListN.{length, take}
use borrow.Author.Tests.{le-leb, eq-eqb, le-ltb}
use Rattle.whole.specs.Choice.{pick}
use Rattle.text.specs.Ascii.{ascii}
use Rattle.text.specs.Hex.{hex_text}
use Rattle.sheet.specs.Sheet.{parse, flat, steps_of, bytes_of}
use Rattle.refusal.specs.Answer.{done, refused_by}
use Rattle.refusal.specs.Count.{fault_told}
use Rattle.refusal.specs.declared.Fault.{Fault}
use Rattle.refusal.proofs.Claims.{fault-not-done}
use Rattle.sheet.specs.Answer.{Plan, fill, stop, answer, content, reading, writing}
use Rattle.sheet.proofs.Parts.{length-flat}
use Rattle.sheet.proofs.Plans.{steps-count}
use Rattle.sheet.proofs.Answered.{reads, parse-few, writes, stored-first}
use Rattle.panel.proofs.Answers.{unread}
use Rattle.say.specs.Texts.{spaced}
use Rattle.ask.specs.Sheets.{refused_text, read_said, write_said}

-- ---- reading

module _ (s : List ℕ) (room : List ℤ) where
  -- the numbers of the steps had room
  pub read-room : (n : ℕ) → answer (reading s) room ≡ done n → (n ≤ 256) × (n * 4 ≤ length room)
  read-room n h =
      let r = reads s room n h in
      (omega (arith, r.count, parse-few s r.steps r.end r.parsed), omega (arith, r.count, r.fits, length-flat r.steps))

  pub read-said : (n : ℕ) → answer (reading s) room ≡ done n → read_said (parse s) ≡ ascii "read" ∷ spaced (take (n * 4) (content (reading s) room))
  read-said n h =
      let r = reads s room n h in
      let e : n * 4 ≡ length (flat r.steps) = omega (arith, r.count, length-flat r.steps) in
      rw (r.parsed, r.stored, e, stored-first room (flat r.steps) r.fits)

  pub read-refused : (f : Fault) → 1024 ≤ length room → fault_told f ≡ answer (reading s) room → read_said (parse s) ≡ refused_text (fault_told f)
  read-refused f long h =
      let u = unread s room f long h in
      rw (u.parsed, u.told)

-- ---- writing

module _ (l : List ℤ) (out : List ℕ) where
  -- the bytes had room
  pub write-room : (n : ℕ) → answer (writing l) out ≡ done n → n ≤ length out
  write-room n h =
      let w = writes l out n h in
      omega (arith, w.count, w.fits)

  module _ (room : length out ≡ 5378) where
    pub write-said : (n : ℕ) → answer (writing l) out ≡ done n → write_said (writing l) ≡ ascii "written " ∷ (hex_text (take n (content (writing l) out)) ∷ [])
    unfolding writing
    write-said n h =
        let w = writes l out n h in
        let e₁ = eq-eqb (length l % 4) 0 w.even in
        let e₂ = le-ltb 256 (length l / 4) (omega (arith, steps-count l, w.few)) in
        let e₃ = le-leb (length (bytes_of (steps_of l))) 5378 (omega (arith, w.fits)) in
        let e : n ≡ length (bytes_of (steps_of l)) = omega (arith, w.count) in
        rw (w.stored, e, stored-first out (bytes_of (steps_of l)) w.fits, e₁, e₂, w.right, e₃)

    pub write-refused : (f : Fault) → fault_told f ≡ answer (writing l) out → write_said (writing l) ≡ refused_text (fault_told f)
    write-refused f h = by-plan (writing l) h
      where
        by-room : (t : Bool) (n : ℕ) (said : List (List ℕ)) → fault_told f ≡ pick t (done n) (refused_by 16) → pick t said (refused_text (refused_by 16)) ≡ refused_text (fault_told f)
        by-room true n said g = absurd (fault-not-done f n g)
        by-room false n said g = sym (ap refused_text g)

        by-plan : (p : Plan ℕ) → fault_told f ≡ answer p out → write_said p ≡ refused_text (fault_told f)
        by-plan (fill n bs) g = by-room (leb (length bs) 5378) n (ascii "written " ∷ (hex_text bs ∷ [])) (rw room at g)
        by-plan (stop t) g = sym (ap refused_text g)
