-- Calls from outside: what a contract admits is one answer and one room, and a refusal keeps the room.
use mathlib.Core.Path.{◌≡◌, refl, sym, ap, ◌∙◌}
use mathlib.Core.Logic.{◌≢◌, ◌⊎◌, inl, inr}
use mathlib.Core.List.{List, []}
use Prim.Native.Nat.{ℕ}
use lib.IntN.{ℤ}
use lib.Seq.{sets}
use Rattle.std.specs.Prelude.{None, Option, Some}
use Rattle.interval.specs.declared.Interval.{Interval}
use Rattle.refusal.specs.Answer.{Answer, is, refused}
use Rattle.refusal.specs.Answer as answers
use Rattle.congruence.specs.declared.Congruence.{Congruence}
use Rattle.export.specs.Call.{Left, number, range, spacing, Leaves}
use Rattle.export.specs.Sheets.{Seen, Told}
use Rattle.export.proofs.Put.{put-either}

pub call-determined : {f : List ℤ → Left} {room left kept : List ℤ} {s t : ℕ} → Leaves f room s left → Leaves f room t kept → (s ≡ t) × (left ≡ kept)
call-determined p q = (p.status-is ∙ sym q.status-is, p.room-is ∙ sym q.room-is)

pub sheet-determined : {v : Seen} {room left kept : List ℤ} {place p q s t : ℕ} → Told v room place s left p → Told v room place t kept q → (s ≡ t) × (p ≡ q) × (left ≡ kept)
sheet-determined a b = (a.status-is ∙ sym b.status-is, a.place_is ∙ sym b.place_is, a.room-is ∙ sym b.room-is)

-- ---- a status other than 0 keeps the room

-- an answer that has status 0 or puts nothing
abbrev Careful : (List ℤ → Left) → Type 0
Careful f = (room : List ℤ) → ((f room).status ≡ 0) ⊎ ((f room).numbers ≡ [])

kept : {f : List ℤ → Left} {room left : List ℤ} {s : ℕ} → Careful f → Leaves f room s left → s ≢ 0 → left ≡ room
kept {f} {room} {left} {s} careful p h = go (careful room)
  where
    go : ((f room).status ≡ 0) ⊎ ((f room).numbers ≡ []) → left ≡ room
    go (inl e) = absurd (h (p.status-is ∙ e))
    go (inr e) = p.room-is ∙ ap (sets room 0) e

careful-number : (e : Option ℤ) → Careful (number e)
careful-number (Some n) room = put-either _ room
careful-number None room = inr refl

careful-range : (a : Answer Interval) → Careful (range a)
careful-range (is v) room = put-either _ room
careful-range (refused n) room = inr refl

careful-spacing : (a : answers.Answer Congruence) → Careful (spacing a)
careful-spacing (answers.is v) room = put-either _ room
careful-spacing (answers.refused n) room = inr refl

pub number-kept : (e : Option ℤ) {room left : List ℤ} {s : ℕ} → Leaves (number e) room s left → s ≢ 0 → left ≡ room
number-kept e = kept (careful-number e)

pub range-kept : (a : Answer Interval) {room left : List ℤ} {s : ℕ} → Leaves (range a) room s left → s ≢ 0 → left ≡ room
range-kept a = kept (careful-range a)

pub spacing-kept : (a : answers.Answer Congruence) {room left : List ℤ} {s : ℕ} → Leaves (spacing a) room s left → s ≢ 0 → left ≡ room
spacing-kept a = kept (careful-spacing a)
