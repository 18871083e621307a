-- What a caller sees of a check and of a run: the status, the place beside it, and the lent room.
use Rattle.std.specs.Prelude.{◌≡◌, List, ℕ, ℤ}
use Rattle.std.proofs.lemmas.List.Edits.{sets}
use Rattle.refusal.specs.Answer as answers
use Rattle.desk.specs.Answer as desk
use Rattle.panel.specs.Answer as panel

pub record Seen : Type 0 where
  pub status : ℕ
  pub place : ℕ → ℕ
  pub numbers : List ℤ

-- status 0 for a sheet that passed or ended, and else the refusal's number
abbrev pub status_of : answers.Told → ℕ
status_of (answers.done n) = 0
status_of (answers.at_step r k) = r
status_of (answers.at_byte r p) = r
status_of (answers.refused_by r) = r

-- the place is kept where there is none
abbrev pub place_of : answers.Told → ℕ → ℕ
place_of (answers.done n) kept = n
place_of (answers.at_step r k) kept = k
place_of (answers.at_byte r p) kept = p
place_of (answers.refused_by r) kept = kept

abbrev pub seen : answers.Told → List ℤ → Seen
seen t numbers = record { status = status_of t; place = place_of t; numbers = numbers }

abbrev pub checked : desk.Left → Seen
checked r = seen r.told r.numbers

abbrev pub ran : panel.Left → Seen
ran r = seen r.told r.numbers

-- a call with this room and place gives this status and leaves both so; what is behind the numbers is kept
pub record Told (s : Seen) (room : List ℤ) (place : ℕ) (status : ℕ) (left : List ℤ) (end : ℕ) : Type 0 where
  pub status-is : status ≡ s.status
  pub place_is : end ≡ s.place place
  pub room-is : left ≡ sets room 0 s.numbers
