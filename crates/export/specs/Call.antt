-- What a call from outside leaves: a status, 0 where a value was put, else the number of the refusal; and the lent room.
-- A refusal of the operation goes first, then 16 for a room with too few places.
use Rattle.std.specs.Prelude.{◌≡◌, List, [], ◌∷◌, ℕ, leb, ℤ, length, None, Option, Some}
use Rattle.std.proofs.lemmas.List.Edits.{sets}
use Rattle.whole.specs.Choice.{pick}
use Rattle.refusal.specs.Answer as answers
use Rattle.interval.specs.declared.Interval.{Interval}
use Rattle.refusal.specs.Answer.{Answer, is, refused}
use Rattle.congruence.specs.declared.Congruence.{Congruence}

-- the status, and the numbers that are put in front
pub record Left : Type 0 where
  pub status : ℕ
  pub numbers : List ℤ

abbrev pub refused_by : ℕ → List ℤ → Left
refused_by n room = record { status = n; numbers = [] }

-- the numbers, if the room has places for them
unfoldable pub put : List ℤ → List ℤ → Left
put ns room = pick (leb (length ns) (length room)) (record { status = 0; numbers = ns }) (refused_by 16 room)

-- a number
abbrev pub number : Option ℤ → List ℤ → Left
number (Some n) = put (n ∷ [])
number None = refused_by 2

-- an interval: least, greatest
abbrev pub range : Answer Interval → List ℤ → Left
range (is v) = put (v.min ∷ v.max ∷ [])
range (refused n) = refused_by n

-- a congruence: constant, modulus
abbrev pub spacing : answers.Answer Congruence → List ℤ → Left
spacing (answers.is v) = put (v.constant ∷ v.modulus ∷ [])
spacing (answers.refused n) = refused_by n

-- a call with this room gives this status and leaves the room so; what is behind the numbers is kept
pub record Leaves (answer : List ℤ → Left) (room : List ℤ) (status : ℕ) (left : List ℤ) : Type 0 where
  pub status-is : status ≡ (answer room).status
  pub room-is : left ≡ sets room 0 (answer room).numbers
