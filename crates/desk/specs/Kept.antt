-- What demand 3 says of the answers of `check` and `run` on one sheet's bytes, and of the rooms after them.
use Rattle.std.specs.Prelude.{Ok, ◌≡◌, List, [], ℕ, ◌*◌, ◌<◌, ℤ, pos, length, take, get_or}
use Rattle.std.specs.Int.{Width, w64}
use Rattle.refusal.specs.declared.Refusal.{Refusal}
use Rattle.refusal.specs.Count.{Counted}
use Rattle.sheet.specs.Got.{got}
use Rattle.sheet.specs.declared.step.Step.{Step}
use Rattle.sheet.specs.Sheet.{parse}
use Rattle.step.specs.declared.show.Shown.{Shown}
use Rattle.step.specs.Stopping.{InShown, stopping}
use Rattle.panel.specs.Run.{actions_of}
use Rattle.desk.specs.Check.{check_from}
use Rattle.desk.specs.Five.{flat, shown_in}
use Rattle.desk.specs.Promise.{AllValid, Suits, StopsAfter}

-- the inputs are as many as the sheet's, each in its range
pub record InRanges (bytes : List ℕ) (ins : List ℤ) : Type 0 where
  pub steps : List Step
  pub end : ℕ
  pub read : parse bytes ≡ got steps end
  pub suits : Suits (actions_of steps) ins

-- the run reaches the last of n steps, and each step's number lies in the range, the spacing and the sign that stand in the check's room
pub record Reaches (n : ℕ) (shown numbers : List ℤ) (r : Counted) : Type 0 where
  pub ends : r ≡ Ok n
  pub lies : (k : ℕ) → k < n → InShown (shown_in shown k) (get_or numbers k (pos 0))

-- the k steps before one pass, with what stands in the check's room, and numbers drawn from the ranges shown of its operands stop that one by r
pub record StopsThereAt (w : Width) (bytes : List ℕ) (shown : List ℤ) (r : Refusal) (k : ℕ) : Type 0 where
  pub steps : List Step
  pub end : ℕ
  pub read : parse bytes ≡ got steps end
  pub earlier : List Shown
  pub in-room : take (k * 5) shown ≡ flat earlier
  pub stops : StopsAfter (stopping w) (check_from (stopping w) []) (actions_of steps) earlier r
  pub place : length stops.before ≡ k

abbrev pub StopsThere : List ℕ → List ℤ → Refusal → ℕ → Type 0
StopsThere = StopsThereAt w64

-- what is read of the bytes are steps of the width: constants and ends of ranges fit it
abbrev pub Within : Width → List ℕ → Type 0
Within w bytes = (steps : List Step) (end : ℕ) → parse bytes ≡ got steps end → AllValid (stopping w) (actions_of steps)
