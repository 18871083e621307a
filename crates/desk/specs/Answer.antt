-- What checking a sheet answers, by the numbers of document 01, and the numbers that it puts into the lent room.
use Rattle.refusal.specs.declared.Refusal.{Refusal}
use Rattle.std.specs.Prelude.{◌≡◌, List, [], ℕ, ◌*◌, leb, ℤ, length, Ok, Result}
use Rattle.std.proofs.lemmas.List.Edits.{sets}
use Rattle.std.specs.Int.{Width, w64}
use Rattle.refusal.specs.Number.{number_of}
use Rattle.refusal.specs.Answer.{Told, done, at_step, at_byte, refused_by}
use Rattle.refusal.specs.Count.{Counted, count_told}
use Rattle.whole.specs.Choice.{pick}
use Rattle.sheet.specs.Got.{Got, got, refused}
use Rattle.sheet.specs.declared.step.Step.{Step}
use Rattle.sheet.specs.Sheet.{parse}
use Rattle.step.specs.declared.Action.{Action}
use Rattle.step.specs.declared.Action.TheVariants.{Input, Does}
use Rattle.step.specs.declared.show.Shown.{Shown}
use Rattle.step.specs.Show.{show_op, input_shown}
use Rattle.step.specs.Stopping.{stopping}
use Rattle.desk.specs.Check.{Check, passed, refused_at, check_sheet}
use Rattle.desk.specs.Five.{flat, looked_up}

-- passed with so many steps; refused at a step, at a byte, or with no place; and what the steps before show
pub record Left : Type 0 where
  pub told : Told
  pub numbers : List ℤ

abbrev pub nothing : Told → Left
nothing t = record { told = t; numbers = [] }

abbrev pub result_of : Check Shown → Left
result_of (passed vs) = record { told = done (length vs); numbers = flat vs }
result_of (refused_at vs r) = record { told = at_step (number_of r) (length vs); numbers = flat vs }

-- refusals of reading, then 16, then the steps
unfoldable pub checked_on : Width → List Step → List ℤ → Left
checked_on w steps room = pick (leb (length steps * 5) (length room)) (result_of (check_sheet (stopping w) steps)) (nothing (refused_by 16))

abbrev pub checked_of : Width → Got (List Step) → List ℤ → Left
checked_of w (got steps p) room = checked_on w steps room
checked_of w (refused n p) room = nothing (at_byte n p)

unfoldable pub checking : Width → List ℕ → List ℤ → Left
checking w bytes room = checked_of w (parse bytes) room

-- what `check_at` promises of its answer, and of the room after it
abbrev pub CheckedAt : Width → List ℕ → (room after : List ℤ) → Counted → Type 0
CheckedAt w bytes room after r = (count_told r ≡ (checking w bytes room).told) × (after ≡ sets room 0 (checking w bytes room).numbers)

abbrev pub Checked : List ℕ → (room after : List ℤ) → Counted → Type 0
Checked = CheckedAt w64

-- what a step shows, its operands looked up among the first k of the room
unfoldable pub step_in : Width → List ℤ → ℕ → Action → Result Shown Refusal
step_in w l k (Input a b) = Ok (input_shown a b)
step_in w l k (Does o p q r) = show_op w o (looked_up l k p) (looked_up l k q) (looked_up l k r)
