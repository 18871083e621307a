-- What running a sheet answers, by the numbers of document 01, and the numbers that it puts into the lent room.
use Rattle.std.specs.Prelude.{◌≡◌, List, [], ℕ, leb, ℤ, length}
use Rattle.std.proofs.lemmas.List.Edits.{sets}
use Rattle.std.specs.Int.{Width, w64}
use Rattle.refusal.specs.Number.{number_of}
use Rattle.refusal.specs.Answer.{Told, done, at_step, at_byte, refused_by}
use Rattle.refusal.specs.Count.{Counted, count_told}
use Rattle.whole.specs.Choice.{pick}
use Rattle.sheet.specs.Got.{Got, got, refused}
use Rattle.sheet.specs.declared.step.Step.{Step}
use Rattle.sheet.specs.Sheet.{parse}
use Rattle.step.specs.Run.{run_op}
use Rattle.panel.specs.Run.{Rules, actions_of, Run, ended, stopped_at, run_sheet, suits?}

-- done with so many steps; stopped at a step; refused at a byte, or with no place; and the numbers of the steps before
pub record Left : Type 0 where
  pub told : Told
  pub numbers : List ℤ

abbrev pub nothing : Told → Left
nothing t = record { told = t; numbers = [] }

abbrev pub result_of : Run → Left
result_of (ended ns) = record { told = done (length ns); numbers = ns }
result_of (stopped_at ns r) = record { told = at_step (number_of r) (length ns); numbers = ns }

-- refusals of reading, then 16, then 15, then the steps
unfoldable pub ran_on : Rules → List Step → (ins room : List ℤ) → Left
ran_on rules steps ins room =
    pick (leb (length steps) (length room))
    (pick (suits? (actions_of steps) ins) (result_of (run_sheet rules ins steps)) (nothing (refused_by 15)))
    (nothing (refused_by 16))

abbrev pub ran_of : Rules → Got (List Step) → (ins room : List ℤ) → Left
ran_of rules (got steps p) ins room = ran_on rules steps ins room
ran_of rules (refused n p) ins room = nothing (at_byte n p)

unfoldable pub running : Rules → List ℕ → (ins room : List ℤ) → Left
running rules bytes ins room = ran_of rules (parse bytes) ins room

-- what `run_at` promises of its answer, and of the room after it
abbrev pub RanAt : Width → List ℕ → (ins room after : List ℤ) → Counted → Type 0
RanAt w bytes ins room after r = (count_told r ≡ (running (run_op w) bytes ins room).told) × (after ≡ sets room 0 (running (run_op w) bytes ins room).numbers)

abbrev pub Ran : List ℕ → (ins room after : List ℤ) → Counted → Type 0
Ran = RanAt w64
