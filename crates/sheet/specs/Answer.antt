-- What reading and writing a sheet answer, by the numbers of document 01, and what the lent buffer holds then.
use Rattle.std.specs.Prelude.{ℕ, ◌/◌, ◌%◌, List, leb, ltb, eqb, ℤ, length}
use Rattle.std.proofs.lemmas.List.Edits.{sets}
use Rattle.refusal.specs.Answer.{Told, done, at_step, at_byte, refused_by}
use Rattle.whole.specs.Choice.{pick}
use Rattle.sheet.specs.Got.{Got, got, refused, Verdict, fine, wrong}
use Rattle.sheet.specs.Step.{Step}
use Rattle.sheet.specs.Sheet.{parse, steps_fault, bytes_of, flat, steps_of}

-- what is to be put into a lent buffer, and counted; or what is answered instead
pub data Plan (A : Type 0) : Type 0 where
  fill : ℕ → List A → Plan A
  stop : Told → Plan A

-- 16: the buffer is shorter than needed
abbrev pub answer : {A : Type 0} → Plan A → List A → Told
answer (fill n vs) out = pick (leb (length vs) (length out)) (done n) (refused_by 16)
answer (stop t) out = t

-- a refusal keeps the buffer, and entries past the last one are kept
abbrev pub content : {A : Type 0} → Plan A → List A → List A
content (fill n vs) out = pick (leb (length vs) (length out)) (sets out 0 vs) out
content (stop t) out = out

abbrev pub plan_of : Got (List Step) → Plan ℤ
plan_of (got xs p) = fill (length xs) (flat xs)
plan_of (refused n p) = stop (at_byte n p)

-- reading counts the steps and fills four numbers a step
unfoldable pub reading : List ℕ → Plan ℤ
reading s = plan_of (parse s)

abbrev pub plan_for : Verdict → List ℕ → Plan ℕ
plan_for fine bs = fill (length bs) bs
plan_for (wrong n k) bs = stop (at_step n k)

-- writing takes four numbers a step, and counts and fills the bytes; 1: a count that four doesn't divide, 10: more than 256 steps
unfoldable pub writing : List ℤ → Plan ℕ
writing l =
    pick (eqb (length l % 4) 0)
    (pick (ltb 256 (length l / 4)) (stop (at_step 10 0)) (plan_for (steps_fault 0 (steps_of l)) (bytes_of (steps_of l))))
    (stop (refused_by 1))
