-- A sheet: a count, and then the steps; out of bytes, into bytes, and four numbers a step in memory.
use Rattle.std.specs.Prelude.{ℕ, zero, suc, ◌+◌, List, [], ◌∷◌, ◌++◌, ltb, ℤ, length}
use Rattle.whole.specs.Choice.{pick}
use Rattle.sheet.specs.Got.{Got, got, refused, and_then, Fault, none, fault, Verdict, fine, wrong}
use Rattle.sheet.specs.Number.{read_number, write_number}
use Rattle.sheet.specs.Step.{Step, step, step_at, step_fault, step_bytes}

-- `left` steps more, the first of which is step k at the place `at`, and then the end; 11: bytes left over
unfoldable pub steps_from : (left : ℕ) → List ℕ → (k at : ℕ) → Got (List Step)
steps_from zero s k at = pick (ltb at (length s)) (refused 11 at) (got [] at)
steps_from (suc left) s k at = and_then (step_at s at k) (λ x q. and_then (steps_from left s (k + 1) q) (λ xs r. got (x ∷ xs) r))

-- a sheet's steps; 10: more than 256
unfoldable pub parse : List ℕ → Got (List Step)
parse s = and_then (read_number s 0) (λ n p. pick (ltb 256 n) (refused 10 0) (steps_from n s 0 p))

-- the first fault of the steps from step k on, with the step as its place
abbrev pub fault_at : ℕ → Fault → Verdict → Verdict
fault_at k none next = next
fault_at k (fault n) next = wrong n k

unfoldable pub steps_fault : ℕ → List Step → Verdict
steps_fault k [] = fine
steps_fault k (x ∷ xs) = fault_at k (step_fault k x) (steps_fault (k + 1) xs)

unfoldable pub steps_bytes : List Step → List ℕ
steps_bytes [] = []
steps_bytes (x ∷ xs) = step_bytes x ++ steps_bytes xs

-- a sheet's bytes
unfoldable pub bytes_of : List Step → List ℕ
bytes_of xs = write_number (length xs) ++ steps_bytes xs

-- four numbers a step
unfoldable pub flat : List Step → List ℤ
flat [] = []
flat (x ∷ xs) = x.operator ∷ x.a ∷ x.b ∷ x.c ∷ flat xs

unfoldable pub steps_of : List ℤ → List Step
steps_of [] = []
steps_of (o ∷ []) = []
steps_of (o ∷ x ∷ []) = []
steps_of (o ∷ x ∷ y ∷ []) = []
steps_of (o ∷ x ∷ y ∷ z ∷ l) = step o x y z ∷ steps_of l

-- the steps that were read; none if they were refused
abbrev pub steps_in : Got (List Step) → List Step
steps_in (got xs p) = xs
steps_in (refused n p) = []
