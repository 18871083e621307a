use Rattle.std.proofs.Common.{◌≡◌, ℕ, ◌+◌, List, length, Option}
use Rattle.question.specs.Taken.{AnsweredBy}
use Rattle.question.proofs.Taking.{Going}
use Rattle.question.proofs.take.operands.Given as goal

-- the n that are taken stand in the room; those that are left go to its other m places
abbrev pub invariant-loop-n : goal.invariant-loop-n
invariant-loop-n g l =
    (f : List ℕ → ℕ → Option (g.row.T.Denot × ℕ)) → AnsweredBy (goal.F-post g l.take) f → (m : ℕ) → l.n + m ≡ length l.initial.room
    → Going (f l.line) l.initial.at l.initial.room l.n m l.at l.room
