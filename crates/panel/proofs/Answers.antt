-- What the run answers, by the cases of its definition; and what reading into room for 256 steps leaves.
use mathlib.Core.Path.{◌≡◌, refl, sym, ap, ◌∙◌}
use mathlib.Core.Bool.{Bool, true, false}
use mathlib.Core.List.{List}
use Prim.Native.Nat.{ℕ, ◌*◌, ◌≤◌, ◌<◌}
use native.Mathlib.Omega.{arith}
use borrow.Author.Tests.{le-leb, lt-leb, ltb-false, leb-false}
use lib.Dec.{leb, ltb}
use lib.IntN.{ℤ}
use lib.ListN.{length, take}
use lib.Seq.{length-sets}
use Rattle.whole.specs.Choice.{pick}
use Rattle.sheet.specs.Got.{Got, got, refused, fine, verdict_of}
use Rattle.sheet.specs.declared.step.Step.{Step}
use Rattle.sheet.specs.Number.{read_number}
use Rattle.sheet.specs.Sheet.{parse, steps_from, steps_in, flat, steps_of}
use Rattle.sheet.specs.Answer as sheet
use Rattle.refusal.specs.Answer.{done, at_byte, refused_by}
use Rattle.refusal.specs.Count.{fault_told}
use Rattle.refusal.specs.declared.Fault.{Fault}
use Rattle.refusal.proofs.Claims.{fault-not-done}
use Rattle.sheet.proofs.Parts.{steps-length, length-flat}
use Rattle.sheet.proofs.Plans.{steps-count}
use Rattle.sheet.proofs.Stepped.{got_of}
use Rattle.sheet.proofs.Answered.{reads, steps-flat, stored-first}
use Rattle.panel.specs.Run.{Rules, actions_of, suits?, run_sheet}
use Rattle.panel.specs.Answer.{nothing, result_of, ran_on, running}

-- ---- the three answers of a sheet that was read
module _ (rules : Rules) (steps : List Step) (ins room : List ℤ) where
  pub ran-short : length room < length steps → ran_on rules steps ins room ≡ nothing (refused_by 16)
  unfolding ran_on
  ran-short h = rw (lt-leb (length steps) (length room) h) refl

  pub ran-unsuited : length steps ≤ length room → suits? (actions_of steps) ins ≡ false → ran_on rules steps ins room ≡ nothing (refused_by 15)
  unfolding ran_on
  ran-unsuited h s = rw (le-leb (length steps) (length room) h, s) refl

  pub ran-suited : length steps ≤ length room → suits? (actions_of steps) ins ≡ true → ran_on rules steps ins room ≡ result_of (run_sheet rules ins steps)
  unfolding ran_on
  ran-suited h s = rw (le-leb (length steps) (length room) h, s) refl

-- ---- reading first
module _ (rules : Rules) (s : List ℕ) (ins room : List ℤ) where
  pub runs-read : (steps : List Step) (p : ℕ) → parse s ≡ got steps p → running rules s ins room ≡ ran_on rules steps ins room
  unfolding running
  runs-read steps p e = rw e refl

  pub runs-refused : (n p : ℕ) → parse s ≡ refused n p → running rules s ins room ≡ nothing (at_byte n p)
  unfolding running
  runs-refused n p e = rw e refl

pub four-each : (l : List ℤ) (n : ℕ) → length l ≡ n * 4 → length (steps_of l) ≡ n
four-each l n h = omega (arith, steps-count l)

-- a sheet that was read has at most 256 steps
pub parse-few : (s : List ℕ) (xs : List Step) (p : ℕ) → parse s ≡ got xs p → length xs ≤ 256
unfolding parse
parse-few s xs p h = let g = got_of (read_number s 0) _ xs p h in by-test g.0 g.1.0 (ltb 256 g.0) refl g.1.1.1
  where
    by-test : (n q : ℕ) (t : Bool) → ltb 256 n ≡ t → pick t (refused 10 0) (steps_from n s 0 q) ≡ got xs p → length xs ≤ 256
    by-test n q true e h = let z : ◌≡◌ {A = ℕ} 0 1 = cc in absurd (omega arith)
    by-test n q false e h =
        let v : verdict_of (steps_from n s 0 q) ≡ fine = ap verdict_of h in
        let l : length xs ≡ n = sym (ap (λ g. length (steps_in g)) h) ∙ steps-length n s 0 q v in
        omega (arith, ltb-false 256 n e)

-- the steps that were read, as the first of 1,024 numbers
pub record Listed (s : List ℕ) (room after : List ℤ) (n : ℕ) : Type 0 where
  pub steps : List Step
  pub end : ℕ
  pub parsed : parse s ≡ got steps end
  pub few : n ≤ 256
  pub long : n * 4 ≤ length after
  pub numbers : take (n * 4) after ≡ flat steps
  pub back : steps_of (take (n * 4) after) ≡ steps

pub listed : (s : List ℕ) (room after : List ℤ) (n : ℕ) → done n ≡ sheet.answer (sheet.reading s) room → after ≡ sheet.content (sheet.reading s) room → Listed s room after n
listed s room after n h e =
    let r = reads s room n (sym h) in
    let l : n * 4 ≡ length (flat r.steps) = omega (arith, length-flat r.steps, r.count) in
    let t : take (n * 4) after ≡ flat r.steps = rw (e ∙ r.stored, l) (stored-first room (flat r.steps) r.fits) in
    record { steps = r.steps; end = r.end; parsed = r.parsed; few = omega (arith, parse-few s r.steps r.end r.parsed, r.count); long = rw (e ∙ r.stored, length-sets) (omega (arith, l, r.fits)); numbers = t; back = ap steps_of t ∙ steps-flat r.steps }

-- a fault of reading is that of the sheet, at a byte; room for 256 steps is never short
pub record Unread (s : List ℕ) (f : Fault) : Type 0 where
  pub number : ℕ
  pub byte : ℕ
  pub told : fault_told f ≡ at_byte number byte
  pub parsed : parse s ≡ refused number byte

pub unread : (s : List ℕ) (room : List ℤ) (f : Fault) → 1024 ≤ length room → fault_told f ≡ sheet.answer (sheet.reading s) room → Unread s f
unfolding sheet.reading
unread s room f l h = by-parse (parse s) refl h
  where
    by-room : (xs : List Step) (q : ℕ) (t : Bool) → parse s ≡ got xs q → leb (length (flat xs)) (length room) ≡ t → fault_told f ≡ pick t (done (length xs)) (refused_by 16) → Unread s f
    by-room xs q true e k h = absurd (fault-not-done f (length xs) h)
    by-room xs q false e k h = absurd (omega (arith, leb-false (length (flat xs)) (length room) k, length-flat xs, parse-few s xs q e))

    by-parse : (g : Got (List Step)) → parse s ≡ g → fault_told f ≡ sheet.answer (sheet.plan_of g) room → Unread s f
    by-parse (got xs q) e h = by-room xs q (leb (length (flat xs)) (length room)) e refl h
    by-parse (refused m q) e h = record { number = m; byte = q; told = h; parsed = e }
