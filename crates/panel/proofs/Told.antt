-- What running a sheet into room for 256 numbers tells of the sheet, by its answer.
use Prim.Native.Nat.{ℕ, suc, ◌+◌, ◌-◌, ◌≤◌}
use mathlib.Core.Path.{◌≡◌, refl, sym, ap, ◌∙◌}
use mathlib.Core.List.{List, [], ◌∷◌, ◌++◌}
use mathlib.Core.Bool.{Bool, true, false}
use native.Mathlib.Omega.{arith}
use lib.IntN.{ℤ}
use lib.ListN.{length, take, drop, length-append}
use lib.Seq.{sets}
use mir.Syntax.{w64}
use borrow.Author.Tests.{le-leb}
use Rattle.refusal.specs.declared.Refusal.{Refusal}
use Rattle.refusal.specs.Number.{number_of}
use Rattle.refusal.proofs.Claims.{number-tells}
use Rattle.whole.specs.Choice.{pick}
use Rattle.sheet.specs.Got.{Got, got, refused}
use Rattle.sheet.specs.declared.step.Step.{Step}
use Rattle.sheet.specs.Sheet.{parse}
use Rattle.sheet.proofs.Answered.{parse-few, stored-first}
use Rattle.step.specs.Run.{run_op}
use Rattle.step.specs.declared.Action.{Action}
use Rattle.panel.specs.Run.{Rules, Run, ended, stopped_at, actions_of, takes, run_step, run_on, run_from, run_sheet, suits?}
use Rattle.std.specs.Prelude.{Ok, Err, Result}
use Rattle.refusal.specs.declared.Fault.TheVariants.{AtStep, AtByte, By}
use Rattle.refusal.specs.Answer.{done, at_step, at_byte, refused_by}
use Rattle.refusal.specs.Count.{Counted, count_told}
use Rattle.panel.specs.Answer.{Left, nothing, result_of, ran_on, ran_of, running}

-- a run gives at most one number a step
pub run-few : (rules : Rules) (ins env : List ℤ) (acts : List Action) → length (result_of (run_from rules ins env acts)).numbers ≤ length env + length acts
unfolding run_from
run-few rules ins env [] = omega arith
run-few rules ins env (s ∷ ss) = by-outcome (run_step rules ins env s) (λ n. run-few rules (drop (takes s) ins) (env ++ (n ∷ [])) ss)
  where
    go : ℤ → Run
    go n = run_from rules (drop (takes s) ins) (env ++ (n ∷ [])) ss

    by-outcome : (o : Result ℤ Refusal) → ((n : ℤ) → length (result_of (go n)).numbers ≤ length (env ++ (n ∷ [])) + length ss) → length (result_of (run_on env o go)).numbers ≤ length env + suc (length ss)
    by-outcome (Ok n) more = omega (arith, more n, length-append env (n ∷ []))
    by-outcome (Err r) more = omega arith

pub actions-length : (xs : List Step) → length (actions_of xs) ≡ length xs
unfolding actions_of
actions-length [] = refl
actions-length (x ∷ xs) = ap suc (actions-length xs)

-- a run of the sheet that was read, and its n numbers
pub record RanTo (s : List ℕ) (ins : List ℤ) (run : Run) (numbers : List ℤ) (n : ℕ) : Type 0 where
  pub steps : List Step
  pub end : ℕ
  pub parsed : parse s ≡ got steps end
  pub suited : suits? (actions_of steps) ins ≡ true
  pub ran : run_sheet (run_op w64) ins steps ≡ run
  pub count : length numbers ≡ n
  pub few : n ≤ 256

-- inputs that don't suit the sheet that was read
pub record Unsuited (s : List ℕ) (ins : List ℤ) (number : ℕ) : Type 0 where
  pub steps : List Step
  pub end : ℕ
  pub parsed : parse s ≡ got steps end
  pub unsuited : suits? (actions_of steps) ins ≡ false
  pub fifteen : number ≡ 15

data Tells (s : List ℕ) (ins : List ℤ) : Left → Type 0 where
  runs : (xs : List Step) (p : ℕ) (r : Run) → parse s ≡ got xs p → suits? (actions_of xs) ins ≡ true → run_sheet (run_op w64) ins xs ≡ r → length (result_of r).numbers ≤ 256 → Tells s ins (result_of r)
  unsuits : (xs : List Step) (p : ℕ) → parse s ≡ got xs p → suits? (actions_of xs) ins ≡ false → Tells s ins (nothing (refused_by 15))
  unread : (n p : ℕ) → parse s ≡ refused n p → Tells s ins (nothing (at_byte n p))

tells : (s : List ℕ) (ins room : List ℤ) → length room ≡ 256 → Tells s ins (running (run_op w64) s ins room)
unfolding running ran_on
tells s ins room l = by-parse (parse s) refl
  where
    by-suits : (xs : List Step) (p : ℕ) → parse s ≡ got xs p → (t : Bool) → suits? (actions_of xs) ins ≡ t → Tells s ins (pick t (result_of (run_sheet (run_op w64) ins xs)) (nothing (refused_by 15)))
    by-suits xs p e true t = runs xs p (run_sheet (run_op w64) ins xs) e t refl (omega (arith, run-few (run_op w64) ins [] (actions_of xs), actions-length xs, parse-few s xs p e))
    by-suits xs p e false t = unsuits xs p e t

    by-parse : (g : Got (List Step)) → parse s ≡ g → Tells s ins (ran_of (run_op w64) g ins room)
    by-parse (got xs p) e = rw (le-leb (length xs) (length room) (omega (arith, parse-few s xs p e))) (by-suits xs p e (suits? (actions_of xs) ins) refl)
    by-parse (refused n p) e = unread n p e

-- by what was answered; the part from 0 on is as code cuts it
ended_of : {s : List ℕ} {ins : List ℤ} (res : Left) (room left : List ℤ) → Tells s ins res → length room ≡ 256 → left ≡ sets room 0 res.numbers → (n : ℕ) → res.told ≡ done n → RanTo s ins (ended (take (n - 0) left)) (take (n - 0) left) n
ended_of _ room left (runs xs p (ended ns) e t r h) l f n q =
    let c : length ns ≡ n = cc in
    let d : n - 0 ≡ length ns = omega (arith, c) in
    let k : take (n - 0) left ≡ ns = rw (f, d) (stored-first room ns (omega (arith, l, h))) in
    record { steps = xs; end = p; parsed = e; suited = t; ran = r ∙ ap ended (sym k); count = ap length k ∙ c; few = omega (arith, c, h) }
ended_of _ room left (runs xs p (stopped_at ns why) e t r h) l f n q = let z : ◌≡◌ {A = ℕ} 0 1 = cc in absurd (omega arith)
ended_of _ room left (unsuits xs p e t) l f n q = let z : ◌≡◌ {A = ℕ} 0 1 = cc in absurd (omega arith)
ended_of _ room left (unread m p e) l f n q = let z : ◌≡◌ {A = ℕ} 0 1 = cc in absurd (omega arith)

stopped-of : {s : List ℕ} {ins : List ℤ} (res : Left) (room left : List ℤ) → Tells s ins res → length room ≡ 256 → left ≡ sets room 0 res.numbers → (n : ℕ) (why : Refusal) → res.told ≡ at_step (number_of why) n → RanTo s ins (stopped_at (take (n - 0) left) why) (take (n - 0) left) n
stopped-of _ room left (runs xs p (ended ns) e t r h) l f n why q = let z : ◌≡◌ {A = ℕ} 0 1 = cc in absurd (omega arith)
stopped-of _ room left (runs xs p (stopped_at ns by) e t r h) l f n why q =
    let c : length ns ≡ n = cc in
    let b : number_of by ≡ number_of why = cc in
    let d : n - 0 ≡ length ns = omega (arith, c) in
    let k : take (n - 0) left ≡ ns = rw (f, d) (stored-first room ns (omega (arith, l, h))) in
    record { steps = xs; end = p; parsed = e; suited = t; ran = r ∙ rw (k, number-tells by why b) refl; count = ap length k ∙ c; few = omega (arith, c, h) }
stopped-of _ room left (unsuits xs p e t) l f n why q = let z : ◌≡◌ {A = ℕ} 0 1 = cc in absurd (omega arith)
stopped-of _ room left (unread m p e) l f n why q = let z : ◌≡◌ {A = ℕ} 0 1 = cc in absurd (omega arith)

refused-at-of : {s : List ℕ} {ins : List ℤ} (res : Left) → Tells s ins res → (m q : ℕ) → res.told ≡ at_byte m q → parse s ≡ refused m q
refused-at-of _ (runs xs p (ended ns) e t r h) m q f = let z : ◌≡◌ {A = ℕ} 0 1 = cc in absurd (omega arith)
refused-at-of _ (runs xs p (stopped_at ns by) e t r h) m q f = let z : ◌≡◌ {A = ℕ} 0 1 = cc in absurd (omega arith)
refused-at-of _ (unsuits xs p e t) m q f = let z : ◌≡◌ {A = ℕ} 0 1 = cc in absurd (omega arith)
refused-at-of _ (unread n p e) m q f =
    let a : n ≡ m = cc in
    let b : p ≡ q = cc in
    rw (← a, ← b) e

refused-of : {s : List ℕ} {ins : List ℤ} (res : Left) → Tells s ins res → (m : ℕ) → res.told ≡ refused_by m → Unsuited s ins m
refused-of _ (runs xs p (ended ns) e t r h) m f = let z : ◌≡◌ {A = ℕ} 0 1 = cc in absurd (omega arith)
refused-of _ (runs xs p (stopped_at ns by) e t r h) m f = let z : ◌≡◌ {A = ℕ} 0 1 = cc in absurd (omega arith)
refused-of _ (unsuits xs p e t) m f = record { steps = xs; end = p; parsed = e; unsuited = t; fifteen = cc }
refused-of _ (unread n p e) m f = let z : ◌≡◌ {A = ℕ} 0 1 = cc in absurd (omega arith)

-- of what the code answered
module _ (s : List ℕ) (ins room left : List ℤ) (a : Counted) (t : count_told a ≡ (running (run_op w64) s ins room).told) (e : left ≡ sets room 0 (running (run_op w64) s ins room).numbers) (l : length room ≡ 256) where
  pub ended-run : (n : ℕ) → a ≡ Ok n → RanTo s ins (ended (take (n - 0) left)) (take (n - 0) left) n
  ended-run n q = ended_of _ room left (tells s ins room l) l e n (sym t ∙ ap count_told q)

  pub stopped-run : (why : Refusal) (n : ℕ) → a ≡ Err (AtStep why n) → RanTo s ins (stopped_at (take (n - 0) left) why) (take (n - 0) left) n
  stopped-run why n q = stopped-of _ room left (tells s ins room l) l e n why (sym t ∙ ap count_told q)

  pub unread-run : (why : Refusal) (p : ℕ) → a ≡ Err (AtByte why p) → parse s ≡ refused (number_of why) p
  unread-run why p q = refused-at-of _ (tells s ins room l) (number_of why) p (sym t ∙ ap count_told q)

  pub unsuited-run : (why : Refusal) → a ≡ Err (By why) → Unsuited s ins (number_of why)
  unsuited-run why q = refused-of _ (tells s ins room l) (number_of why) (sym t ∙ ap count_told q)
