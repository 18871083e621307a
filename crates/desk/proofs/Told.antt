-- What checking a sheet into room for 256 steps tells of the sheet, by its answer.
use Prim.Native.Nat.{ℕ, suc, ◌+◌, ◌-◌, ◌*◌, ◌≤◌}
use mathlib.Core.Path.{◌≡◌, refl, sym, ap, ◌∙◌}
use mathlib.Core.List.{List, [], ◌∷◌, ◌++◌}
use native.Mathlib.Omega.{arith}
use lib.IntN.{ℤ}
use lib.ListN.{length, take, drop, length-append}
use lib.Seq.{sets, sets-eq}
use mir.Syntax.{w64}
use borrow.Author.Tests.{le-leb}
use Rattle.refusal.specs.declared.Refusal.{Refusal}
use Rattle.refusal.specs.Number.{number_of}
use Rattle.refusal.proofs.Claims.{number-tells}
use Rattle.sheet.specs.Got.{Got, got, refused}
use Rattle.sheet.specs.declared.step.Step.{Step}
use Rattle.sheet.specs.Sheet.{parse}
use Rattle.sheet.proofs.Answered.{parse-few, stored-first}
use Rattle.step.specs.Panel.{Panel}
use Rattle.step.specs.declared.Action.{Action}
use Rattle.step.specs.declared.show.Shown.{Shown}
use Rattle.step.specs.Stopping.{stopping}
use Rattle.panel.specs.Run.{actions_of}
use Rattle.panel.proofs.Told.{actions-length}
use Rattle.desk.specs.Check.{Check, passed, refused_at, shown_by, check_step, check_on, check_from, check_sheet}
use Rattle.desk.specs.Five.{flat, shown_first}
use Rattle.std.specs.Prelude.{Ok, Err, Result}
use Rattle.refusal.specs.declared.Fault.TheVariants.{AtStep, AtByte, By}
use Rattle.refusal.specs.Answer.{done, at_step, at_byte, refused_by}
use Rattle.refusal.specs.Count.{Counted, count_told}
use Rattle.desk.specs.Answer.{Left, nothing, result_of, checked_on, checked_of, checking}
use Rattle.desk.proofs.Fives.{length-flat, all_found}

-- a check shows at most one value a step
check-few : (P : Panel) (shown : List P.Shown) (acts : List Action) → length (shown_by (check_from P shown acts)) ≤ length shown + length acts
unfolding check_from
check-few P shown [] = omega arith
check-few P shown (s ∷ ss) = by_answer (check_step P shown s) (λ v. check-few P (shown ++ (v ∷ [])) ss)
  where
    go : P.Shown → Check P.Shown
    go v = check_from P (shown ++ (v ∷ [])) ss

    by_answer : (a : Result P.Shown Refusal) → ((v : P.Shown) → length (shown_by (go v)) ≤ length (shown ++ (v ∷ [])) + length ss) → length (shown_by (check_on shown a go)) ≤ length shown + suc (length ss)
    by_answer (Ok v) more = omega (arith, more v, length-append shown (v ∷ []))
    by_answer (Err r) more = omega arith

pub checked-few : (s : List ℕ) (steps : List Step) (end : ℕ) → parse s ≡ got steps end → length (shown_by (check_sheet (stopping w64) steps)) ≤ 256
checked-few s steps end e = omega (arith, check-few (stopping w64) [] (actions_of steps), actions-length steps, parse-few s steps end e)

-- the check of the sheet that was read, of which n steps are shown, five numbers each in the room
pub record CheckedTo (s : List ℕ) (left : List ℤ) (check : Check Shown) (n : ℕ) : Type 0 where
  pub steps : List Step
  pub end : ℕ
  pub parsed : parse s ≡ got steps end
  pub checked : check_sheet (stopping w64) steps ≡ check
  pub stored : take (n * 5 - 0) left ≡ flat (shown_by check)
  pub few : n ≤ 256

data Tells (s : List ℕ) : Left → Type 0 where
  checks : (xs : List Step) (p : ℕ) (c : Check Shown) → parse s ≡ got xs p → check_sheet (stopping w64) xs ≡ c → length (shown_by c) ≤ 256 → Tells s (result_of c)
  unread : (n p : ℕ) → parse s ≡ refused n p → Tells s (nothing (at_byte n p))

tells : (s : List ℕ) (room : List ℤ) → length room ≡ 1280 → Tells s (checking w64 s room)
unfolding checking checked_on
tells s room l = by-parse (parse s) refl
  where
    by-parse : (g : Got (List Step)) → parse s ≡ g → Tells s (checked_of w64 g room)
    by-parse (got xs p) e = rw (le-leb (length xs * 5) (length room) (omega (arith, parse-few s xs p e))) (checks xs p (check_sheet (stopping w64) xs) e refl (checked-few s xs p e))
    by-parse (refused n p) e = unread n p e

-- what is shown stands at the first places of the room
stands : (room : List ℤ) (vs : List Shown) (n : ℕ) → length vs ≡ n → length vs * 5 ≤ length room → vs ≡ shown_first (sets room 0 (flat vs)) n
stands room vs n c h =
    let e : sets room 0 (flat vs) ≡ flat vs ++ drop (0 + length (flat vs)) room = sets-eq (flat vs) room 0 (omega (arith, length-flat vs)) in
    rw (← c, e) (sym (all_found vs (drop (0 + length (flat vs)) room)))

-- and so do their numbers; the part from 0 on is as code cuts it
numbers-stand : (room : List ℤ) (vs : List Shown) (n : ℕ) → length vs ≡ n → length vs * 5 ≤ length room → take (n * 5 - 0) (sets room 0 (flat vs)) ≡ flat (shown_first (sets room 0 (flat vs)) n)
numbers-stand room vs n c h =
    let d : n * 5 - 0 ≡ length (flat vs) = omega (arith, c, length-flat vs) in
    let e : take (n * 5 - 0) (sets room 0 (flat vs)) ≡ flat vs = rw d (stored-first room (flat vs) (omega (arith, length-flat vs))) in
    e ∙ ap flat (stands room vs n c h)

-- by what was answered
passed-of : {s : List ℕ} (res : Left) (room left : List ℤ) → Tells s res → length room ≡ 1280 → left ≡ sets room 0 res.numbers → (n : ℕ) → res.told ≡ done n → CheckedTo s left (passed (shown_first left n)) n
passed-of _ room left (checks xs p (passed vs) e c h) l f n q =
    let k : length vs ≡ n = cc in
    record { steps = xs; end = p; parsed = e; checked = c ∙ rw f (ap passed (stands room vs n k (omega arith))); stored = rw f (numbers-stand room vs n k (omega arith)); few = omega (arith, k, h) }
passed-of _ room left (checks xs p (refused_at vs r) e c h) l f n q = let z : ◌≡◌ {A = ℕ} 0 1 = cc in absurd (omega arith)
passed-of _ room left (unread m p e) l f n q = let z : ◌≡◌ {A = ℕ} 0 1 = cc in absurd (omega arith)

refused-of : {s : List ℕ} (res : Left) (room left : List ℤ) → Tells s res → length room ≡ 1280 → left ≡ sets room 0 res.numbers → (n : ℕ) (why : Refusal) → res.told ≡ at_step (number_of why) n → CheckedTo s left (refused_at (shown_first left n) why) n
refused-of _ room left (checks xs p (passed vs) e c h) l f n why q = let z : ◌≡◌ {A = ℕ} 0 1 = cc in absurd (omega arith)
refused-of _ room left (checks xs p (refused_at vs r) e c h) l f n why q =
    let k : length vs ≡ n = cc in
    let b : number_of r ≡ number_of why = cc in
    record { steps = xs; end = p; parsed = e; checked = c ∙ rw (f, ← number-tells r why b) (ap (λ ws. refused_at ws r) (stands room vs n k (omega arith))); stored = rw f (numbers-stand room vs n k (omega arith)); few = omega (arith, k, h) }
refused-of _ room left (unread m p e) l f n why q = let z : ◌≡◌ {A = ℕ} 0 1 = cc in absurd (omega arith)

unread-of : {s : List ℕ} (res : Left) → Tells s res → (m q : ℕ) → res.told ≡ at_byte m q → parse s ≡ refused m q
unread-of _ (checks xs p (passed vs) e c h) m q f = let z : ◌≡◌ {A = ℕ} 0 1 = cc in absurd (omega arith)
unread-of _ (checks xs p (refused_at vs r) e c h) m q f = let z : ◌≡◌ {A = ℕ} 0 1 = cc in absurd (omega arith)
unread-of _ (unread n p e) m q f =
    let a : n ≡ m = cc in
    let b : p ≡ q = cc in
    rw (← a, ← b) e

never-of : {s : List ℕ} (res : Left) → Tells s res → (m : ℕ) → res.told ≡ refused_by m → ⊥
never-of _ (checks xs p (passed vs) e c h) m f = let z : ◌≡◌ {A = ℕ} 0 1 = cc in omega arith
never-of _ (checks xs p (refused_at vs r) e c h) m f = let z : ◌≡◌ {A = ℕ} 0 1 = cc in omega arith
never-of _ (unread n p e) m f = let z : ◌≡◌ {A = ℕ} 0 1 = cc in omega arith

-- of what the code answered
module _ (s : List ℕ) (room left : List ℤ) (a : Counted) (t : count_told a ≡ (checking w64 s room).told) (e : left ≡ sets room 0 (checking w64 s room).numbers) (l : length room ≡ 1280) where
  pub passed-check : (n : ℕ) → a ≡ Ok n → CheckedTo s left (passed (shown_first left n)) n
  passed-check n q = passed-of _ room left (tells s room l) l e n (sym t ∙ ap count_told q)

  pub refused-check : (why : Refusal) (n : ℕ) → a ≡ Err (AtStep why n) → CheckedTo s left (refused_at (shown_first left n) why) n
  refused-check why n q = refused-of _ room left (tells s room l) l e n why (sym t ∙ ap count_told q)

  pub unread-check : (why : Refusal) (p : ℕ) → a ≡ Err (AtByte why p) → parse s ≡ refused (number_of why) p
  unread-check why p q = unread-of _ (tells s room l) (number_of why) p (sym t ∙ ap count_told q)

  pub never-short : (why : Refusal) → a ≡ Err (By why) → ⊥
  never-short why q = never-of _ (tells s room l) (number_of why) (sym t ∙ ap count_told q)
