-- Demand 3 at every width, for sheets whose numbers fit it, and so at 64 bits for all sheets that are read; for the answers of `check` and `run` too; what is answered is determined.
use mathlib.Core.Path.{◌≡◌, refl, sym, ap, ◌∙◌}
use mathlib.Core.Logic.{◌≢◌}
use mathlib.Core.Bool.{Bool, true, false}
use mathlib.Core.List.{List, [], ◌∷◌, ◌++◌}
use Prim.Native.Nat.{ℕ, suc, ◌+◌, ◌*◌, ◌≤◌}
use native.Mathlib.Omega.{arith}
use borrow.Author.Tests.{leb-true}
use lib.Dec.{leb}
use lib.IntN.{ℤ, pos}
use lib.ListN.{length, get_or, take, length-append, get_or-append}
use lib.Seq.{sets, sets-eq, take_at}
use mir.Syntax.{Width, w64}
use Rattle.refusal.specs.declared.Refusal.{Refusal}
use Rattle.refusal.specs.Number.{number_of}
use Rattle.std.specs.Prelude.{Ok, Err}
use Rattle.refusal.specs.declared.Fault.TheVariants.{AtStep}
use Rattle.refusal.specs.Answer.{Told, done, at_step, at_byte, refused_by}
use Rattle.refusal.specs.Count.{Counted, count_told}
use Rattle.refusal.proofs.Claims.{number-tells, count-tells}
use Rattle.whole.specs.Choice.{pick}
use Rattle.sheet.specs.Lent.{Bytes}
use Rattle.sheet.specs.Got.{Got, got, refused}
use Rattle.sheet.specs.declared.step.Step.{Step}
use Rattle.sheet.specs.Sheet.{parse}
use Rattle.sheet.proofs.Claims.{read-valid}
use Rattle.step.specs.declared.show.Shown.{Shown}
use Rattle.step.specs.Show.{zero_shown}
use Rattle.step.specs.Run.{run_op}
use Rattle.step.specs.Stopping.{stopping}
use Rattle.step.proofs.Claims.{lawful}
use Rattle.panel.specs.Run.{actions_of, run_sheet}
use Rattle.panel.specs.Answer.{RanAt, Ran}
use Rattle.panel.proofs.Told.{actions-length}
use Rattle.panel.proofs.Answers.{runs-read, ran-suited}
use Rattle.desk.specs.Check.{Check, passed, refused_at, shown_by, check_from, check_sheet}
use Rattle.desk.specs.Five.{flat, shown_in}
use Rattle.desk.specs.Promise.{AllValid, AllGood, Suits, Each, none, next, Ends, StopsAfter}
use Rattle.desk.specs.Answer.{Left, nothing, result_of, checked_on, CheckedAt, Checked}
use Rattle.desk.specs.Kept.{InRanges, Reaches, StopsThereAt, StopsThere, Within}
use Rattle.desk.proofs.ClaimsDemand as Demand
use Rattle.desk.proofs.Taken.{all_valid, suits-tells}
use Rattle.desk.proofs.Fives.{length-flat, found}
use Rattle.desk.proofs.Answers.{checks-read, checks-refused}

-- ---- demand 3

-- at a width, for a sheet whose constants and ends of ranges fit it
module _ (w : Width) (steps : List Step) (valid : AllValid (stopping w) (actions_of steps)) where
  -- if the sheet passes, then for all inputs in their ranges the run reaches the last step and each number lies in what is shown
  pub passed-runs-at : (vs : List Shown) → check_sheet (stopping w) steps ≡ passed vs → (ins : List ℤ) → Suits (actions_of steps) ins → Ends (stopping w) (run_sheet (run_op w) ins steps) vs
  passed-runs-at vs c ins t = Demand.passed-runs (stopping w) (lawful w) (actions_of steps) valid vs c ins t

  -- if it is refused at a step, all earlier steps pass, and the operands' shown ranges hold numbers, each drawn from its own, on which that step stops for that reason
  pub refused-stops-at : (vs : List Shown) (r : Refusal) → check_sheet (stopping w) steps ≡ refused_at vs r → StopsAfter (stopping w) (check_from (stopping w) []) (actions_of steps) vs r
  refused-stops-at vs r c = Demand.refused-stops (stopping w) (lawful w) (actions_of steps) valid vs r c

  -- each shown value has a range with a number, whose numbers fit, and a canonical spacing of the width
  pub shown-good-at : AllGood (stopping w) (shown_by (check_sheet (stopping w) steps))
  shown-good-at = Demand.all-good (stopping w) (lawful w) (actions_of steps) valid

-- at 64 bits, for every sheet that is read
within_64 : (s : List ℕ) → Bytes s → Within w64 s
within_64 s bytes steps end read = all_valid steps (read-valid s bytes steps end read).steps

module _ (s : List ℕ) (bytes : Bytes s) (steps : List Step) (end : ℕ) (read : parse s ≡ got steps end) where
  pub passed-sheet-runs : (vs : List Shown) → check_sheet (stopping w64) steps ≡ passed vs → (ins : List ℤ) → Suits (actions_of steps) ins → Ends (stopping w64) (run_sheet (run_op w64) ins steps) vs
  passed-sheet-runs = passed-runs-at w64 steps (within_64 s bytes steps end read)

  pub refused-step-stops : (vs : List Shown) (r : Refusal) → check_sheet (stopping w64) steps ≡ refused_at vs r → StopsAfter (stopping w64) (check_from (stopping w64) []) (actions_of steps) vs r
  refused-step-stops = refused-stops-at w64 steps (within_64 s bytes steps end read)

  pub shown-good : AllGood (stopping w64) (shown_by (check_sheet (stopping w64) steps))
  shown-good = shown-good-at w64 steps (within_64 s bytes steps end read)

-- ---- what is answered is determined

-- any two answers that the promise of `check` admits are equal, and the rooms with them
pub check-determined : (bytes : List ℕ) (room after after' : List ℤ) (r r' : Counted) → Checked bytes room after r → Checked bytes room after' r' → (r ≡ r') × (after ≡ after')
check-determined bytes room after after' r r' h h' = (count-tells r r' (h.0 ∙ sym h'.0), h.1 ∙ sym h'.1)

-- ---- demand 3 for the answers of `check` and `run`

each-as-many : (w : Width) {ns : List ℤ} {vs : List Shown} → Each (stopping w) ns vs → length ns ≡ length vs
each-as-many w none = refl
each-as-many w (next h e) = ap suc (each-as-many w e)

-- the check of a sheet that was read, if the room suffices
record Walked (w : Width) (steps : List Step) (room after : List ℤ) (t : Told) : Type 0 where
  check : Check Shown
  is : check_sheet (stopping w) steps ≡ check
  tells : t ≡ (result_of check).told
  stands : after ≡ sets room 0 (result_of check).numbers
  enough : length steps * 5 ≤ length room

module _ (w : Width) (steps : List Step) (room after : List ℤ) (t : Told) (other : t ≢ refused_by 16) where
  walked : (t ≡ (checked_on w steps room).told) × (after ≡ sets room 0 (checked_on w steps room).numbers) → Walked w steps room after t
  unfolding checked_on
  walked h = by-room (leb (length steps * 5) (length room)) refl h
    where
      Chosen : Bool → Left
      Chosen b = pick b (result_of (check_sheet (stopping w) steps)) (nothing (refused_by 16))

      by-room : (b : Bool) → leb (length steps * 5) (length room) ≡ b → (t ≡ (Chosen b).told) × (after ≡ sets room 0 (Chosen b).numbers) → Walked w steps room after t
      by-room true e h = record { check = _; is = refl; tells = h.0; stands = h.1; enough = leb-true (length steps * 5) (length room) e }
      by-room false e h = absurd (other h.0)

module _ (w : Width) (bytes : List ℕ) (within : Within w bytes) where
  -- if `check_at` passes a sheet, then for all inputs in their ranges `run_at` ends, and each number in its room lies in what stands in the check's room
  pub passed-at : (room shown : List ℤ) (n : ℕ) → CheckedAt w bytes room shown (Ok n) → (ins : List ℤ) → InRanges bytes ins → (room' numbers : List ℤ) (r : Counted) → n ≤ length room' → RanAt w bytes ins room' numbers r → Reaches n shown numbers r
  passed-at room shown n h ins i room' numbers r l g =
      let k = walked w i.steps room shown (done n) (λ e. let z : ◌≡◌ {A = ℕ} 0 1 = cc in omega arith) (rw (checks-read w bytes room i.steps i.end i.read) at h) in
      by-check k.check k.is k.tells k.stands k.enough
    where
      by-check : (c : Check Shown) → check_sheet (stopping w) i.steps ≡ c → done n ≡ (result_of c).told → shown ≡ sets room 0 (result_of c).numbers → length i.steps * 5 ≤ length room → Reaches n shown numbers r
      by-check (refused_at vs q) c t s e = let z : ◌≡◌ {A = ℕ} 0 1 = cc in absurd (omega arith)
      by-check (passed vs) c t s e =
          let d = passed-runs-at w i.steps (within i.steps i.end i.read) vs c ins i.suits in
          let m : n ≡ length vs = cc in
          let y : length vs ≡ length i.steps = Demand.shows-each (stopping w) (actions_of i.steps) vs c ∙ actions-length i.steps in
          let x : length d.numbers ≡ length vs = each-as-many w d.each in
          let f : length (flat vs) ≤ length room = omega (arith, length-flat vs) in
          let a : (count_told r ≡ done (length d.numbers)) × (numbers ≡ sets room' 0 d.numbers) = rw (runs-read (run_op w) bytes ins room' i.steps i.end i.read, ran-suited (run_op w) i.steps ins room' (omega arith) (suits-tells (actions_of i.steps) ins i.suits), d.ends) at g in
          record {
            ends = count-tells r (Ok n) (a.0 ∙ ap done (x ∙ sym m));
            lies = λ k j.
                let p : shown_in shown k ≡ get_or vs k zero_shown = ap (λ t. shown_in t k) (s ∙ sets-eq (flat vs) room 0 (omega arith)) ∙ found vs _ k (omega arith) in
                let q : get_or numbers k (pos 0) ≡ get_or d.numbers k (pos 0) = ap (λ t. get_or t k (pos 0)) (a.1 ∙ sets-eq d.numbers room' 0 (omega arith)) ∙ get_or-append d.numbers _ (pos 0) k (omega arith) in
                rw (p, q) (Demand.look (stopping w) (lawful w) d.each k);
          }

  -- if `check_at` refuses a sheet at a step, the steps before it pass, with what stands in its room, and numbers of the operands' ranges stop that step
  pub refused-at : (room shown : List ℤ) (r : Refusal) (k : ℕ) → CheckedAt w bytes room shown (Err (AtStep r k)) → StopsThereAt w bytes shown r k
  refused-at room shown r k h = by-parse (parse bytes) refl
    where
      by-check : (steps : List Step) (end : ℕ) → parse bytes ≡ got steps end → (c : Check Shown) → check_sheet (stopping w) steps ≡ c → at_step (number_of r) k ≡ (result_of c).told → shown ≡ sets room 0 (result_of c).numbers → length steps * 5 ≤ length room → StopsThereAt w bytes shown r k
      by-check steps end g (passed vs) c t s e = let z : ◌≡◌ {A = ℕ} 0 1 = cc in absurd (omega arith)
      by-check steps end g (refused_at vs q) c t s e =
          let n : number_of q ≡ number_of r = cc in
          let m : length vs ≡ k = cc in
          let d = refused-stops-at w steps (within steps end g) vs r (c ∙ ap (refused_at vs) (number-tells q r n)) in
          let y : length vs ≡ length d.before = Demand.shows-each (stopping w) d.before vs d.earlier in
          let x : length steps ≡ length d.before + suc (length d.after) = sym (actions-length steps) ∙ ap length d.parts ∙ length-append d.before (d.step ∷ d.after) in
          let f : length (flat vs) ≤ length room = omega (arith, length-flat vs) in
          let z : length (flat vs) ≡ k * 5 = omega (arith, length-flat vs) in
          record {
            steps = steps;
            end = end;
            read = g;
            earlier = vs;
            in-room = ap (λ t. take (k * 5) t) (s ∙ sets-eq (flat vs) room 0 (omega arith)) ∙ take_at (flat vs) _ (k * 5) z;
            stops = d;
            place = omega arith;
          }

      by-parse : (g : Got (List Step)) → parse bytes ≡ g → StopsThereAt w bytes shown r k
      by-parse (got steps end) g =
          let k' = walked w steps room shown (at_step (number_of r) k) (λ e. let z : ◌≡◌ {A = ℕ} 0 1 = cc in omega arith) (rw (checks-read w bytes room steps end g) at h) in
          by-check steps end g k'.check k'.is k'.tells k'.stands k'.enough
      by-parse (refused n p) g =
          let e : at_step (number_of r) k ≡ at_byte n p = (rw (checks-refused w bytes room n p g) at h).0 in
          let z : ◌≡◌ {A = ℕ} 0 1 = cc in
          absurd (omega arith)

-- what stands in the room of a check that passed: five numbers for each of n shown values, and behind them what was there
pub record Fives (n : ℕ) (shown : List ℤ) : Type 0 where
  pub values : List Shown
  pub rest : List ℤ
  pub many : length values ≡ n
  pub in-room : shown ≡ flat values ++ rest

pub shown-fives : (bytes : List ℕ) (room shown : List ℤ) (n : ℕ) → Checked bytes room shown (Ok n) → Fives n shown
shown-fives bytes room shown n h = by-parse (parse bytes) refl
  where
    by-check : (steps : List Step) (c : Check Shown) → check_sheet (stopping w64) steps ≡ c → done n ≡ (result_of c).told → shown ≡ sets room 0 (result_of c).numbers → length steps * 5 ≤ length room → Fives n shown
    by-check steps (refused_at vs q) c t s e = let z : ◌≡◌ {A = ℕ} 0 1 = cc in absurd (omega arith)
    by-check steps (passed vs) c t s e =
        let m : length vs ≡ n = cc in
        let y : length vs ≡ length steps = Demand.shows-each (stopping w64) (actions_of steps) vs c ∙ actions-length steps in
        record { values = vs; rest = _; many = m; in-room = s ∙ sets-eq (flat vs) room 0 (omega (arith, length-flat vs)) }

    by-parse : (g : Got (List Step)) → parse bytes ≡ g → Fives n shown
    by-parse (got steps end) g =
        let k = walked w64 steps room shown (done n) (λ e. let z : ◌≡◌ {A = ℕ} 0 1 = cc in omega arith) (rw (checks-read w64 bytes room steps end g) at h) in
        by-check steps k.check k.is k.tells k.stands k.enough
    by-parse (refused m p) g =
        let e : done n ≡ at_byte m p = (rw (checks-refused w64 bytes room m p g) at h).0 in
        let z : ◌≡◌ {A = ℕ} 0 1 = cc in
        absurd (omega arith)

-- and so for `check` and `run`, at 64 bits
module _ (bytes : List ℕ) (lent : Bytes bytes) where
  pub passed-code : (room shown : List ℤ) (n : ℕ) → Checked bytes room shown (Ok n) → (ins : List ℤ) → InRanges bytes ins → (room' numbers : List ℤ) (r : Counted) → n ≤ length room' → Ran bytes ins room' numbers r → Reaches n shown numbers r
  passed-code = passed-at w64 bytes (within_64 bytes lent)

  pub refused-code : (room shown : List ℤ) (r : Refusal) (k : ℕ) → Checked bytes room shown (Err (AtStep r k)) → StopsThere bytes shown r k
  refused-code = refused-at w64 bytes (within_64 bytes lent)
