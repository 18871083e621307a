-- The walk of a check: what was put into the room is what the earlier steps show, and what is left gives the answer.
use mathlib.Core.Path.{◌≡◌, refl, sym, ap, ◌∙◌}
use mathlib.Core.List.{List, [], ◌∷◌, ◌++◌}
use Prim.Native.Nat.{ℕ, ◌+◌, ◌*◌, ◌≤◌, ◌<◌}
use native.Mathlib.Omega.{arith}
use lib.IntN.{ℤ}
use lib.ListN.{length, drop, length-append}
use lib.Seq.{sets}
use mir.Syntax.{Width}
use Rattle.std.specs.Prelude.{Err, Ok}
use Rattle.refusal.specs.declared.Refusal.{Refusal}
use Rattle.refusal.specs.Number.{number_of}
use Rattle.step.specs.declared.Action.{Action}
use Rattle.step.specs.declared.Action.TheVariants.{Input, Does}
use Rattle.step.specs.declared.show.Shown.{Shown}
use Rattle.step.specs.Stopping.{stopping}
use Rattle.sheet.specs.Sheet.{steps_of}
use Rattle.panel.specs.Run.{actions_of, action_at}
use Rattle.panel.proofs.Walk.{actions-next, actions-ended}
use Rattle.desk.specs.Check.{passed, refused_at, check_step, check_from, check_sheet}
use Rattle.desk.specs.Five.{five_of, flat}
use Rattle.refusal.specs.Answer.{done, at_step}
use Rattle.desk.specs.Answer.{result_of, step_in}
use Rattle.desk.proofs.Fives.{looked, fives-start, fives-next, fives-done, fives-length}

pub record Walked (w : Width) (steps room₀ room : List ℤ) (k : ℕ) : Type 0 where
  pub shown : List Shown
  pub count : length shown ≡ k
  pub filled : room ≡ flat shown ++ drop (k * 5) room₀
  pub left : check_from (stopping w) shown (actions_of (steps_of (drop (k * 4) steps))) ≡ check_sheet (stopping w) (steps_of steps)

pub walked_start : (w : Width) (steps room : List ℤ) → Walked w steps room room 0
walked_start w steps room = record { shown = []; count = refl; filled = fives-start room; left = refl }

pub walked-length : {w : Width} {steps room₀ room : List ℤ} {k : ℕ} → Walked w steps room₀ room k → k * 5 ≤ length room₀ → length room ≡ length room₀
walked-length {room₀} {room} {k} x h = fives-length x.shown room₀ k x.count room x.filled h

-- the code looks its operands up in the room, the definition among what was shown
same_step : {w : Width} {steps room₀ room : List ℤ} {k : ℕ} → (x : Walked w steps room₀ room k) → (act : Action) → step_in w room k act ≡ check_step (stopping w) x.shown act
unfolding step_in check_step
same_step x (Input l h) = refl
same_step {room₀} {room} {k} x (Does o p q r) = rw (x.filled, looked x.shown (drop (k * 5) room₀) k p x.count, looked x.shown (drop (k * 5) room₀) k q x.count, looked x.shown (drop (k * 5) room₀) k r x.count) refl

module _ {w : Width} {steps room₀ room : List ℤ} {k : ℕ} (n : ℕ) (full : length steps ≡ n * 4) (x : Walked w steps room₀ room k) where
  pub walked_next : k < n → n * 5 ≤ length room₀ → (act : Action) (v : Shown) → act ≡ action_at steps k → step_in w room k act ≡ Ok v → (after : List ℤ) → after ≡ sets room (k * 5) (five_of v) → Walked w steps room₀ after (k + 1)
  unfolding check_from
  walked_next lt room_for act v a s after e =
      let h : check_step (stopping w) x.shown (action_at steps k) ≡ Ok v = ap (λ t. check_step (stopping w) x.shown t) (sym a) ∙ sym (same_step x act) ∙ s in
      let l = x.left in
      record {
        shown = x.shown ++ (v ∷ []);
        count = omega (arith, length-append x.shown (v ∷ []), x.count);
        filled = e ∙ fives-next x.shown room₀ k x.count room v x.filled (omega arith);
        left = rw h at (rw (actions-next steps n k full lt) at l);
      }

  pub walked-stops : k < n → n * 5 ≤ length room₀ → (act : Action) (r : Refusal) → act ≡ action_at steps k → step_in w room k act ≡ Err r →
      (at_step (number_of r) k ≡ (result_of (check_sheet (stopping w) (steps_of steps))).told) × (room ≡ sets room₀ 0 (result_of (check_sheet (stopping w) (steps_of steps))).numbers)
  unfolding check_from
  walked-stops lt room_for act r a s =
      let h : check_step (stopping w) x.shown (action_at steps k) ≡ Err r = ap (λ t. check_step (stopping w) x.shown t) (sym a) ∙ sym (same_step x act) ∙ s in
      let l = x.left in
      let e : refused_at x.shown r ≡ check_sheet (stopping w) (steps_of steps) = rw h at (rw (actions-next steps n k full lt) at l) in
      rw (← e) (ap (λ t. at_step (number_of r) t) (sym x.count), fives-done x.shown room₀ k x.count room x.filled (omega arith))

  pub walked-ends : n ≤ k → k ≤ n → k * 5 ≤ length room₀ →
      (done n ≡ (result_of (check_sheet (stopping w) (steps_of steps))).told) × (room ≡ sets room₀ 0 (result_of (check_sheet (stopping w) (steps_of steps))).numbers)
  unfolding check_from
  walked-ends ge le room_for =
      let l = x.left in
      let e : passed x.shown ≡ check_sheet (stopping w) (steps_of steps) = rw (actions-ended steps n k full ge) at l in
      let all : n ≡ k = omega (arith, ge, le) in
      rw (← e) (ap done (all ∙ sym x.count), fives-done x.shown room₀ k x.count room x.filled room_for)
