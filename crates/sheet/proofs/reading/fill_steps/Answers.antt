use mathlib.Core.List.{[]}
use Prim.Native.Nat.{ℕ, ◌+◌, ◌-◌}
use mathlib.Core.Path.{◌≡◌, refl, sym, ap, ◌∙◌}
use mathlib.Core.List.{List, ◌∷◌}
use native.Mathlib.Omega.{arith}
use borrow.Author.Rules.{rules}
use lib.Dec.{ltb}
use lib.ListN.{length, length-set}
use mir.Syntax.{w64}
use mir.Val.{of_z, to_z}
use Rattle.sheet.specs.Got.{Got, fine, wrong, verdict_of}
use Rattle.sheet.specs.Step.{Step}
use Rattle.sheet.specs.Sheet.{steps_from, steps_in, flat}
use Rattle.sheet.proofs.Parts.{put, steps-done, turn_step, turn-refused, verdict-put, flat-put, flat-done, sets-four}
use Rattle.sheet.proofs.reading.fill_steps.Goals as goal

pub loop-k-init : goal.loop-k-init
loop-k-init c =
    let e : c.args.n - 0 ≡ c.args.n = omega arith in
    (search rules, rw e c.requires.2, refl, rw e)

pub loop-k-preserved : goal.loop-k-preserved
loop-k-preserved c =
    let x = c.loop-k in
    let a = c.args in
    let step = c.in-Ok.step in
    let rest : Got (List Step) = steps_from (a.n - (x.k + 1)) a.s.now (x.k + 1) c.in-Ok.next in
    let t : steps_from (a.n - x.k) a.s.now x.k x.at ≡ put step rest = turn_step a.n x.k a.s.now x.at _ _ c.loop-k-test.true (sym c.in-Ok.ensures) in
    let right : verdict_of rest ≡ fine = sym (ap verdict_of t ∙ verdict-put _ rest) ∙ x.invariant.1 in
    let l : flat (steps_in (steps_from (a.n - x.k) a.s.now x.k x.at)) ≡ step.operator ∷ step.a ∷ step.b ∷ step.c ∷ flat (steps_in rest) = ap (λ (y : Got (List Step)). flat (steps_in y)) t ∙ flat-put _ rest right in
    let e₀ : to_z w64 (of_z w64 step.operator) ≡ step.operator = search rules in
    let e₁ : to_z w64 (of_z w64 step.a) ≡ step.a = search rules in
    let e₂ : to_z w64 (of_z w64 step.b) ≡ step.b = search rules in
    let e₃ : to_z w64 (of_z w64 step.c) ≡ step.c = search rules in
    (omega arith, right, simp length-set x.invariant.2, x.invariant.3 ∙ rw (e₀, e₁, e₂, e₃, l) (sets-four x.out x.k _ _ _ _ (flat (steps_in rest))))

pub shape_of-out : goal.shape_of-out
shape_of-out c = c.loop-k.invariant.2

pub returns : goal.returns
returns c =
    let x = c.loop-k in
    let a = c.args in
    let l : flat (steps_in (steps_from (a.n - x.k) a.s.now x.k x.at)) ≡ [] = ap (λ (y : Got (List Step)). flat (steps_in y)) (steps-done a.n x.k a.s.now x.at c.loop-k-test.false) ∙ flat-done (ltb x.at (length a.s.now)) x.at in
    sym (x.invariant.3 ∙ rw l)

-- the steps were checked
pub returns-in_default : goal.returns-in_default
returns-in_default c =
    let x = c.loop-k in
    let a = c.args in
    let e : verdict_of (steps_from (a.n - x.k) a.s.now x.k x.at) ≡ wrong _ _ = ap verdict_of (turn-refused a.n x.k a.s.now x.at _ _ c.loop-k-test.true (sym c.in_default.ensures)) in
    let z : ◌≡◌ {A = ℕ} 0 1 = cc (e, x.invariant.1) in
    absurd (omega arith)
