use Rattle.sheet.proofs.Listed.{fourth, bytes_next, bytes-ended, sets-append}
use lib.Seq.{length-sets}
use Rattle.sheet.specs.Sheet.{steps_bytes, steps_of}
use Rattle.sheet.specs.Step.{step_bytes}
use mir.Val.{of_z, to_z}
use mir.Syntax.{w64}
use lib.ListN.{length, drop, get_or, length-append}
use lib.IntN.{pos}
use native.Mathlib.Omega.{arith}
use mathlib.Core.List.{◌++◌}
use mathlib.Core.Path.{◌≡◌, refl, sym, ap, ◌∙◌}
use Prim.Native.Nat.{◌+◌, ◌*◌}
use borrow.Author.Rules.{rules}
use Rattle.sheet.proofs.writing.fill_listed.Goals as goal
use Rattle.sheet.proofs.writing.fill_listed.Goals.{In-loop-k}

-- the bytes of a turn, and those that are left
more : (w : In-loop-k) → steps_bytes (steps_of (drop (w.loop-k.k * 4) w.args.steps.now)) ≡ step_bytes (fourth w.args.steps.now w.loop-k.k) ++ steps_bytes (steps_of (drop ((w.loop-k.k + 1) * 4) w.args.steps.now))
more w = bytes_next w.args.steps.now w.args.n w.loop-k.k w.requires.1 w.loop-k-test.true

pub loop-k-init : goal.loop-k-init
loop-k-init c = (search rules, refl, c.requires.2, refl)

pub fill_step-at-requires : goal.fill_step-at-requires
fill_step-at-requires c =
    let w = (goal.at.fill_step-at-requires c).In-loop-k in
    let x = c.loop-k in
    let l = c.args.steps.now in
    let i = c.loop-k.k * 4 in
    let e₀ : to_z w64 (of_z w64 (get_or l i (pos 0))) ≡ get_or l i (pos 0) = search rules in
    let e₁ : to_z w64 (of_z w64 (get_or l (i + 1) (pos 0))) ≡ get_or l (i + 1) (pos 0) = search rules in
    let e₂ : to_z w64 (of_z w64 (get_or l (i + 2) (pos 0))) ≡ get_or l (i + 2) (pos 0) = search rules in
    let e₃ : to_z w64 (of_z w64 (get_or l (i + 3) (pos 0))) ≡ get_or l (i + 3) (pos 0) = search rules in
    rw (e₀, e₁, e₂, e₃) (omega (arith, simp length-append at (ap length (more w)), x.invariant.1, x.invariant.2))

pub loop-k-smaller : goal.loop-k-smaller
loop-k-smaller c = omega arith

pub loop-k-preserved : goal.loop-k-preserved
loop-k-preserved c =
    let v = (goal.at.loop-k-preserved c).In-loop-k in
    let x = v.loop-k in
    let l = c.args.steps.now in
    let i = c.loop-k.k * 4 in
    let e₀ : to_z w64 (of_z w64 (get_or l i (pos 0))) ≡ get_or l i (pos 0) = search rules in
    let e₁ : to_z w64 (of_z w64 (get_or l (i + 1) (pos 0))) ≡ get_or l (i + 1) (pos 0) = search rules in
    let e₂ : to_z w64 (of_z w64 (get_or l (i + 2) (pos 0))) ≡ get_or l (i + 2) (pos 0) = search rules in
    let e₃ : to_z w64 (of_z w64 (get_or l (i + 3) (pos 0))) ≡ get_or l (i + 3) (pos 0) = search rules in
    let r = rw (e₀, e₁, e₂, e₃) at c.fill_step-at.ensures.0 in
    let o = rw (e₀, e₁, e₂, e₃) at c.fill_step-at.ensures.1 in (
      omega arith,
      rw (o, length-sets) x.invariant.1,
      omega (arith, simp length-append at (ap length (more v)), r, x.invariant.2),
      x.invariant.3 ∙ rw (more v, r, o) (sets-append (step_bytes (fourth v.args.steps.now x.k)) (steps_bytes (steps_of (drop ((x.k + 1) * 4) v.args.steps.now))) x.out x.at),
    )

pub shape_of-out : goal.shape_of-out
shape_of-out c = c.loop-k.invariant.1

pub returns : goal.returns
returns c =
    let x = c.loop-k in
    sym (x.invariant.3 ∙ rw (bytes-ended c.args.steps.now c.args.n x.k c.requires.1 c.loop-k-test.false))
