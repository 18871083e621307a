use Prim.Native.Nat.{ℕ, ◌≤◌}
use mathlib.Core.Path.{◌≡◌, refl, sym, ◌∙◌}
use mathlib.Core.Bool.{true, false}
use native.Mathlib.Omega.{arith}
use lib.IntN.{pos}
use mir.Syntax.{w64}
use mir.Val.{SFits}
use Rattle.whole.specs.Test.{◌<?◌}
use Rattle.whole.proofs.Linear.{ints}
use Rattle.whole.proofs.Decides.{lt_test, is_true, is_false}
use Rattle.whole.proofs.Flags.{flags, le-true, le-false}
use Rattle.sheet.proofs.faults.check_field.Goals as goal
use Rattle.sheet.proofs.faults.check_field.Goals.{then-x-lt0, else-x-lt0}

pub returns-in-High : goal.returns-in-High
returns-in-High c = rw c.in-High.is (search flags)

pub returns-in_default : goal.returns-in_default
returns-in_default c = rw c.in-High.is (search flags)

-- step k's number in 64 bits
place : (k : ℕ) → k ≤ 256 → SFits w64 (pos k)
place k h = record { sfits = omega arith }

pub returns-in-Earlier : goal.returns-in-Earlier
returns-in-Earlier c = rw c.in-Earlier.is (elim c.if-x-lt0.branch [
  | then-x-lt0 w ↦ search flags
  | else-x-lt0 w ↦
      let x = c.args.x in
      let k = pos c.args.k in
      let le = le-true {w = w64} {a = k} {b = x} (place c.args.k c.requires) c.ranges.x (sym w.value-is ∙ c.if-k-x.true) in
      let n : (x <? pos 0) ≡ false = search flags in
      let l : (x <? k) ≡ false = is_false (lt_test x k) (λ lt. omega (ints, lt, le)) in
      rw (n, l) refl
])

pub returns-in_default-2 : goal.returns-in_default-2
returns-in_default-2 c = rw c.in-Earlier.is (elim c.if-x-lt0.branch [
  | then-x-lt0 w ↦ let z : ◌≡◌ {A = ℕ} 0 1 = cc (w.if-x-lt0.true, w.value-is, c.if-k-x.false) in absurd (omega arith)
  | else-x-lt0 w ↦
      let x = c.args.x in
      let k = pos c.args.k in
      let lt = le-false {w = w64} {a = k} {b = x} (place c.args.k c.requires) c.ranges.x (sym w.value-is ∙ c.if-k-x.false) in
      let n : (x <? pos 0) ≡ false = search flags in
      let l : (x <? k) ≡ true = is_true (lt_test x k) (λ le. omega (ints, lt, le)) in
      rw (n, l) refl
])
