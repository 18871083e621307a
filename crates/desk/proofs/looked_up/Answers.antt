use mathlib.Core.Path.{◌≡◌, refl}
use Prim.Native.Nat.{◌+◌, ◌*◌}
use native.Mathlib.Omega.{arith}
use borrow.Author.Tests.{lt-ltb, le-ltb}
use lib.IntN.{pos}
use lib.ListN.{get_or}
use mir.Syntax.{w64}
use mir.Val.{to_z, of_z}
use Rattle.desk.specs.Five.{looked_up, shown_in}
use borrow.Author.Rules.{rules}
use Rattle.desk.proofs.looked_up.Goals as goal

pub returns-then-k-p : goal.returns-then-k-p
unfolding looked_up shown_in
returns-then-k-p c = rw (le-ltb c.args.p c.args.k c.if-k-p.true) refl

pub returns : goal.returns
unfolding looked_up shown_in
returns c =
    let a = c.args in
    let l = a.room.now in
    let i = a.p * 5 in
    let e₀ : to_z w64 (of_z w64 (get_or l i (pos 0))) ≡ get_or l i (pos 0) = search rules in
    let e₁ : to_z w64 (of_z w64 (get_or l (i + 1) (pos 0))) ≡ get_or l (i + 1) (pos 0) = search rules in
    let e₂ : to_z w64 (of_z w64 (get_or l (i + 2) (pos 0))) ≡ get_or l (i + 2) (pos 0) = search rules in
    let e₃ : to_z w64 (of_z w64 (get_or l (i + 3) (pos 0))) ≡ get_or l (i + 3) (pos 0) = search rules in
    let e₄ : to_z w64 (of_z w64 (get_or l (i + 4) (pos 0))) ≡ get_or l (i + 4) (pos 0) = search rules in
    rw (lt-ltb a.p a.k (omega arith)) (cc (e₀, e₁, e₂, e₃, e₄))
