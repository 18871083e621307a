use mathlib.Core.Path.{◌≡◌}
use lib.IntN.{pos}
use Prim.Native.Nat.{◌+◌, ◌*◌}
use lib.ListN.{get_or}
use mir.Syntax.{w64}
use mir.Val.{to_z, of_z}
use borrow.Author.Rules.{rules}
use Rattle.panel.proofs.action_at.Goals as goal

pub returns : goal.returns
returns c = let a = c.args in let l = a.steps.now in let i = a.k * 4 in let e₀ : to_z w64 (of_z w64 (get_or l i (pos 0))) ≡ get_or l i (pos 0) = search rules in let e₁ : to_z w64 (of_z w64 (get_or l (i + 1) (pos 0))) ≡ get_or l (i + 1) (pos 0) = search rules in let e₂ : to_z w64 (of_z w64 (get_or l (i + 2) (pos 0))) ≡ get_or l (i + 2) (pos 0) = search rules in let e₃ : to_z w64 (of_z w64 (get_or l (i + 3) (pos 0))) ≡ get_or l (i + 3) (pos 0) = search rules in rw (e₀, e₁, e₂, e₃) at c.action_of.ensures
