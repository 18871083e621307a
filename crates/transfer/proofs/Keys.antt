-- The operator's number, as the code's match finds it, and what the calls on it ensure.
use mathlib.Core.Path.{◌≡◌, sym, ap, ◌∙◌}
use mathlib.Core.Bool.{false}
use native.Mathlib.Omega.{arith}
use Prim.Native.Nat.{ℕ, suc}
use lib.IntN.{ℤ, pos, negsuc}
use mir.Syntax.{w64}
use mir.Val.{SFits, to_z, of_z}
use mir.Facts.{to_z-of_z}
use Rattle.whole.specs.Whole.{up}
use Rattle.whole.specs.Test.{◌≟◌}
use Rattle.whole.proofs.Decides.{unequal}
use Rattle.refusal.specs.declared.Refusal.{Refusal}
use Rattle.transfer.specs.Operator.{other}

module _ (op : ℤ) (n : ℕ) (h : n ≡ up (to_z w64 (of_z w64 op))) (f : SFits w64 op) where
  number : n ≡ up op
  number = simp (to_z-of_z f) at h

  -- an operator that was found
  pub key : (k : ℕ) → n ≡ suc k → op ≡ pos (suc k)
  key k e = found op k (sym number ∙ e)
    where
      found : (op : ℤ) (k : ℕ) → up op ≡ suc k → op ≡ pos (suc k)
      found (pos n) k e = ap pos e
      found (negsuc n) k e = absurd (omega (arith, e))

  -- and one that was passed over
  pub passed : (k : ℕ) → (n ≡ k → ⊥) → (op ≟ pos k) ≡ false
  passed k c = unequal {x = op} {y = pos k} (λ s. c (number ∙ ap up s))

pub other-called : (op : ℤ) (r : Refusal) → r ≡ other (to_z w64 (of_z w64 op)) → SFits w64 op → r ≡ other op
other-called op r h f = simp (to_z-of_z f) at h
