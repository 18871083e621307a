-- Every number is an operator's or outside 2 to 15; and by which numbers the answer of an operator that the Rust has an arm for may be refused.
use mathlib.Core.Path.{◌≡◌, refl}
use mathlib.Core.Logic.{◌⊎◌, inl, inr}
use mathlib.Core.Bool.{true, false}
use Prim.Native.Nat.{ℕ, zero, suc, ◌≤◌}
use lib.IntN.{ℤ, pos, negsuc}
use lib.Signed.{◌≤ℤ◌, ◌<ℤ◌}
use Rattle.whole.specs.Test.{◌≟◌}
use Rattle.whole.proofs.Decides.{lt_test, either, is_true, yes, unequal}
use Rattle.whole.proofs.Shapes.{lin}
use Rattle.transfer.specs.Operator.{outside?}
use Rattle.transfer.specs.Refuses.{Refuses}

-- the operators, and all other numbers
pub data Operator : ℤ → Type 0 where
  add : Operator (pos 2)
  sub : Operator (pos 3)
  mul : Operator (pos 4)
  div : Operator (pos 5)
  rem : Operator (pos 6)
  equal : Operator (pos 7)
  and : Operator (pos 8)
  or : Operator (pos 9)
  less : Operator (pos 10)
  greater : Operator (pos 11)
  at_most : Operator (pos 12)
  at_least : Operator (pos 13)
  inverse : Operator (pos 14)
  same : Operator (pos 15)
  none : {op : ℤ} → outside? op ≡ true → Operator op

outside : (op : ℤ) → (op <ℤ pos 2) ⊎ (pos 15 <ℤ op) → outside? op ≡ true
outside op h = is_true (either (lt_test op (pos 2)) (lt_test (pos 15) op)) (out h)
  where
    out : (op <ℤ pos 2) ⊎ (pos 15 <ℤ op) → (pos 2 ≤ℤ op) × (op ≤ℤ pos 15) → ⊥
    out (inl h) k = omega lin
    out (inr h) k = omega lin

pub operator : (op : ℤ) → Operator op
operator (negsuc n) = none (outside (negsuc n) (inl (omega lin)))
operator (pos n) = go n
  where
    go : (n : ℕ) → Operator (pos n)
    go zero = none (outside (pos 0) (inl (omega lin)))
    go (suc zero) = none (outside (pos 1) (inl (omega lin)))
    go (suc (suc zero)) = add
    go (suc (suc (suc zero))) = sub
    go (suc (suc (suc (suc zero)))) = mul
    go (suc (suc (suc (suc (suc zero))))) = div
    go (suc (suc (suc (suc (suc (suc zero)))))) = rem
    go (suc (suc (suc (suc (suc (suc (suc zero))))))) = equal
    go (suc (suc (suc (suc (suc (suc (suc (suc zero)))))))) = and
    go (suc (suc (suc (suc (suc (suc (suc (suc (suc zero))))))))) = or
    go (suc (suc (suc (suc (suc (suc (suc (suc (suc (suc zero)))))))))) = less
    go (suc (suc (suc (suc (suc (suc (suc (suc (suc (suc (suc zero))))))))))) = greater
    go (suc (suc (suc (suc (suc (suc (suc (suc (suc (suc (suc (suc zero)))))))))))) = at_most
    go (suc (suc (suc (suc (suc (suc (suc (suc (suc (suc (suc (suc (suc zero))))))))))))) = at_least
    go (suc (suc (suc (suc (suc (suc (suc (suc (suc (suc (suc (suc (suc (suc zero)))))))))))))) = inverse
    go (suc (suc (suc (suc (suc (suc (suc (suc (suc (suc (suc (suc (suc (suc (suc zero))))))))))))))) = same
    go (suc (suc (suc (suc (suc (suc (suc (suc (suc (suc (suc (suc (suc (suc (suc (suc n)))))))))))))))) = none (outside (pos (suc (suc (suc (suc (suc (suc (suc (suc (suc (suc (suc (suc (suc (suc (suc (suc n))))))))))))))))) (inr (omega lin)))

-- a number outside is none of the operators
pub far : (op : ℤ) (k : ℕ) → outside? op ≡ true → 2 ≤ k → k ≤ 15 → (op ≟ pos k) ≡ false
far op k e l h = unequal {x = op} {y = pos k} (λ s. out s (yes (either (lt_test op (pos 2)) (lt_test (pos 15) op)) e))
  where
    out : op ≡ pos k → (op <ℤ pos 2) ⊎ (pos 15 <ℤ op) → ⊥
    out s (inl u) = omega lin
    out s (inr u) = omega lin

-- refused neither by 1 nor by 4
pub data Own : ℕ → Type 0 where
  value : Own 0
  wide : Own 2
  asserts : Own 3

pub own : {n : ℕ} → Own n → Refuses n false false
own value = record { by-1 = refl; by_4 = refl }
own wide = record { by-1 = refl; by_4 = refl }
own asserts = record { by-1 = refl; by_4 = refl }
