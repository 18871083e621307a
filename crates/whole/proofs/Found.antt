-- What the answer of an exact operation says of the number that was asked for.
use mathlib.Core.Path.{◌≡◌, refl}
use mathlib.Core.Bool.{Bool, true, false}
use Prim.Native.Nat.{ℕ}
use native.Mathlib.Omega.{arith}
use lib.IntN.{ℤ}
use mir.Syntax.{Width}
use Rattle.std.specs.Prelude.{None, Some}
use Rattle.whole.specs.Choice.{pick}
use Rattle.whole.specs.Range.{fits?}
use Rattle.whole.specs.Exact.{exactly}

-- a number that was asked for is the one that was found
pub found-is : (w : Width) (z k : ℤ) → exactly w z ≡ Some k → k ≡ z
unfolding exactly
found-is w z k h = go (fits? w z) h
  where
    go : (t : Bool) → pick t (Some z) None ≡ Some k → k ≡ z
    go true e = cc
    go false e = let i : ◌≡◌ {A = ℕ} 0 1 = cc in absurd (omega arith)

pub found-fits : (w : Width) (z k : ℤ) → exactly w z ≡ Some k → fits? w z ≡ true
unfolding exactly
found-fits w z k h = go (fits? w z) h
  where
    go : (t : Bool) → pick t (Some z) None ≡ Some k → t ≡ true
    go true e = refl
    go false e = let i : ◌≡◌ {A = ℕ} 0 1 = cc in absurd (omega arith)

pub not_found : (w : Width) (z : ℤ) → exactly w z ≡ None → fits? w z ≡ false
unfolding exactly
not_found w z h = go (fits? w z) h
  where
    go : (t : Bool) → pick t (Some z) None ≡ None → t ≡ false
    go true e = let i : ◌≡◌ {A = ℕ} 0 1 = cc in absurd (omega arith)
    go false e = refl
