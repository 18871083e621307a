-- How many bytes texts take together.
use Prim.Native.Nat.{ℕ, ◌+◌}
use mathlib.Core.Path.{◌≡◌, refl}
use mathlib.Core.List.{List, [], ◌∷◌, ◌++◌}
use native.Mathlib.Omega.{arith}
use lib.ListN.{length, length-append}
use Rattle.say.specs.Said.{joined, size}

pub size-append : (ts us : List (List ℕ)) → size (ts ++ us) ≡ size ts + size us
size-append [] us = omega arith
size-append (t ∷ ts) us = omega (arith, size-append ts us)

pub joined-size : (ts : List (List ℕ)) → length (joined ts) ≡ size ts
unfolding joined
joined-size [] = refl
joined-size (t ∷ ts) = omega (arith, length-append t (joined ts), joined-size ts)
