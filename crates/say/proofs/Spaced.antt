-- Numbers that are said one after the other.
use Prim.Native.Nat.{ℕ, zero, suc, ◌+◌, ◌≤◌, ◌<◌}
use mathlib.Core.Path.{◌≡◌, refl, ap}
use mathlib.Core.List.{List, [], ◌∷◌, ◌++◌}
use native.Mathlib.Omega.{arith}
use native.Mathlib.Numerals.{add-one}
use lib.IntN.{ℤ, pos}
use lib.ListN.{length, get_or, take}
use Rattle.text.specs.Ascii.{ascii}
use Rattle.text.specs.Decimal.{decimal}
use Rattle.say.specs.Texts.{spaced}

-- all of them
pub spaced-all : (l : List ℤ) (i : ℕ) → length l ≤ i → spaced (take i l) ≡ spaced l
unfolding spaced
spaced-all [] zero h = refl
spaced-all [] (suc i) h = refl
spaced-all (n ∷ l) zero h = absurd (omega arith)
spaced-all (n ∷ l) (suc i) h = ap (λ (ts : List (List ℕ)). ascii " " ∷ (decimal n ∷ ts)) (spaced-all l i (omega arith))

-- one more
spaced-suc : (l : List ℤ) (i : ℕ) → i < length l → spaced (take (suc i) l) ≡ spaced (take i l) ++ (ascii " " ∷ (decimal (get_or l i (pos 0)) ∷ []))
unfolding spaced
spaced-suc [] i h = absurd (omega arith)
spaced-suc (n ∷ l) zero h = refl
spaced-suc (n ∷ l) (suc i) h = ap (λ (ts : List (List ℕ)). ascii " " ∷ (decimal n ∷ ts)) (spaced-suc l i (omega arith))

pub spaced-more : (l : List ℤ) (i : ℕ) → i < length l → spaced (take (i + 1) l) ≡ spaced (take i l) ++ (ascii " " ∷ (decimal (get_or l i (pos 0)) ∷ []))
spaced-more l i h = rw add-one (spaced-suc l i h)
