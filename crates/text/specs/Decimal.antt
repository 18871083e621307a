-- A whole number in decimal: 48 is the byte of 0, and 45 is `-`.
use Rattle.std.specs.Prelude.{ℕ, zero, suc, ◌+◌, ◌/◌, ◌%◌, List, [], ◌∷◌, ◌++◌, ltb, ℤ, pos, negsuc}
use Rattle.whole.specs.Choice.{pick}

-- the digits of n, the first first, in at most k + 1 digits
unfoldable pub digits_in : (k : ℕ) → ℕ → List ℕ
digits_in zero n = (48 + n) ∷ []
digits_in (suc k) n = pick (ltb n 10) ((48 + n) ∷ []) (digits_in k (n / 10) ++ ((48 + n % 10) ∷ []))

-- the digits of n, which has no more than n + 1
unfoldable pub digits : ℕ → List ℕ
digits n = digits_in n n

unfoldable pub decimal : ℤ → List ℕ
decimal (pos n) = digits n
decimal (negsuc n) = 45 ∷ digits (suc n)
