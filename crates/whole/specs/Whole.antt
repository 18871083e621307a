-- What contracts and laws cite of the whole numbers: the two parts of a number (z is up z − dn z), the difference of two
-- natural numbers, the least and the greatest of two and of four.
use Rattle.std.specs.Prelude.{ℕ, zero, suc, ℤ, pos, negsuc, ◌≤ℤ◌, ◌<ℤ◌}
use Rattle.std.proofs.Math.IntN.{sub_ℕ}
use Rattle.whole.specs.Choice.{pick}
use Rattle.whole.specs.Test.{◌≤?◌}

abbrev pub up : ℤ → ℕ
up (pos k) = k
up (negsuc k) = zero

abbrev pub dn : ℤ → ℕ
dn (pos k) = zero
dn (negsuc k) = suc k

-- a − b as a whole number. Shut, so that it is a normal form for `simp`
infixl 6 ◌⊖◌
unfoldable pub ◌⊖◌ : ℕ → ℕ → ℤ
a ⊖ b = sub_ℕ a b

unfoldable pub min_ℤ : ℤ → ℤ → ℤ
min_ℤ a b = pick (a ≤? b) a b

unfoldable pub max_ℤ : ℤ → ℤ → ℤ
max_ℤ a b = pick (a ≤? b) b a

abbrev pub min4 : ℤ → ℤ → ℤ → ℤ → ℤ
min4 a b c d = min_ℤ (min_ℤ a b) (min_ℤ c d)

abbrev pub max4 : ℤ → ℤ → ℤ → ℤ → ℤ
max4 a b c d = max_ℤ (max_ℤ a b) (max_ℤ c d)

-- the two orders, for a statement with sums in it: `◌≤ℤ◌` binds tighter than `◌+ℤ◌`, and asks for brackets
infix 4 ◌≼◌ ◌≺◌
abbrev pub ◌≼◌ : ℤ → ℤ → Type 0
a ≼ b = a ≤ℤ b

abbrev pub ◌≺◌ : ℤ → ℤ → Type 0
a ≺ b = a <ℤ b
