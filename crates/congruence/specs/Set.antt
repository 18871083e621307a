-- What a congruence stands for: (c, 0) is c alone, (c, m) every x with x - c divisible by m, and (1, 1), the bottom, no number.
-- Which pairs are values of the domain, which of them are canonical, and the canonical form of each.
use Rattle.std.specs.Prelude.{◌≡◌, Bool, false, ◌&&◌, ◌||◌, ℤ, pos, nat_abs, ◌≤ℤ◌, ◌<ℤ◌}
use Rattle.std.specs.Int.{Width}
use Rattle.std.proofs.Common.{SFits}
use Rattle.whole.specs.Choice.{pick}
use Rattle.whole.specs.Test.{◌<?◌, ◌≟◌}
use Rattle.whole.specs.Range.{fits?}
use Rattle.whole.specs.Divides.{Cong, floor_rem}
use Rattle.congruence.specs.declared.Congruence.{Congruence}

abbrev pub cong : ℤ → ℤ → Congruence
cong c m = record { constant = c; modulus = m }

abbrev pub top : Congruence
top = cong (pos 0) (pos 1)

abbrev pub bottom : Congruence
bottom = cong (pos 1) (pos 1)

unfoldable pub bottom? : Congruence → Bool
bottom? a = (a.constant ≟ pos 1) && (a.modulus ≟ pos 1)

-- x is one of the numbers that a stands for
infix 4 ◌∈◌ ◌⊆◌
pub record ◌∈◌ (x : ℤ) (a : Congruence) : Type 0 where
  pub some : bottom? a ≡ false
  pub class : Cong (nat_abs a.modulus) x a.constant

-- m = 0, or m > 0 and c < m, or the bottom
unfoldable pub domain? : Congruence → Bool
domain? a = (a.modulus ≟ pos 0) || (((pos 0 <? a.modulus) && (a.constant <? a.modulus)) || bottom? a)

-- the same in facts
pub data Value (a : Congruence) : Type 0 where
  alone : a.modulus ≡ pos 0 → Value a
  spaced : pos 0 <ℤ a.modulus → a.constant <ℤ a.modulus → Value a
  empty : a ≡ bottom → Value a

-- the domain of a width: such a value, and both its numbers are of the width. It is what the mended operations take at that width
pub record InDomain (w : Width) (a : Congruence) : Type 0 where
  pub value : Value a
  pub constant-fits : SFits w a.constant
  pub modulus-fits : SFits w a.modulus

-- the test of it
unfoldable pub domain_at? : Width → Congruence → Bool
domain_at? w a = domain? a && (fits? w a.constant && fits? w a.modulus)

-- m = 0, the bottom, or 0 ≤ c < m
pub data Canonical (a : Congruence) : Type 0 where
  single : a.modulus ≡ pos 0 → Canonical a
  nothing : a ≡ bottom → Canonical a
  reduced : pos 0 ≤ℤ a.constant → a.constant <ℤ a.modulus → Canonical a

-- the canonical value that stands for the same numbers
unfoldable pub form : Congruence → Congruence
form a = pick (bottom? a) bottom (cong (floor_rem a.constant a.modulus) a.modulus)

-- both are single numbers
unfoldable pub singles? : Congruence → Congruence → Bool
singles? a b = (a.modulus ≟ pos 0) && (b.modulus ≟ pos 0)

-- every number of a is one of b
abbrev pub ◌⊆◌ : Congruence → Congruence → Type 0
a ⊆ b = (x : ℤ) → x ∈ a → x ∈ b

-- a canonical value of the width, which the mended operations take and give
pub record Proper (w : Width) (a : Congruence) : Type 0 where
  pub canonical : Canonical a
  pub constant-fits : SFits w a.constant
  pub modulus-fits : SFits w a.modulus
