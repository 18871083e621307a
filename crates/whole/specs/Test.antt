-- The tests on whole numbers that definitions branch on. Shut, so that a test is one name to the proofs (`Decides` says what each decides).
use Rattle.std.specs.Prelude.{Bool, ◌&&◌, ℤ, pos}
use Rattle.std.specs.Int.Signed.{le_z, lt_z}
use Rattle.whole.specs.Choice.{pick}

infix 4 ◌≤?◌ ◌<?◌ ◌≟◌
unfoldable pub ◌≤?◌ : ℤ → ℤ → Bool
a ≤? b = le_z a b

unfoldable pub ◌<?◌ : ℤ → ℤ → Bool
a <? b = lt_z a b

unfoldable pub ◌≟◌ : ℤ → ℤ → Bool
a ≟ b = le_z a b && le_z b a

-- a test as a number: 1 or 0
abbrev pub truth : Bool → ℤ
truth b = pick b (pos 1) (pos 0)
