-- What each sign stands for: the numbers that its name says; the eight signs are the eight subsets of the three sides, and three bits.
-- Assumes nothing.
use mathlib.Core.Path.{◌≡◌, refl, ◌∙◌}
use mathlib.Core.Logic.{◌↔◌}
use mathlib.Core.Bool.{Bool, true, false}
use Prim.Native.Nat.{ℕ, zero, suc, ◌+◌, ◌<◌}
use lib.Dec.{eqb, eqb→eq}
use lib.IntN.{ℤ, pos, negsuc}
use Rattle.whole.specs.Choice.{pick}
use Rattle.whole.proofs.Linear.{ints}
use Rattle.sign.specs.declared.Sign.{Sign}
use Rattle.sign.specs.declared.Sign.TheVariants.{Top, Bottom, Negative, Zero, Positive, NonNeg, NonZero, NonPos}
use Rattle.sign.specs.Set.{Side, negative, nought, positive, side_of, ◌has◌, ◌∈◌, top, bottom, Subset}
use Rattle.sign.specs.Sides.{those}
use Rattle.sign.specs.Bits.{bits_of, of_bits}
use Rattle.sign.specs.Numbers.{StandsFor}
use Rattle.sign.proofs.Cells.{passes}
use Rattle.sign.proofs.Laws.{was, those-has}

-- ---- by the order of the whole numbers

holds : {s : Sign} {x : ℤ} → (s has side_of x) ≡ true → StandsFor s x → (x ∈ s) ↔ StandsFor s x
holds h p = (λ _. p, λ _. record { is = h })

fails : {s : Sign} {x : ℤ} → (s has side_of x) ≡ false → (StandsFor s x → ⊥) → (x ∈ s) ↔ StandsFor s x
fails h n = (λ m. was m.is h, λ p. absurd (n p))

pub stands-for : (s : Sign) (x : ℤ) → (x ∈ s) ↔ StandsFor s x
stands-for Top x = holds refl tt
stands-for Bottom x = fails refl (λ n. n)
stands-for Negative (negsuc k) = holds refl (omega ints)
stands-for Negative (pos zero) = fails refl (λ h. omega ints)
stands-for Negative (pos (suc k)) = fails refl (λ h. omega ints)
stands-for Zero (negsuc k) = fails refl (λ h. omega ints)
stands-for Zero (pos zero) = holds refl refl
stands-for Zero (pos (suc k)) = fails refl (λ h. omega ints)
stands-for Positive (negsuc k) = fails refl (λ h. omega ints)
stands-for Positive (pos zero) = fails refl (λ h. omega ints)
stands-for Positive (pos (suc k)) = holds refl (omega ints)
stands-for NonNeg (negsuc k) = fails refl (λ h. omega ints)
stands-for NonNeg (pos zero) = holds refl (omega ints)
stands-for NonNeg (pos (suc k)) = holds refl (omega ints)
stands-for NonZero (negsuc k) = holds refl (omega ints)
stands-for NonZero (pos zero) = fails refl (λ h. h refl)
stands-for NonZero (pos (suc k)) = holds refl (omega ints)
stands-for NonPos (negsuc k) = holds refl (omega ints)
stands-for NonPos (pos zero) = holds refl (omega ints)
stands-for NonPos (pos (suc k)) = fails refl (λ h. omega ints)

pub top-has-all : (x : ℤ) → x ∈ top
top-has-all x = record { is = refl }

pub bottom-has-none : (x : ℤ) → x ∈ bottom → ⊥
bottom-has-none x h = was h.is refl

-- ---- the subsets of the three sides, one sign each

by-sides : (s : Sign) → s ≡ those (λ d. s has d)
by-sides Top = refl
by-sides Bottom = refl
by-sides Negative = refl
by-sides Zero = refl
by-sides Positive = refl
by-sides NonNeg = refl
by-sides NonZero = refl
by-sides NonPos = refl

pub eight-subsets : (f : Side → Bool) → Subset f
eight-subsets f = record {
  sign = those f;
  sides = those-has f;
  only = λ s h. by-sides s ∙ rw (h negative, h nought, h positive) refl;
}

-- ---- three bits a sign: a bit is set just for a side that it has, and the two functions undo each other

pub bits-by-sides : (s : Sign) → bits_of s ≡ pick (s has negative) 4 0 + pick (s has nought) 2 0 + pick (s has positive) 1 0
bits-by-sides Top = refl
bits-by-sides Bottom = refl
bits-by-sides Negative = refl
bits-by-sides Zero = refl
bits-by-sides Positive = refl
bits-by-sides NonNeg = refl
bits-by-sides NonZero = refl
bits-by-sides NonPos = refl

pub sign-back : (s : Sign) → of_bits (bits_of s) ≡ s
sign-back Top = refl
sign-back Bottom = refl
sign-back Negative = refl
sign-back Zero = refl
sign-back Positive = refl
sign-back NonNeg = refl
sign-back NonZero = refl
sign-back NonPos = refl

pub bits_back : (n : ℕ) → n < 8 → bits_of (of_bits n) ≡ n
bits_back n h = eqb→eq (bits_of (of_bits n)) n (passes (λ k. eqb (bits_of (of_bits k)) k) 8 n h tt)
