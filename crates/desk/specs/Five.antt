-- What is shown of a step in five numbers: low, high, constant, modulus, and the sign's number in the Rust's order.
use Rattle.std.specs.Prelude.{List, [], ◌∷◌, ◌++◌, ℕ, zero, suc, ◌+◌, ◌*◌, ltb, ℤ, pos, get_or}
use Rattle.whole.specs.Choice.{pick}
use Rattle.whole.specs.Whole.{up}
use Rattle.interval.specs.Set.{◌⋯◌}
use Rattle.congruence.specs.Set.{cong}
use Rattle.sign.specs.declared.Sign.{Sign}
use Rattle.sign.specs.declared.Sign.TheVariants.{Top, Bottom, Negative, Zero, Positive, NonNeg, NonZero, NonPos}
use Rattle.sign.specs.Index.{index_of}
use Rattle.step.specs.declared.show.Shown.{Shown}
use Rattle.step.specs.Show.{shown, zero_shown}

abbrev pub five_of : Shown → List ℤ
five_of v = v.range.min ∷ v.range.max ∷ v.spacing.constant ∷ v.spacing.modulus ∷ pos (index_of v.sign) ∷ []

unfoldable pub flat : List Shown → List ℤ
flat [] = []
flat (v ∷ vs) = five_of v ++ flat vs

-- the sign of a number; Top for one that is none
abbrev pub signs : List Sign
signs = Top ∷ Bottom ∷ Negative ∷ Zero ∷ Positive ∷ NonNeg ∷ NonZero ∷ NonPos ∷ []

unfoldable pub sign_at : ℕ → Sign
sign_at n = get_or signs n Top

-- what stands at place p
unfoldable pub shown_in : List ℤ → ℕ → Shown
shown_in l p =
    shown
    (get_or l (p * 5) (pos 0) ⋯ get_or l (p * 5 + 1) (pos 0))
    (cong (get_or l (p * 5 + 2) (pos 0)) (get_or l (p * 5 + 3) (pos 0)))
    (sign_at (up (get_or l (p * 5 + 4) (pos 0))))

-- the same, among the first k places; 0 past them
unfoldable pub looked_up : List ℤ → (k p : ℕ) → Shown
looked_up l k p = pick (ltb p k) (shown_in l p) zero_shown

-- what stands at the first k places
unfoldable pub shown_first : List ℤ → ℕ → List Shown
shown_first l zero = []
shown_first l (suc k) = shown_first l k ++ (shown_in l k ∷ [])
