use mathlib.Core.Path.{◌≡◌, refl, ◌∙◌}
use Rattle.sign.specs.Ported as ported
use Rattle.sign.specs.Ported.{sub, add, neg}
use Rattle.sign.specs.Mended.{weak_cmp}
use Rattle.sign.specs.declared.Sign.{Sign}
use Rattle.sign.specs.declared.Sign.TheVariants.{Top, Bottom, Negative, Zero, Positive, NonNeg, NonZero, NonPos}
use Rattle.sign.proofs.mended.weak_cmp.Goals as goal
use Rattle.sign.proofs.mended.weak_cmp.Goals.{in_default-via-in-Zero+in_default, in_default-via-in_default}

-- the two rules agree but for two cells
agree : (a b : Sign) → (a ≡ Zero → b ≡ NonNeg → ⊥) → (a ≡ Zero → b ≡ NonPos → ⊥) → ported.weak_cmp a b ≡ weak_cmp a b
unfolding weak_cmp ported.weak_cmp sub add neg
agree Top b h k = refl
agree Bottom b h k = refl
agree Negative b h k = refl
agree Positive b h k = refl
agree NonNeg b h k = refl
agree NonZero b h k = refl
agree NonPos b h k = refl
agree Zero Top h k = refl
agree Zero Bottom h k = refl
agree Zero Negative h k = refl
agree Zero Zero h k = refl
agree Zero Positive h k = refl
agree Zero NonZero h k = refl
agree Zero NonNeg h k = absurd (h refl refl)
agree Zero NonPos h k = absurd (k refl refl)

pub returns-in_default : goal.returns-in_default
returns-in_default c = elim c.in_default.branch [
  | in_default-via-in-Zero+in_default w ↦ c.weak_cmp.ensures ∙ agree _ _ (λ p e. w.in_default.not-NonNeg-1 e) (λ p e. w.in_default.not-NonPos-1 e)
  | in_default-via-in_default w ↦ c.weak_cmp.ensures ∙ agree _ _ (λ e p. w.in_default.not-Zero-0 e) (λ e p. w.in_default.not-Zero-0 e)
]
