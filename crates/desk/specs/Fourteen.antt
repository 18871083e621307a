-- The fourteen numbers of document 01, in its order, about the definitions themselves.
use Rattle.std.specs.declared.cmp.Ordering.TheVariants.{Greater, Less}
use Rattle.std.specs.Prelude.{◌≡◌, true, false, List, [], ◌∷◌, ℕ, ◌≤◌, ℤ, pos, negsuc, length, Some}
use Rattle.std.specs.Int.{w64}
use Rattle.whole.specs.Range.{least, greatest}
use Rattle.sign.specs.declared.Sign.TheVariants.{Top, Negative, Zero, Positive, NonNeg, NonZero}
use Rattle.sign.specs.Ported as sign
use Rattle.sign.specs.Mended as sign_mended
use Rattle.interval.specs.Set.{◌⋯◌, top, single}
use Rattle.refusal.specs.Answer.{is, refused}
use Rattle.refusal.specs.Answer as answers
use Rattle.interval.specs.Ported as range
use Rattle.interval.specs.Mended as range_mended
use Rattle.congruence.specs.Set.{cong}
use Rattle.congruence.specs.Ported as spacing
use Rattle.congruence.specs.Mended as spacing_mended
use Rattle.refusal.specs.Answer.{done}
use Rattle.desk.specs.Answer.{Left, checking}

-- the bytes of (14)
abbrev pub portions : List ℕ
portions = 0x03 ∷ 0x01 ∷ 0x02 ∷ 0x08 ∷ 0x00 ∷ 0xF4 ∷ 0x03 ∷ 0x04 ∷ 0x00 ∷ 0x01 ∷ []

-- what its check tells and puts into the room, five numbers a step: [1, 4] 0 mod 1, [250, 250] 250 mod 0, [250, 1000] 0 mod 250, all Positive (4)
abbrev pub portions_shown : Left
portions_shown = record {
  told = done 3;
  numbers = pos 1 ∷ pos 4 ∷ pos 0 ∷ pos 1 ∷ pos 4 ∷ pos 250 ∷ pos 250 ∷ pos 250 ∷ pos 0 ∷ pos 4 ∷ pos 250 ∷ pos 1000 ∷ pos 0 ∷ pos 250 ∷ pos 4 ∷ [];
}

pub record Fourteen : Type 0 where
  pub number-1 : sign.mul Negative NonZero ≡ NonZero
  pub number-2 : (sign.weak_cmp Zero NonNeg ≡ (Some Greater)) × (sign_mended.weak_cmp Zero NonNeg ≡ (Some Less))
  pub number-3 : (sign.div Positive NonZero ≡ NonZero) × (sign_mended.div Positive NonZero ≡ Top)
  pub number-4 : (range.ge_by (range.weak_cmp (single (pos 3)) (single (pos 3))) ≡ single (pos 0)) × (range_mended.greater_or_equal w64 (single (pos 3)) (single (pos 3)) ≡ is (single (pos 1)))
  pub number-5 : (range.neg (single (least w64)) ≡ refused 2) × (range.neg (least w64 ⋯ pos 5) ≡ is (negsuc 4 ⋯ greatest w64))
  pub number-6 : range.rem (single (pos 0)) (pos 1 ⋯ pos 3) ≡ is (negsuc 1 ⋯ pos 0)
  pub number-7 : (range.rem (single (pos 7)) (top w64) ≡ refused 2) × (range_mended.rem w64 (single (pos 7)) (top w64) ≡ is (pos 0 ⋯ greatest w64))
  pub number-8 : (spacing.meet (cong (pos 1) (pos 2)) (cong (pos 2) (pos 3)) ≡ answers.is (cong (pos 1) (pos 6))) × (spacing_mended.meet w64 (cong (pos 1) (pos 2)) (cong (pos 2) (pos 3)) ≡ answers.is (cong (pos 5) (pos 6)))
  pub number-9 : (spacing.disjoint (cong (negsuc 0) (pos 0)) (cong (pos 2) (pos 3)) ≡ answers.is true) × (spacing_mended.disjoint w64 (cong (negsuc 0) (pos 0)) (cong (pos 2) (pos 3)) ≡ answers.is false)
  pub number-10 : (spacing.join (cong (pos 4) (pos 0)) (cong (pos 10) (pos 0)) ≡ answers.is (cong (pos 4) (pos 6))) × (spacing_mended.join w64 (cong (pos 4) (pos 0)) (cong (pos 10) (pos 0)) ≡ answers.is (cong (pos 4) (pos 6)))
  pub number-11 : (spacing.neg (cong (pos 1) (pos 3)) ≡ answers.is (cong (negsuc 0) (pos 3))) × (spacing_mended.neg w64 (cong (pos 1) (pos 3)) ≡ answers.is (cong (pos 2) (pos 3)))
  pub number-12 : (spacing.div (cong (pos 0) (pos 6)) (cong (negsuc 1) (pos 0)) ≡ answers.refused 3) × (spacing_mended.div w64 (cong (pos 0) (pos 6)) (cong (negsuc 1) (pos 0)) ≡ answers.is (cong (pos 0) (pos 3)))
  pub number-13 : range.widen (pos 0 ⋯ pos 5) (single (pos 0)) ≡ (pos 0 ⋯ greatest w64)
  pub number-14 : (room : List ℤ) → 15 ≤ length room → checking w64 portions room ≡ portions_shown
