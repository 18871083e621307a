-- What the claims say of logic on signs: and, or, equality and not of operands that are 0 or 1.
use Rattle.std.specs.Prelude.{◌≡◌, ◌≢◌, ◌⊎◌, Bool, true}
use Rattle.refusal.specs.Answer.{Answer, is, refused}
use Rattle.sign.specs.declared.Sign.{Sign}
use Rattle.sign.specs.declared.Sign.TheVariants.{Bottom, Zero, Positive, NonNeg}
use Rattle.sign.specs.Numbers.{◌⊑◌}

-- one operand that is d decides, two that are e agree, else nothing is known
pub data Combined (d e a b : Sign) : Sign → Type 0 where
  decided : (a ≡ d) ⊎ (b ≡ d) → Combined d e a b d
  agreed : (a ≡ e) × (b ≡ e) → Combined d e a b e
  unknown : ((a ≡ d) ⊎ (b ≡ d) → ⊥) → ((a ≡ e) × (b ≡ e) → ⊥) → Combined d e a b NonNeg

-- both are 0; or both are positive and known to be 0 or 1
abbrev pub Surely : Sign → Sign → Bool → Type 0
Surely a b is_bool = ((a ≡ Zero) × (b ≡ Zero)) ⊎ ((a ≡ Positive) × ((b ≡ Positive) × (is_bool ≡ true)))

-- surely equal; one inside the other; neither
pub data Equated (a b : Sign) (is_bool : Bool) : Sign → Type 0 where
  sure : Surely a b is_bool → Equated a b is_bool Positive
  maybe : (Surely a b is_bool → ⊥) → (a ⊑ b) ⊎ (b ⊑ a) → Equated a b is_bool NonNeg
  apart : (Surely a b is_bool → ⊥) → ((a ⊑ b) ⊎ (b ⊑ a) → ⊥) → Equated a b is_bool Zero

-- not of s, beside what the ported one says: Bottom for Bottom, NonNeg where else it is refused by 4, the same where it answers
pub data Turned (s : Sign) : Answer Sign → Sign → Type 0 where
  bottom : s ≡ Bottom → Turned s (refused 4) Bottom
  four : s ≢ Bottom → Turned s (refused 4) NonNeg
  as-ported : {t : Sign} → Turned s (is t) t
