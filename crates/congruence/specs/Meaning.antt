-- What document 01 says of each mended operation: when it is refused, and what is said of its answer, by the numbers that the values stand for.
-- Together with `Proper` each leaves one answer.
use Rattle.std.specs.declared.cmp.Ordering.{Ordering}
use Rattle.std.specs.declared.cmp.Ordering.TheVariants.{Equal, Greater, Less}
use Rattle.std.specs.Prelude.{◌≡◌, Bool, ◌≢◌, ◌↔◌, ◌⊎◌, ℕ, ℤ, pos, negsuc, neg_ℤ, nat_abs, ◌+ℤ◌, ◌-ℤ◌, ◌*ℤ◌, ◌≤ℤ◌, ◌<ℤ◌, None, Option, Some}
use Rattle.std.specs.Int.Signed.{quot_z}
use Rattle.std.specs.Int.{Width, w64}
use Rattle.std.proofs.Common.{SFits}
use Rattle.whole.specs.Test.{truth}
use Rattle.whole.specs.Range.{least, greatest}
use Rattle.whole.specs.Divides.{◌∣ℤ◌, gcd, lcm, Cong, floor_rem}
use Rattle.refusal.specs.Answer.{Answer, is, refused}
use Rattle.congruence.specs.declared.Congruence.{Congruence}
use Rattle.congruence.specs.Set.{cong, top, bottom, ◌∈◌, ◌⊆◌, InDomain, form, Proper}

-- ---- how an operation answers

-- outside the domain it is refused by 1; inside it isn't refused, and P holds of its answer
pub data Answers (A Domain : Type 0) (P : A → Type 0) : Answer A → Type 0 where
  outside : (Domain → ⊥) → Answers A Domain P (refused 1)
  inside : (v : A) → Domain → P v → Answers A Domain P (is v)

abbrev pub Both : Width → Congruence → Congruence → Type 0
Both w a b = InDomain w a × InDomain w b

-- the answer is a canonical value of the width too
abbrev pub Mends : Width → Type 0 → (Congruence → Type 0) → Answer Congruence → Type 0
Mends w Domain P = Answers Congruence Domain (λ v. Proper w v × P v)

-- ---- lattice

-- a number of both
pub record Shared (a b : Congruence) : Type 0 where
  pub number : ℤ
  pub left : number ∈ a
  pub right : number ∈ b

-- nothing common
abbrev pub Disjoint : Congruence → Congruence → Type 0
Disjoint a b = (x : ℤ) → x ∈ a → x ∈ b → ⊥

-- how two statements lie to each other
pub data Ordered (P Q : Type 0) : Option Ordering → Type 0 where
  equal : P → Q → Ordered P Q (Some Equal)
  less : P → (Q → ⊥) → Ordered P Q (Some Less)
  greater : (P → ⊥) → Q → Ordered P Q (Some Greater)
  unordered : (P → ⊥) → (Q → ⊥) → Ordered P Q None

-- two single numbers; more than MAX apart
abbrev pub Singles : Congruence → Congruence → Type 0
Singles a b = (a.modulus ≡ pos 0) × (b.modulus ≡ pos 0)

pub record Far (w : Width) (a b : Congruence) : Type 0 where
  pub singles : Singles a b
  pub beyond : greatest w <ℤ pos (nat_abs (a.constant -ℤ b.constant))

-- least; top if two single numbers are more than MAX apart
pub record JoinOf (w : Width) (a b v : Congruence) : Type 0 where
  pub left : a ⊆ v
  pub right : b ⊆ v
  pub least : (Far w a b → ⊥) → (d : Congruence) → a ⊆ d → b ⊆ d → v ⊆ d
  pub far : Far w a b → v ≡ top

abbrev pub lcm_of : Congruence → Congruence → ℤ
lcm_of a b = pos (lcm (nat_abs a.modulus) (nat_abs b.modulus))

-- the common numbers; if the lcm doesn't fit and a common number exists, the left value, made canonical
pub record MeetOf (w : Width) (a b v : Congruence) : Type 0 where
  pub common : SFits w (lcm_of a b) → (x : ℤ) → x ∈ v ↔ ((x ∈ a) × (x ∈ b))
  pub none : Disjoint a b → v ≡ bottom
  pub left : (SFits w (lcm_of a b) → ⊥) → Shared a b → v ≡ form a

-- ---- arithmetic

-- z is the opposite of a number of a; the sum, the difference of a number of a and a number of b
pub record Negation (a : Congruence) (z : ℤ) : Type 0 where
  pub x : ℤ
  pub of : x ∈ a
  pub is : z ≡ neg_ℤ x

pub record Sum (a b : Congruence) (z : ℤ) : Type 0 where
  pub x : ℤ
  pub y : ℤ
  pub left : x ∈ a
  pub right : y ∈ b
  pub is : z ≡ x +ℤ y

pub record Difference (a b : Congruence) (z : ℤ) : Type 0 where
  pub x : ℤ
  pub y : ℤ
  pub left : x ∈ a
  pub right : y ∈ b
  pub is : z ≡ x -ℤ y

-- exact over whole numbers, of the results R; where these are a single number that doesn't fit, bottom
pub data Exactly (w : Width) (R : ℤ → Type 0) (v : Congruence) : Type 0 where
  exact : ((z : ℤ) → z ∈ v ↔ R z) → Exactly w R v
  over : (z : ℤ) → (SFits w z → ⊥) → ((y : ℤ) → R y ↔ (y ≡ z)) → v ≡ bottom → Exactly w R v

-- 000's formula for the modulus of a product: the gcd of the moduli's product and of each modulus with the other's constant
abbrev pub formula_gcd : Congruence → Congruence → ℕ
formula_gcd a b = gcd (gcd (nat_abs (a.modulus *ℤ b.modulus)) (nat_abs (a.modulus *ℤ b.constant))) (nat_abs (b.modulus *ℤ a.constant))

-- its four products and the gcd fit
pub record FormulaFits (w : Width) (a b : Congruence) : Type 0 where
  pub moduli : SFits w (a.modulus *ℤ b.modulus)
  pub left : SFits w (a.modulus *ℤ b.constant)
  pub right : SFits w (b.modulus *ℤ a.constant)
  pub constants : SFits w (a.constant *ℤ b.constant)
  pub divisor : SFits w (pos (formula_gcd a b))

-- the class of z modulo m, canonical
abbrev pub class_at : ℤ → ℕ → Congruence
class_at z m = cong (floor_rem z (pos m)) (pos m)

-- of canonical values, by 000's formula; if one of its four products or the gcd doesn't fit, top (two single numbers: bottom)
pub data ProductOf (w : Width) (a b : Congruence) : Congruence → Type 0 where
  product-of-nothing : (a ≡ bottom) ⊎ (b ≡ bottom) → ProductOf w a b bottom
  by-formula : a ≢ bottom → b ≢ bottom → FormulaFits w a b → ProductOf w a b (class_at (a.constant *ℤ b.constant) (formula_gcd a b))
  over-single : Singles a b → (FormulaFits w a b → ⊥) → ProductOf w a b bottom
  over-class : a ≢ bottom → b ≢ bottom → (Singles a b → ⊥) → (FormulaFits w a b → ⊥) → ProductOf w a b top

-- every product that fits lies in v
abbrev pub CoversProducts : Width → (a b v : Congruence) → Type 0
CoversProducts w a b v = (x y : ℤ) → x ∈ a → y ∈ b → SFits w (x *ℤ y) → (x *ℤ y) ∈ v

-- of canonical values, by 000's rule: bottom by (0, 0); by a single number that divides constant and modulus their quotients, the divisor's
-- sign dropped from the modulus, but bottom for MIN / -1; else top
pub data QuotientOf (w : Width) (a b : Congruence) : Congruence → Type 0 where
  quotient-of-nothing : (a ≡ bottom) ⊎ (b ≡ bottom) → QuotientOf w a b bottom
  by_zero : b ≡ cong (pos 0) (pos 0) → QuotientOf w a b bottom
  least_by_minus_one : a ≡ cong (least w) (pos 0) → b ≡ cong (negsuc 0) (pos 0) → QuotientOf w a b bottom
  divided : a ≢ bottom → (d : ℤ) → b ≡ cong d (pos 0) → d ≢ pos 0 → d ∣ℤ a.constant → d ∣ℤ a.modulus → SFits w (quot_z a.constant d) → QuotientOf w a b (class_at (quot_z a.constant d) (nat_abs (quot_z a.modulus d)))
  undivided : a ≢ bottom → b ≢ bottom → b ≢ cong (pos 0) (pos 0) → ((d : ℤ) → b ≡ cong d (pos 0) → d ∣ℤ a.constant → d ∣ℤ a.modulus → ⊥) → QuotientOf w a b top

-- every quotient by another number than 0 that fits lies in v
abbrev pub CoversQuotients : Width → (a b v : Congruence) → Type 0
CoversQuotients w a b v = (x y : ℤ) → x ∈ a → y ∈ b → y ≢ pos 0 → SFits w (quot_z x y) → quot_z x y ∈ v

-- ---- comparisons: true is (1, 0), false (0, 0)

abbrev pub false_value : Congruence
false_value = cong (pos 0) (pos 0)

abbrev pub true_value : Congruence
true_value = cong (pos 1) (pos 0)

-- one and the same single number
abbrev pub OneNumber : Congruence → Congruence → Type 0
OneNumber a b = Singles a b × (a.constant ≡ b.constant)

-- false exactly if disjoint, true exactly for equal single numbers, else top
pub record EqualityOf (a b v : Congruence) : Type 0 where
  pub never : v ≡ false_value ↔ Disjoint a b
  pub always : v ≡ true_value ↔ OneNumber a b
  pub unknown : Shared a b → (OneNumber a b → ⊥) → v ≡ top

-- 002's: two single numbers are compared, all else gives top
pub record ComparisonOf (test : ℤ → ℤ → Bool) (a b v : Congruence) : Type 0 where
  pub single : Singles a b → v ≡ cong (truth (test a.constant b.constant)) (pos 0)
  pub unknown : (Singles a b → ⊥) → v ≡ top

-- what is shown has the truth of every pair
abbrev pub Shows : (ℤ → ℤ → Bool) → (a b v : Congruence) → Type 0
Shows test a b v = (x y : ℤ) → x ∈ a → y ∈ b → truth (test x y) ∈ v

-- ---- ported operations, at 64 bits

-- outside the domain 1; 2 where a number on the way doesn't fit; 3 where the Rust's `from` asserts; else a value of which P holds
pub data Ports (Domain Over Asserts : Type 0) (P : Congruence → Type 0) : Answer Congruence → Type 0 where
  not-in-domain : (Domain → ⊥) → Ports Domain Over Asserts P (refused 1)
  does-not-fit : Domain → Over → Ports Domain Over Asserts P (refused 2)
  would-assert : Domain → Asserts → Ports Domain Over Asserts P (refused 3)
  gives : (v : Congruence) → Domain → (Over → ⊥) → (Asserts → ⊥) → P v → Ports Domain Over Asserts P (is v)

-- both numbers are of the width, as every i64 is of 64 bits
abbrev pub Fits : Width → Congruence → Type 0
Fits w a = SFits w a.constant × SFits w a.modulus

-- just the numbers R
abbrev pub Just : (ℤ → Type 0) → Congruence → Type 0
Just R v = (z : ℤ) → z ∈ v ↔ R z

-- neither is bottom
abbrev pub Inhabited : Congruence → Congruence → Type 0
Inhabited a b = (a ≢ bottom) × (b ≢ bottom)

-- what `from` asserts doesn't hold: m = 0 or c < m
abbrev pub Asserting : ℤ → ℤ → Type 0
Asserting c m = (m ≢ pos 0) × (m ≤ℤ c)

-- the least value that has all numbers of both
pub record Least (a b v : Congruence) : Type 0 where
  pub left : a ⊆ v
  pub right : b ⊆ v
  pub least : (d : Congruence) → a ⊆ d → b ⊆ d → v ⊆ d

abbrev pub JoinOver : Congruence → Congruence → Type 0
JoinOver a b = Inhabited a b × (SFits w64 (pos (nat_abs (a.constant -ℤ b.constant))) → ⊥)

abbrev pub NegOver : Congruence → Type 0
NegOver a = (a ≢ bottom) × (SFits w64 (neg_ℤ a.constant) → ⊥)

pub record NegAsserts (a : Congruence) : Type 0 where
  pub some : a ≢ bottom
  pub fits : SFits w64 (neg_ℤ a.constant)
  pub asserts : Asserting (neg_ℤ a.constant) a.modulus

abbrev pub AddOver : Congruence → Congruence → Type 0
AddOver a b = Inhabited a b × (SFits w64 (a.constant +ℤ b.constant) → ⊥)

-- of a difference the negation goes first, even beside bottom
pub data DifferenceOver (a b : Congruence) : Type 0 where
  opposite-over : b ≢ bottom → (SFits w64 (neg_ℤ b.constant) → ⊥) → DifferenceOver a b
  difference-over : Inhabited a b → SFits w64 (neg_ℤ b.constant) → (Asserting (neg_ℤ b.constant) b.modulus → ⊥) → (SFits w64 (a.constant -ℤ b.constant) → ⊥) → DifferenceOver a b

abbrev pub MulOver : Congruence → Congruence → Type 0
MulOver a b = Inhabited a b × (FormulaFits w64 a b → ⊥)

-- the class that 000's formula gives; bottom in, bottom out
pub record PortedProduct (a b v : Congruence) : Type 0 where
  pub none : (a ≡ bottom) ⊎ (b ≡ bottom) → v ≡ bottom
  pub class : Inhabited a b → (x : ℤ) → x ∈ v ↔ Cong (formula_gcd a b) x (a.constant *ℤ b.constant)

-- d is the divisor, another number than 0, and divides constant and modulus
pub record DividedBy (a b : Congruence) (d : ℤ) : Type 0 where
  pub some : a ≢ bottom
  pub divisor : b ≡ cong d (pos 0)
  pub other : d ≢ pos 0
  pub constant : d ∣ℤ a.constant
  pub modulus : d ∣ℤ a.modulus

pub data QuotientOver (a b : Congruence) : Type 0 where
  quotient-over : (d : ℤ) → DividedBy a b d → (SFits w64 (quot_z a.constant d) → ⊥) → QuotientOver a b

pub data QuotientAsserts (a b : Congruence) : Type 0 where
  quotient-asserts : (d : ℤ) → DividedBy a b d → SFits w64 (quot_z a.constant d) → Asserting (quot_z a.constant d) (quot_z a.modulus d) → QuotientAsserts a b

-- bottom by (0, 0) and beside bottom, the quotients by such a divisor, else top
pub record PortedQuotient (a b v : Congruence) : Type 0 where
  pub none : ((a ≡ bottom) ⊎ (b ≡ bottom)) ⊎ (b ≡ cong (pos 0) (pos 0)) → v ≡ bottom
  pub divided : (d : ℤ) → DividedBy a b d → v ≡ cong (quot_z a.constant d) (quot_z a.modulus d)
  pub unknown : Inhabited a b → b ≢ cong (pos 0) (pos 0) → ((d : ℤ) → DividedBy a b d → ⊥) → v ≡ top
