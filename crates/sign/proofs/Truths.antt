-- Truth values as numbers: what a comparison shows has the truth of every pair, and what a rule keeps of 0 and 1 is one test of 64 pairs.
-- Whether two signs are the same, and surely equal, as tests that decide it.
-- Assumes nothing.
use mathlib.Core.Path.{◌≡◌, refl, sym, ◌∙◌}
use mathlib.Core.Logic.{◌≢◌, ◌↔◌, ◌⊎◌, inl, inr}
use mathlib.Core.Bool.{Bool, true, ◌&&◌, ◌||◌, not}
use lib.Dec.{T, eqb}
use lib.IntN.{ℤ}
use Rattle.whole.specs.Choice.{pick}
use Rattle.whole.specs.Test.{truth}
use Rattle.whole.proofs.Decides.{Decides, holds, fails, branch}
use Rattle.sign.specs.declared.Sign.{Sign}
use Rattle.sign.specs.declared.Sign.TheVariants.{Zero, Positive, NonNeg}
use Rattle.sign.specs.Set.{side_of, ◌has◌, ◌∈◌}
use Rattle.sign.specs.Sides.{◌same◌}
use Rattle.sign.specs.Index.{index_of}
use Rattle.sign.specs.Ported.{surely}
use Rattle.sign.specs.Numbers.{Judged}
use Rattle.sign.specs.Numbers as numbers
use Rattle.sign.specs.Logical.{Surely, Combined}
use Rattle.sign.specs.Logical as logical
use Rattle.sign.proofs.Cells.{each_pair, bit_of, tests, told_same}
use Rattle.sign.proofs.Laws.{was, decide, in-or-out, and-of}

pub judged-has : {R : ℤ → ℤ → Type 0} {a b s : Sign} → Judged R a b s → (x y : ℤ) → x ∈ a → y ∈ b → {N : Type 0} {t : Bool} → Decides (R x y) N t → (N → R x y → ⊥) → truth t ∈ s
judged-has (numbers.Judged.holds e) x y h k (holds r) n = record { is = refl }
judged-has (numbers.Judged.holds e) x y h k (fails m) n = absurd (n m (e.all x y h k))
judged-has (numbers.Judged.fails e) x y h k (holds r) n = absurd (e.all x y h k r)
judged-has (numbers.Judged.fails e) x y h k (fails m) n = record { is = refl }
judged-has (numbers.Judged.both e f) x y h k (holds r) n = record { is = refl }
judged-has (numbers.Judged.both e f) x y h k (fails m) n = record { is = refl }

-- the rule's answer has z wherever a has x and b has y
abbrev pub keeps : (Sign → Sign → Sign) → ℤ → ℤ → ℤ → Sign → Sign → Bool
keeps rule x y z a b = not ((a has side_of x) && (b has side_of y)) || (rule a b has side_of z)

pub kept : (rule : Sign → Sign → Sign) (x y z : ℤ) → T (each_pair (λ a b. eqb (bit_of (keeps rule x y z a b)) 1)) → (a b : Sign) → x ∈ a → y ∈ b → z ∈ rule a b
kept rule x y z t a b h k = record { is = in-or-out ((a has side_of x) && (b has side_of y)) (rule a b has side_of z) (tests (keeps rule x y z) (λ a b. true) t a b) (and-of h.is k.is) }

-- ---- signs that are the same

same-told : (s t : Sign) → (s same t) ≡ eqb (index_of s) (index_of t)
same-told s t = tests ◌same◌ (λ s t. eqb (index_of s) (index_of t)) tt s t

pub is_same : (s t : Sign) → Decides (s ≡ t) (s ≢ t) (s same t)
is_same s t = decide (s same t) (λ h. (told_same s t).1 (sym (same-told s t) ∙ h)) (λ e. same-told s t ∙ (told_same s t).0 e)

-- a test that decides whether A
abbrev pub Tells : Type 0 → Bool → Type 0
Tells A t = Decides A (A → ⊥) t

module _ {A B : Type 0} where
  pub tells_both : {p q : Bool} → Tells A p → Tells B q → Tells (A × B) (p && q)
  tells_both (holds a) (holds b) = holds (a, b)
  tells_both (holds a) (fails n) = fails (λ h. n h.1)
  tells_both (fails m) d = fails (λ h. m h.0)

  pub tells-either : {p q : Bool} → Tells A p → Tells B q → Tells (A ⊎ B) (p || q)
  tells-either (holds a) d = holds (inl a)
  tells-either (fails m) (holds b) = holds (inr b)
  tells-either (fails m) (fails n) = fails (λ h. elim h [ inl a ↦ m a | inr b ↦ n b ])

pub told : {A : Type 0} {t : Bool} → Tells A t → (t ≡ true) ↔ A
told (holds a) = (λ _. a, λ _. refl)
told (fails n) = (λ e. was e refl, λ a. absurd (n a))

pub picked : {A X : Type 0} {x y : X} {t : Bool} → Tells A t → (A → pick t x y ≡ x) × ((A → ⊥) → pick t x y ≡ y)
picked (holds a) = (λ _. refl, λ n. absurd (n a))
picked (fails n) = (λ a. absurd (n a), λ _. refl)

pub surely-test : (a b : Sign) (is_bool : Bool) → Tells (Surely a b is_bool) (surely a b is_bool)
surely-test a b is_bool =
    tells-either (tells_both (is_same a Zero) (is_same b Zero))
    (tells_both (is_same a Positive) (tells_both (is_same b Positive) (decide is_bool (λ h. h) (λ h. h))))

pub combined : (d e a b : Sign) → Combined d e a b (pick ((a same d) || (b same d)) d (pick ((a same e) && (b same e)) e NonNeg))
combined d e a b =
    branch (tells-either (is_same a d) (is_same b d)) (Combined d e a b) logical.Combined.decided
    (λ n. branch (tells_both (is_same a e) (is_same b e)) (Combined d e a b) logical.Combined.agreed (logical.Combined.unknown n))
