-- What document 01 says of congruences: the canonical form, the domain of a width, and each mended operation at any width, for every value of the
-- domain, canonical or not. What is said of an answer stands in specs/Meaning.antt.
use mathlib.Core.Path.{◌≡◌, refl, ap}
use mathlib.Core.Bool.{Bool, true, false, ◌&&◌}
use mathlib.Core.Logic.{◌↔◌}
use Prim.Native.Nat.{ℕ}
use native.Mathlib.Omega.{arith}
use lib.IntN.{ℤ}
use mir.Syntax.{Width, w64}
use mir.Val.{SFits}
use Rattle.refusal.specs.declared.Refusal.{Refusal}
use Rattle.std.specs.declared.cmp.Ordering.{Ordering}
use Rattle.std.specs.Prelude.{Err, None, Ok, Option, Result, Some}
use Rattle.whole.specs.Test.{◌≤?◌, ◌<?◌, ◌≟◌}
use Rattle.whole.proofs.Decides.{both, branch, is_true, is_false, is-fit, yes, no}
use Rattle.refusal.specs.Answer.{is, told}
use Rattle.refusal.proofs.Claims.{number-tells}
use Rattle.congruence.specs.declared.Congruence.{Congruence}
use Rattle.congruence.specs.Set.{bottom, ◌∈◌, ◌⊆◌, domain?, domain_at?, Value, InDomain, Canonical, form, Proper}
use Rattle.congruence.specs.Meaning.{Answers, outside, inside, Both, Mends, Disjoint, Ordered, equal, less, greater, unordered, JoinOf, MeetOf, Negation, Sum, Difference, Exactly, ProductOf, CoversProducts, QuotientOf, CoversQuotients, EqualityOf, ComparisonOf, Shows}
use Rattle.congruence.specs.Mended as mended
use Rattle.congruence.proofs.Sets.{form_in, form-out, form-proper, domain-at-test}
use Rattle.congruence.proofs.Sets as sets
use Rattle.congruence.proofs.Forms as forms
use Rattle.congruence.proofs.Lattice as lattice
use Rattle.congruence.proofs.Arithmetic.{not-both}
use Rattle.congruence.proofs.Arithmetic as arithmetic
use Rattle.congruence.proofs.Quotients as quotients
use Rattle.congruence.proofs.Comparisons as comparisons

-- ---- two answers that tell the same are the same, so a contract on what is told fixes the answer

pub answer-fixed : (r s : Result Congruence Refusal) → told r ≡ told s → r ≡ s
answer-fixed (Ok u) (Ok v) e = cc
answer-fixed (Ok u) (Err r) e = let z : ◌≡◌ {A = ℕ} 0 1 = cc in absurd (omega arith)
answer-fixed (Err q) (Ok v) e = let z : ◌≡◌ {A = ℕ} 0 1 = cc in absurd (omega arith)
answer-fixed (Err q) (Err r) e = ap Err (number-tells q r cc)

pub truth-fixed : (r s : Result Bool Refusal) → told r ≡ told s → r ≡ s
truth-fixed (Ok u) (Ok v) e = cc
truth-fixed (Ok u) (Err r) e = let z : ◌≡◌ {A = ℕ} 0 1 = cc in absurd (omega arith)
truth-fixed (Err q) (Ok v) e = let z : ◌≡◌ {A = ℕ} 0 1 = cc in absurd (omega arith)
truth-fixed (Err q) (Err r) e = ap Err (number-tells q r cc)

pub order-fixed : (r s : Result (Option Ordering) Refusal) → told r ≡ told s → r ≡ s
order-fixed (Ok u) (Ok v) e = cc
order-fixed (Ok u) (Err r) e = let z : ◌≡◌ {A = ℕ} 0 1 = cc in absurd (omega arith)
order-fixed (Err q) (Ok v) e = let z : ◌≡◌ {A = ℕ} 0 1 = cc in absurd (omega arith)
order-fixed (Err q) (Err r) e = ap Err (number-tells q r cc)

pub single-fixed : (r s : Result (Option ℤ) Refusal) → told r ≡ told s → r ≡ s
single-fixed (Ok (Some u)) (Ok (Some v)) e = cc
single-fixed (Ok (Some u)) (Ok None) e = let z : ◌≡◌ {A = ℕ} 0 1 = cc in absurd (omega arith)
single-fixed (Ok (Some u)) (Err r) e = let z : ◌≡◌ {A = ℕ} 0 1 = cc in absurd (omega arith)
single-fixed (Ok None) (Ok (Some v)) e = let z : ◌≡◌ {A = ℕ} 0 1 = cc in absurd (omega arith)
single-fixed (Ok None) (Ok None) e = refl
single-fixed (Ok None) (Err r) e = let z : ◌≡◌ {A = ℕ} 0 1 = cc in absurd (omega arith)
single-fixed (Err q) (Ok (Some v)) e = let z : ◌≡◌ {A = ℕ} 0 1 = cc in absurd (omega arith)
single-fixed (Err q) (Ok None) e = let z : ◌≡◌ {A = ℕ} 0 1 = cc in absurd (omega arith)
single-fixed (Err q) (Err r) e = ap Err (number-tells q r cc)

-- ---- the canonical form

pub canonical-same : (a : Congruence) (x : ℤ) → x ∈ form a ↔ x ∈ a
canonical-same a x = (form-out a x, form_in a x)

pub canonical-form : (a : Congruence) → Value a → Canonical (form a)
canonical-form = sets.form-canonical

-- a canonical value is in the domain and is its own form
pub canonical-kept : (a : Congruence) → Canonical a → Value a × (form a ≡ a)
canonical-kept a h = (sets.canonical-value a h, sets.form-is a h)

-- two canonical congruences that stand for the same numbers are equal
pub canonical-unique : (a b : Congruence) → Canonical a → Canonical b → ((x : ℤ) → x ∈ a ↔ x ∈ b) → a ≡ b
canonical-unique a b p q f = lattice.unique a b p q (λ x. (f x).0) (λ x. (f x).1)

-- ---- the domain, and that of a width

pub domain-is : (a : Congruence) → domain? a ≡ true ↔ Value a
domain-is a = (yes (sets.value-test a), λ v. is_true (sets.value-test a) (λ f. f v))

module _ (w : Width) (a : Congruence) where
  -- it has just the values of the domain both whose numbers are of the width
  pub domain-of-width : domain_at? w a ≡ true ↔ InDomain w a
  domain-of-width = (yes (domain-at-test w a), λ d. is_true (domain-at-test w a) (λ f. f d))

  pub outside-of-width : domain_at? w a ≡ false ↔ (InDomain w a → ⊥)
  outside-of-width = (no (domain-at-test w a), λ f. is_false (domain-at-test w a) f)

-- at 64 bits it is the domain: every i64 fits
pub domain-at-64 : (a : Congruence) → SFits w64 a.constant → SFits w64 a.modulus → domain_at? w64 a ≡ domain? a
unfolding domain_at?
domain-at-64 a f g = rw (is-fit f, is-fit g) (go (domain? a))
  where
    go : (t : Bool) → (t && true) ≡ t
    go true = refl
    go false = refl

-- ---- how an operation on canonical forms answers

module _ {A : Type 0} (w : Width) (a b : Congruence) (f : Congruence → Congruence → A) (P : A → Type 0) where
  answers : (InDomain w a → InDomain w b → P (f (form a) (form b))) → Answers A (Both w a b) P (mended.on_forms w f a b)
  answers g = branch (both (domain-at-test w a) (domain-at-test w b)) (Answers A (Both w a b) P) (λ d. inside (f (form a) (form b)) d (g d.0 d.1)) (λ n. outside (λ d. not-both d n))

-- ---- the mended lattice

module _ (w : Width) (a b : Congruence) where
  -- nothing common
  pub disjoint_right : Answers Bool (Both w a b) (λ t. t ≡ true ↔ Disjoint a b) (mended.disjoint w a b)
  disjoint_right = answers w a b mended.apart? (λ t. t ≡ true ↔ Disjoint a b) (λ p q.
      (λ e. (forms.disjoint-of a b).0 (yes (lattice.apart-test (form a) (form b)) e), λ f. is_true (lattice.apart-test (form a) (form b)) (λ s. let t = (forms.shared_of a b).0 s in f t.number t.left t.right)))

  -- the order is inclusion
  pub order-right : Answers (Option Ordering) (Both w a b) (Ordered (a ⊆ b) (b ⊆ a)) (mended.partial_cmp w a b)
  unfolding mended.inclusion
  order-right = answers w a b mended.inclusion (Ordered (a ⊆ b) (b ⊆ a)) (λ p q.
      branch (lattice.inside-test (form a) (form b)) (Ordered (a ⊆ b) (b ⊆ a))
      (λ i. branch (lattice.inside-test (form b) (form a)) (Ordered (a ⊆ b) (b ⊆ a)) (λ j. equal ((within_of a b).0 i) ((within_of b a).0 j)) (λ j. less ((within_of a b).0 i) (λ k. j ((within_of b a).1 k))))
      (λ i. branch (lattice.inside-test (form b) (form a)) (Ordered (a ⊆ b) (b ⊆ a)) (λ j. greater (λ k. i ((within_of a b).1 k)) ((within_of b a).0 j)) (λ j. unordered (λ k. i ((within_of a b).1 k)) (λ k. j ((within_of b a).1 k)))))
    where
      within_of : (u v : Congruence) → form u ⊆ form v ↔ u ⊆ v
      within_of u v = (λ f x h. form-out v x (f x (form_in u x h)), λ f x h. form_in v x (f x (form-out u x h)))

  -- least; top if two single numbers are more than MAX apart
  pub join-right : Mends w (Both w a b) (JoinOf w a b) (mended.join w a b)
  join-right = answers w a b (mended.joint w) (λ v. Proper w v × JoinOf w a b v) (λ p q.
      let i = form-proper w a p in
      let j = form-proper w b q in
      (lattice.joint-proper w (form a) (form b) i j, forms.join-of a b w _ (lattice.joint-is w (form a) (form b) i j)))

  -- widen is join
  pub widen-is-join : mended.widen w a b ≡ mended.join w a b
  widen-is-join = refl

  -- the common numbers; the left value if the lcm doesn't fit and a common number exists
  pub meet_right : Mends w (Both w a b) (MeetOf w a b) (mended.meet w a b)
  meet_right = answers w a b (mended.common w) (λ v. Proper w v × MeetOf w a b v) (λ p q.
      let i = form-proper w a p in
      (lattice.common-proper w (form a) (form b) i (form-proper w b q), forms.meet-of a b p.value w _ (lattice.common-is w (form a) (form b) i.canonical)))

-- ---- mended arithmetic

-- exact over whole numbers; where the answer is a single number that doesn't fit, bottom
pub neg_right : (w : Width) (a : Congruence) → Mends w (InDomain w a) (Exactly w (Negation a)) (mended.neg w a)
neg_right w a = branch (domain-at-test w a) (Mends w (InDomain w a) (Exactly w (Negation a)))
    (λ d. inside (mended.negative w (form a)) d (arithmetic.negative-proper w (form a), forms.exactly-of (forms.negation-of a) (arithmetic.negative-exact w (form a) (form-proper w a d))))
    (λ n. outside n)

module _ (w : Width) (a b : Congruence) where
  pub add_right : Mends w (Both w a b) (Exactly w (Sum a b)) (mended.add w a b)
  add_right = answers w a b (mended.sum w) (λ v. Proper w v × Exactly w (Sum a b) v) (λ p q.
      (arithmetic.sum-proper w (form a) (form b), forms.exactly-of (forms.sum_of a b) (arithmetic.sum-exact w (form a) (form b) (form-proper w a p) (form-proper w b q))))

  pub sub-right : Mends w (Both w a b) (Exactly w (Difference a b)) (mended.sub w a b)
  sub-right = answers w a b (mended.difference w) (λ v. Proper w v × Exactly w (Difference a b) v) (λ p q.
      (arithmetic.difference-proper w (form a) (form b), forms.exactly-of (forms.difference-of a b) (arithmetic.difference-exact w (form a) (form b) (form-proper w a p) (form-proper w b q))))

  -- by 000's formula; it covers every product that fits
  pub mul_right : Mends w (Both w a b) (λ v. ProductOf w (form a) (form b) v × CoversProducts w a b v) (mended.mul w a b)
  mul_right = answers w a b (mended.product w) (λ v. Proper w v × (ProductOf w (form a) (form b) v × CoversProducts w a b v)) (λ p q.
      (arithmetic.product-proper w (form a) (form b), (arithmetic.product_is w (form a) (form b) (form-proper w a p) (form-proper w b q), λ x y h k f. arithmetic.product-covers w (form a) (form b) x y f (form_in a x h) (form_in b y k))))

  -- 000's rule with the divisor's sign dropped from the modulus; it covers every quotient that fits
  pub div-right : Mends w (Both w a b) (λ v. QuotientOf w (form a) (form b) v × CoversQuotients w a b v) (mended.div w a b)
  div-right = answers w a b (mended.quotient w) (λ v. Proper w v × (QuotientOf w (form a) (form b) v × CoversQuotients w a b v)) (λ p q.
      let i = form-proper w a p in
      (quotients.quotient-proper w (form a) (form b) i, (quotients.quotient_is w (form a) (form b) i, λ x y h k n f. quotients.quotient-covers w (form a) (form b) i x y n f (form_in a x h) (form_in b y k))))

-- bottom in, bottom out
module _ (w : Width) (a : Congruence) (d : InDomain w a) where
  in-it : (v : Congruence) → InDomain w v → domain_at? w v ≡ true
  in-it v i = is_true (domain-at-test w v) (λ f. f i)

  bottom-in-it : domain_at? w bottom ≡ true
  bottom-in-it = in-it bottom (sets.proper-domain w bottom (sets.bottom-proper w))

  form-bottom : form bottom ≡ bottom
  form-bottom = sets.form-is bottom (sets.bottom-proper w).canonical

  module _ (f : Congruence → Congruence → Congruence) where
    left-bottom : f bottom (form a) ≡ bottom → mended.on_forms w f bottom a ≡ is bottom
    left-bottom h = rw (bottom-in-it, in-it a d, form-bottom) (ap is h)

    right-bottom : f (form a) bottom ≡ bottom → mended.on_forms w f a bottom ≡ is bottom
    right-bottom h = rw (in-it a d, bottom-in-it, form-bottom) (ap is h)

  pub neg-bottom : mended.neg w bottom ≡ is bottom
  unfolding mended.negative
  neg-bottom = rw (bottom-in-it, form-bottom, sets.bottom-is) refl

  pub add-bottom : (mended.add w bottom a ≡ is bottom) × (mended.add w a bottom ≡ is bottom)
  unfolding mended.sum
  add-bottom = (left-bottom (mended.sum w) (lattice.beside-left (form a) _), right-bottom (mended.sum w) (lattice.beside-right (form a) _))

  pub sub-bottom : (mended.sub w bottom a ≡ is bottom) × (mended.sub w a bottom ≡ is bottom)
  unfolding mended.difference
  sub-bottom = (left-bottom (mended.difference w) (lattice.beside-left (form a) _), right-bottom (mended.difference w) (lattice.beside-right (form a) _))

  pub mul-bottom : (mended.mul w bottom a ≡ is bottom) × (mended.mul w a bottom ≡ is bottom)
  unfolding mended.product
  mul-bottom = (left-bottom (mended.product w) (lattice.beside-left (form a) _), right-bottom (mended.product w) (lattice.beside-right (form a) _))

  pub div-bottom : (mended.div w bottom a ≡ is bottom) × (mended.div w a bottom ≡ is bottom)
  unfolding mended.quotient
  div-bottom = (left-bottom (mended.quotient w) (lattice.beside-left (form a) _), right-bottom (mended.quotient w) (lattice.beside-right (form a) _))

-- ---- comparisons

module _ (w : Width) (a b : Congruence) where
  -- false exactly if disjoint, true exactly for equal single numbers, else top; it shows the truth of every pair
  pub equals-right : Mends w (Both w a b) (λ v. EqualityOf a b v × Shows ◌≟◌ a b v) (mended.equals w a b)
  equals-right = answers w a b mended.equality (λ v. Proper w v × (EqualityOf a b v × Shows ◌≟◌ a b v)) (λ p q.
      (comparisons.equality-proper (form a) (form b) w, (forms.equality-of a b _ (comparisons.equality-is (form a) (form b)), λ x y h k. comparisons.equality-right (form a) (form b) x y (form_in a x h) (form_in b y k))))

  -- as 002: two single numbers are compared, all else gives top; they show the truth of every pair
  compared : (test : ℤ → ℤ → Bool) → Mends w (Both w a b) (λ v. ComparisonOf test a b v × Shows test a b v) (mended.on_forms w (mended.comparison test) a b)
  compared test = answers w a b (mended.comparison test) (λ v. Proper w v × (ComparisonOf test a b v × Shows test a b v)) (λ p q.
      (comparisons.comparison-proper (form a) (form b) w test, (forms.comparison-of a b test _ (comparisons.comparison-is (form a) (form b) test), λ x y h k. comparisons.comparison-right (form a) (form b) test x y (form_in a x h) (form_in b y k))))

  pub less-right : Mends w (Both w a b) (λ v. ComparisonOf ◌<?◌ a b v × Shows ◌<?◌ a b v) (mended.less w a b)
  less-right = compared ◌<?◌

  pub greater-right : Mends w (Both w a b) (λ v. ComparisonOf (λ x y. y <? x) a b v × Shows (λ x y. y <? x) a b v) (mended.greater w a b)
  greater-right = compared (λ x y. y <? x)

  pub less-or-equal-right : Mends w (Both w a b) (λ v. ComparisonOf ◌≤?◌ a b v × Shows ◌≤?◌ a b v) (mended.less_or_equal w a b)
  less-or-equal-right = compared ◌≤?◌

  pub greater-or-equal-right : Mends w (Both w a b) (λ v. ComparisonOf (λ x y. y ≤? x) a b v × Shows (λ x y. y ≤? x) a b v) (mended.greater_or_equal w a b)
  greater-or-equal-right = compared (λ x y. y ≤? x)
