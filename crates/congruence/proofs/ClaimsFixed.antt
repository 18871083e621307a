-- What document 01 says of a mended operation leaves one answer: a version that answers otherwise, anywhere, breaks a claim.
use mathlib.Core.Path.{◌≡◌, refl, sym, ap, ap₂, ◌∙◌, subst}
use mathlib.Core.Bool.{Bool, true, false}
use mathlib.Core.Logic.{◌≢◌, ◌↔◌, ◌⊎◌, inl, inr}
use native.Mathlib.Omega.{arith}
use lib.IntN.{ℤ, pos, negsuc, neg_ℤ, nat_abs, ◌-ℤ◌, ◌*ℤ◌}
use lib.Signed.{◌≤ℤ◌, ◌<ℤ◌, quot_z}
use lib.Pow.{pow_pos}
use mir.Syntax.{Width}
use mir.Val.{SFits, hbits}
use Rattle.std.specs.declared.cmp.Ordering.{Ordering}
use Rattle.std.specs.Prelude.{Option}
use Rattle.whole.specs.Range.{least, greatest}
use Rattle.whole.specs.Divides.{◌∣ℤ◌}
use Rattle.whole.proofs.Linear.{ints, wholes, read}
use Rattle.whole.proofs.Fits.{high}
use Rattle.whole.proofs.Divide.{quot-minus}
use Rattle.whole.proofs.Decides.{Decides, holds, fails, Beyond, eq_test, lt_test, fits-test, not_beyond, both}
use Rattle.refusal.specs.Answer.{Answer, is}
use Rattle.congruence.specs.declared.Congruence.{Congruence}
use Rattle.congruence.specs.Set.{cong, bottom, ◌∈◌, ◌⊆◌, Proper}
use Rattle.congruence.specs.Meaning.{Answers, outside, inside, Shared, Disjoint, Ordered, equal, less, greater, unordered, Singles, Far, JoinOf, lcm_of, MeetOf, Exactly, exact, over, class_at, ProductOf, product-of-nothing, by-formula, over-single, over-class, QuotientOf, quotient-of-nothing, by_zero, least_by_minus_one, divided, undivided, OneNumber, EqualityOf, ComparisonOf}
use Rattle.congruence.proofs.Sets.{own}
use Rattle.congruence.proofs.Lattice.{unique, apart-test}
use Rattle.congruence.proofs.Arithmetic.{singles-test, not-both, nor}
use Rattle.congruence.proofs.Quotients.{one-divisor}

-- an operation that answers by what leaves one value has one answer
pub answers_one : {A Domain : Type 0} {P : A → Type 0} {r s : Answer A} → ((u v : A) → P u → P v → u ≡ v) → Answers A Domain P r → Answers A Domain P s → r ≡ s
answers_one f (outside g) (outside h) = refl
answers_one f (outside g) (inside v d h) = absurd (g d)
answers_one f (inside u d h) (outside g) = absurd (g d)
answers_one f (inside u d h) (inside v e k) = ap is (f u v h k)

-- the one number of a value of the width fits
alone-fits : {w : Width} (t : Congruence) → Proper w t → (z : ℤ) → z ∈ t → ((x : ℤ) → x ∈ t → x ≡ z) → SFits w z
alone-fits t r z h o = subst (SFits _) (o t.constant (own t h.some)) r.constant-fits

module _ (w : Width) (u v : Congruence) (p : Proper w u) (q : Proper w v) where
  same : u ⊆ v → v ⊆ u → u ≡ v
  same = unique u v p.canonical q.canonical

  -- neg, add, sub
  pub exactly-one : {R : ℤ → Type 0} → Exactly w R u → Exactly w R v → u ≡ v
  exactly-one (exact f) (exact g) = same (λ x h. (g x).1 ((f x).0 h)) (λ x h. (f x).1 ((g x).0 h))
  exactly-one (exact f) (over z n k e) = absurd (n (alone-fits u p z ((f z).1 ((k z).1 refl)) (λ x h. (k x).0 ((f x).0 h))))
  exactly-one (over z n k e) (exact g) = absurd (n (alone-fits v q z ((g z).1 ((k z).1 refl)) (λ x h. (k x).0 ((g x).0 h))))
  exactly-one (over z n k e) (over y m l i) = e ∙ sym i

  -- join
  pub join_one : (a b : Congruence) → JoinOf w a b u → JoinOf w a b v → u ≡ v
  join_one a b i j = go (both (singles-test a b) (lt_test (greatest w) (pos (nat_abs (a.constant -ℤ b.constant)))))
    where
      near : (Far w a b → ⊥) → u ≡ v
      near n = same (i.least n v j.left j.right) (j.least n u i.left i.right)

      go : {t : Bool} → Decides (Singles a b × (greatest w <ℤ pos (nat_abs (a.constant -ℤ b.constant)))) (((a.modulus ≢ pos 0) ⊎ (b.modulus ≢ pos 0)) ⊎ (pos (nat_abs (a.constant -ℤ b.constant)) ≤ℤ greatest w)) t → u ≡ v
      go (holds h) = let f : Far w a b = record { singles = h.0; beyond = h.1 } in i.far f ∙ sym (j.far f)
      go (fails (inl h)) = near (λ f. not-both f.singles h)
      go (fails (inr h)) = near (λ f. let k = f.beyond in omega ints)

  -- meet
  pub meet_one : (a b : Congruence) → MeetOf w a b u → MeetOf w a b v → u ≡ v
  meet_one a b i j = go (fits-test w (lcm_of a b)) (apart-test a b)
    where
      go : {s t : Bool} → Decides (SFits w (lcm_of a b)) (Beyond w (lcm_of a b)) s → Decides (Disjoint a b) (Shared a b) t → u ≡ v
      go (holds f) d = same (λ x h. (j.common f x).1 ((i.common f x).0 h)) (λ x h. (i.common f x).1 ((j.common f x).0 h))
      go (fails f) (holds d) = i.none d ∙ sym (j.none d)
      go (fails f) (fails s) = i.left (λ g. not_beyond g f) s ∙ sym (j.left (λ g. not_beyond g f) s)

-- mul
pub product-one : (w : Width) (a b u v : Congruence) → ProductOf w a b u → ProductOf w a b v → u ≡ v
product-one w a b u v (product-of-nothing e) (product-of-nothing f) = refl
product-one w a b u v (product-of-nothing e) (by-formula na nb f) = absurd (nor na nb e)
product-one w a b u v (product-of-nothing e) (over-single s f) = refl
product-one w a b u v (product-of-nothing e) (over-class na nb s f) = absurd (nor na nb e)
product-one w a b u v (by-formula na nb f) (product-of-nothing e) = absurd (nor na nb e)
product-one w a b u v (by-formula na nb f) (by-formula nc nd g) = refl
product-one w a b u v (by-formula na nb f) (over-single s g) = absurd (g f)
product-one w a b u v (by-formula na nb f) (over-class nc nd s g) = absurd (g f)
product-one w a b u v (over-single s f) (product-of-nothing e) = refl
product-one w a b u v (over-single s f) (by-formula na nb g) = absurd (f g)
product-one w a b u v (over-single s f) (over-single t g) = refl
product-one w a b u v (over-single s f) (over-class na nb t g) = absurd (t s)
product-one w a b u v (over-class na nb s f) (product-of-nothing e) = absurd (nor na nb e)
product-one w a b u v (over-class na nb s f) (by-formula nc nd g) = absurd (f g)
product-one w a b u v (over-class na nb s f) (over-single t g) = absurd (s t)
product-one w a b u v (over-class na nb s f) (over-class nc nd t g) = refl

-- div
not-nothing : {a b : Congruence} {d : ℤ} → a ≢ bottom → b ≡ cong d (pos 0) → (a ≡ bottom) ⊎ (b ≡ bottom) → ⊥
not-nothing n e (inl i) = n i
not-nothing n e (inr i) = let j : pos 0 ≡ pos 1 = ap (λ t. t.modulus) (sym e ∙ i) in omega ints

-- MIN / -1 doesn't fit
no-quotient : (w : Width) (a : Congruence) {d : ℤ} → a ≡ cong (least w) (pos 0) → d ≡ negsuc 0 → SFits w (quot_z a.constant d) → ⊥
no-quotient w a e i f =
    let g : SFits w (neg_ℤ (least w)) = subst (SFits w) (ap₂ quot_z (ap (λ t. t.constant) e) i ∙ quot-minus (least w)) f in
    let h = high w (neg_ℤ (least w)) g in
    omega (ints, pow_pos (hbits w))

by-minus-one : (z : ℤ) → negsuc 0 ∣ℤ z
by-minus-one z = record { by = neg_ℤ z; is = turned z }
  where
    turned : (z : ℤ) → z ≡ neg_ℤ z *ℤ negsuc 0
    turned z = rw (read z) (simp wholes (omega arith))

pub quotient-one : (w : Width) (a b u v : Congruence) → QuotientOf w a b u → QuotientOf w a b v → u ≡ v
quotient-one w a b u v (quotient-of-nothing e) (quotient-of-nothing f) = refl
quotient-one w a b u v (quotient-of-nothing e) (by_zero f) = refl
quotient-one w a b u v (quotient-of-nothing e) (least_by_minus_one f j) = refl
quotient-one w a b u v (quotient-of-nothing e) (divided nx y g ny yc ym h) = absurd (not-nothing nx g e)
quotient-one w a b u v (quotient-of-nothing e) (undivided nx ny nc g) = absurd (nor nx ny e)
quotient-one w a b u v (by_zero e) (quotient-of-nothing f) = refl
quotient-one w a b u v (by_zero e) (by_zero f) = refl
quotient-one w a b u v (by_zero e) (least_by_minus_one f j) = refl
quotient-one w a b u v (by_zero e) (divided nx y g ny yc ym h) = absurd (ny (one-divisor g e))
quotient-one w a b u v (by_zero e) (undivided nx ny nc g) = absurd (nc e)
quotient-one w a b u v (least_by_minus_one e i) (quotient-of-nothing f) = refl
quotient-one w a b u v (least_by_minus_one e i) (by_zero f) = refl
quotient-one w a b u v (least_by_minus_one e i) (least_by_minus_one f j) = refl
quotient-one w a b u v (least_by_minus_one e i) (divided nx y g ny yc ym h) = absurd (no-quotient w a e (one-divisor g i) h)
quotient-one w a b u v (least_by_minus_one e i) (undivided nx ny nc g) = absurd (g (negsuc 0) i (by-minus-one a.constant) (by-minus-one a.modulus))
quotient-one w a b u v (divided na d e nd dc dm f) (quotient-of-nothing f2) = absurd (not-nothing na e f2)
quotient-one w a b u v (divided na d e nd dc dm f) (by_zero f2) = absurd (nd (one-divisor e f2))
quotient-one w a b u v (divided na d e nd dc dm f) (least_by_minus_one f2 j2) = absurd (no-quotient w a f2 (one-divisor e j2) f)
quotient-one w a b u v (divided na d e nd dc dm f) (divided nx y g ny yc ym h) = ap (λ t. class_at (quot_z a.constant t) (nat_abs (quot_z a.modulus t))) (one-divisor e g)
quotient-one w a b u v (divided na d e nd dc dm f) (undivided nx ny nc g) = absurd (g d e dc dm)
quotient-one w a b u v (undivided na nb nz f) (quotient-of-nothing f2) = absurd (nor na nb f2)
quotient-one w a b u v (undivided na nb nz f) (by_zero f2) = absurd (nz f2)
quotient-one w a b u v (undivided na nb nz f) (least_by_minus_one f2 j2) = absurd (f (negsuc 0) j2 (by-minus-one a.constant) (by-minus-one a.modulus))
quotient-one w a b u v (undivided na nb nz f) (divided nx y g ny yc ym h) = absurd (f y g yc ym)
quotient-one w a b u v (undivided na nb nz f) (undivided nx ny nc g) = refl

-- comparisons
pub equality-one : (a b u v : Congruence) → EqualityOf a b u → EqualityOf a b v → u ≡ v
equality-one a b u v i j = go (apart-test a b) (both (singles-test a b) (eq_test a.constant b.constant))
  where
    go : {s t : Bool} → Decides (Disjoint a b) (Shared a b) s → Decides (OneNumber a b) (((a.modulus ≢ pos 0) ⊎ (b.modulus ≢ pos 0)) ⊎ (a.constant ≢ b.constant)) t → u ≡ v
    go (holds d) o = i.never.1 d ∙ sym (j.never.1 d)
    go (fails s) (holds o) = i.always.1 o ∙ sym (j.always.1 o)
    go (fails s) (fails (inl n)) = i.unknown s (λ o. not-both o.0 n) ∙ sym (j.unknown s (λ o. not-both o.0 n))
    go (fails s) (fails (inr n)) = i.unknown s (λ o. n o.1) ∙ sym (j.unknown s (λ o. n o.1))

pub comparison-one : (test : ℤ → ℤ → Bool) (a b u v : Congruence) → ComparisonOf test a b u → ComparisonOf test a b v → u ≡ v
comparison-one test a b u v i j = go (singles-test a b)
  where
    go : {t : Bool} → Decides (Singles a b) ((a.modulus ≢ pos 0) ⊎ (b.modulus ≢ pos 0)) t → u ≡ v
    go (holds s) = i.single s ∙ sym (j.single s)
    go (fails n) = i.unknown (λ s. not-both s n) ∙ sym (j.unknown (λ s. not-both s n))

-- disjoint, order
pub truth-one : {A : Type 0} (s t : Bool) → (s ≡ true ↔ A) → (t ≡ true ↔ A) → s ≡ t
truth-one true t f g = sym (g.1 (f.0 refl))
truth-one false true f g = f.1 (g.0 refl)
truth-one false false f g = refl

pub order-one : {P Q : Type 0} (o k : Option Ordering) → Ordered P Q o → Ordered P Q k → o ≡ k
order-one _ _ (equal p q) (equal r s) = refl
order-one _ _ (equal p q) (less r s) = absurd (s q)
order-one _ _ (equal p q) (greater r s) = absurd (r p)
order-one _ _ (equal p q) (unordered r s) = absurd (r p)
order-one _ _ (less p q) (equal r s) = absurd (q s)
order-one _ _ (less p q) (less r s) = refl
order-one _ _ (less p q) (greater r s) = absurd (r p)
order-one _ _ (less p q) (unordered r s) = absurd (r p)
order-one _ _ (greater p q) (equal r s) = absurd (p r)
order-one _ _ (greater p q) (less r s) = absurd (p r)
order-one _ _ (greater p q) (greater r s) = refl
order-one _ _ (greater p q) (unordered r s) = absurd (s q)
order-one _ _ (unordered p q) (equal r s) = absurd (p r)
order-one _ _ (unordered p q) (less r s) = absurd (p r)
order-one _ _ (unordered p q) (greater r s) = absurd (q s)
order-one _ _ (unordered p q) (unordered r s) = refl
