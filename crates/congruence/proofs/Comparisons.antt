-- The mended comparisons and the logic of truth values: what they show has the truth of every pair of numbers.
use mathlib.Core.Path.{◌≡◌, refl, sym, ap, ap₂, ◌∙◌, subst}
use mathlib.Core.Bool.{Bool, true, false, not, ◌&&◌, ◌||◌}
use mathlib.Core.Logic.{◌≢◌, ◌⊎◌, inl, inr}
use lib.IntN.{ℤ, pos}
use mir.Syntax.{Width}
use mir.Val.{SFits}
use Rattle.whole.specs.Test.{◌≟◌, truth}
use Rattle.whole.proofs.Linear.{ints}
use Rattle.whole.proofs.Fits.{zero-fits}
use Rattle.whole.proofs.Decides.{Decides, eq_test, both, either, weaken, branch, is_true, is_false, unequal}
use Rattle.congruence.specs.declared.Congruence.{Congruence}
use Rattle.congruence.specs.Set.{cong, top, ◌∈◌, Proper}
use Rattle.congruence.specs.Meaning.{Shared, Disjoint, Singles, OneNumber, EqualityOf, ComparisonOf}
use Rattle.congruence.specs.Mended.{equality, comparison}
use Rattle.congruence.specs.Ported.{only?, conjoined, disjoined, inverted}
use Rattle.congruence.proofs.Sets.{bottom-test, own, all, alone-in, alone-out, single-is, one-fits, top-proper, single-proper}
use Rattle.congruence.proofs.Lattice.{apart-test}
use Rattle.congruence.proofs.Arithmetic.{singles-test, not-both}

pub truth-fits : (w : Width) (t : Bool) → SFits w (truth t)
truth-fits w true = one-fits w
truth-fits w false = zero-fits

-- a truth that is known is the single number that stands for it
shows : (s t : Bool) → s ≡ t → truth s ∈ cong (truth t) (pos 0)
shows s t e = subst (λ u. truth u ∈ cong (truth t) (pos 0)) (sym e) (alone-in (truth t))

module _ (a b : Congruence) where
  pub equality-right : (x y : ℤ) → x ∈ a → y ∈ b → truth (x ≟ y) ∈ equality a b
  unfolding equality
  equality-right x y p q = branch (apart-test a b) (λ t. truth (x ≟ y) ∈ t) (λ f. shows (x ≟ y) false (unequal (λ e. f x p (subst (λ t. t ∈ b) (sym e) q))))
      (λ s. branch (singles-test a b) (λ t. truth (x ≟ y) ∈ t)
      (λ i. shows (x ≟ y) true (is_true (eq_test x y) (λ n. n (single-is a x i.0 p ∙ sym (single-is a s.number i.0 s.left) ∙ (single-is b s.number i.1 s.right ∙ sym (single-is b y i.1 q))))))
      (λ i. all (truth (x ≟ y))))

  -- two single numbers that share one are equal
  alike-one : Singles a b → Shared a b → a.constant ≡ b.constant
  alike-one i s = sym (single-is a s.number i.0 s.left) ∙ single-is b s.number i.1 s.right

  one-shared : OneNumber a b → Disjoint a b → ⊥
  one-shared o f = f a.constant (own_in a o.0.0) (subst (λ t. t ∈ b) (sym o.1) (own_in b o.0.1))
    where
      own_in : (v : Congruence) → v.modulus ≡ pos 0 → v.constant ∈ v
      own_in v e = own v (is_false (bottom-test v) (λ i. let j : v.modulus ≡ pos 1 = ap (λ t. t.modulus) i in omega ints))

  pub equality-is : EqualityOf a b (equality a b)
  unfolding equality
  equality-is = branch (apart-test a b) (EqualityOf a b)
      (λ f. record { never = (λ e. f, λ d. refl); always = (λ e. absurd (zero_one (sym e)), λ o. absurd (one-shared o f)); unknown = λ s n. absurd (f s.number s.left s.right) })
      (λ s. branch (singles-test a b) (EqualityOf a b)
      (λ i. record { never = (λ e. absurd (zero_one e), λ d. absurd (d s.number s.left s.right)); always = (λ e. (i, alike-one i s), λ o. refl); unknown = λ t n. absurd (n (i, alike-one i s)) })
      (λ i. record { never = (λ e. absurd (wide e), λ d. absurd (d s.number s.left s.right)); always = (λ e. absurd (wide e), λ o. absurd (not-both o.0 i)); unknown = λ t n. refl }))
    where
      zero_one : cong (pos 1) (pos 0) ≡ cong (pos 0) (pos 0) → ⊥
      zero_one e = let i : pos 1 ≡ pos 0 = ap (λ v. v.constant) e in omega ints

      wide : {c : ℤ} → top ≡ cong c (pos 0) → ⊥
      wide e = let i : pos 1 ≡ pos 0 = ap (λ v. v.modulus) e in omega ints

  pub equality-proper : (w : Width) → Proper w (equality a b)
  unfolding equality
  equality-proper w = branch (apart-test a b) (Proper w) (λ f. single-proper w (pos 0) zero-fits) (λ s. branch (singles-test a b) (Proper w) (λ i. single-proper w (pos 1) (one-fits w)) (λ i. top-proper w))

  pub comparison-right : (test : ℤ → ℤ → Bool) (x y : ℤ) → x ∈ a → y ∈ b → truth (test x y) ∈ comparison test a b
  unfolding comparison
  comparison-right test x y p q = branch (singles-test a b) (λ t. truth (test x y) ∈ t) (λ i. shows (test x y) (test a.constant b.constant) (ap₂ test (single-is a x i.0 p) (single-is b y i.1 q))) (λ i. all (truth (test x y)))

  pub comparison-is : (test : ℤ → ℤ → Bool) → ComparisonOf test a b (comparison test a b)
  unfolding comparison
  comparison-is test = branch (singles-test a b) (ComparisonOf test a b) (λ i. record { single = λ j. refl; unknown = λ n. absurd (n i) }) (λ i. record { single = λ j. absurd (not-both j i); unknown = λ n. refl })

  pub comparison-proper : (w : Width) (test : ℤ → ℤ → Bool) → Proper w (comparison test a b)
  unfolding comparison
  comparison-proper w test = branch (singles-test a b) (Proper w) (λ i. single-proper w (truth (test a.constant b.constant)) (truth-fits w (test a.constant b.constant))) (λ i. top-proper w)

-- ---- and, or, not

only-test : (a : Congruence) (t : Bool) → Decides (a ≡ cong (truth t) (pos 0)) (a ≢ cong (truth t) (pos 0)) (only? a (truth t))
unfolding only?
only-test a t = weaken there apart (both (eq_test a.modulus (pos 0)) (eq_test a.constant (truth t)))
  where
    there : (a.modulus ≡ pos 0) × (a.constant ≡ truth t) → a ≡ cong (truth t) (pos 0)
    there h = ap₂ cong h.1 h.0

    apart : (a.modulus ≢ pos 0) ⊎ (a.constant ≢ truth t) → a ≢ cong (truth t) (pos 0)
    apart (inl f) e = f (ap (λ v. v.modulus) e)
    apart (inr f) e = f (ap (λ v. v.constant) e)

same_truth : (s t : Bool) → truth s ≡ truth t → s ≡ t
same_truth true true e = refl
same_truth true false e = absurd (omega ints)
same_truth false true e = absurd (omega ints)
same_truth false false e = refl

-- the truth of the single number that a is
known : (a : Congruence) (s t : Bool) → truth s ∈ a → a ≡ cong (truth t) (pos 0) → s ≡ t
known a s t h e = same_truth s t (alone-out (truth t) (truth s) (subst (λ v. truth s ∈ v) e h))

module _ (a b : Congruence) (s t : Bool) (p : truth s ∈ a) (q : truth t ∈ b) where
  pub and_covers : truth (s && t) ∈ conjoined a b
  unfolding conjoined
  and_covers = branch (either (only-test a false) (only-test b false)) (λ v. truth (s && t) ∈ v) (λ h. shows (s && t) false (off h))
      (λ n. branch (both (only-test a true) (only-test b true)) (λ v. truth (s && t) ∈ v) (λ h. shows (s && t) true (ap₂ ◌&&◌ (known a s true p h.0) (known b t true q h.1))) (λ f. all (truth (s && t))))
    where
      right-off : (u : Bool) → (u && false) ≡ false
      right-off true = refl
      right-off false = refl

      off : (a ≡ cong (pos 0) (pos 0)) ⊎ (b ≡ cong (pos 0) (pos 0)) → (s && t) ≡ false
      off (inl e) = ap (λ u. u && t) (known a s false p e)
      off (inr e) = ap (λ u. s && u) (known b t false q e) ∙ right-off s

  pub or-covers : truth (s || t) ∈ disjoined a b
  unfolding disjoined
  or-covers = branch (either (only-test a true) (only-test b true)) (λ v. truth (s || t) ∈ v) (λ h. shows (s || t) true (on h))
      (λ n. branch (both (only-test a false) (only-test b false)) (λ v. truth (s || t) ∈ v) (λ h. shows (s || t) false (ap₂ ◌||◌ (known a s false p h.0) (known b t false q h.1))) (λ f. all (truth (s || t))))
    where
      right-on : (u : Bool) → (u || true) ≡ true
      right-on true = refl
      right-on false = refl

      on : (a ≡ cong (pos 1) (pos 0)) ⊎ (b ≡ cong (pos 1) (pos 0)) → (s || t) ≡ true
      on (inl e) = ap (λ u. u || t) (known a s true p e)
      on (inr e) = ap (λ u. s || u) (known b t true q e) ∙ right-on s

pub not-covers : (a : Congruence) (s : Bool) → truth s ∈ a → truth (not s) ∈ inverted a
unfolding inverted
not-covers a s p = branch (only-test a true) (λ v. truth (not s) ∈ v) (λ e. shows (not s) false (ap not (known a s true p e)))
    (λ n. branch (only-test a false) (λ v. truth (not s) ∈ v) (λ e. shows (not s) true (ap not (known a s false p e))) (λ f. all (truth (not s))))

module _ (w : Width) (a b : Congruence) where
  falsehood : Proper w (cong (pos 0) (pos 0))
  falsehood = single-proper w (pos 0) zero-fits

  truthful : Proper w (cong (pos 1) (pos 0))
  truthful = single-proper w (pos 1) (one-fits w)

  pub and-proper : Proper w (conjoined a b)
  unfolding conjoined
  and-proper = branch (either (only-test a false) (only-test b false)) (Proper w) (λ h. falsehood) (λ n. branch (both (only-test a true) (only-test b true)) (Proper w) (λ h. truthful) (λ f. top-proper w))

  pub or-proper : Proper w (disjoined a b)
  unfolding disjoined
  or-proper = branch (either (only-test a true) (only-test b true)) (Proper w) (λ h. truthful) (λ n. branch (both (only-test a false) (only-test b false)) (Proper w) (λ h. falsehood) (λ f. top-proper w))

  pub not-proper : Proper w (inverted a)
  unfolding inverted
  not-proper = branch (only-test a true) (Proper w) (λ e. falsehood) (λ n. branch (only-test a false) (Proper w) (λ e. truthful) (λ f. top-proper w))
