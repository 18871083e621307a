-- The mended arithmetic: sums, differences and negations are exact, products and quotients cover; all answers are proper.
use mathlib.Core.Path.{◌≡◌, refl, sym, ap, ap₂, ◌∙◌, subst}
use mathlib.Core.Bool.{Bool, true, false}
use mathlib.Core.Logic.{◌≢◌, ◌↔◌, ◌⊎◌, inl, inr}
use Prim.Native.Nat.{ℕ, zero, suc}
use native.Mathlib.Omega.{arith}
use native.Mathlib.Nat.{mul_comm}
use lib.IntN.{ℤ, pos, neg_ℤ, nat_abs, ◌+ℤ◌, ◌-ℤ◌, ◌*ℤ◌, zero-*ℤ}
use lib.Signed.{◌≤ℤ◌}
use mir.Syntax.{Width}
use mir.Val.{SFits}
use Rattle.std.specs.Prelude.{None, Option, Some}
use Rattle.whole.specs.Choice.{pick}
use Rattle.whole.specs.Range.{fits?}
use Rattle.whole.specs.Divides.{◌∣ℤ◌, gcd, Cong, floor_rem}
use Rattle.whole.specs.Exact.{exactly}
use Rattle.whole.proofs.Linear.{ints, wholes, read, abs}
use Rattle.whole.proofs.Fits.{zero-fits}
use Rattle.whole.proofs.Ring.{ring, nat_abs-*ℤ, nat_abs-zero, no_zero, mul-nonneg}
use Rattle.whole.proofs.Decides.{Decides, eq_test, both, either, branch, is_false, yes, fits-test, is-fit}
use Rattle.whole.proofs.Divides.{∣-trans}
use Rattle.whole.proofs.CommonDivisor.{is-gcd, gcd-left, gcd-right, gcd-n-0}
use Rattle.whole.proofs.Congruence.{∣-nat_abs, Cong-+, Cong-neg, Cong-*}
use Rattle.congruence.specs.declared.Congruence.{Congruence}
use Rattle.congruence.specs.Set.{cong, top, bottom, bottom?, ◌∈◌, singles?, Proper}
use Rattle.congruence.specs.Numbers.{gcd_then, formula}
use Rattle.congruence.specs.Meaning.{Negation, Sum, Difference, Exactly, exact, formula_gcd, FormulaFits, ProductOf, product-of-nothing, by-formula, over-single, over-class}
use Rattle.congruence.specs.Mended.{result_of, negative, sum, difference, over, product, beside}
use Rattle.whole.proofs.Found.{found-is, found-fits, not_found}
use Rattle.congruence.proofs.Sets.{clash, bottom-test, none, all, single-is, reduced-in, reduced-proper, canonical-modulus, canonical-positive, top-proper, bottom-proper}
use Rattle.congruence.proofs.Results.{exact-right, exact-proper}
use Rattle.congruence.proofs.Lattice.{steps, beside-3, beside-proper, divisor-fits}

-- ---- the gcd of two moduli

pub gcd-of : (w : Width) (k l : ℕ) → SFits w (pos k) → SFits w (pos l) → SFits w (pos (gcd k l))
gcd-of w (suc k) l f h = divisor-fits w (gcd (suc k) l) (suc k) (omega arith) (gcd-left (suc k) l) f
gcd-of w zero (suc l) f h = divisor-fits w (gcd 0 (suc l)) (suc l) (omega arith) (gcd-right 0 (suc l)) h
gcd-of w zero zero f h = subst (λ t. SFits w (pos t)) (sym (gcd-n-0 0)) f

module _ (a b : Congruence) where
  abbrev pub g : ℕ
  g = gcd (nat_abs a.modulus) (nat_abs b.modulus)

  pub moduli-fit : (w : Width) → SFits w (pos (nat_abs a.modulus)) → SFits w (pos (nat_abs b.modulus)) → SFits w (pos g)
  moduli-fit w = gcd-of w (nat_abs a.modulus) (nat_abs b.modulus)

  gcd-fits : (w : Width) → Proper w a → Proper w b → SFits w (pos g)
  gcd-fits w p q = moduli-fit w (subst (SFits w) (sym (canonical-modulus a p.canonical)) p.modulus-fits) (subst (SFits w) (sym (canonical-modulus b q.canonical)) q.modulus-fits)

pub singles-test : (a b : Congruence) → Decides ((a.modulus ≡ pos 0) × (b.modulus ≡ pos 0)) ((a.modulus ≢ pos 0) ⊎ (b.modulus ≢ pos 0)) (singles? a b)
unfolding singles?
singles-test a b = both (eq_test a.modulus (pos 0)) (eq_test b.modulus (pos 0))

-- what isn't both
pub not-both : {A B : Type 0} → A × B → (A → ⊥) ⊎ (B → ⊥) → ⊥
not-both (a, b) (inl f) = f a
not-both (a, b) (inr f) = f b

pub nor : {A B : Type 0} → (A → ⊥) → (B → ⊥) → A ⊎ B → ⊥
nor f g (inl a) = f a
nor f g (inr b) = g b

-- ---- sums

split-sum : (z c e k u v m n g : ℤ) → z -ℤ (c +ℤ e) ≡ k *ℤ g → g ≡ u *ℤ m +ℤ v *ℤ n → z ≡ (c +ℤ k *ℤ u *ℤ m) +ℤ (e +ℤ k *ℤ v *ℤ n)
split-sum z c e k u v m n g h b = back z (c +ℤ e) ∙ (ap (λ t. (c +ℤ e) +ℤ t) (h ∙ ap (λ t. k *ℤ t) b) ∙ spread c e k u v m n)
  where
    back : (z y : ℤ) → z ≡ y +ℤ (z -ℤ y)
    back z y = rw (read z, read y) (simp wholes (omega arith))

    spread : (c e k u v m n : ℤ) → (c +ℤ e) +ℤ k *ℤ (u *ℤ m +ℤ v *ℤ n) ≡ (c +ℤ k *ℤ u *ℤ m) +ℤ (e +ℤ k *ℤ v *ℤ n)
    spread c e k u v m n = simp ring

split-difference : (z c e k u v m n g : ℤ) → z -ℤ (c -ℤ e) ≡ k *ℤ g → g ≡ u *ℤ m +ℤ v *ℤ n → z ≡ (c +ℤ k *ℤ u *ℤ m) -ℤ (e +ℤ neg_ℤ (k *ℤ v) *ℤ n)
split-difference z c e k u v m n g h b = split-sum z c (neg_ℤ e) k u v m n g h b ∙ ap (λ t. (c +ℤ k *ℤ u *ℤ m) +ℤ t) (turn e (k *ℤ v) n)
  where
    turn : (e q n : ℤ) → neg_ℤ e +ℤ q *ℤ n ≡ neg_ℤ (e +ℤ neg_ℤ q *ℤ n)
    turn e q n = rw (read e, read q, read n) (simp wholes (omega arith))

module _ (a b : Congruence) (na : bottom? a ≡ false) (nb : bottom? b ≡ false) where
  abbrev ma : ℕ
  ma = nat_abs a.modulus

  abbrev mb : ℕ
  mb = nat_abs b.modulus

  -- the sums of two classes are a class modulo the gcd
  pub sum-class : (z : ℤ) → Sum a b z ↔ Cong (g a b) z (a.constant +ℤ b.constant)
  sum-class z = (
    λ s. subst (λ t. Cong (g a b) t (a.constant +ℤ b.constant)) (sym s.is)
        (Cong-+ s.x a.constant s.y b.constant (∣-trans (gcd-left ma mb) s.left.class) (∣-trans (gcd-right ma mb) s.right.class)),
    λ d.
        let i = is-gcd ma mb in record {
          x = a.constant +ℤ d.by *ℤ i.u *ℤ pos ma;
          y = b.constant +ℤ d.by *ℤ i.v *ℤ pos mb;
          left = steps a na (d.by *ℤ i.u);
          right = steps b nb (d.by *ℤ i.v);
          is = split-sum z a.constant b.constant d.by i.u i.v (pos ma) (pos mb) (pos (g a b)) d.is i.bezout;
        },
  )

  pub difference-class : (z : ℤ) → Difference a b z ↔ Cong (g a b) z (a.constant -ℤ b.constant)
  difference-class z = (
    λ s. subst (λ t. Cong (g a b) t (a.constant -ℤ b.constant)) (sym s.is)
        (Cong-+ s.x a.constant (neg_ℤ s.y) (neg_ℤ b.constant) (∣-trans (gcd-left ma mb) s.left.class) (Cong-neg s.y b.constant (∣-trans (gcd-right ma mb) s.right.class))),
    λ d.
        let i = is-gcd ma mb in record {
          x = a.constant +ℤ d.by *ℤ i.u *ℤ pos ma;
          y = b.constant +ℤ neg_ℤ (d.by *ℤ i.v) *ℤ pos mb;
          left = steps a na (d.by *ℤ i.u);
          right = steps b nb (neg_ℤ (d.by *ℤ i.v));
          is = split-difference z a.constant b.constant d.by i.u i.v (pos ma) (pos mb) (pos (g a b)) d.is i.bezout;
        },
  )

pub negation-class : (a : Congruence) → bottom? a ≡ false → (z : ℤ) → Negation a z ↔ Cong (nat_abs a.modulus) z (neg_ℤ a.constant)
negation-class a na z = (
  λ s. subst (λ t. Cong (nat_abs a.modulus) t (neg_ℤ a.constant)) (sym s.is) (Cong-neg s.x a.constant s.of.class),
  λ d. record { x = neg_ℤ z; of = record { some = na; class = subst (λ t. Cong (nat_abs a.modulus) (neg_ℤ z) t) (twice a.constant) (Cong-neg z (neg_ℤ a.constant) d) }; is = sym (twice z) },
)
  where
    twice : (z : ℤ) → neg_ℤ (neg_ℤ z) ≡ z
    twice z = rw (read z) (simp wholes (omega arith))

-- beside a bottom there are no results, and none is shown
nothing-exact : {w : Width} {R : ℤ → Type 0} → ((z : ℤ) → R z → ⊥) → Exactly w R bottom
nothing-exact f = exact (λ z. (λ h. absurd (none z h), λ r. absurd (f z r)))

-- a number of what is bottom
pub no_number : {v : Congruence} {x : ℤ} → v ≡ bottom → x ∈ v → ⊥
no_number {v} {x} e h = none x (subst (λ t. x ∈ t) e h)

pub no-sum : {a b : Congruence} {z : ℤ} → (a ≡ bottom) ⊎ (b ≡ bottom) → Sum a b z → ⊥
no-sum (inl e) s = no_number e s.left
no-sum (inr e) s = no_number e s.right

module _ (w : Width) (a b : Congruence) where
  pub sum-exact : Proper w a → Proper w b → Exactly w (Sum a b) (sum w a b)
  unfolding sum beside
  sum-exact p q = branch (either (bottom-test a) (bottom-test b)) (Exactly w (Sum a b)) (λ e. nothing-exact (λ z s. no-sum e s))
      (λ n. exact-right w (a.constant +ℤ b.constant) (g a b) (Sum a b) (sum-class a b (is_false (bottom-test a) n.0) (is_false (bottom-test b) n.1)) (gcd-fits a b w p q))

  pub difference-exact : Proper w a → Proper w b → Exactly w (Difference a b) (difference w a b)
  unfolding difference beside
  difference-exact p q = branch (either (bottom-test a) (bottom-test b)) (Exactly w (Difference a b)) (λ e. nothing-exact (λ z s. empty e s))
      (λ n. exact-right w (a.constant -ℤ b.constant) (g a b) (Difference a b) (difference-class a b (is_false (bottom-test a) n.0) (is_false (bottom-test b) n.1)) (gcd-fits a b w p q))
    where
      empty : {z : ℤ} → (a ≡ bottom) ⊎ (b ≡ bottom) → Difference a b z → ⊥
      empty (inl e) s = no_number e s.left
      empty (inr e) s = no_number e s.right

  pub sum-proper : Proper w (sum w a b)
  unfolding sum
  sum-proper = beside-proper w a b _ (λ h k. exact-proper w (a.constant +ℤ b.constant) (g a b))

  pub difference-proper : Proper w (difference w a b)
  unfolding difference
  difference-proper = beside-proper w a b _ (λ h k. exact-proper w (a.constant -ℤ b.constant) (g a b))

module _ (w : Width) (a : Congruence) where
  pub negative-exact : Proper w a → Exactly w (Negation a) (negative w a)
  unfolding negative
  negative-exact p = branch (bottom-test a) (Exactly w (Negation a)) (λ e. nothing-exact (λ z s. no_number e s.of))
      (λ n. exact-right w (neg_ℤ a.constant) (nat_abs a.modulus) (Negation a) (negation-class a (is_false (bottom-test a) n)) (subst (λ t. SFits w t) (sym (canonical-modulus a p.canonical)) p.modulus-fits))

  pub negative-proper : Proper w (negative w a)
  unfolding negative
  negative-proper = branch (bottom-test a) (Proper w) (λ h. bottom-proper w) (λ h. exact-proper w (neg_ℤ a.constant) (nat_abs a.modulus))

-- ---- product

-- two numbers on the way and their gcd
pub record Combined (w : Width) (x y : Option ℤ) (k : ℤ) : Type 0 where
  pub left : ℤ
  pub right : ℤ
  pub left_is : x ≡ Some left
  pub right_is : y ≡ Some right
  pub is : k ≡ pos (gcd (nat_abs left) (nat_abs right))
  pub fits : SFits w k

pub combined : (w : Width) (x y : Option ℤ) (k : ℤ) → gcd_then w x y ≡ Some k → Combined w x y k
unfolding gcd_then
combined w None y k h = let i : ◌≡◌ {A = ℕ} 0 1 = cc in absurd (omega arith)
combined w (Some x) None k h = let i : ◌≡◌ {A = ℕ} 0 1 = cc in absurd (omega arith)
combined w (Some x) (Some y) k h =
    let e = found-is w (pos (gcd (nat_abs x) (nat_abs y))) k h in
    record { left = x; right = y; left_is = refl; right_is = refl; is = e; fits = subst (λ t. SFits w t) (sym e) (yes (fits-test w (pos (gcd (nat_abs x) (nat_abs y)))) (found-fits w (pos (gcd (nat_abs x) (nat_abs y))) k h)) }

-- a result of the rules: the class, or what is shown instead
pub result-cases : (P : Congruence → Type 0) (z g : Option ℤ) (o : Congruence) → (z ≡ None → P o) → (g ≡ None → P o) → ((x k : ℤ) → z ≡ Some x → g ≡ Some k → P (cong (floor_rem x k) k)) → P (result_of z g o)
unfolding result_of
result-cases P None g o f1 f2 f3 = f1 refl
result-cases P (Some x) None o f1 f2 f3 = f2 refl
result-cases P (Some x) (Some k) o f1 f2 f3 = f3 x k refl refl

module _ (a b : Congruence) where
  abbrev first : ℕ
  first = gcd (nat_abs (a.modulus *ℤ b.modulus)) (nat_abs (a.modulus *ℤ b.constant))

  abbrev pub D : ℕ
  D = formula_gcd a b

  pub in-product : (x y : ℤ) → x ∈ a → y ∈ b → Cong D (x *ℤ y) (a.constant *ℤ b.constant)
  in-product x y h k =
      let l = gcd-left (gcd (nat_abs (a.modulus *ℤ b.modulus)) (nat_abs (a.modulus *ℤ b.constant))) (nat_abs (b.modulus *ℤ a.constant)) in
      let d1 : pos D ∣ℤ pos (nat_abs (a.modulus *ℤ b.modulus)) = ∣-trans l (gcd-left (nat_abs (a.modulus *ℤ b.modulus)) (nat_abs (a.modulus *ℤ b.constant))) in
      let d2 : pos D ∣ℤ pos (nat_abs (a.modulus *ℤ b.constant)) = ∣-trans l (gcd-right (nat_abs (a.modulus *ℤ b.modulus)) (nat_abs (a.modulus *ℤ b.constant))) in
      let d3 : pos D ∣ℤ pos (nat_abs (b.modulus *ℤ a.constant)) = gcd-right (gcd (nat_abs (a.modulus *ℤ b.modulus)) (nat_abs (a.modulus *ℤ b.constant))) (nat_abs (b.modulus *ℤ a.constant)) in
      Cong-* D x a.constant y b.constant
      (subst (λ t. pos D ∣ℤ pos t) (nat_abs-*ℤ a.modulus b.modulus) d1)
      (∣-nat_abs (a.constant *ℤ pos (nat_abs b.modulus)) (subst (λ t. pos D ∣ℤ pos t) (turned b.modulus a.constant) d3))
      (∣-nat_abs (b.constant *ℤ pos (nat_abs a.modulus)) (subst (λ t. pos D ∣ℤ pos t) (turned a.modulus b.constant) d2))
      h.class k.class
    where
      turned : (m e : ℤ) → nat_abs (m *ℤ e) ≡ nat_abs (e *ℤ pos (nat_abs m))
      turned m e = nat_abs-*ℤ m e ∙ (mul_comm (nat_abs m) (nat_abs e) ∙ sym (nat_abs-*ℤ e (pos (nat_abs m))))

module _ (w : Width) (a b : Congruence) where
  pub formula-is : (k : ℤ) → formula w a b ≡ Some k → (k ≡ pos (D a b)) × SFits w k
  unfolding formula
  formula-is k h =
      let p = combined w (gcd_then w (exactly w (a.modulus *ℤ b.modulus)) (exactly w (a.modulus *ℤ b.constant))) (exactly w (b.modulus *ℤ a.constant)) k h in
      let q = combined w (exactly w (a.modulus *ℤ b.modulus)) (exactly w (a.modulus *ℤ b.constant)) p.left p.left_is in (
        p.is ∙ ap₂ (λ s t. pos (gcd (nat_abs s) (nat_abs t)))
            (q.is ∙ ap₂ (λ s t. pos (gcd (nat_abs s) (nat_abs t))) (found-is w (a.modulus *ℤ b.modulus) q.left q.left_is) (found-is w (a.modulus *ℤ b.constant) q.right q.right_is))
            (found-is w (b.modulus *ℤ a.constant) p.right p.right_is),
        p.fits,
      )

  -- where the products fit the formula is the gcd of all three: of the first two it is beyond the width only if the third product is 0
  pub formula-of : pos 0 ≤ℤ a.modulus → pos 0 ≤ℤ b.modulus → SFits w (a.modulus *ℤ b.modulus) → SFits w (a.modulus *ℤ b.constant) → SFits w (b.modulus *ℤ a.constant) → formula w a b ≡ exactly w (pos (D a b))
  unfolding formula gcd_then exactly
  formula-of p q f g h = rw (is-fit f, is-fit g, is-fit h) (go (fits? w (pos (first a b))) refl)
    where
      positive : pos 0 ≤ℤ (a.modulus *ℤ b.modulus)
      positive = mul-nonneg a.modulus b.modulus p q

      own-abs : pos (nat_abs (a.modulus *ℤ b.modulus)) ≡ a.modulus *ℤ b.modulus
      own-abs = let l = positive in omega (ints, abs (a.modulus *ℤ b.modulus))

      -- if the first gcd is no number of the width, the moduli's product is 0
      none_first : (k : ℕ) → nat_abs (a.modulus *ℤ b.modulus) ≡ k → fits? w (pos (first a b)) ≡ false → a.modulus *ℤ b.modulus ≡ pos 0
      none_first zero i e = nat_abs-zero (a.modulus *ℤ b.modulus) i
      none_first (suc k) i e = absurd (clash (sym (is-fit (divisor-fits w (first a b) (nat_abs (a.modulus *ℤ b.modulus)) (omega arith)
          (gcd-left (nat_abs (a.modulus *ℤ b.modulus)) (nat_abs (a.modulus *ℤ b.constant))) (subst (λ t. SFits w t) (sym own-abs) f))) ∙ e))

      whole : fits? w (pos (first a b)) ≡ false → (a.modulus ≡ pos 0) ⊎ (b.modulus ≡ pos 0) → D a b ≡ first a b
      whole e (inl i) = absurd (clash (sym (is-fit {w = w} zero-fits) ∙ (ap (λ t. fits? w (pos t)) (sym zero-gcd) ∙ e)))
        where
          zero-gcd : first a b ≡ 0
          zero-gcd = ap (λ m. gcd (nat_abs (m *ℤ b.modulus)) (nat_abs (m *ℤ b.constant))) i
              ∙ (ap₂ (λ s t. gcd (nat_abs s) (nat_abs t)) (zero-*ℤ b.modulus) (zero-*ℤ b.constant) ∙ gcd-n-0 0)
      whole e (inr j) = ap (λ t. gcd (first a b) (nat_abs t)) (ap (λ n. n *ℤ a.constant) j ∙ zero-*ℤ a.constant) ∙ gcd-n-0 (first a b)

      go : (t : Bool) → fits? w (pos (first a b)) ≡ t → gcd_then w (pick t (Some (pos (first a b))) None) (Some (b.modulus *ℤ a.constant)) ≡ exactly w (pos (D a b))
      go true e = refl
      go false e = let z = none_first (nat_abs (a.modulus *ℤ b.modulus)) refl e in
          rw (whole e (no_zero a.modulus b.modulus z), e) refl

  -- of two single numbers the formula is 0
  formula-zero : a.modulus ≡ pos 0 → b.modulus ≡ pos 0 → formula w a b ≡ Some (pos 0)
  unfolding formula gcd_then exactly
  formula-zero i j = rw (i, j, zero-*ℤ (pos 0), zero-*ℤ b.constant, zero-*ℤ a.constant, is-fit {w = w} zero-fits, gcd-n-0 0, is-fit {w = w} zero-fits, gcd-n-0 0, is-fit {w = w} zero-fits) refl

  pub product-covers : (x y : ℤ) → SFits w (x *ℤ y) → x ∈ a → y ∈ b → (x *ℤ y) ∈ product w a b
  unfolding product over
  product-covers x y f p q = subst (λ t. (x *ℤ y) ∈ t) (sym (beside-3 w a b _ p.some q.some))
      (result-cases (λ t. (x *ℤ y) ∈ t) (exactly w (a.constant *ℤ b.constant)) (formula w a b) _
      (λ h. instead (λ i j. clash (sym (is-fit (subst (λ t. SFits w t) (ap₂ ◌*ℤ◌ (single-is a x i p) (single-is b y j q)) f)) ∙ not_found w (a.constant *ℤ b.constant) h)))
      (λ h. instead (λ i j. let z : ◌≡◌ {A = ℕ} 0 1 = cc (formula-zero i j) in omega arith))
      (λ u k h i. let e = (formula-is k i).0 in
      subst (λ t. (x *ℤ y) ∈ cong (floor_rem u t) t) (sym e) (reduced-in u (D a b) (x *ℤ y) (subst (λ t. Cong (D a b) (x *ℤ y) t) (sym (found-is w (a.constant *ℤ b.constant) u h)) (in-product a b x y p q)))))
    where
      instead : (a.modulus ≡ pos 0 → b.modulus ≡ pos 0 → ⊥) → (x *ℤ y) ∈ pick (singles? a b) bottom top
      instead n = branch (singles-test a b) (λ t. (x *ℤ y) ∈ t) (λ s. absurd (n s.0 s.1)) (λ s. all (x *ℤ y))

  -- what a modulus that was worked out says of its products
  pub formula-fits : (x k : ℤ) → exactly w (a.constant *ℤ b.constant) ≡ Some x → formula w a b ≡ Some k → FormulaFits w a b
  unfolding formula
  formula-fits x k i h =
      let p = combined w (gcd_then w (exactly w (a.modulus *ℤ b.modulus)) (exactly w (a.modulus *ℤ b.constant))) (exactly w (b.modulus *ℤ a.constant)) k h in
      let q = combined w (exactly w (a.modulus *ℤ b.modulus)) (exactly w (a.modulus *ℤ b.constant)) p.left p.left_is in record {
        moduli = found (a.modulus *ℤ b.modulus) q.left q.left_is;
        left = found (a.modulus *ℤ b.constant) q.right q.right_is;
        right = found (b.modulus *ℤ a.constant) p.right p.right_is;
        constants = found (a.constant *ℤ b.constant) x i;
        divisor = subst (λ t. SFits w t) (formula-is k h).0 (formula-is k h).1;
      }
    where
      found : (z k : ℤ) → exactly w z ≡ Some k → SFits w z
      found z k e = yes (fits-test w z) (found-fits w z k e)

  pub product_is : Proper w a → Proper w b → ProductOf w a b (product w a b)
  unfolding product beside over
  product_is p q = branch (either (bottom-test a) (bottom-test b)) (ProductOf w a b) (λ e. product-of-nothing e)
      (λ n. result-cases (ProductOf w a b) (exactly w (a.constant *ℤ b.constant)) (formula w a b) _
      (λ h. instead n.0 n.1 (λ f. clash (sym (is-fit f.constants) ∙ not_found w (a.constant *ℤ b.constant) h)))
      (λ h. instead n.0 n.1 (λ f. clash (sym (is-fit f.divisor) ∙ not_found w (pos (D a b)) (sym (formula-of (canonical-positive a p.canonical) (canonical-positive b q.canonical) f.moduli f.left f.right) ∙ h))))
      (λ x k h i. subst (ProductOf w a b) (sym (ap₂ (λ z g. cong (floor_rem z g) g) (found-is w (a.constant *ℤ b.constant) x h) (formula-is k i).0)) (by-formula n.0 n.1 (formula-fits x k h i))))
    where
      instead : a ≢ bottom → b ≢ bottom → (FormulaFits w a b → ⊥) → ProductOf w a b (pick (singles? a b) bottom top)
      instead na nb f = branch (singles-test a b) (ProductOf w a b) (λ s. over-single s f) (λ s. over-class na nb (λ t. not-both t s) f)

  pub product-proper : Proper w (product w a b)
  unfolding product over
  product-proper = beside-proper w a b _ (λ na nb.
      result-cases (Proper w) (exactly w (a.constant *ℤ b.constant)) (formula w a b) _ (λ h. instead) (λ h. instead)
      (λ u k h i.
      let r = formula-is k i in
      let e = found-is w (a.constant *ℤ b.constant) u h in
      subst (λ t. Proper w (cong (floor_rem u t) t)) (sym r.0) (reduced-proper w u (D a b) (λ z. subst (λ t. SFits w t) (sym e) (yes (fits-test w (a.constant *ℤ b.constant)) (found-fits w (a.constant *ℤ b.constant) u h))) (subst (λ t. SFits w t) r.0 r.1))))
    where
      instead : Proper w (pick (singles? a b) bottom top)
      instead = branch (singles-test a b) (Proper w) (λ s. bottom-proper w) (λ s. top-proper w)
