-- The ported operations: when each is refused and by which number, and what it gives otherwise.
use mathlib.Core.Path.{◌≡◌, refl, sym, ap, ap₂, ◌∙◌, subst}
use mathlib.Core.Bool.{Bool, false, ◌&&◌}
use mathlib.Core.Logic.{◌≢◌, ◌↔◌, ◌⊎◌, inl, inr}
use Prim.Native.Nat.{ℕ}
use native.Mathlib.Omega.{arith}
use lib.IntN.{ℤ, pos, neg_ℤ, nat_abs, ◌+ℤ◌, ◌-ℤ◌, ◌*ℤ◌}
use lib.Signed.{◌≤ℤ◌, ◌<ℤ◌, quot_z, rem_z}
use mir.Syntax.{Width, w64}
use mir.Val.{SFits}
use Rattle.std.specs.Prelude.{None, Option, Some}
use Rattle.whole.specs.Divides.{◌∣ℤ◌, gcd, Cong}
use Rattle.whole.specs.Exact.{exactly}
use Rattle.whole.proofs.Linear.{ints, wholes, read, abs, from-≢}
use Rattle.whole.proofs.Fits.{machine, range}
use Rattle.whole.proofs.Decides.{Decides, holds, fails, eq_test, lt_test, fits-test, both, either, branch, is_false, is-fit, not_beyond, yes}
use Rattle.whole.proofs.Divide.{rem-small}
use Rattle.whole.proofs.Divides.{∣-of-rem, rem-of-∣}
use Rattle.whole.proofs.Floor.{rem-class}
use Rattle.whole.proofs.Congruence.{Cong-sym, Cong-trans, Cong-neg, join-left, join-right}
use Rattle.whole.proofs.Found.{found-is, found-fits, not_found}
use Rattle.refusal.specs.Answer.{Answer, is, refused}
use Rattle.congruence.specs.declared.Congruence.{Congruence}
use Rattle.congruence.specs.Set.{cong, top, bottom, bottom?, ◌∈◌, domain?, Value, alone, spaced, InDomain}
use Rattle.congruence.specs.Numbers.{gcd_then, abs_then, formula}
use Rattle.congruence.specs.Answer.{within}
use Rattle.congruence.specs.Meaning.{Both, Negation, Sum, Difference, formula_gcd, Ports, not-in-domain, does-not-fit, would-assert, gives, Fits, Just, Inhabited, Asserting, Least, JoinOver, NegOver, NegAsserts, AddOver, MulOver, DifferenceOver, opposite-over, difference-over, PortedProduct, CoversProducts, CoversQuotients, DividedBy, QuotientOver, quotient-over, QuotientAsserts, quotient-asserts, PortedQuotient}
use Rattle.congruence.specs.Ported as ported
use Rattle.congruence.specs.Ported.{gcd_of, normalize, made, held, asserted, joined, negated, added, added_to, subtracted, multiplied, divided_by, divided, only?}
use Rattle.congruence.proofs.Sets.{clash, bottom-test, none, all, single-is, value-test, value-positive}
use Rattle.congruence.proofs.Lattice.{spread, spread-least}
use Rattle.congruence.proofs.Arithmetic.{gcd-of, moduli-fit, combined, formula-is, formula-of, formula-fits, in-product, sum-class, negation-class, no_number, no-sum, not-both, nor}
use Rattle.congruence.proofs.Quotients.{divides-test, quot_fits, quotient-class, one-divisor}

-- ---- what the rules are made of

pub normalize-class : (c : ℤ) (k : ℕ) (x : ℤ) → x ∈ normalize c (pos k) ↔ Cong k x c
unfolding normalize
normalize-class c k x = branch (eq_test (pos k) (pos 0)) (λ (t : Congruence). x ∈ t ↔ Cong k x c) (λ e. (λ h. h.class, λ d. record { some = lone e; class = d }))
    (λ n. (λ h. Cong-trans x (rem_z c (pos k)) c h.class (rem-class c (pos k)), λ d. record { some = many n; class = Cong-trans x c (rem_z c (pos k)) d (Cong-sym (rem_z c (pos k)) c (rem-class c (pos k))) }))
  where
    lone : pos k ≡ pos 0 → bottom? (cong c (pos k)) ≡ false
    lone e = is_false (bottom-test (cong c (pos k))) (λ i. let j : pos k ≡ pos 1 = ap (λ t. t.modulus) i in omega ints)

    many : pos k ≢ pos 0 → bottom? (cong (rem_z c (pos k)) (pos k)) ≡ false
    many n = is_false (bottom-test (cong (rem_z c (pos k)) (pos k))) (λ i.
        let j : pos k ≡ pos 1 = ap (λ t. t.modulus) i in
        let o : rem_z c (pos k) ≡ pos 1 = ap (λ t. t.constant) i in
        let s = rem-small c (pos k) n in
        omega (ints, abs (rem_z c (pos k))))

module _ (P : Answer Congruence → Type 0) where
  made-cases : (c m : Option ℤ) → (m ≡ None → P (refused 2)) → (c ≡ None → P (refused 2)) → ((z k : ℤ) → c ≡ Some z → m ≡ Some k → P (is (normalize z k))) → P (made c m)
  unfolding made
  made-cases c None f g h = f refl
  made-cases None (Some m) f g h = g refl
  made-cases (Some c) (Some m) f g h = h c m refl refl

  asserted-cases : (c m : Option ℤ) → (c ≡ None → P (refused 2)) → (m ≡ None → P (refused 2)) → ((z k : ℤ) → c ≡ Some z → m ≡ Some k → P (held z k)) → P (asserted c m)
  unfolding asserted
  asserted-cases None m f g h = f refl
  asserted-cases (Some c) None f g h = g refl
  asserted-cases (Some c) (Some m) f g h = h c m refl refl

  held-cases : (c m : ℤ) → (Asserting c m → P (refused 3)) → ((Asserting c m → ⊥) → P (is (cong c m))) → P (held c m)
  unfolding held
  held-cases c m f g = branch (either (eq_test m (pos 0)) (lt_test c m)) P (λ h. g (passes h)) f
    where
      passes : (m ≡ pos 0) ⊎ (c <ℤ m) → Asserting c m → ⊥
      passes (inl e) (n, l) = n e
      passes (inr h) (n, l) = omega ints

-- what `from` lets pass isn't bottom
passed-some : (c m : ℤ) → (Asserting c m → ⊥) → cong c m ≢ bottom
passed-some c m f e = let i : c ≡ pos 1 = ap (λ t. t.constant) e in let j : m ≡ pos 1 = ap (λ t. t.modulus) e in f (omega ints, omega ints)

-- an absolute value that was asked for, also of a number that doesn't fit
pub abs-then-all : (w : Width) (z : ℤ) → abs_then w (exactly w z) ≡ exactly w (pos (nat_abs z))
unfolding abs_then exactly
abs-then-all w z = branch (fits-test w z) (λ e. abs_then w e ≡ exactly w (pos (nat_abs z))) (λ f. refl) (λ b. rw (is_false (fits-test w (pos (nat_abs z))) (λ f. not_beyond (back f) b)))
  where
    back : SFits w (pos (nat_abs z)) → SFits w z
    back f = omega (machine, range f, abs z)

found : {w : Width} {z k : ℤ} → exactly w z ≡ Some k → SFits w z
found {w} {z} {k} e = yes (fits-test w z) (found-fits w z k e)

unfound : {w : Width} {z : ℤ} → exactly w z ≡ None → SFits w z → ⊥
unfound {w} {z} e f = clash (sym (is-fit f) ∙ not_found w z e)

-- two things that an exact number can't be
other : {e : Option ℤ} {k : ℤ} → e ≡ Some k → e ≡ None → ⊥
other i j = let z : ◌≡◌ {A = ℕ} 0 1 = cc in omega arith

one_number : {k l : ℤ} → ◌≡◌ {A = Option ℤ} (Some k) (Some l) → k ≡ l
one_number e = cc

-- two that are one and the same third
both_ways : {A B C : Type 0} → A ↔ C → B ↔ C → A ↔ B
both_ways f g = (λ a. g.1 (f.0 a), λ b. f.1 (g.0 b))

-- ---- the domain goes first

module _ (a b : Congruence) (fa : Fits w64 a) (fb : Fits w64 b) where
  ported-two : {O A : Type 0} {P : Congruence → Type 0} (r : Answer Congruence) → (Both w64 a b → Ports (Both w64 a b) O A P r) → Ports (Both w64 a b) O A P (within (domain? a && domain? b) r)
  ported-two {O} {A} {P} r f = branch (both (value-test a) (value-test b)) (Ports (Both w64 a b) O A P)
      (λ v. f (record { value = v.0; constant-fits = fa.0; modulus-fits = fa.1 }, record { value = v.1; constant-fits = fb.0; modulus-fits = fb.1 }))
      (λ n. not-in-domain (λ d. not-both (d.0.value, d.1.value) n))

  abbrev D : Type 0
  D = Both w64 a b

  modulus-abs : (v : Congruence) → InDomain w64 v → SFits w64 (pos (nat_abs v.modulus))
  modulus-abs v d = let h = value-positive v d.value in subst (SFits w64) (own-abs v.modulus h) d.modulus-fits
    where
      own-abs : (m : ℤ) → pos 0 ≤ℤ m → m ≡ pos (nat_abs m)
      own-abs m h = omega (ints, abs m)

  moduli-found : D → gcd_of a.modulus b.modulus ≡ Some (pos (gcd (nat_abs a.modulus) (nat_abs b.modulus)))
  unfolding exactly
  moduli-found d = rw (is-fit (moduli-fit a b w64 (modulus-abs a d.0) (modulus-abs b d.1))) refl

  -- ---- join

  abbrev distance : Option ℤ
  distance = abs_then w64 (exactly w64 (a.constant -ℤ b.constant))

  abbrev spacing : Option ℤ
  spacing = gcd_then w64 (gcd_of a.modulus b.modulus) distance

  distance_is : distance ≡ exactly w64 (pos (nat_abs (a.constant -ℤ b.constant)))
  distance_is = abs-then-all w64 (a.constant -ℤ b.constant)

  spread-found : D → SFits w64 (pos (nat_abs (a.constant -ℤ b.constant))) → spacing ≡ Some (pos (spread w64 a b))
  unfolding gcd_then exactly
  spread-found d f = rw (moduli-found d, distance_is, is-fit f, is-fit (gcd-of w64 (gcd (nat_abs a.modulus) (nat_abs b.modulus)) (nat_abs (a.constant -ℤ b.constant)) (moduli-fit a b w64 (modulus-abs a d.0) (modulus-abs b d.1)) f)) refl

  spread-is-least : a ≢ bottom → b ≢ bottom → Least a b (normalize a.constant (pos (spread w64 a b)))
  spread-is-least na nb = record {
    left = λ x h. (normalize-class a.constant (spread w64 a b) x).1 (join-left (nat_abs a.modulus) (nat_abs b.modulus) a.constant b.constant x h.class);
    right = λ x h. (normalize-class a.constant (spread w64 a b) x).1 (join-right (nat_abs a.modulus) (nat_abs b.modulus) a.constant b.constant x h.class);
    least = λ c f g x h. spread-least w64 a b (is_false (bottom-test a) na) (is_false (bottom-test b) nb) c f g x ((normalize-class a.constant (spread w64 a b) x).0 h);
  }

  joined-classes : D → a ≢ bottom → b ≢ bottom → Ports D (JoinOver a b) ⊥ (Least a b) (made (Some a.constant) spacing)
  joined-classes d na nb = made-cases (Ports D (JoinOver a b) ⊥ (Least a b)) (Some a.constant) spacing
      (λ e. does-not-fit d ((na, nb), λ f. other (spread-found d f) e))
      (λ e. absurd (other refl e))
      (λ z k i j.
      let c = combined w64 (gcd_of a.modulus b.modulus) distance k j in
      let f : SFits w64 (pos (nat_abs (a.constant -ℤ b.constant))) = found (sym distance_is ∙ c.right_is) in
      subst (λ v. Ports D (JoinOver a b) ⊥ (Least a b) (is v)) (ap₂ normalize (one_number i) (one_number (sym (spread-found d f) ∙ j))) (gives (normalize a.constant (pos (spread w64 a b))) d (λ p. p.1 f) (λ x. x) (spread-is-least na nb)))

  pub join-ported : Ports D (JoinOver a b) ⊥ (Least a b) (ported.join a b)
  unfolding joined
  join-ported = ported-two (joined a b) (λ d. branch (bottom-test a) (Ports D (JoinOver a b) ⊥ (Least a b))
      (λ e. gives b d (λ o. o.0.0 e) (λ x. x) (record { left = λ x h. absurd (no_number e h); right = λ x h. h; least = λ c f g. g }))
      (λ na. branch (bottom-test b) (Ports D (JoinOver a b) ⊥ (Least a b))
      (λ e. gives a d (λ o. o.0.1 e) (λ x. x) (record { left = λ x h. h; right = λ x h. absurd (no_number e h); least = λ c f g. f }))
      (λ nb. joined-classes d na nb)))

  -- ---- add

  pub added-ports : D → Ports D (AddOver a b) ⊥ (Just (Sum a b)) (added a b)
  unfolding added
  added-ports d = branch (either (bottom-test a) (bottom-test b)) (Ports D (AddOver a b) ⊥ (Just (Sum a b)))
      (λ e. gives bottom d (λ o. nor o.0.0 o.0.1 e) (λ x. x) (λ z. (λ h. absurd (none z h), λ s. absurd (no-sum e s))))
      (λ n. made-cases (Ports D (AddOver a b) ⊥ (Just (Sum a b))) (exactly w64 (a.constant +ℤ b.constant)) (gcd_of a.modulus b.modulus)
      (λ e. absurd (other (moduli-found d) e))
      (λ e. does-not-fit d ((n.0, n.1), unfound e))
      (λ z k i j. subst (λ v. Ports D (AddOver a b) ⊥ (Just (Sum a b)) (is v)) (ap₂ normalize (sym (found-is w64 (a.constant +ℤ b.constant) z i)) (one_number (sym (moduli-found d) ∙ j)))
      (gives (normalize (a.constant +ℤ b.constant) (pos (gcd (nat_abs a.modulus) (nat_abs b.modulus)))) d (λ o. o.1 (found i)) (λ x. x) (λ z. both_ways (normalize-class (a.constant +ℤ b.constant) (gcd (nat_abs a.modulus) (nat_abs b.modulus)) z) (sum-class a b (is_false (bottom-test a) n.0) (is_false (bottom-test b) n.1) z)))))

  pub add-ported : Ports D (AddOver a b) ⊥ (Just (Sum a b)) (ported.add a b)
  add-ported = ported-two (added a b) added-ports

  -- ---- mul

  abbrev Products : Congruence → Type 0
  Products v = PortedProduct a b v × CoversProducts w64 a b v

  pub mul-ported : Ports D (MulOver a b) ⊥ Products (ported.mul a b)
  unfolding multiplied
  mul-ported = ported-two (multiplied a b) (λ d. branch (either (bottom-test a) (bottom-test b)) (Ports D (MulOver a b) ⊥ Products)
      (λ e. gives bottom d (λ o. nor o.0.0 o.0.1 e) (λ x. x) (record { none = λ i. refl; class = λ s. absurd (nor s.0 s.1 e) }, λ x y h k f. absurd (empty e h k)))
      (λ n. made-cases (Ports D (MulOver a b) ⊥ Products) (exactly w64 (a.constant *ℤ b.constant)) (formula w64 a b)
      (λ e. does-not-fit d ((n.0, n.1), λ f. unfound (sym (formula-of w64 a b (value-positive a d.0.value) (value-positive b d.1.value) f.moduli f.left f.right) ∙ e) f.divisor))
      (λ e. does-not-fit d ((n.0, n.1), λ f. unfound e f.constants))
      (λ z k i j. subst (λ v. Ports D (MulOver a b) ⊥ Products (is v)) (ap₂ normalize (sym (found-is w64 (a.constant *ℤ b.constant) z i)) (sym (formula-is w64 a b k j).0))
      (gives (normalize (a.constant *ℤ b.constant) (pos (formula_gcd a b))) d (λ o. o.1 (formula-fits w64 a b z k i j)) (λ x. x)
      (record { none = λ e. absurd (nor n.0 n.1 e); class = λ s x. normalize-class (a.constant *ℤ b.constant) (formula_gcd a b) x }, λ x y h k f. (normalize-class (a.constant *ℤ b.constant) (formula_gcd a b) (x *ℤ y)).1 (in-product a b x y h k))))))
    where
      empty : {x y : ℤ} → (a ≡ bottom) ⊎ (b ≡ bottom) → x ∈ a → y ∈ b → ⊥
      empty (inl e) h k = no_number e h
      empty (inr e) h k = no_number e k

-- ---- neg

module _ (a : Congruence) (fa : Fits w64 a) where
  abbrev Negates : Answer Congruence → Type 0
  Negates = Ports (InDomain w64 a) (NegOver a) (NegAsserts a) (Just (Negation a))

  negated-ports : InDomain w64 a → Negates (negated a)
  unfolding negated
  negated-ports d = branch (bottom-test a) (Negates)
      (λ e. gives a d (λ o. o.0 e) (λ s. s.some e) (λ z. (λ h. absurd (no_number e h), λ s. absurd (no_number e s.of))))
      (λ n. asserted-cases (Negates) (exactly w64 (neg_ℤ a.constant)) (Some a.modulus)
      (λ e. does-not-fit d (n, unfound e))
      (λ e. absurd (other refl e))
      (λ z k i j. subst (Negates) (ap₂ held (sym (found-is w64 (neg_ℤ a.constant) z i)) (one_number j))
      (held-cases (Negates) (neg_ℤ a.constant) a.modulus
      (λ s. would-assert d (record { some = n; fits = found i; asserts = s }))
      (λ f. gives (cong (neg_ℤ a.constant) a.modulus) d (λ o. o.1 (found i)) (λ s. f s.asserts)
      (λ z. both_ways (λ h. h.class, λ h. record { some = is_false (bottom-test (cong (neg_ℤ a.constant) a.modulus)) (passed-some (neg_ℤ a.constant) a.modulus f); class = h }) (negation-class a (is_false (bottom-test a) n) z))))))

  pub neg-ported : Negates (ported.neg a)
  neg-ported = branch (value-test a) (Negates)
      (λ v. negated-ports (record { value = v; constant-fits = fa.0; modulus-fits = fa.1 }))
      (λ n. not-in-domain (λ d. n d.value))

-- ---- sub

-- what is said of a sum with the opposite, said of the difference
carried : {D E O Q A : Type 0} {P R : Congruence → Type 0} {r : Answer Congruence} → D → E → (Q → O) → (O → Q) → (A → ⊥) → ((v : Congruence) → R v → P v) → Ports E Q ⊥ R r → Ports D O A P r
carried d e f g n h (not-in-domain k) = absurd (k e)
carried d e f g n h (does-not-fit k o) = does-not-fit d (f o)
carried d e f g n h (would-assert k x) = absurd x
carried d e f g n h (gives v k o x p) = gives v d (λ q. o (g q)) n (h v p)

module _ (a b : Congruence) (fa : Fits w64 a) (fb : Fits w64 b) where
  abbrev Subtracts : Answer Congruence → Type 0
  Subtracts = Ports (Both w64 a b) (DifferenceOver a b) (NegAsserts b) (Just (Difference a b))

  -- beside a bottom
  less-nothing : Both w64 a b → b ≡ bottom → Subtracts (added a b)
  less-nothing d e = carried d d (λ o. absurd (o.0.1 e)) (λ o. absurd (over_none o)) (λ s. s.some e) (λ v h z. (λ k. absurd (no_number e ((h z).0 k).right), λ s. absurd (no_number e s.right))) (added-ports a b fa fb d)
    where
      over_none : DifferenceOver a b → ⊥
      over_none (opposite-over n f) = n e
      over_none (difference-over n f g h) = n.1 e

  -- the opposite of b passes: added to a
  module _ (nb : b ≢ bottom) (f : SFits w64 (neg_ℤ b.constant)) (p : Asserting (neg_ℤ b.constant) b.modulus → ⊥) where
    abbrev opposite : Congruence
    opposite = cong (neg_ℤ b.constant) b.modulus

    opposite-value : InDomain w64 b → InDomain w64 opposite
    opposite-value d = record { value = go (eq_test b.modulus (pos 0)); constant-fits = f; modulus-fits = fb.1 }
      where
        go : {t : Bool} → Decides (b.modulus ≡ pos 0) (b.modulus ≢ pos 0) t → Value opposite
        go (holds e) = alone e
        go (fails n) = let h = value-positive b d.value in spaced (omega (ints, from-≢ n)) (below n (lt_test (neg_ℤ b.constant) b.modulus))
          where
            below : b.modulus ≢ pos 0 → {t : Bool} → Decides (neg_ℤ b.constant <ℤ b.modulus) (b.modulus ≤ℤ neg_ℤ b.constant) t → neg_ℤ b.constant <ℤ b.modulus
            below n (holds l) = l
            below n (fails l) = absurd (p (n, l))

    difference-of : (z : ℤ) → Sum a opposite z ↔ Difference a b z
    difference-of z = (
      λ s. record { x = s.x; y = neg_ℤ s.y; left = s.left; right = record { some = is_false (bottom-test b) nb; class = subst (λ t. Cong (nat_abs b.modulus) (neg_ℤ s.y) t) (twice b.constant) (Cong-neg s.y (neg_ℤ b.constant) s.right.class) }; is = s.is ∙ ap (λ t. s.x +ℤ t) (sym (twice s.y)) },
      λ s. record { x = s.x; y = neg_ℤ s.y; left = s.left; right = record { some = is_false (bottom-test opposite) (passed-some (neg_ℤ b.constant) b.modulus p); class = Cong-neg s.y b.constant s.right.class }; is = s.is },
    )
      where
        twice : (z : ℤ) → neg_ℤ (neg_ℤ z) ≡ z
        twice z = rw (read z) (simp wholes (omega arith))

    less-opposite : Both w64 a b → Subtracts (added a opposite)
    less-opposite d = carried d (d.0, opposite-value d.1) (λ o. difference-over (o.0.0, nb) f p o.1) over-of (λ s. p s.asserts) (λ v h z. both_ways (h z) (flip (difference-of z))) (added-ports a opposite fa (f, fb.1) (d.0, opposite-value d.1))
      where
        over-of : DifferenceOver a b → AddOver a opposite
        over-of (opposite-over n g) = absurd (g f)
        over-of (difference-over n g h k) = ((n.0, passed-some (neg_ℤ b.constant) b.modulus p), k)

        flip : {A B : Type 0} → A ↔ B → B ↔ A
        flip e = (e.1, e.0)

  pub sub-ported : Subtracts (ported.sub a b)
  unfolding subtracted added_to negated
  sub-ported = ported-two a b fa fb (subtracted a b) (λ d. branch (bottom-test b) (λ r. Subtracts (added_to a r)) (λ e. less-nothing d e)
      (λ n. asserted-cases (λ r. Subtracts (added_to a r)) (exactly w64 (neg_ℤ b.constant)) (Some b.modulus)
      (λ e. does-not-fit d (opposite-over n (unfound e)))
      (λ e. absurd (other refl e))
      (λ z k i j. subst (λ r. Subtracts (added_to a r)) (ap₂ held (sym (found-is w64 (neg_ℤ b.constant) z i)) (one_number j))
      (held-cases (λ r. Subtracts (added_to a r)) (neg_ℤ b.constant) b.modulus
      (λ s. would-assert d (record { some = n; fits = found i; asserts = s }))
      (λ f. less-opposite n (found i) f d)))))

  -- ---- div

  abbrev Quotients : Congruence → Type 0
  Quotients v = PortedQuotient a b v × CoversQuotients w64 a b v

  abbrev Divides : Answer Congruence → Type 0
  Divides = Ports (Both w64 a b) (QuotientOver a b) (QuotientAsserts a b) Quotients

  -- top: no divisor divides both
  open-quotient : Both w64 a b → Inhabited a b → b ≢ cong (pos 0) (pos 0) → ((d : ℤ) → DividedBy a b d → ⊥) → Divides (is top)
  open-quotient d s n f = gives top d over_none asserts-none (record { none = λ i. absurd (nothing-none i); divided = λ k h. absurd (f k h); unknown = λ t m g. refl }, λ x y h k m g. all (quot_z x y))
    where
      over_none : QuotientOver a b → ⊥
      over_none (quotient-over k h g) = f k h

      asserts-none : QuotientAsserts a b → ⊥
      asserts-none (quotient-asserts k h g l) = f k h

      nothing-none : ((a ≡ bottom) ⊎ (b ≡ bottom)) ⊎ (b ≡ cong (pos 0) (pos 0)) → ⊥
      nothing-none (inl e) = nor s.0 s.1 e
      nothing-none (inr e) = n e

  nothing-quotient : Both w64 a b → ((a ≡ bottom) ⊎ (b ≡ bottom)) ⊎ (b ≡ cong (pos 0) (pos 0)) → Divides (is bottom)
  nothing-quotient d e = gives bottom d over_none asserts-none (record { none = λ i. refl; divided = λ k h. absurd (clear e h); unknown = λ s n g. absurd (nothing s n e) }, λ x y h k n f. absurd (no-pair e h k n))
    where
      clear : {k : ℤ} → ((a ≡ bottom) ⊎ (b ≡ bottom)) ⊎ (b ≡ cong (pos 0) (pos 0)) → DividedBy a b k → ⊥
      clear (inl (inl i)) h = h.some i
      clear (inl (inr i)) h = let j : pos 0 ≡ pos 1 = ap (λ t. t.modulus) (sym h.divisor ∙ i) in omega ints
      clear (inr i) h = h.other (one-divisor h.divisor i)

      over_none : QuotientOver a b → ⊥
      over_none (quotient-over k h g) = clear e h

      asserts-none : QuotientAsserts a b → ⊥
      asserts-none (quotient-asserts k h g l) = clear e h

      nothing : Inhabited a b → b ≢ cong (pos 0) (pos 0) → ((a ≡ bottom) ⊎ (b ≡ bottom)) ⊎ (b ≡ cong (pos 0) (pos 0)) → ⊥
      nothing s n (inl i) = nor s.0 s.1 i
      nothing s n (inr i) = n i

      no-pair : {x y : ℤ} → ((a ≡ bottom) ⊎ (b ≡ bottom)) ⊎ (b ≡ cong (pos 0) (pos 0)) → x ∈ a → y ∈ b → y ≢ pos 0 → ⊥
      no-pair (inl (inl i)) h k n = no_number i h
      no-pair (inl (inr i)) h k n = no_number i k
      no-pair {x} {y} (inr i) h k n = n (single-is b y (ap (λ t. t.modulus) i) k ∙ ap (λ t. t.constant) i)

  module _ (na : a ≢ bottom) (d : ℤ) (i : b ≡ cong d (pos 0)) (nd : d ≢ pos 0) (q : Both w64 a b) where
    at_divisor : {k : ℤ} → DividedBy a b k → k ≡ d
    at_divisor h = one-divisor h.divisor i

    exact-quotient : (h : DividedBy a b d) → SFits w64 (quot_z a.constant d) → (Asserting (quot_z a.constant d) (quot_z a.modulus d) → ⊥) → Divides (is (cong (quot_z a.constant d) (quot_z a.modulus d)))
    exact-quotient h f p = gives (cong (quot_z a.constant d) (quot_z a.modulus d)) q over_none asserts-none (record { none = λ e. absurd (nothing e); divided = λ k g. sym (ap (λ t. cong (quot_z a.constant t) (quot_z a.modulus t)) (at_divisor g)); unknown = λ s n g. absurd (g d h) }, has)
      where
        over_none : QuotientOver a b → ⊥
        over_none (quotient-over k g n) = n (subst (λ t. SFits w64 (quot_z a.constant t)) (sym (at_divisor g)) f)

        asserts-none : QuotientAsserts a b → ⊥
        asserts-none (quotient-asserts k g n l) = p (subst (λ t. Asserting (quot_z a.constant t) (quot_z a.modulus t)) (at_divisor g) l)

        nothing : ((a ≡ bottom) ⊎ (b ≡ bottom)) ⊎ (b ≡ cong (pos 0) (pos 0)) → ⊥
        nothing (inl (inl e)) = na e
        nothing (inl (inr e)) = let j : pos 0 ≡ pos 1 = ap (λ t. t.modulus) (sym i ∙ e) in omega ints
        nothing (inr e) = nd (one-divisor i e)

        has : CoversQuotients w64 a b (cong (quot_z a.constant d) (quot_z a.modulus d))
        has x y hx hy n g =
            let e : y ≡ d = single-is b y (ap (λ t. t.modulus) i) hy ∙ ap (λ t. t.constant) i in
            subst (λ t. quot_z x t ∈ cong (quot_z a.constant d) (quot_z a.modulus d)) (sym e)
            (record { some = is_false (bottom-test (cong (quot_z a.constant d) (quot_z a.modulus d))) (passed-some (quot_z a.constant d) (quot_z a.modulus d) p); class = quotient-class x a.constant a.modulus d nd (rem-of-∣ nd h.constant) (rem-of-∣ nd h.modulus) hx.class })

    by_number : Divides (divided_by a d)
    unfolding divided_by
    by_number = branch (divides-test d a) Divides
        (λ r.
        let h : DividedBy a b d = record { some = na; divisor = i; other = nd; constant = ∣-of-rem d a.constant r.0; modulus = ∣-of-rem d a.modulus r.1 } in
        asserted-cases Divides (exactly w64 (quot_z a.constant d)) (exactly w64 (quot_z a.modulus d))
        (λ e. does-not-fit q (quotient-over d h (unfound e)))
        (λ e. absurd (unfound e (quot_fits w64 a.modulus d fa.1 (value-positive a q.0.value))))
        (λ z k u v. subst Divides (ap₂ held (sym (found-is w64 (quot_z a.constant d) z u)) (sym (found-is w64 (quot_z a.modulus d) k v)))
        (held-cases Divides (quot_z a.constant d) (quot_z a.modulus d) (λ s. would-assert q (quotient-asserts d h (found u) s)) (λ p. exact-quotient h (found u) p))))
        (λ r. open-quotient q (na, λ e. let j : pos 0 ≡ pos 1 = ap (λ t. t.modulus) (sym i ∙ e) in omega ints) (λ e. nd (one-divisor i e)) (λ k h. indivisible (subst (λ t. t ∣ℤ a.constant) (at_divisor h) h.constant) (subst (λ t. t ∣ℤ a.modulus) (at_divisor h) h.modulus) r))
      where
        indivisible : d ∣ℤ a.constant → d ∣ℤ a.modulus → (rem_z a.constant d ≢ pos 0) ⊎ (rem_z a.modulus d ≢ pos 0) → ⊥
        indivisible hc hm (inl f) = f (rem-of-∣ nd hc)
        indivisible hc hm (inr f) = f (rem-of-∣ nd hm)

  pub div-ported : Divides (ported.div a b)
  unfolding divided only?
  div-ported = ported-two a b fa fb (divided a b) (λ q. branch (either (either (bottom-test a) (bottom-test b)) (both (eq_test b.modulus (pos 0)) (eq_test b.constant (pos 0)))) Divides
      (λ e. nothing-quotient q (as-value e))
      (λ n. branch (eq_test b.modulus (pos 0)) Divides
      (λ i. by_number n.0.0 b.constant (ap (cong b.constant) i) (λ e. not-both (i, e) n.1) q)
      (λ i. open-quotient q n.0 (λ e. i (ap (λ t. t.modulus) e)) (λ k h. i (ap (λ t. t.modulus) h.divisor)))))
    where
      as-value : ((a ≡ bottom) ⊎ (b ≡ bottom)) ⊎ ((b.modulus ≡ pos 0) × (b.constant ≡ pos 0)) → ((a ≡ bottom) ⊎ (b ≡ bottom)) ⊎ (b ≡ cong (pos 0) (pos 0))
      as-value (inl e) = inl e
      as-value (inr (i, j)) = inr (ap₂ cong j i)
