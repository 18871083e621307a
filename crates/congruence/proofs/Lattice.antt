-- The mended lattice: inclusion, what is disjoint, the join and the meet, by what the values stand for.
use mathlib.Core.Path.{◌≡◌, refl, sym, ap, ap₂, ◌∙◌, subst}
use mathlib.Core.Bool.{Bool, true, false}
use mathlib.Core.Logic.{◌≢◌, ◌⊎◌, inl, inr}
use Prim.Native.Nat.{ℕ, zero, suc, ◌≤◌, ◌<◌}
use native.Mathlib.Omega.{arith}
use lib.IntN.{ℤ, pos, nat_abs, ◌+ℤ◌, ◌-ℤ◌, ◌*ℤ◌}
use mir.Syntax.{Width, w64}
use mir.Val.{SFits}
use Rattle.whole.specs.Choice.{pick}
use Rattle.whole.specs.Range.{fits?}
use Rattle.whole.specs.Divides.{◌∣ℤ◌, gcd, lcm, Cong}
use Rattle.whole.proofs.Linear.{ints, wholes, read, abs, from-≢}
use Rattle.whole.proofs.Fits.{machine, range, zero-fits}
use Rattle.whole.proofs.Decides.{Decides, holds, fails, Beyond, eq_test, both, either, isn't, weaken, branch, is_true, is_false, yes, no, fits-test, not_beyond, is-fit}
use Rattle.whole.proofs.Divides.{∣-trans, ∣-antisym, ∣-≤}
use Rattle.whole.proofs.CommonDivisor.{gcd-left, gcd-right, gcd-n-0, gcd-0-n}
use Rattle.whole.proofs.Ring.{nat_abs-zero}
use Rattle.whole.proofs.Congruence.{∣-at, ∣-nat_abs, ∣-to-nat_abs, Cong-sym, Cong-trans, join-left, join-right, join-best, meet-needs, meet-at, meet_left, meet_right, meet-class}
use Rattle.whole.proofs.Floor.{same-residue}
use Rattle.congruence.specs.declared.Congruence.{Congruence}
use Rattle.congruence.specs.Set.{cong, top, bottom, bottom?, ◌∈◌, ◌⊆◌, Canonical, single, nothing, reduced, Proper}
use Rattle.congruence.specs.Numbers.{alike?}
use Rattle.congruence.specs.Meaning.{Shared, Disjoint, Far, JoinOf, lcm_of, MeetOf}
use Rattle.congruence.specs.Mended.{class_of, has?, apart?, inside?, joint, overlap, common, beside}
use Rattle.congruence.proofs.Classes.{alike-test, overlap-none, overlap-is, shared, shared-below, shared-left, shared-right, lcm-pos, lcm-n-0, lcm-0-n}
use Rattle.congruence.proofs.Sets.{clash, by, bottom-test, bottom-is, none, own, equal-at-0, single-is, canonical-modulus, form-is, bottom-proper}
use Rattle.congruence.proofs.Results.{class-in, class-out, class-over, class-proper}

-- ---- inclusion

step_by : (c k : ℤ) (m : ℕ) → Cong m (c +ℤ k *ℤ pos m) c
step_by c k m = record { by = k; is = off c (k *ℤ pos m) }
  where
    off : (c t : ℤ) → c +ℤ t -ℤ c ≡ t
    off c t = rw (read c, read t) (simp wholes (omega arith))

-- a number of a, so many steps from its constant
pub steps : (a : Congruence) → bottom? a ≡ false → (k : ℤ) → (a.constant +ℤ k *ℤ pos (nat_abs a.modulus)) ∈ a
steps a h k = record { some = h; class = step_by a.constant k (nat_abs a.modulus) }

module _ (a b : Congruence) where
  abbrev pub m : ℕ
  m = nat_abs a.modulus

  abbrev pub n : ℕ
  n = nat_abs b.modulus

  abbrev pub c : ℤ
  c = a.constant

  abbrev pub e : ℤ
  e = b.constant

  -- what an inclusion needs and what makes one
  pub needs-class : bottom? a ≡ false → a ⊆ b → Cong n c e
  needs-class h f = (f c (own a h)).class

  pub needs-some : bottom? a ≡ false → a ⊆ b → bottom? b ≡ false
  needs-some h f = (f c (own a h)).some

  pub needs-divisor : bottom? a ≡ false → a ⊆ b → pos n ∣ℤ pos m
  needs-divisor h f = ∣-at (pos m) (once c (pos m))
      (Cong-trans (c +ℤ pos 1 *ℤ pos m) e c (f (c +ℤ pos 1 *ℤ pos m) (steps a h (pos 1))).class (Cong-sym c e (needs-class h f)))
    where
      once : (c m : ℤ) → c +ℤ pos 1 *ℤ m -ℤ c ≡ m
      once c m = rw (read c, read m) (simp wholes (omega arith))

  pub makes : bottom? b ≡ false → Cong n c e → pos n ∣ℤ pos m → a ⊆ b
  makes h k d x p = record { some = h; class = Cong-trans x c e (∣-trans d p.class) k }

  less-0 : (z : ℤ) → z -ℤ pos 0 ≡ z
  less-0 z = rw (read z) (simp wholes (omega arith))

  pub inside-test : Decides (a ⊆ b) (a ⊆ b → ⊥) (inside? a b)
  unfolding inside? has?
  inside-test = weaken there apart (either (bottom-test a) (both (isn't (bottom-test b)) (both (alike-test n c e) (alike-test n a.modulus (pos 0)))))
    where
      there : (a ≡ bottom) ⊎ ((b ≢ bottom) × (Cong n c e × Cong n a.modulus (pos 0))) → a ⊆ b
      there (inl i) x h = absurd (none x (subst (λ t. x ∈ t) i h))
      there (inr p) x h = makes (is_false (bottom-test b) p.0) p.1.0 (∣-to-nat_abs a.modulus (∣-at a.modulus (less-0 a.modulus) p.1.1)) x h

      apart : (a ≢ bottom) × ((b ≡ bottom) ⊎ ((Cong n c e → ⊥) ⊎ (Cong n a.modulus (pos 0) → ⊥))) → a ⊆ b → ⊥
      apart (na, inl i) f = let h = is_false (bottom-test a) na in none c (subst (λ t. c ∈ t) i (f c (own a h)))
      apart (na, inr (inl k)) f = k (needs-class (is_false (bottom-test a) na) f)
      apart (na, inr (inr k)) f = k (∣-at (a.modulus -ℤ pos 0) (sym (less-0 a.modulus)) (∣-nat_abs a.modulus (needs-divisor (is_false (bottom-test a) na) f)))

-- canonical values that stand for the same numbers are equal
pub unique : (a b : Congruence) → Canonical a → Canonical b → a ⊆ b → b ⊆ a → a ≡ b
unique a b p q f g = by (bottom? a)
    (λ h. let i = yes (bottom-test a) h in by (bottom? b)
    (λ k. i ∙ sym (yes (bottom-test b) k))
    (λ k. absurd (none b.constant (subst (λ t. b.constant ∈ t) i (g b.constant (own b k))))))
    (λ h. go h (needs-some a b h f))
  where
    same-modulus : bottom? a ≡ false → bottom? b ≡ false → a.modulus ≡ b.modulus
    same-modulus h k = sym (canonical-modulus a p) ∙ ap pos (∣-antisym (needs-divisor b a k g) (needs-divisor a b h f)) ∙ canonical-modulus b q

    same-constant : (h : bottom? a ≡ false) → (k : bottom? b ≡ false) → Canonical a → Canonical b → a.constant ≡ b.constant
    same-constant h k (single i) s = equal-at-0 a.constant b.constant (subst (λ t. Cong (nat_abs t) a.constant b.constant) (sym (same-modulus h k) ∙ i) (needs-class a b h f))
    same-constant h k (nothing i) s = absurd (clash (sym (is_true (bottom-test a) (λ u. u i)) ∙ h))
    same-constant h k (reduced l o) (single i) = let u = same-modulus h k in absurd (omega ints)
    same-constant h k (reduced l o) (nothing i) = absurd (clash (sym (is_true (bottom-test b) (λ u. u i)) ∙ k))
    same-constant h k (reduced l o) (reduced r s) =
        let u = same-modulus h k in
        same-residue (nat_abs b.modulus) a.constant b.constant l (omega (ints, canonical-modulus b q)) r (omega (ints, canonical-modulus b q)) (needs-class a b h f)

    go : bottom? a ≡ false → bottom? b ≡ false → a ≡ b
    go h k = ap₂ cong (same-constant h k p q) (same-modulus h k)

-- ---- nothing common

pub apart-test : (a b : Congruence) → Decides (Disjoint a b) (Shared a b) (apart? a b)
unfolding apart?
apart-test a b = weaken there near (either (either (bottom-test a) (bottom-test b)) (isn't (alike-test (gcd (m a b) (n a b)) (c a b) (e a b))))
  where
    there : ((a ≡ bottom) ⊎ (b ≡ bottom)) ⊎ (Cong (gcd (m a b) (n a b)) (c a b) (e a b) → ⊥) → Disjoint a b
    there (inl (inl i)) x p q = none x (subst (λ t. x ∈ t) i p)
    there (inl (inr i)) x p q = none x (subst (λ t. x ∈ t) i q)
    there (inr f) x p q = f (meet-needs (m a b) (n a b) (c a b) (e a b) x p.class q.class)

    near : ((a ≢ bottom) × (b ≢ bottom)) × Cong (gcd (m a b) (n a b)) (c a b) (e a b) → Shared a b
    near ((f, g), d) = record {
      number = meet-at (m a b) (n a b) (c a b) (e a b) d;
      left = record { some = is_false (bottom-test a) f; class = meet_left (m a b) (n a b) (c a b) (e a b) d };
      right = record { some = is_false (bottom-test b) g; class = meet_right (m a b) (n a b) (c a b) (e a b) d };
    }

-- ---- join

-- a divisor of a number of the width other than 0 is one of it
pub divisor-fits : (w : Width) (k l : ℕ) → l ≢ 0 → pos k ∣ℤ pos l → SFits w (pos l) → SFits w (pos k)
divisor-fits w k l h d g = let i : k ≤ l = ∣-≤ d (λ u. h (omega ints)) in omega (machine, range g)

module _ (w : Width) (a b : Congruence) where
  abbrev pub spread : ℕ
  spread = gcd (gcd (m a b) (n a b)) (nat_abs (a.constant -ℤ b.constant))

  left-bottom : bottom? a ≡ true → joint w a b ≡ b
  unfolding joint
  left-bottom h = rw h refl

  right-bottom : bottom? a ≡ false → bottom? b ≡ true → joint w a b ≡ a
  unfolding joint
  right-bottom h k = rw (h, k) refl

  neither : bottom? a ≡ false → bottom? b ≡ false → joint w a b ≡ class_of w a.constant spread
  unfolding joint
  neither h k = rw (h, k) refl

  joint-left : a ⊆ joint w a b
  joint-left x h = by (bottom? b)
      (λ k. subst (λ t. x ∈ t) (sym (right-bottom h.some k)) h)
      (λ k. subst (λ t. x ∈ t) (sym (neither h.some k)) (class-in w a.constant spread x (join-left (m a b) (n a b) a.constant b.constant x h.class)))

  joint-right : b ⊆ joint w a b
  joint-right x h = by (bottom? a)
      (λ k. subst (λ t. x ∈ t) (sym (left-bottom k)) h)
      (λ k. subst (λ t. x ∈ t) (sym (neither k h.some)) (class-in w a.constant spread x (join-right (m a b) (n a b) a.constant b.constant x h.class)))

  -- every value that has both has the class
  pub spread-least : bottom? a ≡ false → bottom? b ≡ false → (d : Congruence) → a ⊆ d → b ⊆ d → (x : ℤ) → Cong spread x a.constant → x ∈ d
  spread-least k l d f g x h = let u = f a.constant (own a k) in record {
    some = u.some;
    class = Cong-trans x a.constant d.constant
        (∣-trans (join-best (m a b) (n a b) a.constant b.constant (nat_abs d.modulus) d.constant (λ y p. (f y (record { some = k; class = p })).class) (λ y p. (g y (record { some = l; class = p })).class)) h)
        u.class;
  }

  joint-least : SFits w (pos spread) → (d : Congruence) → a ⊆ d → b ⊆ d → joint w a b ⊆ d
  joint-least fit d f g x h = by (bottom? a)
      (λ k. g x (subst (λ t. x ∈ t) (left-bottom k) h))
      (λ k. by (bottom? b)
      (λ l. f x (subst (λ t. x ∈ t) (right-bottom k l) h))
      (λ l. spread-least k l d f g x (class-out w a.constant spread fit x (subst (λ t. x ∈ t) (neither k l) h))))

  -- the modulus of a join is that of the width but for two single numbers
  spread-fits : Proper w a → Proper w b → (a.modulus ≡ pos 0 → b.modulus ≡ pos 0 → SFits w (pos (nat_abs (a.constant -ℤ b.constant)))) → SFits w (pos spread)
  spread-fits p q f = go (m a b) (n a b) refl refl
      (subst (λ t. SFits w t) (sym (canonical-modulus a p.canonical)) p.modulus-fits) (subst (λ t. SFits w t) (sym (canonical-modulus b q.canonical)) q.modulus-fits)
    where
      go : (k l : ℕ) → m a b ≡ k → n a b ≡ l → SFits w (pos k) → SFits w (pos l) → SFits w (pos (gcd (gcd k l) (nat_abs (a.constant -ℤ b.constant))))
      go (suc k) l i j g h = divisor-fits w (gcd (gcd (suc k) l) (nat_abs (a.constant -ℤ b.constant))) (suc k) (omega arith) (∣-trans (gcd-left (gcd (suc k) l) (nat_abs (a.constant -ℤ b.constant))) (gcd-left (suc k) l)) g
      go zero (suc l) i j g h = divisor-fits w (gcd (gcd 0 (suc l)) (nat_abs (a.constant -ℤ b.constant))) (suc l) (omega arith) (∣-trans (gcd-left (gcd 0 (suc l)) (nat_abs (a.constant -ℤ b.constant))) (gcd-right 0 (suc l))) h
      go zero zero i j g h = subst (λ t. SFits w (pos t)) (sym (ap (λ t. gcd t (nat_abs (a.constant -ℤ b.constant))) (gcd-n-0 0) ∙ gcd-0-n (nat_abs (a.constant -ℤ b.constant)))) (f (nat_abs-zero a.modulus i) (nat_abs-zero b.modulus j))

  joint-far : Far w a b → joint w a b ≡ top
  joint-far f = neither (single-some a f.singles.0) (single-some b f.singles.1) ∙ class-over w a.constant spread (ap (λ t. fits? w (pos t)) wide ∙ is_false (fits-test w (pos (nat_abs (a.constant -ℤ b.constant)))) (λ g. not_beyond g (inr f.beyond)))
    where
      single-some : (v : Congruence) → v.modulus ≡ pos 0 → bottom? v ≡ false
      single-some v e = is_false (bottom-test v) (λ i. let o : v.modulus ≡ pos 1 = ap (λ t. t.modulus) i in omega ints)

      wide : spread ≡ nat_abs (a.constant -ℤ b.constant)
      wide = ap₂ (λ s t. gcd (gcd (nat_abs s) (nat_abs t)) (nat_abs (a.constant -ℤ b.constant))) f.singles.0 f.singles.1 ∙ ap (λ t. gcd t (nat_abs (a.constant -ℤ b.constant))) (gcd-n-0 0) ∙ gcd-0-n (nat_abs (a.constant -ℤ b.constant))

  pub joint-is : Proper w a → Proper w b → JoinOf w a b (joint w a b)
  joint-is p q = record {
    left = joint-left;
    right = joint-right;
    least = λ n. joint-least (spread-fits p q (λ i j. near n i j (fits-test w (pos (nat_abs (a.constant -ℤ b.constant))))));
    far = joint-far;
  }
    where
      -- a distance that isn't beyond MAX fits
      near : (Far w a b → ⊥) → a.modulus ≡ pos 0 → b.modulus ≡ pos 0 → {t : Bool} → Decides (SFits w (pos (nat_abs (a.constant -ℤ b.constant)))) (Beyond w (pos (nat_abs (a.constant -ℤ b.constant)))) t → SFits w (pos (nat_abs (a.constant -ℤ b.constant)))
      near n i j (holds f) = f
      near n i j (fails (inl h)) = absurd (omega ints)
      near n i j (fails (inr h)) = absurd (n (record { singles = (i, j); beyond = h }))

  pub joint-proper : Proper w a → Proper w b → Proper w (joint w a b)
  joint-proper p q = by (bottom? a)
      (λ k. subst (Proper w) (sym (left-bottom k)) q)
      (λ k. by (bottom? b)
      (λ l. subst (Proper w) (sym (right-bottom k l)) p)
      (λ l. subst (Proper w) (sym (neither k l)) (class-proper w a.constant spread (λ i. p.constant-fits))))

-- ---- meet

pub has-test : (a : Congruence) (z : ℤ) → bottom? a ≡ false → Decides (z ∈ a) (z ∈ a → ⊥) (has? a z)
unfolding has?
has-test a z h = weaken (λ d. record { some = h; class = d }) (λ f i. f i.class) (alike-test (nat_abs a.modulus) z a.constant)

-- a single number and a value
module _ (a b : Congruence) (e : a.modulus ≡ pos 0) (nb : bottom? b ≡ false) (x : ℤ) where
  pub picked-in : x ∈ a → x ∈ b → x ∈ pick (has? b a.constant) a bottom
  picked-in p q = branch (has-test b a.constant nb) (λ t. x ∈ t) (λ h. p) (λ f. absurd (f (subst (λ t. t ∈ b) (single-is a x e p) q)))

  pub picked-out : x ∈ pick (has? b a.constant) a bottom → (x ∈ a) × (x ∈ b)
  picked-out = branch (has-test b a.constant nb) (λ t. x ∈ t → (x ∈ a) × (x ∈ b)) (λ h p. (p, subst (λ t. t ∈ b) (sym (single-is a x e p)) h)) (λ f p. absurd (none x p))

module _ (w : Width) (a b : Congruence) where
  abbrev l : ℕ
  l = lcm (m a b) (n a b)

  -- two classes
  module _ (na : bottom? a ≡ false) (nb : bottom? b ≡ false) (ma : a.modulus ≢ pos 0) (mb : b.modulus ≢ pos 0) where
    l-some : 0 < l
    l-some = lcm-pos (m a b) (n a b) (omega (ints, abs a.modulus, from-≢ ma)) (omega (ints, abs b.modulus, from-≢ mb))

    in_both : (x : ℤ) (k : ℕ) → Cong (m a b) (pos k) a.constant → Cong (n a b) (pos k) b.constant → Cong l x (pos k) → (x ∈ a) × (x ∈ b)
    in_both x k p q h = let r = (meet-class (m a b) (n a b) a.constant b.constant x (pos k) p q).1 h in (record { some = na; class = r.0 }, record { some = nb; class = r.1 })

    class-at : (k : ℕ) → bottom? (cong (pos k) (pos l)) ≡ false → (x : ℤ) → Cong l x (pos k) → x ∈ cong (pos k) (pos l)
    class-at k h x d = record { some = h; class = d }

    -- a number below the lcm with the lcm isn't bottom
    below-some : (k : ℕ) → k < l → bottom? (cong (pos k) (pos l)) ≡ false
    below-some k h = is_false (bottom-test (cong (pos k) (pos l))) (λ i. let u : pos k ≡ pos 1 = ap (λ t. t.constant) i in let v : pos l ≡ pos 1 = ap (λ t. t.modulus) i in omega ints)

    pub overlap-covers : (x : ℤ) → x ∈ a → x ∈ b → x ∈ overlap w a b
    overlap-covers x p q =
        let d = meet-needs (m a b) (n a b) a.constant b.constant x p.class q.class in
        let k = shared w a b d l-some in
        let hl = shared-left w a b d l-some in
        let hr = shared-right w a b d l-some in
        subst (λ t. x ∈ t) (sym (overlap-is w a b d l-some))
        (branch (fits-test w (pos l)) (λ t. x ∈ t)
        (λ f. class-at k (below-some k (shared-below w a b d l-some)) x ((meet-class (m a b) (n a b) a.constant b.constant x (pos k) hl hr).0 (p.class, q.class)))
        (λ f. p))

    pub overlap-only : SFits w (pos l) → (x : ℤ) → x ∈ overlap w a b → (x ∈ a) × (x ∈ b)
    overlap-only f x h = by (alike? (gcd (m a b) (n a b)) a.constant b.constant)
        (λ t.
        let d = yes (alike-test (gcd (m a b) (n a b)) a.constant b.constant) t in
        let k = shared w a b d l-some in
        let i : overlap w a b ≡ cong (pos k) (pos l) = overlap-is w a b d l-some ∙ rw (is-fit f) refl in
        in_both x k (shared-left w a b d l-some) (shared-right w a b d l-some) (subst (λ t. x ∈ t) i h).class)
        (λ t. absurd (none x (subst (λ t. x ∈ t) (overlap-none w a b (no (alike-test (gcd (m a b) (n a b)) a.constant b.constant) t)) h)))

  beside-1 : (v : Congruence) → bottom? a ≡ true → beside a b v ≡ bottom
  unfolding beside
  beside-1 v h = rw h refl

  beside-2 : (v : Congruence) → bottom? a ≡ false → bottom? b ≡ true → beside a b v ≡ bottom
  unfolding beside
  beside-2 v h k = rw (h, k) refl

  pub beside-3 : (v : Congruence) → bottom? a ≡ false → bottom? b ≡ false → beside a b v ≡ v
  unfolding beside
  beside-3 v h k = rw (h, k) refl

  -- nothing is in a bottom's result
  pub beside-some : (v : Congruence) (x : ℤ) → x ∈ beside a b v → ((bottom? a ≡ false) × (bottom? b ≡ false)) × (x ∈ v)
  beside-some v x h = by (bottom? a)
      (λ k. absurd (none x (subst (λ t. x ∈ t) (beside-1 v k) h)))
      (λ k. by (bottom? b)
      (λ l. absurd (none x (subst (λ t. x ∈ t) (beside-2 v k l) h)))
      (λ l. ((k, l), subst (λ t. x ∈ t) (beside-3 v k l) h)))

  pub beside-proper : (v : Congruence) → (bottom? a ≡ false → bottom? b ≡ false → Proper w v) → Proper w (beside a b v)
  beside-proper v f = by (bottom? a)
      (λ k. subst (Proper w) (sym (beside-1 v k)) (bottom-proper w))
      (λ k. by (bottom? b)
      (λ l. subst (Proper w) (sym (beside-2 v k l)) (bottom-proper w))
      (λ l. subst (Proper w) (sym (beside-3 v k l)) (f k l)))

  common-covers : (x : ℤ) → x ∈ a → x ∈ b → x ∈ common w a b
  unfolding common
  common-covers x p q = subst (λ t. x ∈ t) (sym (beside-3 _ p.some q.some))
      (branch (eq_test a.modulus (pos 0)) (λ t. x ∈ t) (λ i. picked-in a b i q.some x p q)
      (λ i. branch (eq_test b.modulus (pos 0)) (λ t. x ∈ t) (λ j. picked-in b a j p.some x q p)
      (λ j. overlap-covers p.some q.some i j x p q)))

  common-only : SFits w (pos l) → (x : ℤ) → x ∈ common w a b → (x ∈ a) × (x ∈ b)
  unfolding common
  common-only f x h =
      let r = beside-some _ x h in
      branch (eq_test a.modulus (pos 0)) (λ t. x ∈ t → (x ∈ a) × (x ∈ b)) (λ i k. picked-out a b i r.0.1 x k)
      (λ i. branch (eq_test b.modulus (pos 0)) (λ t. x ∈ t → (x ∈ a) × (x ∈ b)) (λ j k. let o = picked-out b a j r.0.0 x k in (o.1, o.0))
      (λ j k. overlap-only r.0.0 r.0.1 i j f x k)) r.1

  -- nothing common
  common-none : Disjoint a b → common w a b ≡ bottom
  unfolding common
  common-none f = by (bottom? a) (λ k. beside-1 _ k) (λ k. by (bottom? b) (λ o. beside-2 _ k o) (λ o. beside-3 _ k o ∙
      branch (eq_test a.modulus (pos 0)) (λ t. t ≡ bottom) (λ i. branch (has-test b a.constant o) (λ t. t ≡ bottom) (λ h. absurd (f a.constant (own a k) h)) (λ h. refl))
      (λ i. branch (eq_test b.modulus (pos 0)) (λ t. t ≡ bottom) (λ j. branch (has-test a b.constant k) (λ t. t ≡ bottom) (λ h. absurd (f b.constant h (own b o))) (λ h. refl))
      (λ j. overlap-none w a b (λ d. f (meet-at (m a b) (n a b) (c a b) (e a b) d) (record { some = k; class = meet_left (m a b) (n a b) (c a b) (e a b) d }) (record { some = o; class = meet_right (m a b) (n a b) (c a b) (e a b) d }))))))

  -- an lcm that doesn't fit: the left value
  common-left : (SFits w (lcm_of a b) → ⊥) → Shared a b → common w a b ≡ a
  unfolding common
  common-left f s = beside-3 _ s.left.some s.right.some ∙
      branch (eq_test a.modulus (pos 0)) (λ t. t ≡ a) (λ i. absurd (f (subst (λ t. SFits w (pos t)) (sym (ap (λ t. lcm (nat_abs t) (n a b)) i ∙ lcm-0-n (n a b))) zero-fits)))
      (λ i. branch (eq_test b.modulus (pos 0)) (λ t. t ≡ a) (λ j. absurd (f (subst (λ t. SFits w (pos t)) (sym (ap (λ t. lcm (m a b) (nat_abs t)) j ∙ lcm-n-0 (m a b))) zero-fits)))
      (λ j. overlap-is w a b (meet-needs (m a b) (n a b) (c a b) (e a b) s.number s.left.class s.right.class) (l-some s.left.some s.right.some i j)
      ∙ branch (fits-test w (pos l)) (λ t. t ≡ a) (λ g. absurd (f g)) (λ g. refl)))

  pub common-is : Canonical a → MeetOf w a b (common w a b)
  common-is p = record {
    common = λ f x. (common-only f x, λ h. common-covers x h.0 h.1);
    none = common-none;
    left = λ f s. common-left f s ∙ sym (form-is a p);
  }

  pub common-proper : Proper w a → Proper w b → Proper w (common w a b)
  unfolding common
  common-proper p q = beside-proper _ (λ na nb.
      branch (eq_test a.modulus (pos 0)) (Proper w) (λ i. branch (has-test b a.constant nb) (Proper w) (λ h. p) (λ h. bottom-proper w))
      (λ i. branch (eq_test b.modulus (pos 0)) (Proper w) (λ j. branch (has-test a b.constant na) (Proper w) (λ h. q) (λ h. bottom-proper w))
      (λ j. both-classes na nb i j)))
    where
      at : (k : ℕ) → k < l → SFits w (pos l) → Proper w (cong (pos k) (pos l))
      at k h f = record { canonical = reduced (omega ints) (omega ints); constant-fits = omega (machine, range f); modulus-fits = f }

      both-classes : bottom? a ≡ false → bottom? b ≡ false → a.modulus ≢ pos 0 → b.modulus ≢ pos 0 → Proper w (overlap w a b)
      both-classes na nb i j = by (alike? (gcd (m a b) (n a b)) a.constant b.constant)
          (λ t.
          let d = yes (alike-test (gcd (m a b) (n a b)) a.constant b.constant) t in
          let o = l-some na nb i j in
          subst (Proper w) (sym (overlap-is w a b d o)) (branch (fits-test w (pos l)) (Proper w) (λ f. at (shared w a b d o) (shared-below w a b d o) f) (λ f. p)))
          (λ t. subst (Proper w) (sym (overlap-none w a b (no (alike-test (gcd (m a b) (n a b)) a.constant b.constant) t))) (bottom-proper w))

-- ---- bottom in, bottom out

pub beside-left : (a v : Congruence) → beside bottom a v ≡ bottom
beside-left a v = beside-1 w64 bottom a v bottom-is

pub beside-right : (a v : Congruence) → beside a bottom v ≡ bottom
beside-right a v = by (bottom? a) (λ k. beside-1 w64 a bottom v k) (λ k. beside-2 w64 a bottom v k bottom-is)
