-- What values stand for: the bottom, top, a single number, a reduced class, the canonical form.
use mathlib.Core.Path.{◌≡◌, refl, sym, ap, ap₂, ◌∙◌, subst}
use mathlib.Core.Bool.{Bool, true, false}
use mathlib.Core.Logic.{◌≢◌, ◌⊎◌, inl, inr}
use Prim.Native.Nat.{ℕ, zero, suc}
use native.Mathlib.Omega.{arith}
use lib.IntN.{ℤ, pos, negsuc, nat_abs, ◌-ℤ◌, ◌*ℤ◌}
use lib.Signed.{◌≤ℤ◌, ◌<ℤ◌}
use lib.Dec.{lit<}
use mir.Syntax.{Width, w8, w16, w32, w64, w128}
use mir.Val.{SFits}
use Rattle.whole.specs.Divides.{Cong, floor_rem}
use Rattle.whole.proofs.Linear.{ints, wholes, read, abs}
use Rattle.whole.proofs.Fits.{machine, range, zero-fits}
use Rattle.whole.proofs.Decides.{Decides, eq_test, lt_test, fits-test, Beyond, not_beyond, both, either, weaken, is_true, is_false, branch}
use Rattle.whole.proofs.Divides.{zero-∣}
use Rattle.whole.proofs.Congruence.{Cong-refl, Cong-sym, Cong-trans}
use Rattle.whole.proofs.Floor.{floor-low, floor-high, floor-class, floor-zero, floor-only}
use Rattle.congruence.specs.declared.Congruence.{Congruence}
use Rattle.congruence.specs.Set.{cong, top, bottom, bottom?, ◌∈◌, domain?, Value, alone, spaced, empty, InDomain, domain_at?, Canonical, single, nothing, reduced, form, Proper}

pub clash : ◌≡◌ {A = Bool} true false → ⊥
clash e = let z : ◌≡◌ {A = ℕ} 0 1 = cc in omega arith

-- both values of a test
pub by : {P : Type 0} (t : Bool) → (t ≡ true → P) → (t ≡ false → P) → P
by true f g = f refl
by false f g = g refl

-- ---- the bottom

pub bottom-test : (a : Congruence) → Decides (a ≡ bottom) (a ≢ bottom) (bottom? a)
unfolding bottom?
bottom-test a = weaken there apart (both (eq_test a.constant (pos 1)) (eq_test a.modulus (pos 1)))
  where
    there : (a.constant ≡ pos 1) × (a.modulus ≡ pos 1) → a ≡ bottom
    there h = ap₂ cong h.0 h.1

    apart : (a.constant ≢ pos 1) ⊎ (a.modulus ≢ pos 1) → a ≢ bottom
    apart (inl f) e = f (ap (λ v. v.constant) e)
    apart (inr f) e = f (ap (λ v. v.modulus) e)

pub bottom-is : bottom? bottom ≡ true
bottom-is = is_true (bottom-test bottom) (λ f. f refl)

pub none : (x : ℤ) → x ∈ bottom → ⊥
none x h = clash (sym bottom-is ∙ h.some)

-- its own constant is a number of a value that isn't bottom
pub own : (a : Congruence) → bottom? a ≡ false → a.constant ∈ a
own a h = record { some = h; class = Cong-refl (nat_abs a.modulus) a.constant }

-- ---- equality modulo 0

pub equal-at-0 : (x z : ℤ) → Cong 0 x z → x ≡ z
equal-at-0 x z h = gone x z (zero-∣ h)
  where
    gone : (x z : ℤ) → x -ℤ z ≡ pos 0 → x ≡ z
    gone x z = rw (read x, read z) (simp wholes (omega arith))

pub at-0-equal : (x z : ℤ) → x ≡ z → Cong 0 x z
at-0-equal x z e = subst (λ t. Cong 0 x t) e (Cong-refl 0 x)

pub all-at-1 : (x z : ℤ) → Cong 1 x z
all-at-1 x z = record { by = x -ℤ z; is = one (x -ℤ z) }
  where
    one : (t : ℤ) → t ≡ t *ℤ pos 1
    one t = rw (read t) (simp wholes (omega arith))

-- ---- a class, reduced

module _ (z : ℤ) (m : ℕ) where
  abbrev v : Congruence
  v = cong (floor_rem z (pos m)) (pos m)

  not-bottom : bottom? v ≡ false
  not-bottom = is_false (bottom-test v) (λ e. go e (ap (λ t. t.modulus) e) (ap (λ t. t.constant) e))
    where
      go : v ≡ bottom → pos m ≡ pos 1 → floor_rem z (pos m) ≡ pos 1 → ⊥
      go e h k =
          let n : pos m ≢ pos 0 = omega ints in
          let l = floor-high z (pos m) n in
          omega ints

  pub reduced-in : (x : ℤ) → Cong m x z → x ∈ v
  reduced-in x h = record { some = not-bottom; class = Cong-trans x z (floor_rem z (pos m)) h (Cong-sym (floor_rem z (pos m)) z (floor-class z (pos m))) }

  pub reduced-out : (x : ℤ) → x ∈ v → Cong m x z
  reduced-out x h = Cong-trans x (floor_rem z (pos m)) z h.class (floor-class z (pos m))

pub reduced-canonical : (z : ℤ) (m : ℕ) → Canonical (cong (floor_rem z (pos m)) (pos m))
reduced-canonical z zero = single refl
reduced-canonical z (suc m) = let n : pos (suc m) ≢ pos 0 = omega ints in reduced (floor-low z (pos (suc m)) n) (floor-high z (pos (suc m)) n)

-- what lies from 0 to a number that fits, fits
pub below-fits : (w : Width) (z : ℤ) (m : ℕ) → SFits w (pos m) → pos 0 ≤ℤ z → z <ℤ pos m → SFits w z
below-fits w z m f h k = omega (machine, range f)

pub floor-fits : (w : Width) (z : ℤ) (m : ℕ) → (m ≡ 0 → SFits w z) → SFits w (pos m) → SFits w (floor_rem z (pos m))
floor-fits w z zero f g = subst (λ t. SFits w t) (sym (floor-zero z)) (f refl)
floor-fits w z (suc m) f g = let n : pos (suc m) ≢ pos 0 = omega ints in below-fits w (floor_rem z (pos (suc m))) (suc m) g (floor-low z (pos (suc m)) n) (floor-high z (pos (suc m)) n)

-- ---- top, and a single number

pub all : (x : ℤ) → x ∈ top
all x = record { some = is_false (bottom-test top) (λ e. let h = ap (λ t. t.constant) e in omega ints); class = all-at-1 x (pos 0) }

pub one-fits : (w : Width) → SFits w (pos 1)
one-fits w8 = record { sfits = lit< tt }
one-fits w16 = record { sfits = lit< tt }
one-fits w32 = record { sfits = lit< tt }
one-fits w64 = record { sfits = lit< tt }
one-fits w128 = record { sfits = lit< tt }

pub top-proper : (w : Width) → Proper w top
top-proper w = record { canonical = reduced (omega ints) (omega ints); constant-fits = zero-fits; modulus-fits = one-fits w }

pub bottom-proper : (w : Width) → Proper w bottom
bottom-proper w = record { canonical = nothing refl; constant-fits = one-fits w; modulus-fits = one-fits w }

pub single-proper : (w : Width) (z : ℤ) → SFits w z → Proper w (cong z (pos 0))
single-proper w z f = record { canonical = single refl; constant-fits = f; modulus-fits = zero-fits }

pub reduced-proper : (w : Width) (z : ℤ) (m : ℕ) → (m ≡ 0 → SFits w z) → SFits w (pos m) → Proper w (cong (floor_rem z (pos m)) (pos m))
reduced-proper w z m f g = record { canonical = reduced-canonical z m; constant-fits = floor-fits w z m f g; modulus-fits = g }

module _ (z : ℤ) where
  pub alone-in : z ∈ cong z (pos 0)
  alone-in = record { some = is_false (bottom-test (cong z (pos 0))) (λ e. let h = ap (λ t. t.modulus) e in omega ints); class = Cong-refl 0 z }

  pub alone-out : (x : ℤ) → x ∈ cong z (pos 0) → x ≡ z
  alone-out x h = equal-at-0 x z h.class

-- a value of modulus 0
pub single-is : (a : Congruence) (x : ℤ) → a.modulus ≡ pos 0 → x ∈ a → x ≡ a.constant
single-is a x e h = equal-at-0 x a.constant (subst (λ t. Cong (nat_abs t) x a.constant) e h.class)

-- ---- the canonical form

module _ (a : Congruence) where
  abbrev c : ℤ
  c = a.constant

  abbrev m : ℤ
  m = a.modulus

  -- the form of what isn't bottom isn't bottom
  form-some : bottom? (cong (floor_rem c m) m) ≡ false
  form-some = is_false (bottom-test (cong (floor_rem c m) m)) (λ e. go (ap (λ t. t.modulus) e) (ap (λ t. t.constant) e))
    where
      go : m ≡ pos 1 → floor_rem c m ≡ pos 1 → ⊥
      go h k =
          let n : m ≢ pos 0 = omega ints in
          let l = floor-high c m n in
          omega (ints, abs m)

  pub form_in : (x : ℤ) → x ∈ a → x ∈ form a
  unfolding form
  form_in x h = rw h.some (record { some = form-some; class = Cong-trans x c (floor_rem c m) h.class (Cong-sym (floor_rem c m) c (floor-class c m)) })

  pub form-out : (x : ℤ) → x ∈ form a → x ∈ a
  unfolding form
  form-out x = branch (bottom-test a) (λ t. x ∈ t → x ∈ a) (λ e h. absurd (none x h))
      (λ n h. record { some = is_false (bottom-test a) n; class = Cong-trans x (floor_rem c m) c h.class (floor-class c m) })

  pub value-test : Decides (Value a) (Value a → ⊥) (domain? a)
  unfolding domain?
  value-test = weaken there apart (either (eq_test m (pos 0)) (either (both (lt_test (pos 0) m) (lt_test c m)) (bottom-test a)))
    where
      there : (m ≡ pos 0) ⊎ (((pos 0 <ℤ m) × (c <ℤ m)) ⊎ (a ≡ bottom)) → Value a
      there (inl e) = alone e
      there (inr (inl (h, k))) = spaced h k
      there (inr (inr e)) = empty e

      apart : (m ≢ pos 0) × (((m ≤ℤ pos 0) ⊎ (m ≤ℤ c)) × (a ≢ bottom)) → Value a → ⊥
      apart (f, (g, h)) (alone e) = f e
      apart (f, (inl i, h)) (spaced k l) = omega ints
      apart (f, (inr i, h)) (spaced k l) = omega ints
      apart (f, (g, h)) (empty e) = h e

  pub value-positive : Value a → pos 0 ≤ℤ m
  value-positive (alone e) = omega ints
  value-positive (spaced h k) = omega ints
  value-positive (empty e) = let i : m ≡ pos 1 = ap (λ t. t.modulus) e in omega ints

  pub form-canonical : Value a → Canonical (form a)
  unfolding form
  form-canonical h = branch (bottom-test a) Canonical (λ e. nothing refl) (λ n. go m (value-positive h))
    where
      go : (k : ℤ) → pos 0 ≤ℤ k → Canonical (cong (floor_rem c k) k)
      go (pos k) l = reduced-canonical c k
      go (negsuc k) l = absurd l.le

  pub canonical-value : Canonical a → Value a
  canonical-value (single e) = alone e
  canonical-value (nothing e) = empty e
  canonical-value (reduced h k) = spaced (omega ints) k

  pub canonical-domain : Canonical a → domain? a ≡ true
  canonical-domain h = is_true value-test (λ f. f (canonical-value h))

  pub form-is : Canonical a → form a ≡ a
  unfolding form
  form-is h = branch (bottom-test a) (λ t. t ≡ a) (λ e. sym e) (λ n. go h n)
    where
      go : Canonical a → a ≢ bottom → cong (floor_rem c m) m ≡ a
      go (single e) n = ap (λ t. cong t m) (ap (floor_rem c) e ∙ floor-zero c)
      go (nothing e) n = absurd (n e)
      go (reduced l k) n = ap (λ t. cong t m) (sym (floor-only c m c (omega ints) l (omega (ints, abs m)) (Cong-refl (nat_abs m) c)))

  -- a canonical value is bottom or has a modulus from 0 up
  pub canonical-positive : Canonical a → pos 0 ≤ℤ m
  canonical-positive h = value-positive (canonical-value h)

  pub canonical-modulus : Canonical a → pos (nat_abs m) ≡ m
  canonical-modulus h = let l = canonical-positive h in omega (ints, abs m)

  pub form-modulus : (form a).modulus ≡ m
  unfolding form
  form-modulus = branch (bottom-test a) (λ (t : Congruence). t.modulus ≡ m) (λ e. sym (ap (λ t. t.modulus) e)) (λ n. refl)

-- ---- the domain of a width

module _ (w : Width) (a : Congruence) where
  pub domain-at-test : Decides (InDomain w a) (InDomain w a → ⊥) (domain_at? w a)
  unfolding domain_at?
  domain-at-test = weaken there apart (both (value-test a) (both (fits-test w a.constant) (fits-test w a.modulus)))
    where
      there : Value a × (SFits w a.constant × SFits w a.modulus) → InDomain w a
      there (v, (f, g)) = record { value = v; constant-fits = f; modulus-fits = g }

      apart : (Value a → ⊥) ⊎ (Beyond w a.constant ⊎ Beyond w a.modulus) → InDomain w a → ⊥
      apart (inl f) d = f d.value
      apart (inr (inl f)) d = not_beyond d.constant-fits f
      apart (inr (inr f)) d = not_beyond d.modulus-fits f

  -- the form of a value of it is a canonical value of the width, and such a value is in it
  pub form-proper : InDomain w a → Proper w (form a)
  unfolding form
  form-proper d = branch (bottom-test a) (Proper w) (λ e. bottom-proper w) (λ n. go a.modulus (value-positive a d.value) d.modulus-fits)
    where
      go : (k : ℤ) → pos 0 ≤ℤ k → SFits w k → Proper w (cong (floor_rem a.constant k) k)
      go (pos k) l g = reduced-proper w a.constant k (λ e. d.constant-fits) g
      go (negsuc k) l g = absurd l.le

  pub proper-domain : Proper w a → InDomain w a
  proper-domain p = record { value = canonical-value a p.canonical; constant-fits = p.constant-fits; modulus-fits = p.modulus-fits }
