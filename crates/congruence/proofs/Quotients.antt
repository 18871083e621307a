-- The quotient of a class by a number that divides its constant and its modulus: exact, and so covering; the mended quotient.
use mathlib.Core.Path.{◌≡◌, refl, sym, ap, ap₂, ◌∙◌, subst}
use mathlib.Core.Bool.{Bool}
use mathlib.Core.Logic.{◌≢◌, ◌⊎◌, inl, inr}
use native.Mathlib.Omega.{arith}
use native.Mathlib.Nat.{div-le_self}
use lib.IntN.{ℤ, pos, negsuc, nat_abs, ◌+ℤ◌, ◌-ℤ◌, ◌*ℤ◌}
use lib.Signed.{◌≤ℤ◌, ◌<ℤ◌, quot_z, rem_z}
use mir.Syntax.{Width}
use mir.Val.{SFits}
use Rattle.whole.specs.Range.{least}
use Rattle.whole.specs.Divides.{◌∣ℤ◌, Cong, floor_rem}
use Rattle.whole.specs.Exact.{exactly}
use Rattle.whole.proofs.Linear.{ints, wholes, read, abs, prod}
use Rattle.whole.proofs.Fits.{machine, range, low}
use Rattle.whole.proofs.Ring.{ring, *ℤ-cancel-r, -ℤ-*ℤ}
use Rattle.whole.proofs.Decides.{Decides, holds, fails, Beyond, eq_test, lt_test, both, either, branch, is_true, yes, no, fits-test, not_beyond, is-fit}
use Rattle.whole.proofs.Divide.{quot-rem, nat_abs-quot, fits-quot, fits-quot-above}
use Rattle.whole.proofs.Divides.{∣-trans, ∣-+, ∣-of-rem, rem-of-∣}
use Rattle.whole.proofs.Congruence.{∣-at}
use Rattle.whole.proofs.Floor.{to-abs}
use Rattle.congruence.specs.declared.Congruence.{Congruence}
use Rattle.congruence.specs.Set.{cong, bottom, ◌∈◌, Canonical, single, nothing, reduced, Proper}
use Rattle.congruence.specs.Numbers.{abs_then, divides?}
use Rattle.congruence.specs.Meaning.{QuotientOf, quotient-of-nothing, by_zero, least_by_minus_one, divided, undivided}
use Rattle.congruence.specs.Mended.{by_number, quotient, beside}
use Rattle.whole.proofs.Found.{found-is, found-fits, not_found}
use Rattle.congruence.proofs.Sets.{clash, bottom-test, all, single-is, reduced-in, reduced-proper, canonical-positive, top-proper, bottom-proper}
use Rattle.congruence.proofs.Lattice.{beside-3, beside-proper}
use Rattle.congruence.proofs.Arithmetic.{result-cases}

-- ---- a multiple of a number and of its absolute value

pub of-abs : (m z : ℤ) → pos (nat_abs m) ∣ℤ z → m ∣ℤ z
of-abs (pos k) z h = h
of-abs (negsuc k) z h = ∣-trans (record { by = negsuc 0; is = omega (ints, prod (negsuc 0) (negsuc k)) }) h

-- ---- exact quotients

exact-quot : (x d : ℤ) → rem_z x d ≡ pos 0 → x ≡ quot_z x d *ℤ d
exact-quot x d e = quot-rem x d ∙ (ap (λ t. quot_z x d *ℤ d +ℤ t) e ∙ nought (quot_z x d *ℤ d))
  where
    nought : (z : ℤ) → z +ℤ pos 0 ≡ z
    nought z = rw (read z) (simp wholes (omega arith))

-- where d divides c and m, the quotients of the numbers c + m·k are the numbers c/d + (m/d)·k
pub quotient-class : (x c m d : ℤ) → d ≢ pos 0 → rem_z c d ≡ pos 0 → rem_z m d ≡ pos 0 → Cong (nat_abs m) x c → Cong (nat_abs (quot_z m d)) (quot_z x d) (quot_z c d)
quotient-class x c m d f hc hm h = to-abs (quot_z m d) (quot_z x d -ℤ quot_z c d) (record {
  by = k.by;
  is = *ℤ-cancel-r (quot_z x d -ℤ quot_z c d) (k.by *ℤ quot_z m d) d f
      (-ℤ-*ℤ (quot_z x d) (quot_z c d) d ∙ (sym (ap₂ ◌-ℤ◌ (exact-quot x d hx) (exact-quot c d hc)) ∙ (k.is ∙ (ap (λ t. k.by *ℤ t) (exact-quot m d hm) ∙ group k.by (quot_z m d) d))));
})
  where
    k : m ∣ℤ (x -ℤ c)
    k = of-abs m (x -ℤ c) h

    group : (k q d : ℤ) → k *ℤ (q *ℤ d) ≡ k *ℤ q *ℤ d
    group k q d = simp ring

    back : (x c : ℤ) → (x -ℤ c) +ℤ c ≡ x
    back x c = rw (read x, read c) (simp wholes (omega arith))

    hx : rem_z x d ≡ pos 0
    hx = rem-of-∣ f (∣-at x (back x c) (∣-+ (∣-trans (∣-of-rem d m hm) k) (∣-of-rem d c hc)))

pub divides-test : (d : ℤ) (a : Congruence) → Decides ((rem_z a.constant d ≡ pos 0) × (rem_z a.modulus d ≡ pos 0)) ((rem_z a.constant d ≢ pos 0) ⊎ (rem_z a.modulus d ≢ pos 0)) (divides? d a)
unfolding divides?
divides-test d a = both (eq_test (rem_z a.constant d) (pos 0)) (eq_test (rem_z a.modulus d) (pos 0))

-- ---- numbers on the way

-- a quotient of a number from 0 up fits, and so does its absolute value
module _ (w : Width) (m d : ℤ) (f : SFits w m) (h : pos 0 ≤ℤ m) where
  pub quot_fits : SFits w (quot_z m d)
  quot_fits = fits-quot-above w m d f (omega ints)

  pub abs-quot-fits : SFits w (pos (nat_abs (quot_z m d)))
  abs-quot-fits = let l = div-le_self (nat_abs m) (nat_abs d) in let e = nat_abs-quot m d in omega (machine, range f, abs m)

pub abs-then-is : (w : Width) (z : ℤ) → SFits w z → abs_then w (exactly w z) ≡ exactly w (pos (nat_abs z))
unfolding abs_then exactly
abs-then-is w z f = rw (is-fit f) refl

-- a divisor that is a single number is one
pub one-divisor : {b : Congruence} {c d : ℤ} → b ≡ cong c (pos 0) → b ≡ cong d (pos 0) → c ≡ d
one-divisor e f = ap (λ t. t.constant) (sym e ∙ f)

-- ---- the mended quotient

module _ (w : Width) (a b : Congruence) where
  -- the constant's quotient fits if that of some number does
  constant-fits : Proper w a → (x d : ℤ) → x ∈ a → SFits w (quot_z x d) → SFits w (quot_z a.constant d)
  constant-fits p x d h f = go p.canonical
    where
      go : Canonical a → SFits w (quot_z a.constant d)
      go (single e) = subst (λ t. SFits w (quot_z t d)) (single-is a x e h) f
      go (nothing e) = absurd (clash (sym (is_true (bottom-test a) (λ n. n e)) ∙ h.some))
      go (reduced l k) = quot_fits w a.constant d p.constant-fits l

  by-number-covers : Proper w a → (x d : ℤ) → d ≢ pos 0 → x ∈ a → SFits w (quot_z x d) → quot_z x d ∈ by_number w a d
  unfolding by_number
  by-number-covers p x d n h f = branch (divides-test d a) (λ t. quot_z x d ∈ t)
      (λ r. result-cases (λ t. quot_z x d ∈ t) (exactly w (quot_z a.constant d)) (abs_then w (exactly w (quot_z a.modulus d))) bottom
      (λ i. absurd (clash (sym (is-fit (constant-fits p x d h f)) ∙ not_found w (quot_z a.constant d) i)))
      (λ i. absurd (clash (sym (is-fit whole-fits) ∙ not_found w (pos (nat_abs (quot_z a.modulus d))) (sym whole_is ∙ i))))
      (λ u k i j.
      let e = found-is w (quot_z a.constant d) u i in
      let o = found-is w (pos (nat_abs (quot_z a.modulus d))) k (sym whole_is ∙ j) in
      subst (λ t. quot_z x d ∈ cong (floor_rem u t) t) (sym o) (reduced-in u (nat_abs (quot_z a.modulus d)) (quot_z x d)
      (subst (λ t. Cong (nat_abs (quot_z a.modulus d)) (quot_z x d) t) (sym e) (quotient-class x a.constant a.modulus d n r.0 r.1 h.class)))))
      (λ r. all (quot_z x d))
    where
      whole-fits : SFits w (pos (nat_abs (quot_z a.modulus d)))
      whole-fits = abs-quot-fits w a.modulus d p.modulus-fits (canonical-positive a p.canonical)

      whole_is : abs_then w (exactly w (quot_z a.modulus d)) ≡ exactly w (pos (nat_abs (quot_z a.modulus d)))
      whole_is = abs-then-is w (quot_z a.modulus d) (quot_fits w a.modulus d p.modulus-fits (canonical-positive a p.canonical))

  pub quotient-covers : Proper w a → (x y : ℤ) → y ≢ pos 0 → SFits w (quot_z x y) → x ∈ a → y ∈ b → quot_z x y ∈ quotient w a b
  unfolding quotient
  quotient-covers p x y n f h k = subst (λ t. quot_z x y ∈ t) (sym (beside-3 w a b _ h.some k.some))
      (branch (eq_test b.modulus (pos 0)) (λ t. quot_z x y ∈ t)
      (λ i. let e = single-is b y i k in branch (eq_test b.constant (pos 0)) (λ t. quot_z x y ∈ t) (λ j. absurd (n (e ∙ j)))
      (λ j. subst (λ t. quot_z x t ∈ by_number w a b.constant) (sym e) (by-number-covers p x b.constant j h (subst (λ t. SFits w (quot_z x t)) e f))))
      (λ i. all (quot_z x y)))

  -- a quotient that doesn't fit is MIN / -1
  only-least : (x d : ℤ) → SFits w x → Beyond w (quot_z x d) → (x ≡ least w) × (d ≡ negsuc 0)
  only-least x d f h = (go (lt_test (least w) x), go-2 (eq_test d (negsuc 0)))
    where
      go : {t : Bool} → Decides (least w <ℤ x) (x ≤ℤ least w) t → x ≡ least w
      go (holds l) = absurd (not_beyond (fits-quot-above w x d f l) h)
      go (fails l) = let k = low w x f in omega ints

      go-2 : {t : Bool} → Decides (d ≡ negsuc 0) (d ≢ negsuc 0) t → d ≡ negsuc 0
      go-2 (holds e) = e
      go-2 (fails n) = absurd (not_beyond (fits-quot x d f n) h)

  -- a canonical value with a negative constant is a single number
  below-single : Canonical a → a ≢ bottom → a.constant ≡ least w → a ≡ cong (least w) (pos 0)
  below-single (single e) n i = ap₂ cong i e
  below-single (nothing e) n i = absurd (n e)
  below-single (reduced l k) n i = absurd (omega ints)

  by-number-is : Proper w a → a ≢ bottom → (d : ℤ) → b ≡ cong d (pos 0) → d ≢ pos 0 → QuotientOf w a b (by_number w a d)
  unfolding by_number
  by-number-is p na d i j = branch (divides-test d a) (QuotientOf w a b)
      (λ r. result-cases (QuotientOf w a b) (exactly w (quot_z a.constant d)) (abs_then w (exactly w (quot_z a.modulus d))) bottom
      (λ h. let o = only-least a.constant d p.constant-fits (no (fits-test w (quot_z a.constant d)) (not_found w (quot_z a.constant d) h)) in least_by_minus_one (below-single p.canonical na o.0) (i ∙ ap (λ t. cong t (pos 0)) o.1))
      (λ h. absurd (clash (sym (is-fit whole-fits) ∙ not_found w (pos (nat_abs (quot_z a.modulus d))) (sym whole_is ∙ h))))
      (λ u k h l. subst (QuotientOf w a b) (sym (ap₂ (λ s t. cong (floor_rem s t) t) (found-is w (quot_z a.constant d) u h) (found-is w (pos (nat_abs (quot_z a.modulus d))) k (sym whole_is ∙ l))))
      (divided na d i j (∣-of-rem d a.constant r.0) (∣-of-rem d a.modulus r.1) (yes (fits-test w (quot_z a.constant d)) (found-fits w (quot_z a.constant d) u h)))))
      (λ r. undivided na not-bottom (λ e. j (ap (λ t. t.constant) (sym i ∙ e))) (λ k e hc hm. indivisible k e hc hm r))
    where
      whole-fits : SFits w (pos (nat_abs (quot_z a.modulus d)))
      whole-fits = abs-quot-fits w a.modulus d p.modulus-fits (canonical-positive a p.canonical)

      whole_is : abs_then w (exactly w (quot_z a.modulus d)) ≡ exactly w (pos (nat_abs (quot_z a.modulus d)))
      whole_is = abs-then-is w (quot_z a.modulus d) (quot_fits w a.modulus d p.modulus-fits (canonical-positive a p.canonical))

      not-bottom : b ≢ bottom
      not-bottom e = let o : pos 0 ≡ pos 1 = ap (λ t. t.modulus) (sym i ∙ e) in omega ints

      indivisible : (k : ℤ) → b ≡ cong k (pos 0) → k ∣ℤ a.constant → k ∣ℤ a.modulus → (rem_z a.constant d ≢ pos 0) ⊎ (rem_z a.modulus d ≢ pos 0) → ⊥
      indivisible k e hc hm (inl f) = f (rem-of-∣ j (subst (λ t. t ∣ℤ a.constant) (ap (λ t. t.constant) (sym e ∙ i)) hc))
      indivisible k e hc hm (inr f) = f (rem-of-∣ j (subst (λ t. t ∣ℤ a.modulus) (ap (λ t. t.constant) (sym e ∙ i)) hm))

  pub quotient_is : Proper w a → QuotientOf w a b (quotient w a b)
  unfolding quotient beside
  quotient_is p = branch (either (bottom-test a) (bottom-test b)) (QuotientOf w a b) (λ e. quotient-of-nothing e)
      (λ n. branch (eq_test b.modulus (pos 0)) (QuotientOf w a b)
      (λ i. branch (eq_test b.constant (pos 0)) (QuotientOf w a b) (λ j. by_zero (ap₂ cong j i)) (λ j. by-number-is p n.0 b.constant (ap (cong b.constant) i) j))
      (λ i. undivided n.0 n.1 (λ e. i (ap (λ t. t.modulus) e)) (λ k e hc hm. i (ap (λ t. t.modulus) e))))

  pub quotient-proper : Proper w a → Proper w (quotient w a b)
  unfolding quotient by_number
  quotient-proper p = beside-proper w a b _ (λ na nb. branch (eq_test b.modulus (pos 0)) (Proper w)
      (λ i. branch (eq_test b.constant (pos 0)) (Proper w) (λ j. bottom-proper w)
      (λ j. branch (divides-test b.constant a) (Proper w)
      (λ r. result-cases (Proper w) (exactly w (quot_z a.constant b.constant)) (abs_then w (exactly w (quot_z a.modulus b.constant))) bottom (λ s. bottom-proper w) (λ s. bottom-proper w)
      (λ u k s t.
      let q = nat_abs (quot_z a.modulus b.constant) in
      let e = found-is w (quot_z a.constant b.constant) u s in
      let o = found-is w (pos q) k (sym whole_is ∙ t) in
      subst (λ v. Proper w (cong (floor_rem u v) v)) (sym o) (reduced-proper w u q (λ z. subst (λ v. SFits w v) (sym e) (yes (fits-test w (quot_z a.constant b.constant)) (found-fits w (quot_z a.constant b.constant) u s))) whole-fits)))
      (λ r. top-proper w)))
      (λ i. top-proper w))
    where
      whole-fits : SFits w (pos (nat_abs (quot_z a.modulus b.constant)))
      whole-fits = abs-quot-fits w a.modulus b.constant p.modulus-fits (canonical-positive a p.canonical)

      whole_is : abs_then w (exactly w (quot_z a.modulus b.constant)) ≡ exactly w (pos (nat_abs (quot_z a.modulus b.constant)))
      whole_is = abs-then-is w (quot_z a.modulus b.constant) (quot_fits w a.modulus b.constant p.modulus-fits (canonical-positive a p.canonical))
