-- The ported arithmetic covers every result that fits; sums, differences and products are least where document 01 says so.
use mathlib.Core.Path.{◌≡◌, refl, sym, ap, ◌∙◌}
use mathlib.Core.Logic.{◌≢◌, ◌⊎◌, inl, inr}
use mathlib.Core.Bool.{false}
use lib.IntN.{ℤ, pos, neg_ℤ, nat_abs, ◌+ℤ◌, ◌-ℤ◌, ◌*ℤ◌}
use lib.Signed.{◌≤ℤ◌, rem_z}
use mir.Syntax.{w64}
use mir.Val.{SFits}
use Rattle.std.specs.declared.cmp.Ordering.{Ordering}
use Rattle.std.specs.Prelude.{None, Option}
use Rattle.whole.specs.Choice.{pick}
use Rattle.whole.specs.Test.{◌≤?◌, ◌<?◌, ◌≟◌}
use Rattle.whole.specs.Whole.{max_ℤ}
use Rattle.whole.specs.Range.{least, greatest, clamp}
use Rattle.whole.specs.Exact.{exactly}
use Rattle.whole.proofs.Linear.{ints, abs, split}
use Rattle.whole.proofs.Linear as L
use Rattle.whole.proofs.Shapes.{lin}
use Rattle.whole.proofs.Fits.{fits, low, high}
use Rattle.whole.proofs.Corners.{corners}
use Rattle.whole.proofs.Divide.{rem-small, rem-nonneg, rem-nonpos}
use Rattle.whole.proofs.Decides.{branch, both, either, le_test, eq_test, fits-test, is_false, unequal}
use Rattle.whole.proofs.Decides as W
use Rattle.refusal.specs.Answer.{Answer, is}
use Rattle.interval.specs.Set.{Interval, ◌⋯◌, ◌∈◌, bottom, single, is_bottom, Proper, Canonical, some, none}
use Rattle.interval.specs.Results.{Least, LeastAnswer, least-is, Covers, Covering, covering, refusing}
use Rattle.interval.specs.Promise.{Several, MinByMinusOne}
use Rattle.interval.specs.PortedPromise.{Fitting, RemRefused, Inner, CornersFit}
use Rattle.interval.specs.Mended.{rem_single}
use Rattle.interval.specs.Ported.{add_min, add_max, add, neg, add_to, sub, mul, weak_cmp, same_one, singleton, rem_by, rem_large, rem}
use Rattle.interval.proofs.Calls.{made}
use Rattle.interval.proofs.Test.{only-test}
use Rattle.interval.proofs.Ends.{add-least, sub-least, mul-least}
use Rattle.interval.proofs.Rem.{signs}
use Rattle.interval.proofs.Canonical.{IsBottom, NotBottom, bottom-test, nothing, in-width, has-number, not-bottom}
use Rattle.interval.proofs.Remainders.{same-reason, alone-covers}
use Rattle.interval.proofs.Clamp.{clamp-under, clamp-over, clamp-is, four-under, four-over}

abbrev MIN : ℤ
MIN = least w64

abbrev MAX : ℤ
MAX = greatest w64

-- beside bottom there is nothing to cover
beside : (f : ℤ → ℤ → ℤ) (Counts : ℤ → ℤ → Type 0) {a b v : Interval} → IsBottom w64 a ⊎ IsBottom w64 b → Covers f Counts a b v
beside f C (inl e) x y p q s = absurd (nothing w64 {x = x} (record { low = omega ints; high = omega ints }))
beside f C (inr e) x y p q s = absurd (nothing w64 {x = y} (record { low = omega ints; high = omega ints }))

-- ---- add
module _ {z : ℤ} (s : SFits w64 z) (x y : ℤ) where
  low_end : (x +ℤ y) ≤ℤ z → add_min x y ≤ℤ z
  unfolding add_min
  low_end h = branch (either (eq_test x MIN) (eq_test y MIN)) (λ t. t ≤ℤ z) (λ _. low w64 z s) (λ _. clamp-under w64 s (x +ℤ y) h)

  high_end : z ≤ℤ (x +ℤ y) → z ≤ℤ add_max x y
  unfolding add_max
  high_end h = branch (either (eq_test x MAX) (eq_test y MAX)) (λ t. z ≤ℤ t) (λ _. high w64 z s) (λ _. clamp-over w64 s (x +ℤ y) h)

pub add-covers : (a b : Interval) → Covers ◌+ℤ◌ (Fitting ◌+ℤ◌) a b (add a b)
unfolding add
add-covers a b =
    branch (either (bottom-test w64 a) (bottom-test w64 b)) (Covers ◌+ℤ◌ (Fitting ◌+ℤ◌) a b) (beside ◌+ℤ◌ (Fitting ◌+ℤ◌)) λ _ x y p q s.
    record { low = low_end s a.min b.min (omega lin); high = high_end s a.max b.max (omega lin) }

-- ---- sub
-- an end that is infinite makes the sum's infinite
module _ {z : ℤ} (s : SFits w64 z) (x : ℤ) where
  sunk : add_min x MIN ≤ℤ z
  unfolding add_min
  sunk = branch (either (eq_test x MIN) (eq_test MIN MIN)) (λ t. t ≤ℤ z) (λ _. low w64 z s) (λ n. absurd (n.1 refl))

  risen : z ≤ℤ add_max x MAX
  unfolding add_max
  risen = branch (either (eq_test x MAX) (eq_test MAX MAX)) (λ t. z ≤ℤ t) (λ _. high w64 z s) (λ n. absurd (n.1 refl))

abbrev negated : Interval → Interval
negated b = pick (b.max ≟ MAX) MIN (neg_ℤ b.max) ⋯ pick (b.min ≟ MIN) MAX (neg_ℤ b.min)

-- a negated interval is not bottom: its high end is not MIN
no-bottom : {n : ℤ} → n ≤ℤ MAX → pick (n ≟ MIN) MAX (neg_ℤ n) ≡ MIN → ⊥
no-bottom {n} h = branch (eq_test n MIN) (λ t. t ≡ MIN → ⊥) (λ _ e. omega (ints, signs w64)) (λ _ e. omega (lin, L.neg n))

pub sub-covers : {a b : Interval} → Canonical w64 a → Canonical w64 b → Covering ◌-ℤ◌ (Fitting ◌-ℤ◌) (b ≡ single MIN) a b (sub a b)
unfolding sub neg add
sub-covers {a} {b} c d =
    branch (bottom-test w64 b) C (λ e. covering (λ m. omega (ints, signs w64, ap (λ i. i.min) m)) (beside ◌-ℤ◌ (Fitting ◌-ℤ◌) (inr e))) λ n.
    branch (eq_test b.max MIN) C (λ e. refusing (only-least (has-number d n) e)) λ f.
    covering (λ m. f (ap (λ i. i.max) m)) (branch (either (bottom-test w64 a) (bottom-test w64 (negated b))) (Covers ◌-ℤ◌ (Fitting ◌-ℤ◌) a b) none-there λ _ x y p q s.
    record {
      low = branch (eq_test b.max MAX) (λ t. add_min a.min t ≤ℤ (x -ℤ y)) (λ _. sunk s a.min) (λ _. low_end s a.min (neg_ℤ b.max) (omega (lin, L.sum a.min (neg_ℤ b.max), L.neg b.max)));
      high = branch (eq_test b.min MIN) (λ t. (x -ℤ y) ≤ℤ add_max a.max t) (λ _. risen s a.max) (λ _. high_end s a.max (neg_ℤ b.min) (omega (lin, L.sum a.max (neg_ℤ b.min), L.neg b.min)));
    })
  where
    C : Answer Interval → Type 0
    C r = Covering ◌-ℤ◌ (Fitting ◌-ℤ◌) (b ≡ single MIN) a b (add_to a r)

    only-least : {b : Interval} → Proper w64 b → b.max ≡ MIN → b ≡ single MIN
    only-least {b} q e = made b.min b.max MIN MIN (omega ints) e

    none-there : IsBottom w64 a ⊎ IsBottom w64 (negated b) → Covers ◌-ℤ◌ (Fitting ◌-ℤ◌) a b (bottom w64)
    none-there (inl e) = beside ◌-ℤ◌ (Fitting ◌-ℤ◌) (inl e)
    none-there (inr e) = absurd (no-bottom (in-width d).1 e.1)

-- ---- mul
pub mul-covers : (a b : Interval) → Covers ◌*ℤ◌ (Fitting ◌*ℤ◌) a b (mul a b)
unfolding mul
mul-covers a b =
    branch (either (bottom-test w64 a) (bottom-test w64 b)) (Covers ◌*ℤ◌ (Fitting ◌*ℤ◌) a b) (beside ◌*ℤ◌ (Fitting ◌*ℤ◌)) λ _ x y p q s.
    let c = corners x y a.min a.max b.min b.max p.low p.high q.low q.high in
    record { low = four-under w64 s _ _ _ _ c.0; high = four-over w64 s _ _ _ _ c.1 }

-- ---- rem, by a divisor that isn't 0
module _ {a b : Interval} {x y : ℤ} (p : x ∈ a) (q : y ∈ b) (nz : y ≢ pos 0) where
  -- the greater absolute value of b's ends
  m : ℤ
  m = max_ℤ (pos (nat_abs b.min)) (pos (nat_abs b.max))

  large : pos (nat_abs y) ≤ℤ m
  unfolding m
  large = elim (split (pos 0) y) [
    | inl h ↦ let k : pos (nat_abs y) ≤ℤ pos (nat_abs b.max) = omega (ints, abs y, abs b.max) in omega (ints, L.greatest (pos (nat_abs b.min)) (pos (nat_abs b.max)))
    | inr h ↦ let k : pos (nat_abs y) ≤ℤ pos (nat_abs b.min) = omega (ints, abs y, abs b.min) in omega (ints, L.greatest (pos (nat_abs b.min)) (pos (nat_abs b.max)))
  ]

  within : ((neg_ℤ m +ℤ pos 1) ≤ℤ rem_z x y) × (rem_z x y ≤ℤ (m -ℤ pos 1))
  within =
      let s = rem-small x y nz in
      let l = large in
      let r = abs (rem_z x y) in
      (omega (lin, L.neg m, L.sum (neg_ℤ m) (pos 1)), omega lin)

  by_order : rem_z x y ∈ rem_by (weak_cmp a (single (pos 0))) (neg_ℤ m +ℤ pos 1) (m -ℤ pos 1)
  unfolding weak_cmp rem_by same_one singleton
  by_order =
      branch (either (bottom-test w64 a) (bottom-test w64 (single (pos 0)))) P (λ _. both-sides) λ _.
      branch (le_test a.max (pos 0)) P (λ h. record { low = within.0; high = rem-nonpos x y (omega ints) }) λ f.
      branch (le_test (pos 0) a.min) P (λ h. record { low = rem-nonneg x y (omega ints); high = within.1 }) λ g.
      branch (eq_test a.min a.max) (λ t. P (same_one t (singleton (single (pos 0))))) (λ e. absurd (omega ints)) (λ _. both-sides)
    where
      P : Option Ordering → Type 0
      P o = rem_z x y ∈ rem_by o (neg_ℤ m +ℤ pos 1) (m -ℤ pos 1)

      both-sides : P None
      both-sides = record { low = within.0; high = within.1 }

-- of numbers of 64 bits, the greater absolute value fits unless the divisor has MIN
module _ {b : Interval} (d : Canonical w64 b) where
  has-least : NotBottom w64 b → W.Beyond w64 (max_ℤ (pos (nat_abs b.min)) (pos (nat_abs b.max))) → b.min ≡ MIN
  has-least n o = let q = has-number d n in elim o [
    | inl h ↦ absurd (omega (ints, L.greatest (pos (nat_abs b.min)) (pos (nat_abs b.max))))
    | inr h ↦ omega (ints, L.greatest (pos (nat_abs b.min)) (pos (nat_abs b.max)), abs b.min, abs b.max)
  ]

  least-beyond : b.min ≡ MIN → SFits w64 (max_ℤ (pos (nat_abs b.min)) (pos (nat_abs b.max))) → ⊥
  least-beyond e f = omega (ints, high w64 _ f, L.greatest (pos (nat_abs b.min)) (pos (nat_abs b.max)), abs b.min)

pub rem-covers : {a b : Interval} → Canonical w64 a → Canonical w64 b → Covering rem_z (λ x y. y ≢ pos 0) (RemRefused a b) a b (rem a b)
unfolding rem rem_large exactly m
rem-covers {a} {b} c d =
    branch (either (either (bottom-test w64 a) (bottom-test w64 b)) (only-test b (pos 0))) C (λ e. covering (settled e) (none-there e)) λ n.
    branch (both (eq_test a.min a.max) (eq_test b.min b.max)) C (λ h. alone (has-number c n.0.0) h.0 h.1) λ s.
    branch (fits-test w64 _) (λ e. C (rem_large a e)) (λ f. covering (fitted s f) (λ x y p q nz. by_order p q nz)) (λ o. refusing (inr (not-both n.0.0, s, has-least d n.0.1 o)))
  where
    C : Answer Interval → Type 0
    C = Covering rem_z (λ x y. y ≢ pos 0) (RemRefused a b) a b

    none-there : (IsBottom w64 a ⊎ IsBottom w64 b) ⊎ ((b.min ≡ pos 0) × (b.max ≡ pos 0)) → Covers rem_z (λ x y. y ≢ pos 0) a b (bottom w64)
    none-there (inl e) = beside rem_z (λ x y. y ≢ pos 0) e
    none-there (inr e) = λ x y p q nz. absurd (nz (omega ints))

    settled : (IsBottom w64 a ⊎ IsBottom w64 b) ⊎ ((b.min ≡ pos 0) × (b.max ≡ pos 0)) → RemRefused a b → ⊥
    settled (inl (inl e)) (inl t) = omega (ints, ap (λ i. i.min) t.0)
    settled (inl (inl e)) (inr r) = r.0 (made a.min a.max MAX MIN e.0 e.1)
    settled (inl (inr e)) (inl t) = omega (ints, ap (λ i. i.min) t.1)
    settled (inl (inr e)) (inr r) = omega (ints, r.2)
    settled (inr e) (inl t) = omega (ints, ap (λ i. i.min) t.1)
    settled (inr e) (inr r) = omega (ints, r.2)

    not-both : NotBottom w64 a → a ≢ bottom w64
    not-both (inl n) e = n (ap (λ i. i.min) e)
    not-both (inr n) e = n (ap (λ i. i.max) e)

    one_only : a.min ≡ a.max → b.min ≡ b.max → RemRefused a b → MinByMinusOne w64 a b
    one_only d e (inl t) = t
    one_only d e (inr (n, inl s, h)) = absurd (s d)
    one_only d e (inr (n, inr s, h)) = absurd (s e)

    alone : Proper w64 a → a.min ≡ a.max → b.min ≡ b.max → C (rem_single w64 a.min b.min)
    alone p d e = same-reason inl (one_only d e) (alone-covers (fits w64 a.min p.above (omega ints)) d e)

    fitted : Several a b → SFits w64 (max_ℤ (pos (nat_abs b.min)) (pos (nat_abs b.max))) → RemRefused a b → ⊥
    fitted (inl s) f (inl t) = s (ap (λ i. i.min) t.0 ∙ sym (ap (λ i. i.max) t.0))
    fitted (inr s) f (inl t) = s (ap (λ i. i.min) t.1 ∙ sym (ap (λ i. i.max) t.1))
    fitted s f (inr r) = least-beyond d r.2 f

-- ---- least
inner-is : (i : Interval) → i.min ≢ MAX → is_bottom w64 i ≡ false
inner-is i n = is_false (bottom-test w64 i) (λ e. n e.0)

sum_low : {x y : ℤ} → x ≢ MIN → y ≢ MIN → SFits w64 (x +ℤ y) → add_min x y ≡ x +ℤ y
unfolding add_min
sum_low m n f = rw (unequal m, unequal n, clamp-is w64 f)

sum-high : {x y : ℤ} → x ≢ MAX → y ≢ MAX → SFits w64 (x +ℤ y) → add_max x y ≡ x +ℤ y
unfolding add_max
sum-high m n f = rw (unequal m, unequal n, clamp-is w64 f)

add_is : {a b : Interval} → Inner a → Inner b → SFits w64 (a.min +ℤ b.min) → SFits w64 (a.max +ℤ b.max) → add a b ≡ ((a.min +ℤ b.min) ⋯ (a.max +ℤ b.max))
unfolding add
add_is {a} {b} m n f g = rw (inner-is a m.low_end.1, inner-is b n.low_end.1, sum_low m.low_end.0 n.low_end.0 f, sum-high m.high_end.1 n.high_end.1 g)

-- what is canonical and has no infinite end has a number
ordered : {i : Interval} → Canonical w64 i → Inner i → i.min ≤ℤ i.max
ordered (some p) n = p.ordered
ordered none n = absurd (n.low_end.1 refl)

pub add-least-inside : {a b : Interval} → Canonical w64 a → Canonical w64 b → Inner a → Inner b → SFits w64 (a.min +ℤ b.min) → SFits w64 (a.max +ℤ b.max) → Least ◌+ℤ◌ a b (add a b)
add-least-inside c d m n f g = rw (add_is m n f g) (add-least (ordered c m) (ordered d n))

neg_is : {b : Interval} → Inner b → neg b ≡ is (neg_ℤ b.max ⋯ neg_ℤ b.min)
unfolding neg
neg_is {b} n = rw (inner-is b n.low_end.1, unequal n.high_end.0, unequal n.high_end.1, unequal n.low_end.0)

sub_is : {a b : Interval} → Inner a → Inner b → Canonical w64 b → b.min ≢ neg_ℤ MAX → SFits w64 (a.min -ℤ b.max) → SFits w64 (a.max -ℤ b.min) → sub a b ≡ is ((a.min -ℤ b.max) ⋯ (a.max -ℤ b.min))
unfolding sub add
sub_is {a} {b} m n d k f g = rw (neg_is n, inner-is a m.low_end.1, not-empty, sum_low {y = neg_ℤ b.max} m.low_end.0 high-side f, sum-high {y = neg_ℤ b.min} m.high_end.1 low-side g)
  where
    low-side : neg_ℤ b.min ≢ MAX
    low-side e = k (omega (lin, L.neg b.min))

    high-side : neg_ℤ b.max ≢ MIN
    high-side e = absurd (let i = in-width d in omega (lin, L.neg b.max))

    not-empty : is_bottom w64 (neg_ℤ b.max ⋯ neg_ℤ b.min) ≡ false
    not-empty = is_false (bottom-test w64 (neg_ℤ b.max ⋯ neg_ℤ b.min)) (λ e. let i = in-width d in let h = e.1 in omega (lin, L.neg b.min))

-- also the right low end isn't -MAX, whose opposite is taken for infinity
pub sub-least-inside : {a b : Interval} → Canonical w64 a → Canonical w64 b → Inner a → Inner b → b.min ≢ neg_ℤ MAX → SFits w64 (a.min -ℤ b.max) → SFits w64 (a.max -ℤ b.min) → LeastAnswer ◌-ℤ◌ a b (sub a b)
sub-least-inside c d m n k f g = rw (sub_is m n d k f g) (least-is (sub-least (ordered c m) (ordered d n)))

-- without it the difference is not least: [-MAX, -MAX] - [-MAX, -MAX] is [0, MAX], and exactly [0, 0]
pub sub-not-least : (sub (single (neg_ℤ MAX)) (single (neg_ℤ MAX)) ≡ is (pos 0 ⋯ MAX)) × Least ◌-ℤ◌ (single (neg_ℤ MAX)) (single (neg_ℤ MAX)) (single (pos 0))
unfolding sub neg add add_min add_max clamp ◌≟◌ ◌≤?◌ ◌<?◌
sub-not-least = (refl, sub-least (omega ints) (omega ints))

pub mul-least-inside : {a b : Interval} → Proper w64 a → Proper w64 b → CornersFit a b → Least ◌*ℤ◌ a b (mul a b)
unfolding mul
mul-least-inside {a} {b} p q f = rw (not-bottom p, not-bottom q, clamp-is w64 f.low-low, clamp-is w64 f.low-high, clamp-is w64 f.high-low, clamp-is w64 f.high-high) (mul-least p.ordered q.ordered)
