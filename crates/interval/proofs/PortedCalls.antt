-- What the calls of the ported code ensure, carried to the values that the definitions name; and the needs of its few sums.
use mathlib.Core.Path.{◌≡◌, refl, sym, ◌∙◌}
use mathlib.Core.Logic.{◌⊎◌, inl, inr}
use mathlib.Core.Bool.{Bool, true, false, ◌&&◌, ◌||◌}
use Prim.Native.Nat.{ℕ}
use lib.IntN.{ℤ, pos, neg_ℤ, nat_abs, ◌+ℤ◌, ◌-ℤ◌, ◌*ℤ◌, +ℤ_idl}
use lib.Signed.{◌≤ℤ◌}
use mir.Syntax.{w64}
use mir.Val.{SFits, to_z, of_z}
use mir.Facts.{to_z-of_z}
use Rattle.std.specs.declared.cmp.Ordering.{Ordering}
use Rattle.std.specs.Bool.{one_answer}
use Rattle.std.specs.Ordering.{int_eq}
use Rattle.std.proofs.lemmas.Bool.Decides.{Decides-int_eq}
use Rattle.std.specs.Prelude.{Err, None, Ok, Option, Result, Some}
use Rattle.whole.specs.Choice.{pick}
use Rattle.whole.specs.Test.{◌<?◌, ◌≟◌}
use Rattle.whole.specs.Whole.{min_ℤ, max_ℤ, min4, max4}
use Rattle.whole.specs.Range.{least, greatest, clamp, fits?}
use Rattle.whole.specs.Exact.{exactly}
use Rattle.whole.proofs.Linear.{ints, from-≢}
use Rattle.whole.proofs.Linear as L
use Rattle.whole.proofs.Fits.{machine, range, high}
use Rattle.whole.proofs.Decides.{Beyond, both, eq_test, lt_test, fits-test, same_test, not_beyond, equal, yes, no, is_false}
use Rattle.whole.proofs.Calls.{called-1, called, min-called, max-called}
use Rattle.refusal.specs.declared.Refusal.{Refusal}
use Rattle.refusal.specs.Number.{number_of}
use Rattle.interval.specs.declared.Pair.{Pair}
use Rattle.interval.specs.Set.{Interval, ◌⋯◌, single}
use Rattle.refusal.specs.Answer.{is, refused, told}
use Rattle.interval.specs.Ends.{greatest_of}
use Rattle.interval.specs.Mended.{verdict, filled}
use Rattle.interval.specs.Ported.{same_one, same_ends, weak_cmp, add, neg, sub, largest, rem_by, rem_large}
use Rattle.interval.proofs.Ends.{max-is}

pub verdict-called : (s p t q : Bool) (r : Interval) → r ≡ verdict p q → p ≡ s → q ≡ t → r ≡ verdict s t
verdict-called = called verdict

pub same-called : (a m b n : Option ℤ) (r : Option Ordering) → r ≡ same_one m n → m ≡ a → n ≡ b → r ≡ same_one a b
same-called = called same_one

pub filled-ends : (a m b n : ℤ) (r : Interval) → r ≡ filled w64 (m ⋯ n) → m ≡ a → n ≡ b → r ≡ filled w64 (a ⋯ b)
filled-ends = called (λ x y. filled w64 (x ⋯ y))

pub numbers-up-to : (a : Interval) (n m : ℤ) (r : Interval) → r ≡ filled w64 (a.min ⋯ min_ℤ a.max m) → m ≡ n → r ≡ filled w64 (a.min ⋯ min_ℤ a.max n)
numbers-up-to a n m r h p = rw p at h

pub numbers-from : (a : Interval) (n m : ℤ) (r : Interval) → r ≡ filled w64 (max_ℤ m a.min ⋯ a.max) → m ≡ n → r ≡ filled w64 (max_ℤ n a.min ⋯ a.max)
numbers-from a n m r h p = rw p at h

pub pair_made : (a b m n : Interval) → a ≡ m → b ≡ n → ◌≡◌ {A = Pair} (record { left = a; right = b }) (record { left = m; right = n })
pair_made a b m n p q = rw (p, q) refl

pub end-widened : (t u : Bool) (i e p q r : ℤ) → r ≡ pick u e q → u ≡ t → e ≡ i → q ≡ p → r ≡ pick t i p
end-widened t u i e p q r h l m n = rw (l, m, n) at h

pub ends-added : (i e a m b n r : ℤ) → r ≡ pick ((m ≟ e) || (n ≟ e)) e (clamp w64 (m +ℤ n)) → e ≡ i → m ≡ a → n ≡ b → r ≡ pick ((a ≟ i) || (b ≟ i)) i (clamp w64 (a +ℤ b))
ends-added i e a m b n r h p q o = rw (p, q, o) at h

pub sum-called : (a m b n r : ℤ) → r ≡ clamp w64 (m +ℤ n) → m ≡ a → n ≡ b → r ≡ clamp w64 (a +ℤ b)
sum-called = called (λ x y. clamp w64 (x +ℤ y))

pub product-called : (a m b n r : ℤ) → r ≡ clamp w64 (m *ℤ n) → m ≡ a → n ≡ b → r ≡ clamp w64 (a *ℤ b)
product-called = called (λ x y. clamp w64 (x *ℤ y))

pub neg_low : (a m r : ℤ) → r ≡ pick (m ≟ greatest w64) (least w64) (neg_ℤ m) → m ≡ a → r ≡ pick (a ≟ greatest w64) (least w64) (neg_ℤ a)
neg_low = called-1 (λ x. pick (x ≟ greatest w64) (least w64) (neg_ℤ x))

pub neg-high : (a m r : ℤ) → r ≡ pick (m ≟ least w64) (greatest w64) (neg_ℤ m) → m ≡ a → r ≡ pick (a ≟ least w64) (greatest w64) (neg_ℤ a)
neg-high = called-1 (λ x. pick (x ≟ least w64) (greatest w64) (neg_ℤ x))

pub spread-called : (a k b l c m d n : ℤ) (r : Interval) → r ≡ (min4 k l m n ⋯ max4 k l m n) → k ≡ a → l ≡ b → m ≡ c → n ≡ d → r ≡ (min4 a b c d ⋯ max4 a b c d)
spread-called a k b l c m d n r h p q s t = rw (p, q, s, t) at h

pub by-called : (o u : Option Ordering) (a m b n : ℤ) (r : Interval) → r ≡ rem_by u m n → u ≡ o → m ≡ a → n ≡ b → r ≡ rem_by o a b
by-called o u a m b n r h p q s = rw (p, q, s) at h

pub ruleset ends = (verdict-called, same-called, filled-ends, pair_made, end-widened, ends-added, sum-called, neg_low, neg-high, min-called, max-called)

-- `==` of two numbers is the definition's test, so `==` of two intervals is `same_ends`
eq-asked : (x y : ℤ) → int_eq x y ≡ (x ≟ y)
eq-asked x y = one_answer _ _ (Decides-int_eq x y) (yes (eq_test x y), λ e. rw e (equal y))

pub same-told : (a b : Interval) (r t : Bool) → r ≡ (int_eq a.min b.min && int_eq a.max b.max) → r ≡ t → same_ends a b ≡ t
same-told a b r t h e = rw (eq-asked a.min b.min, eq-asked a.max b.max) at (sym h ∙ e)

pub sub_is : (a b c : Interval) (n : Result Interval Refusal) (r : Interval) → told n ≡ neg b → n ≡ Ok c → r ≡ add a c → is r ≡ sub a b
unfolding sub
sub_is a b c n r h p e = rw (sym h, p, e)

pub sub-refused : (a b : Interval) (n : Result Interval Refusal) (q : Refusal) → told n ≡ neg b → n ≡ Err q → refused (number_of q) ≡ sub a b
unfolding sub
sub-refused a b n q h p = rw (sym h, p)

-- ---- the remainder
-- of two natural numbers the greater fits exactly if both do
greatest-exact : (j k : ℕ) → greatest_of (exactly w64 (pos j)) (exactly w64 (pos k)) ≡ exactly w64 (max_ℤ (pos j) (pos k))
unfolding greatest_of exactly
greatest-exact j k = go (fits? w64 (pos j)) (fits? w64 (pos k)) ∙ rw (same_test (both (fits-test w64 (pos j)) (fits-test w64 (pos k))) (fits-test w64 (max_ℤ (pos j) (pos k))) (λ h. not_beyond (max-is (SFits w64) (pos j) (pos k) h.0 h.1)) out)
  where
    go : (p q : Bool) → greatest_of (pick p (Some (pos j)) None) (pick q (Some (pos k)) None) ≡ pick (p && q) (Some (max_ℤ (pos j) (pos k))) None
    go true true = refl
    go true false = refl
    go false q = refl

    over : (i : ℕ) → pos i ≤ℤ max_ℤ (pos j) (pos k) → Beyond w64 (pos i) → SFits w64 (max_ℤ (pos j) (pos k)) → ⊥
    over i l (inl n) f = omega ints
    over i l (inr n) f = let h = high w64 _ f in omega ints

    out : Beyond w64 (pos j) ⊎ Beyond w64 (pos k) → SFits w64 (max_ℤ (pos j) (pos k)) → ⊥
    out (inl n) = over j (omega (ints, L.greatest (pos j) (pos k))) n
    out (inr n) = over k (omega (ints, L.greatest (pos j) (pos k))) n

pub largest-made : (lo hi m n : ℤ) (j k : ℕ) (e f r : Option ℤ) → r ≡ greatest_of e f → e ≡ exactly w64 (pos j) → f ≡ exactly w64 (pos k) → j ≡ nat_abs m → k ≡ nat_abs n → m ≡ lo → n ≡ hi → r ≡ exactly w64 (max_ℤ (pos (nat_abs lo)) (pos (nat_abs hi)))
largest-made lo hi m n j k e f r h p q s t u v = (rw (p, q, s, t, u, v) at h) ∙ greatest-exact (nat_abs lo) (nat_abs hi)

-- a number that fits is the one that was asked for
exact-value : (z k : ℤ) → exactly w64 z ≡ Some k → k ≡ z
unfolding exactly
exact-value z k h = go (fits? w64 z) h
  where
    go : (p : Bool) → pick p (Some z) None ≡ Some k → k ≡ z
    go true e = cc
    go false e = cc

pub large-natural : (x y k n : ℤ) (r : Option ℤ) → r ≡ exactly w64 (max_ℤ (pos (nat_abs x)) (pos (nat_abs y))) → r ≡ Some k → n ≡ k → (n <? pos 0) ≡ false
large-natural x y k n r h e p =
    let z = exact-value (max_ℤ (pos (nat_abs x)) (pos (nat_abs y))) k (sym h ∙ e) in
    is_false (lt_test n (pos 0)) (λ l. omega (ints, L.greatest (pos (nat_abs x)) (pos (nat_abs y))))

pub large_is : (a b : Interval) (m n k j : ℤ) (e : Option ℤ) (r : Interval) → e ≡ exactly w64 (max_ℤ (pos (nat_abs m)) (pos (nat_abs n))) → m ≡ b.min → n ≡ b.max → e ≡ Some k → r ≡ rem_by (weak_cmp a (single (pos 0))) (neg_ℤ j +ℤ pos 1) (j -ℤ pos 1) → j ≡ k → is r ≡ rem_large a (largest b)
unfolding rem_large
large_is a b m n k j e r h p q d t u = let l : largest b ≡ Some k = sym (rw (p, q) at h) ∙ d in rw (l, t, u)

pub large-refused : (a b : Interval) (m n : ℤ) (e : Option ℤ) → e ≡ exactly w64 (max_ℤ (pos (nat_abs m)) (pos (nat_abs n))) → m ≡ b.min → n ≡ b.max → e ≡ None → refused 2 ≡ rem_large a (largest b)
unfolding rem_large
large-refused a b m n e h p q d = let l : largest b ≡ None = sym (rw (p, q) at h) ∙ d in rw l

pub ruleset large = (large-natural, large_is, large-refused)

-- ---- sums and negations beside an end
module _ (x : ℤ) (f : SFits w64 x) where
  pub before-need : (x ≟ least w64) ≡ false → SFits w64 (to_z w64 (of_z w64 x) -ℤ pos 1)
  before-need h = rw (to_z-of_z f) (let n = no (eq_test x (least w64)) h in omega (machine, range f, from-≢ n))

  pub after-need : (x ≟ greatest w64) ≡ false → SFits w64 (to_z w64 (of_z w64 x) +ℤ pos 1)
  after-need h = rw (to_z-of_z f) (let n = no (eq_test x (greatest w64)) h in omega (machine, range f, from-≢ n))

  pub before-read : (x ≟ least w64) ≡ false → to_z w64 (of_z w64 (to_z w64 (of_z w64 x) -ℤ pos 1)) ≡ x -ℤ pos 1
  before-read h = to_z-of_z (before-need h) ∙ rw (to_z-of_z f) refl

  pub after-read : (x ≟ greatest w64) ≡ false → to_z w64 (of_z w64 (to_z w64 (of_z w64 x) +ℤ pos 1)) ≡ x +ℤ pos 1
  after-read h = to_z-of_z (after-need h) ∙ rw (to_z-of_z f) refl

  pub opposite-need : (x ≟ least w64) ≡ false → SFits w64 (pos 0 -ℤ to_z w64 (of_z w64 x))
  opposite-need h = rw (to_z-of_z f, +ℤ_idl (neg_ℤ x)) (let n = no (eq_test x (least w64)) h in omega (machine, range f, from-≢ n))

module _ (m : ℤ) (f : SFits w64 m) (h : (m <? pos 0) ≡ false) where
  natural : pos 0 ≤ℤ m
  natural = no (lt_test m (pos 0)) h

  pub up_neg : SFits w64 (pos 0 -ℤ to_z w64 (of_z w64 m))
  up_neg = rw (to_z-of_z f, +ℤ_idl (neg_ℤ m)) (let n = natural in omega (machine, range f))

  low_fits : SFits w64 (neg_ℤ m +ℤ pos 1)
  low_fits = let n = natural in omega (machine, range f, L.neg m, L.sum (neg_ℤ m) (pos 1))

  high_fits : SFits w64 (m -ℤ pos 1)
  high_fits = let n = natural in omega (machine, range f)

  low_read : to_z w64 (of_z w64 (pos 0 -ℤ to_z w64 (of_z w64 m))) +ℤ pos 1 ≡ neg_ℤ m +ℤ pos 1
  low_read = rw (to_z-of_z up_neg, to_z-of_z f, +ℤ_idl (neg_ℤ m)) refl

  pub up_next : SFits w64 (to_z w64 (of_z w64 (pos 0 -ℤ to_z w64 (of_z w64 m))) +ℤ pos 1)
  up_next = rw low_read low_fits

  pub up-low : to_z w64 (of_z w64 (to_z w64 (of_z w64 (pos 0 -ℤ to_z w64 (of_z w64 m))) +ℤ pos 1)) ≡ neg_ℤ m +ℤ pos 1
  up-low = rw low_read (to_z-of_z low_fits)

  pub up-prev : SFits w64 (to_z w64 (of_z w64 m) -ℤ pos 1)
  up-prev = rw (to_z-of_z f) high_fits

  pub up-high : to_z w64 (of_z w64 (to_z w64 (of_z w64 m) -ℤ pos 1)) ≡ m -ℤ pos 1
  up-high = rw (to_z-of_z f) (to_z-of_z high_fits)

pub ruleset up = (by-called, up_neg, up_next, up-low, up-prev, up-high)

pub ruleset beside = (before-need, before-read, after-need, after-read, opposite-need)
