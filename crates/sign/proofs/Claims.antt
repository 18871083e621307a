-- What document 01 says of signs, over whole numbers: exact, least, covering; and of their mended twins.
-- Assumes nothing.
use mathlib.Core.Path.{◌≡◌, refl, sym, ap, subst, ◌∙◌}
use mathlib.Core.Logic.{◌≢◌, ◌↔◌, ◌⊎◌, inl, inr}
use mathlib.Core.Bool.{Bool, true, false, ◌&&◌, ◌||◌}
use Prim.Native.Nat.{ℕ}
use native.Mathlib.Omega.{arith}
use lib.IntN.{ℤ, pos, neg_ℤ, ◌+ℤ◌, ◌-ℤ◌, ◌*ℤ◌, neg_ℤ-neg_ℤ}
use lib.Signed.{quot_z, rem_z}
use Rattle.refusal.specs.declared.Refusal.{Refusal}
use Rattle.std.specs.Prelude.{Err, None, Ok, Result}
use Rattle.whole.specs.Test.{◌≤?◌, ◌<?◌, ◌≟◌, truth}
use Rattle.whole.specs.Whole.{◌≼◌, ◌≺◌}
use Rattle.whole.proofs.Decides.{branch, le_test, lt_test, eq_test}
use Rattle.whole.proofs.Linear.{ints}
use Rattle.sign.specs.declared.Sign.{Sign}
use Rattle.sign.specs.declared.Sign.TheVariants.{Top, Bottom, Negative, Zero, Positive, NonNeg, NonZero, NonPos}
use Rattle.refusal.specs.Number.{number_of}
use Rattle.refusal.specs.Answer.{is, refused, told}
use Rattle.refusal.proofs.Claims.{number-tells}
use Rattle.sign.specs.Set.{side_of, ◌has◌, ◌∈◌}
use Rattle.sign.specs.Sides.{with_nought}
use Rattle.sign.specs.Numbers.{Least₁, Least, LeastOver, ◌≻◌, ◌≽◌, Ordered, Strict, Weak, Judged}
use Rattle.sign.specs.Numbers as numbers
use Rattle.sign.specs.Logical.{Combined, Equated, Turned}
use Rattle.sign.specs.Logical as logical
use Rattle.sign.specs.Ported as ported
use Rattle.sign.specs.Ported.{of_number, join, meet, partial_cmp, widen, narrow, add, neg, sub, mul, rem, logical_eq, logical_and, logical_or, strict_cmp}
use Rattle.sign.specs.Mended as mended
use Rattle.sign.specs.Mended.{equals, less, greater, less_or_equal, greater_or_equal}
use Rattle.sign.proofs.Cells.{differ, rules, signs}
use Rattle.sign.proofs.Truths.{judged-has, kept, is_same, tells-either, picked, surely-test, combined}
use Rattle.sign.proofs.Quotients.{rem-in, rem-reached, quot-in, mended-adds-0}
use Rattle.sign.proofs.Laws.{was, or_elim, or_right, join-has, side-only, side-itself, and_both, and-of, inside-test, told_covers, told-reach, least_by, products}
use Rattle.sign.proofs.Differences.{add-covers, add-reach, neg-covers, neg-back, sub-covers, sub-reach, meet-has, by_less, by_equal, by-greater, by-at-most, by-at-least, strict-by, weak-by, judged-by}

-- ---- the sign of a number

pub of-number-exact : (x y : ℤ) → (y ∈ of_number x) ↔ (side_of y ≡ side_of x)
unfolding of_number
of-number-exact x y = (λ h. side-only (side_of x) (side_of y) h.is, λ e. record { is = rw e (side-itself (side_of x)) })

-- ---- the lattice

pub join-exact : (a b : Sign) (x : ℤ) → (x ∈ join a b) ↔ ((x ∈ a) ⊎ (x ∈ b))
join-exact a b x = (there, back)
  where
    there : x ∈ join a b → (x ∈ a) ⊎ (x ∈ b)
    there h = elim (or_elim (a has side_of x) (b has side_of x) (sym (join-has a b (side_of x)) ∙ h.is)) [
      | inl k ↦ inl (record { is = k })
      | inr k ↦ inr (record { is = k })
    ]

    back : (x ∈ a) ⊎ (x ∈ b) → x ∈ join a b
    back (inl h) = record { is = join-has a b (side_of x) ∙ rw h.is refl }
    back (inr h) = record { is = join-has a b (side_of x) ∙ or_right (a has side_of x) (b has side_of x) h.is }

pub meet-exact : (a b : Sign) (x : ℤ) → (x ∈ meet a b) ↔ ((x ∈ a) × (x ∈ b))
meet-exact a b x = (
  λ h. let k = and_both (a has side_of x) (b has side_of x) (sym (meet-has a b (side_of x)) ∙ h.is) in (record { is = k.0 }, record { is = k.1 }),
  λ h. record { is = meet-has a b (side_of x) ∙ and-of h.0.is h.1.is },
)

pub order-exact : (a b : Sign) → Ordered a b (partial_cmp a b)
unfolding partial_cmp
order-exact a b =
    branch (inside-test a b) (Ordered a b)
    (λ h. branch (inside-test b a) (Ordered a b) (λ k. numbers.Ordered.equal h k) (λ k. numbers.Ordered.less h k))
    (λ h. branch (inside-test b a) (Ordered a b) (λ k. numbers.Ordered.greater h k) (λ k. numbers.Ordered.none h k))

-- the defaults answer the new value
pub defaults-answer-new : (new previous : Sign) → (widen new previous ≡ new) × (narrow new previous ≡ new)
defaults-answer-new new previous = (refl, refl)

-- ---- arithmetic: the least sign over whole numbers, for all 64 pairs

pub add-least : (a b : Sign) → Least ◌+ℤ◌ a b (add a b)
add-least a b = least_by ◌+ℤ◌ a b (add a b) (add-covers a b) (add-reach a b)

pub neg-least : (a : Sign) → Least₁ neg_ℤ a (neg a)
neg-least a = record {
  covers = neg-covers a;
  least = λ t h. record { each = λ x k. subst (λ (z : ℤ). z ∈ t) (neg_ℤ-neg_ℤ x) (h (neg_ℤ x) (neg-back a x k)) };
}

pub sub-least : (a b : Sign) → Least ◌-ℤ◌ a b (sub a b)
sub-least a b = least_by ◌-ℤ◌ a b (sub a b) (sub-covers a b) (sub-reach a b)

pub mul-least : (a b : Sign) → Least ◌*ℤ◌ a b (mul a b)
unfolding mul
mul-least a b = least_by ◌*ℤ◌ a b (mul a b) (told_covers products a b) (told-reach products a b)

-- ---- how their numbers compare

pub strict-exact : (a b : Sign) → Strict a b (strict_cmp a b)
unfolding strict_cmp
strict-exact a b = strict-by a b

pub mended-weak-exact : (a b : Sign) → Weak a b (mended.weak_cmp a b)
unfolding mended.weak_cmp
mended-weak-exact a b = weak-by a b

pub equals-exact : (a b : Sign) → Judged ◌≡◌ a b (equals a b)
unfolding equals
equals-exact a b = judged-by a b by_equal

pub less-exact : (a b : Sign) → Judged ◌≺◌ a b (less a b)
unfolding less
less-exact a b = judged-by a b by_less

pub greater-exact : (a b : Sign) → Judged ◌≻◌ a b (greater a b)
unfolding greater
greater-exact a b = judged-by a b by-greater

pub less-or-equal-exact : (a b : Sign) → Judged ◌≼◌ a b (less_or_equal a b)
unfolding less_or_equal
less-or-equal-exact a b = judged-by a b by-at-most

pub greater-or-equal-exact : (a b : Sign) → Judged ◌≽◌ a b (greater_or_equal a b)
unfolding greater_or_equal
greater-or-equal-exact a b = judged-by a b by-at-least

-- an empty side gives both
sub-empty : (a : Sign) → sub a Bottom ≡ Bottom
unfolding sub add neg
sub-empty a = rules signs (λ a b. sub a Bottom) (λ a b. Bottom) tt a a

empty-judged : (r a : Sign) → (mended.judged r (sub a Bottom) ≡ NonNeg) × (mended.judged r (sub Bottom a) ≡ NonNeg)
unfolding sub add neg
empty-judged r a = (rw (sub-empty a) refl, refl)

module _ (a : Sign) where
  pub equals-empty : (equals a Bottom ≡ NonNeg) × (equals Bottom a ≡ NonNeg)
  unfolding equals
  equals-empty = empty-judged Zero a

  pub less-empty : (less a Bottom ≡ NonNeg) × (less Bottom a ≡ NonNeg)
  unfolding less
  less-empty = empty-judged Negative a

  pub greater-empty : (greater a Bottom ≡ NonNeg) × (greater Bottom a ≡ NonNeg)
  unfolding greater
  greater-empty = empty-judged Positive a

  pub less-or-equal-empty : (less_or_equal a Bottom ≡ NonNeg) × (less_or_equal Bottom a ≡ NonNeg)
  unfolding less_or_equal
  less-or-equal-empty = empty-judged NonPos a

  pub greater-or-equal-empty : (greater_or_equal a Bottom ≡ NonNeg) × (greater_or_equal Bottom a ≡ NonNeg)
  unfolding greater_or_equal
  greater-or-equal-empty = empty-judged NonNeg a

  pub strict-none-beside-bottom : (strict_cmp a Bottom ≡ None) × (strict_cmp Bottom a ≡ None)
  unfolding strict_cmp sub add neg
  strict-none-beside-bottom = (rw (sub-empty a) refl, refl)

-- true, false and both among 0 and 1
pub truth-signs : (p : Bool) → ((truth p ∈ Positive) ↔ (p ≡ true)) × ((truth p ∈ Zero) ↔ (p ≡ false)) × (truth p ∈ NonNeg)
truth-signs true = ((λ _. refl, λ _. record { is = refl }), (λ h. was refl (sym h.is), λ e. was refl e), record { is = refl })
truth-signs false = ((λ h. was h.is refl, λ e. was e refl), (λ _. refl, λ _. record { is = refl }), record { is = refl })

-- what a comparison shows has the truth of every pair
module _ (a b : Sign) (x y : ℤ) (h : x ∈ a) (k : y ∈ b) where
  pub equals-covers : truth (x ≟ y) ∈ equals a b
  equals-covers = judged-has (equals-exact a b) x y h k (eq_test x y) (λ n e. n e)

  pub less-covers : truth (x <? y) ∈ less a b
  less-covers = judged-has (less-exact a b) x y h k (lt_test x y) (λ n e. omega ints)

  pub greater-covers : truth (y <? x) ∈ greater a b
  greater-covers = judged-has (greater-exact a b) x y h k (lt_test y x) (λ n e. omega ints)

  pub less-or-equal-covers : truth (x ≤? y) ∈ less_or_equal a b
  less-or-equal-covers = judged-has (less-or-equal-exact a b) x y h k (le_test x y) (λ n e. omega ints)

  pub greater-or-equal-covers : truth (y ≤? x) ∈ greater_or_equal a b
  greater-or-equal-covers = judged-has (greater-or-equal-exact a b) x y h k (le_test y x) (λ n e. omega ints)

-- ---- remainders and quotients

pub rem-covers : (a b : Sign) (x y : ℤ) → x ∈ a → y ∈ b → y ≢ pos 0 → rem_z x y ∈ rem a b
unfolding rem
rem-covers a b x y h k f = rem-in a x y h

-- where the divisor may be other than 0, no smaller sign covers; elsewhere the answer is the same
pub rem-least : (a b : Sign) (y : ℤ) → y ∈ b → y ≢ pos 0 → LeastOver rem_z a b (rem a b)
unfolding rem
rem-least a b y h f = record { covers = rem-covers a b; least = λ t g. record { each = λ x k. record { is = rem-reached a b t y h f g (side_of x) k.is } } }

pub rem-by-left : (a b c : Sign) → rem a b ≡ rem a c
unfolding rem
rem-by-left a b c = refl

-- as ported, with Top for NonZero
pub mended-div-is : (a b : Sign) → ((ported.div a b ≡ NonZero) → (mended.div a b ≡ Top)) × ((ported.div a b ≢ NonZero) → (mended.div a b ≡ ported.div a b))
unfolding mended.div
mended-div-is a b = picked (is_same (ported.div a b) NonZero)

-- where the product lies, or 0; so Bottom beside Bottom
pub mended-div-by-product : (a b : Sign) → mended.div a b ≡ with_nought (mul a b)
unfolding mended.div ported.div
mended-div-by-product a b = mended-adds-0 (mul a b)

pub mended-div-bottom : (a : Sign) → (mended.div a Bottom ≡ Bottom) × (mended.div Bottom a ≡ Bottom)
unfolding mended.div ported.div mul
mended-div-bottom a = (rules signs (λ a b. mended.div a Bottom) (λ a b. Bottom) tt a a, refl)

pub mended-div-covers : (a b : Sign) (x y : ℤ) → x ∈ a → y ∈ b → y ≢ pos 0 → quot_z x y ∈ mended.div a b
mended-div-covers a b x y h k f = rw (mended-div-by-product a b) (quot-in a b x y h k f)

-- ---- logic

-- and, or: Zero decides and, Positive decides or; the other, where both operands are it; else NonNeg
pub and_is : (a b : Sign) → Combined Zero Positive a b (logical_and a b)
unfolding logical_and
and_is a b = combined Zero Positive a b

pub or_is : (a b : Sign) → Combined Positive Zero a b (logical_or a b)
unfolding logical_or
or_is a b = combined Positive Zero a b

-- the truth of every two truth values
pub and_covers : (a b : Sign) (p q : Bool) → truth p ∈ a → truth q ∈ b → truth (p && q) ∈ logical_and a b
unfolding logical_and
and_covers a b true true = kept logical_and (pos 1) (pos 1) (pos 1) tt a b
and_covers a b true false = kept logical_and (pos 1) (pos 0) (pos 0) tt a b
and_covers a b false true = kept logical_and (pos 0) (pos 1) (pos 0) tt a b
and_covers a b false false = kept logical_and (pos 0) (pos 0) (pos 0) tt a b

pub or-covers : (a b : Sign) (p q : Bool) → truth p ∈ a → truth q ∈ b → truth (p || q) ∈ logical_or a b
unfolding logical_or
or-covers a b true true = kept logical_or (pos 1) (pos 1) (pos 1) tt a b
or-covers a b true false = kept logical_or (pos 1) (pos 0) (pos 1) tt a b
or-covers a b false true = kept logical_or (pos 0) (pos 1) (pos 1) tt a b
or-covers a b false false = kept logical_or (pos 0) (pos 0) (pos 0) tt a b

pub eq_is : (a b : Sign) (is_bool : Bool) → Equated a b is_bool (logical_eq a b is_bool)
unfolding logical_eq
eq_is a b is_bool =
    branch (surely-test a b is_bool) (Equated a b is_bool) logical.Equated.sure
    (λ n. branch (tells-either (inside-test a b) (inside-test b a)) (Equated a b is_bool) (logical.Equated.maybe n) (logical.Equated.apart n))

-- not
is-no-refusal : {s : Sign} {n : ℕ} → is s ≡ refused n → ⊥
is-no-refusal e = let z : ◌≡◌ {A = ℕ} 0 1 = cc in omega arith

-- the ported one is refused by 4 on five signs, and on no more
pub ported-not-refuses : (s : Sign) → (ported.logical_not s ≡ refused 4) ↔ ((s ≢ NonNeg) × (s ≢ Positive) × (s ≢ Zero))
unfolding ported.logical_not
ported-not-refuses Top = (λ e. (differ Top NonNeg tt, differ Top Positive tt, differ Top Zero tt), λ e. refl)
ported-not-refuses Bottom = (λ e. (differ Bottom NonNeg tt, differ Bottom Positive tt, differ Bottom Zero tt), λ e. refl)
ported-not-refuses Negative = (λ e. (differ Negative NonNeg tt, differ Negative Positive tt, differ Negative Zero tt), λ e. refl)
ported-not-refuses NonZero = (λ e. (differ NonZero NonNeg tt, differ NonZero Positive tt, differ NonZero Zero tt), λ e. refl)
ported-not-refuses NonPos = (λ e. (differ NonPos NonNeg tt, differ NonPos Positive tt, differ NonPos Zero tt), λ e. refl)
ported-not-refuses NonNeg = (λ e. absurd (is-no-refusal e), λ e. absurd (e.0 refl))
ported-not-refuses Positive = (λ e. absurd (is-no-refusal e), λ e. absurd (e.1 refl))
ported-not-refuses Zero = (λ e. absurd (is-no-refusal e), λ e. absurd (e.2 refl))

pub ported-not-answers : (ported.logical_not Zero ≡ is Positive) × (ported.logical_not Positive ≡ is Zero) × (ported.logical_not NonNeg ≡ is NonNeg)
unfolding ported.logical_not
ported-not-answers = (refl, refl, refl)

-- the mended one: Bottom for Bottom, NonNeg for the other four, as ported elsewhere; right on 0 and on 1
pub mended-not-is : (s : Sign) → Turned s (ported.logical_not s) (mended.logical_not s)
unfolding ported.logical_not mended.logical_not
mended-not-is Top = logical.Turned.four (differ Top Bottom tt)
mended-not-is Bottom = logical.Turned.bottom refl
mended-not-is Negative = logical.Turned.four (differ Negative Bottom tt)
mended-not-is Zero = logical.Turned.as-ported
mended-not-is Positive = logical.Turned.as-ported
mended-not-is NonNeg = logical.Turned.as-ported
mended-not-is NonZero = logical.Turned.four (differ NonZero Bottom tt)
mended-not-is NonPos = logical.Turned.four (differ NonPos Bottom tt)

pub mended-not-right : (s : Sign) → (pos 0 ∈ s → pos 1 ∈ mended.logical_not s) × (pos 1 ∈ s → pos 0 ∈ mended.logical_not s)
unfolding mended.logical_not
mended-not-right s = (
  λ h. kept (λ a b. mended.logical_not a) (pos 0) (pos 0) (pos 1) tt s s h h,
  λ h. kept (λ a b. mended.logical_not a) (pos 1) (pos 1) (pos 0) tt s s h h,
)

-- what an answer says fixes it
pub said-fixes : (r s : Result Sign Refusal) → told r ≡ told s → r ≡ s
said-fixes (Ok s) (Ok t) e = cc
said-fixes (Ok s) (Err r) e = absurd (is-no-refusal e)
said-fixes (Err r) (Ok s) e = absurd (is-no-refusal (sym e))
said-fixes (Err r) (Err q) e = let k : number_of r ≡ number_of q = cc in ap Err (number-tells r q k)
