-- One test for a whole table: each of its 64 cells is what the rule says, which antt computes, and its law at every pair of signs.
-- Assumes nothing.
use mathlib.Core.Path.{◌≡◌, refl, sym, subst, ◌∙◌}
use mathlib.Core.Bool.{Bool, true, false, ◌&&◌, not}
use mathlib.Core.List.{List, [], ◌∷◌}
use mathlib.Core.Logic.{◌≢◌, ◌↔◌, inl, inr}
use Prim.Native.Nat.{ℕ, zero, suc, ◌<◌}
use native.Mathlib.Omega.{arith}
use native.Mathlib.Nat.{eq-or-lt_of_le}
use lib.Dec.{T, T_not, eqb, eqb→eq, eqb_refl, lit<}
use lib.ListN.{get_or}
use Rattle.std.specs.declared.cmp.Ordering.{Ordering}
use Rattle.std.specs.Prelude.{None, Option, Some}
use Rattle.std.specs.declared.cmp.Ordering.TheVariants.{Equal, Greater, Less}
use Rattle.sign.specs.declared.Sign.{Sign}
use Rattle.sign.specs.declared.Sign.TheVariants.{Top, Bottom, Negative, Zero, Positive, NonNeg, NonZero, NonPos}
use Rattle.sign.specs.Index.{index_of}

-- ---- a type whose values are told apart by a number
pub record Coded (A : Type 0) : Type 0 where
  pub code : A → ℕ
  pub back : ℕ → A
  pub again : (a : A) → back (code a) ≡ a

pub alike : {A : Type 0} (K : Coded A) (a b : A) → T (eqb (K.code a) (K.code b)) → a ≡ b
alike K a b t = let e = eqb→eq (K.code a) (K.code b) t in cc (K.again a, K.again b)

abbrev pub sign_at : ℕ → Sign
sign_at n = get_or (Top ∷ Bottom ∷ Negative ∷ Zero ∷ Positive ∷ NonNeg ∷ NonZero ∷ NonPos ∷ []) n Top

pub at-index : (s : Sign) → sign_at (index_of s) ≡ s
at-index Top = refl
at-index Bottom = refl
at-index Negative = refl
at-index Zero = refl
at-index Positive = refl
at-index NonNeg = refl
at-index NonZero = refl
at-index NonPos = refl

abbrev pub signs : Coded Sign
signs = record { code = index_of; back = sign_at; again = at-index }

pub differ : (s t : Sign) → T (not (eqb (index_of s) (index_of t))) → s ≢ t
differ s t u e = T_not (eqb (index_of s) (index_of t)) u (subst (λ (x : Sign). T (eqb (index_of s) (index_of x))) e (eqb_refl (index_of s)))

abbrev pub place_of : Option Ordering → ℕ
place_of (Some Less) = 0
place_of (Some Equal) = 1
place_of (Some Greater) = 2
place_of None = 3

abbrev pub order_at : ℕ → Option Ordering
order_at n = get_or ((Some Less) ∷ (Some Equal) ∷ (Some Greater) ∷ None ∷ []) n (Some Less)

pub at_place : (o : Option Ordering) → order_at (place_of o) ≡ o
at_place (Some Less) = refl
at_place (Some Equal) = refl
at_place (Some Greater) = refl
at_place None = refl

abbrev pub orders : Coded (Option Ordering)
orders = record { code = place_of; back = order_at; again = at_place }

abbrev pub bit_of : Bool → ℕ
bit_of false = 0
bit_of true = 1

abbrev pub bit_at : ℕ → Bool
bit_at n = get_or (false ∷ true ∷ []) n false

pub at-bit : (b : Bool) → bit_at (bit_of b) ≡ b
at-bit false = refl
at-bit true = refl

abbrev pub truths : Coded Bool
truths = record { code = bit_of; back = bit_at; again = at-bit }

-- ---- a test at each number below n
abbrev pub up_to : ℕ → (ℕ → Bool) → Bool
up_to zero f = true
up_to (suc n) f = f n && up_to n f

pub both_of : (a b : Bool) → T (a && b) → T a × T b
both_of true b t = (tt, t)
both_of false b t = absurd t

pub passes : (f : ℕ → Bool) (n k : ℕ) → k < n → T (up_to n f) → T (f k)
passes f zero k h t = absurd (omega arith)
passes f (suc n) k h t = elim (eq-or-lt_of_le {n = k} {m = n} (omega arith)) [
  | inl e ↦ rw e (both_of (f n) (up_to n f) t).0
  | inr l ↦ passes f n k l (both_of (f n) (up_to n f) t).1
]

pub below : (s : Sign) → index_of s < 8
below Top = lit< tt
below Bottom = lit< tt
below Negative = lit< tt
below Zero = lit< tt
below Positive = lit< tt
below NonNeg = lit< tt
below NonZero = lit< tt
below NonPos = lit< tt

-- a test at each pair of signs
abbrev pub each_pair : (Sign → Sign → Bool) → Bool
each_pair f = up_to 8 (λ i. up_to 8 (λ j. f (sign_at i) (sign_at j)))

pub pairs : (f : Sign → Sign → Bool) → T (each_pair f) → (a b : Sign) → T (f a b)
pairs f t a b =
    let h : T (f (sign_at (index_of a)) (sign_at (index_of b))) = passes (λ j. f (sign_at (index_of a)) (sign_at j)) 8 (index_of b) (below b) (passes (λ i. up_to 8 (λ j. f (sign_at i) (sign_at j))) 8 (index_of a) (below a) t) in
    rw (at-index a, at-index b) at h

is-so : (b : Bool) → T b → b ≡ true
is-so true t = refl
is-so false t = absurd t

so : (b : Bool) → b ≡ true → T b
so b e = subst T (sym e) tt

pub told_same : (s t : Sign) → (s ≡ t) ↔ (eqb (index_of s) (index_of t) ≡ true)
told_same s t = (
  λ e. is-so (eqb (index_of s) (index_of t)) (subst (λ (x : Sign). T (eqb (index_of s) (index_of x))) e (eqb_refl (index_of s))),
  λ h. alike signs s t (so (eqb (index_of s) (index_of t)) h),
)

-- two tests, or two rules, that answer alike at each pair
pub tests : (f g : Sign → Sign → Bool) → T (each_pair (λ a b. eqb (bit_of (f a b)) (bit_of (g a b)))) → (a b : Sign) → f a b ≡ g a b
tests f g t a b = alike truths (f a b) (g a b) (pairs (λ a b. eqb (bit_of (f a b)) (bit_of (g a b))) t a b)

pub rules : {A : Type 0} (K : Coded A) (f g : Sign → Sign → A) → T (each_pair (λ a b. eqb (K.code (f a b)) (K.code (g a b)))) → (a b : Sign) → f a b ≡ g a b
rules K f g t a b = alike K (f a b) (g a b) (pairs (λ a b. eqb (K.code (f a b)) (K.code (g a b))) t a b)

-- a rule answers s just where a test passes
pub exactly : (f : Sign → Sign → Sign) (s : Sign) (g : Sign → Sign → Bool) → T (each_pair (λ a b. eqb (bit_of (eqb (index_of (f a b)) (index_of s))) (bit_of (g a b)))) → (a b : Sign) → (f a b ≡ s) ↔ (g a b ≡ true)
exactly f s g t a b =
    let e = tests (λ a b. eqb (index_of (f a b)) (index_of s)) g t a b in
    let u = told_same (f a b) s in
    (λ h. sym e ∙ u.0 h, λ h. u.1 (e ∙ h))

-- ---- the table's test, and its law
module _ {A : Type 0} (K : Coded A) (table : List (List A)) (default : A) (rule : Sign → Sign → A) where
  abbrev pub cell : ℕ → ℕ → A
  cell i j = get_or (get_or table i []) j default

  abbrev pub right : Bool
  right = each_pair (λ a b. eqb (K.code (cell (index_of a) (index_of b))) (K.code (rule a b)))

  pub reads : T right → (i j : ℕ) (a b : Sign) → i ≡ index_of a → j ≡ index_of b → cell i j ≡ rule a b
  reads t i j a b p q = rw (p, q) (rules K (λ a b. cell (index_of a) (index_of b)) rule t a b)
