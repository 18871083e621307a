-- Signs by their sides: what a sign put together from sides has, and that a number of the right side can be found.
-- Assumes nothing.
use mathlib.Core.Path.{◌≡◌, refl, sym, subst, ◌∙◌}
use mathlib.Core.Logic.{◌⊎◌, inl, inr}
use mathlib.Core.Bool.{Bool, true, false, ◌&&◌, ◌||◌, not}
use Prim.Native.Nat.{ℕ, zero, suc, ◌*◌, ◌<◌}
use native.Mathlib.Omega.{arith}
use native.Mathlib.Nat.{mul-pos, zero-mul, mul-zero}
use lib.IntN.{ℤ, pos, negsuc, neg_ℤ, ◌+ℤ◌, ◌*ℤ◌}
use lib.Signed.{◌<ℤ◌}
use Rattle.whole.specs.Choice.{pick}
use Rattle.whole.proofs.Decides.{Decides, holds, fails}
use Rattle.whole.proofs.Flags.{or_yes}
use Rattle.whole.proofs.Linear.{ints, sum as sum-parts, neg as neg-parts}
use Rattle.sign.specs.declared.Sign.{Sign}
use Rattle.sign.specs.Set.{Side, negative, nought, positive, side_of, ◌has◌, ◌∈◌}
use Rattle.sign.specs.Sides.{sign_of, those, some, each, filled, ◌inside◌, with_nought, opposite, sum, product, reached}
use Rattle.sign.specs.Ported.{of_side, join}
use Rattle.sign.specs.Numbers.{◌⊑◌, Least}

-- ---- truth values

pub was : {A : Type 0} {b : Bool} → b ≡ true → b ≡ false → A
was h k = let z : ◌≡◌ {A = ℕ} 0 1 = cc in absurd (omega arith)

pub decide : {A : Type 0} (t : Bool) → (t ≡ true → A) → (A → t ≡ true) → Decides A (A → ⊥) t
decide true f g = holds (f refl)
decide false f g = fails (λ a. was (g a) refl)

pub unpicked : {A : Type 0} (t : Bool) (x u v : A) → t ≡ false → pick t x u ≡ pick t x v → u ≡ v
unpicked true x u v h e = was refl h
unpicked false x u v h e = e

pub and_both : (a b : Bool) → (a && b) ≡ true → (a ≡ true) × (b ≡ true)
and_both true b h = (refl, h)
and_both false b h = was h refl

pub and-of : {a b : Bool} → a ≡ true → b ≡ true → (a && b) ≡ true
and-of h k = rw (h, k) refl

-- ---- a sign by its sides

-- the sides' three answers
abbrev at : Side → Bool → Bool → Bool → Bool
at negative n z p = n
at nought n z p = z
at positive n z p = p

sign-has : (n z p : Bool) (d : Side) → (sign_of n z p has d) ≡ at d n z p
sign-has true true true negative = refl
sign-has true true true nought = refl
sign-has true true true positive = refl
sign-has true true false negative = refl
sign-has true true false nought = refl
sign-has true true false positive = refl
sign-has true false true negative = refl
sign-has true false true nought = refl
sign-has true false true positive = refl
sign-has true false false negative = refl
sign-has true false false nought = refl
sign-has true false false positive = refl
sign-has false true true negative = refl
sign-has false true true nought = refl
sign-has false true true positive = refl
sign-has false true false negative = refl
sign-has false true false nought = refl
sign-has false true false positive = refl
sign-has false false true negative = refl
sign-has false false true nought = refl
sign-has false false true positive = refl
sign-has false false false negative = refl
sign-has false false false nought = refl
sign-has false false false positive = refl

at-those : (f : Side → Bool) (d : Side) → at d (f negative) (f nought) (f positive) ≡ f d
at-those f negative = refl
at-those f nought = refl
at-those f positive = refl

pub those-has : (f : Side → Bool) (d : Side) → (those f has d) ≡ f d
those-has f d = sign-has (f negative) (f nought) (f positive) d ∙ at-those f d

-- ---- some side passes, each side does

pub record Found (f : Side → Bool) : Type 0 where
  pub side : Side
  pub passes : f side ≡ true

pub or_elim : (a b : Bool) → (a || b) ≡ true → (a ≡ true) ⊎ (b ≡ true)
or_elim true b h = inl refl
or_elim false b h = inr h

pub or_right : (a b : Bool) → b ≡ true → (a || b) ≡ true
or_right true b h = refl
or_right false b h = h

pub some-found : (f : Side → Bool) → some f ≡ true → Found f
some-found f h = elim (or_elim (f negative) (f nought || f positive) h) [
  | inl k ↦ record { side = negative; passes = k }
  | inr l ↦ elim (or_elim (f nought) (f positive) l) [
    | inl k ↦ record { side = nought; passes = k }
    | inr k ↦ record { side = positive; passes = k }
  ]
]

pub some_of : (f : Side → Bool) (d : Side) → f d ≡ true → some f ≡ true
some_of f negative h = or_yes (f negative) (f nought || f positive) h
some_of f nought h = or_right (f negative) (f nought || f positive) (or_yes (f nought) (f positive) h)
some_of f positive h = or_right (f negative) (f nought || f positive) (or_right (f nought) (f positive) h)

pub each_at : (f : Side → Bool) → each f ≡ true → (d : Side) → f d ≡ true
each_at f h negative = (and_both (f negative) (f nought && f positive) h).0
each_at f h nought = (and_both (f nought) (f positive) (and_both (f negative) (f nought && f positive) h).1).0
each_at f h positive = (and_both (f nought) (f positive) (and_both (f negative) (f nought && f positive) h).1).1

pub each_of : (f : Side → Bool) → ((d : Side) → f d ≡ true) → each f ≡ true
each_of f h = and-of (h negative) (and-of (h nought) (h positive))

-- ---- numbers and sides

-- a number on the side p, the farther one on the side d
abbrev pub far : Side → Side → ℤ
far negative negative = negsuc 1
far nought negative = negsuc 0
far positive negative = negsuc 0
far d nought = pos 0
far negative positive = pos 1
far nought positive = pos 1
far positive positive = pos 2

pub far-side : (d p : Side) → side_of (far d p) ≡ p
far-side negative negative = refl
far-side nought negative = refl
far-side positive negative = refl
far-side d nought = refl
far-side negative positive = refl
far-side nought positive = refl
far-side positive positive = refl

pub far-in : (s : Sign) (d p : Side) → (s has p) ≡ true → far d p ∈ s
far-in s d p h = record { is = rw (far-side d p) h }

-- a number on the same side
pub moved : {s : Sign} {x y : ℤ} → side_of x ≡ side_of y → x ∈ s → y ∈ s
moved {s} {x} {y} e h = record { is = subst (λ (d : Side). (s has d) ≡ true) e h.is }

pub side-below : (z : ℤ) → z <ℤ pos 0 → side_of z ≡ negative
side-below (negsuc k) h = refl
side-below (pos k) h = absurd (omega ints)

pub side-at : (z : ℤ) → z ≡ pos 0 → side_of z ≡ nought
side-at z e = rw e refl

pub side-above : (z : ℤ) → pos 0 <ℤ z → side_of z ≡ positive
side-above (negsuc k) h = absurd (omega ints)
side-above (pos zero) h = absurd (omega ints)
side-above (pos (suc k)) h = refl

-- the sign of one side
pub side-only : (p q : Side) → (of_side p has q) ≡ true → q ≡ p
side-only negative negative h = refl
side-only negative nought h = was h refl
side-only negative positive h = was h refl
side-only nought negative h = was h refl
side-only nought nought h = refl
side-only nought positive h = was h refl
side-only positive negative h = was h refl
side-only positive nought h = was h refl
side-only positive positive h = refl

pub side-itself : (p : Side) → (of_side p has p) ≡ true
side-itself negative = refl
side-itself nought = refl
side-itself positive = refl

-- ---- one sign inside another

pub in-or-out : (a b : Bool) → (not a || b) ≡ true → a ≡ true → b ≡ true
in-or-out true b h k = h
in-or-out false b h k = was k refl

out-or-in : (a b : Bool) → (a ≡ true → b ≡ true) → (not a || b) ≡ true
out-or-in true b h = h refl
out-or-in false b h = refl

pub inside-at : (s t : Sign) → (s inside t) ≡ true → (d : Side) → (s has d) ≡ true → (t has d) ≡ true
inside-at s t h d k = in-or-out (s has d) (t has d) (each_at (λ d. not (s has d) || (t has d)) h d) k

pub inside_of : (s t : Sign) → ((d : Side) → (s has d) ≡ true → (t has d) ≡ true) → (s inside t) ≡ true
inside_of s t h = each_of (λ d. not (s has d) || (t has d)) (λ d. out-or-in (s has d) (t has d) (h d))

pub from-inside : (s t : Sign) → (s inside t) ≡ true → s ⊑ t
from-inside s t h = record { each = λ x k. record { is = inside-at s t h (side_of x) k.is } }

pub to_inside : (s t : Sign) → s ⊑ t → (s inside t) ≡ true
to_inside s t h = inside_of s t (λ d k. subst (λ (e : Side). (t has e) ≡ true) (far-side d d) (h.each (far d d) (far-in s d d k)).is)

pub inside-test : (s t : Sign) → Decides (s ⊑ t) (s ⊑ t → ⊥) (s inside t)
inside-test s t = decide (s inside t) (from-inside s t) (to_inside s t)

pub join-has : (a b : Sign) (d : Side) → (join a b has d) ≡ ((a has d) || (b has d))
unfolding join
join-has a b = those-has (λ d. (a has d) || (b has d))

-- ---- a sign that has a number is filled

pub filled-by : (s : Sign) (x : ℤ) → x ∈ s → filled s ≡ true
filled-by s x h = some_of (λ d. s has d) (side_of x) h.is

-- ---- its own sides and 0

pub with-nought : (s : Sign) → ((with_nought s has negative) ≡ (s has negative)) × ((with_nought s has nought) ≡ filled s) × ((with_nought s has positive) ≡ (s has positive))
with-nought s = (made negative, made nought, made positive)
  where
    made : (d : Side) → (with_nought s has d) ≡ at d (s has negative) (filled s) (s has positive)
    made = sign-has (s has negative) (filled s) (s has positive)

pub own-side : (s : Sign) (d : Side) → (s has d) ≡ true → (with_nought s has d) ≡ true
own-side s negative h = (with-nought s).0 ∙ h
own-side s nought h = (with-nought s).1 ∙ some_of (λ d. s has d) nought h
own-side s positive h = (with-nought s).2 ∙ h

pub nought-side : (s : Sign) (d : Side) → (s has d) ≡ true → (with_nought s has nought) ≡ true
nought-side s d h = (with-nought s).1 ∙ some_of (λ d. s has d) d h

-- ---- the sides that an operation reaches

-- the numbers that reach a side
pub record Reach (f : ℤ → ℤ → ℤ) (a b : Sign) (d : Side) : Type 0 where
  pub left : ℤ
  pub right : ℤ
  pub in_left : left ∈ a
  pub in_right : right ∈ b
  pub there : side_of (f left right) ≡ d

abbrev way : (Side → Side → Sign) → Sign → Sign → Side → Side → Side → Bool
way f a b d p q = (a has p) && ((b has q) && (f p q has d))

abbrev ways : (Side → Side → Sign) → Sign → Sign → Side → Bool
ways f a b d = some (λ p. some (way f a b d p))

module _ (f : Side → Side → Sign) (a b : Sign) where
  -- sides p and q, and what they reach
  pub reached-by : (p q d : Side) → (a has p) ≡ true → (b has q) ≡ true → (f p q has d) ≡ true → (reached f a b has d) ≡ true
  reached-by p q d h k l =
      those-has (ways f a b) d ∙ some_of (λ p. some (way f a b d p)) p (some_of (way f a b d p) q (and-of h (and-of k l)))

  pub record From (d : Side) : Type 0 where
    pub p : Side
    pub q : Side
    pub has_p : (a has p) ≡ true
    pub has-q : (b has q) ≡ true
    pub hits : (f p q has d) ≡ true

  pub reached-from : (d : Side) → (reached f a b has d) ≡ true → From d
  reached-from d h =
      let u = some-found (λ p. some (way f a b d p)) (sym (those-has (ways f a b) d) ∙ h) in
      let v = some-found (way f a b d u.side) u.passes in
      let e = and_both (a has u.side) ((b has v.side) && (f u.side v.side has d)) v.passes in
      let g = and_both (b has v.side) (f u.side v.side has d) e.1 in
      record { p = u.side; q = v.side; has_p = e.0; has-q = g.0; hits = g.1 }

-- an operation on numbers that the table of sides tells
pub record Told (op : ℤ → ℤ → ℤ) (f : Side → Side → Sign) : Type 0 where
  pub lies : (x y : ℤ) → (f (side_of x) (side_of y) has side_of (op x y)) ≡ true
  pub met : (p q d : Side) → (f p q has d) ≡ true → side_of (op (far d p) (far d q)) ≡ d

module _ {op : ℤ → ℤ → ℤ} {f : Side → Side → Sign} (t : Told op f) (a b : Sign) where
  pub told_covers : (x y : ℤ) → x ∈ a → y ∈ b → op x y ∈ reached f a b
  told_covers x y h k = record { is = reached-by f a b (side_of x) (side_of y) (side_of (op x y)) h.is k.is (t.lies x y) }

  pub told-reach : (d : Side) → (reached f a b has d) ≡ true → Reach op a b d
  told-reach d h =
      let w = reached-from f a b d h in
      record {
        left = far d w.p;
        right = far d w.q;
        in_left = far-in a d w.p w.has_p;
        in_right = far-in b d w.q w.has-q;
        there = t.met w.p w.q d w.hits;
      }

-- what is covered, with a pair for each side, is least
pub least_by : (op : ℤ → ℤ → ℤ) (a b s : Sign) → ((x y : ℤ) → x ∈ a → y ∈ b → op x y ∈ s) → ((d : Side) → (s has d) ≡ true → Reach op a b d) → Least op a b s
least_by op a b s c r = record {
  covers = c;
  least = λ t h. record {
    each = λ x k. let w = r (side_of x) k.is in moved w.there (h w.left w.right w.in_left w.in_right);
  };
}

-- ---- sums

lies-sum : (x y : ℤ) → (sum (side_of x) (side_of y) has side_of (x +ℤ y)) ≡ true
lies-sum (negsuc a) (negsuc b) = refl
lies-sum (negsuc a) (pos zero) = rw (side-below (negsuc a +ℤ pos zero) (omega (ints, sum-parts (negsuc a) (pos zero)))) refl
lies-sum (negsuc a) (pos (suc b)) = refl
lies-sum (pos zero) (negsuc b) = rw (side-below (pos zero +ℤ negsuc b) (omega (ints, sum-parts (pos zero) (negsuc b)))) refl
lies-sum (pos zero) (pos zero) = refl
lies-sum (pos zero) (pos (suc b)) = rw (side-above (pos zero +ℤ pos (suc b)) (omega (ints, sum-parts (pos zero) (pos (suc b))))) refl
lies-sum (pos (suc a)) (negsuc b) = refl
lies-sum (pos (suc a)) (pos zero) = rw (side-above (pos (suc a) +ℤ pos zero) (omega (ints, sum-parts (pos (suc a)) (pos zero)))) refl
lies-sum (pos (suc a)) (pos (suc b)) = rw (side-above (pos (suc a) +ℤ pos (suc b)) (omega (ints, sum-parts (pos (suc a)) (pos (suc b))))) refl

-- ---- products

above-pos : (n : ℕ) → 0 < n → side_of (pos n) ≡ positive
above-pos n h = side-above (pos n) (omega ints)

below-neg : (n : ℕ) → 0 < n → side_of (neg_ℤ (pos n)) ≡ negative
below-neg n h = side-below (neg_ℤ (pos n)) (omega (ints, neg-parts (pos n)))

lies-product : (x y : ℤ) → (product (side_of x) (side_of y) has side_of (x *ℤ y)) ≡ true
lies-product (negsuc a) (negsuc b) = rw (above-pos (suc a * suc b) (mul-pos {m = suc a} {n = suc b} (omega arith) (omega arith))) refl
lies-product (negsuc a) (pos zero) = rw (side-at (negsuc a *ℤ pos zero) (rw (mul-zero (suc a)) refl)) refl
lies-product (negsuc a) (pos (suc b)) = rw (below-neg (suc a * suc b) (mul-pos {m = suc a} {n = suc b} (omega arith) (omega arith))) refl
lies-product (pos zero) (negsuc b) = rw (side-at (pos zero *ℤ negsuc b) (rw (zero-mul (suc b)) refl)) refl
lies-product (pos zero) (pos zero) = refl
lies-product (pos zero) (pos (suc b)) = rw (side-at (pos zero *ℤ pos (suc b)) (rw (zero-mul (suc b)) refl)) refl
lies-product (pos (suc a)) (negsuc b) = rw (below-neg (suc a * suc b) (mul-pos {m = suc a} {n = suc b} (omega arith) (omega arith))) refl
lies-product (pos (suc a)) (pos zero) = rw (side-at (pos (suc a) *ℤ pos zero) (rw (mul-zero (suc a)) refl)) refl
lies-product (pos (suc a)) (pos (suc b)) = rw (above-pos (suc a * suc b) (mul-pos {m = suc a} {n = suc b} (omega arith) (omega arith))) refl

-- ---- a pair for each side is one test of the 27 triples of sides

abbrev meets : (ℤ → ℤ → ℤ) → (Side → Side → Sign) → Side → Side → Side → Bool
meets op f p q d = not (f p q has d) || (of_side d has side_of (op (far d p) (far d q)))

met_by : (op : ℤ → ℤ → ℤ) (f : Side → Side → Sign) → each (λ p. each (λ q. each (meets op f p q))) ≡ true →
    (p q d : Side) → (f p q has d) ≡ true → side_of (op (far d p) (far d q)) ≡ d
met_by op f t p q d h =
    side-only d (side_of (op (far d p) (far d q)))
    (in-or-out (f p q has d) (of_side d has side_of (op (far d p) (far d q)))
    (each_at (meets op f p q) (each_at (λ q. each (meets op f p q)) (each_at (λ p. each (λ q. each (meets op f p q))) t p) q) d) h)

pub sums : Told ◌+ℤ◌ sum
sums = record { lies = lies-sum; met = met_by ◌+ℤ◌ sum refl }

pub products : Told ◌*ℤ◌ product
products = record { lies = lies-product; met = met_by ◌*ℤ◌ product refl }

-- ---- negation

pub side-neg : (x : ℤ) → side_of (neg_ℤ x) ≡ opposite (side_of x)
side-neg (negsuc k) = refl
side-neg (pos zero) = refl
side-neg (pos (suc k)) = refl
