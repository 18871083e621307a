-- The bridge from ℤ to `omega`. A number is read by its parts, z = up z − dn z, which are atoms of ℕ.
--   omega (lin, sum (x +ℤ y) z)   `lin` (Shapes.antt) turns hypotheses and goals, `ints` those with no compound term; a fact for each deeper term
--   rw (read x, read y) (simp wholes (omega arith))   a lemma over x and y, hypotheses unbound: its terms, products too, come to ⊖
use mathlib.Core.Path.{◌≡◌, refl, ap}
use mathlib.Core.Logic.{◌≢◌, ◌↔◌, ◌⊎◌, inl, inr}
use mathlib.Core.Bool.{Bool, true, false, not, cond}
use Prim.Native.Nat.{ℕ, zero, suc, ◌+◌, ◌-◌, ◌*◌, ◌≤◌, ◌<◌, min, max}
use native.Mathlib.Omega.{arith}
use lib.Dec.{T, ltb, leb→le, le→leb, ltb→lt, lt→ltb, nltb→le, T_not}
use lib.IntN.{ℤ, pos, negsuc, suc_ℤ, pred_ℤ, neg_ℤ, nat_abs, sub_ℕ, ◌+ℤ◌, ◌-ℤ◌, ◌*ℤ◌}
use lib.Signed.{◌≤ℤ◌, ◌<ℤ◌, le_z, lt_z, le_z_yes}
use Rattle.whole.specs.Choice.{pick}
use Rattle.whole.specs.Test.{◌≤?◌}
use Rattle.whole.specs.Whole.{up, dn, ◌⊖◌, min_ℤ, max_ℤ}

-- ---- a statement of ℤ, and what it says of the parts: the rules that turn hypotheses (`from-`) and goals (`to-`)

le_up : (a b : ℤ) → T (le_z a b) → up a + dn b ≤ up b + dn a
le_up (pos a) (pos b) t = omega (arith, leb→le)
le_up (pos a) (negsuc b) t = absurd t
le_up (negsuc a) (pos b) t = omega arith
le_up (negsuc a) (negsuc b) t = omega (arith, leb→le)

up_le : (a b : ℤ) → up a + dn b ≤ up b + dn a → T (le_z a b)
up_le (pos a) (pos b) h = omega (arith, le→leb)
up_le (pos a) (negsuc b) h = omega arith
up_le (negsuc a) (pos b) h = tt
up_le (negsuc a) (negsuc b) h = omega (arith, le→leb)

lt_up : (a b : ℤ) → T (lt_z a b) → up a + dn b < up b + dn a
lt_up (pos a) (pos b) t = omega (arith, ltb→lt)
lt_up (pos a) (negsuc b) t = absurd t
lt_up (negsuc a) (pos b) t = omega arith
lt_up (negsuc a) (negsuc b) t = omega (arith, ltb→lt)

up_lt : (a b : ℤ) → up a + dn b < up b + dn a → T (lt_z a b)
up_lt (pos a) (pos b) h = omega (arith, lt→ltb)
up_lt (pos a) (negsuc b) h = omega arith
up_lt (negsuc a) (pos b) h = tt
up_lt (negsuc a) (negsuc b) h = omega (arith, lt→ltb)

pub from-≤ : (a b : ℤ) → a ≤ℤ b → up a + dn b ≤ up b + dn a
from-≤ a b h = le_up a b h.le

pub to-≤ : (a b : ℤ) → up a + dn b ≤ up b + dn a → a ≤ℤ b
to-≤ a b h = record { le = up_le a b h }

pub from-< : (a b : ℤ) → a <ℤ b → up a + dn b < up b + dn a
from-< a b h = lt_up a b h.lt

pub to-< : (a b : ℤ) → up a + dn b < up b + dn a → a <ℤ b
to-< a b h = record { lt = up_lt a b h }

pub from-≡ : (a b : ℤ) → a ≡ b → up a + dn b ≡ up b + dn a
from-≡ a b e = rw e

pub to-≡ : (a b : ℤ) → up a + dn b ≡ up b + dn a → a ≡ b
to-≡ (pos a) (pos b) h = ap pos (omega arith)
to-≡ (pos a) (negsuc b) h = absurd (omega arith)
to-≡ (negsuc a) (pos b) h = absurd (omega arith)
to-≡ (negsuc a) (negsuc b) h = ap negsuc (omega arith)

-- (`omega` enters a goal that is a negation. A hypothesis that is one is no rule's argument, so it is listed: `omega (ints, from-≰ h)`)
pub from-≢ : {a b : ℤ} → a ≢ b → up a + dn b ≢ up b + dn a
from-≢ {a} {b} f e = f (to-≡ a b e)

pub from-≰ : {a b : ℤ} → ¬ (a ≤ℤ b) → up b + dn a < up a + dn b
from-≰ {a} {b} f = let g : ¬ (up a + dn b ≤ up b + dn a) = λ h. f (to-≤ a b h) in omega arith

pub from-≮ : {a b : ℤ} → ¬ (a <ℤ b) → up b + dn a ≤ up a + dn b
from-≮ {a} {b} f = let g : ¬ (up a + dn b < up b + dn a) = λ h. f (to-< a b h) in omega arith

pub ruleset ints = (arith, from-≤, to-≤, from-<, to-<, from-≡, to-≡)

-- ---- a compound term, by the parts of its own terms: one such fact in `omega`'s list for each compound term of the statement

cond_ind : (c : Bool) (x y : ℤ) (P : ℤ → Type 0) → (T c → P x) → (T (not c) → P y) → P (cond c x y)
cond_ind true x y P f g = f tt
cond_ind false x y P f g = g tt

pub diff : (a b : ℕ) → up (a ⊖ b) + b ≡ dn (a ⊖ b) + a
unfolding ◌⊖◌
diff a b = cond_ind (ltb a b) (negsuc (b - suc a)) (pos (a - b)) (λ z. up z + b ≡ dn z + a) (λ t. omega (arith, ltb→lt)) (λ t. omega (arith, nltb→le))

diff-sub : (a b : ℕ) → up (sub_ℕ a b) + b ≡ dn (sub_ℕ a b) + a
unfolding ◌⊖◌
diff-sub a b = diff a b

pub neg : (a : ℤ) → (up (neg_ℤ a) ≡ dn a) × (dn (neg_ℤ a) ≡ up a)
neg (pos zero) = omega arith
neg (pos (suc k)) = omega arith
neg (negsuc k) = omega arith

pub sum : (a b : ℤ) → up (a +ℤ b) + (dn a + dn b) ≡ dn (a +ℤ b) + (up a + up b)
sum (pos a) (pos b) = omega arith
sum (pos a) (negsuc b) = omega (arith, diff-sub a (suc b))
sum (negsuc a) (pos b) = omega (arith, diff-sub b (suc a))
sum (negsuc a) (negsuc b) = omega arith

pub sub : (a b : ℤ) → up (a -ℤ b) + (dn a + up b) ≡ dn (a -ℤ b) + (up a + dn b)
sub a b = omega (arith, sum a (neg_ℤ b), neg b)

pub next : (a : ℤ) → up (suc_ℤ a) + dn a ≡ suc (dn (suc_ℤ a) + up a)
next (pos a) = omega arith
next (negsuc zero) = omega arith
next (negsuc (suc a)) = omega arith

pub prev : (a : ℤ) → suc (up (pred_ℤ a) + dn a) ≡ dn (pred_ℤ a) + up a
prev (pos zero) = omega arith
prev (pos (suc a)) = omega arith
prev (negsuc a) = omega arith

pub abs : (a : ℤ) → nat_abs a ≡ (up a - dn a) + (dn a - up a)
abs (pos a) = omega arith
abs (negsuc a) = omega arith

pub prod : (a b : ℤ) → up (a *ℤ b) + (up a * dn b + dn a * up b) ≡ dn (a *ℤ b) + (up a * up b + dn a * dn b)
prod (pos a) (pos b) = omega arith
prod (pos a) (negsuc b) = omega (arith, neg (pos (a * suc b)))
prod (negsuc a) (pos b) = omega (arith, neg (pos (suc a * b)))
prod (negsuc a) (negsuc b) = omega arith

-- ---- the tests, as conditions leave them
pub le_z-no : {a b : ℤ} → T (not (le_z a b)) → b <ℤ a
le_z-no {a} {b} t = to-< b a (from-≰ {a = a} {b = b} λ h. T_not (le_z a b) t h.le)

pub split : (a b : ℤ) → (a ≤ℤ b) ⊎ (b <ℤ a)
split a b = go (le_z a b) (λ t. le_z_yes t) (λ t. le_z-no t)
  where
    go : (c : Bool) → (T c → a ≤ℤ b) → (T (not c) → b <ℤ a) → (a ≤ℤ b) ⊎ (b <ℤ a)
    go true f g = inl (f tt)
    go false f g = inr (g tt)

min-max : (a b : ℤ) → ((a ≤ℤ b) × ((min_ℤ a b ≡ a) × (max_ℤ a b ≡ b))) ⊎ ((b <ℤ a) × ((min_ℤ a b ≡ b) × (max_ℤ a b ≡ a)))
unfolding min_ℤ max_ℤ ◌≤?◌
min-max a b = go (le_z a b) (λ t. le_z_yes t) (λ t. le_z-no t)
  where
    go : (c : Bool) → (T c → a ≤ℤ b) → (T (not c) → b <ℤ a) → ((a ≤ℤ b) × ((pick c a b ≡ a) × (pick c b a ≡ b))) ⊎ ((b <ℤ a) × ((pick c a b ≡ b) × (pick c b a ≡ a)))
    go true f g = inl (f tt, (refl, refl))
    go false f g = inr (g tt, (refl, refl))

-- the least and the greatest of two, as two cases that `omega` splits: `min` and `max` are those of ℕ
pub least : (a b : ℤ) → up (min_ℤ a b) + (dn a + dn b) ≡ dn (min_ℤ a b) + min (up a + dn b) (up b + dn a)
least a b = elim (min-max a b) [ inl h ↦ omega ints | inr h ↦ omega ints ]

pub greatest : (a b : ℤ) → up (max_ℤ a b) + (dn a + dn b) ≡ dn (max_ℤ a b) + max (up a + dn b) (up b + dn a)
greatest a b = elim (min-max a b) [ inl h ↦ omega ints | inr h ↦ omega ints ]

-- ---- the normal form of `simp`: each term a difference of natural numbers, each statement one between natural numbers

pub read : (z : ℤ) → z ≡ (up z ⊖ dn z)
read z = omega (ints, diff (up z) (dn z))

module _ (a b c d : ℕ) where
  pub ⊖-≤ : ((a ⊖ b) ≤ℤ (c ⊖ d)) ↔ (a + d ≤ c + b)
  ⊖-≤ = (λ h. omega (ints, diff a b, diff c d), λ h. omega (ints, diff a b, diff c d))

  pub ⊖-< : ((a ⊖ b) <ℤ (c ⊖ d)) ↔ (a + d < c + b)
  ⊖-< = (λ h. omega (ints, diff a b, diff c d), λ h. omega (ints, diff a b, diff c d))

  pub ⊖-≡ : ((a ⊖ b) ≡ (c ⊖ d)) ↔ (a + d ≡ c + b)
  ⊖-≡ = (λ h. omega (ints, diff a b, diff c d), λ h. omega (ints, diff a b, diff c d))

  pub ⊖-+ : (a ⊖ b) +ℤ (c ⊖ d) ≡ ((a + c) ⊖ (b + d))
  ⊖-+ = omega (ints, diff a b, diff c d, diff (a + c) (b + d), sum (a ⊖ b) (c ⊖ d))

  pub ⊖-* : (a ⊖ b) *ℤ (c ⊖ d) ≡ ((a * c + b * d) ⊖ (a * d + b * c))
  ⊖-* = omega (
    ints,
    diff (a * c + b * d) (a * d + b * c),
    prod (a ⊖ b) (c ⊖ d),
    ap (λ t. t * up (c ⊖ d)) (diff a b),
    ap (λ t. t * dn (c ⊖ d)) (diff a b),
    ap (λ t. a * t) (diff c d),
    ap (λ t. b * t) (diff c d),
  )

  pub ⊖-min : min_ℤ (a ⊖ b) (c ⊖ d) ≡ (min (a + d) (c + b) ⊖ (b + d))
  ⊖-min = omega (ints, diff a b, diff c d, diff (min (a + d) (c + b)) (b + d), least (a ⊖ b) (c ⊖ d))

  pub ⊖-max : max_ℤ (a ⊖ b) (c ⊖ d) ≡ (max (a + d) (c + b) ⊖ (b + d))
  ⊖-max = omega (ints, diff a b, diff c d, diff (max (a + d) (c + b)) (b + d), greatest (a ⊖ b) (c ⊖ d))

module _ (a b : ℕ) where
  pub ⊖-neg : neg_ℤ (a ⊖ b) ≡ (b ⊖ a)
  ⊖-neg = omega (ints, diff a b, diff b a, neg (a ⊖ b))

  pub ⊖-suc : suc_ℤ (a ⊖ b) ≡ (suc a ⊖ b)
  ⊖-suc = omega (ints, diff a b, diff (suc a) b, next (a ⊖ b))

  pub ⊖-pred : pred_ℤ (a ⊖ b) ≡ (a ⊖ suc b)
  ⊖-pred = omega (ints, diff a b, diff a (suc b), prev (a ⊖ b))

pub ⊖-pos : (k : ℕ) → pos k ≡ (k ⊖ 0)
⊖-pos k = omega (ints, diff k 0)

pub ⊖-negsuc : (k : ℕ) → negsuc k ≡ (0 ⊖ suc k)
⊖-negsuc k = omega (ints, diff 0 (suc k))

pub ruleset wholes = (⊖-≤, ⊖-<, ⊖-≡, ⊖-+, ⊖-*, ⊖-min, ⊖-max, ⊖-neg, ⊖-suc, ⊖-pred, ⊖-pos, ⊖-negsuc)
