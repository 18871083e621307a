-- The sign of the differences x - y is exact, and so says how every two numbers compare: the tests of the definitions, reflected.
-- Assumes nothing.
use mathlib.Core.Path.{◌≡◌, refl, sym, ap, ◌∙◌}
use mathlib.Core.Logic.{◌↔◌}
use mathlib.Core.Bool.{Bool, true, false, ◌&&◌}
use lib.IntN.{ℤ, neg_ℤ, ◌+ℤ◌, ◌-ℤ◌, neg_ℤ-neg_ℤ}
use Rattle.whole.specs.Whole.{◌≼◌, ◌≺◌}
use Rattle.whole.proofs.Decides.{Decides, holds, fails, weaken, branch}
use Rattle.whole.proofs.Linear.{ints, sub as sub_parts}
use Rattle.sign.specs.declared.Sign.{Sign}
use Rattle.sign.specs.declared.Sign.TheVariants.{Negative, Zero, Positive, NonNeg, NonPos}
use Rattle.sign.specs.Set.{Side, negative, nought, positive, side_of, ◌has◌, ◌∈◌}
use Rattle.sign.specs.Sides.{filled, ◌inside◌, opposite}
use Rattle.sign.specs.Compared.{strictly, weakly}
use Rattle.sign.specs.Ported.{meet, add, neg, sub}
use Rattle.sign.specs.Mended.{judged}
use Rattle.sign.specs.Numbers.{Every, ◌≻◌, ◌≽◌, Not, Strict, Weak, Judged}
use Rattle.sign.specs.Numbers as numbers
use Rattle.sign.specs.Wrong.{Shared}
use Rattle.sign.proofs.ClaimsSet.{stands-for}
use Rattle.sign.proofs.Laws.{was, decide, and_both, and-of, those-has, some-found, far, far-in, from-inside, to_inside, filled-by, Reach, told_covers, told-reach, least_by, sums, side-neg}

-- ---- sums, negation, differences

pub add-covers : (a b : Sign) (x y : ℤ) → x ∈ a → y ∈ b → x +ℤ y ∈ add a b
unfolding add
add-covers a b = told_covers sums a b

pub add-reach : (a b : Sign) (d : Side) → (add a b has d) ≡ true → Reach ◌+ℤ◌ a b d
unfolding add
add-reach a b = told-reach sums a b

pub neg-has : (a : Sign) (d : Side) → (neg a has d) ≡ (a has opposite d)
unfolding neg
neg-has a d = those-has (λ d. a has opposite d) d

opposite-twice : (d : Side) → opposite (opposite d) ≡ d
opposite-twice negative = refl
opposite-twice nought = refl
opposite-twice positive = refl

pub neg-covers : (a : Sign) (x : ℤ) → x ∈ a → neg_ℤ x ∈ neg a
neg-covers a x h = record { is = ap (λ (d : Side). neg a has d) (side-neg x) ∙ neg-has a (opposite (side_of x)) ∙ ap (λ (d : Side). a has d) (opposite-twice (side_of x)) ∙ h.is }

pub neg-back : (a : Sign) (x : ℤ) → x ∈ neg a → neg_ℤ x ∈ a
neg-back a x h = record { is = ap (λ (d : Side). a has d) (side-neg x) ∙ sym (neg-has a (side_of x)) ∙ h.is }

pub sub-covers : (a b : Sign) (x y : ℤ) → x ∈ a → y ∈ b → x -ℤ y ∈ sub a b
unfolding sub
sub-covers a b x y h k = add-covers a (neg b) x (neg_ℤ y) h (neg-covers b y k)

pub sub-reach : (a b : Sign) (d : Side) → (sub a b has d) ≡ true → Reach ◌-ℤ◌ a b d
unfolding sub
sub-reach a b d h =
    let w = add-reach a (neg b) d h in
    record {
      left = w.left;
      right = neg_ℤ w.right;
      in_left = w.in_left;
      in_right = neg-back b w.right w.in_right;
      there = rw (neg_ℤ-neg_ℤ w.right) w.there;
    }

pub meet-has : (a b : Sign) (d : Side) → (meet a b has d) ≡ ((a has d) && (b has d))
unfolding meet
meet-has a b = those-has (λ d. (a has d) && (b has d))

pub shared : (a b : Sign) → (filled (meet a b) ≡ true) ↔ Shared a b
shared a b = (there, back)
  where
    there : filled (meet a b) ≡ true → Shared a b
    there h =
        let d = some-found (λ d. meet a b has d) h in
        let k = and_both (a has d.side) (b has d.side) (sym (meet-has a b d.side) ∙ d.passes) in
        record { number = far d.side d.side; in_left = far-in a d.side d.side k.0; in_right = far-in b d.side d.side k.1 }

    back : Shared a b → filled (meet a b) ≡ true
    back w = filled-by (meet a b) w.number (record { is = meet-has a b (side_of w.number) ∙ and-of w.in_left.is w.in_right.is })

-- ---- every difference lies in r: the definitions' tests

abbrev pub Lies : Sign → ℤ → ℤ → Type 0
Lies r x y = x -ℤ y ∈ r

module _ (a b : Sign) where
  -- the two numbers of a difference
  pub pair_of : filled (sub a b) ≡ true → (R : ℤ → ℤ → Type 0) → ((x y : ℤ) → x ∈ a → y ∈ b → R x y) → Every R a b
  pair_of h R f =
      let d = some-found (λ d. sub a b has d) h in
      let w = sub-reach a b d.side d.passes in
      record { left = w.left; right = w.right; in_left = w.in_left; in_right = w.in_right; all = f }

  pub some-difference : {R : ℤ → ℤ → Type 0} → Every R a b → filled (sub a b) ≡ true
  some-difference e = filled-by (sub a b) (e.left -ℤ e.right) (sub-covers a b e.left e.right e.in_left e.in_right)

  pub no_difference : filled (sub a b) ≡ false → {R : ℤ → ℤ → Type 0} → Every R a b → ⊥
  no_difference h e = was (some-difference e) h

  -- where the differences of all pairs lie
  inside-by : (r : Sign) → ((x y : ℤ) → x ∈ a → y ∈ b → Lies r x y) → (sub a b inside r) ≡ true
  inside-by r f = to_inside (sub a b) r ((least_by ◌-ℤ◌ a b (sub a b) (sub-covers a b) (sub-reach a b)).least r f)

  pub all-test : filled (sub a b) ≡ true → (r : Sign) → Decides (Every (Lies r) a b) (Every (Lies r) a b → ⊥) (sub a b inside r)
  all-test h r = decide (sub a b inside r)
      (λ k. pair_of h (Lies r) (λ x y p q. (from-inside (sub a b) r k).each (x -ℤ y) (sub-covers a b x y p q)))
      (λ e. inside-by r e.all)

  -- a difference lies in r too, or none does
  pub some-test : filled (sub a b) ≡ true → (r : Sign) → Decides (Every (Not (Lies r)) a b → ⊥) (Every (Not (Lies r)) a b) (filled (meet (sub a b) r))
  some-test h r = by (filled (meet (sub a b) r)) refl
    where
      yes : filled (meet (sub a b) r) ≡ true → Every (Not (Lies r)) a b → ⊥
      yes k e =
          let d = some-found (λ d. meet (sub a b) r has d) k in
          let g = and_both (sub a b has d.side) (r has d.side) (sym (meet-has (sub a b) r d.side) ∙ d.passes) in
          let w = sub-reach a b d.side g.0 in
          e.all w.left w.right w.in_left w.in_right (record { is = rw w.there g.1 })

      no : filled (meet (sub a b) r) ≡ false → Every (Not (Lies r)) a b
      no k = pair_of h (Not (Lies r)) (λ x y p q l. was (filled-by (meet (sub a b) r) (x -ℤ y) (record { is = meet-has (sub a b) r (side_of (x -ℤ y)) ∙ and-of (sub-covers a b x y p q).is l.is })) k)

      by : (t : Bool) → filled (meet (sub a b) r) ≡ t → Decides (Every (Not (Lies r)) a b → ⊥) (Every (Not (Lies r)) a b) t
      by true k = holds (yes k)
      by false k = fails (no k)

-- ---- relations between numbers, by where the difference lies

-- R is told by the difference's place in r
pub record By (R : ℤ → ℤ → Type 0) (r : Sign) : Type 0 where
  pub to : (x y : ℤ) → R x y → Lies r x y
  pub from : (x y : ℤ) → Lies r x y → R x y

pub by_less : By ◌≺◌ Negative
by_less = record {
  to = λ x y h. (stands-for Negative (x -ℤ y)).1 (omega (ints, sub_parts x y));
  from = λ x y h. omega (ints, sub_parts x y, (stands-for Negative (x -ℤ y)).0 h);
}

pub by_equal : By ◌≡◌ Zero
by_equal = record {
  to = λ x y h. (stands-for Zero (x -ℤ y)).1 (omega (ints, sub_parts x y));
  from = λ x y h. omega (ints, sub_parts x y, (stands-for Zero (x -ℤ y)).0 h);
}

pub by-greater : By ◌≻◌ Positive
by-greater = record {
  to = λ x y h. (stands-for Positive (x -ℤ y)).1 (omega (ints, sub_parts x y));
  from = λ x y h. omega (ints, sub_parts x y, (stands-for Positive (x -ℤ y)).0 h);
}

pub by-at-most : By ◌≼◌ NonPos
by-at-most = record {
  to = λ x y h. (stands-for NonPos (x -ℤ y)).1 (omega (ints, sub_parts x y));
  from = λ x y h. omega (ints, sub_parts x y, (stands-for NonPos (x -ℤ y)).0 h);
}

pub by-at-least : By ◌≽◌ NonNeg
by-at-least = record {
  to = λ x y h. (stands-for NonNeg (x -ℤ y)).1 (omega (ints, sub_parts x y));
  from = λ x y h. omega (ints, sub_parts x y, (stands-for NonNeg (x -ℤ y)).0 h);
}

every_map : {R S : ℤ → ℤ → Type 0} {a b : Sign} → ((x y : ℤ) → R x y → S x y) → Every R a b → Every S a b
every_map f e = record { left = e.left; right = e.right; in_left = e.in_left; in_right = e.in_right; all = λ x y h k. f x y (e.all x y h k) }

module _ (a b : Sign) (h : filled (sub a b) ≡ true) {R : ℤ → ℤ → Type 0} {r : Sign} (t : By R r) where
  pub every-test : Decides (Every R a b) (Every R a b → ⊥) (sub a b inside r)
  every-test = weaken (every_map t.from) (λ f e. f (every_map t.to e)) (all-test a b h r)

  pub none-test : Decides (Every (Not R) a b → ⊥) (Every (Not R) a b) (filled (meet (sub a b) r))
  none-test = weaken (λ f e. f (every_map (λ x y n l. n (t.from x y l)) e)) (every_map (λ x y n l. n (t.to x y l))) (some-test a b h r)

-- ---- the answers

filled-test : (a b : Sign) → Decides (filled (sub a b) ≡ true) (filled (sub a b) ≡ false) (filled (sub a b))
filled-test a b = by (filled (sub a b))
  where
    by : (t : Bool) → Decides (t ≡ true) (t ≡ false) t
    by true = holds refl
    by false = fails refl

module _ (a b : Sign) where
  pub strict-by : Strict a b (strictly (sub a b))
  strict-by =
      branch (filled-test a b) (Strict a b)
      (λ h. branch (every-test a b h by_less) (Strict a b) numbers.Strict.less
      (λ l. branch (every-test a b h by_equal) (Strict a b) numbers.Strict.equal
      (λ e. branch (every-test a b h by-greater) (Strict a b) numbers.Strict.greater
      (λ g. numbers.Strict.none l e g))))
      (λ h. numbers.Strict.none (no_difference a b h) (no_difference a b h) (no_difference a b h))

  pub weak-by : Weak a b (weakly (sub a b))
  weak-by =
      branch (filled-test a b) (Weak a b)
      (λ h. branch (every-test a b h by_equal) (Weak a b) numbers.Weak.equal
      (λ e. branch (every-test a b h by-at-most) (Weak a b) (λ l. numbers.Weak.less l e)
      (λ l. branch (every-test a b h by-at-least) (Weak a b) (λ g. numbers.Weak.greater g e)
      (λ g. numbers.Weak.none l g))))
      (λ h. numbers.Weak.none (no_difference a b h) (no_difference a b h))

  pub judged-by : {R : ℤ → ℤ → Type 0} {r : Sign} → By R r → Judged R a b (judged r (sub a b))
  judged-by {R} {r} t =
      branch (filled-test a b) (Judged R a b)
      (λ h. branch (every-test a b h t) (Judged R a b) numbers.Judged.holds
      (λ n. branch (none-test a b h t) (Judged R a b) (λ m. numbers.Judged.both n m) numbers.Judged.fails))
      (λ h. numbers.Judged.both (no_difference a b h) (no_difference a b h))
