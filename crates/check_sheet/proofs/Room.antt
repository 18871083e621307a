-- How many bytes the text of a check takes: at most 32,768.
use Prim.Native.Nat.{ℕ, suc, ◌+◌, ◌*◌, ◌^◌, ◌≤◌, ◌<◌}
use mathlib.Core.Path.{◌≡◌, refl}
use mathlib.Core.List.{List, [], ◌∷◌}
use native.Mathlib.Omega.{arith}
use lib.ListN.{length}
use mir.Syntax.{w64}
use mir.Val.{SFits}
use Rattle.whole.proofs.Linear.{ints}
use Rattle.whole.proofs.Fits.{fits}
use Rattle.refusal.specs.Number.{number_of}
use Rattle.refusal.proofs.Claims.{number-range}
use Rattle.sign.specs.declared.Sign.{Sign}
use Rattle.sign.specs.declared.Sign.TheVariants.{Top, Bottom, Negative, Zero, Positive, NonNeg, NonZero, NonPos}
use Rattle.text.specs.Ascii.{ascii}
use Rattle.text.specs.Decimal.{digits}
use Rattle.text.proofs.Width.{tens, digits-below, decimal-below, end-text-below}
use Rattle.say.specs.Names.{sign_name}
use Rattle.say.specs.Said.{joined, size}
use Rattle.say.specs.Texts.{numbered, place_line}
use Rattle.say.proofs.Sizes.{size-append, joined-size}
use Rattle.sheet.specs.Lent.{Bytes}
use Rattle.sheet.specs.Got.{Got, got, refused}
use Rattle.sheet.specs.declared.step.Step.{Step}
use Rattle.sheet.specs.Sheet.{parse}
use Rattle.sheet.proofs.Places.{refused-within}
use Rattle.step.specs.declared.show.Shown.{Shown}
use Rattle.step.specs.Stopping.{GoodShown, stopping}
use Rattle.desk.specs.Check.{Check, passed, refused_at, shown_by, check_sheet}
use Rattle.desk.specs.Promise.{AllGood, nil, cons}
use Rattle.desk.proofs.Claims.{shown-good}
use Rattle.desk.proofs.Told.{checked-few}
use Rattle.check_sheet.specs.Text.{step_line, checked_text, check_text}

name_below : (s : Sign) → length (sign_name s) ≤ 8
name_below Top = omega arith
name_below Bottom = omega arith
name_below Negative = omega arith
name_below Zero = omega arith
name_below Positive = omega arith
name_below NonNeg = omega arith
name_below NonZero = omega arith
name_below NonPos = omega arith

-- a line takes at most 104 bytes
line-size : (k : ℕ) (v : Shown) → k < 1000 → GoodShown w64 v → size (step_line k v) ≤ 104
line-size k v h g =
    let low : SFits w64 v.range.min = fits w64 v.range.min g.range.above (omega (ints, g.range.ordered, g.range.below)) in
    let high : SFits w64 v.range.max = fits w64 v.range.max (omega (ints, g.range.ordered, g.range.above)) g.range.below in
    omega (
      arith,
      digits-below 2 k h,
      end-text-below w64 v.range.min low,
      end-text-below w64 v.range.max high,
      decimal-below v.spacing.constant g.spacing.constant-fits,
      decimal-below v.spacing.modulus g.spacing.modulus-fits,
      name_below v.sign,
    )

lines-size : (k : ℕ) (vs : List Shown) → k + length vs ≤ 999 → AllGood (stopping w64) vs → size (numbered step_line k vs) ≤ 104 * length vs
unfolding numbered
lines-size k [] h nil = omega arith
lines-size k (v ∷ vs) h (cons g gs) =
    omega (arith, size-append (step_line k v) (numbered step_line (suc k) vs), line-size k v (omega arith) g, lines-size (suc k) vs (omega arith) gs)

checked-size : (c : Check Shown) → length (shown_by c) ≤ 256 → AllGood (stopping w64) (shown_by c) → size (checked_text c) ≤ 32768
checked-size (passed vs) h gs =
    let d = digits-below 2 (length vs) (omega arith) in
    omega (arith, size-append (numbered step_line 0 vs) (ascii "passed " ∷ (digits (length vs) ∷ (ascii "\n" ∷ []))), lines-size 0 vs (omega arith) gs, d)
checked-size (refused_at vs r) h gs =
    let d = digits-below 2 (length vs) (omega arith) in
    let e = digits-below 1 (number_of r) (omega (arith, number-range r)) in
    omega (arith, size-append (numbered step_line 0 vs) (place_line (ascii "refused at step ") (length vs) (number_of r)), lines-size 0 vs (omega arith) gs, d, e)

text-size : (s : List ℕ) → Bytes s → length s < 2 ^ 64 → size (check_text (parse s)) ≤ 32768
text-size s b l = by-parse (parse s) refl
  where
    by-parse : (g : Got (List Step)) → parse s ≡ g → size (check_text g) ≤ 32768
    by-parse (got steps end) e = checked-size (check_sheet (stopping w64) steps) (checked-few s steps end e) (shown-good s b steps end e)
    by-parse (refused r p) e =
        let w = refused-within s r p e in
        let t : tens 19 ≡ 100000000000000000000 = refl in
        let d = digits-below 19 p (omega (arith, w.1, l, t)) in
        let f = digits-below 1 r (omega (arith, w.0)) in
        omega (arith, d, f)

-- the text of a check of lent bytes takes at most 32,768
pub check-has-room : (s : List ℕ) → Bytes s → length s < 2 ^ 64 → length (joined (check_text (parse s))) ≤ 32768
check-has-room s b l = rw (joined-size (check_text (parse s))) (text-size s b l)
