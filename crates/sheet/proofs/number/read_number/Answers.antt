use Prim.Native.Nat.{◌≤◌, ◌<◌, ◌%◌}
use mathlib.Core.Path.{◌≡◌, refl, sym, ◌∙◌}
use mathlib.Core.Logic.{⊎_elim}
use lib.ListN.{get_or}
use Rattle.sheet.proofs.Groups.{too_many, ended, group-bits, code-too-large, code-goes-on, code-last, code-one-too-many}
use native.Mathlib.Omega.{arith}
use borrow.Author.Rules.{rules}
use Rattle.sheet.specs.Number.{read_number}
use Rattle.sheet.proofs.number.read_number.Goals as goal
use Rattle.sheet.proofs.number.read_number.Goals.{After-wide-b}

pub loop-shift-init : goal.loop-shift-init
unfolding read_number
loop-shift-init c = (search rules, search rules, search rules, refl)

-- what a turn knows of the byte at i, whose number is `wide`'s result
byte : (w : After-wide-b) → w.wide-b.result ≡ get_or w.args.s.now w.loop-shift.i 0
byte w = w.wide-b.ensures

byte_fits : (w : After-wide-b) → w.wide-b.result < 256
byte_fits w = omega (arith, w.type_inv.s w.loop-shift.i, byte w)

pub loop-shift-preserved : goal.loop-shift-preserved
loop-shift-preserved c =
    let w = (goal.at.loop-shift-preserved c).After-wide-b in
    let x = w.loop-shift in
    let a = w.args in
    let left : x.shift ≤ 63 = w.if-shift-gt63.false in
    let sevens : x.shift % 7 ≡ 0 = x.invariant.1 in (
      omega (arith, left),
      omega (arith, sevens),
      group-bits w.wide-b.result x.shift x.value c.if-part-shift.false x.invariant.2,
      x.invariant.3 ∙ code-goes-on a.s.now a.at x.i x.shift x.value w.wide-b.result (byte w) (byte_fits w) w.if-shift-gt63.false w.if-s-i.false c.if-part-shift.false x.invariant.2 c.if-b-lt128.false,
    )

pub returns-then-shift-gt63 : goal.returns-then-shift-gt63
returns-then-shift-gt63 c =
    let x = c.loop-shift in
    let a = c.args in
    sym (x.invariant.3 ∙ too_many a.s.now a.at x.i x.shift x.value c.if-shift-gt63.true x.invariant.1)

pub returns-then-s-i : goal.returns-then-s-i
returns-then-s-i c =
    let x = c.loop-shift in
    let a = c.args in
    sym (x.invariant.3 ∙ ended a.s.now a.at x.i x.shift x.value c.if-shift-gt63.false c.if-s-i.true)

pub returns-then-part-shift : goal.returns-then-part-shift
returns-then-part-shift c =
    let w = (goal.at.returns-then-part-shift c).After-wide-b in
    let x = w.loop-shift in
    let a = w.args in
    sym (x.invariant.3 ∙ code-too-large a.s.now a.at x.i x.shift x.value w.wide-b.result (byte w) (byte_fits w) w.if-shift-gt63.false w.if-s-i.false x.invariant.1 c.if-part-shift.true)

pub returns-then-shift-gt0 : goal.returns-then-shift-gt0
returns-then-shift-gt0 c =
    let w = (goal.at.returns-then-shift-gt0 c).After-wide-b in
    let x = w.loop-shift in
    let a = w.args in
    sym (x.invariant.3 ∙ code-one-too-many a.s.now a.at x.i x.shift x.value w.wide-b.result (byte w) (byte_fits w) w.if-shift-gt63.false w.if-s-i.false c.if-b-eq0.true c.if-shift-gt0.true)

pub returns-else-b-eq0 : goal.returns-else-b-eq0
returns-else-b-eq0 c =
    let w = (goal.at.returns-else-b-eq0 c).After-wide-b in
    let x = w.loop-shift in
    let a = w.args in
    -- a group of 0 is the only one
    let only : (w.wide-b.result ≡ 0 → x.shift ≡ 0) = λ z. ⊎_elim (λ none. omega (arith, none.1)) (λ some. absurd (some z)) c.else-b-eq0.either in
    sym (x.invariant.3 ∙ code-last a.s.now a.at x.i x.shift x.value w.wide-b.result (byte w) (byte_fits w) w.if-shift-gt63.false w.if-s-i.false c.if-part-shift.false x.invariant.2 c.if-b-lt128.true only)
