use Prim.Native.Nat.{ℕ}
use mathlib.Core.Path.{◌≡◌, sym, ap, ◌∙◌}
use mathlib.Core.List.{List}
use lib.ListN.{length}
use lib.Seq.{sets}
use Rattle.refusal.proofs.Claims.{count-fault}
use Rattle.sheet.specs.Got.{Got, fine, verdict_of}
use Rattle.sheet.specs.Step.{Step}
use Rattle.sheet.specs.Sheet.{steps_from, steps_in, parse, flat}
use Rattle.sheet.proofs.Parts.{steps-length, parse-count, parse-many, parse-refused, refused-of, read-refused, no_room, room}
use Rattle.sheet.proofs.read.Goals as goal
use Rattle.sheet.proofs.read.Goals.{After-check_steps}

-- after the count: the sheet is its steps
counted : (k : After-check_steps) → parse k.args.bytes.now ≡ steps_from k.in_ok-n.n k.args.bytes.now 0 k.in_ok-n.p
counted k = parse-count k.args.bytes.now k.in_ok-n.n k.in_ok-n.p (sym k.in_ok-n.ensures) k.if-n-gt256.false

module _ (s : List ℕ) (n p : ℕ) (e : parse s ≡ steps_from n s 0 p) (h : verdict_of (steps_from n s 0 p) ≡ fine) where
  right' : verdict_of (parse s) ≡ fine
  right' = rw e h

  long : length (steps_in (parse s)) ≡ n
  long = rw e (steps-length n s 0 p h)

pub returns-in_err-n : goal.returns-in_err-n
returns-in_err-n c =
    let a = c.args in
    let r = read-refused a.bytes.now a.out.now _ _ (parse-refused a.bytes.now _ _ (sym c.in_err-n.ensures)) in
    (count-fault c.from_residual.result _ c.from_residual.ensures.1 ∙ r.0, r.1)

pub returns-then-n-gt256 : goal.returns-then-n-gt256
returns-then-n-gt256 c =
    let a = c.args in
    read-refused a.bytes.now a.out.now 10 0 (parse-many a.bytes.now c.in_ok-n.n c.in_ok-n.p (sym c.in_ok-n.ensures) c.if-n-gt256.true)

pub returns-in_err-check_steps : goal.returns-in_err-check_steps
returns-in_err-check_steps c =
    let s = c.args.bytes.now in
    let e = counted (goal.at.returns-in_err-check_steps c).After-check_steps in
    let r = read-refused s c.args.out.now _ _ (e ∙ refused-of (steps_from c.in_ok-n.n s 0 c.in_ok-n.p) _ _ (sym c.in_err-check_steps.ensures)) in
    (count-fault c.from_residual-in_err-check_steps.result _ c.from_residual-in_err-check_steps.ensures.1 ∙ r.0, r.1)

pub returns-then-out-count : goal.returns-then-out-count
returns-then-out-count c =
    let s = c.args.bytes.now in
    let n = c.in_ok-n.n in
    let p = c.in_ok-n.p in
    let e = counted (goal.at.returns-then-out-count c).After-check_steps in
    let h = sym c.in_ok-check_steps.ensures in
    no_room s c.args.out.now n (right' s n p e h) (long s n p e h) c.if-out-count.true

pub fill_steps-requires : goal.fill_steps-requires
fill_steps-requires c = (c.if-n-gt256.false, c.if-out-count.false, sym c.in_ok-check_steps.ensures)

pub returns : goal.returns
returns c =
    let s = c.args.bytes.now in
    let n = c.in_ok-n.n in
    let p = c.in_ok-n.p in
    let e = counted (goal.at.returns c).After-check_steps in
    let h = sym c.in_ok-check_steps.ensures in
    let r = room s c.args.out.now n (right' s n p e h) (long s n p e h) c.if-out-count.false in
    (r.0, c.fill_steps.ensures ∙ ap (λ (x : Got (List Step)). sets c.args.out.now 0 (flat (steps_in x))) (sym e) ∙ r.1)
