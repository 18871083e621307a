use Rattle.std.proofs.Common.{rules, ◌≡◌, refl, sym, ap, ◌∙◌, arith, ℕ, List, Bool, true, false, Option, Some, None, Result, Ok, Err, ℤ, length}
use mir.Syntax.{w64}
use mir.Val.{to_z, of_z}
use lib.ListN.{get_or}
use Rattle.std.specs.Bool.{Decides}
use Rattle.std.specs.Option.{ok_or}
use Rattle.std.specs.Str.{bytes_eq}
use Rattle.std.proofs.lemmas.Slice.Eq.{bytes_eq-Decides, text_from_reads}
use Rattle.whole.specs.Choice.{pick}
use Rattle.whole.specs.Divides.{gcd, lcm}
use Rattle.text.specs.Ascii.{ascii}
use Rattle.question.specs.declared.answer.Answer.{Answer}
use Rattle.question.specs.declared.answer.NotAnswered.{NotAnswered}
use Rattle.question.specs.declared.answer.NotAnswered.TheVariants.{NotUnderstood}
use Rattle.question.specs.Taken.{is, name_after, next_after, two_after}
use Rattle.question.specs.Number.{of_two, number_answer}
use Rattle.question.proofs.number.answer.Goals as goal

both : (t u : Bool) (x : Result Answer NotAnswered) → x ≡ pick t x (pick u x x)
both true u x = refl
both false true x = refl
both false false x = refl

there : {X : Type 0} (o : Option X) (x : X) → ◌≡◌ {A = Result X NotAnswered} (Ok x) (ok_or o NotUnderstood) → Some x ≡ o
there (Some y) x e = cc
there None x e = cc

is_not : (t : Bool) (w u : List ℕ) → Decides t (u ≡ w) → (w ≡ u → ⊥) → t ≡ false
is_not true w u d n = absurd (n (sym (d.0 refl)))
is_not false w u d n = refl

module _ (s : List ℕ) (at : ℕ) (w : List ℕ) (p : ℕ) (e : (w ≡ name_after s at) × (p ≡ next_after s at)) where
  no-numbers : None ≡ two_after s p → Err NotUnderstood ≡ number_answer s at
  unfolding number_answer
  no-numbers h = rw (← e.0, ← e.1, ← h) (both (is "gcd" w) (is "lcm" w) (Err NotUnderstood))

  module _ (a b : ℤ) (h : Some (a, b) ≡ two_after s p) where
    to-gcd : w ≡ ascii "gcd" → of_two gcd (Some (a, b)) ≡ number_answer s at
    unfolding number_answer
    to-gcd q = rw (← e.0, ← e.1, ← h, q) refl

    to-lcm : w ≡ ascii "lcm" → of_two lcm (Some (a, b)) ≡ number_answer s at
    unfolding number_answer
    to-lcm q = rw (← e.0, ← e.1, ← h, q) refl

  -- neither word: their letters are 103, 99, 100 and 108, 99, 109
  no-name : (length w ≡ 3 → get_or w 0 0 ≡ 103 → get_or w 1 0 ≡ 99 → get_or w 2 0 ≡ 100 → ⊥)
      → (length w ≡ 3 → get_or w 0 0 ≡ 108 → get_or w 1 0 ≡ 99 → get_or w 2 0 ≡ 109 → ⊥) → Err NotUnderstood ≡ number_answer s at
  unfolding number_answer
  no-name g l =
      let at_place = λ (i : ℕ) (t : List ℕ). get_or t i 0 in
      let x = is_not (bytes_eq (ascii "gcd") w) w (ascii "gcd") (bytes_eq-Decides (ascii "gcd") w) (λ q. g (ap length q) (ap (at_place 0) q) (ap (at_place 1) q) (ap (at_place 2) q)) in
      let y = is_not (bytes_eq (ascii "lcm") w) w (ascii "lcm") (bytes_eq-Decides (ascii "lcm") w) (λ q. l (ap length q) (ap (at_place 0) q) (ap (at_place 1) q) (ap (at_place 2) q)) in
      rw (← e.0, x, y) refl

pub returns-in_err-a : goal.returns-in_err-a
returns-in_err-a c =
    let a = c.args in
    let r : c.from_residual.result ≡ Err c.in_err-a.field-0.0 = search rules in
    let v = rw c.in_err-a.ensures.ok_part at c.in_err-a.ensures.value in
    let f : c.in_err-a.field-0.0 ≡ NotUnderstood = cc in
    r ∙ ap Err f ∙ no-numbers a.line.now a.at _ _ c.name-next.ensures (sym c.in_err-a.ensures.ok_part ∙ c.two.ensures)

pub returns-in-gcd : goal.returns-in-gcd
returns-in-gcd c =
    let a = c.args in
    let x : to_z w64 (of_z w64 c.in_ok-a.a) ≡ c.in_ok-a.a = search rules in
    let y : to_z w64 (of_z w64 c.in_ok-a.b) ≡ c.in_ok-a.b = search rules in
    let h = there c.two.result (c.in_ok-a.a, c.in_ok-a.b) c.in_ok-a.ensures.value ∙ c.two.ensures in
    let q : c.name-next.result.0.now ≡ ascii "gcd" = text_from_reads _ _ (omega arith) (search rules) in
    rw (c.exact.ensures, c.gcd.ensures, x, y) (to-gcd a.line.now a.at _ _ c.name-next.ensures _ _ h q)

pub returns-in-lcm : goal.returns-in-lcm
returns-in-lcm c =
    let a = c.args in
    let x : to_z w64 (of_z w64 c.in_ok-a.a) ≡ c.in_ok-a.a = search rules in
    let y : to_z w64 (of_z w64 c.in_ok-a.b) ≡ c.in_ok-a.b = search rules in
    let h = there c.two.result (c.in_ok-a.a, c.in_ok-a.b) c.in_ok-a.ensures.value ∙ c.two.ensures in
    let q : c.name-next.result.0.now ≡ ascii "lcm" = text_from_reads _ _ (omega arith) (search rules) in
    rw (c.exact-in-lcm.ensures, c.lcm.ensures, x, y) (to-lcm a.line.now a.at _ _ c.name-next.ensures _ _ h q)

pub returns-in_default : goal.returns-in_default
returns-in_default c = no-name c.args.line.now c.args.at _ _ c.name-next.ensures (λ n x y z. omega arith) (λ n x y z. omega arith)

pub returns-in_default-2 : goal.returns-in_default-2
returns-in_default-2 c = no-name c.args.line.now c.args.at _ _ c.name-next.ensures (λ n x y z. omega arith) (λ n x y z. omega arith)

pub returns-in_default-3 : goal.returns-in_default-3
returns-in_default-3 c = no-name c.args.line.now c.args.at _ _ c.name-next.ensures (λ n x y z. omega arith) (λ n x y z. omega arith)

pub returns-in_default-4 : goal.returns-in_default-4
returns-in_default-4 c = no-name c.args.line.now c.args.at _ _ c.name-next.ensures (λ n x y z. omega arith) (λ n x y z. omega arith)

pub returns-in_default-5 : goal.returns-in_default-5
returns-in_default-5 c = no-name c.args.line.now c.args.at _ _ c.name-next.ensures (λ n x y z. omega arith) (λ n x y z. omega arith)

pub returns-in_default-6 : goal.returns-in_default-6
returns-in_default-6 c = no-name c.args.line.now c.args.at _ _ c.name-next.ensures (λ n x y z. omega arith) (λ n x y z. omega arith)

pub returns-in_default-7 : goal.returns-in_default-7
returns-in_default-7 c = no-name c.args.line.now c.args.at _ _ c.name-next.ensures (λ n x y z. omega arith) (λ n x y z. omega arith)
