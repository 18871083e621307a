-- What is printed of a run, by its answer.
use Prim.Native.Nat.{ℕ, ◌+◌, ◌-◌, ◌≤◌, ◌<◌}
use mathlib.Core.Path.{◌≡◌}
use mathlib.Core.List.{List, [], ◌∷◌, ◌++◌}
use native.Mathlib.Omega.{arith}
use native.Mathlib.Numerals.{add-one}
use lib.IntN.{ℤ, pos}
use lib.ListN.{length, take, get_or}
use lib.Seq.{sets, take_all, take-suc, length-take-le}
use mir.Syntax.{w64}
use Rattle.refusal.specs.declared.Refusal.{Refusal}
use Rattle.refusal.specs.Number.{number_of}
use Rattle.text.specs.Ascii.{ascii}
use Rattle.say.specs.Texts.{numbered, refusal_text, place_line, count_line}
use Rattle.say.proofs.Numbered.{numbered_more}
use Rattle.sheet.specs.Sheet.{parse}
use Rattle.step.specs.Run.{run_op}
use Rattle.std.specs.Prelude.{Ok, Err}
use Rattle.refusal.specs.declared.Fault.TheVariants.{AtStep, AtByte, By}
use Rattle.refusal.specs.Count.{Counted, count_told}
use Rattle.panel.specs.Answer.{running}
use Rattle.panel.proofs.Told.{ended-run, stopped-run, unread-run, unsuited-run}
use Rattle.run_sheet.specs.Text.{step_line, run_text}

-- the lines of the first k numbers, one more, and all of them
pub one_more : (ns : List ℤ) (k : ℕ) → k < length ns → numbered step_line 0 (take (k + 1) ns) ≡ numbered step_line 0 (take k ns) ++ step_line k (get_or ns k (pos 0))
one_more ns k h =
    rw (add-one, take-suc ns k (pos 0) h) (numbered_more step_line (take k ns) (get_or ns k (pos 0)) k (length-take-le k ns (omega arith)))

pub all_lines : (ns : List ℤ) (k : ℕ) → length ns ≤ k → numbered step_line 0 (take k ns) ≡ numbered step_line 0 ns
all_lines ns k h = rw (take_all k ns h)

module _ (s : List ℕ) (ins room left : List ℤ) (a : Counted) (t : count_told a ≡ (running (run_op w64) s ins room).told) (e : left ≡ sets room 0 (running (run_op w64) s ins room).numbers) (l : length room ≡ 256) where
  pub ended-text : (n : ℕ) → a ≡ Ok n → (n ≤ 256) × (length (take (n - 0) left) ≡ n) × (run_text (parse s) ins ≡ numbered step_line 0 (take (n - 0) left) ++ count_line (ascii "ended ") n)
  ended-text n q = let r = ended-run s ins room left a t e l n q in (r.few, r.count, rw (r.parsed, r.suited, r.ran, r.count))

  pub stopped-text : (why : Refusal) (n : ℕ) → a ≡ Err (AtStep why n) → (n ≤ 256) × (length (take (n - 0) left) ≡ n) × (run_text (parse s) ins ≡ numbered step_line 0 (take (n - 0) left) ++ place_line (ascii "stopped at step ") n (number_of why))
  stopped-text why n q = let r = stopped-run s ins room left a t e l why n q in (r.few, r.count, rw (r.parsed, r.suited, r.ran, r.count))

  pub unread-text : (why : Refusal) (p : ℕ) → a ≡ Err (AtByte why p) → run_text (parse s) ins ≡ place_line (ascii "refused at byte ") p (number_of why)
  unread-text why p q = rw (unread-run s ins room left a t e l why p q)

  pub unsuited-text : (why : Refusal) → a ≡ Err (By why) → run_text (parse s) ins ≡ refusal_text (number_of why) ++ (ascii "\n" ∷ [])
  unsuited-text why q = let r = unsuited-run s ins room left a t e l why q in rw (r.parsed, r.unsuited, r.fifteen)
