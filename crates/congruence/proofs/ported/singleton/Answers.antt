use mathlib.Core.Path.{◌≡◌, refl, sym, ap, ap₂, ◌∙◌}
use mathlib.Core.Bool.{Bool, true, false}
use lib.IntN.{ℤ, pos}
use mir.Facts.{to_z-of_z}
use mir.Syntax.{w64}
use mir.Val.{SFits}
use Rattle.std.specs.Bool.{then_some}
use Rattle.std.specs.Prelude.{Some, None}
use Rattle.whole.specs.Choice.{pick}
use Rattle.whole.proofs.Flags.{pick_yes, eq_is}
use Rattle.refusal.specs.Answer.{is}
use Rattle.congruence.proofs.Values.{admitted, values, fits-0}
use Rattle.congruence.specs.Ported.{alone}
use Rattle.congruence.proofs.ported.singleton.Goals as goal

shown : (t : Bool) (x : ℤ) → is (then_some t x) ≡ pick t (is (Some x)) (is None)
shown true x = refl
shown false x = refl

pub returns : goal.returns
unfolding alone
returns c =
    let f : SFits w64 c.args.a.constant = search values in
    let g : SFits w64 c.args.a.modulus = search values in
    pick_yes _ _ _ _ (sym c.in_domain.ensures ∙ admitted c.in_ok-need.ensures)
    (ap is (c.then_some.ensures ∙ ap₂ then_some (eq_is c.args.a.modulus (pos 0) _ _ refl refl g fits-0) (to_z-of_z f)) ∙ shown _ _)
