use mathlib.Core.Path.{◌≡◌, sym, ap, ◌∙◌}
use lib.IntN.{ℤ}
use Rattle.std.specs.Prelude.{Some}
use Rattle.std.specs.Cmp.{int_cmp_is}
use Rattle.std.specs.Ordering.{int_cmp}
use Rattle.std.specs.declared.cmp.Ordering.TheVariants.{Less, Equal, Greater}
use Rattle.whole.specs.Choice.{pick}
use Rattle.whole.specs.Test.{◌<?◌, ◌≟◌}
use Rattle.whole.proofs.Decides.{branch, lt_test, eq_test}
use Rattle.whole.proofs.Flags.{was-true, was-false, pick_yes}
use Rattle.whole.proofs.Linear.{ints, from-≢}
use Rattle.congruence.proofs.Values.{singles-told, values}
use Rattle.congruence.specs.Ported.{compared}
use Rattle.congruence.proofs.ported.compared.Goals as goal

-- the library's order of two numbers, by the definition's tests
by_tests : (x y : ℤ) → Some (int_cmp x y) ≡ pick (x <? y) (Some Less) (pick (x ≟ y) (Some Equal) (Some Greater))
by_tests x y = sym (branch (lt_test x y) (λ o. o ≡ Some (int_cmp x y))
    (λ h. ap Some (int_cmp_is x y Less h))
    (λ g. branch (eq_test x y) (λ o. o ≡ Some (int_cmp x y))
    (λ e. ap Some (int_cmp_is x y Equal e))
    (λ n. ap Some (int_cmp_is x y Greater (omega (ints, from-≢ n))))))

pub returns-then-not-both_single : goal.returns-then-not-both_single
unfolding compared
returns-then-not-both_single c = search (singles-told, was-true, was-false, values) depth 8 fits 5000

pub returns : goal.returns
unfolding compared
returns c =
    let a = c.args.a.constant in
    let b = c.args.b.constant in
    pick_yes _ _ _ _ (sym c.both_single.ensures ∙ c.if-not-both_single.false) (ap Some c.cmp.ensures ∙ by_tests a b)
