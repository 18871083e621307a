use mathlib.Core.Path.{ap, ◌∙◌}
use Rattle.export.specs.Sheets.{status_of, place_of}
use Rattle.export.proofs.sheets.tunisaypa_run.Goals as goal

pub returns : goal.returns
returns c =
    let d = c.run.ensures in
    let e = c.status.ensures in
    record { status-is = e.0 ∙ ap status_of d.0; place_is = e.1 ∙ ap (λ t. place_of t c.args.place.now) d.0; room-is = d.1 }
