use mathlib.Core.List.{[]}
use native.Mathlib.Omega.{arith}
use mathlib.Core.List.{◌∷◌}
use mathlib.Core.Path.{refl}
use mir.Facts.{to_z-of_z}
use Rattle.export.proofs.Put.{leaves_all, leaves-short}
use Rattle.export.proofs.put_two.Goals as goal

pub returns-then-room-lt2 : goal.returns-then-room-lt2
returns-then-room-lt2 c = leaves-short (c.args.x ∷ (c.args.y ∷ [])) c.args.room.now c.number.result (omega (arith, c.if-room-lt2.true)) c.number.ensures

pub returns : goal.returns
returns c = simp (to_z-of_z c.ranges.x, to_z-of_z c.ranges.y) (leaves_all (c.args.x ∷ (c.args.y ∷ [])) c.args.room.now _ (omega (arith, c.if-room-lt2.false)) refl)
