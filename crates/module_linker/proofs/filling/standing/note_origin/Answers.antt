use Rattle.std.proofs.Common.{◌+◌, sym, subst}
use Rattle.module_linker.specs.Filling.Standing.{AreLast}
use Rattle.module_linker.proofs.OnFilling.Stands.{last_noted, none_noted}
use Rattle.module_linker.proofs.filling.standing.note_origin.Goals as goal

pub returns-in_default : goal.returns-in_default
returns-in_default c = λ origins at so_far. none_noted origins c.args.last.now.items c.args.number c.args.origin.now at so_far c.in_default.is

pub returns : goal.returns
returns c = λ origins at so_far.
    subst (AreLast (c.args.number + 1) origins) (sym c.note.ensures) (last_noted origins c.args.last.now.items c.args.number c.args.origin.now at so_far c.in-Some.home c.in-Some.is)
