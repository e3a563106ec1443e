use Rattle.std.proofs.Common.{Some, IfOk, refl, sym, subst}
use Rattle.module_arena.specs.declared.entry.LocalName as the_local
use Rattle.module_arena.specs.declared.entry.LocalName.TheVariants as local
use Rattle.body_read.specs.Names.Called.{AddsName, Calls}
use Rattle.body_read.proofs.OnNames.Calling.{ok_by, called_named}
use Rattle.body_read.proofs.names.called.BodyNames.call_known.Goals as goal

pub returns-in-Named : goal.returns-in-Named
returns-in-Named c =
    let old = c.args.self.now in
    let new = record old { taken = c.add_name.new.taken } in
    let name = c.in-Named.name in
    subst (λ (n : the_local.LocalName). IfOk c.add_name.result (λ is_new. Calls old (Some n) is_new new)) (sym c.in-Named.is)
    (ok_by c.add_name.result (λ is_new. AddsName old.taken.keys name is_new new.taken.keys) (λ is_new. Calls old (Some (local.Named name)) is_new new) c.add_name.ensures
    (λ is_new adds. called_named old new refl refl name is_new c.is_of_bytes.ensures adds))
