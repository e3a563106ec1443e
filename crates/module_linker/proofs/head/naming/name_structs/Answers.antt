use Rattle.std.proofs.Common.{refl, subst}
use Rattle.std.specs.Prelude.{Contains}
use Rattle.type_table.specs.Types.{Types, names}
use Rattle.item_build.proofs.Partly.{same_structs}
use Rattle.module_linker.proofs.OnHead.NamesApart.{is_free, name_at}
use Rattle.module_linker.proofs.head.naming.name_structs.Goals as goal

pub names-init : goal.names-init
names-init c = record { table = c.requires.empty; joined = same_structs c.args.into.now.arena; others = refl }

pub name_struct-requires-clause-free : goal.name_struct-requires-clause-free
name_struct-requires-clause-free c has =
    let ns = c.args.names.now in
    let name = c.name-item.result in
    let at = name_at c.as_slice-name-items.result.now ns c.names.name-index name c.as_slice-name-items.ensures c.names-test.true c.name-item.is in
    is_free ns c.names.name-index name at c.requires.apart (subst (λ (t : Types). Contains (names t) name) c.names.invariant.table has)
