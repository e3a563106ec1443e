use Rattle.std.proofs.Common.{slice_get, sym, ◌∙◌}
use Rattle.type_table.specs.Types.{structs, bodies}
use Rattle.item_build.proofs.Partly.{same_structs}
use Rattle.entry_copy.proofs.OnStructs.StructsDefined.{has_body, has_none}
use Rattle.entry_copy.proofs.structs.defining.define_struct.Goals as goal

pub returns-in-Some-clause-module : goal.returns-in-Some-clause-module
returns-in-Some-clause-module c = same_structs c.args.into.now.arena

pub returns-in-Some-clause-done : goal.returns-in-Some-clause-done
returns-in-Some-clause-done c =
    has_body (structs c.args.from.now.table) c.args.into.now.arena c.requires.partly c.args.id c.in-Some.field-0.now ((λ j. slice_get (bodies ((sym c.types-2.ensures) j)) c.args.id) ∙ c.in-Some.ensures)

pub returns-in-None-struct_body-clause-module : goal.returns-in-None-struct_body-clause-module
returns-in-None-struct_body-clause-module c = same_structs c.args.into.now.arena

pub returns-in-None-struct_body-clause-done : goal.returns-in-None-struct_body-clause-done
returns-in-None-struct_body-clause-done c =
    has_none c.args.from.now c.args.into.now.arena c.args.id
    ((λ j. slice_get (bodies ((sym c.types-in-None.ensures) j)) c.args.id) ∙ c.in-None-struct_body.ensures)
    ((λ j. slice_get (bodies ((sym c.types-2.ensures) j)) c.args.id) ∙ c.in-None.ensures)
