use Rattle.type_read.specs.Arena.ListParts.{parts_at}
use Rattle.type_read.proofs.OnArena.Parts.{part_alike, part_these, part_nothing}
use Rattle.type_read.proofs.arena.list_parts.part_at.Goals as goal

pub returns-in-Alike-clause-tree : goal.returns-in-Alike-clause-tree
returns-in-Alike-clause-tree c = (part_alike c.args.types.now _ c.in-Alike.element (parts_at c.args.types.now c.args.ty) c.args.place c.in-Alike.ensures).tree_is

pub returns-in-These-clause-tree : goal.returns-in-These-clause-tree
returns-in-These-clause-tree c = (part_these c.args.types.now _ c.in-These.fields.now (parts_at c.args.types.now c.args.ty) c.args.place c.field_at.result c.in-These.ensures c.field_at.ensures).tree_is

pub returns-in-These-clause-known : goal.returns-in-These-clause-known
returns-in-These-clause-known c = (part_these c.args.types.now _ c.in-These.fields.now (parts_at c.args.types.now c.args.ty) c.args.place c.field_at.result c.in-These.ensures c.field_at.ensures).known

pub returns-in-These-clause-there : goal.returns-in-These-clause-there
returns-in-These-clause-there c = (part_these c.args.types.now _ c.in-These.fields.now (parts_at c.args.types.now c.args.ty) c.args.place c.field_at.result c.in-These.ensures c.field_at.ensures).there

pub returns-in-Nothing-clause-tree : goal.returns-in-Nothing-clause-tree
returns-in-Nothing-clause-tree c = (part_nothing c.args.types.now (parts_at c.args.types.now c.args.ty) c.args.place c.in-Nothing.ensures).tree_is
