use Rattle.type_read.proofs.OnArena.Parts.{made_of_integer, made_of_pointer, made_of_void, made_of_array, made_of_struct, made_of_named, named_within}
use Rattle.type_read.proofs.arena.list_parts.parts_of.Goals as goal

pub returns-in-Int : goal.returns-in-Int
returns-in-Int c = made_of_integer c.args.types.now c.type_count-good.ensures.good c.args.ty c.get.result.now c.get.ensures _ c.in-Int.is

pub returns-in-Ptr : goal.returns-in-Ptr
returns-in-Ptr c = made_of_pointer c.args.types.now c.type_count-good.ensures.good c.args.ty c.get.result.now c.get.ensures c.in-Ptr.is

pub returns-in-Void : goal.returns-in-Void
returns-in-Void c = made_of_void c.args.types.now c.type_count-good.ensures.good c.args.ty c.get.result.now c.get.ensures c.in-Void.is

pub returns-in-Array : goal.returns-in-Array
returns-in-Array c = made_of_array c.args.types.now c.type_count-good.ensures.good c.args.ty c.get.result.now c.get.ensures c.in-Array.length c.in-Array.element c.in-Array.is

pub returns-in-Struct : goal.returns-in-Struct
returns-in-Struct c = made_of_struct c.args.types.now c.type_count-good.ensures.good c.args.ty c.get.result.now c.get.ensures c.in-Struct.packed c.in-Struct.fields c.in-Struct.is

pub struct_body-requires : goal.struct_body-requires
struct_body-requires c = named_within c.args.types.now c.type_count-good.ensures.good c.args.ty c.get.result.now c.get.ensures c.in-Named.id c.in-Named.is

pub returns-in-Named : goal.returns-in-Named
returns-in-Named c = made_of_named c.args.types.now c.type_count-good.ensures.good c.args.ty c.get.result.now c.get.ensures c.in-Named.id _ _ c.in-Named.is c.struct_body.ensures c.body_parts.ensures
