use Rattle.std.proofs.Common.{◌&&◌, List, map, sym, ap, ◌∙◌, arith}
use Rattle.entry_verify.specs.Constants.ConstantParts.{typed_at}
use Rattle.module_arena.specs.EntryRules.{is_function_or_null}
use Rattle.module_arena.specs.Lists.{Lists}
use Rattle.module_arena.specs.TypeTests.{is_integer_of, is_pointer}
use Rattle.module_arena.specs.View.{constant_at, constants_of, module_of}
use Rattle.module_arena.specs.declared.constant.TypedConst.{TypedConst}
use Rattle.type_table.specs.Types.{Types, tree}
use Rattle.entry_verify.specs.Entries.Constructors.{are_constructor_parts, is_number}
use Rattle.entry_verify.proofs.OnEntries.ConstructorsTold.{three_parts}
use Rattle.entry_verify.proofs.entries.llvm_lists.are_constructor_parts.Goals as goal

pub returns-in-len3 : goal.returns-in-len3
returns-in-len3 c =
    let a = c.args.judge.now in
    let p = c.priority-item.result in
    let q = c.called-item.result in
    let r = c.data-item.result in
    let three = three_parts c.args.parts.now p q r (omega (arith, c.in-len3.len_at_least, c.in-len3.len_below)) c.priority-item.is c.called-item.is c.data-item.is in
    let number = c.is_integer_of.ensures ∙ ap (λ (u : Types). is_integer_of 32 (tree u p.ty)) c.types-types.ensures in
    let written = c.is_number.ensures ∙ ap (λ (b : Lists). is_number (constant_at (constants_of b) p.value)) c.arena-arena.ensures in
    let called = c.is_pointer.ensures ∙ ap (λ (u : Types). is_pointer (tree u q.ty)) c.types-types.ensures in
    let third = c.is_pointer-in-len3.ensures ∙ ap (λ (u : Types). is_pointer (tree u r.ty)) c.types-types.ensures in
    let function = c.is_function_or_null.ensures ∙ ap (λ (b : Lists). is_function_or_null (module_of b) (constant_at (constants_of b) q.value)) c.arena-arena.ensures in
    (λ j. (number j && written j) && ((called j && third j) && function j))
    ∙ ap (λ (xs : List TypedConst). are_constructor_parts (module_of a) (map (typed_at a) xs)) (sym three)
