use Rattle.std.proofs.Common.{Option, ap, ◌∙◌}
use Rattle.type_table.specs.Tree.{Tree}
use Rattle.type_table.specs.Types.{Types, tree}
use Rattle.module_arena.specs.Same.{same_type}
use Rattle.module_arena.specs.TypeTests.{is_integer_of, is_pointer, is_type}
use Rattle.entry_verify.proofs.OnEntries.ConstructorsTold.{pointer_type}
use Rattle.instruction_verify.proofs.OnLast.OperandsTold.{is_truth}
use Rattle.instruction_verify.proofs.last.written.has_local_type.Goals as goal

pub returns-in-Written : goal.returns-in-Written
returns-in-Written c =
    let t = c.args.judge.now.table in
    c.same_type.ensures
    ∙ ap (λ (u : Types). same_type (tree u c.args.ty) (tree u c.in-Written.found)) c.types-types.ensures
    ∙ ap (λ (o : Option Tree). is_type (same_type (tree t c.args.ty)) o) c.in-Written.ensures.ty

pub returns-in-Truth : goal.returns-in-Truth
returns-in-Truth c =
    let t = c.args.judge.now.table in
    c.is_integer_of.ensures
    ∙ ap (λ (u : Types). is_integer_of 1 (tree u c.args.ty)) c.types-types.ensures
    ∙ is_truth (tree t c.args.ty)
    ∙ ap (λ (o : Option Tree). is_type (same_type (tree t c.args.ty)) o) c.in-Truth.ensures.ty

pub returns-in-Pointer : goal.returns-in-Pointer
returns-in-Pointer c =
    let t = c.args.judge.now.table in
    c.is_pointer.ensures
    ∙ ap (λ (u : Types). is_pointer (tree u c.args.ty)) c.types-types.ensures
    ∙ pointer_type (tree t c.args.ty)
    ∙ ap (λ (o : Option Tree). is_type (same_type (tree t c.args.ty)) o) c.in-Pointer.ensures.ty
