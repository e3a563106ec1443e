use Rattle.std.proofs.Common.{Some, ap, sym, ◌∙◌}
use Rattle.type_table.specs.Types.{Types, tree}
use Rattle.module_arena.specs.Lists.{Lists}
use Rattle.record_table.specs.Standing.{is_wide}
use Rattle.record_write.proofs.OnOperands.Numbers.{wide_at}
use Rattle.record_write.proofs.operands.numbering.Numbering.is_wide.Goals as goal

pub returns-in-Int : goal.returns-in-Int
returns-in-Int c =
    sym (wide_at c.types-types.result.now c.type_count-count.ensures.good c.args.ty _ (c.get.ensures ∙ ap Some c.in-Int.is))
    ∙ ap (λ (x : Types). is_wide (tree x c.args.ty)) (c.types-types.ensures ∙ ap (λ (x : Lists). x.table) c.self.view_is)

pub returns-in-Ptr : goal.returns-in-Ptr
returns-in-Ptr c =
    sym (wide_at c.types-types.result.now c.type_count-count.ensures.good c.args.ty _ (c.get.ensures ∙ ap Some c.in-Ptr.is))
    ∙ ap (λ (x : Types). is_wide (tree x c.args.ty)) (c.types-types.ensures ∙ ap (λ (x : Lists). x.table) c.self.view_is)

pub returns-in-Void : goal.returns-in-Void
returns-in-Void c =
    sym (wide_at c.types-types.result.now c.type_count-count.ensures.good c.args.ty _ (c.get.ensures ∙ ap Some c.in-Void.is))
    ∙ ap (λ (x : Types). is_wide (tree x c.args.ty)) (c.types-types.ensures ∙ ap (λ (x : Lists). x.table) c.self.view_is)

pub returns-in-Array : goal.returns-in-Array
returns-in-Array c =
    sym (wide_at c.types-types.result.now c.type_count-count.ensures.good c.args.ty _ (c.get.ensures ∙ ap Some c.in-Array.is))
    ∙ ap (λ (x : Types). is_wide (tree x c.args.ty)) (c.types-types.ensures ∙ ap (λ (x : Lists). x.table) c.self.view_is)

pub returns-in-Struct : goal.returns-in-Struct
returns-in-Struct c =
    sym (wide_at c.types-types.result.now c.type_count-count.ensures.good c.args.ty _ (c.get.ensures ∙ ap Some c.in-Struct.is))
    ∙ ap (λ (x : Types). is_wide (tree x c.args.ty)) (c.types-types.ensures ∙ ap (λ (x : Lists). x.table) c.self.view_is)

pub returns-in-Named : goal.returns-in-Named
returns-in-Named c =
    sym (wide_at c.types-types.result.now c.type_count-count.ensures.good c.args.ty _ (c.get.ensures ∙ ap Some c.in-Named.is))
    ∙ ap (λ (x : Types). is_wide (tree x c.args.ty)) (c.types-types.ensures ∙ ap (λ (x : Lists). x.table) c.self.view_is)
