use Rattle.std.proofs.Common.{◌&&◌, ap, sym, ◌∙◌}
use Rattle.module_arena.specs.EntryRules.{is_llvm_name}
use Rattle.entry_verify.proofs.OnConstants.FunctionNames.{has_function_told, name_is}
use Rattle.entry_verify.proofs.constants.constants.is_only_called.Goals as goal

pub returns : goal.returns
returns c =
    let named = c.is_llvm_name-is_llvm.ensures ∙ ap is_llvm_name (c.bytes.ensures ∙ c.text.ensures.bytes ∙ sym (name_is c.args.arena.now c.args.id _ c.name.ensures)) in
    let function = c.is_function-is_function.ensures ∙ sym (has_function_told c.args.arena.now c.variable_count-count.ensures.distinct c.args.id c.requires) in
    λ j. named j && function j
