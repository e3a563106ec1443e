use Rattle.std.proofs.Common.{[], All, subst, sym, ap, ◌∙◌}
use Rattle.module_arena.specs.Changes.{constant_in}
use Rattle.module_arena.specs.EntryRules.{is_function_or_null}
use Rattle.std.proofs.lemmas.List.Elements.{All-head}
use Rattle.module_arena.specs.Known.{HasGlobal, counts}
use Rattle.module_arena.specs.Mentions.{globals_in}
use Rattle.module_arena.specs.View.{module_of}
use Rattle.module_arena.proofs.ConstantsTold.{const_known, constant_here}
use Rattle.entry_verify.proofs.OnEntries.ConstructorsTold.{no_function}
use Rattle.entry_verify.proofs.entries.llvm_lists.is_function_or_null.Goals as goal

pub leads_to_function-requires : goal.leads_to_function-requires
leads_to_function-requires c =
    let a = c.args.arena.now in
    All-head (HasGlobal (counts a)) c.in-Address.id []
    (subst (λ k. All (HasGlobal (counts a)) (globals_in k)) c.in-Address.is (const_known a c.variable_count-count.ensures.good c.args.id c.constant.result.now c.constant.ensures).globals_known)

pub returns-in-Address : goal.returns-in-Address
returns-in-Address c =
    let a = c.args.arena.now in
    c.leads_to_function.ensures
    ∙ ap (λ k. is_function_or_null (module_of a) (constant_in a k)) (sym c.in-Address.is)
    ∙ sym (ap (is_function_or_null (module_of a)) (constant_here a c.variable_count-count.ensures.good c.args.id c.constant.result.now c.constant.ensures))

pub returns-in-Null : goal.returns-in-Null
returns-in-Null c =
    let a = c.args.arena.now in
    ap (λ k. is_function_or_null (module_of a) (constant_in a k)) (sym c.in-Null.is)
    ∙ sym (ap (is_function_or_null (module_of a)) (constant_here a c.variable_count-count.ensures.good c.args.id c.constant.result.now c.constant.ensures))

pub returns-in_default : goal.returns-in_default
returns-in_default c =
    let a = c.args.arena.now in
    no_function a c.constant.result.now c.in_default.not-Address c.in_default.not-Null
    ∙ sym (ap (is_function_or_null (module_of a)) (constant_here a c.variable_count-count.ensures.good c.args.id c.constant.result.now c.constant.ensures))
