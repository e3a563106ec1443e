use Rattle.std.proofs.Common.{◌≡◌, Some, Ok, false, not, ◌&&◌, ap, sym, ◌∙◌, subst}
use Rattle.std.specs.Prelude.{slice_get}
use Rattle.linkage_rules.specs.Linkages.{is_appending}
use Rattle.module_arena.specs.declared.entry.Variable.{Variable}
use Rattle.module_arena.specs.Lists.{Lists}
use Rattle.module_arena.specs.Valid.{IsValid}
use Rattle.module_arena.specs.View.{module_of}
use Rattle.module_arena.specs.WellFormed.{IsWellFormed}
use Rattle.type_table.specs.Types.{tree}
use Rattle.run_initial.specs.Constants.Sound.{constant_of, names_of}
use Rattle.run_rules.specs.Plan.{Contents}
use Rattle.run_initial.specs.Initial.Constants.{value_at}
use Rattle.run_initial.specs.Initial.Fresh.{Puts, put}
use Rattle.run_initial.proofs.OnInitial.Puts.{on_ok, stored_then, wants_memory}
use Rattle.run_initial.specs.Contents.Held.{held, is_list}
use Rattle.run_initial.proofs.OnContents.Known.{ends, goes_well, laid, of_list, of_others, part, value_held, value_known}
use Rattle.run_initial.proofs.contents.contents.put_variable.Goals as goal
use Rattle.run_initial.proofs.contents.contents.put_variable.Goals.{else-is_appending-via-then-is_appending+else-not-is_list, else-is_appending-via-else-is_appending}

pub put_constant-requires-clause-part : goal.put_constant-requires-clause-part
put_constant-requires-clause-part c =
    let a = c.args.names.now in
    let well_formed : IsWellFormed (module_of a) = subst (λ (b : Lists). IsWellFormed (module_of b)) c.program-program.ensures c.arena-arena.ensures.well_formed in
    let valid : IsValid (module_of a) = subst (λ (b : Lists). IsValid (module_of b)) c.program-program.ensures c.arena-arena.ensures.valid in
    part a c.arena-arena.result.now (c.arena-arena.ensures.arena ∙ c.program-program.ensures) c.variable_count-count.ensures.good well_formed valid c.args.id c.variable-variable.result.now c.variable-variable.ensures c.requires.defined c.in-Some.value c.in-Some.is

pub put_constant-requires-clause-laid : goal.put_constant-requires-clause-laid
put_constant-requires-clause-laid c =
    let a = c.args.names.now in
    let well_formed : IsWellFormed (module_of a) = subst (λ (b : Lists). IsWellFormed (module_of b)) c.program-program.ensures c.arena-arena.ensures.well_formed in
    let valid : IsValid (module_of a) = subst (λ (b : Lists). IsValid (module_of b)) c.program-program.ensures c.arena-arena.ensures.valid in
    laid a c.arena-arena.result.now (c.arena-arena.ensures.arena ∙ c.program-program.ensures) c.variable_count-count.ensures.good well_formed valid c.args.id c.variable-variable.result.now c.variable-variable.ensures c.requires.defined c.in-Some.value c.in-Some.is

pub put_constant-requires-clause-ends : goal.put_constant-requires-clause-ends
put_constant-requires-clause-ends c =
    let a = c.args.names.now in
    let same = c.arena-arena.ensures.arena ∙ c.program-program.ensures in
    let well_formed : IsWellFormed (module_of a) = subst (λ (b : Lists). IsWellFormed (module_of b)) c.program-program.ensures c.arena-arena.ensures.well_formed in
    let valid : IsValid (module_of a) = subst (λ (b : Lists). IsValid (module_of b)) c.program-program.ensures c.arena-arena.ensures.valid in
    ends a c.arena-arena.result.now same c.variable_count-count.ensures.good well_formed valid c.args.id c.variable-variable.result.now c.variable-variable.ensures c.requires.defined c.in-Some.value c.in-Some.is
    c.types-types.result.now (c.types-types.ensures ∙ ap (λ (b : Lists). b.table) same) c.type_count-type_count.ensures.good c.type_count-type_count.ensures.within

pub is_list-requires : goal.is_list-requires
is_list-requires c =
    let a = c.args.names.now in
    let well_formed : IsWellFormed (module_of a) = subst (λ (b : Lists). IsWellFormed (module_of b)) c.program-program.ensures c.arena-arena.ensures.well_formed in
    let valid : IsValid (module_of a) = subst (λ (b : Lists). IsValid (module_of b)) c.program-program.ensures c.arena-arena.ensures.valid in
    value_known a c.arena-arena.result.now (c.arena-arena.ensures.arena ∙ c.program-program.ensures) c.variable_count-count.ensures.good well_formed valid c.args.id c.variable-variable.result.now c.variable-variable.ensures c.requires.defined c.in-Some.value c.in-Some.is

pub wanting_memory-requires : goal.wanting_memory-requires
wanting_memory-requires c =
    let a = c.args.names.now in
    let v = c.variable-variable.result.now in
    let well_formed : IsWellFormed (module_of a) = subst (λ (b : Lists). IsWellFormed (module_of b)) c.program-program.ensures c.arena-arena.ensures.well_formed in
    let valid : IsValid (module_of a) = subst (λ (b : Lists). IsValid (module_of b)) c.program-program.ensures c.arena-arena.ensures.valid in
    let plain : (is_appending v.linkage && not (is_list (constant_of a c.in-Some.value))) ≡ false =
    elim c.else-is_appending.branch [
      | else-is_appending-via-then-is_appending+else-not-is_list w ↦ of_list (is_appending v.linkage) (is_list (constant_of a c.in-Some.value)) (sym w.if-not-is_list.ensures)
      | else-is_appending-via-else-is_appending w ↦ of_others (is_appending v.linkage) (is_list (constant_of a c.in-Some.value)) (sym w.if-is_appending.ensures)
    ] in
    wants_memory (put c.args.block (value_at (names_of a) (tree a.table v.ty) (constant_of a c.in-Some.value) 0) c.args.memory.now) c.put_constant.new.memory c.put_constant.result
    (goes_well a c.arena-arena.result.now (c.arena-arena.ensures.arena ∙ c.program-program.ensures) c.variable_count-count.ensures.good well_formed valid c.args.id v c.variable-variable.ensures c.requires.defined c.in-Some.value c.in-Some.is
    plain c.args.memory.now c.args.block c.requires.fresh)
    c.put_constant.ensures.put

pub returns-clause-put : goal.returns-clause-put
returns-clause-put c =
    let a = c.args.names.now in
    let v = c.variable-variable.result.now in
    let m = c.args.memory.now in
    let well_formed : IsWellFormed (module_of a) = subst (λ (b : Lists). IsWellFormed (module_of b)) c.program-program.ensures c.arena-arena.ensures.well_formed in
    let valid : IsValid (module_of a) = subst (λ (b : Lists). IsValid (module_of b)) c.program-program.ensures c.arena-arena.ensures.valid in
    let plain : (is_appending v.linkage && not (is_list (constant_of a c.in-Some.value))) ≡ false =
    elim c.else-is_appending.branch [
      | else-is_appending-via-then-is_appending+else-not-is_list w ↦ of_list (is_appending v.linkage) (is_list (constant_of a c.in-Some.value)) (sym w.if-not-is_list.ensures)
      | else-is_appending-via-else-is_appending w ↦ of_others (is_appending v.linkage) (is_list (constant_of a c.in-Some.value)) (sym w.if-is_appending.ensures)
    ] in
    let all = put c.args.block (value_at (names_of a) (tree a.table v.ty) (constant_of a c.in-Some.value) 0) m in
    on_ok c.wanting_memory.result (all ≡ Ok c.put_constant.new.memory) ((w : Variable) → slice_get a.variables c.args.id ≡ Some w → Puts c.args.block (held a w) m c.put_constant.new.memory)
    (λ stored w at.
    sym (ap (λ (xs : Contents). put c.args.block xs m)
    (value_held a c.arena-arena.result.now (c.arena-arena.ensures.arena ∙ c.program-program.ensures) c.variable_count-count.ensures.good well_formed valid c.args.id v c.variable-variable.ensures c.requires.defined c.in-Some.value c.in-Some.is
    plain w at)) ∙ stored)
    (stored_then all c.put_constant.new.memory c.put_constant.result c.wanting_memory.result c.wanting_memory.ensures c.put_constant.ensures.put)
