use Rattle.std.proofs.Common.{◌<◌, All, length, subst, List, Some, sym, ap, ◌∙◌}
use Rattle.std.specs.List.{list_all}
use Rattle.module_arena.specs.Changes.{constant_in}
use Rattle.module_arena.specs.EntryRules.{lists_constructors}
use Rattle.module_arena.specs.Lists.{Lists}
use Rattle.module_arena.specs.Module.{Constant}
use Rattle.module_arena.specs.View.{constant_at, constants_of, module_of}
use Rattle.module_arena.specs.declared.constant.TypedConst.{TypedConst}
use Rattle.module_arena.proofs.ConstantsTold.{constant_here}
use Rattle.entry_verify.specs.Entries.Constructors.{is_constructor_at}
use Rattle.entry_verify.proofs.OnEntries.ConstructorsTold.{elements_known, list_told, no_list}
use Rattle.entry_verify.proofs.entries.llvm_lists.list_at.Goals as goal

pub are_constructors-requires : goal.are_constructors-requires
are_constructors-requires c =
    let a = c.args.judge.now in
    subst (λ (es : List TypedConst). All (λ (x : TypedConst). (x.ty < length a.table.types) × (x.value < length a.constants)) es) (sym c.as_slice.ensures)
    (subst (λ (d : Lists). All (λ (x : TypedConst). (x.ty < length d.table.types) × (x.value < length d.constants)) c.in-Aggregate.elements) c.arena-arena.ensures
    (elements_known c.arena-arena.result.now c.variable_count-count.ensures.good c.args.id c.constant.result.now c.in-Aggregate.field-0 c.in-Aggregate.elements c.constant.ensures c.in-Aggregate.is))

pub returns-in-Aggregate : goal.returns-in-Aggregate
returns-in-Aggregate c =
    let a = c.args.judge.now in
    let b = c.arena-arena.result.now in
    let here = constant_here b c.variable_count-count.ensures.good c.args.id c.constant.result.now c.constant.ensures in
    c.are_constructors.ensures
    ∙ ap (λ (es : List TypedConst). list_all (is_constructor_at a) es) c.as_slice.ensures
    ∙ list_told a c.in-Aggregate.elements
    ∙ ap (λ k. lists_constructors (module_of a) (Some (constant_in a k))) (sym c.in-Aggregate.is)
    ∙ ap (λ (d : Lists). lists_constructors (module_of d) (Some (constant_in d c.constant.result.now))) (sym c.arena-arena.ensures)
    ∙ ap (λ (k : Constant). lists_constructors (module_of b) (Some k)) (sym here)
    ∙ ap (λ (d : Lists). lists_constructors (module_of d) (Some (constant_at (constants_of d) c.args.id))) c.arena-arena.ensures

pub returns-in-ZeroInitializer : goal.returns-in-ZeroInitializer
returns-in-ZeroInitializer c =
    let b = c.arena-arena.result.now in
    let here = constant_here b c.variable_count-count.ensures.good c.args.id c.constant.result.now c.constant.ensures in
    ap (λ k. lists_constructors (module_of b) (Some (constant_in b k))) (sym c.in-ZeroInitializer.is)
    ∙ ap (λ (k : Constant). lists_constructors (module_of b) (Some k)) (sym here)
    ∙ ap (λ (d : Lists). lists_constructors (module_of d) (Some (constant_at (constants_of d) c.args.id))) c.arena-arena.ensures

pub returns-in_default : goal.returns-in_default
returns-in_default c =
    let b = c.arena-arena.result.now in
    let here = constant_here b c.variable_count-count.ensures.good c.args.id c.constant.result.now c.constant.ensures in
    no_list b c.constant.result.now c.in_default.not-Aggregate c.in_default.not-ZeroInitializer
    ∙ ap (λ (k : Constant). lists_constructors (module_of b) (Some k)) (sym here)
    ∙ ap (λ (d : Lists). lists_constructors (module_of d) (Some (constant_at (constants_of d) c.args.id))) c.arena-arena.ensures
