use Rattle.std.proofs.Common.{◌<◌, All, length, subst, ◌&&◌, List, map, sym, ap, ◌∙◌}
use Rattle.entry_verify.specs.Constants.ConstantParts.{typed_at}
use Rattle.module_arena.specs.Changes.{constant_in}
use Rattle.module_arena.specs.EntryRules.{is_constructor}
use Rattle.module_arena.specs.Lists.{Lists}
use Rattle.module_arena.specs.View.{constant_at, constants_of, module_of}
use Rattle.module_arena.specs.declared.constant.TypedConst.{TypedConst}
use Rattle.module_arena.proofs.ConstantsTold.{constant_here}
use Rattle.entry_verify.specs.Entries.Constructors.{are_constructor_parts}
use Rattle.entry_verify.proofs.OnEntries.ConstructorsTold.{elements_known, constructor_told, no_constructor}
use Rattle.entry_verify.proofs.entries.llvm_lists.is_constructor.Goals as goal

pub are_constructor_parts-parts-requires : goal.are_constructor_parts-parts-requires
are_constructor_parts-parts-requires c =
    let a = c.args.judge.now in
    subst (λ (es : List TypedConst). All (λ (x : TypedConst). (x.ty < length a.table.types) × (x.value < length a.constants)) es) (sym c.as_slice.ensures)
    (subst (λ (d : Lists). All (λ (x : TypedConst). (x.ty < length d.table.types) × (x.value < length d.constants)) c.in-Aggregate.parts) c.arena-arena.ensures
    (elements_known c.arena-arena.result.now c.variable_count-count.ensures.good c.args.id c.constant.result.now c.in-Aggregate.round c.in-Aggregate.parts c.constant.ensures c.in-Aggregate.is))

pub returns-in-Aggregate : goal.returns-in-Aggregate
returns-in-Aggregate c =
    let b = c.arena-arena.result.now in
    let here = constant_here b c.variable_count-count.ensures.good c.args.id c.constant.result.now c.constant.ensures in
    let parts = c.are_constructor_parts-parts.ensures
    ∙ ap (λ (es : List TypedConst). are_constructor_parts (module_of c.args.judge.now) (map (typed_at c.args.judge.now) es)) c.as_slice.ensures
    ∙ ap (λ (a : Lists). are_constructor_parts (module_of a) (map (typed_at a) c.in-Aggregate.parts)) (sym c.arena-arena.ensures) in
    (λ j. c.is_braces.ensures j && parts j)
    ∙ constructor_told b c.in-Aggregate.round c.in-Aggregate.parts
    ∙ ap (λ k. is_constructor (module_of b) (constant_in b k)) (sym c.in-Aggregate.is)
    ∙ ap (is_constructor (module_of b)) (sym here)
    ∙ ap (λ (a : Lists). is_constructor (module_of a) (constant_at (constants_of a) c.args.id)) c.arena-arena.ensures

pub returns-in_default : goal.returns-in_default
returns-in_default c =
    let b = c.arena-arena.result.now in
    let here = constant_here b c.variable_count-count.ensures.good c.args.id c.constant.result.now c.constant.ensures in
    no_constructor b c.constant.result.now c.in_default.not-Aggregate
    ∙ ap (is_constructor (module_of b)) (sym here)
    ∙ ap (λ (a : Lists). is_constructor (module_of a) (constant_at (constants_of a) c.args.id)) c.arena-arena.ensures
