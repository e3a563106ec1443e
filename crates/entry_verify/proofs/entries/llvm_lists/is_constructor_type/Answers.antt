use Rattle.std.proofs.Common.{ℕ, ◌<◌, List, All, length, not, ◌&&◌, Some, subst, sym, ap, ◌∙◌}
use Rattle.type_table.specs.Types.{Types, tree, trees, trees_at}
use Rattle.module_arena.specs.EntryRules.{constructor_type}
use Rattle.module_arena.specs.Lists.{Lists}
use Rattle.module_arena.specs.Same.{same_type}
use Rattle.module_arena.proofs.HostTypesAgree.{parts_known}
use Rattle.entry_verify.specs.Entries.Constructors.{are_constructor_types}
use Rattle.entry_verify.proofs.OnEntries.ConstructorsTold.{constructor_here, no_constructor_here}
use Rattle.entry_verify.proofs.entries.llvm_lists.is_constructor_type.Goals as goal

pub are_constructor_types-suit-requires : goal.are_constructor_types-suit-requires
are_constructor_types-suit-requires c =
    let t = c.types-table.result.now in
    let same = c.types-table.ensures ∙ ap (λ (b : Lists). b.table) c.arena.ensures ∙ sym c.types.ensures in
    subst (λ (fs : List ℕ). All (λ ty. ty < length c.types.result.now.types) fs) (sym c.as_slice.ensures)
    (subst (λ (u : Types). All (λ ty. ty < length u.types) c.in-Struct.fields) same
    (parts_known t c.args.ty c.in-Struct.packed c.in-Struct.fields c.type_count-count.ensures.good (c.get.ensures ∙ ap Some c.in-Struct.is)))

pub returns-in_default : goal.returns-in_default
returns-in_default c =
    let t = c.types-table.result.now in
    let same = c.types-table.ensures ∙ ap (λ (b : Lists). b.table) c.arena.ensures in
    no_constructor_here t c.args.ty c.get.result.now c.type_count-count.ensures.good c.get.ensures c.in_default.not-Struct
    ∙ ap (λ (u : Types). same_type (tree u c.args.ty) constructor_type) same

pub returns : goal.returns
returns c =
    let t = c.types-table.result.now in
    let same = c.types-table.ensures ∙ ap (λ (b : Lists). b.table) c.arena.ensures in
    let fields = c.are_constructor_types-suit.ensures
    ∙ ap (λ (fs : List ℕ). are_constructor_types (trees_at (trees c.types.result.now) fs)) c.as_slice.ensures
    ∙ ap (λ (u : Types). are_constructor_types (trees_at (trees u) c.in-Struct.fields)) (c.types.ensures ∙ sym same) in
    (λ j. not c.in-Struct.packed && fields j)
    ∙ constructor_here t c.args.ty c.in-Struct.packed c.in-Struct.fields c.type_count-count.ensures.good (c.get.ensures ∙ ap Some c.in-Struct.is)
    ∙ ap (λ (u : Types). same_type (tree u c.args.ty) constructor_type) same
