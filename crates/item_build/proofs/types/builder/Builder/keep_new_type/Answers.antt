use Rattle.std.proofs.Common.{Err, sym, subst, ap, ◌∙◌}
use Rattle.type_table.specs.Limits.{IsWithin}
use Rattle.type_table.specs.Types.{names, trees, tree_of, with_type, IsGood}
use Rattle.module_arena.specs.Changes.{with_table}
use Rattle.module_arena.specs.View.{module_of}
use Rattle.item_build.specs.Types.Fitting.{AreWithin}
use Rattle.item_build.specs.Types.Stands.{IsType, Grows}
use Rattle.item_build.proofs.OnTypes.Growing.{grows_by_type, type_here}
use Rattle.item_build.proofs.OnTypes.Fitting.{memory_alone, within_more}
use Rattle.item_build.proofs.types.builder.Builder.keep_new_type.Goals as goal

pub returns-clause-grows : goal.returns-clause-grows
returns-clause-grows c =
    let a = c.args.self.now.arena in
    subst (λ b. Grows a b) (sym c.in-Ok.ensures.ok)
    (grows_by_type a c.args.ty c.variable_count-good.ensures.good (ap module_of (sym c.in-Ok.ensures.ok) ∙ c.in-Ok.ensures.module))

pub returns-clause-is : goal.returns-clause-is
returns-clause-is c =
    let a = c.args.self.now.arena in
    let t = tree_of (names a.table) (trees a.table) c.args.ty in
    subst (λ b. IsType b c.in-Ok.id t) (sym c.in-Ok.ensures.ok)
    (subst (λ id. IsType (with_table a (with_type a.table c.args.ty)) id t) (sym c.in-Ok.ensures.id) (type_here a c.args.ty c.variable_count-good.ensures.good))

pub type_out_of_memory-requires : goal.type_out_of_memory-requires
type_out_of_memory-requires c =
    memory_alone c.args.self.now.arena.table c.args.ty (subst IsGood c.types.ensures c.type_count-good_types.ensures.good) (subst IsWithin c.types.ensures c.type_count-good_types.ensures.within) c.requires.fits c.in-Err.fault c.in-Err.ensures.fault (λ e. c.in-Err.ensures.never (ap Err e))

pub returns-clause-within : goal.returns-clause-within
returns-clause-within c whole fits old = subst (AreWithin whole) (sym c.in-Ok.ensures.ok) (within_more c.args.self.now.arena c.args.ty whole fits old)
