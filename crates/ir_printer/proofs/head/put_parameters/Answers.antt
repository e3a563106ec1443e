use Rattle.std.proofs.Common.{List, refl, sym, subst, arith}
use Rattle.type_table.specs.Types.{trees}
use Rattle.module_arena.specs.declared.entry.Parameter.{Parameter}
use Rattle.module_arena.specs.View.{parameter_view}
use Rattle.canonical.specs.Canonical.{parameter_phrase}
use Rattle.ir_printer.specs.Phrases.Printing.{separator_of}
use Rattle.ir_printer.proofs.OnInstructions.Listing.{part_put, parts_put}
use Rattle.ir_printer.specs.Listed.{HasType, parameter_list}
use Rattle.ir_printer.proofs.head.put_parameters.Goals as goal

pub parts-preserved : goal.parts-preserved
parts-preserved g c = λ now h.
    let t = c.args.types.now in
    c.parts.invariant now (part_put (λ (x : Parameter). parameter_phrase (parameter_view (trees t) x)) (λ (xs : List Parameter). parameter_list t xs) refl (λ x xs. refl) c.args.parameters.now c.parts.place c.index-parameters-place.result (separator_of c.before-in-parts.result) (separator_of c.args.behind) c.parts-test.true c.index-parameters-place.is c.before-in-parts.ensures c.put_parameter.ensures c.put_comma.ensures h)

pub returns : goal.returns
returns g c =
    let t = c.args.types.now in
    c.parts.invariant _ (parts_put (λ (x : Parameter). parameter_phrase (parameter_view (trees t) x)) (λ (xs : List Parameter). parameter_list t xs) refl (λ x xs. refl) c.args.parameters.now c.parts.place (separator_of c.args.behind) _ (omega arith))

pub put_parameter-requires : goal.put_parameter-requires
put_parameter-requires g c = subst (HasType c.args.types.now) (sym c.index-parameters-place.is) (c.requires c.parts.place c.index-parameters-place.result c.parts-test.true)
