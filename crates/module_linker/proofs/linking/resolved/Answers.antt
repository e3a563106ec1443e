use Rattle.std.proofs.Common.{length, sym, ap, ◌∙◌}
use Rattle.std.specs.Option.{option_map}
use Rattle.std.proofs.lemmas.List.{length-map}
use Rattle.linkage_rules.specs.Ids.{modules}
use Rattle.link_rules.specs.Structs.{struct_map}
use Rattle.link_names.specs.Counts.Told.{told}
use Rattle.module_linker.proofs.Linkable.{can_link}
use Rattle.module_linker.proofs.linking.resolved.Goals as goal

pub too_many-requires-clause-structs : goal.too_many-requires-clause-structs
too_many-requires-clause-structs c = c.len.ensures ∙ ap length c.in_ok-rows.ensures.names ∙ length-map (struct_map (modules c.args.parts.now)) (λ row. row.1)

pub returns-clause-can : goal.returns-clause-can
returns-clause-can c =
    can_link c.args.parts.now c.in_ok-rows.ensures.sound c.in_ok-bindings.ensures.agree (sym c.too_many.ensures ∙ ap (option_map told) c.in-None.is) c.linking_keeps_modules.ensures.well_formed

pub returns-clause-symbols : goal.returns-clause-symbols
returns-clause-symbols c = record { symbols = c.in_ok-bindings.ensures.symbols; bindings = c.in_ok-bindings.ensures.bindings }
