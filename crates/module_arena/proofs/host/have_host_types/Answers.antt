use Rattle.std.proofs.Common.{map, sym, ◌∙◌}
use Rattle.std.proofs.lemmas.List.{length-map}
use Rattle.type_table.specs.Types.{tree}
use Rattle.module_arena.specs.declared.entry.Parameter.{Parameter}
use Rattle.module_arena.specs.HostTypes.{host_tree}
use Rattle.module_arena.proofs.HostTypesAgree.{other_length}
use Rattle.module_arena.proofs.host.have_host_types.Goals as goal

pub returns-then-parameters-wanted : goal.returns-then-parameters-wanted
returns-then-parameters-wanted c =
    let f = λ (p : Parameter). tree c.args.types.now p.ty in
    sym (other_length (map f c.args.parameters.now) (map host_tree c.args.wanted.now)
    (λ e. c.if-parameters-wanted.true (sym (length-map c.args.parameters.now f) ∙ e ∙ length-map c.args.wanted.now host_tree)))
