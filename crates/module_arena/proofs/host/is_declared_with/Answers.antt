use Rattle.std.proofs.Common.{◌≡◌, ◌&&◌, map, ap, ◌∙◌}
use Rattle.std.specs.Bool.{beq}
use Rattle.std.specs.Prelude.{is_none}
use Rattle.type_table.specs.Types.{Types, tree}
use Rattle.module_arena.specs.Same.{same_type}
use Rattle.module_arena.specs.HostRows.{same_type_list}
use Rattle.module_arena.specs.HostTypes.{host_tree}
use Rattle.module_arena.specs.declared.entry.Parameter.{Parameter}
use Rattle.module_arena.proofs.HostTypesAgree.{none_told, declared_by_parts}
use Rattle.module_arena.proofs.host.is_declared_with.Goals as goal

pub returns : goal.returns
returns c =
    let f = c.args.function.now in
    let table = c.types-types.ensures in
    let undefined : c.is_none-undefined.result ≡ is_none f.body = none_told f.body c.is_none-undefined.result c.is_none-undefined.ensures in
    let returned : c.is_host_type-returned.result ≡ same_type (tree c.args.arena.now.table f.result) (host_tree c.args.returns) =
    c.is_host_type-returned.ensures ∙ ap (λ (t : Types). same_type (tree t f.result) (host_tree c.args.returns)) table in
    let taken : c.have_host_types-taken.result ≡ same_type_list (map (λ (p : Parameter). tree c.args.arena.now.table p.ty) f.parameters) (map host_tree c.args.parameters.now) =
    c.have_host_types-taken.ensures ∙ (λ j. same_type_list (map (λ (p : Parameter). tree (table j) p.ty) (c.as_slice.ensures j)) (map host_tree c.args.parameters.now)) in
    (λ j. ((undefined j && returned j) && taken j) && beq f.variadic c.args.variadic)
    ∙ declared_by_parts c.args.arena.now f (host_tree c.args.returns) (map host_tree c.args.parameters.now) c.args.variadic
