use Rattle.std.proofs.Common.{◌≡◌, map, drop}
use Rattle.type_table.specs.Types.{tree}
use Rattle.module_arena.specs.HostRows.{same_type_list}
use Rattle.module_arena.specs.HostTypes.{host_tree}
use Rattle.module_arena.proofs.host.have_host_types.Given as goal

abbrev pub invariant-loop-index : goal.invariant-loop-index
invariant-loop-index l =
    same_type_list (map (λ p. tree l.types p.ty) (drop l.index l.parameters)) (map host_tree (drop l.index l.wanted))
    ≡ same_type_list (map (λ p. tree l.types p.ty) l.parameters) (map host_tree l.wanted)
