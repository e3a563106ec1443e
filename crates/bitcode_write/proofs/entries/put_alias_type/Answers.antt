use Rattle.std.proofs.Common.{All, length, subst, ℕ, ◌<◌}
use Rattle.std.proofs.lemmas.List.Elements.{All-tail}
use Rattle.module_arena.specs.Known.{alias_types}
use Rattle.module_arena.specs.declared.entry.AliasType.{AliasType}
use Rattle.bitcode_write.proofs.entries.put_alias_type.Goals as goal

pub put_types-requires : goal.put_types-requires
put_types-requires c =
    let known = λ (id : ℕ). id < length c.args.numbering.now.table.types in
    rw c.as_slice.ensures (All-tail known c.in-Function.returns c.in-Function.parameters (subst (λ (t : AliasType). All known (alias_types t)) c.in-Function.is c.requires))
