-- The rules 11 to 18 hold of an instruction, where its parts do.
use Rattle.std.proofs.Common.{◌≡◌, ◌++◌, ℕ, true, List, Ok, length, map, sym, ap, ◌∙◌}
use Rattle.std.specs.List.{list_all}
use Rattle.type_table.specs.Types.{trees}
use Rattle.module_arena.specs.Lists.{Lists}
use Rattle.module_arena.specs.Module.{LocalName, Function}
use Rattle.module_arena.specs.Operations as operations
use Rattle.module_arena.specs.Valid.{AllHold}
use Rattle.module_arena.specs.ValueRules as rules
use Rattle.module_arena.specs.View.{constants_of, inst_view, module_of, operand_view}
use Rattle.module_arena.specs.declared.instruction.Inst.{Inst}
use Rattle.entry_verify.proofs.OnConstants.ConstantsKnown.{own_structs}
use Rattle.path_rows.proofs.Viewed.{operands_viewed}
use Rattle.path_rows.specs.Operands.{operands_of}
use Rattle.entry_verify.proofs.OnTypes.Judging.{leads_past}
use Rattle.instruction_verify.specs.Parts.{last_demands, type_demands}
use Rattle.instruction_verify.specs.Last.CallsById.{HasUses}
use Rattle.instruction_verify.specs.Last.Last.{call_demands, written_demands}
use Rattle.instruction_verify.specs.Last.ValuesById.{AreLocalTypes, has_own_type}
use Rattle.instruction_verify.specs.declared.last.local_type.LocalType.{LocalType}
use Rattle.instruction_verify.proofs.OnLast.Listed.{operands_known}
use Rattle.instruction_verify.proofs.OnLast.OperandsTold.{types_told}

-- the operands have the types that are written before them, and the rules 12 to 16, and 17 and 18, hold
pub last_held : (a : Lists) (f : Function) (values blocks : List LocalName) (types : List LocalType) (number : ℕ) (instruction : Inst)
    → HasUses a (length types) instruction → AreLocalTypes a f values types
    → list_all (has_own_type a.table types) (operands_of instruction) ≡ true
    → AllHold (type_demands (module_of a) f.name number (inst_view (trees a.table) (constants_of a) values blocks instruction))
    → AllHold (call_demands (module_of a) f number (inst_view (trees a.table) (constants_of a) values blocks instruction))
    → AllHold (last_demands (module_of a) f number (inst_view (trees a.table) (constants_of a) values blocks instruction))
last_held a f values blocks types number instruction known told typed suits called =
    let m = module_of a in
    let i = inst_view (trees a.table) (constants_of a) values blocks instruction in
    let os = operands_of instruction in
    let types_written =
    sym (types_told a values blocks f types (length a.table.types) (length a.constants) os told (operands_known a (length types) instruction known))
    ∙ typed in
    let listed =
    ap (λ s. rules.have_types_written s f (map (operand_view (trees a.table) (constants_of a) values blocks) os)) (sym (own_structs a))
    ∙ ap (rules.have_types_written m.structs f) (operands_viewed (trees a.table) (constants_of a) values blocks instruction) in
    let written = written_demands m f number (operations.operands i.operation) in
    leads_past written (type_demands m f.name number i ++ call_demands m f number i) (sym listed ∙ types_written, tt) (Ok tt)
    (leads_past (type_demands m f.name number i) (call_demands m f number i) suits (Ok tt) called)
