use Rattle.std.proofs.Common.{◌≡◌, ◌++◌, map, drop}
use Rattle.type_table.specs.Types.{tree}
use Rattle.module_arena.specs.declared.entry.Function.{Function}
use Rattle.record_write.specs.Operands.Wide.{IsBody, AreArgumentsIn}
use Rattle.bitcode_write.proofs.OnLines.Arguments.{arguments_from}
use Rattle.bitcode_write.proofs.lines.call.put_arguments.Given as goal

-- what is left stands, and completes the arguments
abbrev pub invariant-parts : goal.invariant-parts
invariant-parts l =
    let a = l.numbering in
    let ts = map (tree a.table) l.parameters in
    (f : Function) → IsBody a f → AreArgumentsIn a f ts l.arguments → AreArgumentsIn a f (drop l.place ts) (drop l.place l.arguments) × (l.operands.items ++ arguments_from a f ts l.arguments l.place ≡ l.initial.operands.items ++ arguments_from a f ts l.arguments 0)
