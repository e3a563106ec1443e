use Rattle.std.proofs.Common.{◌≡◌, All, ◌++◌, map, drop}
use Rattle.std.specs.List.{flat_map}
use Rattle.type_table.specs.Tree.{Tree}
use Rattle.module_arena.specs.declared.entry.Function.{Function}
use Rattle.record_table.specs.Lines.{case_of}
use Rattle.record_table.specs.Standing.{is_wide}
use Rattle.record_write.specs.Operands.Numbered.{inside, case_in}
use Rattle.record_write.specs.Operands.Wide.{IsBody, HasCaseIn}
use Rattle.bitcode_write.proofs.lines.ending.put_cases.Given as goal

-- what is left completes the cases
abbrev pub invariant-parts : goal.invariant-parts
invariant-parts l =
    let a = l.numbering in
    (f : Function) (t : Tree) → is_wide t ≡ l.wide → IsBody a f → All (HasCaseIn a f t) l.cases
    → l.operands.items ++ flat_map (case_of (inside a f) t).spell (map (case_in a f) (drop l.part-index l.cases)) ≡ l.initial.operands.items ++ flat_map (case_of (inside a f) t).spell (map (case_in a f) l.cases)
