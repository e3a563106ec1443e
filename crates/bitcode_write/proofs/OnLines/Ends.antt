-- What the ends of blocks spell.
use Rattle.std.proofs.Common.{◌≡◌, ℕ, suc, ◌<◌, List, ◌++◌, All, length, map, append_assoc, subst, arith}
use Rattle.std.specs.Prelude.{⊤}
use Rattle.std.proofs.lemmas.List.{length-map, get_or-map}
use Rattle.type_table.specs.Tree.{Tree, int}
use Rattle.type_table.specs.Types.{tree}
use Rattle.module_arena.specs.declared.entry.Function.{Function}
use Rattle.module_arena.specs.declared.instruction.Case.{Case}
use Rattle.module_arena.specs.declared.instruction.Ending.{Ending}
use Rattle.module_arena.specs.declared.instruction.Ending.TheVariants as ending
use Rattle.module_arena.specs.declared.instruction.Operand.{Operand}
use Rattle.module_arena.specs.declared.instruction.Value.TheVariants as value
use Rattle.module_arena.specs.Lists.{Lists, function_blocks}
use Rattle.module_arena.specs.Module as m
use Rattle.record_table.specs.Lines as lines
use Rattle.record_table.specs.Standing as standing
use Rattle.record_write.specs.Operands.Numbered.{inside, case_in}
use Rattle.record_write.specs.Operands.Wide.{HasValueAt, HasOperandIn, HasCaseIn}
use Rattle.bitcode_write.specs.Lines.Ids.{KnowsOperand, KnowsCases, KnowsEnd}
use Rattle.bitcode_write.specs.Lines.Lines.{ending_of, IsEnd}
use Rattle.bitcode_write.specs.Lines.Parts.{type_operands, value_operands, block_operands, cases_operands, switch_operands}
use Rattle.bitcode_write.proofs.OnLines.Lines.{operand_held, place_held}

-- a case as an operand
abbrev as_operand : Case → Operand
as_operand c = record { ty = c.ty; value = value.Known c.value }

pub cases_known : (a : Lists) (part : Operand) (otherwise : ℕ) (cases : List Case) → KnowsEnd a (ending.Switch part otherwise cases) → KnowsCases a cases
cases_known a part otherwise cases known = λ k d lt.
    let many = length-map cases as_operand in
    (subst (KnowsOperand a) (get_or-map as_operand cases k d (as_operand d) lt) (known (suc k) (as_operand d) (omega (arith, lt, many)))).value

module _ (a : Lists) (f : Function) where
  abbrev pub EndStands : Ending → Type 0
  EndStands ending.ReturnVoid = ⊤
  EndStands (ending.Return part) = HasOperandIn a f part
  EndStands (ending.Jump to) = to < length (function_blocks f)
  EndStands (ending.Branch condition then_to else_to) = HasValueAt a f (int 1) condition.value × (then_to < length (function_blocks f)) × (else_to < length (function_blocks f))
  EndStands (ending.Switch part otherwise cases) = HasOperandIn a f part × (otherwise < length (function_blocks f)) × All (HasCaseIn a f (tree a.table part.ty)) cases
  EndStands ending.Unreachable = ⊤

  cases_held : (t : Tree) (cases : List Case) → All (λ id. id < length (function_blocks f)) (map (λ (c : Case). c.target) cases) → All (standing.CaseStands t) (map (case_in a f) cases) → All (HasCaseIn a f t) cases
  cases_held t cases targets stands = λ k d lt.
      let many_targets = length-map cases (λ (c : Case). c.target) in
      let many = length-map cases (case_in a f) in
      record {
        value = (subst (λ (c : m.Case). standing.CaseStands t c) (get_or-map (case_in a f) cases k d (case_in a f d) lt) (stands k (case_in a f d) (omega (arith, many, lt)))).1;
        block = subst (λ (id : ℕ). id < length (function_blocks f)) (get_or-map (λ (c : Case). c.target) cases k d d.target lt) (targets k d.target (omega (arith, many_targets, lt)));
      }

  pub end_stands : (e : Ending) → IsEnd a f e → EndStands e
  end_stands ending.ReturnVoid is = tt
  end_stands (ending.Return part) is = operand_held a f part (is.operands 0 part (omega arith)) is.stands
  end_stands (ending.Jump to) is = is.targets 0 to (omega arith)
  end_stands (ending.Branch condition then_to else_to) is =
      (place_held a f (int 1) condition (is.operands 0 condition (omega arith)) is.stands, is.targets 0 then_to (omega arith), is.targets 1 then_to (omega arith))
  end_stands (ending.Switch part otherwise cases) is = (
    operand_held a f part (is.operands 0 part (omega arith)) is.stands.0,
    is.targets 0 otherwise (omega arith),
    cases_held (tree a.table part.ty) cases (λ k d lt. is.targets (suc k) d (omega (arith, lt))) is.stands.1,
  )
  end_stands ending.Unreachable is = tt

  abbrev pub end_spelled : Ending → List ℕ
  end_spelled e = (lines.ending (inside a f) (lines.ending_opcode (ending_of a f e))).spell (ending_of a f e)

  pub switch_spelled : (part : Operand) (otherwise : ℕ) (cases : List Case) → switch_operands a f part otherwise cases ≡ end_spelled (ending.Switch part otherwise cases)
  switch_spelled part otherwise cases =
      append_assoc (type_operands a f part.ty) (value_operands a f (tree a.table part.ty) part.value) (block_operands a f otherwise ++ cases_operands a f (tree a.table part.ty) cases)
