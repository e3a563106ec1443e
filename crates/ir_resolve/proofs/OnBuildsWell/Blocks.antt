-- Where nothing fails that the blocks of a function ask for, they can be built over its locals.
use Rattle.std.proofs.Common.{◌≡◌, List, [], ◌∷◌, ◌++◌, true, None, All}
use Rattle.std.specs.List.{flat_map}
use Rattle.std.proofs.lemmas.List.Elements.{All-nil, All-cons, All-head, All-tail}
use Rattle.ir_phrases.specs.Constants.Forms.{AllAre}
use Rattle.ir_phrases.specs.Instructions.Tree.{InstructionTree, CaseTree, EndingTree, ReturnVoid, Return, Jump, Branch, Switch, Unreachable, BlockTree}
use Rattle.ir_phrases.specs.Instructions.Forms.{IsInstructionFormed, IsBlockFormed}
use Rattle.ir_syntax.specs.Tree.{ItemTree}
use Rattle.module_arena.specs.Lists.{Lists}
use Rattle.module_arena.specs.Module.{LocalName}
use Rattle.name_rules.specs.Locals.{Locals, announced_result, announced_block}
use Rattle.name_rules.specs.Written.{type_in}
use Rattle.name_rules.specs.ModuleOf.{structs_in}
use Rattle.name_rules.specs.Demand.{first_refusal}
use Rattle.name_rules.specs.TypeDemands.{type_demands, constant_demands}
use Rattle.name_rules.specs.FunctionDemands.{Called, called_with, called_after, call_demands, operand_demands, block_demand, operation_demands, instruction_demands, instructions_demands, case_demands, ending_demands, block_demands, blocks_demands}
use Rattle.name_rules.specs.Breaks.{known_in}
use Rattle.name_rules.proofs.Judging.{both_hold}
use Rattle.item_build.specs.Buildable.Narrow.{IsNarrowInstruction, IsNarrowCase, IsNarrowEnding, IsNarrowBlock}
use Rattle.item_build.specs.Buildable.Bodies.{CanInstruction, CanCase, CanEnding, CanBlock}
use Rattle.ir_resolve.proofs.OnBuildsWell.Given.{IsGiven, AreLocals, all_asked}
use Rattle.ir_resolve.proofs.OnBuildsWell.Types.{bits_narrow, can_type}
use Rattle.ir_resolve.proofs.OnBuildsWell.Constants.{can_hold}
use Rattle.ir_resolve.proofs.OnBuildsWell.Operations.{can_operand, can_target, can_operation}

module _ (items : List ItemTree) (entries : Lists) (given : IsGiven items entries) (all : Locals) (values labels : List LocalName) (locals : AreLocals all values labels) where
  can_instructions : (before : Called) (is : List InstructionTree) → All IsNarrowInstruction is → AllAre IsInstructionFormed is → first_refusal (instructions_demands (known_in items) all before is) ≡ None
      → All (CanInstruction (structs_in items) entries values labels) is
  can_instructions before [] n f e = All-nil (CanInstruction (structs_in items) entries values labels)
  can_instructions before (i ∷ is) n f e =
      let parts = both_hold (instruction_demands (known_in items) all before i) (instructions_demands (known_in items) all (called_after before (announced_result i)) is) e in
      let halves = both_hold (call_demands before i.result) (operation_demands (known_in items) all i.operation) parts.0 in
      let narrow = All-head IsNarrowInstruction i is n in
      let here = can_operation items entries given all values labels locals i.operation narrow.0 f.0 halves.1 in
      All-cons (CanInstruction (structs_in items) entries values labels) i is (here, narrow.1)
      (can_instructions (called_after before (announced_result i)) is (All-tail IsNarrowInstruction i is n) f.1 parts.1)

  can_case : (c : CaseTree) → IsNarrowCase c → first_refusal (case_demands (known_in items) all c) ≡ None → CanCase (structs_in items) entries values labels c
  can_case c n e =
      let first = both_hold (type_demands (known_in items) c.0.0) (constant_demands (known_in items) (type_in c.0.0) c.0.1 ++ block_demand (known_in items) all c.1 ∷ []) e in
      let second = both_hold (constant_demands (known_in items) (type_in c.0.0) c.0.1) (block_demand (known_in items) all c.1 ∷ []) first.1 in (
        (can_type items given.unbroken c.0.0 n.0 first.0, can_hold items entries given (type_in c.0.0) c.0.1 (bits_narrow c.0.0 n.0) n.1 second.0),
        (can_target items entries given all values labels locals c.1 [] second.1).0,
      )

  can_ending : (ending : EndingTree) → IsNarrowEnding ending → first_refusal (ending_demands (known_in items) all ending) ≡ None → CanEnding (structs_in items) entries values labels ending
  can_ending ReturnVoid n e = tt
  can_ending (Return value) n e = can_operand items entries given all values labels locals value n e
  can_ending (Jump target) n e = (can_target items entries given all values labels locals target [] e).0
  can_ending (Branch condition then_to else_to) n e =
      let parts = both_hold (operand_demands (known_in items) all condition) (block_demand (known_in items) all then_to ∷ block_demand (known_in items) all else_to ∷ []) e in
      let first = can_target items entries given all values labels locals then_to (block_demand (known_in items) all else_to ∷ []) parts.1 in
      let second = can_target items entries given all values labels locals else_to [] first.1 in
      (can_operand items entries given all values labels locals condition n parts.0, first.0, second.0)
  can_ending (Switch value otherwise cases) n e =
      let parts = both_hold (operand_demands (known_in items) all value) (block_demand (known_in items) all otherwise ∷ flat_map (case_demands (known_in items) all) cases) e in
      let first = can_target items entries given all values labels locals otherwise (flat_map (case_demands (known_in items) all) cases) parts.1 in (
        can_operand items entries given all values labels locals value n.0 parts.0,
        first.0,
        all_asked IsNarrowCase (CanCase (structs_in items) entries values labels) (case_demands (known_in items) all) can_case cases n.1 first.1,
      )
  can_ending Unreachable n e = tt

  -- blocks of which nothing is asked in vain
  pub can_blocks : (before : Called) (bs : List BlockTree) → All IsNarrowBlock bs → AllAre IsBlockFormed bs → first_refusal (blocks_demands (known_in items) all before bs) ≡ None
      → All (CanBlock (structs_in items) entries values labels) bs
  can_blocks before [] n f e = All-nil (CanBlock (structs_in items) entries values labels)
  can_blocks before (b ∷ bs) n f e =
      let inside = called_with before (true, b.label) in
      let parts = both_hold (block_demands (known_in items) all before b) (blocks_demands (known_in items) all (called_after before (announced_block b)) bs) e in
      let first = both_hold (call_demands before b.label) (instructions_demands (known_in items) all inside b.instructions ++ ending_demands (known_in items) all b.ending) parts.0 in
      let second = both_hold (instructions_demands (known_in items) all inside b.instructions) (ending_demands (known_in items) all b.ending) first.1 in
      let narrow = All-head IsNarrowBlock b bs n in
      All-cons (CanBlock (structs_in items) entries values labels) b bs (can_instructions inside b.instructions narrow.0 f.0.0 second.0, can_ending b.ending narrow.1 second.1)
      (can_blocks (called_after before (announced_block b)) bs (All-tail IsNarrowBlock b bs n) f.1 parts.1)
