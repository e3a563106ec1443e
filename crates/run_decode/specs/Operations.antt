-- Says how the code of `decode` reads: what an instruction by its ids is to come to.
use Rattle.std.specs.Prelude.{Bool, true, false, Option}
use Rattle.std.specs.Option.{option_map, option_map_or}
use Rattle.ir_eval.specs.declared.value.Scalar.TheVariants as scalar
use Rattle.module_arena.specs.declared.instruction.Inst.{Inst}
use Rattle.module_arena.specs.declared.instruction.Inst.TheVariants as inst
use Rattle.module_arena.specs.declared.instruction.Operand.{Operand}
use Rattle.run_rules.specs.Action as actions
use Rattle.run_rules.specs.Resolve.{instruction_in}
use Rattle.run_rules.specs.Scope.{scalar_in}
use Rattle.run_decode.specs.declared.flat.action.Action.{Action}
use Rattle.run_decode.specs.declared.flat.pools.Pools.{Pools}
use Rattle.run_decode.specs.Flat.Grown.{Stands}
use Rattle.run_decode.specs.Scopes.Scopes.{Framed, instruction_of, operand_of, scope_in}

-- an instruction is a call
abbrev pub is_call : Inst → Bool
is_call (inst.Call call) = true
is_call _ = false

-- where the count of an `alloca` is had from: 1 where none is written
abbrev pub count_in : Framed → Option Operand → actions.Origin
count_in s count = option_map_or (scalar_in (scope_in s.lists s.function)) (option_map (operand_of s.lists s.function) count) (actions.Known (scalar.Int 1))

-- the action to which an instruction comes in a run of the module alone
abbrev pub action_from : Framed → Inst → actions.Action
action_from s i = instruction_in (scope_in s.lists s.function) (instruction_of s.lists s.function i)

-- the flat action is that one
abbrev pub Meant : Framed → Pools → Inst → Action → Type 0
Meant s p i action = Stands s.lists p action (action_from s i)
