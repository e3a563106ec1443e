-- For `push_way`: the phis of a function by their ids, and what they get.
use Rattle.std.specs.Prelude.{◌≡◌, ℕ, ◌<◌, nat_eq, ⊤, List, [], ◌∷◌, ◌++◌, All, map, flat_map, length, Option, Some, None, if◌then◌else◌}
use Rattle.module_arena.specs.declared.entry.Block.{Block}
use Rattle.module_arena.specs.declared.instruction.Incoming.{Incoming}
use Rattle.module_arena.specs.declared.instruction.Inst.{Inst}
use Rattle.module_arena.specs.declared.instruction.Inst.TheVariants as inst
use Rattle.module_arena.specs.declared.instruction.Value.{Value}
use Rattle.module_arena.specs.Lists.{value_names, function_blocks}
use Rattle.module_arena.specs.Module as m
use Rattle.run_rules.specs.Action as actions
use Rattle.run_rules.specs.Resolve.{phi_moves}
use Rattle.run_actions.specs.declared.stack.origin.Move.{Move}
use Rattle.run_actions.specs.Stack.Origins.{move_of}
use Rattle.run_decode.specs.Scopes.Scopes.{Framed, HasBlock, HasValueAt, label_of, scope_in}

-- the value of the first entry for a block
abbrev pub entry_from : List Incoming → ℕ → Option Value
entry_from [] from = None
entry_from (i ∷ is) from = if nat_eq i.block from then Some i.value else entry_from is from

-- a list of moves has gained these at its end
abbrev pub GainsMoves : List Move → List Move → List actions.Move → Type 0
GainsMoves old new gained = map move_of new ≡ map move_of old ++ gained

-- what phis get from a block
abbrev pub gets : Framed → ℕ → List m.Instruction → List actions.Move
gets s from is = flat_map (λ i. phi_moves (scope_in s.lists s.function) (label_of s.lists s.function from) i.result i.operation) is

-- an entry of a phi of that type is of the function
pub record HasEntry (s : Framed) (ty : ℕ) (i : Incoming) : Type 0 where
  pub value : HasValueAt s ty i.value
  pub block : HasBlock s i.block

-- the result and the entries of a phi of that type are of the function
pub record HasPhi (s : Framed) (phi ty : ℕ) (incoming : List Incoming) : Type 0 where
  pub known : phi < length (value_names s.function)
  pub entries : All (HasEntry s ty) incoming

-- an instruction, if it is a phi, is of the function
abbrev pub PhiSuits : Framed → Inst → Type 0
PhiSuits s (inst.Phi result ty incoming) = HasPhi s result ty incoming
PhiSuits s i = ⊤

-- so for all instructions of the function
abbrev pub AllPhisSuit : Framed → Type 0
AllPhisSuit s = All (λ (b : Block). All (PhiSuits s) b.instructions) (function_blocks s.function)
