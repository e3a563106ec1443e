-- For `add_name`, and how the code of `choose` reads: names that are added to others, and the functions that entries of an arena call.
use Rattle.std.specs.Prelude.{◌≡◌, ℕ, ◌<◌, ◌||◌, ⊤, All, slice_get, List, [], ◌++◌, map, filter, flat_map, length}
use Rattle.std.specs.Option.{option_map_or}
use Rattle.module_arena.specs.declared.entry.Block.{Block}
use Rattle.module_arena.specs.declared.entry.Function.{Function}
use Rattle.module_arena.specs.declared.entry.GlobalId.{GlobalId}
use Rattle.module_arena.specs.declared.entry.GlobalId.TheVariants as global
use Rattle.module_arena.specs.declared.instruction.Inst.{Inst}
use Rattle.module_arena.specs.declared.instruction.Inst.TheVariants as inst
use Rattle.module_arena.specs.declared.instruction.Value.{Value}
use Rattle.module_arena.specs.declared.instruction.Value.TheVariants as value
use Rattle.module_arena.specs.Lists.{Lists}
use Rattle.module_arena.specs.Module.{Bytes, Module}
use Rattle.module_arena.specs.View.{module_of, constant_at, constants_of}
use Rattle.module_arena.specs.Mentions.{bare_values_of}
use Rattle.extract_rules.specs.Selected.{is_among, defines_function, behind, written_in_constant, with_called, times}

-- these names, behind others that stay: with each there is one of the others or one of these
pub record Adds (old more new : List Bytes) : Type 0 where
  pub grows : (rest : List Bytes) × (new ≡ old ++ rest)
  pub among : (name : Bytes) → is_among new name ≡ (is_among old name || is_among more name)

-- the names stand for these
abbrev pub AreNames : List Bytes → List Bytes → Type 0
AreNames found names = (name : Bytes) → is_among found name ≡ is_among names name

-- the names, and all functions with bodies that these call, those that they call, and so on
abbrev pub with_all_called : Module → List Bytes → List Bytes
with_all_called m names = names ++ times (length m.functions) (with_called m) names

-- a constant is one of so many
abbrev pub HasConstant : ℕ → Value → Type 0
HasConstant constants (value.Known id) = id < constants
HasConstant constants (value.Local id) = ⊤

-- constants that are called, or are operands without a type, are of so many
abbrev pub HasCallees : ℕ → Block → Type 0
HasCallees constants b = All (λ i. All (HasConstant constants) (bare_values_of i)) b.instructions

-- ---- what is called in an arena: functions with bodies, by their names or by an alias

-- the functions with bodies that these names stand for
abbrev pub defined_behind : Module → List Bytes → List Bytes
defined_behind m names = filter (defines_function m) (map (behind m) names)

-- the entry that a value is
abbrev pub written_in : Lists → Value → List Bytes
written_in a (value.Known id) = written_in_constant (constant_at (constants_of a) id)
written_in a (value.Local id) = []

-- what an instruction calls
abbrev pub called_in : Lists → Inst → List Bytes
called_in a (inst.Call call) = defined_behind (module_of a) (written_in a call.callee)
called_in a (inst.Binary opcode flags result left right) = []
called_in a (inst.Compare flags predicate result left right) = []
called_in a (inst.Convert opcode flags result operand to) = []
called_in a (inst.Select result choice) = []
called_in a (inst.Freeze result operand) = []
called_in a (inst.Phi result ty incoming) = []
called_in a (inst.Load flags result ty address alignment) = []
called_in a (inst.Store flags stored address alignment) = []
called_in a (inst.Alloca result ty count alignment) = []
called_in a (inst.GetElementPtr flags result source base indices) = []
called_in a (inst.ExtractValue result aggregate indices) = []
called_in a (inst.InsertValue result insertion) = []

-- what a block calls
abbrev pub called_in_block : Lists → Block → List Bytes
called_in_block a b = flat_map (called_in a) b.instructions

-- what a function calls
abbrev pub called_in_function : Lists → Function → List Bytes
called_in_function a f = option_map_or (λ b. flat_map (called_in_block a) b.blocks) f.body []

-- what the entry with an id calls
abbrev pub called_in_entry : Lists → GlobalId → List Bytes
called_in_entry a (global.Function id) = option_map_or (called_in_function a) (slice_get a.functions id) []
called_in_entry a (global.Variable id) = []
called_in_entry a (global.Alias id) = []
