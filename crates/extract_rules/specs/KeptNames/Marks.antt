-- Says how the code of `named_by_kept` reads: the names in constants that are marked.
use Rattle.std.specs.Prelude.{◌≡◌, ℕ, ◌≤◌, Bool, false, ◌||◌, List, [], ◌∷◌, ◌++◌, flat_map, length, if◌then◌else◌}
use Rattle.std.specs.Option.{option_map_or}
use Rattle.module_arena.specs.declared.constant.Const.{Const}
use Rattle.module_arena.specs.declared.constant.Const.TheVariants as const
use Rattle.module_arena.specs.declared.entry.Block.{Block}
use Rattle.module_arena.specs.declared.entry.Function.{Function}
use Rattle.module_arena.specs.declared.entry.Variable.{Variable}
use Rattle.module_arena.specs.declared.instruction.Ending.{Ending}
use Rattle.module_arena.specs.declared.instruction.Ending.TheVariants as ending
use Rattle.module_arena.specs.declared.instruction.Inst.{Inst}
use Rattle.module_arena.specs.declared.instruction.Inst.TheVariants as inst
use Rattle.module_arena.specs.declared.instruction.Operand.{Operand}
use Rattle.module_arena.specs.declared.instruction.Value.{Value}
use Rattle.module_arena.specs.declared.instruction.Value.TheVariants as value
use Rattle.module_arena.specs.Lists.{Lists, name_at}
use Rattle.module_arena.specs.Module.{Bytes, Constant}
use Rattle.module_arena.specs.UsedNames.{names_in_constant}
use Rattle.module_arena.specs.View.{constant_at}
use Rattle.extract_rules.specs.Selected.{is_among}

-- the names in the constants that are marked
abbrev pub marked_names : List Constant → List Bool → List Bytes
marked_names [] marks = []
marked_names (c ∷ cs) [] = []
marked_names (c ∷ cs) (is_marked ∷ marks) = (if is_marked then names_in_constant c else []) ++ marked_names cs marks

-- these names are marked too: in the constants that are marked is one of those from before or one of these
pub record Marks (cs : List Constant) (old : List Bool) (more : List Bytes) (new : List Bool) : Type 0 where
  pub sized : length new ≡ length old
  pub among : (name : Bytes) → is_among (marked_names cs new) name ≡ (is_among (marked_names cs old) name || is_among more name)

-- they are marked, whatever the first constants are
abbrev pub MarksAll : List Bool → (List Constant → List Bytes) → List Bool → Type 0
MarksAll old more new = (cs : List Constant) → length cs ≤ length old → Marks cs old (more cs) new

-- the elements of which a flag is set
abbrev pub picked : {A : Type 0} → List Bool → List A → List A
picked [] xs = []
picked (b ∷ bs) [] = []
picked (b ∷ bs) (x ∷ xs) = if b then x ∷ picked bs xs else picked bs xs

module _ (cs : List Constant) where
  -- the names in the constant with that number
  abbrev pub in_const : ℕ → List Bytes
  in_const id = names_in_constant (constant_at cs id)

  -- those in the parts of a constant
  abbrev pub in_parts : Const → List Bytes
  in_parts (const.Aggregate round elements) = flat_map (λ t. in_const t.value) elements
  in_parts (const.ElementAddress flags address) = flat_map (λ t. in_const t.value) address.operands
  in_parts (const.Cast opcode operand to) = in_const operand.value
  in_parts (const.Binary opcode flags pair) = in_const pair.left.value ++ in_const pair.right.value
  in_parts (const.Integer number) = []
  in_parts (const.Truth truth) = []
  in_parts const.Null = []
  in_parts const.Undef = []
  in_parts const.Poison = []
  in_parts const.ZeroInitializer = []
  in_parts (const.Address g) = []
  in_parts (const.ByteString bytes) = []

  -- those in a value
  abbrev pub in_value : Value → List Bytes
  in_value (value.Known id) = in_const id
  in_value (value.Local id) = []

  -- those in the initialiser of a variable
  abbrev pub in_variable : Variable → List Bytes
  in_variable v = option_map_or in_const v.initialiser []

  -- those in an operand
  abbrev pub in_operand : Operand → List Bytes
  in_operand o = in_value o.value

  -- those in an instruction
  abbrev pub in_inst : Inst → List Bytes
  in_inst (inst.Binary opcode flags result left right) = in_operand left ++ in_value right
  in_inst (inst.Compare flags predicate result left right) = in_operand left ++ in_value right
  in_inst (inst.Convert opcode flags result operand to) = in_operand operand
  in_inst (inst.Select result choice) = in_operand choice.condition ++ (in_operand choice.first ++ in_operand choice.second)
  in_inst (inst.Freeze result operand) = in_operand operand
  in_inst (inst.Phi result ty incoming) = flat_map (λ i. in_value i.value) incoming
  in_inst (inst.Load flags result ty address alignment) = in_operand address
  in_inst (inst.Store flags stored address alignment) = in_operand stored ++ in_operand address
  in_inst (inst.Alloca result ty count alignment) = option_map_or in_operand count []
  in_inst (inst.GetElementPtr flags result source base indices) = in_operand base ++ flat_map in_operand indices
  in_inst (inst.Call call) = in_value call.callee ++ flat_map in_operand call.arguments
  in_inst (inst.ExtractValue result aggregate indices) = in_operand aggregate
  in_inst (inst.InsertValue result insertion) = in_operand insertion.aggregate ++ in_operand insertion.part

  -- those in an end
  abbrev pub in_ending : Ending → List Bytes
  in_ending ending.ReturnVoid = []
  in_ending (ending.Return operand) = in_operand operand
  in_ending (ending.Jump target) = []
  in_ending (ending.Branch condition then_to else_to) = in_operand condition
  in_ending (ending.Switch operand otherwise cases) = in_operand operand ++ flat_map (λ c. in_const c.value) cases
  in_ending ending.Unreachable = []

  -- those in a block
  abbrev pub in_block : Block → List Bytes
  in_block b = flat_map in_inst b.instructions ++ in_ending b.end

  -- those in a function
  abbrev pub in_function : Function → List Bytes
  in_function f = option_map_or (λ b. flat_map in_block b.blocks) f.body []

-- the entry that a constant is
abbrev pub own_names : Lists → Const → List Bytes
own_names a (const.Address g) = name_at a g ∷ []
own_names a (const.Aggregate round elements) = []
own_names a (const.ElementAddress flags address) = []
own_names a (const.Cast opcode operand to) = []
own_names a (const.Binary opcode flags pair) = []
own_names a (const.Integer number) = []
own_names a (const.Truth truth) = []
own_names a const.Null = []
own_names a const.Undef = []
own_names a const.Poison = []
own_names a const.ZeroInitializer = []
own_names a (const.ByteString bytes) = []

-- a name is among what is found exactly where it was among the old or is among more
abbrev pub IsAmongEach : List Bytes → List Bytes → List Bytes → Type 0
IsAmongEach found old more = (name : Bytes) → is_among found name ≡ (is_among old name || is_among more name)

-- none of so many constants is marked
pub record AreUnmarked (count : ℕ) (marks : List Bool) : Type 0 where
  pub sized : length marks ≡ count
  pub none : (cs : List Constant) (name : Bytes) → is_among (marked_names cs marks) name ≡ false
