-- Says how the code reads: the types that the parts of a module write, by the ids of an arena.
use Rattle.std.specs.Prelude.{◌≡◌, ℕ, ◌<◌, true, false, List, [], ◌∷◌, ◌++◌, length, map, flat_map, ⊤, Option, Some, None, slice_index_or}
use Rattle.std.specs.List.{fold}
use Rattle.type_table.specs.Tree.{Tree}
use Rattle.type_table.specs.declared.ir_type.StructBody.{StructBody}
use Rattle.type_table.specs.declared.ir_type.StructBody.TheVariants as body
use Rattle.type_table.specs.Types.{Types, tree}
use Rattle.module_arena.specs.declared.constant.TypedConst.{TypedConst}
use Rattle.module_arena.specs.declared.entry.AliasType.{AliasType}
use Rattle.module_arena.specs.declared.entry.AliasType.TheVariants as alias_type
use Rattle.module_arena.specs.declared.entry.Block.{Block}
use Rattle.module_arena.specs.declared.entry.Body.{Body}
use Rattle.module_arena.specs.declared.entry.Function.{Function}
use Rattle.module_arena.specs.declared.entry.Variable.{Variable}
use Rattle.module_arena.specs.declared.instruction.Case.{Case}
use Rattle.module_arena.specs.declared.instruction.Ending.{Ending}
use Rattle.module_arena.specs.declared.instruction.Ending.TheVariants as ending
use Rattle.module_arena.specs.declared.instruction.Incoming.{Incoming}
use Rattle.module_arena.specs.declared.instruction.Inst.{Inst}
use Rattle.module_arena.specs.declared.instruction.Inst.TheVariants as inst
use Rattle.module_arena.specs.declared.instruction.Operand.{Operand}
use Rattle.module_arena.specs.declared.instruction.Signature.{Signature}
use Rattle.module_arena.specs.declared.instruction.Value.{Value}
use Rattle.module_arena.specs.declared.instruction.Value.TheVariants as value
use Rattle.module_arena.specs.Lists.{Lists}
use Rattle.module_arena.specs.View.{constants_of, constant_at}
use Rattle.record_table.specs.Mentions as mentions
use Rattle.record_table.specs.Mentions.{with_tree}
use Rattle.record_write.specs.Order.Order.{Order, listed_trees, AllListed}

-- the types of the fields of a struct
abbrev pub in_struct_body : Types → Option StructBody → List Tree
in_struct_body t None = []
in_struct_body t (Some body.Opaque) = []
in_struct_body t (Some (body.Plain parts)) = map (tree t) parts
in_struct_body t (Some (body.Packed parts)) = map (tree t) parts

module _ (a : Lists) where
  -- a type
  abbrev pub in_type : ℕ → List Tree
  in_type ty = tree a.table ty ∷ []

  -- the types that a constant writes
  abbrev pub in_constant : ℕ → List Tree
  in_constant id = mentions.in_constant (constant_at (constants_of a) id)

  -- a constant behind its type
  abbrev pub in_typed : TypedConst → List Tree
  in_typed part = tree a.table part.ty ∷ in_constant part.value

  -- no type is that of a local's name
  abbrev pub in_value : Value → List Tree
  in_value (value.Local id) = []
  in_value (value.Known id) = in_constant id

  -- the type of an operand, and those of its value
  abbrev pub in_operand : Operand → List Tree
  in_operand o = tree a.table o.ty ∷ in_value o.value

  -- those of an entry of a phi
  abbrev pub in_incoming : Incoming → List Tree
  in_incoming i = in_value i.value

  -- those of a function type: what it returns, and its parameters
  abbrev pub in_signature : Signature → List Tree
  in_signature s = tree a.table s.returns ∷ map (tree a.table) s.parameters

  -- those of how many an `alloca` makes, where it says so
  abbrev pub in_count : Option Operand → List Tree
  in_count None = []
  in_count (Some o) = in_operand o

  -- those of an instruction
  abbrev pub in_inst : Inst → List Tree
  in_inst (inst.Binary opcode flags result left right) = in_operand left ++ in_value right
  in_inst (inst.Compare flags predicate result left right) = in_operand left ++ in_value right
  in_inst (inst.Convert opcode flags result operand to) = in_operand operand ++ in_type to
  in_inst (inst.Select result choice) = in_operand choice.condition ++ in_operand choice.first ++ in_operand choice.second
  in_inst (inst.Freeze result operand) = in_operand operand
  in_inst (inst.Phi result ty incoming) = tree a.table ty ∷ flat_map in_incoming incoming
  in_inst (inst.Load flags result ty address alignment) = tree a.table ty ∷ in_operand address
  in_inst (inst.Store flags stored address alignment) = in_operand stored ++ in_operand address
  in_inst (inst.Alloca result ty count alignment) = tree a.table ty ∷ in_count count
  in_inst (inst.GetElementPtr flags result source base indices) = tree a.table source ∷ in_operand base ++ flat_map in_operand indices
  in_inst (inst.Call call) = in_signature call.signature ++ in_value call.callee ++ flat_map in_operand call.arguments
  in_inst (inst.ExtractValue result aggregate indices) = in_operand aggregate
  in_inst (inst.InsertValue result insertion) = in_operand insertion.aggregate ++ in_operand insertion.part

  -- those of a case
  abbrev pub in_case : Case → List Tree
  in_case c = tree a.table c.ty ∷ in_constant c.value

  -- those of an end
  abbrev pub in_ending : Ending → List Tree
  in_ending ending.ReturnVoid = []
  in_ending (ending.Return operand) = in_operand operand
  in_ending (ending.Jump target) = []
  in_ending (ending.Branch condition then_to else_to) = in_operand condition
  in_ending (ending.Switch operand otherwise cases) = in_operand operand ++ flat_map in_case cases
  in_ending ending.Unreachable = []

  -- those of a block
  abbrev pub in_block : Block → List Tree
  in_block b = flat_map in_inst b.instructions ++ in_ending b.end

  -- those of an initialiser, where there is one
  abbrev pub in_initialiser : Option ℕ → List Tree
  in_initialiser None = []
  in_initialiser (Some id) = in_constant id

  -- those of a variable
  abbrev pub in_variable : Variable → List Tree
  in_variable v = tree a.table v.ty ∷ in_initialiser v.initialiser

  -- those of a body, where there is one
  abbrev pub in_body : Option Body → List Tree
  in_body None = []
  in_body (Some b) = flat_map in_block b.blocks

  -- those of a function
  abbrev pub in_function : Function → List Tree
  in_function f = tree a.table f.result ∷ flat_map (λ p. in_type p.ty) f.parameters ++ in_body f.body

  -- those that an alias says of its target
  abbrev pub in_alias_type : AliasType → List Tree
  in_alias_type (alias_type.Plain ty) = in_type ty
  in_alias_type (alias_type.Function returns parameters variadic) = tree a.table returns ∷ map (tree a.table) parameters

  -- ---- ids that are those of the arena

  -- a type of the arena
  abbrev pub KnowsType : ℕ → Type 0
  KnowsType ty = ty < length a.table.types

  -- a constant of the arena
  abbrev pub KnowsConstant : ℕ → Type 0
  KnowsConstant id = id < length a.constants

  -- both of a constant with its type
  abbrev pub KnowsTyped : TypedConst → Type 0
  KnowsTyped part = (part.ty < length a.table.types) × (part.value < length a.constants)

  -- a local, or a constant of the arena
  abbrev pub KnowsValue : Value → Type 0
  KnowsValue (value.Local id) = ⊤
  KnowsValue (value.Known id) = id < length a.constants

  -- a type and a value of the arena
  abbrev pub KnowsOperand : Operand → Type 0
  KnowsOperand o = (o.ty < length a.table.types) × KnowsValue o.value

  -- ---- types that are listed

  -- the order is one of the arena's types, and a constant that was gone through has none but listed types in it
  pub record IsReady (o : Order) : Type 0 where
    pub types : o.types ≡ a.table
    pub gone : (id : ℕ) → slice_index_or o.gone id false ≡ true → AllListed (listed_trees o) (in_constant id)

  -- so many more types were mentioned, one behind the other
  pub record Goes (old new : Order) (written : List Tree) : Type 0 where
    pub ready : IsReady new
    pub listed : listed_trees new ≡ fold (λ all t. with_tree t all) (listed_trees old) written
