-- For `write` of bitcode: the types that a module mentions, in the order in which they first occur in its structs, variables,
-- functions and aliases.
use Rattle.std.specs.Prelude.{ℕ, List, [], ◌∷◌, ◌++◌, flat_map, map, Option, Some, None, if◌then◌else◌}
use Rattle.std.specs.List.{list_any, fold}
use Rattle.type_table.specs.Tree.{Tree, int, ptr, void, array, struct, named, Trees, no_trees, more_trees, TreeBody, opaque_body, fields}
use Rattle.module_arena.specs.Module.{Constant, Integer, Truth, Null, Undef, Poison, ZeroInitializer, Address, ByteString, Aggregate, ElementAddress, Cast, Binary, Constants, no_constants, more_constants, Value, Local, Known, Operand, Incoming, Operation, BinaryOperation, Compare, Convert, Select, Freeze, Phi, Load, Store, Alloca, GetElementPtr, Call, ExtractValue, InsertValue, Case, Ending, ReturnVoid, Return, Jump, Branch, Switch, Unreachable, Block, Variable, AliasType, PlainType, FunctionType, Function, Module}
use Rattle.module_arena.specs.Same.{same_type}

abbrev mutual
  -- the types that a constant writes, in order
  pub in_constant : Constant → List Tree
  in_constant (Integer n) = []
  in_constant (Truth b) = []
  in_constant Null = []
  in_constant Undef = []
  in_constant Poison = []
  in_constant ZeroInitializer = []
  in_constant (Address g) = []
  in_constant (ByteString bytes) = []
  in_constant (Aggregate round cs) = in_constants cs
  in_constant (ElementAddress f source cs) = source ∷ in_constants cs
  in_constant (Cast o from c to) = from ∷ in_constant c ++ to ∷ []
  in_constant (Binary o f s a u b) = s ∷ in_constant a ++ u ∷ in_constant b

  -- and constants behind their types
  pub in_constants : Constants → List Tree
  in_constants no_constants = []
  in_constants (more_constants t c cs) = t ∷ in_constant c ++ in_constants cs

-- those of a value
abbrev pub in_value : Value → List Tree
in_value (Local name) = []
in_value (Known c) = in_constant c

-- those of an operand
abbrev pub in_operand : Operand → List Tree
in_operand o = o.ty ∷ in_value o.value

-- those of an entry of a phi
abbrev pub in_incoming : Incoming → List Tree
in_incoming i = in_value i.value

-- those of what may be there
abbrev pub in_some : {A : Type 0} → (A → List Tree) → Option A → List Tree
in_some f None = []
in_some f (Some x) = f x

-- those of what an instruction does
abbrev pub in_operation : Operation → List Tree
in_operation (BinaryOperation o f a b) = in_operand a ++ in_value b
in_operation (Compare f p a b) = in_operand a ++ in_value b
in_operation (Convert o f a t) = in_operand a ++ t ∷ []
in_operation (Select c a b) = in_operand c ++ in_operand a ++ in_operand b
in_operation (Freeze a) = in_operand a
in_operation (Phi t incoming) = t ∷ flat_map in_incoming incoming
in_operation (Load f t a align) = t ∷ in_operand a
in_operation (Store f v a align) = in_operand v ++ in_operand a
in_operation (Alloca t count align) = t ∷ in_some in_operand count
in_operation (GetElementPtr f t base indices) = t ∷ in_operand base ++ flat_map in_operand indices
in_operation (Call s callee arguments) = s.returns ∷ s.parameters ++ in_value callee ++ flat_map in_operand arguments
in_operation (ExtractValue a indices) = in_operand a
in_operation (InsertValue a part indices) = in_operand a ++ in_operand part

-- those of a case
abbrev pub in_case : Case → List Tree
in_case c = c.ty ∷ in_constant c.value

-- those of an end
abbrev pub in_ending : Ending → List Tree
in_ending ReturnVoid = []
in_ending (Return v) = in_operand v
in_ending (Jump b) = []
in_ending (Branch c a b) = in_operand c
in_ending (Switch v b cases) = in_operand v ++ flat_map in_case cases
in_ending Unreachable = []

-- those of a block
abbrev pub in_block : Block → List Tree
in_block b = flat_map (λ i. in_operation i.operation) b.instructions ++ in_ending b.ending

-- these types as a list
abbrev pub tree_list : Trees → List Tree
tree_list no_trees = []
tree_list (more_trees t ts) = t ∷ tree_list ts

-- those of the fields of a struct, whose own name is none of them
abbrev pub in_struct : List ℕ × TreeBody → List Tree
in_struct s = in_body s.1 where
  -- those of a body
  in_body : TreeBody → List Tree
  in_body opaque_body = []
  in_body (fields packed ts) = tree_list ts

-- those of a variable
abbrev pub in_variable : Variable → List Tree
in_variable v = v.ty ∷ in_some in_constant v.initialiser

-- those of a function
abbrev pub in_function : Function → List Tree
in_function f = f.returns ∷ map (λ p. p.ty) f.parameters ++ in_some (λ blocks. flat_map in_block blocks) f.body

-- those that an alias says of what it is of
abbrev pub in_alias_type : AliasType → List Tree
in_alias_type (PlainType t) = t ∷ []
in_alias_type (FunctionType s) = s.returns ∷ s.parameters

-- the types that a module writes, as often as it does
abbrev pub written_types : Module → List Tree
written_types m =
    flat_map in_struct m.structs ++ flat_map in_variable m.variables ++ flat_map in_function m.functions ++ flat_map (λ a. in_alias_type a.ty) m.aliases

-- one more type, where it is new
abbrev pub with_new : Tree → List Tree → List Tree
with_new t all = if list_any (same_type t) all then all else (all ++ t ∷ [])

abbrev mutual
  -- these types, and behind them the parts of one more from left to right and then that type, each where it is new
  pub with_tree : Tree → List Tree → List Tree
  with_tree (int w) all = with_new (int w) all
  with_tree ptr all = with_new ptr all
  with_tree void all = with_new void all
  with_tree (array n t) all = with_new (array n t) (with_tree t all)
  with_tree (struct packed ts) all = with_new (struct packed ts) (with_trees ts all)
  with_tree (named name) all = with_new (named name) all

  -- and those of several, one behind the other
  pub with_trees : Trees → List Tree → List Tree
  with_trees no_trees all = all
  with_trees (more_trees t ts) all = with_trees ts (with_tree t all)

-- each type once, behind its parts
abbrev pub mentioned : Module → List Tree
mentioned m = fold (λ all t. with_tree t all) [] (written_types m)
