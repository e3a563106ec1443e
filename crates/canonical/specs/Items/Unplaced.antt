-- For `tokens_are_items` and `one_list_of_items`: items without the places of their tokens.
use Rattle.std.specs.Prelude.{map, option_map}
use Rattle.ir_base.specs.declared.place.Place.{Place}
use Rattle.ir_terminals.specs.declared.values.Integer.{Integer}
use Rattle.ir_terminals.specs.declared.values.PlacedName.{PlacedName}
use Rattle.ir_terminals.specs.declared.values.PlacedText.{PlacedText}
use Rattle.ir_terminals.specs.declared.values.Local.{Local}
use Rattle.ir_terminals.specs.declared.values.Local.TheVariants as locals
use Rattle.ir_phrases.specs.Constants.Tree.{TypeTree, IntegerType, PointerType, VoidType, ArrayType, StructType, NamedType, TypeTrees, no_types, more_types, ConstantTree, IntegerConstant, SimpleConstant, AddressConstant, BytesConstant, ListConstant, ElementAddress, Conversion, Arithmetic, ConstantTrees, no_constants, more_constants, TypedConstantTree, ValueTree, LocalValue, ConstantValue, TypedValueTree}
use Rattle.ir_phrases.specs.Instructions.Tree.{SignatureTree, IncomingTree, OperationTree, Binary, Compare, Cast, Select, Freeze, Phi, Load, Store, Alloca, GetElementPtr, Call, ExtractValue, InsertValue, InstructionTree, CaseTree, EndingTree, ReturnVoid, Return, Jump, Branch, Switch, Unreachable, BlockTree}
use Rattle.ir_syntax.specs.Tree.{BodyTree, OpaqueBody, PlainBody, PackedBody, VariableTree, AliasTypeTree, PlainAlias, FunctionAlias, AliasTree, ParameterTree, HeadTree, ItemTree, SourceFilename, DataLayout, TargetTriple, Struct, Variable, Alias, Declaration, Definition, Attributes, Metadata}

-- the place of what has none
abbrev pub nowhere : Place
nowhere = record { line = 0; column = 0 }

-- an integer without its place
abbrev pub unplaced_integer : Integer → Integer
unplaced_integer i = record { negative = i.negative; magnitude = i.magnitude; place = nowhere }

-- a name
abbrev pub unplaced_name : PlacedName → PlacedName
unplaced_name n = record { name = n.name; place = nowhere }

-- a text
abbrev pub unplaced_text : PlacedText → PlacedText
unplaced_text t = record { text = t.text; place = nowhere }

-- a local, named or numbered
abbrev pub unplaced_local : Local → Local
unplaced_local (locals.Named n) = locals.Named (unplaced_name n)
unplaced_local (locals.Numbered n place) = locals.Numbered n nowhere

abbrev mutual
  -- a type
  pub unplaced_type : TypeTree → TypeTree
  unplaced_type (IntegerType place width) = IntegerType nowhere width
  unplaced_type (PointerType place) = PointerType nowhere
  unplaced_type (VoidType place) = VoidType nowhere
  unplaced_type (ArrayType place count element) = ArrayType nowhere (unplaced_integer count) (unplaced_type element)
  unplaced_type (StructType place packed fields) = StructType nowhere packed (unplaced_types fields)
  unplaced_type (NamedType name) = NamedType (unplaced_name name)

  -- types, in order
  pub unplaced_types : TypeTrees → TypeTrees
  unplaced_types no_types = no_types
  unplaced_types (more_types t ts) = more_types (unplaced_type t) (unplaced_types ts)

abbrev mutual
  -- a constant
  pub unplaced_constant : ConstantTree → ConstantTree
  unplaced_constant (IntegerConstant i) = IntegerConstant (unplaced_integer i)
  unplaced_constant (SimpleConstant s place) = SimpleConstant s nowhere
  unplaced_constant (AddressConstant name) = AddressConstant (unplaced_name name)
  unplaced_constant (BytesConstant text) = BytesConstant (unplaced_text text)
  unplaced_constant (ListConstant place brackets elements) = ListConstant nowhere brackets (unplaced_constants elements)
  unplaced_constant (ElementAddress place flags source operands) = ElementAddress nowhere flags (unplaced_type source) (unplaced_constants operands)
  unplaced_constant (Conversion place opcode from value to) = Conversion nowhere opcode (unplaced_type from) (unplaced_constant value) (unplaced_type to)
  unplaced_constant (Arithmetic place opcode flags left_type left right_type right) =
      Arithmetic nowhere opcode flags
      (unplaced_type left_type) (unplaced_constant left) (unplaced_type right_type) (unplaced_constant right)

  -- constants, each behind its type
  pub unplaced_constants : ConstantTrees → ConstantTrees
  unplaced_constants no_constants = no_constants
  unplaced_constants (more_constants t c cs) = more_constants (unplaced_type t) (unplaced_constant c) (unplaced_constants cs)

-- a constant behind its type
abbrev pub unplaced_typed : TypedConstantTree → TypedConstantTree
unplaced_typed c = (unplaced_type c.0, unplaced_constant c.1)

-- a value
abbrev pub unplaced_value : ValueTree → ValueTree
unplaced_value (LocalValue l) = LocalValue (unplaced_local l)
unplaced_value (ConstantValue c) = ConstantValue (unplaced_constant c)

-- a value behind its type
abbrev pub unplaced_operand : TypedValueTree → TypedValueTree
unplaced_operand v = (unplaced_type v.0, unplaced_value v.1)

-- the function type of a call
abbrev pub unplaced_signature : SignatureTree → SignatureTree
unplaced_signature s = (map unplaced_type s.0, s.1)

-- an entry of a phi
abbrev pub unplaced_incoming : IncomingTree → IncomingTree
unplaced_incoming i = (unplaced_value i.0, unplaced_local i.1)

-- what an instruction does
abbrev pub unplaced_operation : OperationTree → OperationTree
unplaced_operation (Binary opcode flags left right) = Binary opcode flags (unplaced_operand left) (unplaced_value right)
unplaced_operation (Compare flags predicate left right) = Compare flags predicate (unplaced_operand left) (unplaced_value right)
unplaced_operation (Cast opcode flags value to) = Cast opcode flags (unplaced_operand value) (unplaced_type to)
unplaced_operation (Select condition first second) = Select (unplaced_operand condition) (unplaced_operand first) (unplaced_operand second)
unplaced_operation (Freeze value) = Freeze (unplaced_operand value)
unplaced_operation (Phi ty incoming) = Phi (unplaced_type ty) (map unplaced_incoming incoming)
unplaced_operation (Load flags ty address alignment) = Load flags (unplaced_type ty) (unplaced_operand address) (option_map unplaced_integer alignment)
unplaced_operation (Store flags value address alignment) = Store flags (unplaced_operand value) (unplaced_operand address) (option_map unplaced_integer alignment)
unplaced_operation (Alloca ty count alignment) = Alloca (unplaced_type ty) (option_map unplaced_operand count) (option_map unplaced_integer alignment)
unplaced_operation (GetElementPtr flags source operands) = GetElementPtr flags (unplaced_type source) (map unplaced_operand operands)
unplaced_operation (Call c) =
    Call (record {
      returns = unplaced_type c.returns;
      signature = option_map unplaced_signature c.signature;
      callee = unplaced_value c.callee;
      arguments = map unplaced_operand c.arguments;
    })
unplaced_operation (ExtractValue value indices) = ExtractValue (unplaced_operand value) (map unplaced_integer indices)
unplaced_operation (InsertValue value part indices) = InsertValue (unplaced_operand value) (unplaced_operand part) (map unplaced_integer indices)

-- an instruction
abbrev pub unplaced_instruction : InstructionTree → InstructionTree
unplaced_instruction i = record { result = option_map unplaced_local i.result; operation = unplaced_operation i.operation }

-- a case of a switch
abbrev pub unplaced_case : CaseTree → CaseTree
unplaced_case c = (unplaced_typed c.0, unplaced_local c.1)

-- the end of a block
abbrev pub unplaced_ending : EndingTree → EndingTree
unplaced_ending ReturnVoid = ReturnVoid
unplaced_ending (Return value) = Return (unplaced_operand value)
unplaced_ending (Jump target) = Jump (unplaced_local target)
unplaced_ending (Branch condition then_to else_to) = Branch (unplaced_operand condition) (unplaced_local then_to) (unplaced_local else_to)
unplaced_ending (Switch value otherwise cases) = Switch (unplaced_operand value) (unplaced_local otherwise) (map unplaced_case cases)
unplaced_ending Unreachable = Unreachable

-- a block
abbrev pub unplaced_block : BlockTree → BlockTree
unplaced_block b = record { label = option_map unplaced_local b.label; instructions = map unplaced_instruction b.instructions; ending = unplaced_ending b.ending }

-- what a struct is
abbrev pub unplaced_body : BodyTree → BodyTree
unplaced_body OpaqueBody = OpaqueBody
unplaced_body (PlainBody fields) = PlainBody (map unplaced_type fields)
unplaced_body (PackedBody fields) = PackedBody (map unplaced_type fields)

-- a variable
abbrev pub unplaced_variable : VariableTree → VariableTree
unplaced_variable v = record {
  name = unplaced_name v.name;
  linkage = v.linkage;
  constant = v.constant;
  ty = unplaced_type v.ty;
  initialiser = option_map unplaced_constant v.initialiser;
  alignment = option_map unplaced_integer v.alignment;
}

-- the type of an alias
abbrev pub unplaced_alias_type : AliasTypeTree → AliasTypeTree
unplaced_alias_type (PlainAlias ty) = PlainAlias (unplaced_type ty)
unplaced_alias_type (FunctionAlias returns parameters variadic) = FunctionAlias (unplaced_type returns) (map unplaced_type parameters) variadic

-- an alias
abbrev pub unplaced_alias : AliasTree → AliasTree
unplaced_alias a = record {
  name = unplaced_name a.name;
  linkage = a.linkage;
  ty = unplaced_alias_type a.ty;
  target = unplaced_name a.target;
}

-- a parameter
abbrev pub unplaced_parameter : ParameterTree → ParameterTree
unplaced_parameter p = (unplaced_type p.0, option_map unplaced_local p.1)

-- what a function is called and gives
abbrev pub unplaced_head : HeadTree → HeadTree
unplaced_head h = record { linkage = h.linkage; returns = unplaced_type h.returns; name = unplaced_name h.name }

-- an item
abbrev pub unplaced : ItemTree → ItemTree
unplaced (SourceFilename place text) = SourceFilename nowhere (unplaced_text text)
unplaced (DataLayout place text) = DataLayout nowhere (unplaced_text text)
unplaced (TargetTriple place text) = TargetTriple nowhere (unplaced_text text)
unplaced (Struct name body) = Struct (unplaced_name name) (unplaced_body body)
unplaced (Variable v) = Variable (unplaced_variable v)
unplaced (Alias a) = Alias (unplaced_alias a)
unplaced (Declaration place head parameters variadic) = Declaration nowhere (unplaced_head head) (map unplaced_type parameters) variadic
unplaced (Definition place head parameters blocks) = Definition nowhere (unplaced_head head) (map unplaced_parameter parameters) (map unplaced_block blocks)
unplaced (Attributes place) = Attributes nowhere
unplaced (Metadata place) = Metadata nowhere
