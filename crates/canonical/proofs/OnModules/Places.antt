-- The module of items does not see the places of their tokens.
use Rattle.std.proofs.Common.{◌≡◌, ℕ, List, [], ◌∷◌, ◌++◌, map, Bool, true, false, cond, Option, Some, None, option_map, refl, sym, ap, ◌∙◌}
use Rattle.std.proofs.lemmas.List.{map-append}
use Rattle.std.specs.List.{cons_option}
use Rattle.ir_terminals.specs.declared.values.PlacedText.{PlacedText}
use Rattle.std.specs.Prelude.{filter_map, is_some, not, ◌||◌, if◌then◌else◌, flat_map}
use Rattle.ir_terminals.specs.declared.values.Integer.{Integer}
use Rattle.ir_terminals.specs.declared.values.Local.{Local}
use Rattle.ir_terminals.specs.declared.values.Local.TheVariants as locals
use Rattle.ir_phrases.specs.Constants.Tree.{TypeTree, IntegerType, PointerType, VoidType, ArrayType, StructType, NamedType, TypeTrees, no_types, more_types, ConstantTree, ConstantTrees, ValueTree, LocalValue, ConstantValue, TypedValueTree}
use Rattle.ir_phrases.specs.Constants.Tree as tree
use Rattle.ir_phrases.specs.Instructions.Tree.{SignatureTree, IncomingTree, OperationTree, InstructionTree, CaseTree, EndingTree, BlockTree}
use Rattle.ir_phrases.specs.Instructions.Tree as code
use Rattle.ir_syntax.specs.Tree.{BodyTree, ParameterTree, ItemTree}
use Rattle.ir_syntax.specs.Tree as item
use Rattle.type_table.specs.Tree.{Tree, ptr, array, struct, more_trees, fields}
use Rattle.module_arena.specs.Module as m
use Rattle.canonical.specs.Items.Unplaced.{unplaced_integer, unplaced_text, unplaced_local, unplaced_type, unplaced_types, unplaced_constant, unplaced_constants, unplaced_value, unplaced_operand, unplaced_signature, unplaced_incoming, unplaced_operation, unplaced_instruction, unplaced_case, unplaced_ending, unplaced_block, unplaced_body, unplaced_variable, unplaced_alias_type, unplaced_alias, unplaced_parameter, unplaced}
use Rattle.name_rules.specs.Written.{natural, brackets_in, type_in, types_in, fields_in, body_in, constant_in, constants_in, value_in, operand_in, alignment_in}
use Rattle.name_rules.specs.Locals.{local_in, called, next_behind, announced_parameter, announced_result, announced_block, next_after, has_result, gives, is_void, Announced}
use Rattle.name_rules.specs.Bodies.{incoming_in, signature_in, operation_in, instruction_in, instructions_in, case_in, ending_in, block_in, blocks_in}
use Rattle.name_rules.specs.ModuleOf.{first_of, source_in, layout_in, triple_in, text_in, struct_in, linkage_in, variable_of, variable_in, alias_type_in, alias_of, alias_in, numbered_parameters, parameters_in, function_in, module_of_items}

-- a map after one that it does not see
pub map_unseen : {A B : Type 0} (f : A → B) (e : A → A) → ((a : A) → f (e a) ≡ f a) → (xs : List A) → map f (map e xs) ≡ map f xs
map_unseen f e h [] = refl
map_unseen f e h (x ∷ xs) = λ i. h x i ∷ map_unseen f e h xs i

option_unseen : {A B : Type 0} (f : A → B) (e : A → A) → ((a : A) → f (e a) ≡ f a) → (x : Option A) → option_map f (option_map e x) ≡ option_map f x
option_unseen f e h None = refl
option_unseen f e h (Some a) = ap Some (h a)

pub local_unseen : (l : Local) → local_in (unplaced_local l) ≡ local_in l
local_unseen (locals.Named n) = refl
local_unseen (locals.Numbered n place) = refl

mutual
  pub type_unseen : (t : TypeTree) → type_in (unplaced_type t) ≡ type_in t
  type_unseen (IntegerType place width) = refl
  type_unseen (PointerType place) = refl
  type_unseen (VoidType place) = refl
  type_unseen (ArrayType place count t) = ap (λ u. array (natural count) u) (type_unseen t)
  type_unseen (StructType place packed ts) = ap (λ us. struct packed us) (types_unseen ts)
  type_unseen (NamedType name) = refl

  pub types_unseen : (ts : TypeTrees) → types_in (unplaced_types ts) ≡ types_in ts
  types_unseen no_types = refl
  types_unseen (more_types t ts) = λ i. more_trees (type_unseen t i) (types_unseen ts i)

fields_unseen : (ts : List TypeTree) → fields_in (map unplaced_type ts) ≡ fields_in ts
fields_unseen [] = refl
fields_unseen (t ∷ ts) = λ i. more_trees (type_unseen t i) (fields_unseen ts i)

body_unseen : (b : BodyTree) → body_in (unplaced_body b) ≡ body_in b
body_unseen item.OpaqueBody = refl
body_unseen (item.PlainBody ts) = ap (λ us. fields false us) (fields_unseen ts)
body_unseen (item.PackedBody ts) = ap (λ us. fields true us) (fields_unseen ts)

mutual
  constant_unseen : (ty : Tree) (c : ConstantTree) → constant_in ty (unplaced_constant c) ≡ constant_in ty c
  constant_unseen ty (tree.IntegerConstant n) = refl
  constant_unseen ty (tree.SimpleConstant word place) = refl
  constant_unseen ty (tree.AddressConstant name) = refl
  constant_unseen ty (tree.BytesConstant text) = refl
  constant_unseen ty (tree.ListConstant place round cs) = ap (λ ds. m.Aggregate (brackets_in round) ds) (constants_unseen cs)
  constant_unseen ty (tree.ElementAddress place flags source cs) = λ i. m.ElementAddress flags (type_unseen source i) (constants_unseen cs i)
  constant_unseen ty (tree.Conversion place o from c to) = λ i. m.Cast o (type_unseen from i) ((ap (λ t. constant_in t (unplaced_constant c)) (type_unseen from) ∙ constant_unseen (type_in from) c) i) (type_unseen to i)
  constant_unseen ty (tree.Arithmetic place o flags s b t c) =
      λ i. m.Binary o flags (type_unseen s i) ((ap (λ u. constant_in u (unplaced_constant b)) (type_unseen s) ∙ constant_unseen (type_in s) b) i) (type_unseen t i) ((ap (λ u. constant_in u (unplaced_constant c)) (type_unseen t) ∙ constant_unseen (type_in t) c) i)

  constants_unseen : (cs : ConstantTrees) → constants_in (unplaced_constants cs) ≡ constants_in cs
  constants_unseen tree.no_constants = refl
  constants_unseen (tree.more_constants t c cs) = λ i. m.more_constants (type_unseen t i) ((ap (λ u. constant_in u (unplaced_constant c)) (type_unseen t) ∙ constant_unseen (type_in t) c) i) (constants_unseen cs i)

-- a constant at the type that is written before it
at_unseen : (t : TypeTree) (c : ConstantTree) → constant_in (type_in (unplaced_type t)) (unplaced_constant c) ≡ constant_in (type_in t) c
at_unseen t c = ap (λ u. constant_in u (unplaced_constant c)) (type_unseen t) ∙ constant_unseen (type_in t) c

value_unseen : (ty : Tree) (v : ValueTree) → value_in ty (unplaced_value v) ≡ value_in ty v
value_unseen ty (LocalValue l) = ap m.Local (local_unseen l)
value_unseen ty (ConstantValue c) = ap m.Known (constant_unseen ty c)

value_at_unseen : (t : TypeTree) (v : ValueTree) → value_in (type_in (unplaced_type t)) (unplaced_value v) ≡ value_in (type_in t) v
value_at_unseen t v = ap (λ u. value_in u (unplaced_value v)) (type_unseen t) ∙ value_unseen (type_in t) v

operand_unseen : (o : TypedValueTree) → operand_in (unplaced_operand o) ≡ operand_in o
operand_unseen o = λ i. record { ty = type_unseen o.0 i; value = value_at_unseen o.0 o.1 i }

incoming_unseen : (t : TypeTree) (j : IncomingTree) → incoming_in (type_in (unplaced_type t)) (unplaced_incoming j) ≡ incoming_in (type_in t) j
incoming_unseen t j = λ i. record { value = value_at_unseen t j.0 i; block = local_unseen j.1 i }

incomings_unseen : (t : TypeTree) (js : List IncomingTree) → map (incoming_in (type_in (unplaced_type t))) (map unplaced_incoming js) ≡ map (incoming_in (type_in t)) js
incomings_unseen t [] = refl
incomings_unseen t (j ∷ js) = λ i. incoming_unseen t j i ∷ incomings_unseen t js i

operands_unseen : (os : List TypedValueTree) → map operand_in (map unplaced_operand os) ≡ map operand_in os
operands_unseen = map_unseen operand_in unplaced_operand operand_unseen

signature_unseen : (returns : TypeTree) (os : List TypedValueTree) (s : Option SignatureTree) → signature_in (unplaced_type returns) (map unplaced_operand os) (option_map unplaced_signature s) ≡ signature_in returns os s
signature_unseen returns os (Some s) = λ i. record { returns = type_unseen returns i; parameters = map_unseen type_in unplaced_type type_unseen s.0 i; variadic = s.1 }
signature_unseen returns os None = λ i. record { returns = type_unseen returns i; parameters = map_unseen (λ (o : TypedValueTree). type_in o.0) unplaced_operand (λ o. type_unseen o.0) os i; variadic = false }

alignment_unseen : (n : Option Integer) → alignment_in (option_map unplaced_integer n) ≡ alignment_in n
alignment_unseen = option_unseen natural unplaced_integer (λ n. refl)

operation_unseen : (o : OperationTree) → operation_in (unplaced_operation o) ≡ operation_in o
operation_unseen (code.Binary o flags left right) = λ i. m.BinaryOperation o flags (operand_unseen left i) (value_at_unseen left.0 right i)
operation_unseen (code.Compare flags p left right) = λ i. m.Compare flags p (operand_unseen left i) (value_at_unseen left.0 right i)
operation_unseen (code.Cast o flags value to) = λ i. m.Convert o flags (operand_unseen value i) (type_unseen to i)
operation_unseen (code.Select a b c) = λ i. m.Select (operand_unseen a i) (operand_unseen b i) (operand_unseen c i)
operation_unseen (code.Freeze v) = ap m.Freeze (operand_unseen v)
operation_unseen (code.Phi t js) = λ i. m.Phi (type_unseen t i) (incomings_unseen t js i)
operation_unseen (code.Load flags t a n) = λ i. m.Load flags (type_unseen t i) (operand_unseen a i) (alignment_unseen n i)
operation_unseen (code.Store flags v a n) = λ i. m.Store flags (operand_unseen v i) (operand_unseen a i) (alignment_unseen n i)
operation_unseen (code.Alloca t c n) = λ i. m.Alloca (type_unseen t i) (option_unseen operand_in unplaced_operand operand_unseen c i) (alignment_unseen n i)
operation_unseen (code.GetElementPtr flags s []) = ap (λ t. m.GetElementPtr flags t (record { ty = ptr; value = m.Known m.Poison }) []) (type_unseen s)
operation_unseen (code.GetElementPtr flags s (o ∷ os)) = λ i. m.GetElementPtr flags (type_unseen s i) (operand_unseen o i) (operands_unseen os i)
operation_unseen (code.Call c) = λ i. m.Call (signature_unseen c.returns c.arguments c.signature i) (value_unseen ptr c.callee i) (operands_unseen c.arguments i)
operation_unseen (code.ExtractValue v ns) = λ i. m.ExtractValue (operand_unseen v i) (map_unseen natural unplaced_integer (λ n. refl) ns i)
operation_unseen (code.InsertValue v p ns) = λ i. m.InsertValue (operand_unseen v i) (operand_unseen p i) (map_unseen natural unplaced_integer (λ n. refl) ns i)

is_void_unseen : (t : TypeTree) → is_void (unplaced_type t) ≡ is_void t
is_void_unseen (IntegerType place width) = refl
is_void_unseen (PointerType place) = refl
is_void_unseen (VoidType place) = refl
is_void_unseen (ArrayType place count t) = refl
is_void_unseen (StructType place packed ts) = refl
is_void_unseen (NamedType name) = refl

gives_unseen : (o : OperationTree) → gives (unplaced_operation o) ≡ gives o
gives_unseen (code.Call c) = ap not (is_void_unseen c.returns)
gives_unseen (code.Binary o flags left right) = refl
gives_unseen (code.Compare flags p left right) = refl
gives_unseen (code.Cast o flags value to) = refl
gives_unseen (code.Select a b c) = refl
gives_unseen (code.Freeze v) = refl
gives_unseen (code.Phi t js) = refl
gives_unseen (code.Load flags t a n) = refl
gives_unseen (code.Store flags v a n) = refl
gives_unseen (code.Alloca t c n) = refl
gives_unseen (code.GetElementPtr flags s os) = refl
gives_unseen (code.ExtractValue v ns) = refl
gives_unseen (code.InsertValue v p ns) = refl

is_some_unseen : (l : Option Local) → is_some (option_map unplaced_local l) ≡ is_some l
is_some_unseen None = refl
is_some_unseen (Some l) = refl

pub has_result_unseen : (j : InstructionTree) → has_result (unplaced_instruction j) ≡ has_result j
has_result_unseen j = λ i. is_some_unseen j.result i || gives_unseen j.operation i

called_unseen : (n : ℕ) (l : Option Local) → called n (option_map unplaced_local l) ≡ called n l
called_unseen n None = refl
called_unseen n (Some (locals.Named name)) = refl
called_unseen n (Some (locals.Numbered k place)) = refl

pub next_unseen : (n : ℕ) (l : Option Local) → next_behind n (option_map unplaced_local l) ≡ next_behind n l
next_unseen n None = refl
next_unseen n (Some (locals.Named name)) = refl
next_unseen n (Some (locals.Numbered k place)) = refl

instruction_unseen : (n : ℕ) (j : InstructionTree) → instruction_in n (unplaced_instruction j) ≡ instruction_in n j
instruction_unseen n j = λ i. record { result = cond (has_result_unseen j i) (Some (called_unseen n j.result i)) None; operation = operation_unseen j.operation i }

-- whether it has a result, and what that is called
behind_by : ℕ → Bool → Option Local → ℕ
behind_by n has l = next_after n (if has then (false, l) ∷ [] else [])

behind_by_unseen : (n : ℕ) (has : Bool) (l : Option Local) → behind_by n has (option_map unplaced_local l) ≡ behind_by n has l
unfolding behind_by
behind_by_unseen n true l = next_unseen n l
behind_by_unseen n false l = refl

result_unseen : (n : ℕ) (j : InstructionTree) → next_after n (announced_result (unplaced_instruction j)) ≡ next_after n (announced_result j)
unfolding behind_by
result_unseen n j = ap (λ b. behind_by n b (option_map unplaced_local j.result)) (has_result_unseen j) ∙ behind_by_unseen n (has_result j) j.result

instructions_unseen : (n : ℕ) (js : List InstructionTree) → instructions_in n (map unplaced_instruction js) ≡ instructions_in n js
instructions_unseen n [] = refl
instructions_unseen n (j ∷ js) =
    λ i. instruction_unseen n j i ∷ (ap (λ k. instructions_in k (map unplaced_instruction js)) (result_unseen n j) ∙ instructions_unseen (next_after n (announced_result j)) js) i

case_unseen : (c : CaseTree) → case_in (unplaced_case c) ≡ case_in c
case_unseen c = λ i. record { ty = type_unseen c.0.0 i; value = at_unseen c.0.0 c.0.1 i; target = local_unseen c.1 i }

ending_unseen : (e : EndingTree) → ending_in (unplaced_ending e) ≡ ending_in e
ending_unseen code.ReturnVoid = refl
ending_unseen (code.Return v) = ap m.Return (operand_unseen v)
ending_unseen (code.Jump l) = ap m.Jump (local_unseen l)
ending_unseen (code.Branch c a b) = λ i. m.Branch (operand_unseen c i) (local_unseen a i) (local_unseen b i)
ending_unseen (code.Switch v l cs) = λ i. m.Switch (operand_unseen v i) (local_unseen l i) (map_unseen case_in unplaced_case case_unseen cs i)
ending_unseen code.Unreachable = refl

block_unseen : (n : ℕ) (b : BlockTree) → block_in n (unplaced_block b) ≡ block_in n b
block_unseen n b = λ i. record {
  name = called_unseen n b.label i;
  instructions = (ap (λ k. instructions_in k (map unplaced_instruction b.instructions)) (next_unseen n b.label) ∙ instructions_unseen (next_behind n b.label) b.instructions) i;
  ending = ending_unseen b.ending i;
}

abbrev pub unplaced_announced : Announced → Announced
unplaced_announced a = (a.0, option_map unplaced_local a.1)

next_after_unseen : (n : ℕ) (all : List Announced) → next_after n (map unplaced_announced all) ≡ next_after n all
next_after_unseen n [] = refl
next_after_unseen n (a ∷ all) = ap (λ k. next_after k (map unplaced_announced all)) (next_unseen n a.1) ∙ next_after_unseen (next_behind n a.1) all

announced_by : (has : Bool) (l : Option Local) → (if has then (false, option_map unplaced_local l) ∷ [] else []) ≡ map unplaced_announced (if has then (false, l) ∷ [] else [])
announced_by true l = refl
announced_by false l = refl

pub results_unseen : (js : List InstructionTree) → flat_map announced_result (map unplaced_instruction js) ≡ map unplaced_announced (flat_map announced_result js)
results_unseen [] = refl
results_unseen (j ∷ js) =
    (λ i. (if has_result_unseen j i then (false, option_map unplaced_local j.result) ∷ [] else []) ++ results_unseen js i)
    ∙ ap (λ all. all ++ map unplaced_announced (flat_map announced_result js)) (announced_by (has_result j) j.result)
    ∙ sym (map-append unplaced_announced (announced_result j) (flat_map announced_result js))

announced_unseen : (n : ℕ) (b : BlockTree) → next_after n (announced_block (unplaced_block b)) ≡ next_after n (announced_block b)
announced_unseen n b = ap (λ all. next_after n ((true, option_map unplaced_local b.label) ∷ all)) (results_unseen b.instructions) ∙ next_after_unseen n (announced_block b)

blocks_unseen : (n : ℕ) (bs : List BlockTree) → blocks_in n (map unplaced_block bs) ≡ blocks_in n bs
blocks_unseen n [] = refl
blocks_unseen n (b ∷ bs) = λ i. block_unseen n b i ∷ (ap (λ k. blocks_in k (map unplaced_block bs)) (announced_unseen n b) ∙ blocks_unseen (next_after n (announced_block b)) bs) i

parameters_unseen : (n : ℕ) (ps : List ParameterTree) → parameters_in n (map unplaced_parameter ps) ≡ parameters_in n ps
parameters_unseen n [] = refl
parameters_unseen n (p ∷ ps) =
    λ i. record { ty = type_unseen p.0 i; name = called_unseen n p.1 i } ∷ (ap (λ k. parameters_in k (map unplaced_parameter ps)) (next_unseen n p.1) ∙ parameters_unseen (next_behind n p.1) ps) i

numbered_unseen : (n : ℕ) (ts : List TypeTree) → numbered_parameters n (map unplaced_type ts) ≡ numbered_parameters n ts
numbered_unseen n [] = refl
numbered_unseen n (t ∷ ts) = λ i. record { ty = type_unseen t i; name = m.Numbered n } ∷ numbered_unseen (next_behind n None) ts i

first_block : (n : ℕ) (ps : List ParameterTree) → next_after n (map announced_parameter (map unplaced_parameter ps)) ≡ next_after n (map announced_parameter ps)
first_block n [] = refl
first_block n (p ∷ ps) = ap (λ k. next_after k (map announced_parameter (map unplaced_parameter ps))) (next_unseen n p.1) ∙ first_block (next_behind n p.1) ps

variable_unseen : (v : item.VariableTree) → variable_of (unplaced_variable v) ≡ variable_of v
variable_unseen v = λ i. record {
  name = v.name.name;
  linkage = linkage_in v.linkage;
  constant = v.constant;
  ty = type_unseen v.ty i;
  alignment = alignment_unseen v.alignment i;
  initialiser = initialiser v.initialiser i;
}
  where
    initialiser : (c : Option ConstantTree) → option_map (constant_in (type_in (unplaced_type v.ty))) (option_map unplaced_constant c) ≡ option_map (constant_in (type_in v.ty)) c
    initialiser None = refl
    initialiser (Some c) = ap Some (at_unseen v.ty c)

function_unseen : (x : ItemTree) → function_in (unplaced x) ≡ function_in x
function_unseen (item.Declaration place h ts variadic) =
    λ i. Some (record { name = h.name.name; linkage = linkage_in h.linkage; returns = type_unseen h.returns i; parameters = numbered_unseen 0 ts i; variadic = variadic; body = None })
function_unseen (item.Definition place h ps bs) =
    λ i. Some (record {
      name = h.name.name;
      linkage = linkage_in h.linkage;
      returns = type_unseen h.returns i;
      parameters = parameters_unseen 0 ps i;
      variadic = false;
      body = Some ((ap (λ k. blocks_in k (map unplaced_block bs)) (first_block 0 ps) ∙ blocks_unseen (next_after 0 (map announced_parameter ps)) bs) i);
    })
function_unseen (item.SourceFilename place t) = refl
function_unseen (item.DataLayout place t) = refl
function_unseen (item.TargetTriple place t) = refl
function_unseen (item.Struct n b) = refl
function_unseen (item.Variable v) = refl
function_unseen (item.Alias a) = refl
function_unseen (item.Attributes place) = refl
function_unseen (item.Metadata place) = refl

pub struct_unseen : (x : ItemTree) → struct_in (unplaced x) ≡ struct_in x
struct_unseen (item.Struct n b) = ap (λ c. Some (n.name, c)) (body_unseen b)
struct_unseen (item.Declaration place h ts variadic) = refl
struct_unseen (item.Definition place h ps bs) = refl
struct_unseen (item.SourceFilename place t) = refl
struct_unseen (item.DataLayout place t) = refl
struct_unseen (item.TargetTriple place t) = refl
struct_unseen (item.Variable v) = refl
struct_unseen (item.Alias a) = refl
struct_unseen (item.Attributes place) = refl
struct_unseen (item.Metadata place) = refl

variable_in_unseen : (x : ItemTree) → variable_in (unplaced x) ≡ variable_in x
variable_in_unseen (item.Variable v) = ap Some (variable_unseen v)
variable_in_unseen (item.Alias a) = refl
variable_in_unseen (item.Declaration place h ts variadic) = refl
variable_in_unseen (item.Definition place h ps bs) = refl
variable_in_unseen (item.SourceFilename place t) = refl
variable_in_unseen (item.DataLayout place t) = refl
variable_in_unseen (item.TargetTriple place t) = refl
variable_in_unseen (item.Struct n b) = refl
variable_in_unseen (item.Attributes place) = refl
variable_in_unseen (item.Metadata place) = refl

alias_type_unseen : (t : item.AliasTypeTree) → alias_type_in (unplaced_alias_type t) ≡ alias_type_in t
alias_type_unseen (item.PlainAlias t) = ap m.PlainType (type_unseen t)
alias_type_unseen (item.FunctionAlias t ts variadic) = λ i. m.FunctionType (record { returns = type_unseen t i; parameters = map_unseen type_in unplaced_type type_unseen ts i; variadic = variadic })

alias_unseen : (a : item.AliasTree) → alias_of (unplaced_alias a) ≡ alias_of a
alias_unseen a = λ i. record { name = a.name.name; linkage = linkage_in a.linkage; ty = alias_type_unseen a.ty i; target = a.target.name }

alias_in_unseen : (x : ItemTree) → alias_in (unplaced x) ≡ alias_in x
alias_in_unseen (item.Alias a) = ap Some (alias_unseen a)
alias_in_unseen (item.Declaration place h ts variadic) = refl
alias_in_unseen (item.Definition place h ps bs) = refl
alias_in_unseen (item.SourceFilename place t) = refl
alias_in_unseen (item.DataLayout place t) = refl
alias_in_unseen (item.TargetTriple place t) = refl
alias_in_unseen (item.Struct n b) = refl
alias_in_unseen (item.Variable v) = refl
alias_in_unseen (item.Attributes place) = refl
alias_in_unseen (item.Metadata place) = refl

pub filter_unseen : {A B : Type 0} (f : A → Option B) (e : A → A) → ((a : A) → f (e a) ≡ f a) → (xs : List A) → filter_map f (map e xs) ≡ filter_map f xs
filter_unseen f e h [] = refl
filter_unseen f e h (x ∷ xs) = λ i. cons_option (h x i) (filter_unseen f e h xs i)

abbrev IsTextKind : (ItemTree → Option PlacedText) → Type 0
IsTextKind kind = (x : ItemTree) → kind (unplaced x) ≡ option_map unplaced_text (kind x)

abbrev first_text : List PlacedText → Option (List ℕ)
first_text ts = option_map (λ (t : PlacedText). t.text) (first_of ts)

first_by : (t : Option PlacedText) (xs ys : List PlacedText) → first_text xs ≡ first_text ys → first_text (cons_option (option_map unplaced_text t) xs) ≡ first_text (cons_option t ys)
first_by None xs ys h = h
first_by (Some t) xs ys h = refl

text_unseen : (kind : ItemTree → Option PlacedText) → IsTextKind kind → (xs : List ItemTree) → text_in kind (map unplaced xs) ≡ text_in kind xs
text_unseen kind h [] = refl
text_unseen kind h (x ∷ xs) =
    ap (λ t. first_text (cons_option t (filter_map kind (map unplaced xs)))) (h x) ∙ first_by (kind x) (filter_map kind (map unplaced xs)) (filter_map kind xs) (text_unseen kind h xs)

source_kind : IsTextKind source_in
source_kind (item.SourceFilename place t) = refl
source_kind (item.DataLayout place t) = refl
source_kind (item.TargetTriple place t) = refl
source_kind (item.Struct n b) = refl
source_kind (item.Variable v) = refl
source_kind (item.Alias a) = refl
source_kind (item.Declaration place h ts variadic) = refl
source_kind (item.Definition place h ps bs) = refl
source_kind (item.Attributes place) = refl
source_kind (item.Metadata place) = refl

layout_kind : IsTextKind layout_in
layout_kind (item.SourceFilename place t) = refl
layout_kind (item.DataLayout place t) = refl
layout_kind (item.TargetTriple place t) = refl
layout_kind (item.Struct n b) = refl
layout_kind (item.Variable v) = refl
layout_kind (item.Alias a) = refl
layout_kind (item.Declaration place h ts variadic) = refl
layout_kind (item.Definition place h ps bs) = refl
layout_kind (item.Attributes place) = refl
layout_kind (item.Metadata place) = refl

triple_kind : IsTextKind triple_in
triple_kind (item.SourceFilename place t) = refl
triple_kind (item.DataLayout place t) = refl
triple_kind (item.TargetTriple place t) = refl
triple_kind (item.Struct n b) = refl
triple_kind (item.Variable v) = refl
triple_kind (item.Alias a) = refl
triple_kind (item.Declaration place h ts variadic) = refl
triple_kind (item.Definition place h ps bs) = refl
triple_kind (item.Attributes place) = refl
triple_kind (item.Metadata place) = refl

-- the module is the same, whatever the places
pub module_unseen : (items : List ItemTree) → module_of_items (map unplaced items) ≡ module_of_items items
module_unseen items = λ i. record {
  source = text_unseen source_in source_kind items i;
  layout = text_unseen layout_in layout_kind items i;
  triple = text_unseen triple_in triple_kind items i;
  structs = filter_unseen struct_in unplaced struct_unseen items i;
  variables = filter_unseen variable_in unplaced variable_in_unseen items i;
  aliases = filter_unseen alias_in unplaced alias_in_unseen items i;
  functions = filter_unseen function_in unplaced function_unseen items i;
}
