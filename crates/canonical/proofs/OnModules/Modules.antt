-- The canonical items of a module stand for it.
use Rattle.std.proofs.Common.{◌≡◌, ℕ, suc, List, [], ◌∷◌, ◌++◌, map, true, false, Option, Some, None, option_map, refl, sym, ap, ◌∙◌, append-nil}
use Rattle.std.specs.List.{filter_map, flat_map, cons_option}
use Rattle.std.proofs.lemmas.List.Elements.{filter_map-append}
use Rattle.ir_tables.specs.declared.linkage.Linkage.{Linkage}
use Rattle.ir_tables.specs.declared.linkage.Linkage.TheVariants as linkages
use Rattle.ir_terminals.specs.declared.values.PlacedText.{PlacedText}
use Rattle.ir_syntax.specs.Tree.{ItemTree, SourceFilename, DataLayout, TargetTriple}
use Rattle.type_table.specs.Tree.{Tree, TreeBody, opaque_body, fields}
use Rattle.module_arena.specs.Module.{Bytes, Constant, Instruction, Case, Ending, ReturnVoid, Return, Jump, Branch, Switch, Unreachable, Block, Parameter, Variable, AliasType, PlainType, FunctionType, Alias, Function, Module}
use Rattle.canonical.specs.Items.Unplaced.{nowhere}
use Rattle.canonical.specs.Items.Parts.{local_tree, type_tree, constant_tree, instruction_tree, case_tree, ending_tree, block_tree}
use Rattle.canonical.specs.Items.Items.{text_item, body_tree, struct_item, written_linkage, variable_linkage, variable_item, alias_type_tree, alias_item, parameter_tree, function_item_by, function_item, canon_items}
use Rattle.name_rules.specs.Written.{type_in, constant_in, body_in}
use Rattle.name_rules.specs.Locals.{Announced, next_behind, announced_parameter, announced_result, announced_block, next_after}
use Rattle.name_rules.specs.Bodies.{instructions_in, case_in, ending_in, blocks_in}
use Rattle.name_rules.specs.ModuleOf.{first_of, source_in, layout_in, triple_in, struct_in, linkage_in, variable_in, alias_type_in, alias_in, numbered_parameters, parameters_in, function_in, module_of_items}
use Rattle.canonical.specs.Modules.Exact.{behind, behind_result, IsExactInitialiser, AreExactCases, IsExactEnding, AreExactInstructions, behind_all, AreExactBlocks, AreExactParameters, behind_parameters, AreNumbered, IsExactBody, AreExactFunctions, AreExactVariables, IsExactModule}
use Rattle.canonical.proofs.OnModules.Back.{type_back, fields_back, constant_back, operand_back, local_back, alignment_back, called_back, behind_back, result_by, instructions_back, types_list_back}

constant_at_back : (ty : Tree) (c : Constant) → IsExactInitialiser ty (Some c) → constant_in (type_in (type_tree ty)) (constant_tree ty c) ≡ c
constant_at_back ty c h = ap (λ t. constant_in t (constant_tree ty c)) (type_back ty) ∙ constant_back ty c h

cases_back : (cs : List Case) → AreExactCases cs → map case_in (map case_tree cs) ≡ cs
cases_back [] h = refl
cases_back (c ∷ cs) h = λ i. record { ty = type_back c.ty i; value = constant_at_back c.ty c.value h.0 i; target = local_back c.target i } ∷ cases_back cs h.1 i

ending_back : (e : Ending) → IsExactEnding e → ending_in (ending_tree e) ≡ e
ending_back ReturnVoid h = refl
ending_back (Return v) h = ap Return (operand_back v h)
ending_back (Jump to) h = ap Jump (local_back to)
ending_back (Branch c a b) h = λ i. Branch (operand_back c h i) (local_back a i) (local_back b i)
ending_back (Switch v to cs) h = λ i. Switch (operand_back v h.0 i) (local_back to i) (cases_back cs h.1 i)
ending_back Unreachable h = refl

next_append : (n : ℕ) (xs ys : List Announced) → next_after n (xs ++ ys) ≡ next_after (next_after n xs) ys
next_append n [] ys = refl
next_append n (x ∷ xs) ys = next_append (next_behind n x.1) xs ys

all_back : (n : ℕ) (is : List Instruction) → AreExactInstructions n is → next_after n (flat_map announced_result (map instruction_tree is)) ≡ behind_all n is
all_back n [] h = refl
all_back n (j ∷ js) h =
    next_append n (announced_result (instruction_tree j)) (flat_map announced_result (map instruction_tree js))
    ∙ ap (λ k. next_after k (flat_map announced_result (map instruction_tree js))) (result_by n j.result j.operation h.0)
    ∙ all_back (behind_result n j.result) js h.2

blocks_back : (n : ℕ) (bs : List Block) → AreExactBlocks n bs → blocks_in n (map block_tree bs) ≡ bs
blocks_back n [] h = refl
blocks_back n (b ∷ bs) h =
    let name : next_behind n (Some (local_tree b.name)) ≡ behind n b.name = behind_back n b.name in
    let rest : next_after n (announced_block (block_tree b)) ≡ behind_all (behind n b.name) b.instructions = ap (λ k. next_after k (flat_map announced_result (map instruction_tree b.instructions))) name ∙ all_back (behind n b.name) b.instructions h.1 in
    λ i. record {
      name = called_back n b.name h.0 i;
      instructions = (ap (λ k. instructions_in k (map instruction_tree b.instructions)) name ∙ instructions_back (behind n b.name) b.instructions h.1) i;
      ending = ending_back b.ending h.2 i;
    } ∷ (ap (λ k. blocks_in k (map block_tree bs)) rest ∙ blocks_back (behind_all (behind n b.name) b.instructions) bs h.3) i

parameters_back : (n : ℕ) (ps : List Parameter) → AreExactParameters n ps → parameters_in n (map parameter_tree ps) ≡ ps
parameters_back n [] h = refl
parameters_back n (p ∷ ps) h =
    λ i. record { ty = type_back p.ty i; name = called_back n p.name h.0 i } ∷ (ap (λ k. parameters_in k (map parameter_tree ps)) (behind_back n p.name) ∙ parameters_back (behind n p.name) ps h.1) i

numbered_back : (n : ℕ) (ps : List Parameter) → AreNumbered n ps → numbered_parameters n (map (λ p. type_tree p.ty) ps) ≡ ps
numbered_back n [] h = refl
numbered_back n (p ∷ ps) h = λ i. record { ty = type_back p.ty i; name = sym h.0 i } ∷ numbered_back (suc n) ps h.1 i

first_block : (n : ℕ) (ps : List Parameter) → next_after n (map announced_parameter (map parameter_tree ps)) ≡ behind_parameters n ps
first_block n [] = refl
first_block n (p ∷ ps) = ap (λ k. next_after k (map announced_parameter (map parameter_tree ps))) (behind_back n p.name) ∙ first_block (behind n p.name) ps

linkage_back : (l : Linkage) → linkage_in (written_linkage l) ≡ l
linkage_back linkages.External = refl
linkage_back linkages.Private = refl
linkage_back linkages.Internal = refl
linkage_back linkages.AvailableExternally = refl
linkage_back linkages.Linkonce = refl
linkage_back linkages.LinkonceOdr = refl
linkage_back linkages.Weak = refl
linkage_back linkages.WeakOdr = refl
linkage_back linkages.Common = refl
linkage_back linkages.Appending = refl
linkage_back linkages.ExternWeak = refl

function_by : (f : Function) (body : Option (List Block)) → IsExactBody f body → function_in (function_item_by f body) ≡ Some (record f { body = body })
function_by f None h = λ i. Some (record { name = f.name; linkage = linkage_back f.linkage i; returns = type_back f.returns i; parameters = numbered_back 0 f.parameters h i; variadic = f.variadic; body = None })
function_by f (Some bs) h =
    λ i. Some (record {
      name = f.name;
      linkage = linkage_back f.linkage i;
      returns = type_back f.returns i;
      parameters = parameters_back 0 f.parameters h.1 i;
      variadic = sym h.0 i;
      body = Some ((ap (λ k. blocks_in k (map block_tree bs)) (first_block 0 f.parameters) ∙ blocks_back (behind_parameters 0 f.parameters) bs h.2) i);
    })

functions_back : (fs : List Function) → AreExactFunctions fs → filter_map function_in (map function_item fs) ≡ fs
functions_back [] h = refl
functions_back (f ∷ fs) h = λ i. cons_option (function_by f f.body h.0 i) (functions_back fs h.1 i)

variable_linkage_back : (c : Option Constant) (l : Linkage) → linkage_in (variable_linkage c l) ≡ l
variable_linkage_back None l = refl
variable_linkage_back (Some c) l = linkage_back l

initialiser_back : (ty : Tree) (c : Option Constant) → IsExactInitialiser ty c → option_map (constant_in (type_in (type_tree ty))) (option_map (constant_tree ty) c) ≡ c
initialiser_back ty None h = refl
initialiser_back ty (Some c) h = ap Some (constant_at_back ty c h)

variables_back : (vs : List Variable) → AreExactVariables vs → filter_map variable_in (map variable_item vs) ≡ vs
variables_back [] h = refl
variables_back (v ∷ vs) h =
    λ i. record { name = v.name; linkage = variable_linkage_back v.initialiser v.linkage i; constant = v.constant; ty = type_back v.ty i; alignment = alignment_back v.alignment i; initialiser = initialiser_back v.ty v.initialiser h.0 i } ∷ variables_back vs h.1 i

alias_type_back : (t : AliasType) → alias_type_in (alias_type_tree t) ≡ t
alias_type_back (PlainType t) = ap PlainType (type_back t)
alias_type_back (FunctionType s) = λ i. FunctionType (record { returns = type_back s.returns i; parameters = types_list_back s.parameters i; variadic = s.variadic })

aliases_back : (as_ : List Alias) → filter_map alias_in (map alias_item as_) ≡ as_
aliases_back [] = refl
aliases_back (a ∷ as_) = λ i. record { name = a.name; linkage = linkage_back a.linkage i; ty = alias_type_back a.ty i; target = a.target } ∷ aliases_back as_ i

body_back : (b : TreeBody) → body_in (body_tree b) ≡ b
body_back opaque_body = refl
body_back (fields false ts) = ap (λ us. fields false us) (fields_back ts)
body_back (fields true ts) = ap (λ us. fields true us) (fields_back ts)

structs_back : (ss : List (Bytes × TreeBody)) → filter_map struct_in (map struct_item ss) ≡ ss
structs_back [] = refl
structs_back (s ∷ ss) = λ i. (s.0, body_back s.1 i) ∷ structs_back ss i

-- items none of which gives anything
pub filter_none : {A B Y : Type 0} (f : A → Option B) (g : Y → A) → ((y : Y) → f (g y) ≡ None) → (ys : List Y) → filter_map f (map g ys) ≡ []
filter_none f g h [] = refl
filter_none f g h (y ∷ ys) = λ i. cons_option (h y i) (filter_none f g h ys i)

source_not_in_layout : (t : Option Bytes) → filter_map source_in (text_item (DataLayout nowhere) t) ≡ []
source_not_in_layout None = refl
source_not_in_layout (Some b) = refl

source_not_in_triple : (t : Option Bytes) → filter_map source_in (text_item (TargetTriple nowhere) t) ≡ []
source_not_in_triple None = refl
source_not_in_triple (Some b) = refl

source_not_by : (f : Function) (body : Option (List Block)) → source_in (function_item_by f body) ≡ None
source_not_by f None = refl
source_not_by f (Some bs) = refl

layout_not_in_source : (t : Option Bytes) → filter_map layout_in (text_item (SourceFilename nowhere) t) ≡ []
layout_not_in_source None = refl
layout_not_in_source (Some b) = refl

layout_not_in_triple : (t : Option Bytes) → filter_map layout_in (text_item (TargetTriple nowhere) t) ≡ []
layout_not_in_triple None = refl
layout_not_in_triple (Some b) = refl

layout_not_by : (f : Function) (body : Option (List Block)) → layout_in (function_item_by f body) ≡ None
layout_not_by f None = refl
layout_not_by f (Some bs) = refl

triple_not_in_source : (t : Option Bytes) → filter_map triple_in (text_item (SourceFilename nowhere) t) ≡ []
triple_not_in_source None = refl
triple_not_in_source (Some b) = refl

triple_not_in_layout : (t : Option Bytes) → filter_map triple_in (text_item (DataLayout nowhere) t) ≡ []
triple_not_in_layout None = refl
triple_not_in_layout (Some b) = refl

triple_not_by : (f : Function) (body : Option (List Block)) → triple_in (function_item_by f body) ≡ None
triple_not_by f None = refl
triple_not_by f (Some bs) = refl

struct_not_in_source : (t : Option Bytes) → filter_map struct_in (text_item (SourceFilename nowhere) t) ≡ []
struct_not_in_source None = refl
struct_not_in_source (Some b) = refl

struct_not_in_layout : (t : Option Bytes) → filter_map struct_in (text_item (DataLayout nowhere) t) ≡ []
struct_not_in_layout None = refl
struct_not_in_layout (Some b) = refl

struct_not_in_triple : (t : Option Bytes) → filter_map struct_in (text_item (TargetTriple nowhere) t) ≡ []
struct_not_in_triple None = refl
struct_not_in_triple (Some b) = refl

struct_not_by : (f : Function) (body : Option (List Block)) → struct_in (function_item_by f body) ≡ None
struct_not_by f None = refl
struct_not_by f (Some bs) = refl

variable_not_in_source : (t : Option Bytes) → filter_map variable_in (text_item (SourceFilename nowhere) t) ≡ []
variable_not_in_source None = refl
variable_not_in_source (Some b) = refl

variable_not_in_layout : (t : Option Bytes) → filter_map variable_in (text_item (DataLayout nowhere) t) ≡ []
variable_not_in_layout None = refl
variable_not_in_layout (Some b) = refl

variable_not_in_triple : (t : Option Bytes) → filter_map variable_in (text_item (TargetTriple nowhere) t) ≡ []
variable_not_in_triple None = refl
variable_not_in_triple (Some b) = refl

variable_not_by : (f : Function) (body : Option (List Block)) → variable_in (function_item_by f body) ≡ None
variable_not_by f None = refl
variable_not_by f (Some bs) = refl

alias_not_in_source : (t : Option Bytes) → filter_map alias_in (text_item (SourceFilename nowhere) t) ≡ []
alias_not_in_source None = refl
alias_not_in_source (Some b) = refl

alias_not_in_layout : (t : Option Bytes) → filter_map alias_in (text_item (DataLayout nowhere) t) ≡ []
alias_not_in_layout None = refl
alias_not_in_layout (Some b) = refl

alias_not_in_triple : (t : Option Bytes) → filter_map alias_in (text_item (TargetTriple nowhere) t) ≡ []
alias_not_in_triple None = refl
alias_not_in_triple (Some b) = refl

alias_not_by : (f : Function) (body : Option (List Block)) → alias_in (function_item_by f body) ≡ None
alias_not_by f None = refl
alias_not_by f (Some bs) = refl

function_not_in_source : (t : Option Bytes) → filter_map function_in (text_item (SourceFilename nowhere) t) ≡ []
function_not_in_source None = refl
function_not_in_source (Some b) = refl

function_not_in_layout : (t : Option Bytes) → filter_map function_in (text_item (DataLayout nowhere) t) ≡ []
function_not_in_layout None = refl
function_not_in_layout (Some b) = refl

function_not_in_triple : (t : Option Bytes) → filter_map function_in (text_item (TargetTriple nowhere) t) ≡ []
function_not_in_triple None = refl
function_not_in_triple (Some b) = refl

abbrev given : Bytes → PlacedText
given bytes = record { text = bytes; place = nowhere }

abbrev given_list : Option Bytes → List PlacedText
given_list None = []
given_list (Some b) = given b ∷ []

first_given : (t : Option Bytes) → option_map (λ (p : PlacedText). p.text) (first_of (given_list t)) ≡ t
first_given None = refl
first_given (Some b) = refl

parts : {B : Type 0} (f : ItemTree → Option B) (a b c d e g k : List ItemTree) → filter_map f (a ++ (b ++ (c ++ (d ++ (e ++ (g ++ k)))))) ≡ filter_map f a ++ (filter_map f b ++ (filter_map f c ++ (filter_map f d ++ (filter_map f e ++ (filter_map f g ++ filter_map f k)))))
parts f a b c d e g k = simp (filter_map-append f)

source_of : (t : Option Bytes) → filter_map source_in (text_item (SourceFilename nowhere) t) ≡ given_list t
source_of None = refl
source_of (Some b) = refl

layout_of : (t : Option Bytes) → filter_map layout_in (text_item (DataLayout nowhere) t) ≡ given_list t
layout_of None = refl
layout_of (Some b) = refl

triple_of : (t : Option Bytes) → filter_map triple_in (text_item (TargetTriple nowhere) t) ≡ given_list t
triple_of None = refl
triple_of (Some b) = refl

module _ (m : Module) where
  -- what the canonical items of a module give, part by part
  pub split : {B : Type 0} (f : ItemTree → Option B) → filter_map f (canon_items m) ≡ filter_map f (text_item (SourceFilename nowhere) m.source) ++ (filter_map f (text_item (DataLayout nowhere) m.layout) ++ (filter_map f (text_item (TargetTriple nowhere) m.triple) ++ (filter_map f (map struct_item m.structs) ++ (filter_map f (map variable_item m.variables) ++ (filter_map f (map alias_item m.aliases) ++ filter_map f (map function_item m.functions))))))
  split f =
      parts f (text_item (SourceFilename nowhere) m.source) (text_item (DataLayout nowhere) m.layout) (text_item (TargetTriple nowhere) m.triple) (map struct_item m.structs) (map variable_item m.variables) (map alias_item m.aliases) (map function_item m.functions)

  source_all : filter_map source_in (canon_items m) ≡ given_list m.source
  source_all =
      split source_in ∙ (λ i. source_of m.source i ++ (source_not_in_layout m.layout i ++ (source_not_in_triple m.triple i ++ (filter_none source_in struct_item (λ y. refl) m.structs i ++ (filter_none source_in variable_item (λ y. refl) m.variables i ++ (filter_none source_in alias_item (λ y. refl) m.aliases i ++ (filter_none source_in function_item (λ y. source_not_by y y.body) m.functions i))))))) ∙ append-nil (given_list m.source)

  layout_all : filter_map layout_in (canon_items m) ≡ given_list m.layout
  layout_all =
      split layout_in ∙ (λ i. layout_not_in_source m.source i ++ (layout_of m.layout i ++ (layout_not_in_triple m.triple i ++ (filter_none layout_in struct_item (λ y. refl) m.structs i ++ (filter_none layout_in variable_item (λ y. refl) m.variables i ++ (filter_none layout_in alias_item (λ y. refl) m.aliases i ++ (filter_none layout_in function_item (λ y. layout_not_by y y.body) m.functions i))))))) ∙ append-nil (given_list m.layout)

  triple_all : filter_map triple_in (canon_items m) ≡ given_list m.triple
  triple_all =
      split triple_in ∙ (λ i. triple_not_in_source m.source i ++ (triple_not_in_layout m.layout i ++ (triple_of m.triple i ++ (filter_none triple_in struct_item (λ y. refl) m.structs i ++ (filter_none triple_in variable_item (λ y. refl) m.variables i ++ (filter_none triple_in alias_item (λ y. refl) m.aliases i ++ (filter_none triple_in function_item (λ y. triple_not_by y y.body) m.functions i))))))) ∙ append-nil (given_list m.triple)

  pub struct_all : filter_map struct_in (canon_items m) ≡ m.structs
  struct_all =
      split struct_in ∙ (λ i. struct_not_in_source m.source i ++ (struct_not_in_layout m.layout i ++ (struct_not_in_triple m.triple i ++ (structs_back m.structs i ++ (filter_none struct_in variable_item (λ y. refl) m.variables i ++ (filter_none struct_in alias_item (λ y. refl) m.aliases i ++ (filter_none struct_in function_item (λ y. struct_not_by y y.body) m.functions i))))))) ∙ append-nil (m.structs)

  variable_all : AreExactVariables m.variables → filter_map variable_in (canon_items m) ≡ m.variables
  variable_all h =
      split variable_in ∙ (λ i. variable_not_in_source m.source i ++ (variable_not_in_layout m.layout i ++ (variable_not_in_triple m.triple i ++ (filter_none variable_in struct_item (λ y. refl) m.structs i ++ (variables_back m.variables h i ++ (filter_none variable_in alias_item (λ y. refl) m.aliases i ++ (filter_none variable_in function_item (λ y. variable_not_by y y.body) m.functions i))))))) ∙ append-nil (m.variables)

  alias_all : filter_map alias_in (canon_items m) ≡ m.aliases
  alias_all =
      split alias_in ∙ (λ i. alias_not_in_source m.source i ++ (alias_not_in_layout m.layout i ++ (alias_not_in_triple m.triple i ++ (filter_none alias_in struct_item (λ y. refl) m.structs i ++ (filter_none alias_in variable_item (λ y. refl) m.variables i ++ (aliases_back m.aliases i ++ (filter_none alias_in function_item (λ y. alias_not_by y y.body) m.functions i))))))) ∙ append-nil (m.aliases)

  function_all : AreExactFunctions m.functions → filter_map function_in (canon_items m) ≡ m.functions
  function_all h =
      split function_in ∙ (λ i. function_not_in_source m.source i ++ (function_not_in_layout m.layout i ++ (function_not_in_triple m.triple i ++ (filter_none function_in struct_item (λ y. refl) m.structs i ++ (filter_none function_in variable_item (λ y. refl) m.variables i ++ (filter_none function_in alias_item (λ y. refl) m.aliases i ++ (functions_back m.functions h i)))))))

  -- the module of the canonical items
  pub module_back : IsExactModule m → module_of_items (canon_items m) ≡ m
  module_back h = λ i. record {
    source = (ap (λ ts. option_map (λ (p : PlacedText). p.text) (first_of ts)) source_all ∙ first_given m.source) i;
    layout = (ap (λ ts. option_map (λ (p : PlacedText). p.text) (first_of ts)) layout_all ∙ first_given m.layout) i;
    triple = (ap (λ ts. option_map (λ (p : PlacedText). p.text) (first_of ts)) triple_all ∙ first_given m.triple) i;
    structs = struct_all i;
    variables = variable_all h.variables i;
    aliases = alias_all i;
    functions = function_all h.functions i;
  }
