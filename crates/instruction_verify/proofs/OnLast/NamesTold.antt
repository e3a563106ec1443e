-- In a function with good names the list of its types has, by the number of each value, the type of the value's name.
use Rattle.std.proofs.Common.{◌≡◌, ℕ, ◌+◌, ◌<◌, true, List, [], ◌∷◌, ◌++◌, All, map, flat_map, length, get_or, Option, Some, None, refl, sym, ap, ◌∙◌, subst, arith}
use Rattle.std.specs.Option.{option_map, option_map_or, option_to_list}
use Rattle.std.proofs.lemmas.List.{length-append, length-map}
use Rattle.std.proofs.lemmas.List.Elements.{All-head, All-nil, All-weaker}
use Rattle.std.proofs.lemmas.Option.{slice_get-get_or}
use Rattle.type_table.proofs.UnderIds.{get_or-map}
use Rattle.type_table.specs.Tree.{Tree}
use Rattle.type_table.specs.Types.{Types, structs, trees}
use Rattle.module_arena.specs.declared.entry.Block as the_block
use Rattle.module_arena.specs.declared.entry.Body as the_body
use Rattle.module_arena.specs.declared.entry.Function as the_function
use Rattle.module_arena.specs.declared.entry.Parameter as the_parameter
use Rattle.module_arena.specs.declared.instruction.Inst.{Inst}
use Rattle.module_arena.specs.declared.instruction.Operand.{Operand}
use Rattle.module_arena.specs.Changes.{function_in}
use Rattle.module_arena.specs.Functions.{Definition, body, definitions, local_type}
use Rattle.module_arena.specs.Known.{HasOperand, KnowsBlock, KnowsBody, KnowsFunction, KnowsInst}
use Rattle.module_arena.specs.Lists.{Lists, function_blocks, value_names}
use Rattle.module_arena.specs.Mentions.{operands_of}
use Rattle.module_arena.specs.Module.{Constant, Function, LocalName}
use Rattle.module_arena.specs.Names as names
use Rattle.module_arena.specs.Names.{has_good_names}
use Rattle.module_arena.specs.View.{body_view, constants_of, local_view, parameter_view}
use Rattle.module_arena.proofs.LocalTypes.{definition_names, local_type_at}
use Rattle.module_arena.proofs.ValueNames.{results_of-body}
use Rattle.path_rows.specs.Numbers.{names_of}
use Rattle.instruction_verify.specs.Last.ValuesById.{AreLocalTypes, AreTypes, IsOf, tree_of}
use Rattle.instruction_verify.specs.declared.last.local_type.LocalType.{LocalType}
use Rattle.instruction_verify.specs.declared.last.local_type.LocalType.TheVariants as known
use Rattle.instruction_verify.specs.Last.Given.{Grows, HasBlock, HasTypes}
use Rattle.instruction_verify.proofs.OnLast.GivenTold.{all_given, definitions_told, types_of}

-- ---- names

abbrev called : List Definition → List LocalName
called ds = map (λ (d : Definition). d.0) ds

module _ (ts : List Tree) (cs : List Constant) (types constants : ℕ) where
  parameters_called : (ps : List the_parameter.Parameter) → map (λ p. p.name) (map (parameter_view ts) ps) ≡ map (λ (p : the_parameter.Parameter). local_view p.name) ps
  parameters_called [] = refl
  parameters_called (p ∷ ps) = ap (λ xs. local_view p.name ∷ xs) (parameters_called ps)

  results_called : (ns : List LocalName) (o : Option the_body.Body) → All (KnowsBody types constants (length ns)) (option_to_list o)
      → flat_map names.block_results (body (option_map (body_view ts cs ns) o)) ≡ map local_view (option_map_or (λ (b : the_body.Body). b.results) o [])
  results_called ns None h = refl
  results_called ns (Some b) h = results_of-body ts cs types constants ns b (All-head (KnowsBody types constants (length ns)) b [] h)

module _ (a : Lists) (f : the_function.Function) (knows : KnowsFunction (length a.table.types) (length a.constants) f) where
  abbrev view : Function
  view = function_in a f

  abbrev parameter_names : List LocalName
  parameter_names = map (λ (p : the_parameter.Parameter). local_view p.name) f.parameters

  -- the definitions of a function are called what its values are
  named : called (definitions (structs a.table) view) ≡ names_of f
  named =
      let many = sym (length-map f.parameters (λ (p : the_parameter.Parameter). local_view p.name)) in
      let body_known = subst (λ (n : ℕ). All (KnowsBody (length a.table.types) (length a.constants) n) (option_to_list f.body)) many knows.body_known in
      definition_names (structs a.table) view
      ∙ (λ j. parameters_called (trees a.table) (constants_of a) (length a.table.types) (length a.constants) f.parameters j
      ++ results_called (trees a.table) (constants_of a) (length a.table.types) (length a.constants) parameter_names f.body body_known j)

  so_many_names : length (names_of f) ≡ length (value_names f)
  so_many_names =
      let results = option_map_or (λ (b : the_body.Body). b.results) f.body [] in
      length-append parameter_names (map local_view results)
      ∙ (λ j. length-map f.parameters (λ (p : the_parameter.Parameter). local_view p.name) j + length-map results local_view j)
      ∙ (λ j. sym (length-map f.parameters (λ (p : the_parameter.Parameter). p.name)) j + length results)
      ∙ sym (length-append (map (λ (p : the_parameter.Parameter). p.name) f.parameters) results)

  -- ---- a list of all that the function gives

  module _ (list : List LocalType) (grows : Grows a.table [] list (all_given a.table f)) where
    abbrev ds : List Definition
    ds = definitions (structs a.table) view

    listed : map (tree_of a.table) list ≡ types_of ds
    listed = grows.told ∙ sym (definitions_told a.table (constants_of a) f)

    so_many : length list ≡ length ds
    so_many = sym (length-map list (tree_of a.table)) ∙ ap (λ (us : List (Option Tree)). length us) listed ∙ length-map ds (λ (d : Definition). d.1)

    pub so_many_types : length list ≡ length (value_names f)
    so_many_types = so_many ∙ sym (length-map ds (λ (d : Definition). d.0)) ∙ ap (λ (ns : List LocalName). length ns) named ∙ so_many_names

    pub are_types : AreTypes a.table list
    are_types = grows.known (All-nil (IsOf a.table))

    pub are_local_types : has_good_names view ≡ true → AreLocalTypes a view (names_of f) list
    are_local_types good id lt =
        let nobody : Definition = (LocalName.Numbered 0, None) in
        let d = get_or ds id nobody in
        let at = slice_get-get_or ds id nobody (omega (arith, lt, so_many)) in
        ap (local_type (structs a.table) view) (ap (λ (ns : List LocalName). get_or ns id (LocalName.Numbered 0)) (sym named) ∙ get_or-map (λ (e : Definition). e.0) ds id nobody)
        ∙ local_type_at (structs a.table) view id d good at
        ∙ sym (get_or-map (λ (e : Definition). e.1) ds id nobody)
        ∙ ap (λ (us : List (Option Tree)). get_or us id None) (sym listed)
        ∙ get_or-map (tree_of a.table) list id known.Nothing

  -- all that is promised of it
  pub all_typed : {list : List LocalType} (t : Types) → t ≡ a.table → Grows t [] list (all_given t f)
      → AreTypes a.table list × (length list ≡ length (value_names f)) × (has_good_names view ≡ true → AreLocalTypes a view (names_of f) list)
  all_typed {list = list} t same grows =
      let all = subst (λ (u : Types). Grows u [] list (all_given u f)) same grows in
      (are_types list all, so_many_types list all, are_local_types list all)

-- ---- what is known of a body is enough

module _ (t : Types) (constants values blocks : ℕ) where
  inst_typed : (i : Inst) → KnowsInst (length t.types) constants values blocks i → HasTypes t i
  inst_typed i k = record {
    operands_known = All-weaker (HasOperand (length t.types) constants values) (λ (o : Operand). o.ty < length t.types) (λ o h. h.0) (operands_of i) k.operands_known;
    types_known = k.types_known;
  }

  block_typed : (b : the_block.Block) → KnowsBlock (length t.types) constants values blocks b → HasBlock t b
  block_typed b k = All-weaker (KnowsInst (length t.types) constants values blocks) (HasTypes t) inst_typed b.instructions k.instructions_known

body_typed : (t : Types) (constants parameters : ℕ) (o : Option the_body.Body) → All (KnowsBody (length t.types) constants parameters) (option_to_list o) → All (HasBlock t) (option_map_or (λ (b : the_body.Body). b.blocks) o [])
body_typed t constants parameters None h = All-nil (HasBlock t)
body_typed t constants parameters (Some b) h =
    let values = parameters + length b.results in
    let k = All-head (KnowsBody (length t.types) constants parameters) b [] h in
    All-weaker (KnowsBlock (length t.types) constants values (length b.blocks)) (HasBlock t) (block_typed t constants values (length b.blocks)) b.blocks k.blocks_known

pub blocks_typed : (t : Types) (constants : ℕ) (f : the_function.Function) → KnowsFunction (length t.types) constants f → All (HasBlock t) (function_blocks f)
blocks_typed t constants f k = body_typed t constants (length f.parameters) f.body k.body_known
