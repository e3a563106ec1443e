-- The types that a function gives, in the order of its values, are those of its definitions.
use Rattle.std.proofs.Common.{◌≡◌, ℕ, List, [], ◌∷◌, ◌++◌, map, flat_map, Option, Some, None, refl, ap, ◌∙◌}
use Rattle.std.specs.Option.{option_map, option_map_or}
use Rattle.std.proofs.lemmas.List.{map-append}
use Rattle.type_table.specs.Tree.{Tree}
use Rattle.type_table.specs.Types.{Types, structs, tree, trees}
use Rattle.module_arena.specs.declared.entry.Block as the_block
use Rattle.module_arena.specs.declared.entry.Body as the_body
use Rattle.module_arena.specs.declared.entry.Function as the_function
use Rattle.module_arena.specs.declared.entry.Parameter as the_parameter
use Rattle.module_arena.specs.declared.instruction.Call.{Call}
use Rattle.module_arena.specs.declared.instruction.Inst as the_inst
use Rattle.module_arena.specs.declared.instruction.Inst.TheVariants as inst
use Rattle.module_arena.specs.Functions.{Definition, body, definitions, parameter_definition, result_definitions}
use Rattle.module_arena.specs.Lists.{function_blocks}
use Rattle.module_arena.specs.Module.{Block, Constant, LocalName}
use Rattle.module_arena.specs.View.{block_view, body_view, function_view, inst_view, local_view, parameter_view, value_name}
use Rattle.instruction_verify.specs.Last.Given.{given, given_in}

abbrev pub types_of : List Definition → List (Option Tree)
types_of ds = map (λ (d : Definition). d.1) ds

-- what a function gives: the types of its parameters, and then of its results
abbrev pub all_given : Types → the_function.Function → List (Option Tree)
all_given t f = map (λ (p : the_parameter.Parameter). Some (tree t p.ty)) f.parameters ++ flat_map (given_in t) (function_blocks f)

module _ (t : Types) (cs : List Constant) (vs bs : List LocalName) where
  inst_told : (i : the_inst.Inst) → types_of (result_definitions (structs t) (inst_view (trees t) cs vs bs i)) ≡ given t i
  inst_told (inst.Binary opcode flags result left right) = refl
  inst_told (inst.Compare flags predicate result left right) = refl
  inst_told (inst.Convert opcode flags result operand to) = refl
  inst_told (inst.Select result choice) = refl
  inst_told (inst.Freeze result operand) = refl
  inst_told (inst.Phi result ty incoming) = refl
  inst_told (inst.Load flags result ty address alignment) = refl
  inst_told (inst.Store flags stored address alignment) = refl
  inst_told (inst.Alloca result ty count alignment) = refl
  inst_told (inst.GetElementPtr flags result source base indices) = refl
  inst_told (inst.Call call) = by call.result
    where
      by : (o : Option ℕ) → types_of (result_definitions (structs t) (record { result = option_map (value_name (trees t) cs vs bs) o; operation = (inst_view (trees t) cs vs bs (inst.Call call)).operation }))
          ≡ types_of (result_definitions (structs t) (record { result = option_map (value_name (trees t) [] [] []) o; operation = (inst_view (trees t) [] [] [] (inst.Call call)).operation }))
      by None = refl
      by (Some r) = refl
  inst_told (inst.ExtractValue result aggregate indices) = refl
  inst_told (inst.InsertValue result insertion) = refl

  insts_told : (is : List the_inst.Inst) → types_of (flat_map (result_definitions (structs t)) (map (inst_view (trees t) cs vs bs) is)) ≡ flat_map (given t) is
  insts_told [] = refl
  insts_told (i ∷ is) =
      map-append (λ (d : Definition). d.1) (result_definitions (structs t) (inst_view (trees t) cs vs bs i)) (flat_map (result_definitions (structs t)) (map (inst_view (trees t) cs vs bs) is))
      ∙ (λ j. inst_told i j ++ insts_told is j)

  abbrev defined : Block → List Definition
  defined block = flat_map (result_definitions (structs t)) block.instructions

  blocks_told : (xs : List the_block.Block) → types_of (flat_map defined (map (block_view (trees t) cs vs bs) xs)) ≡ flat_map (given_in t) xs
  blocks_told [] = refl
  blocks_told (x ∷ xs) =
      map-append (λ (d : Definition). d.1) (defined (block_view (trees t) cs vs bs x)) (flat_map defined (map (block_view (trees t) cs vs bs) xs))
      ∙ (λ j. insts_told x.instructions j ++ blocks_told xs j)

module _ (t : Types) (cs : List Constant) where
  parameters_told : (ps : List the_parameter.Parameter) → types_of (map parameter_definition (map (parameter_view (trees t)) ps)) ≡ map (λ (p : the_parameter.Parameter). Some (tree t p.ty)) ps
  parameters_told [] = refl
  parameters_told (p ∷ ps) = ap (λ us. Some (tree t p.ty) ∷ us) (parameters_told ps)

  body_told : (ns : List LocalName) (o : Option the_body.Body)
      → types_of (flat_map (λ (block : Block). flat_map (result_definitions (structs t)) block.instructions) (body (option_map (body_view (trees t) cs ns) o))) ≡ flat_map (given_in t) (option_map_or (λ (b : the_body.Body). b.blocks) o [])
  body_told ns None = refl
  body_told ns (Some b) = blocks_told t cs _ _ b.blocks

  -- the types of the definitions of a function
  pub definitions_told : (f : the_function.Function) → types_of (definitions (structs t) (function_view (trees t) cs f)) ≡ all_given t f
  definitions_told f =
      map-append (λ (d : Definition). d.1) (map parameter_definition (map (parameter_view (trees t)) f.parameters)) _
      ∙ (λ j. parameters_told f.parameters j ++ body_told (map (λ (p : the_parameter.Parameter). local_view p.name) f.parameters) f.body j)

-- what a call gives, where its result is this
abbrev pub call_given : Types → Call → Option ℕ → List (Option Tree)
call_given t call o =
    types_of (result_definitions (structs t) (record { result = option_map (value_name (trees t) [] [] []) o; operation = (inst_view (trees t) [] [] [] (inst.Call call)).operation }))
