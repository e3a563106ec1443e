-- The types that the module of an arena writes, by the lists of the arena.
use Rattle.std.proofs.Common.{◌≡◌, ℕ, List, [], ◌∷◌, ◌++◌, map, flat_map, Option, Some, None, refl, sym, ap, ◌∙◌}
use Rattle.std.specs.Option.{option_map}
use Rattle.std.proofs.lemmas.List.Concat.{flat_map_single}
use Rattle.std.proofs.lemmas.List.Folds.{flat_map-map}
use Rattle.type_table.specs.declared.ir_type.StructBody.{StructBody}
use Rattle.type_table.specs.declared.ir_type.StructBody.TheVariants as body
use Rattle.type_table.specs.Tree.{Tree}
use Rattle.type_table.specs.Types.{Types, trees, trees_at, tree, tree_struct, bodies, structs}
use Rattle.module_arena.specs.declared.entry.Alias as the_alias
use Rattle.module_arena.specs.declared.entry.AliasType.TheVariants as alias_type
use Rattle.module_arena.specs.declared.entry.Block.{Block}
use Rattle.module_arena.specs.declared.entry.Function.{Function}
use Rattle.module_arena.specs.declared.entry.Parameter.{Parameter}
use Rattle.module_arena.specs.declared.entry.Variable.{Variable}
use Rattle.module_arena.specs.declared.instruction.Case.{Case}
use Rattle.module_arena.specs.declared.instruction.Ending.{Ending}
use Rattle.module_arena.specs.declared.instruction.Ending.TheVariants as ending
use Rattle.module_arena.specs.declared.instruction.Incoming.{Incoming}
use Rattle.module_arena.specs.declared.instruction.Inst.{Inst}
use Rattle.module_arena.specs.declared.instruction.Inst.TheVariants as inst
use Rattle.module_arena.specs.declared.instruction.Operand.{Operand}
use Rattle.module_arena.specs.declared.instruction.Value.{Value}
use Rattle.module_arena.specs.declared.instruction.Value.TheVariants as value
use Rattle.module_arena.specs.Lists.{Lists, name_at}
use Rattle.module_arena.specs.Module as m
use Rattle.module_arena.specs.Module.{LocalName}
use Rattle.module_arena.specs.View.{local_view, constants_of, constant_at, value_view, operand_view, incoming_view, case_view, inst_view, ending_view, block_view, body_view, variable_view, parameter_view, alias_view, alias_type_view, function_view, module_of}
use Rattle.record_table.specs.Mentions as mentions
use Rattle.record_write.specs.Order.Written.{in_value, in_operand, in_incoming, in_count, in_inst, in_case, in_ending, in_block, in_initialiser, in_variable, in_body, in_function, in_alias_type, in_struct_body}
use Rattle.record_write.proofs.OnOrder.TextsOf.{map_through, flat_through}

module _ (a : Lists) (values blocks : List LocalName) where
  value_same : (v : Value) → mentions.in_value (value_view (trees a.table) (constants_of a) values blocks v) ≡ in_value a v
  value_same (value.Local id) = refl
  value_same (value.Known id) = refl

  operand_same : (o : Operand) → mentions.in_operand (operand_view (trees a.table) (constants_of a) values blocks o) ≡ in_operand a o
  operand_same o = ap (λ (ts : List Tree). tree a.table o.ty ∷ ts) (value_same o.value)

  incoming_same : (i : Incoming) → mentions.in_incoming (incoming_view (trees a.table) (constants_of a) values blocks i) ≡ in_incoming a i
  incoming_same i = value_same i.value

  operands_same : (os : List Operand) → flat_map mentions.in_operand (map (operand_view (trees a.table) (constants_of a) values blocks) os) ≡ flat_map (in_operand a) os
  operands_same os = flat_through mentions.in_operand (operand_view (trees a.table) (constants_of a) values blocks) (in_operand a) operand_same os

  count_same : (o : Option Operand) → mentions.in_some mentions.in_operand (option_map (operand_view (trees a.table) (constants_of a) values blocks) o) ≡ in_count a o
  count_same None = refl
  count_same (Some o) = operand_same o

  inst_same : (i : Inst) → mentions.in_operation (inst_view (trees a.table) (constants_of a) values blocks i).operation ≡ in_inst a i
  inst_same (inst.Binary opcode flags result left right) = λ j. operand_same left j ++ value_same right j
  inst_same (inst.Compare flags predicate result left right) = λ j. operand_same left j ++ value_same right j
  inst_same (inst.Convert opcode flags result operand to) = λ j. operand_same operand j ++ tree a.table to ∷ []
  inst_same (inst.Select result choice) = λ j. operand_same choice.condition j ++ operand_same choice.first j ++ operand_same choice.second j
  inst_same (inst.Freeze result operand) = operand_same operand
  inst_same (inst.Phi result ty incoming) = ap (λ (ts : List Tree). tree a.table ty ∷ ts) (flat_through mentions.in_incoming (incoming_view (trees a.table) (constants_of a) values blocks) (in_incoming a) incoming_same incoming)
  inst_same (inst.Load flags result ty address alignment) = ap (λ (ts : List Tree). tree a.table ty ∷ ts) (operand_same address)
  inst_same (inst.Store flags stored address alignment) = λ j. operand_same stored j ++ operand_same address j
  inst_same (inst.Alloca result ty count alignment) = ap (λ (ts : List Tree). tree a.table ty ∷ ts) (count_same count)
  inst_same (inst.GetElementPtr flags result source base indices) = λ j. tree a.table source ∷ operand_same base j ++ operands_same indices j
  inst_same (inst.Call call) = λ j. tree a.table call.signature.returns ∷ map (tree a.table) call.signature.parameters ++ value_same call.callee j ++ operands_same call.arguments j
  inst_same (inst.ExtractValue result aggregate indices) = operand_same aggregate
  inst_same (inst.InsertValue result insertion) = λ j. operand_same insertion.aggregate j ++ operand_same insertion.part j

  case_same : (c : Case) → mentions.in_case (case_view (trees a.table) (constants_of a) values blocks c) ≡ in_case a c
  case_same c = refl

  ending_same : (e : Ending) → mentions.in_ending (ending_view (trees a.table) (constants_of a) values blocks e) ≡ in_ending a e
  ending_same ending.ReturnVoid = refl
  ending_same (ending.Return operand) = operand_same operand
  ending_same (ending.Jump target) = refl
  ending_same (ending.Branch condition then_to else_to) = operand_same condition
  ending_same (ending.Switch operand otherwise cases) =
      λ j. operand_same operand j ++ flat_through mentions.in_case (case_view (trees a.table) (constants_of a) values blocks) (in_case a) case_same cases j
  ending_same ending.Unreachable = refl

  block_same : (b : Block) → mentions.in_block (block_view (trees a.table) (constants_of a) values blocks b) ≡ in_block a b
  block_same b = λ j. flat_through (λ i. mentions.in_operation i.operation) (inst_view (trees a.table) (constants_of a) values blocks) (in_inst a) inst_same b.instructions j ++ ending_same b.end j

module _ (a : Lists) where
  variable_same : (v : Variable) → mentions.in_variable (variable_view (trees a.table) (constants_of a) v) ≡ in_variable a v
  variable_same v = elim v.initialiser as (λ o. tree a.table v.ty ∷ mentions.in_some mentions.in_constant (option_map (constant_at (constants_of a)) o) ≡ tree a.table v.ty ∷ in_initialiser a o)
      [ None ↦ refl | Some id ↦ refl ]

  function_same : (f : Function) → mentions.in_function (function_view (trees a.table) (constants_of a) f) ≡ in_function a f
  function_same f =
      ap (λ (ts : List Tree). tree a.table f.result ∷ ts ++ mentions.in_some (λ bs. flat_map mentions.in_block bs) (option_map (body_view (trees a.table) (constants_of a) (map (λ p. local_view p.name) f.parameters)) f.body))
      (map_through (λ (p : m.Parameter). p.ty) (parameter_view (trees a.table)) (λ (p : Parameter). tree a.table p.ty) (λ p. refl) f.parameters ∙ sym (flat_map_single (λ (p : Parameter). tree a.table p.ty) f.parameters))
      ∙ (elim f.body as (λ o. tree a.table f.result ∷ flat_map (λ p. tree a.table p.ty ∷ []) f.parameters ++ mentions.in_some (λ bs. flat_map mentions.in_block bs) (option_map (body_view (trees a.table) (constants_of a) (map (λ p. local_view p.name) f.parameters)) o)
      ≡ tree a.table f.result ∷ flat_map (λ p. tree a.table p.ty ∷ []) f.parameters ++ in_body a o) [
        | None ↦ refl
        | Some b ↦ ap (λ (ts : List Tree). tree a.table f.result ∷ flat_map (λ p. tree a.table p.ty ∷ []) f.parameters ++ ts)
            (flat_through mentions.in_block (block_view (trees a.table) (constants_of a) (map (λ p. local_view p.name) f.parameters ++ map local_view b.results) (map (λ x. local_view x.name) b.blocks)) (in_block a)
            (block_same a (map (λ p. local_view p.name) f.parameters ++ map local_view b.results) (map (λ x. local_view x.name) b.blocks)) b.blocks)
      ])

  alias_same : (x : the_alias.Alias) → mentions.in_alias_type (alias_view (trees a.table) (name_at a) x).ty ≡ in_alias_type a x.ty
  alias_same x = elim x.ty as (λ t. mentions.in_alias_type (alias_type_view (trees a.table) t) ≡ in_alias_type a t)
      [ alias_type.Plain ty ↦ refl | alias_type.Function returns parameters variadic ↦ refl ]

-- ---- structs

list_at : (t : Types) (ids : List ℕ) → mentions.tree_list (trees_at (trees t) ids) ≡ map (tree t) ids
list_at t [] = refl
list_at t (id ∷ ids) = ap (λ ts. tree t id ∷ ts) (list_at t ids)

struct_same : (t : Types) (name : List ℕ) (b : Option StructBody) → mentions.in_struct (tree_struct (trees t) (name, b)) ≡ in_struct_body t b
struct_same t name None = refl
struct_same t name (Some body.Opaque) = refl
struct_same t name (Some (body.Plain parts)) = list_at t parts
struct_same t name (Some (body.Packed parts)) = list_at t parts

structs_same : (t : Types) → flat_map mentions.in_struct (structs t) ≡ flat_map (in_struct_body t) (bodies t)
structs_same t =
    flat_through mentions.in_struct (tree_struct (trees t)) (λ (s : List ℕ × Option StructBody). in_struct_body t s.1) (λ s. struct_same t s.0 s.1) t.structs
    ∙ sym (flat_map-map (in_struct_body t) (λ (s : List ℕ × Option StructBody). s.1) t.structs)

-- ---- the module

pub written_are : (a : Lists) → mentions.written_types (module_of a)
    ≡ flat_map (in_struct_body a.table) (bodies a.table) ++ flat_map (in_variable a) a.variables ++ flat_map (in_function a) a.functions ++ flat_map (λ x. in_alias_type a x.ty) a.aliases
unfolding module_of
written_are a =
    let variables_are = flat_through mentions.in_variable (variable_view (trees a.table) (constants_of a)) (in_variable a) (variable_same a) a.variables in
    let functions_are = flat_through mentions.in_function (function_view (trees a.table) (constants_of a)) (in_function a) (function_same a) a.functions in
    let aliases_are = flat_through (λ (x : m.Alias). mentions.in_alias_type x.ty) (alias_view (trees a.table) (name_at a)) (λ (x : the_alias.Alias). in_alias_type a x.ty) (alias_same a) a.aliases in
    λ j. structs_same a.table j ++ variables_are j ++ functions_are j ++ aliases_are j
