-- The texts of the module that an arena stands for, by the lists of the arena.
use Rattle.std.proofs.Common.{◌≡◌, ℕ, List, [], ◌∷◌, ◌++◌, map, flat_map, get_or, Option, Some, None, refl, sym, ap, ◌∙◌}
use Rattle.std.specs.List.{filter_map, cons_option}
use Rattle.std.specs.Prelude.{option_to_list}
use Rattle.std.specs.Option.{option_map, option_map_or}
use Rattle.std.proofs.lemmas.List.{append-nil, map-append}
use Rattle.type_table.proofs.UnderIds.{get_or-map}
use Rattle.std.proofs.lemmas.List.Concat.{flat_map-append}
use Rattle.std.proofs.lemmas.List.Folds.{flat_map-map}
use Rattle.type_table.specs.declared.ir_type.StructBody.{StructBody}
use Rattle.type_table.specs.Tree.{Tree, TreeBody}
use Rattle.type_table.specs.Types.{trees, names, tree_struct}
use Rattle.module_arena.specs.declared.entry.Block.{Block}
use Rattle.module_arena.specs.declared.entry.Body.{Body}
use Rattle.module_arena.specs.declared.entry.Function.{Function}
use Rattle.module_arena.specs.declared.entry.LocalName as the_local
use Rattle.module_arena.specs.declared.entry.LocalName.TheVariants as local
use Rattle.module_arena.specs.declared.entry.Parameter.{Parameter}
use Rattle.module_arena.specs.declared.instruction.Inst.{Inst}
use Rattle.module_arena.specs.declared.instruction.Inst.TheVariants as inst
use Rattle.module_arena.specs.Lists.{Lists, name_at, value_names, function_blocks}
use Rattle.module_arena.specs.Module.{Bytes, Constant, LocalName, Variable, Alias}
use Rattle.module_arena.specs.Module as m
use Rattle.module_arena.specs.declared.entry.Variable as the_variable
use Rattle.module_arena.specs.declared.entry.Alias as the_alias
use Rattle.module_arena.specs.View.{local_view, parameter_view, inst_view, block_view, body_view, function_view, variable_view, alias_view, constants_of, module_of}
use Rattle.record_table.specs.Fields.{name_in}
use Rattle.record_table.specs.Spelling.{results, texts_of, texts_of_body}
use Rattle.record_write.specs.Order.Bodies.{local_text, value_text, result_texts, block_texts, body_texts}

-- ---- lists

pub map_through : {A B C : Type 0} (g : B → C) (f : A → B) (h : A → C) → ((x : A) → g (f x) ≡ h x) → (xs : List A) → map g (map f xs) ≡ map h xs
map_through g f h same [] = refl
map_through g f h same (x ∷ xs) = ap (λ y. y ∷ map g (map f xs)) (same x) ∙ ap (λ ys. h x ∷ ys) (map_through g f h same xs)

pub flat_through : {A B C : Type 0} (g : B → List C) (f : A → B) (h : A → List C) → ((x : A) → g (f x) ≡ h x) → (xs : List A) → flat_map g (map f xs) ≡ flat_map h xs
flat_through g f h same [] = refl
flat_through g f h same (x ∷ xs) = ap (λ ys. ys ++ flat_map g (map f xs)) (same x) ∙ ap (λ ys. h x ++ ys) (flat_through g f h same xs)

flat_nest : {A B C : Type 0} (h : B → List C) (g : A → List B) (xs : List A) → flat_map h (flat_map g xs) ≡ flat_map (λ x. flat_map h (g x)) xs
flat_nest h g [] = refl
flat_nest h g (x ∷ xs) = flat_map-append h (g x) (flat_map g xs) ∙ ap (λ ys. flat_map h (g x) ++ ys) (flat_nest h g xs)

filter_flat : {A B : Type 0} (g : A → Option B) (xs : List A) → filter_map g xs ≡ flat_map (λ x. option_to_list (g x)) xs
filter_flat g [] = refl
filter_flat {A} {B} g (x ∷ xs) = elim (g x) as (λ o. cons_option o (filter_map g xs) ≡ option_to_list o ++ flat_map (λ y. option_to_list (g y)) xs)
    [ None ↦ filter_flat g xs | Some y ↦ ap (λ ys. y ∷ ys) (filter_flat g xs) ]

-- ---- names in a body

-- the name, where it is one
text_in : LocalName → List Bytes
text_in n = option_to_list (name_in n)

module _ (types : List Tree) (constants : List Constant) (ps : List Parameter) (rs : List the_local.LocalName) (blocks : List LocalName) where
  -- what the values are called
  called : List LocalName
  called = map (λ p. local_view p.name) ps ++ map local_view rs

  values : List the_local.LocalName
  values = map (λ p. p.name) ps ++ rs

  called_so : map (λ p. local_view p.name) ps ++ map local_view rs ≡ map local_view (map (λ p. p.name) ps ++ rs)
  called_so = ap (λ (xs : List LocalName). xs ++ map local_view rs) (sym (map_through local_view (λ (p : Parameter). p.name) (λ (p : Parameter). local_view p.name) (λ p. refl) ps)) ∙ sym (map-append local_view (map (λ p. p.name) ps) rs)

  name_same : (id : ℕ) → get_or (map (λ p. local_view p.name) ps ++ map local_view rs) id (LocalName.Numbered 0) ≡ local_view (get_or (map (λ p. p.name) ps ++ rs) id (local.Numbered 0))
  name_same id = ap (λ (xs : List LocalName). get_or xs id (LocalName.Numbered 0)) called_so ∙ get_or-map local_view (map (λ p. p.name) ps ++ rs) id (local.Numbered 0)

  one_result : (id : ℕ) → option_to_list (name_in (get_or (map (λ p. local_view p.name) ps ++ map local_view rs) id (LocalName.Numbered 0))) ++ [] ≡ value_text (map (λ p. p.name) ps ++ rs) id ++ []
  one_result id = ap (λ (n : LocalName). option_to_list (name_in n) ++ []) (name_same id)

  result_same : (i : Inst) → flat_map (λ n. option_to_list (name_in n)) (option_to_list (inst_view types constants (map (λ p. local_view p.name) ps ++ map local_view rs) blocks i).result) ≡ result_texts (map (λ p. p.name) ps ++ rs) i
  result_same (inst.Binary opcode flags result left right) = one_result result
  result_same (inst.Compare flags predicate result left right) = one_result result
  result_same (inst.Convert opcode flags result operand to) = one_result result
  result_same (inst.Select result choice) = one_result result
  result_same (inst.Freeze result operand) = one_result result
  result_same (inst.Phi result ty incoming) = one_result result
  result_same (inst.Load flags result ty address alignment) = one_result result
  result_same (inst.Store flags stored address alignment) = refl
  result_same (inst.Alloca result ty count alignment) = one_result result
  result_same (inst.GetElementPtr flags result source base indices) = one_result result
  result_same (inst.Call call) = elim call.result as (λ o. flat_map (λ n. option_to_list (name_in n)) (option_to_list (option_map (λ id. get_or (map (λ p. local_view p.name) ps ++ map local_view rs) id (LocalName.Numbered 0)) o)) ≡ flat_map (value_text (map (λ p. p.name) ps ++ rs)) (option_to_list o))
      [ None ↦ refl | Some id ↦ one_result id ]
  result_same (inst.ExtractValue result aggregate indices) = one_result result
  result_same (inst.InsertValue result insertion) = one_result result

  block_same : (b : Block) → flat_map (λ n. option_to_list (name_in n)) ((block_view types constants (map (λ p. local_view p.name) ps ++ map local_view rs) blocks b).name ∷ results (block_view types constants (map (λ p. local_view p.name) ps ++ map local_view rs) blocks b)) ≡ block_texts (map (λ p. p.name) ps ++ rs) b
  block_same b = ap (λ (xs : List Bytes). local_text b.name ++ xs)
      (flat_nest (λ (n : LocalName). option_to_list (name_in n)) (λ i. option_to_list i.result) (map (inst_view types constants (map (λ p. local_view p.name) ps ++ map local_view rs) blocks) b.instructions)
      ∙ flat_through (λ i. flat_map (λ n. option_to_list (name_in n)) (option_to_list i.result)) (inst_view types constants (map (λ p. local_view p.name) ps ++ map local_view rs) blocks) (result_texts (map (λ p. p.name) ps ++ rs)) result_same b.instructions)

  blocks_same : (bs : List Block) → filter_map name_in (map (λ p. p.name) (map (parameter_view types) ps) ++ flat_map (λ b. b.name ∷ results b) (map (block_view types constants (map (λ p. local_view p.name) ps ++ map local_view rs) blocks) bs))
      ≡ flat_map (λ p. local_text p.name) ps ++ flat_map (block_texts (map (λ p. p.name) ps ++ rs)) bs
  blocks_same bs =
      let T : LocalName → List Bytes = λ n. option_to_list (name_in n) in
      let there = map (block_view types constants (map (λ p. local_view p.name) ps ++ map local_view rs) blocks) bs in
      filter_flat name_in (map (λ p. p.name) (map (parameter_view types) ps) ++ flat_map (λ b. b.name ∷ results b) there)
      ∙ flat_map-append T (map (λ p. p.name) (map (parameter_view types) ps)) (flat_map (λ b. b.name ∷ results b) there)
      ∙ ap (λ (xs : List Bytes). xs ++ flat_map T (flat_map (λ b. b.name ∷ results b) there)) (flat_map-map T (λ p. p.name) (map (parameter_view types) ps) ∙ flat_through (λ p. T p.name) (parameter_view types) (λ p. local_text p.name) (λ p. refl) ps)
      ∙ ap (λ (xs : List Bytes). flat_map (λ p. local_text p.name) ps ++ xs)
      (flat_nest T (λ b. b.name ∷ results b) there
      ∙ flat_through (λ b. flat_map T (b.name ∷ results b)) (block_view types constants (map (λ p. local_view p.name) ps ++ map local_view rs) blocks) (block_texts (map (λ p. p.name) ps ++ rs)) block_same bs)

body_same : (types : List Tree) (constants : List Constant) (f : Function) → texts_of_body (function_view types constants f) ≡ body_texts f
body_same types constants f = elim f.body as (λ o.
    flat_map (λ bs. filter_map name_in (map (λ p. p.name) (map (parameter_view types) f.parameters) ++ flat_map (λ b. b.name ∷ results b) bs)) (option_to_list (option_map (body_view types constants (map (λ p. local_view p.name) f.parameters)) o))
    ≡ option_map_or (λ b. flat_map (λ p. local_text p.name) f.parameters ++ flat_map (block_texts (map (λ p. p.name) f.parameters ++ option_map_or (λ b. b.results) o [])) b.blocks) o []) [
      | None ↦ refl
      | Some b ↦ append-nil (filter_map name_in (map (λ p. p.name) (map (parameter_view types) f.parameters) ++ flat_map (λ x. x.name ∷ results x) (body_view types constants (map (λ p. local_view p.name) f.parameters) b)))
          ∙ blocks_same types constants f.parameters b.results (map (λ x. local_view x.name) b.blocks) b.blocks
    ]

-- ---- the module

pub texts_are : (a : Lists) → texts_of (module_of a)
    ≡ option_to_list a.source ++ option_to_list a.layout ++ option_to_list a.triple ++ names a.table
    ++ map (λ v. v.name) a.variables ++ map (λ f. f.name) a.functions ++ map (λ x. x.name) a.aliases ++ flat_map body_texts a.functions
unfolding module_of
texts_are a =
    let structs_are = map_through (λ (s : List ℕ × TreeBody). s.0) (tree_struct (trees a.table)) (λ (s : List ℕ × Option StructBody). s.0) (λ s. refl) a.table.structs in
    let variables_are = map_through (λ (v : Variable). v.name) (variable_view (trees a.table) (constants_of a)) (λ (v : the_variable.Variable). v.name) (λ v. refl) a.variables in
    let functions_are = map_through (λ (f : m.Function). f.name) (function_view (trees a.table) (constants_of a)) (λ (f : Function). f.name) (λ f. refl) a.functions in
    let aliases_are = map_through (λ (x : Alias). x.name) (alias_view (trees a.table) (name_at a)) (λ (x : the_alias.Alias). x.name) (λ x. refl) a.aliases in
    let bodies_are = flat_through texts_of_body (function_view (trees a.table) (constants_of a)) body_texts (body_same (trees a.table) (constants_of a)) a.functions in
    λ j. option_to_list a.source ++ option_to_list a.layout ++ option_to_list a.triple ++ structs_are j ++ variables_are j ++ functions_are j ++ aliases_are j ++ bodies_are j

-- what a body has, where there is one
pub body_some : (f : Function) (b : Body) → f.body ≡ Some b → flat_map (λ p. local_text p.name) f.parameters ++ flat_map (block_texts (value_names f)) b.blocks ≡ body_texts f
body_some f b is = ap (λ (o : Option Body). option_map_or (λ x. flat_map (λ p. local_text p.name) f.parameters ++ flat_map (block_texts (value_names f)) x.blocks) o []) (sym is)

pub blocks_some : (f : Function) (b : Body) → f.body ≡ Some b → function_blocks f ≡ b.blocks
blocks_some f b is = ap (λ (o : Option Body). option_map_or (λ x. x.blocks) o []) is
