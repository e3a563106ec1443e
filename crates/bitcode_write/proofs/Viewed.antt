-- What a function of an arena has in the module that is meant: its blocks, and what its values and blocks are called.
use Rattle.std.proofs.Common.{◌≡◌, ◌+◌, List, [], ◌∷◌, ◌++◌, length, map, flat_map, filter_map, Option, Some, None, All, refl, sym, ap, ◌∙◌, subst, arith}
use Rattle.std.specs.Option.{option_map, option_map_or, option_to_list}
use Rattle.std.proofs.lemmas.List.{map-append, length-map, length-append}
use Rattle.std.proofs.lemmas.List.Elements.{All-head}
use Rattle.type_table.specs.Tree.{Tree}
use Rattle.type_table.specs.Types.{trees}
use Rattle.module_arena.specs.declared.entry.Block as the_block
use Rattle.module_arena.specs.declared.entry.Body as the_body
use Rattle.module_arena.specs.declared.entry.Function as the_function
use Rattle.module_arena.specs.declared.entry.Parameter as the_parameter
use Rattle.module_arena.specs.Functions.{blocks, body}
use Rattle.module_arena.specs.Known.{KnowsBody, KnowsFunction}
use Rattle.module_arena.specs.Lists.{Lists, value_names, function_blocks}
use Rattle.module_arena.specs.Module as m
use Rattle.module_arena.specs.Module.{LocalName}
use Rattle.module_arena.specs.Names as names
use Rattle.module_arena.specs.View.{constants_of, local_view, parameter_view, block_view, body_view}
use Rattle.module_arena.proofs.ValueNames.{results_of-body}
use Rattle.record_table.specs.Fields.{label}
use Rattle.record_table.specs.Spelling.{Line, block_lines, body_lines, body_of}
use Rattle.record_write.specs.Operands.Numbered.{indices, texts, inside, values_in}
use Rattle.bitcode_write.specs.Entries.{function_of, block_of}

names_viewed : (ps : List the_parameter.Parameter) → map (λ (p : the_parameter.Parameter). local_view p.name) ps ≡ map local_view (map (λ (p : the_parameter.Parameter). p.name) ps)
names_viewed [] = refl
names_viewed (p ∷ ps) = ap (λ (xs : List LocalName). local_view p.name ∷ xs) (names_viewed ps)

pub parameters_viewed : (ts : List Tree) (ps : List the_parameter.Parameter) → map (λ (p : m.Parameter). p.name) (map (parameter_view ts) ps) ≡ map (λ (p : the_parameter.Parameter). local_view p.name) ps
parameters_viewed ts [] = refl
parameters_viewed ts (p ∷ ps) = ap (λ (xs : List LocalName). local_view p.name ∷ xs) (parameters_viewed ts ps)

module _ (a : Lists) (f : the_function.Function) where
  -- what the parameters are called
  abbrev pub own_names : List LocalName
  own_names = map (λ (p : the_parameter.Parameter). local_view p.name) f.parameters

  pub labels_viewed : (bs : List the_block.Block) → map (λ (b : m.Block). b.name) (map (block_of a f) bs) ≡ map (λ (b : the_block.Block). local_view b.name) bs
  labels_viewed [] = refl
  labels_viewed (b ∷ bs) = ap (λ (xs : List LocalName). local_view b.name ∷ xs) (labels_viewed bs)

  -- without a body there are no records of one
  pub no_lines : f.body ≡ None → filter_map (body_of (texts a) (indices a)) (function_of a f ∷ []) ≡ []
  no_lines is =
      ap (λ (o : Option the_body.Body). filter_map (λ (x : Option (List Line)). x) (option_map (body_lines (texts a) (indices a) (function_of a f)) (option_map (body_view (trees a.table) (constants_of a) own_names) o) ∷ [])) is

  module _ (b : the_body.Body) (is : f.body ≡ Some b) where
    values_are : values_in a f ≡ own_names ++ map local_view b.results
    values_are =
        ap (λ (o : Option the_body.Body). map local_view (map (λ (p : the_parameter.Parameter). p.name) f.parameters ++ option_map_or (λ (b : the_body.Body). b.results) o [])) is
        ∙ map-append local_view (map (λ (p : the_parameter.Parameter). p.name) f.parameters) b.results
        ∙ ap (λ (xs : List LocalName). xs ++ map local_view b.results) (sym (names_viewed f.parameters))

    pub blocks_are : function_blocks f ≡ b.blocks
    blocks_are = ap (λ (o : Option the_body.Body). option_map_or (λ (b : the_body.Body). b.blocks) o []) is

    pub body_is : body_view (trees a.table) (constants_of a) own_names b ≡ map (block_of a f) (function_blocks f)
    body_is =
        (λ j. map (block_view (trees a.table) (constants_of a) (sym values_are j) (map (λ (x : the_block.Block). local_view x.name) b.blocks)) b.blocks)
        ∙ (λ j. map (block_view (trees a.table) (constants_of a) (values_in a f) (map (λ (x : the_block.Block). local_view x.name) (sym blocks_are j))) (sym blocks_are j))

    pub view_is : blocks (function_of a f) ≡ body_view (trees a.table) (constants_of a) own_names b
    view_is = ap (λ (o : Option the_body.Body). body (option_map (body_view (trees a.table) (constants_of a) own_names) o)) is

    pub count_is : length (value_names f) ≡ length f.parameters + length b.results
    count_is =
        ap (λ (o : Option the_body.Body). length (map (λ (p : the_parameter.Parameter). p.name) f.parameters ++ option_map_or (λ (b : the_body.Body). b.results) o [])) is
        ∙ omega (arith, length-append (map (λ (p : the_parameter.Parameter). p.name) f.parameters) b.results, length-map f.parameters (λ (p : the_parameter.Parameter). p.name))

    module _ (known : KnowsFunction (length a.table.types) (length a.constants) f) where
      pub body_known : KnowsBody (length a.table.types) (length a.constants) (length f.parameters) b
      body_known =
          All-head (KnowsBody (length a.table.types) (length a.constants) (length f.parameters)) b []
          (subst (λ (o : Option the_body.Body). All (KnowsBody (length a.table.types) (length a.constants) (length f.parameters)) (option_to_list o)) is known.body_known)

      -- what its values are called
      pub values_named : names.value_names (function_of a f) ≡ values_in a f
      values_named =
          let kept : KnowsBody (length a.table.types) (length a.constants) (length own_names) b = rw length-map body_known in
          (λ j. parameters_viewed (trees a.table) f.parameters j ++ flat_map names.block_results (view_is j))
          ∙ ap (λ (xs : List LocalName). own_names ++ xs) (results_of-body (trees a.table) (constants_of a) (length a.table.types) (length a.constants) own_names b kept)
          ∙ sym values_are

      -- the records of its body
      pub own_lines : filter_map (body_of (texts a) (indices a)) (function_of a f ∷ [])
          ≡ ((1, flat_map (label (texts a) 0).spell own_names) ∷ flat_map (block_lines (texts a) (inside a f)) (map (block_of a f) b.blocks)) ∷ []
      own_lines =
          let t = texts a in
          let k = indices a in
          let meant = function_of a f in
          let bs = map (block_of a f) (function_blocks f) in
          let seen = view_is ∙ body_is in
          let named : names.parameter_names meant ++ flat_map names.block_results bs ≡ values_in a f = (λ j. names.parameter_names meant ++ flat_map names.block_results (sym seen j)) ∙ values_named in
          ap (λ (o : Option the_body.Body). filter_map (λ (x : Option (List Line)). x) (option_map (body_lines t k meant) (option_map (body_view (trees a.table) (constants_of a) own_names) o) ∷ [])) is
          ∙ ap (λ (xs : List m.Block). body_lines t k meant xs ∷ []) body_is
          ∙ (λ j. ((1, flat_map (label t 0).spell (parameters_viewed (trees a.table) f.parameters j)) ∷ flat_map (block_lines t (record k { values = named j; blocks = labels_viewed (function_blocks f) j })) bs) ∷ [])
          ∙ ap (λ (xs : List the_block.Block). ((1, flat_map (label t 0).spell own_names) ∷ flat_map (block_lines t (inside a f)) (map (block_of a f) xs)) ∷ []) blocks_are
