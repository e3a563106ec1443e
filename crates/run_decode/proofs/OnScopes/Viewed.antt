-- The names of a function's parameters and results are those that the arena keeps, in the order of their ids; and so are its blocks.
use Rattle.std.proofs.Common.{◌≡◌, ℕ, zero, suc, Bool, true, false, not, ◌&&◌, List, [], ◌∷◌, ◌++◌, All, Option, Some, None, map, flat_map, length, append-nil, refl, sym, ap, ◌∙◌, subst, unwrap_or, option_to_list}
use Rattle.std.specs.Prelude.{slice_get}
use Rattle.std.specs.List.{AllByRecursion, IsDistinct, list_all, list_any}
use Rattle.std.proofs.lemmas.Bool.{and_parts, or_parts, not-true}
use Rattle.std.proofs.lemmas.Option.{get_or_from_slice_get, slice_get_within}
use Rattle.ir_tables.specs.Table.{is_distinct}
use Rattle.std.specs.Option.{option_map, option_map_or}
use Rattle.std.proofs.lemmas.List.{length-map, map-append}
use Rattle.std.proofs.lemmas.List.Elements.{All-head}
use Rattle.type_table.specs.Tree.{Tree}
use Rattle.type_table.specs.Types.{trees}
use Rattle.module_arena.specs.declared.entry.Block as the_block
use Rattle.module_arena.specs.declared.entry.Body as the_body
use Rattle.module_arena.specs.declared.entry.Function as the_function
use Rattle.module_arena.specs.declared.entry.Parameter as the_parameter
use Rattle.module_arena.specs.Forms.{is_not_empty}
use Rattle.module_arena.specs.Functions.{blocks, body, result_name}
use Rattle.module_arena.specs.Known.{IsGood, KnowsBody, KnowsFunction}
use Rattle.module_arena.specs.Lists.{Lists, function_blocks}
use Rattle.module_arena.specs.Module as m
use Rattle.module_arena.specs.Module.{LocalName}
use Rattle.module_arena.specs.Names as names
use Rattle.module_arena.specs.Names.{has_good_names}
use Rattle.module_arena.specs.Same.{same_local}
use Rattle.module_arena.specs.WellFormed.{IsWellFormed, is_good_block, is_good_function, is_good_type}
use Rattle.module_arena.specs.View.{module_of, constants_of, local_view, parameter_view, block_view, body_view}
use Rattle.module_arena.proofs.Apart.{blocks_apart, flow_names}
use Rattle.module_arena.proofs.LocalTypes.{values_distinct}
use Rattle.module_arena.proofs.ValueNames.{results_of-body}
use Rattle.run_rules.specs.Constant.{Names, shape_of}
use Rattle.run_rules.specs.Scope.{Typed, result_shape, parameters_of, result_of, results_of, blocks_of}
use Rattle.run_initial.specs.Constants.Sound.{names_of}
use Rattle.run_decode.specs.Scopes.Scopes.{AreApart, IsFramed, block_of, bounds_from, function_of, labels_in, typed_of, typed_parameter, values_in}
use Rattle.run_decode.proofs.OnScopes.Located.{names_in}

-- ---- the names of what a scope has

joined : (xs ys : List Typed) → names_in (xs ++ ys) ≡ names_in xs ++ names_in ys
joined xs ys = map-append (λ (x : Typed). x.0) xs ys

result_named : (n : Names) (i : m.Instruction) → names_in (result_of n i) ≡ result_name i
result_named n i = go i.result
  where
    go : (o : Option LocalName) → names_in (option_map_or {U = List Typed} (λ name. (name, result_shape n i.operation) ∷ []) o []) ≡ option_to_list o
    go None = refl
    go (Some name) = refl

results_named : (n : Names) (is : List m.Instruction) → names_in (flat_map (result_of n) is) ≡ flat_map result_name is
results_named n [] = refl
results_named n (i ∷ is) = joined (result_of n i) (flat_map (result_of n) is) ∙ (λ j. result_named n i j ++ results_named n is j)

blocks_named : (n : Names) (bs : List m.Block) → names_in (flat_map (results_of n) bs) ≡ flat_map names.block_results bs
blocks_named n [] = refl
blocks_named n (b ∷ bs) = joined (results_of n b) (flat_map (results_of n) bs) ∙ (λ j. results_named n b.instructions j ++ blocks_named n bs j)

parameters_named : (n : Names) (ps : List m.Parameter) → names_in (map (λ (p : m.Parameter). (p.name, shape_of n p.ty)) ps) ≡ map (λ (p : m.Parameter). p.name) ps
parameters_named n [] = refl
parameters_named n (p ∷ ps) = ap (λ (l : List LocalName). p.name ∷ l) (parameters_named n ps)

-- ---- by ids

typed_viewed : (a : Lists) (ps : List the_parameter.Parameter) → map (λ (p : m.Parameter). (p.name, shape_of (names_of a) p.ty)) (map (parameter_view (trees a.table)) ps) ≡ map (typed_parameter a) ps
typed_viewed a [] = refl
typed_viewed a (p ∷ ps) = ap (λ (xs : List Typed). typed_parameter a p ∷ xs) (typed_viewed a ps)

none_same : (x : LocalName) (ys : List LocalName) → list_any (same_local x) ys ≡ false → AllByRecursion (λ (y : LocalName). same_local x y ≡ false) ys
none_same x [] h = tt
none_same x (y ∷ ys) h = let p = or_parts (same_local x y) (list_any (same_local x) ys) h in (p.0, none_same x ys p.1)

are_distinct : (xs : List LocalName) → is_distinct same_local xs ≡ true → IsDistinct same_local xs
unfolding IsDistinct
are_distinct [] h = tt
are_distinct (x ∷ xs) h =
    let p = and_parts (not (list_any (same_local x) xs)) (is_distinct same_local xs) h in
    (none_same x xs (not-true (list_any (same_local x) xs) p.0), are_distinct xs p.1)

names_viewed : (ps : List the_parameter.Parameter) → map (λ (p : the_parameter.Parameter). local_view p.name) ps ≡ map local_view (map (λ (p : the_parameter.Parameter). p.name) ps)
names_viewed [] = refl
names_viewed (p ∷ ps) = ap (λ (xs : List LocalName). local_view p.name ∷ xs) (names_viewed ps)

parameters_viewed : (ts : List Tree) (ps : List the_parameter.Parameter) → map (λ (p : m.Parameter). p.name) (map (parameter_view ts) ps) ≡ map (λ (p : the_parameter.Parameter). local_view p.name) ps
parameters_viewed ts [] = refl
parameters_viewed ts (p ∷ ps) = ap (λ (xs : List LocalName). local_view p.name ∷ xs) (parameters_viewed ts ps)

module _ (a : Lists) (f : the_function.Function) where
  abbrev own_names : List LocalName
  own_names = map (λ (p : the_parameter.Parameter). local_view p.name) f.parameters

  -- the names of the parameters and results
  listed_named : names_in (typed_of a f) ≡ map (λ (p : m.Parameter). p.name) (function_of a f).parameters ++ flat_map names.block_results (blocks_of (function_of a f))
  listed_named =
      let meant = function_of a f in
      joined (parameters_of (names_of a) meant) (flat_map (results_of (names_of a)) (blocks_of meant))
      ∙ (λ j. parameters_named (names_of a) meant.parameters j ++ blocks_named (names_of a) (blocks_of meant) j)

  same_blocks : (o : Option (List m.Block)) → body o ≡ unwrap_or o []
  same_blocks None = refl
  same_blocks (Some bs) = refl

  typed_named : names_in (typed_of a f) ≡ names.value_names (function_of a f)
  typed_named =
      let meant = function_of a f in
      listed_named ∙ ap (λ (bs : List m.Block). map (λ (p : m.Parameter). p.name) meant.parameters ++ flat_map names.block_results bs) (sym (same_blocks meant.body))

  module _ (b : the_body.Body) (is : f.body ≡ Some b) where
    values_are : values_in a f ≡ own_names ++ map local_view b.results
    values_are =
        ap (λ (o : Option the_body.Body). map local_view (map (λ (p : the_parameter.Parameter). p.name) f.parameters ++ option_map_or (λ (b : the_body.Body). b.results) o [])) is
        ∙ map-append local_view (map (λ (p : the_parameter.Parameter). p.name) f.parameters) b.results
        ∙ ap (λ (xs : List LocalName). xs ++ map local_view b.results) (sym (names_viewed f.parameters))

    pub blocks_are : function_blocks f ≡ b.blocks
    blocks_are = ap (λ (o : Option the_body.Body). option_map_or (λ (b : the_body.Body). b.blocks) o []) is

    body_is : body_view (trees a.table) (constants_of a) own_names b ≡ map (block_of a f) (function_blocks f)
    body_is =
        (λ j. map (block_view (trees a.table) (constants_of a) (sym values_are j) (map (λ (x : the_block.Block). local_view x.name) b.blocks)) b.blocks)
        ∙ (λ j. map (block_view (trees a.table) (constants_of a) (values_in a f) (map (λ (x : the_block.Block). local_view x.name) (sym blocks_are j))) (sym blocks_are j))

    -- the blocks of the function are those of the arena
    pub blocks_viewed : blocks_of (function_of a f) ≡ map (block_of a f) (function_blocks f)
    blocks_viewed = ap (λ (o : Option the_body.Body). unwrap_or (option_map (body_view (trees a.table) (constants_of a) own_names) o) []) is ∙ body_is

    body_viewed : blocks_of (function_of a f) ≡ body_view (trees a.table) (constants_of a) own_names b
    body_viewed = ap (λ (o : Option the_body.Body). unwrap_or (option_map (body_view (trees a.table) (constants_of a) own_names) o) []) is

    module _ (known : KnowsFunction (length a.table.types) (length a.constants) f) where
      body_known : KnowsBody (length a.table.types) (length a.constants) (length f.parameters) b
      body_known =
          All-head (KnowsBody (length a.table.types) (length a.constants) (length f.parameters)) b []
          (subst (λ (o : Option the_body.Body). All (KnowsBody (length a.table.types) (length a.constants) (length f.parameters)) (option_to_list o)) is known.body_known)

      -- the parameters and results of the function have the names that the arena keeps
      pub locals_named : names_in (typed_of a f) ≡ values_in a f
      locals_named =
          let kept : KnowsBody (length a.table.types) (length a.constants) (length own_names) b = rw length-map body_known in
          listed_named
          ∙ (λ j. parameters_viewed (trees a.table) f.parameters j ++ flat_map names.block_results (body_viewed j))
          ∙ ap (λ (xs : List LocalName). own_names ++ xs) (results_of-body (trees a.table) (constants_of a) (length a.table.types) (length a.constants) own_names b kept)
          ∙ sym values_are

  -- a declaration has no blocks
  no_blocks : f.body ≡ None → blocks_of (function_of a f) ≡ []
  no_blocks is = ap (λ (o : Option the_body.Body). unwrap_or (option_map (body_view (trees a.table) (constants_of a) own_names) o) []) is

  -- the blocks of the function are those of the arena
  pub blocks_all : blocks_of (function_of a f) ≡ map (block_of a f) (function_blocks f)
  blocks_all = go f.body refl
    where
      go : (o : Option the_body.Body) → f.body ≡ o → blocks_of (function_of a f) ≡ map (block_of a f) (function_blocks f)
      go None is = no_blocks is ∙ ap (λ (o : Option the_body.Body). map (block_of a f) (option_map_or (λ (b : the_body.Body). b.blocks) o [])) (sym is)
      go (Some b) is = blocks_viewed b is

  -- so a declaration, which has parameters alone
  declared_named : f.body ≡ None → names_in (typed_of a f) ≡ values_in a f
  declared_named is =
      listed_named
      ∙ (λ j. parameters_viewed (trees a.table) f.parameters j ++ flat_map names.block_results (no_blocks is j))
      ∙ append-nil own_names
      ∙ names_viewed f.parameters
      ∙ ap (map local_view) (sym (append-nil (map (λ (p : the_parameter.Parameter). p.name) f.parameters)))
      ∙ ap (λ (o : Option the_body.Body). map local_view (map (λ (p : the_parameter.Parameter). p.name) f.parameters ++ option_map_or (λ (b : the_body.Body). b.results) o [])) (sym is)

  pub all_named : KnowsFunction (length a.table.types) (length a.constants) f → names_in (typed_of a f) ≡ values_in a f
  all_named known = go f.body refl
    where
      go : (o : Option the_body.Body) → f.body ≡ o → names_in (typed_of a f) ≡ values_in a f
      go None is = declared_named is
      go (Some b) is = locals_named b is known

  -- no two have one name
  pub values_apart : KnowsFunction (length a.table.types) (length a.constants) f → has_good_names (function_of a f) ≡ true → IsDistinct same_local (values_in a f)
  values_apart known good = are_distinct (values_in a f) (subst (λ (xs : List LocalName). is_distinct same_local xs ≡ true) (sym typed_named ∙ all_named known) (values_distinct (function_of a f) good))

  named_blocks : (bs : List the_block.Block) → map (λ (b : m.Block). b.name) (map (block_of a f) bs) ≡ map (λ (b : the_block.Block). local_view b.name) bs
  named_blocks [] = refl
  named_blocks (b ∷ bs) = ap (λ (l : List LocalName). local_view b.name ∷ l) (named_blocks bs)

  -- the names of the blocks
  pub labels_are : map (λ (b : m.Block). b.name) (blocks_of (function_of a f)) ≡ labels_in a f
  labels_are = ap (map (λ (b : m.Block). b.name)) blocks_all ∙ named_blocks (function_blocks f)

  -- nor do two blocks
  pub labels_apart : has_good_names (function_of a f) ≡ true → AreApart (labels_in a f)
  labels_apart good =
      subst AreApart
      (flow_names (blocks (function_of a f)) ∙ ap (map (λ (b : m.Block). b.name)) (same_blocks (function_of a f).body) ∙ labels_are)
      (blocks_apart (function_of a f) good)

  -- the parameters and results by what the arena keeps
  typed_by : (bs : List the_block.Block) → blocks_of (function_of a f) ≡ map (block_of a f) bs
      → typed_of a f ≡ map (typed_parameter a) f.parameters ++ flat_map (results_of (names_of a)) (map (block_of a f) bs)
  typed_by bs e = λ j. typed_viewed a f.parameters j ++ flat_map (results_of (names_of a)) (e j)

  pub typed_is : typed_of a f ≡ map (typed_parameter a) f.parameters ++ flat_map (results_of (names_of a)) (map (block_of a f) (function_blocks f))
  typed_is = typed_by (function_blocks f) blocks_all

-- ---- good names

-- what holds of all that are seen in a list holds of one
seen_at : {A B : Type 0} (g : A → B) (p : B → Bool) (xs : List A) (k : ℕ) (x : A) → list_all p (map g xs) ≡ true → slice_get xs k ≡ Some x → p (g x) ≡ true
seen_at g p [] k x h e = absurd cc
seen_at g p (y ∷ xs) zero x h e = let same : y ≡ x = cc in ap (λ z. p (g z)) (sym same) ∙ (and_parts (p (g y)) (list_all p (map g xs)) h).0
seen_at g p (y ∷ xs) (suc k) x h e = seen_at g p xs k x (and_parts (p (g y)) (list_all p (map g xs)) h).1 e

pub names_good : (a : Lists) (id : ℕ) (f : the_function.Function) → IsWellFormed (module_of a) → slice_get a.functions id ≡ Some f → has_good_names (function_of a f) ≡ true
unfolding module_of
names_good a id f well_formed e =
    let m = module_of a in
    let meant = function_of a f in
    let good = seen_at (function_of a) (is_good_function m) a.functions id f well_formed.functions e in
    let p = and_parts (is_good_type m.structs meant.returns) (list_all (λ p. is_good_type m.structs p.ty) meant.parameters && (option_map_or is_not_empty meant.body true && (has_good_names meant && list_all (is_good_block m) (blocks meant)))) good in
    let q = and_parts (list_all (λ p. is_good_type m.structs p.ty) meant.parameters) (option_map_or is_not_empty meant.body true && (has_good_names meant && list_all (is_good_block m) (blocks meant))) p.1 in
    let r = and_parts (option_map_or is_not_empty meant.body true) (has_good_names meant && list_all (is_good_block m) (blocks meant)) q.1 in
    (and_parts (has_good_names meant) (list_all (is_good_block m) (blocks meant)) r.1).0

-- the scope of a function of a checked module
pub is_framed : (a : Lists) (id : ℕ) (f : the_function.Function) (places : List ℕ) → IsWellFormed (module_of a) → IsGood a → slice_get a.functions id ≡ Some f → places ≡ bounds_from 0 (typed_of a f) → IsFramed a f places
is_framed a id f places well_formed good at placed =
    let known = subst (KnowsFunction (length a.table.types) (length a.constants)) (get_or_from_slice_get a.functions id f f at) (good.functions id f (slice_get_within a.functions id f at)) in
    let names = names_good a id f well_formed at in
    record { apart = values_apart a f known names; labels = labels_apart a f names; named = all_named a f known; placed = placed }
