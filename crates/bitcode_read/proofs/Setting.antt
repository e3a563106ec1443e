-- The module of an arena in which everything that entries hold was set.
use Rattle.std.proofs.Common.{◌≡◌, ℕ, Bool, true, false, List, [], ◌∷◌, map, length, Option, refl, sym, ap, subst, ◌∙◌}
use Rattle.std.specs.List.{fold}
use Rattle.std.specs.Prelude.{slice_index_or}
use Rattle.type_table.specs.Types.{trees}
use Rattle.module_arena.specs.declared.entry.Alias as the_alias
use Rattle.module_arena.specs.declared.entry.Body.{Body}
use Rattle.module_arena.specs.declared.entry.Function as the_function
use Rattle.module_arena.specs.declared.entry.GlobalId.{GlobalId}
use Rattle.module_arena.specs.declared.entry.GlobalId.TheVariants as global
use Rattle.module_arena.specs.declared.entry.Variable as the_variable
use Rattle.module_arena.specs.Changes.{with_texts}
use Rattle.module_arena.specs.Lists.{Lists, name_at}
use Rattle.module_arena.specs.Module.{Bytes}
use Rattle.module_arena.specs.View.{alias_view, constants_of, function_view, grow, module_of, variable_view}
use Rattle.record_table.specs.Records as records
use Rattle.bitcode_read.specs.Holding.Holding.{AreUndefined, AreUnset, HasConstants, Suits, defined_by, each_with, initialised_by, targeted_by}
use Rattle.bitcode_read.specs.Answers.{IsModule}
use Rattle.bitcode_read.specs.declared.sofar.Sofar.{Sofar}
use Rattle.bitcode_read.specs.Sofar.{AreRead, AreSettable}

-- ---- names stay

named_each : {A B C : Type 0} (put : A → Option B → A) (name : A → C) → ((x : A) (o : Option B) → name (put x o) ≡ name x) → (xs : List A) (os : List (Option B)) → map name (each_with put xs os) ≡ map name xs
named_each put name same xs [] = refl
named_each put name same [] (o ∷ os) = refl
named_each put name same (x ∷ xs) (o ∷ os) = λ j. same x o j ∷ named_each put name same xs os j

named_defined : (fs : List the_function.Function) (ds : List Bool) (bodies : List Body) → map (λ (f : the_function.Function). f.name) (defined_by fs ds bodies) ≡ map (λ (f : the_function.Function). f.name) fs
named_defined fs [] bodies = refl
named_defined [] (d ∷ ds) bodies = refl
named_defined (f ∷ fs) (false ∷ ds) bodies = ap (λ (ns : List Bytes). f.name ∷ ns) (named_defined fs ds bodies)
named_defined (f ∷ fs) (true ∷ ds) [] = refl
named_defined (f ∷ fs) (true ∷ ds) (b ∷ bodies) = ap (λ (ns : List Bytes). f.name ∷ ns) (named_defined fs ds bodies)

-- ---- what is set, by equal lists

pub targets_set : (a one : Lists) (given held : List (Option GlobalId)) → one ≡ record a { aliases = targeted_by a.aliases given } → given ≡ held → one ≡ record a { aliases = targeted_by a.aliases held }
targets_set a one given held is same = is ∙ ap (λ (os : List (Option GlobalId)). record a { aliases = targeted_by a.aliases os }) same

pub initialisers_set : (a two : Lists) (given held : List (Option ℕ)) → two ≡ record a { variables = initialised_by a.variables given } → given ≡ held → two ≡ record a { variables = initialised_by a.variables held }
initialisers_set a two given held is same = is ∙ ap (λ (os : List (Option ℕ)). record a { variables = initialised_by a.variables os }) same

pub bodies_set : (a three : Lists) (given held : List Bool) (bodies : List Body) → three ≡ record a { functions = defined_by a.functions given bodies } → given ≡ held → three ≡ record a { functions = defined_by a.functions held bodies }
bodies_set a three given held bodies is same = is ∙ ap (λ (ds : List Bool). record a { functions = defined_by a.functions ds bodies }) same

-- ---- what is asked

module _ (a : Lists) (b : Sofar) (h : AreSettable a b) (one two : Lists) (is_one : one ≡ record a { aliases = targeted_by a.aliases b.targets.items }) (is_two : two ≡ record one { variables = initialised_by one.variables b.initialisers.items }) where
  pub still_unset : AreUnset one
  still_unset = subst (λ (x : Lists). AreUnset x) (sym is_one) h.unset

  pub still_constants : HasConstants one b.initialisers.items
  still_constants = subst (λ (x : Lists). HasConstants x b.initialisers.items) (sym is_one) h.constants

  pub two_is : two ≡ record a { variables = initialised_by a.variables b.initialisers.items; aliases = targeted_by a.aliases b.targets.items }
  two_is = is_two ∙ ap (λ (x : Lists). record x { variables = initialised_by x.variables b.initialisers.items }) is_one

  pub still_undefined : AreUndefined two
  still_undefined = subst (λ (x : Lists). AreUndefined x) (sym two_is) h.undefined

  pub still_suits : Suits (length two.table.types) (length two.constants) two.functions b.defined.items b.bodies.items
  still_suits = subst (λ (x : Lists). Suits (length x.table.types) (length x.constants) x.functions b.defined.items b.bodies.items) (sym two_is) h.suits

-- ---- the module

module _ (a : Lists) (b : Sofar) where
  -- the arena in the end
  abbrev set_all : Lists
  set_all = record a {
    source = b.source;
    layout = b.layout;
    triple = b.triple;
    variables = initialised_by a.variables b.initialisers.items;
    aliases = targeted_by a.aliases b.targets.items;
    functions = defined_by a.functions b.defined.items b.bodies.items;
  }

  named_same : (g : GlobalId) → name_at set_all g ≡ name_at a g
  named_same (global.Variable id) = ap (λ (ns : List Bytes). slice_index_or ns id []) (named_each (λ (v : the_variable.Variable) (o : Option ℕ). record v { initialiser = o }) (λ (v : the_variable.Variable). v.name) (λ v o. refl) a.variables b.initialisers.items)
  named_same (global.Function id) = ap (λ (ns : List Bytes). slice_index_or ns id []) (named_defined a.functions b.defined.items b.bodies.items)
  named_same (global.Alias id) = ap (λ (ns : List Bytes). slice_index_or ns id []) (named_each (λ (x : the_alias.Alias) (o : Option GlobalId). record x { target = o }) (λ (x : the_alias.Alias). x.name) (λ x o. refl) a.aliases b.targets.items)

  names_same : name_at set_all ≡ name_at a
  names_same = λ j g. named_same g j

  constants_same : constants_of set_all ≡ constants_of a
  constants_same = ap (λ (names : GlobalId → Bytes). fold (grow (trees a.table) names) [] a.constants) names_same

  all_is : (s : records.Sofar) → AreRead a b s → module_of set_all ≡ records.module_of s
  unfolding module_of
  all_is s r = λ j. record {
    source = r.source j;
    layout = r.layout j;
    triple = r.triple j;
    structs = r.structs_are j;
    variables = (ap (λ cs. map (variable_view (trees a.table) cs) (initialised_by a.variables b.initialisers.items)) constants_same ∙ r.variables) j;
    aliases = (ap (λ (names : GlobalId → Bytes). map (alias_view (trees a.table) names) (targeted_by a.aliases b.targets.items)) names_same ∙ r.aliases) j;
    functions = (ap (λ cs. map (function_view (trees a.table) cs) (defined_by a.functions b.defined.items b.bodies.items)) constants_same ∙ r.functions) j;
  }

  pub made_is : (one two three four : Lists) → one ≡ record a { aliases = targeted_by a.aliases b.targets.items } → two ≡ record one { variables = initialised_by one.variables b.initialisers.items }
      → three ≡ record two { functions = defined_by two.functions b.defined.items b.bodies.items } → four ≡ with_texts three b.source b.layout b.triple → (s : records.Sofar) → AreRead a b s → IsModule four (records.module_of s)
  made_is one two three four is_one is_two is_three is_four s r =
      let two_is : two ≡ record a { variables = initialised_by a.variables b.initialisers.items; aliases = targeted_by a.aliases b.targets.items } =
      is_two ∙ ap (λ (x : Lists). record x { variables = initialised_by x.variables b.initialisers.items }) is_one in
      let three_is = is_three ∙ ap (λ (x : Lists). record x { functions = defined_by x.functions b.defined.items b.bodies.items }) two_is in
      let four_is : four ≡ set_all = is_four ∙ ap (λ (x : Lists). with_texts x b.source b.layout b.triple) three_is in
      ap module_of four_is ∙ all_is s r
