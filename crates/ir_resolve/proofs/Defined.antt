-- A function that gets its blocks.
use Rattle.std.proofs.Common.{◌≡◌, ℕ, suc, ◌+◌, List, [], ◌∷◌, ◌++◌, map, length, set, slice_get, Option, Some, None, refl, sym, ap, ◌∙◌, append_assoc, arith}
use Rattle.std.specs.Option.{option_map, option_map_or}
use Rattle.std.proofs.lemmas.List.{length-map}
use Rattle.std.specs.Prelude.{filter_map, option_to_list}
use Rattle.std.specs.List.{cons_option}
use Rattle.std.proofs.lemmas.Option.{slice_get-map}
use Rattle.ir_syntax.specs.Tree.{ParameterTree, ItemTree, SourceFilename, DataLayout, TargetTriple, Struct, Variable, Alias, Declaration, Definition, Attributes, Metadata}
use Rattle.type_table.specs.Types.{trees}
use Rattle.module_arena.specs.declared.entry.Function as the_function
use Rattle.module_arena.specs.declared.entry.Parameter as the_parameter
use Rattle.module_arena.specs.Changes.{changed_at, defined}
use Rattle.module_arena.specs.Lists.{Lists}
use Rattle.module_arena.specs.Module as m
use Rattle.module_arena.specs.Module.{Module}
use Rattle.module_arena.specs.View.{module_of, function_view, parameter_view, local_view, body_view, constants_of}
use Rattle.module_arena.specs.WellFormed as formed
use Rattle.module_arena.specs.declared.entry.Body.{Body}
use Rattle.module_arena.proofs.Found.{some-equal}
use Rattle.name_rules.specs.Locals.{next_behind}
use Rattle.name_rules.specs.ModuleOf.{parameters_in, function_in}
use Rattle.name_rules.specs.ModuleOf as functions
use Rattle.item_build.specs.Types.Parameters.{without_body}
use Rattle.item_build.specs.Buildable.Bodies.{parameter_names, body_of}
use Rattle.item_build.specs.Declaring.{declared_functions}
use Rattle.item_build.proofs.Completed.{mixed_names}
use Rattle.item_build.proofs.Walked.{gives_one, gives_none, get_between, changed_between}
use Rattle.ir_resolve.specs.Defining.{defined_in, IsCalledSo, with_bodies}

-- two changes that agree at the item
same_change : {A : Type 0} (xs : List A) (i : ℕ) (f g : A → A) → ((x : A) → slice_get xs i ≡ Some x → f x ≡ g x) → changed_at xs i f ≡ changed_at xs i g
same_change xs i f g same = by (slice_get xs i) refl
  where
    by : (o : Option _) → slice_get xs i ≡ o → option_map_or (λ x. set xs i (f x)) o xs ≡ option_map_or (λ x. set xs i (g x)) o xs
    by None e = refl
    by (Some x) e = ap (set xs i) (same x e)

abbrev with_functions : Module → List m.Function → Module
with_functions w fs = record w { functions = fs }

pub same_blocks : (w : Module) (id : ℕ) (blocks : m.Function → List m.Block) (all : List m.Block) → ((f : m.Function) → slice_get w.functions id ≡ Some f → blocks f ≡ all) → defined w id blocks ≡ defined w id (λ f. all)
same_blocks w id blocks all same = ap (with_functions w) (same_change w.functions id (λ f. record f { body = Some (blocks f) }) (λ f. record f { body = Some all }) (λ f is. ap (λ bs. record f { body = Some bs }) (same f is)))

length_parameters : (next : ℕ) (ps : List ParameterTree) → length (parameters_in next ps) ≡ length ps
length_parameters next [] = refl
length_parameters next (p ∷ ps) = ap suc (length_parameters (next_behind next p.1) ps)

pub listed : (a : Lists) (k : ℕ) (f : the_function.Function) → slice_get a.functions k ≡ Some f → slice_get (module_of a).functions k ≡ Some (function_view (trees a.table) (constants_of a) f)
unfolding module_of
listed a k f is = slice_get-map (function_view (trees a.table) (constants_of a)) a.functions k ∙ ap (option_map (function_view (trees a.table) (constants_of a))) is

pub many_parameters : (a : Lists) (f : the_function.Function) (ps : List ParameterTree) → map (λ (p : m.Parameter). p.name) (function_view (trees a.table) (constants_of a) f).parameters ≡ parameter_names ps → length f.parameters ≡ length ps
many_parameters a f ps same =
    sym (length-map f.parameters (parameter_view (trees a.table)))
    ∙ sym (length-map (map (parameter_view (trees a.table)) f.parameters) (λ (p : m.Parameter). p.name))
    ∙ ap length same
    ∙ length-map (parameters_in 0 ps) (λ (p : m.Parameter). p.name)
    ∙ length_parameters 0 ps

-- ---- functions that get their blocks one after the other

pub bodies_named : (start : Module) (first rest : List ItemTree) → start.functions ≡ declared_functions (first ++ rest) → formed.global_names (with_bodies start first rest) ≡ formed.global_names start
bodies_named start first rest declared =
    let names = mixed_names function_in without_body (λ (f : m.Function). f.name) (λ f. refl) first rest ∙ sym (ap (map (λ (f : m.Function). f.name)) declared) in
    λ j. map (λ (v : m.Variable). v.name) start.variables ++ (map (λ (x : m.Alias). x.name) start.aliases ++ names j)

-- no item is walked
pub no_bodies : (start : Module) (items : List ItemTree) → start.functions ≡ declared_functions items → start ≡ with_bodies start [] items
no_bodies start items declared = λ j. with_functions start (declared j)

pass : (start : Module) (first rest : List ItemTree) (x : ItemTree) → function_in x ≡ None → with_functions start (filter_map function_in first ++ declared_functions rest) ≡ with_bodies start (first ++ x ∷ []) rest
pass start first rest x is = λ j. with_functions start (sym (gives_none function_in first x is) j ++ declared_functions rest)

module _ (start : Module) (first rest : List ItemTree) where
  one_more : (x : ItemTree) (f : m.Function) → function_in x ≡ Some f → filter_map function_in first ++ f ∷ declared_functions rest ≡ filter_map function_in (first ++ x ∷ []) ++ declared_functions rest
  one_more x f is = sym (append_assoc (filter_map function_in first) (f ∷ []) (declared_functions rest)) ∙ ap (λ ys. ys ++ declared_functions rest) (sym (gives_one function_in first x f is))

  pub bodies_more : (x : ItemTree) → defined_in (with_bodies start first (x ∷ rest)) (length (filter_map function_in first)) x ≡ with_bodies start (first ++ x ∷ []) rest
  bodies_more (Definition place head parameters blocks) =
      let f = functions.defined head parameters blocks in
      let changed = changed_between (filter_map function_in first) (without_body f) (declared_functions rest) (λ (y : m.Function). record y { body = Some (body_of parameters blocks) }) in
      λ j. with_functions start ((changed ∙ one_more (Definition place head parameters blocks) f refl) j)
  bodies_more (Declaration place head parameters variadic) =
      λ j. with_functions start (one_more (Declaration place head parameters variadic) (functions.declared head parameters variadic) refl j)
  bodies_more (Variable v) = pass start first rest (Variable v) refl
  bodies_more (Alias a) = pass start first rest (Alias a) refl
  bodies_more (SourceFilename place text) = pass start first rest (SourceFilename place text) refl
  bodies_more (DataLayout place text) = pass start first rest (DataLayout place text) refl
  bodies_more (TargetTriple place text) = pass start first rest (TargetTriple place text) refl
  bodies_more (Struct name body) = pass start first rest (Struct name body) refl
  bodies_more (Attributes place) = pass start first rest (Attributes place) refl
  bodies_more (Metadata place) = pass start first rest (Metadata place) refl

-- ---- the function that is next

unset : (a : Lists) (f : the_function.Function) (w : m.Function) → function_view (trees a.table) (constants_of a) f ≡ without_body w → f.body ≡ None
unset a f w same = by f.body (ap (λ (y : m.Function). y.body) same)
  where
    by : (o : Option Body) → option_map (body_view (trees a.table) (constants_of a) (map (λ (p : the_parameter.Parameter). local_view p.name) f.parameters)) o ≡ None → o ≡ None
    by None e = refl
    by (Some c) e = absurd cc

module _ (a : Lists) (start : Module) (first rest : List ItemTree) (number : ℕ) (at : number ≡ length (filter_map function_in first)) where
  pub next_is_undefined : (x : ItemTree) → module_of a ≡ with_bodies start first (x ∷ rest) → (f : the_function.Function) → number + length (option_to_list (function_in x)) ≡ number + 1 → slice_get a.functions number ≡ Some f → f.body ≡ None
  next_is_undefined x same f one is = by (function_in x) refl
    where
      by : (o : Option m.Function) → function_in x ≡ o → f.body ≡ None
      by None e = let no : number + 0 ≡ number + 1 = ap (λ o. number + length (option_to_list o)) (sym e) ∙ one in absurd (omega (arith, no))
      by (Some w) e =
          let front = filter_map function_in first in
          let there = get_between front (without_body w) (declared_functions rest) in
          let list : (module_of a).functions ≡ front ++ without_body w ∷ declared_functions rest = ap (λ (y : Module). y.functions) same ∙ (λ j. front ++ map without_body (cons_option (e j) (filter_map function_in rest))) in
          unset a f w (some-equal (sym (listed a number f is) ∙ ((λ j. slice_get (list j) (at j)) ∙ there)))

  pub next_is_called : (x : ItemTree) → module_of a ≡ with_bodies start first (x ∷ rest) → (f : m.Function) → slice_get (module_of a).functions number ≡ Some f → IsCalledSo x f
  next_is_called (Definition place head parameters blocks) same f is =
      let front = filter_map function_in first in
      let w = functions.defined head parameters blocks in
      let there = get_between front (without_body w) (declared_functions rest) in
      let list = ap (λ (y : Module). y.functions) same in
      ap (λ (g : m.Function). map (λ (p : m.Parameter). p.name) g.parameters) (some-equal (sym is ∙ ((λ j. slice_get (list j) (at j)) ∙ there)))
  next_is_called (Declaration place head parameters variadic) same f is = tt
  next_is_called (Variable v) same f is = tt
  next_is_called (Alias w) same f is = tt
  next_is_called (SourceFilename place text) same f is = tt
  next_is_called (DataLayout place text) same f is = tt
  next_is_called (TargetTriple place text) same f is = tt
  next_is_called (Struct name body) same f is = tt
  next_is_called (Attributes place) same f is = tt
  next_is_called (Metadata place) same f is = tt
