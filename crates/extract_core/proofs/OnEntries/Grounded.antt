-- An arena with texts and types alone, and the module when all entries are declared in it.
use Rattle.std.proofs.Common.{◌≡◌, ℕ, List, [], ◌++◌, map, length, slice_get, Option, Some, refl, sym, ap, ◌∙◌, arith}
use Rattle.std.proofs.lemmas.List.{map-append}
use Rattle.type_table.specs.Types.{structs}
use Rattle.module_arena.specs.declared.entry.Alias as the_alias
use Rattle.module_arena.specs.declared.entry.GlobalId.{GlobalId}
use Rattle.module_arena.specs.declared.entry.GlobalId.TheVariants as global
use Rattle.module_arena.specs.Changes.{with_texts}
use Rattle.module_arena.specs.Lists.{Lists, no_lists, global_name}
use Rattle.module_arena.specs.Module.{Bytes, Module, empty_module}
use Rattle.module_arena.specs.View.{module_of}
use Rattle.item_build.specs.Types.Declarations.{without_initialiser, without_target}
use Rattle.item_build.specs.Types.Parameters.{without_body}
use Rattle.item_build.specs.Types.Holding.{entries}
use Rattle.item_build.proofs.OnTypes.Staying.{entry_named}
use Rattle.item_build.specs.Partly.{with_structs}
use Rattle.entry_copy.specs.Tables.{Tables, with_entries}
use Rattle.extract_core.specs.declared.fates.fates.Fates.{Fates}
use Rattle.extract_core.specs.Fates.Fates.{variable_as, function_as, alias_as, alias_variable_as, alias_function_as, made}
use Rattle.extract_core.specs.Declaring.Declaring.{variables_through, IsDeclaring}
use Rattle.extract_core.specs.Declaring.Stages.{HasTypes, with_variables}
use Rattle.extract_core.specs.Part.AliasesThere.{with_aliases_as}
use Rattle.extract_core.specs.Part.FunctionsThere.{with_functions}
use Rattle.extract_core.specs.Entries.Stages.{texts_of, without_entries, declared_by}

-- ---- texts and structs

pub texts_there : (a b : Lists) (source layout triple : Option Bytes) → b ≡ with_texts no_lists source layout triple → source ≡ a.source → layout ≡ a.layout → triple ≡ a.triple → module_of b ≡ texts_of (module_of a)
unfolding module_of
texts_there a b source layout triple set x y z = ap module_of set ∙ (λ i. record empty_module { source = x i; layout = y i; triple = z i })

structs_are : (a : Lists) → (module_of a).structs ≡ structs a.table
unfolding module_of
structs_are a = refl

pub ground_there : (a : Lists) (m : Module) → m ≡ texts_of (module_of a) → with_structs m (structs a.table) ≡ without_entries (module_of a)
ground_there a m e = (λ i. with_structs (e i) (structs a.table)) ∙ (λ i. record (texts_of (module_of a)) { structs = sym (structs_are a) i })

-- ---- nothing is declared yet

module _ (a b : Lists) (empty : entries b ≡ no_lists) where
  nothing_named : (g : GlobalId) (name : Bytes) → global_name b g ≡ Some name → ⊥
  nothing_named g name e = none g (sym (ap (λ l. global_name l g) empty) ∙ sym (entry_named b g) ∙ e)
    where
      none : (h : GlobalId) → global_name no_lists h ≡ Some name → ⊥
      none (global.Variable id) e = cc
      none (global.Function id) e = cc
      none (global.Alias id) e = cc

  pub nothing_declared : IsDeclaring a (variables_through 0) b
  nothing_declared =
      let vs : length b.variables ≡ 0 = ap (λ (l : Lists). length l.variables) empty in
      let fs : length b.functions ≡ 0 = ap (λ (l : Lists). length l.functions) empty in
      let xs : length b.aliases ≡ 0 = ap (λ (l : Lists). length l.aliases) empty in
      record {
        stand = λ g name e. absurd (nothing_named g name e);
        fewer = record { as_variables = 0; as_functions = 0; variables = omega (arith, vs); functions = omega (arith, fs); aliases = omega (arith, xs) };
        untargeted = λ id x le is. absurd (no_alias id x (sym (ap (λ (l : Lists). slice_get l.aliases id) empty) ∙ is));
      }
    where
      no_alias : (id : ℕ) (x : the_alias.Alias) → slice_get [] id ≡ Some x → ⊥
      no_alias id x e = cc

-- ---- all entries

pub types_with_entries : (a b : Lists) (t : Tables) (variables functions aliases : List (Option GlobalId)) → HasTypes a b t → HasTypes a b (with_entries t variables functions aliases)
types_with_entries a b t variables functions aliases h = record {
  structs = h.structs;
  copies = record { named = h.copies.named; few_types = h.copies.few_types; types = h.copies.types };
  all = h.all;
}

-- the module when variables, functions and aliases are declared one after the other
pub all_declared : (M m0 m1 m2 m3 : Module) (fates : Fates) → m0 ≡ without_entries M
    → m1 ≡ with_variables m0 (m0.variables ++ map without_initialiser (made variable_as fates.variables M.variables))
    → m2 ≡ with_functions m1 (m1.functions ++ map without_body (made function_as fates.functions M.functions))
    → m3 ≡ with_aliases_as M m2 fates.aliases
    → m3 ≡ declared_by M fates
all_declared M m0 m1 m2 m3 fates ground one two three =
    let vs = made variable_as fates.variables M.variables in
    let fs = made function_as fates.functions M.functions in
    let avs = made (alias_variable_as M) fates.aliases M.aliases in
    let afs = made alias_function_as fates.aliases M.aliases in
    let m1_is : m1 ≡ with_variables (without_entries M) (map without_initialiser vs) = one ∙ (λ i. let m : Module = ground i in with_variables m (m.variables ++ map without_initialiser vs)) in
    let m2_is : m2 ≡ with_functions (with_variables (without_entries M) (map without_initialiser vs)) (map without_body fs) = two ∙ (λ i. let m : Module = m1_is i in with_functions m (m.functions ++ map without_body fs)) in
    three ∙ (λ i. with_aliases_as M (m2_is i) fates.aliases)
    ∙ (λ i. record M {
      variables = sym (map-append without_initialiser vs avs) i;
      aliases = map without_target (made alias_as fates.aliases M.aliases);
      functions = sym (map-append without_body fs afs) i;
    })
