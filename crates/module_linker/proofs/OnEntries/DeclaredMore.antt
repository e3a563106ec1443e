-- An entry that is added without its definition is declared.
use Rattle.std.proofs.Common.{◌≡◌, List, [], ◌∷◌, ◌++◌, length, slice_get, None, sym, ap, ◌∙◌}
use Rattle.module_arena.specs.declared.entry.Alias as the_alias
use Rattle.module_arena.specs.declared.entry.Function as the_function
use Rattle.module_arena.specs.declared.entry.GlobalId.{GlobalId}
use Rattle.module_arena.specs.declared.entry.GlobalId.TheVariants as global
use Rattle.module_arena.specs.declared.entry.Variable as the_variable
use Rattle.module_arena.specs.Changes.{with_variable, with_alias, with_function, variable_in, alias_in, function_in, more_variables, more_aliases, more_functions}
use Rattle.module_arena.specs.Lists.{Lists}
use Rattle.module_arena.specs.Module.{Variable, Alias, Function}
use Rattle.module_arena.specs.View.{module_of}
use Rattle.linkage_rules.specs.Globals.{OfVariable, OfFunction, OfAlias}
use Rattle.item_build.specs.Types.Declarations.{without_initialiser, without_target}
use Rattle.item_build.specs.Types.Parameters.{without_body}
use Rattle.item_build.specs.Types.Stands.{Grows}
use Rattle.item_build.proofs.OnTypes.Untargeted.{untargeted_more}
use Rattle.entry_copy.specs.Tables.{Tables}
use Rattle.module_linker.specs.Stages.Ground.{HaveTypes}
use Rattle.module_linker.specs.Entries.Step.{IsDeclared}
use Rattle.module_linker.proofs.OnEntries.StaysKnown.{have_grown, have_there}

module _ (parts : List Lists) (tables : List Tables) (b c now : Lists) (grows : Grows b c) (have : HaveTypes parts b tables) (id : GlobalId) where
  pub variable_more : (d : the_variable.Variable) (v : Variable) → variable_in c d ≡ without_initialiser v → id ≡ global.Variable (length c.variables) → now ≡ with_variable c d
      → module_of now ≡ more_variables (module_of c) (variable_in c d) → IsDeclared parts b now tables (OfVariable v) id
  variable_more d v is at lists more = record {
    joined = more ∙ (λ i. more_variables (grows.same i) (is i));
    next = at ∙ ap (λ xs. global.Variable (length xs)) grows.variables;
    types = have_there parts tables c now (ap (λ (l : Lists). l.table) lists) (have_grown b c grows parts tables have);
    untargeted = λ old k x le e. old k x le (ap (λ xs. slice_get xs k) (sym grows.aliases) ∙ ap (λ (l : Lists). slice_get l.aliases k) (sym lists) ∙ e);
  }

  pub function_more : (d : the_function.Function) (f : Function) → function_in c d ≡ without_body f → id ≡ global.Function (length c.functions) → now ≡ with_function c d
      → module_of now ≡ more_functions (module_of c) (function_in c d) → IsDeclared parts b now tables (OfFunction f) id
  function_more d f is at lists more = record {
    joined = more ∙ (λ i. more_functions (grows.same i) (is i));
    next = at ∙ ap (λ xs. global.Function (length xs)) grows.functions;
    types = have_there parts tables c now (ap (λ (l : Lists). l.table) lists) (have_grown b c grows parts tables have);
    untargeted = λ old k x le e. old k x le (ap (λ xs. slice_get xs k) (sym grows.aliases) ∙ ap (λ (l : Lists). slice_get l.aliases k) (sym lists) ∙ e);
  }

  pub alias_more : (d : the_alias.Alias) (x : Alias) → d.target ≡ None → alias_in c d ≡ without_target x → id ≡ global.Alias (length c.aliases) → now ≡ with_alias c d
      → module_of now ≡ more_aliases (module_of c) (alias_in c d) → IsDeclared parts b now tables (OfAlias x) id
  alias_more d x none is at lists more = record {
    joined = more ∙ (λ i. more_aliases (grows.same i) (is i));
    next = at ∙ ap (λ xs. global.Alias (length xs)) grows.aliases;
    types = have_there parts tables c now (ap (λ (l : Lists). l.table) lists) (have_grown b c grows parts tables have);
    untargeted = untargeted_more b now d none (ap (λ (l : Lists). l.aliases) lists ∙ ap (λ xs. xs ++ d ∷ []) grows.aliases);
  }
