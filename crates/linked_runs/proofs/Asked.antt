-- Appended symbols of valid parts are of lists.
use Rattle.std.proofs.Common.{◌≡◌, ℕ, Bool, true, false, not, ◌||◌, ◌++◌, Option, Some, None, refl, ap}
use Rattle.std.specs.List.{AllByRecursion}
use Rattle.std.proofs.lemmas.Bool.{and_parts, not-true}
use Rattle.type_table.specs.Tree.{Tree, int, ptr, void, array, struct, named}
use Rattle.module_arena.specs.EntryRules.{is_list_of, is_list_variable, appending_variable_suits}
use Rattle.module_arena.specs.Module.{Constant, Integer, Truth, Null, Undef, Poison, ZeroInitializer, Address, ByteString, Aggregate, ElementAddress, Cast, Binary, Constants, no_constants, more_constants, Variable, Module}
use Rattle.module_arena.specs.UsedNames.{names_in_constant, names_in_constants}
use Rattle.module_arena.specs.Valid.{IsValid}
use Rattle.linkage_rules.specs.Contents.Contents.{pieces_of_constants}
use Rattle.linkage_rules.specs.Globals.{OfVariable, globals, element_of, length_of}
use Rattle.linkage_rules.specs.Linkages.{is_appending}
use Rattle.linkage_rules.proofs.Entries.{all_follow}
use Rattle.linked_runs.proofs.Known.{names_in_pieces, IsList, AppendsLists}
use Rattle.link_rules.proofs.Parts.{globals_all}
use Rattle.link_rules.proofs.Asked.{of_variables, of_aliases, of_functions}

module _ (i : ℕ) where
  elements_names : (cs : Constants) → names_in_pieces (pieces_of_constants i cs) ≡ names_in_constants cs
  elements_names no_constants = refl
  elements_names (more_constants t c cs) = ap (λ l. names_in_constant c ++ l) (elements_names cs)

  list_names : (n : ℕ) (o : Option Constant) → is_list_of n o ≡ true → IsList i o
  list_names n None h = cc
  list_names n (Some (Aggregate b cs)) h = elements_names cs
  list_names n (Some (Integer k)) h = refl
  list_names n (Some (Truth b)) h = refl
  list_names n (Some Null) h = refl
  list_names n (Some Undef) h = refl
  list_names n (Some Poison) h = refl
  list_names n (Some ZeroInitializer) h = refl
  list_names n (Some (Address name)) h = cc
  list_names n (Some (ByteString bytes)) h = refl
  list_names n (Some (ElementAddress flags source cs)) h = cc
  list_names n (Some (Cast opcode from value to)) h = cc
  list_names n (Some (Binary opcode flags a left b right)) h = cc

  list_variable : (t : Tree) (o : Option Constant) → is_list_variable t o ≡ true → (array (length_of t) (element_of t) ≡ t) × IsList i o
  list_variable (array n t) o h = (refl, list_names n o (and_parts _ (is_list_of n o) h).1)
  list_variable (int w) o h = cc
  list_variable ptr o h = cc
  list_variable void o h = cc
  list_variable (struct packed ts) o h = cc
  list_variable (named name) o h = cc

  appends_list : (v : Variable) → appending_variable_suits v ≡ true → AppendsLists i (OfVariable v)
  appends_list v h appends = go (is_appending v.linkage) h appends
    where
      go : (b : Bool) → (not b || is_list_variable v.ty v.initialiser) ≡ true → b ≡ true → (array (length_of v.ty) (element_of v.ty) ≡ v.ty) × IsList i v.initialiser
      go true h k = list_variable v.ty v.initialiser h
      go false h k = cc

  pub append_lists : (m : Module) → IsValid m → AllByRecursion (AppendsLists i) (globals m)
  append_lists m valid =
      globals_all (AppendsLists i) m
      (all_follow _ _ m.variables (λ v h. appends_list v h.1.1.0) (of_variables m valid))
      (all_follow _ _ m.functions (λ f h. not-true (is_appending f.linkage) h.1.1.0) (of_functions m valid))
      (all_follow _ _ m.aliases (λ a h. not-true (is_appending a.linkage) h.1.1.0) (of_aliases m valid))
