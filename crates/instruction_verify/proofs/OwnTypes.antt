-- What is asked of the types that an instruction gives or writes.
use Rattle.std.proofs.Common.{◌≡◌, ℕ, Bool, true, false, ◌&&◌, ◌||◌, List, map, Some, None, refl, sym, ap, ◌∙◌, cond}
use Rattle.std.specs.List.{list_all}
use Rattle.std.proofs.lemmas.List.Folds.{list_all-map}
use Rattle.type_table.specs.Tree.{Tree, Structs}
use Rattle.type_table.specs.Types.{Types, tree, trees, structs}
use Rattle.type_table.proofs.ShapeMeasures.{and_true}
use Rattle.module_arena.specs.EntryRules.{return_suits}
use Rattle.module_arena.specs.InstructionRules.{result_suits}
use Rattle.module_arena.specs.Lists.{Lists}
use Rattle.module_arena.specs.TypeTests.{is_passable, is_void}
use Rattle.module_arena.specs.View.{type_at}

-- a call whose result has the type that it returns, where it returns a value
returned_once : (void passable parameters : Bool) → ((void || passable) && parameters) ≡ (cond void true passable && ((void || passable) && parameters))
returned_once true passable parameters = refl
returned_once false true parameters = refl
returned_once false false parameters = refl

result_of_call : (s : Structs) (t : Tree) (b : Bool) → cond b true (is_passable s t) ≡ result_suits s (cond b None (Some t))
result_of_call s t true = refl
result_of_call s t false = refl

module _ (t : Types) (a : Lists) (same : t ≡ a.table) where
  pub type_moves : (test : Tree → Bool) (ty : ℕ) → test (tree t ty) ≡ test (tree a.table ty)
  type_moves test ty = ap (λ (u : Types). test (tree u ty)) same

  -- a type of a result
  pub gives : (ty : ℕ) → is_passable (structs t) (tree t ty) ≡ (is_passable (structs t) (tree a.table ty) && true)
  gives ty = type_moves (is_passable (structs t)) ty ∙ and_true (is_passable (structs t) (tree a.table ty))

  pub call_suits : (returns : ℕ) (parameters : List ℕ)
      → (return_suits (structs t) (tree t returns) && list_all (λ ty. is_passable (structs t) (tree t ty)) parameters)
      ≡ (result_suits (structs t) (cond (is_void (tree a.table returns)) None (Some (tree a.table returns)))
      && (return_suits (structs t) (tree a.table returns) && list_all (is_passable (structs t)) (map (type_at (trees a.table)) parameters)))
  call_suits returns parameters =
      let s = structs t in
      let u = tree a.table returns in
      (λ j. type_moves (return_suits s) returns j && (ap (λ (v : Types). list_all (λ ty. is_passable s (tree v ty)) parameters) same ∙ sym (list_all-map (is_passable s) (type_at (trees a.table)) parameters)) j)
      ∙ returned_once (is_void u) (is_passable s u) (list_all (is_passable s) (map (type_at (trees a.table)) parameters))
      ∙ ap (λ b. b && (return_suits s u && list_all (is_passable s) (map (type_at (trees a.table)) parameters))) (result_of_call s u (is_void u))
