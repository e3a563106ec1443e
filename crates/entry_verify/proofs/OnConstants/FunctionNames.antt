-- A name of an entry is that of a function exactly where the entry is one.
use Rattle.std.proofs.Common.{◌≡◌, ℕ, suc, Bool, true, false, ◌||◌, List, [], ◌∷◌, map, get_or, slice_get, Some, refl, sym, ap, ◌∙◌, arith, bytes_eq, true≢false}
use Rattle.std.specs.List.{list_any}
use Rattle.std.specs.Cmp.Lexicographic.{bytes_decides}
use Rattle.std.proofs.lemmas.Bool.{false_from_ne_true}
use Rattle.std.proofs.lemmas.List.{length-map}
use Rattle.std.proofs.lemmas.Map.Keys.{any_passes_from_place}
use Rattle.std.proofs.lemmas.Option.{slice_get-map, slice_get-get_or, get_or_from_slice_get}
use Rattle.module_arena.specs.declared.entry.Variable as the_variable
use Rattle.module_arena.specs.declared.entry.Alias as the_alias
use Rattle.module_arena.specs.declared.entry.Function as the_function
use Rattle.module_arena.specs.declared.entry.GlobalId.{GlobalId}
use Rattle.module_arena.specs.declared.entry.GlobalId.TheVariants as global
use Rattle.module_arena.specs.EntryRules.{has_function}
use Rattle.module_arena.specs.Known.{HasGlobal, counts, AreDistinct}
use Rattle.module_arena.specs.Lists.{Lists, name_at, global_name}
use Rattle.module_arena.specs.Module as modules
use Rattle.module_arena.specs.Module.{Bytes}
use Rattle.module_arena.specs.View.{function_view, constants_of, module_of}
use Rattle.type_table.specs.Types.{trees}
use Rattle.entry_verify.specs.Constants.FunctionIds.{is_function}

-- where a name that is found stands
place_of : (names : List Bytes) (name : Bytes) → list_any (bytes_eq name) names ≡ true → (k : ℕ) × (slice_get names k ≡ Some name)
place_of [] name h = absurd (true≢false (sym h))
place_of (x ∷ names) name h = by (place_of names name) (bytes_eq name x) refl h
  where
    by : (list_any (bytes_eq name) names ≡ true → (k : ℕ) × (slice_get names k ≡ Some name)) → (b : Bool) → bytes_eq name x ≡ b → (b || list_any (bytes_eq name) names) ≡ true → (k : ℕ) × (slice_get (x ∷ names) k ≡ Some name)
    by later true e t = (0, ap Some (sym ((bytes_decides name x).0 e)))
    by later false e t = let rest = later t in (suc rest.0, rest.1)

names_kept : (a : Lists) (fs : List the_function.Function) → map (λ (f : modules.Function). f.name) (map (function_view (trees a.table) (constants_of a)) fs) ≡ map (λ (f : the_function.Function). f.name) fs
names_kept a [] = refl
names_kept a (f ∷ fs) = ap (λ ns. f.name ∷ ns) (names_kept a fs)

module _ (a : Lists) (distinct : AreDistinct a) where
  -- no other entry has the name of a function
  clash : (name : Bytes) (g : GlobalId) → global_name a g ≡ Some name → is_function g ≡ false → list_any (bytes_eq name) (map (λ (f : the_function.Function). f.name) a.functions) ≡ true → ⊥
  clash name g at other h =
      let place = place_of (map (λ (f : the_function.Function). f.name) a.functions) name h in
      let there : global_name a (global.Function place.0) ≡ Some name = sym (slice_get-map (λ (f : the_function.Function). f.name) a.functions place.0) ∙ place.1 in
      let one = distinct name (global.Function place.0) g there at in
      true≢false (ap is_function one ∙ other)

  told : (g : GlobalId) → HasGlobal (counts a) g → list_any (bytes_eq (name_at a g)) (map (λ (f : the_function.Function). f.name) a.functions) ≡ is_function g
  told (global.Function id) h =
      let names = map (λ (f : the_function.Function). f.name) a.functions in
      any_passes_from_place (bytes_eq (get_or names id [])) names id (get_or names id [])
      (slice_get-get_or names id [] (omega (arith, h, length-map a.functions (λ (f : the_function.Function). f.name)))) ((bytes_decides (get_or names id []) (get_or names id [])).1 refl)
  told (global.Variable id) h =
      let names = map (λ (v : the_variable.Variable). v.name) a.variables in
      let at : global_name a (global.Variable id) ≡ Some (get_or names id []) =
      sym (slice_get-map (λ (v : the_variable.Variable). v.name) a.variables id) ∙ slice_get-get_or names id [] (omega (arith, h, length-map a.variables (λ (v : the_variable.Variable). v.name))) in
      false_from_ne_true _ (clash (get_or names id []) (global.Variable id) at refl)
  told (global.Alias id) h =
      let names = map (λ (x : the_alias.Alias). x.name) a.aliases in
      let at : global_name a (global.Alias id) ≡ Some (get_or names id []) =
      sym (slice_get-map (λ (x : the_alias.Alias). x.name) a.aliases id) ∙ slice_get-get_or names id [] (omega (arith, h, length-map a.aliases (λ (x : the_alias.Alias). x.name))) in
      false_from_ne_true _ (clash (get_or names id []) (global.Alias id) at refl)

  pub has_function_told : (g : GlobalId) → HasGlobal (counts a) g → has_function (module_of a) (name_at a g) ≡ is_function g
  unfolding module_of
  has_function_told g h = ap (λ ns. list_any (bytes_eq (name_at a g)) ns) (names_kept a a.functions) ∙ told g h

-- the name of an entry that is there
pub name_is : (a : Lists) (g : GlobalId) (name : Bytes) → global_name a g ≡ Some name → name_at a g ≡ name
name_is a (global.Variable id) name e =
    let f : the_variable.Variable → Bytes = λ (v : the_variable.Variable). v.name in
    get_or_from_slice_get (map f a.variables) id name [] (slice_get-map f a.variables id ∙ e)
name_is a (global.Function id) name e =
    let f : the_function.Function → Bytes = λ (v : the_function.Function). v.name in
    get_or_from_slice_get (map f a.functions) id name [] (slice_get-map f a.functions id ∙ e)
name_is a (global.Alias id) name e =
    let f : the_alias.Alias → Bytes = λ (v : the_alias.Alias). v.name in
    get_or_from_slice_get (map f a.aliases) id name [] (slice_get-map f a.aliases id ∙ e)
