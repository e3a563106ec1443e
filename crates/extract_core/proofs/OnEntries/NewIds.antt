-- What a new id in a list of them stands for.
use Rattle.std.proofs.Common.{◌≡◌, ℕ, zero, suc, ◌<◌, List, [], ◌∷◌, map, length, slice_get, get_or, Option, Some, None, refl, sym, ap, ◌∙◌, arith}
use Rattle.std.specs.Prelude.{IsSome}
use Rattle.std.proofs.lemmas.Option.{same_Some}
use Rattle.module_arena.specs.declared.entry.GlobalId.{GlobalId}
use Rattle.module_arena.specs.declared.entry.GlobalId.TheVariants as global
use Rattle.type_table.specs.Types.{trees}
use Rattle.module_arena.specs.declared.entry.Alias as the_alias
use Rattle.module_arena.specs.declared.entry.Function as the_function
use Rattle.module_arena.specs.declared.entry.Variable as the_variable
use Rattle.module_arena.specs.Functions.{variable_names, alias_names, function_names}
use Rattle.module_arena.specs.Known.{counts, HasGlobal}
use Rattle.module_arena.specs.Lists.{Lists, global_name, name_at}
use Rattle.module_arena.specs.Module.{Bytes, Variable, Alias, Function}
use Rattle.module_arena.specs.View.{module_of, constants_of, variable_view, alias_view, function_view}
use Rattle.item_build.proofs.OnTypes.Known.{has_global, is_named}
use Rattle.entry_copy.specs.Tables.{Tables, new_global}
use Rattle.extract_core.specs.declared.fates.fates.Fate.{Fate}
use Rattle.extract_core.specs.declared.fates.fates.Fate.TheVariants.{Kept, Declared, LeftOut}
use Rattle.extract_core.specs.declared.fates.fates.Fates.{Fates}
use Rattle.extract_core.specs.Declaring.Declaring.{HasNewId, AreNewIds}
use Rattle.extract_core.specs.Entries.NewIds.{HaveNewIds}

-- ---- what an id in a list is

-- an id that is there is that of an entry of the name at its place
pub id_named : (b : Lists) (names : List Bytes) (fates : List Fate) (ids : List (Option GlobalId)) (k : ℕ) (new : GlobalId)
    → AreNewIds b names fates ids → get_or ids k None ≡ Some new → (name : Bytes) → slice_get names k ≡ Some name → global_name b new ≡ Some name
id_named b [] [] [] k new h there name called = cc
id_named b (n ∷ names) (f ∷ fates) (i ∷ ids) zero new h there name called = one f i there h.0
  where
    one : (fate : Fate) (id : Option GlobalId) → id ≡ Some new → HasNewId b n fate id → global_name b new ≡ Some name
    one LeftOut id e has = let x : None ≡ Some new = sym has ∙ e in cc
    one Kept None e has = absurd has
    one Kept (Some g) e has = ap (global_name b) (sym (same_Some g new e)) ∙ has ∙ called
    one Declared None e has = absurd has
    one Declared (Some g) e has = ap (global_name b) (sym (same_Some g new e)) ∙ has ∙ called
id_named b (n ∷ names) (f ∷ fates) (i ∷ ids) (suc k) new h there name called = id_named b names fates ids k new h.1 there name called
id_named b [] [] (i ∷ ids) k new h there name called = absurd h
id_named b [] (f ∷ fates) ids k new h there name called = absurd h
id_named b (n ∷ names) [] ids k new h there name called = absurd h
id_named b (n ∷ names) (f ∷ fates) [] k new h there name called = absurd h

-- an entry that is not left out has a new id
pub id_there : (b : Lists) (names : List Bytes) (fates : List Fate) (ids : List (Option GlobalId)) (k : ℕ) (fate : Fate)
    → AreNewIds b names fates ids → slice_get fates k ≡ Some fate → (fate ≡ LeftOut → ⊥) → IsSome (get_or ids k None)
id_there b [] [] [] k fate h at there = cc
id_there b (n ∷ names) (f ∷ fates) (i ∷ ids) zero fate h at there = one f i (same_Some f fate at) h.0
  where
    one : (g : Fate) (id : Option GlobalId) → g ≡ fate → HasNewId b n g id → IsSome id
    one LeftOut id e has = absurd (there (sym e))
    one Kept None e has = absurd has
    one Kept (Some g) e has = refl
    one Declared None e has = absurd has
    one Declared (Some g) e has = refl
id_there b (n ∷ names) (f ∷ fates) (i ∷ ids) (suc k) fate h at there = id_there b names fates ids k fate h.1 at there
id_there b [] [] (i ∷ ids) k fate h at there = absurd h
id_there b [] (f ∷ fates) ids k fate h at there = absurd h
id_there b (n ∷ names) [] ids k fate h at there = absurd h
id_there b (n ∷ names) (f ∷ fates) [] k fate h at there = absurd h

-- ---- all entries

module _ {X : Type 0} {Y : Type 0} (view : X → Y) (name : Y → Bytes) (own : X → Bytes) (same : (x : X) → name (view x) ≡ own x) where
  -- the name at a place of the module is that of the lists
  pub name_there : (xs : List X) (k : ℕ) → k < length xs → slice_get (map name (map view xs)) k ≡ Some (get_or (map own xs) k [])
  name_there [] k lt = absurd (omega (arith, lt))
  name_there (x ∷ xs) zero lt = ap Some (same x)
  name_there (x ∷ xs) (suc k) lt = name_there xs k (omega (arith, lt))

-- the new id of an entry is that of one of the same name
pub entry_called : (a : Lists) (fates : Fates) (b : Lists) (t : Tables) → HaveNewIds a fates b t → (g h : GlobalId) → HasGlobal (counts a) g → new_global t g ≡ Some h → global_name b h ≡ Some (name_at a g)
unfolding module_of
entry_called a fates b t ids (global.Variable k) h has new =
    id_named b (variable_names (module_of a)) fates.variables t.variables k h ids.variables new (name_at a (global.Variable k))
    (name_there (variable_view (trees a.table) (constants_of a)) (λ (v : Variable). v.name) (λ (v : the_variable.Variable). v.name) (λ v. refl) a.variables k has)
entry_called a fates b t ids (global.Function k) h has new =
    id_named b (function_names (module_of a)) fates.functions t.functions k h ids.functions new (name_at a (global.Function k))
    (name_there (function_view (trees a.table) (constants_of a)) (λ (f : Function). f.name) (λ (f : the_function.Function). f.name) (λ f. refl) a.functions k has)
entry_called a fates b t ids (global.Alias k) h has new =
    id_named b (alias_names (module_of a)) fates.aliases t.aliases k h ids.aliases new (name_at a (global.Alias k))
    (name_there (alias_view (trees a.table) (name_at a)) (λ (x : Alias). x.name) (λ (x : the_alias.Alias). x.name) (λ x. refl) a.aliases k has)

-- what copies of constants are asked of entries
pub entries_named : (a : Lists) (fates : Fates) (b : Lists) (t : Tables) → HaveNewIds a fates b t → (g h : GlobalId) → HasGlobal (counts a) g → new_global t g ≡ Some h → HasGlobal (counts b) h × (name_at b h ≡ name_at a g)
entries_named a fates b t ids g h has new = let e = entry_called a fates b t ids g h has new in (has_global b h (name_at a g) e, is_named b h (name_at a g) e)
