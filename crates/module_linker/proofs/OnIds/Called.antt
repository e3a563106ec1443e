-- The id that stands where a symbol does is that of the entry with the symbol's new name.
use Rattle.std.proofs.Common.{◌≡◌, ℕ, zero, suc, ◌+◌, List, [], ◌∷◌, ◌++◌, length, map, slice_get, option_map, Option, Some, None, refl, sym, ap, ◌∙◌}
use Rattle.std.specs.List.{filter_map}
use Rattle.std.proofs.lemmas.List.{append_assoc, length-map, length_push}
use Rattle.std.proofs.lemmas.Option.{same_Some, slice_get-map}
use Rattle.type_table.specs.Types.{trees}
use Rattle.module_arena.specs.declared.entry.Alias as the_alias
use Rattle.module_arena.specs.declared.entry.Function as the_function
use Rattle.module_arena.specs.declared.entry.Variable as the_variable
use Rattle.module_arena.specs.declared.entry.GlobalId.{GlobalId}
use Rattle.module_arena.specs.declared.entry.GlobalId.TheVariants as global
use Rattle.module_arena.specs.Lists.{Lists, global_name, name_at}
use Rattle.module_arena.specs.Module.{Bytes, Module}
use Rattle.module_arena.specs.View.{module_of, constants_of, variable_view, alias_view, function_view}
use Rattle.linkage_rules.specs.Globals.{Global, OfVariable, OfFunction, OfAlias, name_of}
use Rattle.linkage_rules.specs.Ids.{global_at}
use Rattle.link_rules.specs.Linked.{variable_if, function_if, alias_if, linked, linked_globals}
use Rattle.link_rules.specs.Rename.{renaming}
use Rattle.link_rules.proofs.Merged.{keys, linked_name}
use Rattle.linkage_rules.specs.declared.symbol.Symbol.{Symbol}
use Rattle.linkage_rules.specs.Symbols.{symbols}
use Rattle.linkage_rules.specs.Winner.{home}
use Rattle.item_build.specs.Types.Declarations.{without_initialiser, without_target}
use Rattle.item_build.specs.Types.Parameters.{without_body}
use Rattle.module_linker.specs.Stages.Declared.{bare, declared, ids_from, ids_of, with_global, with_globals}
use Rattle.module_linker.specs.Stages.Ground.{ground}

-- ---- the ids of entries that are declared in order

pub at_join : {A : Type 0} (xs : List A) (y : A) (ys : List A) → slice_get (xs ++ y ∷ ys) (length xs) ≡ Some y
at_join [] y ys = refl
at_join (x ∷ xs) y ys = at_join xs y ys

-- the first of them stands behind what was there
first_behind : (m : Module) (g : Global) (gs : List Global) → (h : GlobalId) × (slice_get (ids_from (length m.variables) (length m.functions) (length m.aliases) (g ∷ gs)) 0 ≡ Some h) × (global_at (with_globals m (map bare (g ∷ gs))) h ≡ Some (bare g))
first_behind m (OfVariable v) gs = (global.Variable (length m.variables), refl, ap (option_map OfVariable) (at_join m.variables (without_initialiser v) (filter_map variable_if (map bare gs))))
first_behind m (OfFunction f) gs = (global.Function (length m.functions), refl, ap (option_map OfFunction) (at_join m.functions (without_body f) (filter_map function_if (map bare gs))))
first_behind m (OfAlias a) gs = (global.Alias (length m.aliases), refl, ap (option_map OfAlias) (at_join m.aliases (without_target a) (filter_map alias_if (map bare gs))))

with_first : (m : Module) (g : Global) (gs : List Global) → with_globals (with_global m g) gs ≡ with_globals m (g ∷ gs)
with_first m (OfVariable v) gs = λ i. record (with_globals m (OfVariable v ∷ gs)) { variables = append_assoc m.variables (v ∷ []) (filter_map variable_if gs) i }
with_first m (OfFunction f) gs = λ i. record (with_globals m (OfFunction f ∷ gs)) { functions = append_assoc m.functions (f ∷ []) (filter_map function_if gs) i }
with_first m (OfAlias a) gs = λ i. record (with_globals m (OfAlias a ∷ gs)) { aliases = append_assoc m.aliases (a ∷ []) (filter_map alias_if gs) i }

-- and the others behind it
ids_behind : (m : Module) (g : Global) (gs : List Global) (k : ℕ)
    → slice_get (ids_from (length m.variables) (length m.functions) (length m.aliases) (g ∷ gs)) (suc k) ≡ slice_get (ids_from (length (with_global m (bare g)).variables) (length (with_global m (bare g)).functions) (length (with_global m (bare g)).aliases) gs) k
ids_behind m (OfVariable v) gs k = ap (λ n. slice_get (ids_from n (length m.functions) (length m.aliases) gs) k) (sym (length_push m.variables (without_initialiser v)))
ids_behind m (OfFunction f) gs k = ap (λ n. slice_get (ids_from (length m.variables) n (length m.aliases) gs) k) (sym (length_push m.functions (without_body f)))
ids_behind m (OfAlias a) gs k = ap (λ n. slice_get (ids_from (length m.variables) (length m.functions) n gs) k) (sym (length_push m.aliases (without_target a)))

ids_at : (gs : List Global) (m : Module) (k : ℕ) (g : Global) → slice_get gs k ≡ Some g
    → (h : GlobalId) × (slice_get (ids_from (length m.variables) (length m.functions) (length m.aliases) gs) k ≡ Some h) × (global_at (with_globals m (map bare gs)) h ≡ Some (bare g))
ids_at [] m k g at = cc
ids_at (x ∷ gs) m zero g at = let first = first_behind m x gs in (first.0, first.1, first.2 ∙ ap (λ (y : Global). Some (bare y)) (same_Some x g at))
ids_at (x ∷ gs) m (suc k) g at =
    let later = ids_at gs (with_global m (bare x)) k g at in
    (later.0, ids_behind m x gs k ∙ later.1, ap (λ (y : Module). global_at y later.0) (sym (with_first m (bare x) (map bare gs))) ∙ later.2)

ids_long : (gs : List Global) (v f a : ℕ) → length (ids_from v f a gs) ≡ length gs
ids_long [] v f a = refl
ids_long (OfVariable x ∷ gs) v f a = ap suc (ids_long gs (v + 1) f a)
ids_long (OfFunction x ∷ gs) v f a = ap suc (ids_long gs v (f + 1) a)
ids_long (OfAlias x ∷ gs) v f a = ap suc (ids_long gs v f (a + 1))

-- there is one for each symbol
pub one_each : (parts : List Module) → length (ids_of parts) ≡ length (symbols parts)
one_each parts =
    ids_long (linked_globals parts) 0 0 0 ∙ length-map (renaming parts) (linked parts)
    ∙ sym (length-map (renaming parts) (λ (r : Symbol × Bytes). r.0)) ∙ ap length (keys parts)

-- ---- names

bare_name : (g : Global) → name_of (bare g) ≡ name_of g
bare_name (OfVariable v) = refl
bare_name (OfFunction f) = refl
bare_name (OfAlias a) = refl

seen_through : {A V : Type 0} (view : A → V) (of : V → Global) (own : A → Bytes) → ((y : A) → name_of (of (view y)) ≡ own y) → (o : Option A) (x : Global) → option_map of (option_map view o) ≡ Some x → option_map own o ≡ Some (name_of x)
seen_through view of own same None x e = cc
seen_through view of own same (Some y) x e = ap Some (sym (same y) ∙ ap name_of (same_Some (of (view y)) x e))

-- the name of what the module of an arena has under an id is that of the arena's entry
called : (b : Lists) (h : GlobalId) (x : Global) → global_at (module_of b) h ≡ Some x → global_name b h ≡ Some (name_of x)
unfolding module_of
called b (global.Variable n) x e =
    seen_through (variable_view (trees b.table) (constants_of b)) OfVariable (λ (v : the_variable.Variable). v.name) (λ v. refl) (slice_get b.variables n) x
    (ap (option_map OfVariable) (sym (slice_get-map (variable_view (trees b.table) (constants_of b)) b.variables n)) ∙ e)
called b (global.Function n) x e =
    seen_through (function_view (trees b.table) (constants_of b)) OfFunction (λ (f : the_function.Function). f.name) (λ f. refl) (slice_get b.functions n) x
    (ap (option_map OfFunction) (sym (slice_get-map (function_view (trees b.table) (constants_of b)) b.functions n)) ∙ e)
called b (global.Alias n) x e =
    seen_through (alias_view (trees b.table) (name_at b)) OfAlias (λ (a : the_alias.Alias). a.name) (λ a. refl) (slice_get b.aliases n) x
    (ap (option_map OfAlias) (sym (slice_get-map (alias_view (trees b.table) (name_at b)) b.aliases n)) ∙ e)

-- the id of the k-th symbol is that of the entry with its new name
pub id_called : (parts : List Module) (b : Lists) → module_of b ≡ declared parts → (k : ℕ) (s : Symbol) (new : Bytes) → slice_get (renaming parts) k ≡ Some (s, new) → (h : GlobalId) × (slice_get (ids_of parts) k ≡ Some h) × (global_name b h ≡ Some new)
id_called parts b is k s new at =
    let g = linked parts (s, new) in
    let found = ids_at (linked_globals parts) (ground parts) k g (slice_get-map (linked parts) (renaming parts) k ∙ ap (option_map (linked parts)) at) in
    (found.0, found.1, called b found.0 (bare g) (ap (λ (m : Module). global_at m found.0) is ∙ found.2) ∙ ap Some (bare_name g ∙ linked_name parts s new (home parts s)))
