-- The target of a kept alias is kept, so that it has a new id.
use Rattle.std.proofs.Common.{◌≡◌, ℕ, zero, suc, Bool, true, false, List, [], ◌∷◌, map, slice_get, Option, Some, None, refl, sym, ap, ◌∙◌, subst, bytes_eq, is_some}
use Rattle.std.specs.Prelude.{IsSome, ◌&&◌}
use Rattle.std.specs.List.{list_any, AllByRecursion}
use Rattle.std.specs.Option.{option_map, option_map_or}
use Rattle.std.proofs.lemmas.Bool.{and_from, and_parts}
use Rattle.std.proofs.lemmas.Option.{same_Some, slice_get-map}
use Rattle.type_table.specs.Types.{trees}
use Rattle.module_arena.specs.declared.entry.Alias as the_alias
use Rattle.module_arena.specs.declared.entry.Function as the_function
use Rattle.module_arena.specs.declared.entry.Variable as the_variable
use Rattle.module_arena.specs.declared.entry.GlobalId.{GlobalId}
use Rattle.module_arena.specs.declared.entry.GlobalId.TheVariants as global
use Rattle.module_arena.specs.EntryRules.{is_lasting, is_lasting_variable, is_lasting_function, target_suits}
use Rattle.module_arena.specs.Functions.{variable_names, function_names}
use Rattle.module_arena.specs.Known.{IsGood, AreDistinct}
use Rattle.module_arena.specs.Lists.{Lists, global_name, name_at}
use Rattle.module_arena.specs.Module.{Bytes, Variable, AliasType, PlainType, FunctionType, Alias, Function, Module}
use Rattle.module_arena.specs.Valid.{AllHold, IsValid, alias_demands}
use Rattle.module_arena.specs.View.{module_of, constants_of, variable_view, alias_view, function_view}
use Rattle.module_arena.specs.WellFormed.{IsWellFormed}
use Rattle.entry_copy.specs.Tables.{Tables, new_global}
use Rattle.entry_copy.proofs.ConstantsCopied.{name_is}
use Rattle.extract_rules.specs.declared.selection.Selection.{Selection}
use Rattle.extract_rules.specs.Selected.{keeps, keeps_variable, keeps_function, keeps_alias}
use Rattle.extract_rules.proofs.Among.{name_exact, any_where}
use Rattle.extract_rules.proofs.Entries.{some_target, known_target}
use Rattle.extract_rules.proofs.Keeping.{alias_at}
use Rattle.extract_rules.proofs.OnValid.Stays.{aliases_hold}
use Rattle.extract_core.specs.declared.fates.fates.Fate.{Fate}
use Rattle.extract_core.specs.declared.fates.fates.Fate.TheVariants.{Kept, LeftOut}
use Rattle.extract_core.specs.declared.fates.fates.Fates.{Fates}
use Rattle.extract_core.specs.Fates.Fates.{AreFates, fate_of, variable_fate, function_fate, alias_fate}
use Rattle.extract_core.specs.Naming.{NamesOfAlias}
use Rattle.extract_core.proofs.KeptNames.{is_kept}
use Rattle.extract_core.specs.Entries.NewIds.{HaveNewIds}
use Rattle.extract_core.proofs.OnEntries.NewIds.{id_there}

-- ---- lists

at_place : {A : Type 0} (P : A → Type 0) (xs : List A) → AllByRecursion P xs → (k : ℕ) (x : A) → slice_get xs k ≡ Some x → P x
at_place P [] all k x e = cc
at_place P (y ∷ ys) all zero x e = subst P (same_Some y x e) all.0
at_place P (y ∷ ys) all (suc k) x e = at_place P ys all.1 k x e

module _ {X Y : Type 0} (view : X → Y) (name : Y → Bytes) (own : X → Bytes) (same : (x : X) → name (view x) ≡ own x) where
  -- what a view is called, its element is called
  called_at : (xs : List X) (k : ℕ) (y : Y) → slice_get (map view xs) k ≡ Some y → option_map own (slice_get xs k) ≡ Some (name y)
  called_at [] k y e = cc
  called_at (x ∷ xs) zero y e = ap Some (sym (same x) ∙ ap name (same_Some (view x) y e))
  called_at (x ∷ xs) (suc k) y e = called_at xs k y e

not_out : (b c : Bool) → b ≡ true → fate_of b c ≡ LeftOut → ⊥
not_out true c h e = cc
not_out false c h e = cc

none_is_not : (o : Option GlobalId) → o ≡ None → IsSome o → ⊥
none_is_not None e some = cc
none_is_not (Some g) e some = cc

-- ---- targets

module _ (a : Lists) (s : Selection) (good : IsWellFormed (module_of a)) (valid : IsValid (module_of a)) (distinct : AreDistinct a) (fates : Fates) (are : AreFates (module_of a) s fates)
    (b : Lists) (t : Tables) (ids : HaveNewIds a fates b t) where
  abbrev m : Module
  m = module_of a

  suits : (k : ℕ) (x : Alias) → slice_get m.aliases k ≡ Some x → target_suits m x.ty x.target ≡ true
  suits k x at = let h = at_place (λ y. AllHold (alias_demands m y)) m.aliases (aliases_hold m s good valid) k x at in (and_parts (is_lasting x.linkage) (target_suits m x.ty x.target) h.1.1.1.1.1.0).1

  -- a kept name that a defined variable has is that of an entry with a new id
  variable_there : (name : Bytes) → keeps m s name ≡ true → list_any (is_lasting_variable name) m.variables ≡ true → (g : GlobalId) → global_name a g ≡ Some name → IsSome (new_global t g)
  unfolding module_of
  variable_there name keep h g named =
      let p = any_where (is_lasting_variable name) m.variables h in
      let v = p.0 in
      let parts = and_parts (bytes_eq v.name name) (is_some v.initialiser && is_lasting v.linkage) p.3 in
      let same : v.name ≡ name = name_exact v.name name parts.0 in
      let keeps_it : keeps_variable m s v ≡ true = and_from (is_some v.initialiser) (keeps m s v.name) (and_parts (is_some v.initialiser) (is_lasting v.linkage) parts.1).0 (ap (keeps m s) same ∙ keep) in
      let here : global_name a (global.Variable p.1) ≡ Some name = called_at (variable_view (trees a.table) (constants_of a)) (λ (w : Variable). w.name) (λ (w : the_variable.Variable). w.name) (λ w. refl) a.variables p.1 v p.2 ∙ ap Some same in
      let fate : slice_get fates.variables p.1 ≡ Some (variable_fate m s v) = ap (λ l. slice_get l p.1) are.variables ∙ slice_get-map (variable_fate m s) m.variables p.1 ∙ ap (option_map (variable_fate m s)) p.2 in
      subst (λ h. IsSome (new_global t h)) (distinct name (global.Variable p.1) g here named)
      (id_there b (variable_names m) fates.variables t.variables p.1 (variable_fate m s v) ids.variables fate (not_out (keeps_variable m s v) _ keeps_it))

  -- the same of a defined function
  function_there : (name : Bytes) → keeps m s name ≡ true → list_any (is_lasting_function name) m.functions ≡ true → (g : GlobalId) → global_name a g ≡ Some name → IsSome (new_global t g)
  unfolding module_of
  function_there name keep h g named =
      let p = any_where (is_lasting_function name) m.functions h in
      let f = p.0 in
      let parts = and_parts (bytes_eq f.name name) (is_some f.body && is_lasting f.linkage) p.3 in
      let same : f.name ≡ name = name_exact f.name name parts.0 in
      let keeps_it : keeps_function m s f ≡ true = and_from (is_some f.body) (keeps m s f.name) (and_parts (is_some f.body) (is_lasting f.linkage) parts.1).0 (ap (keeps m s) same ∙ keep) in
      let here : global_name a (global.Function p.1) ≡ Some name = called_at (function_view (trees a.table) (constants_of a)) (λ (w : Function). w.name) (λ (w : the_function.Function). w.name) (λ w. refl) a.functions p.1 f p.2 ∙ ap Some same in
      let fate : slice_get fates.functions p.1 ≡ Some (function_fate m s f) = ap (λ l. slice_get l p.1) are.functions ∙ slice_get-map (function_fate m s) m.functions p.1 ∙ ap (option_map (function_fate m s)) p.2 in
      subst (λ h. IsSome (new_global t h)) (distinct name (global.Function p.1) g here named)
      (id_there b (function_names m) fates.functions t.functions p.1 (function_fate m s f) ids.functions fate (not_out (keeps_function m s f) _ keeps_it))

  target_there : (ty : AliasType) (name : Bytes) → keeps m s name ≡ true → target_suits m ty name ≡ true → (g : GlobalId) → global_name a g ≡ Some name → IsSome (new_global t g)
  target_there (PlainType ty) name keep h g named = variable_there name keep h g named
  target_there (FunctionType signature) name keep h g named = function_there name keep h g named

  -- what a kept alias is of has a new id
  pub alias_named : IsGood a → (k : ℕ) (x : the_alias.Alias) (f : Fate) → slice_get a.aliases k ≡ Some x → slice_get fates.aliases k ≡ Some f → NamesOfAlias t f x
  alias_named is_good k x f at is kept = by x.target refl
    where
      seen : Alias
      seen = alias_view (trees a.table) (name_at a) x

      here : slice_get m.aliases k ≡ Some seen
      here = alias_at a k x at

      fate : alias_fate m s seen ≡ Kept
      fate = same_Some (alias_fate m s seen) f (sym (ap (option_map (alias_fate m s)) here) ∙ sym (slice_get-map (alias_fate m s) m.aliases k) ∙ sym (ap (λ l. slice_get l k) are.aliases) ∙ is) ∙ kept

      by : (o : Option GlobalId) → x.target ≡ o → (g : GlobalId) × (x.target ≡ Some g) × IsSome (new_global t g)
      by None e = absurd (none_is_not x.target e (some_target a good k x at))
      by (Some g) e =
          let lt = known_target a is_good k x g at e in
          let name : seen.target ≡ name_at a g = ap (λ o. option_map_or (name_at a) o []) e in
          (g, e, target_there seen.ty seen.target (is_kept (keeps_alias m s seen) _ fate) (suits k seen here) g (name_is a g lt ∙ ap Some (sym name)))
