-- What the validity of a part gives its entries.
use Rattle.std.proofs.Common.{◌≡◌, ℕ, ◌<◌, length, Bool, true, false, cond, List, Option, Some, None, refl, sym, ap, ap₂, ◌∙◌, subst}
use Rattle.std.specs.Prelude.{slice_get, is_some, option_and_then, IsTrue, ◌↔◌}
use Rattle.std.specs.Option.{option_map, option_map_or}
use Rattle.std.proofs.lemmas.Bool.{and_parts, both_ways, not-true}
use Rattle.std.proofs.lemmas.Option.{slice_get-map, same_Some, get_or_from_slice_get}
use Rattle.ir_tables.specs.declared.linkage.Linkage.{Linkage}
use Rattle.ir_tables.specs.declared.linkage.Linkage.TheVariants.{External, Private, Internal, AvailableExternally, Linkonce, LinkonceOdr, Weak, WeakOdr, Common, Appending, ExternWeak}
use Rattle.type_table.specs.declared.layout.Layout.{Layout}
use Rattle.type_table.specs.Layout.{layout, has_layout, size, align, leaves}
use Rattle.type_table.specs.Shape.{Shape}
use Rattle.type_table.specs.Shape as shapes
use Rattle.type_table.specs.Tree.{Structs}
use Rattle.type_table.specs.Types.{trees, structs, tree, shape}
use Rattle.module_arena.specs.declared.entry.Alias.{Alias}
use Rattle.module_arena.specs.declared.entry.Function.{Function}
use Rattle.module_arena.specs.declared.entry.Variable.{Variable}
use Rattle.module_arena.specs.EntryRules as rules
use Rattle.module_arena.specs.Known.{counts, HasGlobal}
use Rattle.module_arena.specs.Lists.{Lists, name_at}
use Rattle.module_arena.specs.Module.{Module, empty_module}
use Rattle.module_arena.specs.TypeTests.{type_layout}
use Rattle.module_arena.specs.Valid.{IsValid}
use Rattle.module_arena.specs.View.{module_of, variable_view, function_view, alias_view, constant_at, constants_of}
use Rattle.module_arena.proofs.Parts.{valid_variable, valid_alias, valid_function}
use Rattle.linkage_rules.specs.declared.entry.EntryId.{EntryId}
use Rattle.linkage_rules.specs.declared.symbol.SymbolKind.{SymbolKind}
use Rattle.linkage_rules.specs.declared.symbol.SymbolKind.TheVariants as kind
use Rattle.linkage_rules.specs.Conflicts.{appends}
use Rattle.linkage_rules.specs.Entries.{Entry, structs_at}
use Rattle.linkage_rules.specs.Globals.{type_of, element_of}
use Rattle.linkage_rules.specs.Ids.{modules, global_of, global_id, seen}
use Rattle.linkage_rules.specs.Linkages.{is_appending}
use Rattle.linkage_rules.specs.SameShape.{alike}
use Rattle.linkage_rules.specs.Winner.{is_definition, shape_in, bytes_of}
use Rattle.linkage_rules.proofs.Seen.{variable_seen, function_seen, alias_seen, get_within}
use Rattle.linkage_rules.proofs.Shapes.{alike_self, alike_exact}

-- LISTS

-- SIZES

pub layout_size : (o : Option Shape) (l : Layout) → option_and_then layout o ≡ Some l → l.size ≡ option_map_or size o 0
layout_size None l h = cc
layout_size (Some s) l h = go (has_layout s) h
  where
    go : (b : Bool) → cond b (Some (record { size = size s; align = align s; leaves = leaves s })) None ≡ Some l → l.size ≡ size s
    go true e = ap (λ (x : Layout). x.size) (sym (same_Some (record { size = size s; align = align s; leaves = leaves s }) l e))
    go false e = cc

pub same_appending : (l : Linkage) → is_appending l ≡ rules.is_appending l
same_appending External = refl
same_appending Private = refl
same_appending Internal = refl
same_appending AvailableExternally = refl
same_appending Linkonce = refl
same_appending LinkonceOdr = refl
same_appending Weak = refl
same_appending WeakOdr = refl
same_appending Common = refl
same_appending Appending = refl
same_appending ExternWeak = refl

module _ (a : Lists) where
  module_variable : (n : ℕ) (v : Variable) → slice_get a.variables n ≡ Some v → slice_get (module_of a).variables n ≡ Some (variable_view (trees a.table) (constants_of a) v)
  unfolding module_of
  module_variable n v h = slice_get-map (variable_view (trees a.table) (constants_of a)) a.variables n ∙ ap (option_map (variable_view (trees a.table) (constants_of a))) h

  module_function : (n : ℕ) (f : Function) → slice_get a.functions n ≡ Some f → slice_get (module_of a).functions n ≡ Some (function_view (trees a.table) (constants_of a) f)
  unfolding module_of
  module_function n f h = slice_get-map (function_view (trees a.table) (constants_of a)) a.functions n ∙ ap (option_map (function_view (trees a.table) (constants_of a))) h

  module_alias : (n : ℕ) (x : Alias) → slice_get a.aliases n ≡ Some x → slice_get (module_of a).aliases n ≡ Some (alias_view (trees a.table) (name_at a) x)
  unfolding module_of
  module_alias n x h = slice_get-map (alias_view (trees a.table) (name_at a)) a.aliases n ∙ ap (option_map (alias_view (trees a.table) (name_at a))) h

  module_structs : (module_of a).structs ≡ structs a.table
  unfolding module_of
  module_structs = refl

  -- a defined variable has a layout
  lies : IsValid (module_of a) → (n : ℕ) (v : Variable) → slice_get a.variables n ≡ Some v → is_some v.initialiser ≡ true → is_some (option_and_then layout (shape a.table v.ty)) ≡ true
  lies valid n v h defined =
      by v.initialiser refl defined
    where
      suits : rules.variable_type_suits (module_of a).structs (tree a.table v.ty) (option_map (constant_at (constants_of a)) v.initialiser) ≡ true
      suits = (valid_variable (module_of a) n (variable_view (trees a.table) (constants_of a) v) valid (module_variable n v h)).1.1.1.1.0

      by : (o : Option ℕ) → v.initialiser ≡ o → is_some o ≡ true → is_some (option_and_then layout (shape a.table v.ty)) ≡ true
      by None e d = cc
      by (Some c) e d =
          subst (λ (ss : Structs). is_some (type_layout ss (tree a.table v.ty)) ≡ true) module_structs
          (and_parts _ _ (subst (λ (i : Option ℕ). rules.variable_type_suits (module_of a).structs (tree a.table v.ty) (option_map (constant_at (constants_of a)) i) ≡ true) e suits)).0

  never_appends_function : IsValid (module_of a) → (n : ℕ) (f : Function) → slice_get a.functions n ≡ Some f → is_appending f.linkage ≡ false
  never_appends_function valid n f h = same_appending f.linkage ∙ not-true (rules.is_appending f.linkage) (valid_function (module_of a) n (function_view (trees a.table) (constants_of a) f) valid (module_function n f h)).1.1.0

  never_appends_alias : IsValid (module_of a) → (n : ℕ) (x : Alias) → slice_get a.aliases n ≡ Some x → is_appending x.linkage ≡ false
  never_appends_alias valid n x h = same_appending x.linkage ∙ not-true (rules.is_appending x.linkage) (valid_alias (module_of a) n (alias_view (trees a.table) (name_at a) x) valid (module_alias n x h)).1.1.0

module _ (parts : List Lists) (id : EntryId) (a : Lists) (there : slice_get parts id.part ≡ Some a) where
  pub structs_are : structs_at (modules parts) id.part ≡ structs a.table
  structs_are =
      ap (λ (m : Module). m.structs) (get_or_from_slice_get (modules parts) id.part (module_of a) empty_module (slice_get-map module_of parts id.part ∙ ap (option_map module_of) there))
      ∙ module_structs a

  -- DEFINITIONS

  defined_variable : (v : Variable) → id.kind ≡ kind.Variable → slice_get a.variables id.number ≡ Some v → is_definition (seen (modules parts) id) ≡ true → is_some v.initialiser ≡ true
  defined_variable v is h d = by v.initialiser written
    where
      written : is_some (option_map (constant_at (constants_of a)) v.initialiser) ≡ true
      written = (and_parts _ _ (subst (λ (e : Entry). is_definition e ≡ true) (variable_seen parts id a there v is h) d)).0

      by : (o : Option ℕ) → is_some (option_map (constant_at (constants_of a)) o) ≡ true → is_some o ≡ true
      by None t = t
      by (Some c) t = refl

  pub variable_size : (v : Variable) (l : Layout) → id.kind ≡ kind.Variable → slice_get a.variables id.number ≡ Some v → option_and_then layout (shape a.table v.ty) ≡ Some l → l.size ≡ bytes_of (modules parts) id.part (seen (modules parts) id).global
  variable_size v l is h e =
      layout_size (shape a.table v.ty) l e
      ∙ ap (λ (ss : Structs). option_map_or size (shapes.shape ss (tree a.table v.ty)) 0) (sym structs_are)
      ∙ ap (λ (x : Entry). bytes_of (modules parts) id.part x.global) (sym (variable_seen parts id a there v is h))

  pub variable_lies : IsValid (module_of a) → (v : Variable) → id.kind ≡ kind.Variable → slice_get a.variables id.number ≡ Some v → is_definition (seen (modules parts) id) ≡ true → option_and_then layout (shape a.table v.ty) ≡ None → ⊥
  variable_lies valid v is h d none =
      both_ways (is_some (option_and_then layout (shape a.table v.ty))) (ap is_some none) (lies a valid id.number v h (defined_variable v is h d))

  pub function_size : (f : Function) → id.kind ≡ kind.Function → slice_get a.functions id.number ≡ Some f → 0 ≡ bytes_of (modules parts) id.part (seen (modules parts) id).global
  function_size f is h = ap (λ (x : Entry). bytes_of (modules parts) id.part x.global) (sym (function_seen parts id a there f is h))

  pub alias_size : (x : Alias) → id.kind ≡ kind.Alias → slice_get a.aliases id.number ≡ Some x → 0 ≡ bytes_of (modules parts) id.part (seen (modules parts) id).global
  alias_size x is h = ap (λ (e : Entry). bytes_of (modules parts) id.part e.global) (sym (alias_seen parts id a there x is h))

  -- APPENDED ELEMENTS

  pub no_function_appends : IsValid (module_of a) → (f : Function) → id.kind ≡ kind.Function → slice_get a.functions id.number ≡ Some f → appends (seen (modules parts) id) ≡ true → ⊥
  no_function_appends valid f is h t = both_ways _ (never_appends_function a valid id.number f h) (subst (λ (e : Entry). appends e ≡ true) (function_seen parts id a there f is h) t)

  pub no_alias_appends : IsValid (module_of a) → (x : Alias) → id.kind ≡ kind.Alias → slice_get a.aliases id.number ≡ Some x → appends (seen (modules parts) id) ≡ true → ⊥
  no_alias_appends valid x is h t = both_ways _ (never_appends_alias a valid id.number x h) (subst (λ (e : Entry). appends e ≡ true) (alias_seen parts id a there x is h) t)

  -- what appends is a variable
  pub appends_variable : IsValid (module_of a) → HasGlobal (counts a) (global_id id) → appends (seen (modules parts) id) ≡ true → (id.kind ≡ kind.Variable) × (id.number < length a.variables)
  appends_variable valid known t = go id.kind refl known
    where
      go : (k : SymbolKind) → id.kind ≡ k → HasGlobal (counts a) (global_of k id.number) → (id.kind ≡ kind.Variable) × (id.number < length a.variables)
      go kind.Variable is h = (is, h)
      go kind.Function is h = let f = get_within a.functions id.number h in absurd (no_function_appends valid f.0 is f.1 t)
      go kind.Alias is h = let x = get_within a.aliases id.number h in absurd (no_alias_appends valid x.0 is x.1 t)

  pub element_shape : (v : Variable) (ty : ℕ) → id.kind ≡ kind.Variable → slice_get a.variables id.number ≡ Some v → tree a.table ty ≡ element_of (tree a.table v.ty) → shape a.table ty ≡ shape_in (modules parts) (seen (modules parts) id).part (element_of (type_of (seen (modules parts) id).global))
  element_shape v ty is h e =
      ap (shapes.shape (structs a.table)) e
      ∙ ap (λ (ss : Structs). shapes.shape ss (element_of (tree a.table v.ty))) (sym structs_are)
      ∙ ap (λ (x : Entry). shape_in (modules parts) x.part (element_of (type_of x.global))) (sym (variable_seen parts id a there v is h))

-- a test that is passed exactly where two shapes are equal
pub alike_test : (b : Bool) (s t : Option Shape) → (IsTrue b → s ≡ t) → (s ≡ t → IsTrue b) → b ≡ alike s t
alike_test b s t f g = go (alike s t) refl b f g
  where
    go : (c : Bool) → alike s t ≡ c → (b : Bool) → (IsTrue b → s ≡ t) → (s ≡ t → IsTrue b) → b ≡ c
    go true e true f g = refl
    go false e false f g = refl
    go true e false f g = g (alike_exact s t e)
    go false e true f g = absurd (both_ways (alike s t) e (subst (λ z. alike s z ≡ true) (f refl) (alike_self s)))

pub shapes_alike : (b : Bool) (s t u v : Option Shape) → (IsTrue b ↔ (s ≡ t)) → s ≡ u → t ≡ v → b ≡ alike u v
shapes_alike b s t u v h p q = alike_test b s t h.0 h.1 ∙ ap₂ alike p q
