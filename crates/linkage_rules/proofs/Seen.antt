-- What an arena holds under an id is what its module has there.
use Rattle.std.proofs.Common.{◌≡◌, ℕ, zero, suc, ◌<◌, true, false, List, [], ◌∷◌, map, length, Option, Some, None, refl, sym, ap, ◌∙◌, subst, arith}
use Rattle.std.specs.Prelude.{slice_get, is_some, unwrap_or}
use Rattle.std.specs.Option.{option_map}
use Rattle.std.proofs.lemmas.Option.{slice_get-map, same_Some}
use Rattle.module_arena.specs.declared.entry.Alias.{Alias}
use Rattle.module_arena.specs.declared.entry.AliasType.{AliasType}
use Rattle.module_arena.specs.declared.entry.AliasType.TheVariants as alias_type
use Rattle.module_arena.specs.declared.entry.Function.{Function}
use Rattle.module_arena.specs.declared.entry.GlobalId.{GlobalId}
use Rattle.module_arena.specs.declared.entry.GlobalId.TheVariants as global
use Rattle.module_arena.specs.declared.entry.Variable.{Variable}
use Rattle.module_arena.specs.Known.{counts, HasGlobal}
use Rattle.module_arena.specs.Lists.{Lists, global_name, name_at}
use Rattle.module_arena.specs.Module.{Bytes}
use Rattle.module_arena.specs.View.{module_of, variable_view, function_view, alias_view, alias_type_view, body_view, local_view, constant_at, constants_of}
use Rattle.type_table.specs.Types.{trees}
use Rattle.linkage_rules.specs.declared.entry.EntryId.{EntryId}
use Rattle.linkage_rules.specs.declared.symbol.SymbolKind.TheVariants as kind
use Rattle.linkage_rules.specs.Entries.{Entry}
use Rattle.linkage_rules.specs.Globals.{Global, OfVariable, OfFunction, OfAlias, name_of, is_plain}
use Rattle.linkage_rules.specs.Grouped.{head_of}
use Rattle.linkage_rules.specs.Heads.{variable_head, function_head, alias_head, is_of_variable}
use Rattle.linkage_rules.specs.Ids.{modules, global_at, global_of, global_id, entry_in, entry_at, IsEntryId, no_entry, seen}

pub get_within : {A : Type 0} (xs : List A) (k : ℕ) → k < length xs → (x : A) × (slice_get xs k ≡ Some x)
get_within [] k h = absurd (omega (arith, h))
get_within (x ∷ xs) zero h = (x, refl)
get_within (x ∷ xs) (suc k) h = get_within xs k (omega (arith, h))

some_mapped : {A B : Type 0} (f : A → B) (o : Option A) → is_some o ≡ is_some (option_map f o)
some_mapped f None = refl
some_mapped f (Some x) = refl

-- the variable under an id
abbrev pub variable_of : Lists → Variable → Global
variable_of a v = OfVariable (variable_view (trees a.table) (constants_of a) v)

abbrev pub function_of : Lists → Function → Global
function_of a f = OfFunction (function_view (trees a.table) (constants_of a) f)

abbrev pub alias_of : Lists → Alias → Global
alias_of a x = OfAlias (alias_view (trees a.table) (name_at a) x)

pub variable_at : (a : Lists) (n : ℕ) (v : Variable) → slice_get a.variables n ≡ Some v → global_at (module_of a) (global.Variable n) ≡ Some (variable_of a v)
unfolding module_of
variable_at a n v h = ap (option_map OfVariable) (slice_get-map (variable_view (trees a.table) (constants_of a)) a.variables n ∙ ap (option_map (variable_view (trees a.table) (constants_of a))) h)

pub function_at : (a : Lists) (n : ℕ) (f : Function) → slice_get a.functions n ≡ Some f → global_at (module_of a) (global.Function n) ≡ Some (function_of a f)
unfolding module_of
function_at a n f h = ap (option_map OfFunction) (slice_get-map (function_view (trees a.table) (constants_of a)) a.functions n ∙ ap (option_map (function_view (trees a.table) (constants_of a))) h)

pub alias_at : (a : Lists) (n : ℕ) (x : Alias) → slice_get a.aliases n ≡ Some x → global_at (module_of a) (global.Alias n) ≡ Some (alias_of a x)
unfolding module_of
alias_at a n x h = ap (option_map OfAlias) (slice_get-map (alias_view (trees a.table) (name_at a)) a.aliases n ∙ ap (option_map (alias_view (trees a.table) (name_at a))) h)

module _ (parts : List Lists) (id : EntryId) (a : Lists) (there : slice_get parts id.part ≡ Some a) where
  part_is : slice_get (modules parts) id.part ≡ Some (module_of a)
  part_is = slice_get-map module_of parts id.part ∙ ap (option_map module_of) there

  pub entry_is : (x : Global) → global_at (module_of a) (global_id id) ≡ Some x → entry_at (modules parts) id ≡ Some (record { part = id.part; global = x })
  entry_is x h = ap (λ o. entry_in id.part o (global_id id)) part_is ∙ ap (option_map {U = Entry} (λ g. record { part = id.part; global = g })) h

  pub seen_is : (x : Global) → global_at (module_of a) (global_id id) ≡ Some x → seen (modules parts) id ≡ record { part = id.part; global = x }
  seen_is x h = ap (λ o. unwrap_or o no_entry) (entry_is x h)

  pub variable_seen : (v : Variable) → id.kind ≡ kind.Variable → slice_get a.variables id.number ≡ Some v → seen (modules parts) id ≡ record { part = id.part; global = variable_of a v }
  variable_seen v is h = seen_is (variable_of a v) (ap (λ k. global_at (module_of a) (global_of k id.number)) is ∙ variable_at a id.number v h)

  pub function_seen : (f : Function) → id.kind ≡ kind.Function → slice_get a.functions id.number ≡ Some f → seen (modules parts) id ≡ record { part = id.part; global = function_of a f }
  function_seen f is h = seen_is (function_of a f) (ap (λ k. global_at (module_of a) (global_of k id.number)) is ∙ function_at a id.number f h)

  pub alias_seen : (x : Alias) → id.kind ≡ kind.Alias → slice_get a.aliases id.number ≡ Some x → seen (modules parts) id ≡ record { part = id.part; global = alias_of a x }
  alias_seen x is h = seen_is (alias_of a x) (ap (λ k. global_at (module_of a) (global_of k id.number)) is ∙ alias_at a id.number x h)

  -- HEADS

  pub variable_head_seen : (v : Variable) → id.kind ≡ kind.Variable → slice_get a.variables id.number ≡ Some v → variable_head v ≡ head_of (seen (modules parts) id).global
  variable_head_seen v is h =
      (λ j. record { linkage = v.linkage; written = some_mapped (constant_at (constants_of a)) v.initialiser j; variable = true; alias = false; constant = v.constant })
      ∙ ap (λ (e : Entry). head_of e.global) (sym (variable_seen v is h))

  pub function_head_seen : (f : Function) → id.kind ≡ kind.Function → slice_get a.functions id.number ≡ Some f → function_head f ≡ head_of (seen (modules parts) id).global
  function_head_seen f is h =
      (λ j. record { linkage = f.linkage; written = some_mapped (body_view (trees a.table) (constants_of a) (map (λ p. local_view p.name) f.parameters)) f.body j; variable = false; alias = false; constant = false })
      ∙ ap (λ (e : Entry). head_of e.global) (sym (function_seen f is h))

  pub alias_head_seen : (x : Alias) → id.kind ≡ kind.Alias → slice_get a.aliases id.number ≡ Some x → alias_head x ≡ head_of (seen (modules parts) id).global
  alias_head_seen x is h = by x ∙ ap (λ (e : Entry). head_of e.global) (sym (alias_seen x is h))
    where
      by : (y : Alias) → alias_head y ≡ head_of (alias_of a y)
      by y = λ j. record { linkage = y.linkage; written = true; variable = kinds y.ty j; alias = true; constant = false }
        where
          kinds : (t : AliasType) → is_of_variable t ≡ is_plain (alias_type_view (trees a.table) t)
          kinds (alias_type.Plain ty) = refl
          kinds (alias_type.Function returns parameters variadic) = refl

  -- NAMES

  pub name_seen : (n : Bytes) → global_name a (global_id id) ≡ Some n → n ≡ name_of (seen (modules parts) id).global
  name_seen n h = go (global_id id) refl h
    where
      named : (x : Global) → global_at (module_of a) (global_id id) ≡ Some x → n ≡ name_of x → n ≡ name_of (seen (modules parts) id).global
      named x e k = k ∙ ap (λ (z : Entry). name_of z.global) (sym (seen_is x e))

      by_variable : (o : Option Variable) (k : ℕ) → slice_get a.variables k ≡ o → global_id id ≡ global.Variable k → option_map (λ v. v.name) o ≡ Some n → n ≡ name_of (seen (modules parts) id).global
      by_variable None k e is t = cc
      by_variable (Some v) k e is t = named (variable_of a v) (ap (global_at (module_of a)) is ∙ variable_at a k v e) (sym (same_Some v.name n t))

      by_function : (o : Option Function) (k : ℕ) → slice_get a.functions k ≡ o → global_id id ≡ global.Function k → option_map (λ f. f.name) o ≡ Some n → n ≡ name_of (seen (modules parts) id).global
      by_function None k e is t = cc
      by_function (Some f) k e is t = named (function_of a f) (ap (global_at (module_of a)) is ∙ function_at a k f e) (sym (same_Some f.name n t))

      by_alias : (o : Option Alias) (k : ℕ) → slice_get a.aliases k ≡ o → global_id id ≡ global.Alias k → option_map (λ x. x.name) o ≡ Some n → n ≡ name_of (seen (modules parts) id).global
      by_alias None k e is t = cc
      by_alias (Some x) k e is t = named (alias_of a x) (ap (global_at (module_of a)) is ∙ alias_at a k x e) (sym (same_Some x.name n t))

      go : (g : GlobalId) → global_id id ≡ g → global_name a g ≡ Some n → n ≡ name_of (seen (modules parts) id).global
      go (global.Variable k) is t = by_variable (slice_get a.variables k) k refl is t
      go (global.Function k) is t = by_function (slice_get a.functions k) k refl is t
      go (global.Alias k) is t = by_alias (slice_get a.aliases k) k refl is t

-- an id of an arena has an entry there
pub has_entry : (a : Lists) (g : GlobalId) → HasGlobal (counts a) g → (x : Global) × (global_at (module_of a) g ≡ Some x)
has_entry a (global.Variable n) h = let v = get_within a.variables n h in (variable_of a v.0, variable_at a n v.0 v.1)
has_entry a (global.Function n) h = let f = get_within a.functions n h in (function_of a f.0, function_at a n f.0 f.1)
has_entry a (global.Alias n) h = let x = get_within a.aliases n h in (alias_of a x.0, alias_at a n x.0 x.1)

-- an id of the parts has an entry there
pub entry_seen : (parts : List Lists) (id : EntryId) → IsEntryId parts id → entry_at (modules parts) id ≡ Some (seen (modules parts) id)
entry_seen parts id h =
    let x = has_entry h.0 (global_id id) h.2 in
    entry_is parts id h.0 h.1 x.0 x.1 ∙ ap Some (sym (seen_is parts id h.0 h.1 x.0 x.1))

-- the part of an id, and what the id is in it
pub known_part : (parts : List Lists) (id : EntryId) → IsEntryId parts id → id.part < length parts
known_part parts id h = within parts id.part h.0 h.1
  where
    within : (xs : List Lists) (k : ℕ) (x : Lists) → slice_get xs k ≡ Some x → k < length xs
    within [] k x e = cc
    within (y ∷ xs) zero x e = omega arith
    within (y ∷ xs) (suc k) x e = let r = within xs k x e in omega (arith, r)

pub known_global : (parts : List Lists) (id : EntryId) (a : Lists) → IsEntryId parts id → slice_get parts id.part ≡ Some a → HasGlobal (counts a) (global_id id)
known_global parts id a h e = subst (λ b. HasGlobal (counts b) (global_id id)) (same_Some h.0 a (sym h.1 ∙ e)) h.2

-- the part of an entry that is there
pub seen_part : (parts : List Lists) (id : EntryId) → IsEntryId parts id → (seen (modules parts) id).part ≡ id.part
seen_part parts id h =
    let x = has_entry h.0 (global_id id) h.2 in
    ap (λ (e : Entry). e.part) (seen_is parts id h.0 h.1 x.0 x.1)
