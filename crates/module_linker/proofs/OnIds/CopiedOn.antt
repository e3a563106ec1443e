-- The constants of one part more are copied; what was copied of the other parts stays.
use Rattle.std.proofs.Common.{◌≡◌, ℕ, ◌+◌, ◌<◌, ◌≤◌, ◌⊎◌, inl, inr, List, [], length, set, slice_get, option_map, All, Some, refl, sym, ap, ◌∙◌, subst, arith}
use Rattle.std.proofs.lemmas.Bool.{cases_eq}
use Rattle.std.proofs.lemmas.List.{length-set}
use Rattle.std.proofs.lemmas.Option.{get_or_from_slice_get, same_Some, slice_get_within}
use Rattle.type_table.specs.Types.{structs}
use Rattle.item_build.proofs.OnTypes.Known.{has_global, is_named}
use Rattle.item_build.specs.Types.Stands.{Grows}
use Rattle.module_arena.specs.Known.{counts, HasGlobal}
use Rattle.module_arena.specs.Lists.{Lists, global_name, name_at}
use Rattle.module_arena.specs.Module.{Module}
use Rattle.module_arena.specs.View.{module_of}
use Rattle.module_arena.specs.declared.entry.Alias as the_alias
use Rattle.module_arena.specs.declared.entry.Function as the_function
use Rattle.module_arena.specs.declared.entry.Variable as the_variable
use Rattle.module_arena.specs.declared.entry.GlobalId.{GlobalId}
use Rattle.module_arena.specs.declared.entry.GlobalId.TheVariants as global
use Rattle.linkage_rules.specs.Ids.{modules}
use Rattle.link_rules.specs.Rename.{new_global}
use Rattle.link_rules.specs.Structs.{new_struct}
use Rattle.entry_copy.specs.Copies.{Copies, CopiesConstants}
use Rattle.entry_copy.specs.Tables.{Tables, with_constants, new_global as new_id}
use Rattle.entry_copy.proofs.ConstantsCopied.{constants_still, name_is}
use Rattle.entry_copy.proofs.Starting.{no_constants_copied}
use Rattle.entry_copy.proofs.TypesCopied.{types_still}
use Rattle.module_linker.specs.Stages.Ground.{HasTypes, HaveTypes}
use Rattle.module_linker.specs.Stages.NewIds.{AllHaveNewIds, HaveNewIds}
use Rattle.module_linker.specs.Ids.Constants.{AreCopiedTo}
use Rattle.module_linker.proofs.OnIds.Once.{get-set_other, get-set_same}

-- ---- before the constants of a part are copied

-- a new id is that of the entry with the new name
named_new : (parts : List Module) (i : ℕ) (a b : Lists) (t : Tables) → HaveNewIds parts i a b t → (g h : GlobalId) → HasGlobal (counts a) g → new_id t g ≡ Some h → HasGlobal (counts b) h × (name_at b h ≡ new_global parts i (name_at a g))
named_new parts i a b t ids g h has is =
    let own = ids.each g (name_at a g) (name_is a g has) in
    let same : own.id ≡ h = same_Some own.id h (sym own.is ∙ is) in
    let called : global_name b h ≡ Some (new_global parts i (name_at a g)) = ap (global_name b) (sym same) ∙ own.called in
    (has_global b h (new_global parts i (name_at a g)) called, is_named b h (new_global parts i (name_at a g)) called)

pub none_yet : (parts : List Module) (i : ℕ) (a b : Lists) (t : Tables) → HaveNewIds parts i a b t → t.constants ≡ [] → CopiesConstants (new_struct parts i) (new_global parts i) a b t
none_yet parts i a b t ids none = no_constants_copied (new_struct parts i) (new_global parts i) a b t none (named_new parts i a b t ids)

-- ---- while more types and constants are added

module _ (b c : Lists) (grows : Grows b c) where
  entries_called : (g : GlobalId) → global_name c g ≡ global_name b g
  entries_called (global.Variable n) = ap (λ vs. option_map (λ (v : the_variable.Variable). v.name) (slice_get vs n)) grows.variables
  entries_called (global.Function n) = ap (λ fs. option_map (λ (f : the_function.Function). f.name) (slice_get fs n)) grows.functions
  entries_called (global.Alias n) = ap (λ xs. option_map (λ (x : the_alias.Alias). x.name) (slice_get xs n)) grows.aliases

  structs_same : structs c.table ≡ structs b.table
  unfolding module_of
  structs_same = ap (λ (m : Module). m.structs) grows.same

  types_on : (parts : List Module) (i : ℕ) (a : Lists) (t : Tables) → HasTypes parts i a b t → HasTypes parts i a c t
  types_on parts i a t h = record { copies = types_still (new_struct parts i) a b t h.copies c grows; all = h.all }

  ids_on : (parts : List Module) (i : ℕ) (a : Lists) (t : Tables) → HaveNewIds parts i a b t → HaveNewIds parts i a c t
  ids_on parts i a t h = record {
    variables = h.variables;
    functions = h.functions;
    aliases = h.aliases;
    each = λ g name e. let new = h.each g name e in record { id = new.id; is = new.is; called = entries_called new.id ∙ new.called };
  }

  copies_on : (parts : List Module) (i : ℕ) (a : Lists) (t : Tables) → Copies (new_struct parts i) (new_global parts i) a b t → Copies (new_struct parts i) (new_global parts i) a c t
  copies_on parts i a t h = record {
    types = types_still (new_struct parts i) a b t h.types c grows;
    constants = constants_still (new_struct parts i) (new_global parts i) a b t h.types h.constants c grows;
    all_types = h.all_types;
    all_constants = h.all_constants;
  }

-- ids are the same where only constants were copied
ids_with : (parts : List Module) (i : ℕ) (a b : Lists) (t : Tables) (constants : List ℕ) → HaveNewIds parts i a b t → HaveNewIds parts i a b (with_constants t constants)
ids_with parts i a b t constants h = record {
  variables = h.variables;
  functions = h.functions;
  aliases = h.aliases;
  each = λ g name e. let new = h.each g name e in record { id = new.id; is = same g ∙ new.is; called = new.called };
}
  where
    same : (g : GlobalId) → new_id (with_constants t constants) g ≡ new_id t g
    same (global.Variable n) = refl
    same (global.Function n) = refl
    same (global.Alias n) = refl

-- ---- part after part

pub none_copied : (parts : List Lists) (b : Lists) (tables : List Tables) → HaveTypes parts b tables → AllHaveNewIds parts b tables → All (λ (t : Tables). t.constants ≡ []) tables → AreCopiedTo parts 0 b tables
none_copied parts b tables types ids none = record {
  types = types;
  ids = ids;
  through = λ i a t lt one two. absurd (omega (arith, lt));
  none = λ i t le at. subst (λ (x : Tables). x.constants ≡ []) (get_or_from_slice_get tables i t t at) (none i t (slice_get_within tables i t at));
}

-- the table of one part of several
split_at : {P : Type 0} (tables now : List Tables) (part i : ℕ) (old new t : Tables) → slice_get tables part ≡ Some old → now ≡ set tables part new → slice_get now i ≡ Some t
    → (i ≡ part → new ≡ t → P) → ((i ≡ part → ⊥) → slice_get tables i ≡ Some t → P) → P
split_at {P = P} tables now part i old new t was is at here there = go (cases_eq i part)
  where
    go : (i ≡ part) ⊎ (i ≡ part → ⊥) → P
    go (inl e) = here e (same_Some new t (sym (get-set_same tables part new (slice_get_within tables part old was)) ∙ ap (λ l. slice_get l part) (sym is) ∙ ap (slice_get now) (sym e) ∙ at))
    go (inr ne) = there ne (sym (get-set_other tables part i new ne) ∙ ap (λ l. slice_get l i) (sym is) ∙ at)

module _ (parts : List Lists) (part : ℕ) (b c : Lists) (tables now : List Tables) (h : AreCopiedTo parts part b tables) (a : Lists) (a_at : slice_get parts part ≡ Some a) (old new : Tables) (old_at : slice_get tables part ≡ Some old)
    (grows : Grows b c) (others : new ≡ with_constants old new.constants) (copied : Copies (new_struct (modules parts) part) (new_global (modules parts) part) a c new) (is : now ≡ set tables part new) where
  abbrev ms : List Module
  ms = modules parts

  types_now : (i : ℕ) (d : Lists) (t : Tables) → slice_get parts i ≡ Some d → slice_get now i ≡ Some t → HasTypes ms i d c t
  types_now i d t one two =
      split_at {P = HasTypes ms i d c t} tables now part i old new t old_at is two
      (λ e same.
      let own : a ≡ d = same_Some a d (sym a_at ∙ ap (slice_get parts) (sym e) ∙ one) in
      let made : HasTypes ms part a c new = record { copies = copied.types; all = copied.all_types } in
      subst (λ j. HasTypes ms j d c t) (sym e) (subst (λ (x : Lists). HasTypes ms part x c t) own (subst (HasTypes ms part a c) same made)))
      (λ ne at. types_on b c grows ms i d t (h.types.types i d t one at))

  ids_now : AllHaveNewIds parts c now
  ids_now i d t one two =
      split_at {P = HaveNewIds ms i d c t} tables now part i old new t old_at is two
      (λ e same.
      let own = h.ids i d old one (ap (slice_get tables) e ∙ old_at) in
      ids_on b c grows ms i d t (subst (HaveNewIds ms i d b) (sym others ∙ same) (ids_with ms i d b old new.constants own)))
      (λ ne at. ids_on b c grows ms i d t (h.ids i d t one at))

  through_now : (i : ℕ) (d : Lists) (t : Tables) → i < part + 1 → slice_get parts i ≡ Some d → slice_get now i ≡ Some t → Copies (new_struct ms i) (new_global ms i) d c t
  through_now i d t lt one two =
      split_at {P = Copies (new_struct ms i) (new_global ms i) d c t} tables now part i old new t old_at is two
      (λ e same.
      let own : a ≡ d = same_Some a d (sym a_at ∙ ap (slice_get parts) (sym e) ∙ one) in
      subst (λ j. Copies (new_struct ms j) (new_global ms j) d c t) (sym e)
      (subst (λ (x : Lists). Copies (new_struct ms part) (new_global ms part) x c t) own (subst (Copies (new_struct ms part) (new_global ms part) a c) same copied)))
      (λ ne at. copies_on b c grows ms i d t (h.through i d t (omega (arith, lt, ne)) one at))

  none_now : (i : ℕ) (t : Tables) → part + 1 ≤ i → slice_get now i ≡ Some t → t.constants ≡ []
  none_now i t le two =
      split_at {P = t.constants ≡ []} tables now part i old new t old_at is two
      (λ e same. absurd (omega (arith, le, e)))
      (λ ne at. h.none i t (omega (arith, le)) at)

  pub one_copied : AreCopiedTo parts (part + 1) c now
  one_copied = record {
    types = record {
      count = ap length is ∙ length-set tables part new ∙ h.types.count;
      structs = structs_same b c grows ∙ h.types.structs;
      types = types_now;
    };
    ids = ids_now;
    through = through_now;
    none = none_now;
  }
