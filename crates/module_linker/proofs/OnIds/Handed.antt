-- The new ids are handed to the copiers, from the last part to the first.
use Rattle.std.proofs.Common.{◌≡◌, ℕ, zero, suc, ◌+◌, ◌<◌, ◌≤◌, ◌⊎◌, inl, inr, List, [], ◌∷◌, ◌++◌, length, map, set, slice_get, option_map, Some, refl, sym, ap, ap₂, ◌∙◌, subst, arith}
use Rattle.std.proofs.lemmas.Bool.{cases_eq}
use Rattle.std.proofs.lemmas.List.{append-nil, append_assoc, length-append, length_push, map-set}
use Rattle.std.proofs.lemmas.Option.{same_Some, slice_get-map, slice_get_within}
use Rattle.type_table.proofs.Rooms.{unmapped}
use Rattle.item_build.proofs.OnTypes.Known.{has_global}
use Rattle.module_arena.specs.Known.{Counts, counts, HasGlobal}
use Rattle.module_arena.specs.Lists.{Lists, global_name}
use Rattle.module_arena.specs.Module.{Bytes, Module}
use Rattle.module_arena.specs.View.{module_of}
use Rattle.module_arena.specs.declared.entry.GlobalId.{GlobalId}
use Rattle.module_arena.specs.declared.entry.GlobalId.TheVariants as global
use Rattle.linkage_rules.specs.Entries.{entries, symbol_in}
use Rattle.linkage_rules.specs.Globals.{name_of}
use Rattle.linkage_rules.specs.Grouped.{key_in}
use Rattle.linkage_rules.specs.Ids.{IsEntryId, global_id, modules, seen}
use Rattle.linkage_rules.specs.Symbols.{symbols}
use Rattle.linkage_rules.specs.declared.entry.EntryId.{EntryId}
use Rattle.linkage_rules.specs.declared.symbol.SymbolKind.TheVariants as kind
use Rattle.linkage_rules.proofs.Seen.{name_seen, seen_part}
use Rattle.link_rules.specs.Rename.{new_global}
use Rattle.link_rules.proofs.Carrying.{all_distinct}
use Rattle.entry_copy.specs.Tables.{Tables, with_entries, new_global as new_id}
use Rattle.module_linker.specs.Stages.Declared.{declared, ids_of}
use Rattle.module_linker.specs.Stages.NewIds.{AllHaveNewIds, HasNewId, HaveNewIds}
use Rattle.module_linker.specs.Stages.Parts.{CanLink}
use Rattle.module_linker.specs.Ids.Filing.{AreFiled, KnownIds, known_id, known_in, new_id_of, places}
use Rattle.module_linker.specs.Ids.Others.{without_entries}
use Rattle.module_linker.proofs.OnIds.Among.{own_place}
use Rattle.module_linker.proofs.OnIds.Called.{id_called, at_join}
use Rattle.module_linker.proofs.OnIds.Once.{get-set_other, get-set_same}
use Rattle.module_linker.proofs.OnIds.OwnSymbols.{RowOf, own_symbol, row_in}

-- ---- part after part

-- the copier of a part has these ids
abbrev pub HasIds : KnownIds → Tables → Type 0
HasIds p t = t ≡ with_entries t p.variables p.functions p.aliases

-- The copiers behind the first so many have their ids, which were taken off a list; nothing else of them changed.
pub record AreHanded (all left : List KnownIds) (before now : List Tables) : Type 0 where
  pub taken : List KnownIds
  pub split : all ≡ left ++ taken
  pub others : map without_entries now ≡ map without_entries before
  pub handed : (i : ℕ) (p : KnownIds) (t : Tables) → length left ≤ i → slice_get all i ≡ Some p → slice_get now i ≡ Some t → HasIds p t

set_again : {A : Type 0} (xs : List A) (i : ℕ) (x : A) → slice_get xs i ≡ Some x → set xs i x ≡ xs
set_again [] i x at = refl
set_again (y ∷ ys) zero x at = ap (λ z. z ∷ ys) (sym (same_Some y x at))
set_again (y ∷ ys) (suc i) x at = ap (λ l. y ∷ l) (set_again ys i x at)

pub none_handed : (all : List KnownIds) (before : List Tables) → AreHanded all all before before
none_handed all before = record { taken = []; split = sym (append-nil all); others = refl; handed = λ i p t le at is. let lt = slice_get_within all i p at in absurd (omega (arith, le, lt)) }

-- there is a copier for the part whose ids are taken off
pub rest_within : (all left rest : List KnownIds) (p : KnownIds) (before now : List Tables) (count : ℕ) → AreHanded all left before now → left ≡ rest ++ p ∷ [] → length all ≡ count → length rest < count
rest_within all left rest p before now count h last many =
    let e = ap length (h.split ∙ ap (λ l. l ++ h.taken) last ∙ append_assoc rest (p ∷ []) h.taken) in
    let long = length-append rest (p ∷ h.taken) in
    omega (arith, e, long, many)

pub one_handed : (all left rest : List KnownIds) (p : KnownIds) (before now after : List Tables) (t s : Tables) → AreHanded all left before now → left ≡ rest ++ p ∷ [] → slice_get now (length rest) ≡ Some t
    → s ≡ with_entries t p.variables p.functions p.aliases → after ≡ set now (length rest) s → AreHanded all rest before after
one_handed all left rest p before now after t s h last at given is = record {
  taken = p ∷ h.taken;
  split = split;
  others = ap (map without_entries) is ∙ map-set without_entries now (length rest) s ∙ ap (set (map without_entries now) (length rest)) (ap without_entries given)
      ∙ set_again (map without_entries now) (length rest) (without_entries t) (slice_get-map without_entries now (length rest) ∙ ap (option_map without_entries) at) ∙ h.others;
  handed = λ i q u le one two. by i q u le one two (cases_eq i (length rest));
}
  where
    split : all ≡ rest ++ p ∷ h.taken
    split = h.split ∙ ap (λ l. l ++ h.taken) last ∙ append_assoc rest (p ∷ []) h.taken

    more : length left ≡ length rest + 1
    more = let e = ap length last in e ∙ length_push rest p

    by : (i : ℕ) (q : KnownIds) (u : Tables) → length rest ≤ i → slice_get all i ≡ Some q → slice_get after i ≡ Some u → (i ≡ length rest) ⊎ (i ≡ length rest → ⊥) → HasIds q u
    by i q u le one two (inl here) =
        let same : p ≡ q = same_Some p q (sym (at_join rest p h.taken) ∙ ap (λ l. slice_get l (length rest)) (sym split) ∙ ap (slice_get all) (sym here) ∙ one) in
        let now_is : s ≡ u = same_Some s u (sym (get-set_same now (length rest) s (slice_get_within now (length rest) t at)) ∙ ap (λ l. slice_get l (length rest)) (sym is) ∙ ap (slice_get after) (sym here) ∙ two) in
        let has : HasIds p s = given ∙ ap (λ x. with_entries x p.variables p.functions p.aliases) (sym given) in
        subst (λ x. HasIds x u) same (subst (HasIds p) now_is has)
    by i q u le one two (inr ne) =
        h.handed i q u (let e = more in omega (arith, le, ne, e)) one (sym (get-set_other now (length rest) i s ne) ∙ ap (λ l. slice_get l i) (sym is) ∙ two)

-- ---- all parts

-- the id of an entry of part i
abbrev id_of : ℕ → GlobalId → EntryId
id_of i (global.Variable n) = record { part = i; kind = kind.Variable; number = n }
id_of i (global.Function n) = record { part = i; kind = kind.Function; number = n }
id_of i (global.Alias n) = record { part = i; kind = kind.Alias; number = n }

part_of : (i : ℕ) (g : GlobalId) → (id_of i g).part ≡ i
part_of i (global.Variable n) = refl
part_of i (global.Function n) = refl
part_of i (global.Alias n) = refl

is_of : (i : ℕ) (g : GlobalId) → global_id (id_of i g) ≡ g
is_of i (global.Variable n) = refl
is_of i (global.Function n) = refl
is_of i (global.Alias n) = refl

told : (t : Tables) (p : KnownIds) (g : GlobalId) → new_id (with_entries t p.variables p.functions p.aliases) g ≡ known_id p g
told t p (global.Variable n) = refl
told t p (global.Function n) = refl
told t p (global.Alias n) = refl

module _ (parts : List Lists) (can : CanLink (modules parts)) (new : List GlobalId) (are : new ≡ ids_of (modules parts)) (all : List KnownIds) (room : map places all ≡ map counts parts) (filed : AreFiled parts (symbols (modules parts)) new all)
    (b : Lists) (made : module_of b ≡ declared (modules parts)) where
  abbrev ms : List Module
  ms = modules parts

  -- The new id of an entry of that name.
  record NewOf (e : EntryId) (name : Bytes) : Type 0 where
    id : GlobalId
    known : new_id_of all e ≡ Some id
    called : global_name b id ≡ Some (new_global ms e.part name)

  module _ (e : EntryId) (known : IsEntryId parts e) (name : Bytes) where
    by_id : (row : RowOf ms e.part name) → symbol_in ms e.part name ≡ key_in ms e → (h : GlobalId) → slice_get (ids_of ms) row.place ≡ Some h → global_name b h ≡ Some row.new → NewOf e name
    by_id row same h at named = record {
      id = h;
      known = filed e row.place known (row.is ∙ ap Some same) ∙ ap (λ l. slice_get l row.place) are ∙ at;
      called = named ∙ ap Some (sym row.named);
    }

    by_row : symbol_in ms e.part name ≡ key_in ms e → (row : RowOf ms e.part name) → NewOf e name
    by_row same row = let found = id_called ms b made row.place (symbol_in ms e.part name) row.new row.at in by_id row same found.0 found.1 found.2

    by_place : name_of (seen ms e).global ≡ name → (k : ℕ) → slice_get (entries ms) k ≡ Some (seen ms e) → NewOf e name
    by_place named k at =
        let same : symbol_in ms e.part name ≡ key_in ms e = own_symbol ms (all_distinct ms can.good) e.part k name (seen ms e) at (seen_part parts e known) named in
        by_row same (row_in ms e.part name k (seen ms e) at same)

    new_of : name_of (seen ms e).global ≡ name → NewOf e name
    new_of named = let place = own_place parts e known in by_place named place.0 place.1

  module _ (i : ℕ) (a : Lists) (at : slice_get parts i ≡ Some a) (p : KnownIds) (own : slice_get all i ≡ Some p) (t : Tables) (has : HasIds p t) where
    as_many : places p ≡ counts a
    as_many = same_Some (places p) (counts a) (ap (option_map places) (sym own) ∙ sym (slice_get-map places all i) ∙ ap (λ l. slice_get l i) room ∙ slice_get-map counts parts i ∙ ap (option_map counts) at)

    kept : (g : GlobalId) → new_id_of all (id_of i g) ≡ known_id p g
    kept g = ap₂ (λ n h. known_in (slice_get all n) h) (part_of i g) (is_of i g) ∙ ap (λ o. known_in o g) own

    from_new : (g : GlobalId) (name : Bytes) → NewOf (id_of i g) name → HasNewId ms i b t g name
    from_new g name n = record {
      id = n.id;
      is = ap (λ x. new_id x g) has ∙ told t p g ∙ sym (kept g) ∙ n.known;
      called = n.called ∙ ap (λ j. Some (new_global ms j name)) (part_of i g);
    }

    has_new : (g : GlobalId) (name : Bytes) → global_name a g ≡ Some name → HasNewId ms i b t g name
    has_new g name named =
        let there : slice_get parts (id_of i g).part ≡ Some a = ap (slice_get parts) (part_of i g) ∙ at in
        let known : IsEntryId parts (id_of i g) = (a, there, subst (HasGlobal (counts a)) (sym (is_of i g)) (has_global a g name named)) in
        from_new g name (new_of (id_of i g) known name (sym (name_seen parts (id_of i g) a there name (ap (global_name a) (is_of i g) ∙ named))))

    pub have_new : HaveNewIds ms i a b t
    have_new = record {
      variables = ap (λ (x : Tables). length x.variables) has ∙ ap (λ (n : Counts). n.variables) as_many;
      functions = ap (λ (x : Tables). length x.functions) has ∙ ap (λ (n : Counts). n.functions) as_many;
      aliases = ap (λ (x : Tables). length x.aliases) has ∙ ap (λ (n : Counts). n.aliases) as_many;
      each = has_new;
    }

  pub all_have : (before now : List Tables) → AreHanded all [] before now → AllHaveNewIds parts b now
  all_have before now h i a t one two =
      let p = unmapped places (slice_get all i) (counts a) (sym (slice_get-map places all i) ∙ ap (λ l. slice_get l i) room ∙ slice_get-map counts parts i ∙ ap (option_map counts) one) in
      have_new i a one p.0 p.1 t (h.handed i p.0 t (omega arith) p.1 two)
