-- What kept definitions name has new ids: each such name is among the kept names, and no entry of such a name is left out.
use Rattle.std.proofs.Common.{◌≡◌, ℕ, zero, suc, Bool, true, false, List, [], ◌∷◌, map, filter, flat_map, slice_get, Some, refl, sym, ap, ◌∙◌, subst, bytes_eq, cond, All}
use Rattle.std.specs.Option.{option_map}
use Rattle.std.proofs.lemmas.Bool.{or_left, or_right}
use Rattle.std.proofs.lemmas.List.Elements.{All-cons, All-nil}
use Rattle.std.proofs.lemmas.Option.{same_Some, slice_get-map}
use Rattle.type_table.specs.Types.{trees}
use Rattle.module_arena.specs.declared.entry.Alias as the_alias
use Rattle.module_arena.specs.declared.entry.Function as the_function
use Rattle.module_arena.specs.declared.entry.Variable as the_variable
use Rattle.module_arena.specs.declared.entry.GlobalId.TheVariants as global
use Rattle.module_arena.specs.Functions.{variable_names, alias_names, function_names}
use Rattle.module_arena.specs.Lists.{Lists, name_at}
use Rattle.module_arena.specs.Module.{Bytes, Variable, Alias, Function, Module}
use Rattle.module_arena.specs.UsedNames.{names_in_variable, names_in_function}
use Rattle.module_arena.specs.View.{module_of, constants_of, variable_view, alias_view, function_view}
use Rattle.entry_copy.specs.Copies.{HasNew}
use Rattle.entry_copy.specs.Tables.{Tables}
use Rattle.extract_rules.specs.declared.selection.Selection.{Selection}
use Rattle.extract_rules.specs.Selected.{is_among, keeps_variable, keeps_function, keeps_alias}
use Rattle.extract_rules.specs.Extracted.{kept_names}
use Rattle.extract_rules.proofs.Among.{name_self, among_front, among_back}
use Rattle.extract_core.specs.declared.fates.fates.Fate.{Fate}
use Rattle.extract_core.specs.declared.fates.fates.Fate.TheVariants.{Kept, LeftOut}
use Rattle.extract_core.specs.declared.fates.fates.Fates.{Fates}
use Rattle.extract_core.specs.Fates.Fates.{AreFates, fate_of, variable_fate, function_fate}
use Rattle.extract_core.specs.Entries.NewIds.{HaveNewIds}
use Rattle.extract_core.proofs.OnEntries.NewIds.{id_there}

-- ---- fates

pub not_left : (b c : Bool) → c ≡ true → fate_of b c ≡ LeftOut → ⊥
not_left true c named e = cc
not_left false true named e = cc
not_left false false named e = cc

pub is_kept : (b c : Bool) → fate_of b c ≡ Kept → b ≡ true
is_kept true c e = refl
is_kept false true e = cc
is_kept false false e = cc

-- an entry of a name that is among these is not left out
module _ {X Y : Type 0} (view : X → Y) (name : Y → Bytes) (own : X → Bytes) (same : (x : X) → name (view x) ≡ own x) (kept : Y → Bool) (names : List Bytes) where
  abbrev fate : Y → Fate
  fate y = fate_of (kept y) (is_among names (name y))

  pub stays : (xs : List X) (k : ℕ) (called : Bytes) → option_map own (slice_get xs k) ≡ Some called → is_among names called ≡ true
      → (f : Fate) × (slice_get (map fate (map view xs)) k ≡ Some f) × (f ≡ LeftOut → ⊥)
  stays [] k called e among = cc
  stays (x ∷ xs) zero called e among =
      (fate (view x), refl, not_left (kept (view x)) (is_among names (name (view x))) (ap (is_among names) (same x ∙ same_Some (own x) called e) ∙ among))
  stays (x ∷ xs) (suc k) called e among = stays xs k called e among

-- ---- names

-- each of these names is among those
all_among : (P : Bytes → Type 0) (names : List Bytes) → ((name : Bytes) → is_among names name ≡ true → P name) → All P names
all_among P [] each = All-nil P
all_among P (name ∷ names) each =
    All-cons P name names (each name (or_left (bytes_eq name name) (is_among names name) (name_self name))) (all_among P names (λ n h. each n (or_right (bytes_eq n name) (is_among names n) h)))

-- what is named in an element that passes a test is named in all of those that pass
gathered : {X : Type 0} (test : X → Bool) (named : X → List Bytes) (xs : List X) (k : ℕ) (x : X) (name : Bytes)
    → slice_get xs k ≡ Some x → test x ≡ true → is_among (named x) name ≡ true → is_among (flat_map named (filter test xs)) name ≡ true
gathered test named [] k x name at passes h = cc
gathered {X = X} test named (y ∷ ys) zero x name at passes h = go (test y) (ap test (same_Some y x at) ∙ passes)
  where
    go : (b : Bool) → b ≡ true → is_among (flat_map named (cond b (y ∷ filter test ys) (filter test ys))) name ≡ true
    go true e = among_front (named y) (flat_map named (filter test ys)) name (subst (λ z. is_among (named z) name ≡ true) (sym (same_Some y x at)) h)
    go false e = cc
gathered {X = X} test named (y ∷ ys) (suc k) x name at passes h = go (test y) (gathered test named ys k x name at passes h)
  where
    go : (b : Bool) → is_among (flat_map named (filter test ys)) name ≡ true → is_among (flat_map named (cond b (y ∷ filter test ys) (filter test ys))) name ≡ true
    go true more = among_back (named y) (flat_map named (filter test ys)) name more
    go false more = more

module _ (a : Lists) (s : Selection) (fates : Fates) (are : AreFates (module_of a) s fates) where
  -- ---- a name that a kept definition has in it has a new id

  pub has_new : (b : Lists) (t : Tables) → HaveNewIds a fates b t → (name : Bytes) → is_among (kept_names (module_of a) s) name ≡ true → HasNew a t name
  unfolding module_of
  has_new b t ids name among (global.Variable k) e =
      let f = stays (variable_view (trees a.table) (constants_of a)) (λ (v : Variable). v.name) (λ (v : the_variable.Variable). v.name) (λ v. refl) (keeps_variable (module_of a) s) (kept_names (module_of a) s) a.variables k name e among in
      id_there b (variable_names (module_of a)) fates.variables t.variables k f.0 ids.variables (ap (λ l. slice_get l k) are.variables ∙ f.1) f.2
  has_new b t ids name among (global.Function k) e =
      let f = stays (function_view (trees a.table) (constants_of a)) (λ (g : Function). g.name) (λ (g : the_function.Function). g.name) (λ g. refl) (keeps_function (module_of a) s) (kept_names (module_of a) s) a.functions k name e among in
      id_there b (function_names (module_of a)) fates.functions t.functions k f.0 ids.functions (ap (λ l. slice_get l k) are.functions ∙ f.1) f.2
  has_new b t ids name among (global.Alias k) e =
      let f = stays (alias_view (trees a.table) (name_at a)) (λ (x : Alias). x.name) (λ (x : the_alias.Alias). x.name) (λ x. refl) (keeps_alias (module_of a) s) (kept_names (module_of a) s) a.aliases k name e among in
      id_there b (alias_names (module_of a)) fates.aliases t.aliases k f.0 ids.aliases (ap (λ l. slice_get l k) are.aliases ∙ f.1) f.2

  -- ---- what a kept variable, and what a kept function names

  abbrev m : Module
  m = module_of a

  fate_at : {Y : Type 0} (fate : Y → Fate) (ys : List Y) (found : List Fate) (k : ℕ) (y : Y) (f : Fate) → found ≡ map fate ys → slice_get ys k ≡ Some y → slice_get found k ≡ Some f → fate y ≡ f
  fate_at fate ys found k y f all at is = same_Some (fate y) f (sym (ap (option_map fate) at) ∙ sym (slice_get-map fate ys k) ∙ sym (ap (λ l. slice_get l k) all) ∙ is)

  pub variable_named : (b : Lists) (t : Tables) → HaveNewIds a fates b t → (k : ℕ) (v : Variable) (f : Fate) → slice_get m.variables k ≡ Some v → slice_get fates.variables k ≡ Some f → f ≡ Kept → All (HasNew a t) (names_in_variable v)
  variable_named b t ids k v f at is kept =
      let stays = is_kept (keeps_variable m s v) _ (fate_at (variable_fate m s) m.variables fates.variables k v f are.variables at is ∙ kept) in
      all_among (HasNew a t) (names_in_variable v)
      (λ name h. has_new b t ids name (among_front (flat_map names_in_variable (filter (keeps_variable m s) m.variables)) _ name (gathered (keeps_variable m s) names_in_variable m.variables k v name at stays h)))

  pub function_named : (b : Lists) (t : Tables) → HaveNewIds a fates b t → (k : ℕ) (g : Function) (f : Fate) → slice_get m.functions k ≡ Some g → slice_get fates.functions k ≡ Some f → f ≡ Kept → All (HasNew a t) (names_in_function g)
  function_named b t ids k g f at is kept =
      let stays = is_kept (keeps_function m s g) _ (fate_at (function_fate m s) m.functions fates.functions k g f are.functions at is ∙ kept) in
      all_among (HasNew a t) (names_in_function g)
      (λ name h. has_new b t ids name (among_back (flat_map names_in_variable (filter (keeps_variable m s) m.variables)) _ name (gathered (keeps_function m s) names_in_function m.functions k g name at stays h)))
