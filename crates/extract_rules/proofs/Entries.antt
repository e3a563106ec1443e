-- Entries by their names.
use Rattle.std.proofs.Common.{◌≡◌, ◌↔◌, ℕ, zero, suc, ◌<◌, Bool, true, false, ◌&&◌, ◌||◌, List, [], ◌∷◌, map, find, length, Option, Some, None, refl, sym, ap, ◌∙◌, subst, bytes_eq, is_some, slice_get, arith, if◌then◌else◌}
use Rattle.std.specs.Prelude.{IsSome, All, option_to_list}
use Rattle.std.specs.List.{AllByRecursion, list_any, list_all}
use Rattle.std.proofs.lemmas.Bool.{and_parts, both_ways}
use Rattle.std.proofs.lemmas.List.Elements.{recursion_from_All}
use Rattle.std.specs.Option.{option_map, option_map_or}
use Rattle.std.proofs.lemmas.Option.{same_Some, slice_get_within, slice_get-map, get_or_from_slice_get}
use Rattle.module_arena.specs.declared.entry.Alias as the_alias
use Rattle.module_arena.specs.declared.entry.Function as the_function
use Rattle.module_arena.specs.declared.entry.GlobalId.{GlobalId}
use Rattle.module_arena.specs.declared.entry.GlobalId.TheVariants as global
use Rattle.module_arena.specs.declared.entry.Variable as the_variable
use Rattle.ir_tables.specs.Table.{is_distinct}
use Rattle.module_arena.specs.Known.{AreDistinct, HasGlobal, IsGood, KnowsAlias, counts}
use Rattle.module_arena.specs.Names.{is_name}
use Rattle.module_arena.specs.WellFormed.{IsWellFormed, global_names, has_entry, is_good_alias}
use Rattle.module_arena.specs.Lists.{Lists, global_name, name_at}
use Rattle.module_arena.specs.Module.{Bytes, Variable, Alias, Function}
use Rattle.module_arena.specs.View.{module_of}
use Rattle.extract_rules.specs.Entries.{is_alias, is_function_with_body, is_variable_with_initialiser, target_or_own}
use Rattle.extract_rules.specs.Selected.{behind, defines_variable, defines_function, defines_alias}
use Rattle.extract_rules.proofs.Among.{name_self, name_exact, any_key, any_same}
use Rattle.module_arena.specs.View.{variable_view, alias_view, function_view, constants_of}
use Rattle.type_table.specs.Types.{trees}

-- ---- the one element of a name

module _ {X : Type 0} (key : X → Bytes) (test : X → Bool) (name : Bytes) where
  abbrev has : X → Bool
  has x = bytes_eq name (key x) && test x

  named_false : (x : X) → (key x ≡ name → ⊥) → bytes_eq name (key x) ≡ false
  named_false x bad = go (bytes_eq name (key x)) refl
    where
      go : (b : Bool) → bytes_eq name (key x) ≡ b → b ≡ false
      go true e = absurd (bad (sym (name_exact name (key x) e)))
      go false e = refl

  pub nowhere : (xs : List X) → ((j : ℕ) (y : X) → slice_get xs j ≡ Some y → key y ≡ name → ⊥) → list_any has xs ≡ false
  nowhere [] bad = refl
  nowhere (x ∷ xs) bad = ap (λ b. (b && test x) || list_any has xs) (named_false x (bad 0 x refl)) ∙ nowhere xs (λ j. bad (suc j))

  pub at_one : (xs : List X) (k : ℕ) (x : X) → slice_get xs k ≡ Some x → key x ≡ name → ((j : ℕ) (y : X) → slice_get xs j ≡ Some y → key y ≡ name → j ≡ k) → list_any has xs ≡ test x
  at_one [] k x at same one = cc
  at_one (y ∷ xs) zero x at same one =
      let here : bytes_eq name (key y) ≡ true = subst (λ z. bytes_eq name (key z) ≡ true) (sym (same_Some y x at)) (subst (λ z. bytes_eq name z ≡ true) (sym same) (name_self name)) in
      ap (λ b. (b && test y) || list_any has xs) here ∙ ap (λ b. test y || b) (nowhere xs (λ j z e s. let e2 : suc j ≡ 0 = one (suc j) z e s in omega (arith, e2))) ∙ right (test y) ∙ ap test (same_Some y x at)
    where
      right : (b : Bool) → (b || false) ≡ b
      right true = refl
      right false = refl
  at_one (y ∷ xs) (suc k) x at same one =
      ap (λ b. (b && test y) || list_any has xs) (named_false y (λ s. let e2 : 0 ≡ suc k = one 0 y refl s in omega (arith, e2)))
      ∙ at_one xs k x at same (λ j z e s. let e2 : suc j ≡ suc k = one (suc j) z e s in omega (arith, e2))

pub some_mapped : {A B : Type 0} (f : A → B) (o : Option A) → is_some (option_map f o) ≡ is_some o
some_mapped f None = refl
some_mapped f (Some x) = refl

pub unmapped : {A : Type 0} (f : A → Bytes) (o : Option A) (n : Bytes) → option_map f o ≡ Some n → (x : A) × (o ≡ Some x) × (f x ≡ n)
unmapped f None n e = cc
unmapped f (Some x) n e = (x, refl, same_Some (f x) n e)

-- what `lookup` tells
abbrev pub Looks : Lists → Bytes → Option GlobalId → Type 0
Looks a name o = (g : GlobalId) → (o ≡ Some g) ↔ (global_name a g ≡ Some name)

-- an entry of that name is there
pub name_known : (a : Lists) (g : GlobalId) (name : Bytes) → global_name a g ≡ Some name → HasGlobal (counts a) g
name_known a (global.Variable k) name e = let x = unmapped (λ v. v.name) (slice_get a.variables k) name e in slice_get_within a.variables k x.0 x.1
name_known a (global.Function k) name e = let x = unmapped (λ f. f.name) (slice_get a.functions k) name e in slice_get_within a.functions k x.0 x.1
name_known a (global.Alias k) name e = let x = unmapped (λ f. f.name) (slice_get a.aliases k) name e in slice_get_within a.aliases k x.0 x.1

pub found_known : (a : Lists) (name : Bytes) (o : Option GlobalId) (g : GlobalId) → Looks a name o → o ≡ Some g → HasGlobal (counts a) g
found_known a name o g looks e = name_known a g name ((looks g).0 e)

module _ (a : Lists) (name : Bytes) (o : Option GlobalId) (looks : Looks a name o) where
  -- ---- functions

  abbrev is_defined : the_function.Function → Bool
  is_defined f = is_some (function_view (trees a.table) (constants_of a) f).body

  function_any : defines_function (module_of a) name ≡ list_any (λ f. bytes_eq name f.name && is_defined f) a.functions
  unfolding module_of
  function_any = any_key (function_view (trees a.table) (constants_of a)) (λ (f : Function). bytes_eq name f.name && is_some f.body) a.functions

  function_id : (j : ℕ) (y : the_function.Function) → slice_get a.functions j ≡ Some y → y.name ≡ name → o ≡ Some (global.Function j)
  function_id j y at same = (looks (global.Function j)).1 (ap (option_map (λ f. f.name)) at ∙ ap Some same)

  pub function_defined : defines_function (module_of a) name ≡ option_map_or (is_function_with_body a) o false
  function_defined = function_any ∙ go o refl
    where
      by : (g : GlobalId) → o ≡ Some g → list_any (λ f. bytes_eq name f.name && is_defined f) a.functions ≡ is_function_with_body a g
      by (global.Variable k) e = nowhere (λ f. f.name) is_defined name a.functions (λ j y at same. let f = function_id j y at same in cc)
      by (global.Alias k) e = nowhere (λ f. f.name) is_defined name a.functions (λ j y at same. let f = function_id j y at same in cc)
      by (global.Function k) e =
          let x = unmapped (λ f. f.name) (slice_get a.functions k) name ((looks (global.Function k)).0 e) in
          at_one (λ f. f.name) is_defined name a.functions k x.0 x.1 x.2 (λ j y at same. let f = function_id j y at same in cc)
          ∙ some_mapped _ x.0.body ∙ ap (λ s. option_map_or (λ f. is_some f.body) s false) (sym x.1)

      go : (p : Option GlobalId) → o ≡ p → list_any (λ f. bytes_eq name f.name && is_defined f) a.functions ≡ option_map_or (is_function_with_body a) p false
      go None e = nowhere (λ f. f.name) is_defined name a.functions (λ j y at same. let f = function_id j y at same in cc)
      go (Some g) e = by g e

  -- ---- variables

  abbrev is_set : the_variable.Variable → Bool
  is_set v = is_some (variable_view (trees a.table) (constants_of a) v).initialiser

  variable_any : defines_variable (module_of a) name ≡ list_any (λ v. bytes_eq name v.name && is_set v) a.variables
  unfolding module_of
  variable_any = any_key (variable_view (trees a.table) (constants_of a)) (λ (v : Variable). bytes_eq name v.name && is_some v.initialiser) a.variables

  variable_id : (j : ℕ) (y : the_variable.Variable) → slice_get a.variables j ≡ Some y → y.name ≡ name → o ≡ Some (global.Variable j)
  variable_id j y at same = (looks (global.Variable j)).1 (ap (option_map (λ v. v.name)) at ∙ ap Some same)

  pub variable_defined : defines_variable (module_of a) name ≡ option_map_or (is_variable_with_initialiser a) o false
  variable_defined = variable_any ∙ go o refl
    where
      by : (g : GlobalId) → o ≡ Some g → list_any (λ v. bytes_eq name v.name && is_set v) a.variables ≡ is_variable_with_initialiser a g
      by (global.Function k) e = nowhere (λ v. v.name) is_set name a.variables (λ j y at same. let f = variable_id j y at same in cc)
      by (global.Alias k) e = nowhere (λ v. v.name) is_set name a.variables (λ j y at same. let f = variable_id j y at same in cc)
      by (global.Variable k) e =
          let x = unmapped (λ v. v.name) (slice_get a.variables k) name ((looks (global.Variable k)).0 e) in
          at_one (λ v. v.name) is_set name a.variables k x.0 x.1 x.2 (λ j y at same. let f = variable_id j y at same in cc)
          ∙ some_mapped _ x.0.initialiser ∙ ap (λ s. option_map_or (λ v. is_some v.initialiser) s false) (sym x.1)

      go : (p : Option GlobalId) → o ≡ p → list_any (λ v. bytes_eq name v.name && is_set v) a.variables ≡ option_map_or (is_variable_with_initialiser a) p false
      go None e = nowhere (λ v. v.name) is_set name a.variables (λ j y at same. let f = variable_id j y at same in cc)
      go (Some g) e = by g e

  -- ---- aliases

  abbrev is_there : the_alias.Alias → Bool
  is_there x = true

  alias_any : defines_alias (module_of a) name ≡ list_any (λ x. bytes_eq name x.name && is_there x) a.aliases
  unfolding module_of
  alias_any = any_key (alias_view (trees a.table) (name_at a)) (λ (x : Alias). bytes_eq name x.name) a.aliases ∙ any_same (λ (x : the_alias.Alias). bytes_eq name x.name) (λ x. bytes_eq name x.name && is_there x) a.aliases (λ x. right (bytes_eq name x.name))
    where
      right : (b : Bool) → b ≡ (b && true)
      right true = refl
      right false = refl

  pub alias_id : (j : ℕ) (y : the_alias.Alias) → slice_get a.aliases j ≡ Some y → y.name ≡ name → o ≡ Some (global.Alias j)
  alias_id j y at same = (looks (global.Alias j)).1 (ap (option_map (λ x. x.name)) at ∙ ap Some same)

  pub alias_defined : defines_alias (module_of a) name ≡ option_map_or is_alias o false
  alias_defined = alias_any ∙ go o refl
    where
      by : (g : GlobalId) → o ≡ Some g → list_any (λ x. bytes_eq name x.name && is_there x) a.aliases ≡ is_alias g
      by (global.Function k) e = nowhere (λ x. x.name) is_there name a.aliases (λ j y at same. let f = alias_id j y at same in cc)
      by (global.Variable k) e = nowhere (λ x. x.name) is_there name a.aliases (λ j y at same. let f = alias_id j y at same in cc)
      by (global.Alias k) e =
          let x = unmapped (λ x. x.name) (slice_get a.aliases k) name ((looks (global.Alias k)).0 e) in
          at_one (λ x. x.name) is_there name a.aliases k x.0 x.1 x.2 (λ j y at same. let f = alias_id j y at same in cc)

      go : (p : Option GlobalId) → o ≡ p → list_any (λ x. bytes_eq name x.name && is_there x) a.aliases ≡ option_map_or is_alias p false
      go None e = nowhere (λ x. x.name) is_there name a.aliases (λ j y at same. let f = alias_id j y at same in cc)
      go (Some g) e = by g e

-- ---- ids

pub all_get : {A : Type 0} (P : A → Type 0) (xs : List A) (k : ℕ) (x : A) → All P xs → slice_get xs k ≡ Some x → P x
all_get P xs k x h e = go xs k (recursion_from_All P xs h) e
  where
    go : (ys : List _) (j : ℕ) → AllByRecursion P ys → slice_get ys j ≡ Some x → P x
    go [] j a e = cc
    go (y ∷ ys) zero a e = subst P (same_Some y x e) a.0
    go (y ∷ ys) (suc j) a e = go ys j a.1 e

pub get_within : {A : Type 0} (xs : List A) (k : ℕ) → k < length xs → (x : A) × (slice_get xs k ≡ Some x)
get_within [] k h = absurd (omega (arith, h))
get_within (x ∷ xs) zero h = (x, refl)
get_within (x ∷ xs) (suc k) h = get_within xs k (omega (arith, h))

-- the entry with an id has the name that its id has
named : (a : Lists) (g : GlobalId) → HasGlobal (counts a) g → global_name a g ≡ Some (name_at a g)
named a (global.Variable k) h = let x = get_within a.variables k h in ap (option_map (λ v. v.name)) x.1 ∙ ap Some (sym (get_or_from_slice_get (map (λ v. v.name) a.variables) k x.0.name [] (slice_get-map (λ v. v.name) a.variables k ∙ ap (option_map (λ v. v.name)) x.1)))
named a (global.Function k) h = let x = get_within a.functions k h in ap (option_map (λ v. v.name)) x.1 ∙ ap Some (sym (get_or_from_slice_get (map (λ v. v.name) a.functions) k x.0.name [] (slice_get-map (λ v. v.name) a.functions k ∙ ap (option_map (λ v. v.name)) x.1)))
named a (global.Alias k) h = let x = get_within a.aliases k h in ap (option_map (λ v. v.name)) x.1 ∙ ap Some (sym (get_or_from_slice_get (map (λ v. v.name) a.aliases) k x.0.name [] (slice_get-map (λ v. v.name) a.aliases k ∙ ap (option_map (λ v. v.name)) x.1)))

-- ---- what an alias is of

module _ {X : Type 0} (key : X → Bytes) (name : Bytes) where
  find_nowhere : (xs : List X) → ((j : ℕ) (y : X) → slice_get xs j ≡ Some y → key y ≡ name → ⊥) → find (λ x. bytes_eq name (key x)) xs ≡ None
  find_nowhere [] bad = refl
  find_nowhere (x ∷ xs) bad = ap (λ b. if b then Some x else find (λ x. bytes_eq name (key x)) xs) (named_false key (λ y. true) name x (bad 0 x refl)) ∙ find_nowhere xs (λ j. bad (suc j))

  find_one : (xs : List X) (k : ℕ) (x : X) → slice_get xs k ≡ Some x → key x ≡ name → ((j : ℕ) (y : X) → slice_get xs j ≡ Some y → key y ≡ name → j ≡ k) → find (λ x. bytes_eq name (key x)) xs ≡ Some x
  find_one [] k x at same one = cc
  find_one (y ∷ xs) zero x at same one =
      let here : bytes_eq name (key y) ≡ true = subst (λ z. bytes_eq name (key z) ≡ true) (sym (same_Some y x at)) (subst (λ z. bytes_eq name z ≡ true) (sym same) (name_self name)) in
      ap (λ b. if b then Some y else find (λ x. bytes_eq name (key x)) xs) here ∙ at
  find_one (y ∷ xs) (suc k) x at same one =
      ap (λ b. if b then Some y else find (λ x. bytes_eq name (key x)) xs) (named_false key (λ z. true) name y (λ s. let e2 : 0 ≡ suc k = one 0 y refl s in omega (arith, e2)))
      ∙ find_one xs k x at same (λ j z e s. let e2 : suc j ≡ suc k = one (suc j) z e s in omega (arith, e2))

find_mapped : {A B : Type 0} (f : A → B) (test : B → Bool) (xs : List A) → find test (map f xs) ≡ option_map f (find (λ x. test (f x)) xs)
find_mapped f test [] = refl
find_mapped {A = A} {B = B} f test (x ∷ xs) = go (test (f x)) (find_mapped f test xs)
  where
    go : (b : Bool) → find test (map f xs) ≡ option_map f (find (λ x. test (f x)) xs) → (if b then Some (f x) else find test (map f xs)) ≡ option_map f (if b then Some x else find (λ x. test (f x)) xs)
    go true e = refl
    go false e = e

pub name_is : (a : Lists) (g : GlobalId) (name : Bytes) → global_name a g ≡ Some name → name_at a g ≡ name
name_is a (global.Variable n) name h = get_or_from_slice_get (map (λ v. v.name) a.variables) n name [] (slice_get-map (λ v. v.name) a.variables n ∙ h)
name_is a (global.Function n) name h = get_or_from_slice_get (map (λ f. f.name) a.functions) n name [] (slice_get-map (λ f. f.name) a.functions n ∙ h)
name_is a (global.Alias n) name h = get_or_from_slice_get (map (λ x. x.name) a.aliases) n name [] (slice_get-map (λ x. x.name) a.aliases n ∙ h)

module _ (a : Lists) (name : Bytes) (o : Option GlobalId) (looks : Looks a name o) where
  target_name : the_alias.Alias → Bytes
  target_name x = option_map_or (name_at a) x.target []

  found : Option the_alias.Alias
  found = find (λ x. bytes_eq name x.name) a.aliases

  behind_any : behind (module_of a) name ≡ option_map_or (λ x. option_map_or (name_at a) x.target []) (find (λ x. bytes_eq name x.name) a.aliases) name
  unfolding module_of
  behind_any = ap (λ p. option_map_or (λ (y : Alias). y.target) p name) (find_mapped (alias_view (trees a.table) (name_at a)) (λ (y : Alias). bytes_eq name y.name) a.aliases) ∙ go (find (λ x. bytes_eq name x.name) a.aliases)
    where
      go : (p : Option the_alias.Alias) → option_map_or (λ (y : Alias). y.target) (option_map (alias_view (trees a.table) (name_at a)) p) name ≡ option_map_or (λ x. option_map_or (name_at a) x.target []) p name
      go None = refl
      go (Some x) = refl

  -- a name that is no alias's stays
  pub behind_found : behind (module_of a) name ≡ option_map_or (target_or_own a) o name
  behind_found = behind_any ∙ go o refl
    where
      nothing : ((j : ℕ) (y : the_alias.Alias) → slice_get a.aliases j ≡ Some y → y.name ≡ name → ⊥) → option_map_or (λ x. option_map_or (name_at a) x.target []) (find (λ x. bytes_eq name x.name) a.aliases) name ≡ name
      nothing bad = ap (λ p. option_map_or (λ x. option_map_or (name_at a) x.target []) p name) (find_nowhere (λ x. x.name) name a.aliases bad)

      by : (g : GlobalId) → o ≡ Some g → option_map_or (λ x. option_map_or (name_at a) x.target []) (find (λ x. bytes_eq name x.name) a.aliases) name ≡ target_or_own a g
      by (global.Variable k) e = nothing (λ j y at same. let f = alias_id a name o looks j y at same in cc) ∙ sym (name_is a (global.Variable k) name ((looks (global.Variable k)).0 e))
      by (global.Function k) e = nothing (λ j y at same. let f = alias_id a name o looks j y at same in cc) ∙ sym (name_is a (global.Function k) name ((looks (global.Function k)).0 e))
      by (global.Alias k) e =
          let x = unmapped (λ x. x.name) (slice_get a.aliases k) name ((looks (global.Alias k)).0 e) in
          ap (λ p. option_map_or (λ x. option_map_or (name_at a) x.target []) p name) (find_one (λ x. x.name) name a.aliases k x.0 x.1 x.2 (λ j y at same. let f = alias_id a name o looks j y at same in cc))
          ∙ ap (λ p. option_map_or (λ x. option_map_or (name_at a) x.target []) p []) (sym x.1)

      go : (p : Option GlobalId) → o ≡ p → option_map_or (λ x. option_map_or (name_at a) x.target []) (find (λ x. bytes_eq name x.name) a.aliases) name ≡ option_map_or (target_or_own a) p name
      go None e = nothing (λ j y at same. let f = alias_id a name o looks j y at same in cc)
      go (Some g) e = by g e

-- where no two entries have one name, the one of a name is what `lookup` would tell
pub looks_at : (a : Lists) → AreDistinct a → (g : GlobalId) → HasGlobal (counts a) g → Looks a (name_at a g) (Some g)
looks_at a distinct g known h = ((λ e. subst (λ z. global_name a z ≡ Some (name_at a g)) (same_Some g h e) (named a g known)), (λ e. ap Some (distinct (name_at a g) g h (named a g known) e)))

-- ---- targets

-- no name is empty
none_empty : (names : List Bytes) → list_all is_name names ≡ true → list_any (bytes_eq []) names ≡ false
none_empty [] h = refl
none_empty ([] ∷ names) h = cc
none_empty ((b ∷ bs) ∷ names) h = none_empty names (and_parts (is_name (b ∷ bs)) (list_all is_name names) h).1

all_at : {A : Type 0} (p : A → Bool) (xs : List A) (k : ℕ) (x : A) → list_all p xs ≡ true → slice_get xs k ≡ Some x → p x ≡ true
all_at p [] k x h e = cc
all_at p (y ∷ xs) zero x h e = subst (λ z. p z ≡ true) (same_Some y x e) (and_parts (p y) (list_all p xs) h).0
all_at p (y ∷ xs) (suc k) x h e = all_at p xs k x (and_parts (p y) (list_all p xs) h).1 e

alias_in : (a : Lists) (n : ℕ) (x : the_alias.Alias) → slice_get a.aliases n ≡ Some x → slice_get (module_of a).aliases n ≡ Some (alias_view (trees a.table) (name_at a) x)
unfolding module_of
alias_in a n x h = slice_get-map (alias_view (trees a.table) (name_at a)) a.aliases n ∙ ap (option_map (alias_view (trees a.table) (name_at a))) h

-- an alias has a target
target_there : (a : Lists) → IsWellFormed (module_of a) → (n : ℕ) (x : the_alias.Alias) → slice_get a.aliases n ≡ Some x → x.target ≡ None → ⊥
target_there a w n x h none =
    both_ways (has_entry (module_of a) (option_map_or (name_at a) x.target []))
    (ap (λ o. has_entry (module_of a) (option_map_or (name_at a) o [])) none ∙ none_empty (global_names (module_of a)) (and_parts _ (is_distinct bytes_eq (global_names (module_of a))) w.global_names).0)
    (and_parts _ _ (all_at (is_good_alias (module_of a)) (module_of a).aliases n _ w.aliases (alias_in a n x h))).1

pub some_target : (a : Lists) → IsWellFormed (module_of a) → (n : ℕ) (x : the_alias.Alias) → slice_get a.aliases n ≡ Some x → IsSome x.target
some_target a w n x h = by x.target refl
  where
    by : (o : Option GlobalId) → x.target ≡ o → IsSome o
    by None e = absurd (target_there a w n x h e)
    by (Some g) e = refl

-- the target is an entry of the arena
pub known_target : (a : Lists) → IsGood a → (n : ℕ) (x : the_alias.Alias) (g : GlobalId) → slice_get a.aliases n ≡ Some x → x.target ≡ Some g → HasGlobal (counts a) g
known_target a good n x g h e =
    all_get (HasGlobal (counts a)) (option_to_list x.target) 0 g (all_get (KnowsAlias (length a.table.types) (counts a)) a.aliases n x good.aliases h).target_known (ap (λ (o : Option GlobalId). slice_get (option_to_list o) 0) e)

pub target_is : (a : Lists) (n : ℕ) (x : the_alias.Alias) (g : GlobalId) (name : Bytes) → slice_get a.aliases n ≡ Some x → x.target ≡ Some g → global_name a g ≡ Some name → name ≡ target_or_own a (global.Alias n)
target_is a n x g name at target named =
    sym (name_is a g name named) ∙ ap (λ o. option_map_or (name_at a) o []) (sym target) ∙ ap (λ o. option_map_or (λ (y : the_alias.Alias). option_map_or (name_at a) y.target []) o []) (sym at)

pub none_from : {A : Type 0} (o : Option A) → ((x : A) → o ≡ Some x → ⊥) → o ≡ None
none_from None h = refl
none_from (Some x) h = absurd (h x refl)
