-- The entries that a name of the arena finds in the module.
use Rattle.std.proofs.Common.{◌≡◌, ℕ, suc, ◌<◌, false, ◌&&◌, ◌||◌, List, [], ◌∷◌, map, length, slice_get, All, Option, Some, None, refl, sym, ap, ◌∙◌, subst, arith, bytes_eq, true≢false}
use Rattle.std.specs.Prelude.{is_none, is_some}
use Rattle.std.specs.List.{list_any}
use Rattle.std.specs.Option.{option_map}
use Rattle.std.specs.Cmp.Lexicographic.{bytes_decides}
use Rattle.std.proofs.lemmas.Bool.{false_from_ne_true}
use Rattle.std.proofs.lemmas.List.{length-map}
use Rattle.std.proofs.lemmas.List.Elements.{All-head}
use Rattle.std.proofs.lemmas.Option.{none-some, same_Some, slice_get-map, slice_get-get_or, slice_get_within, get_or_from_slice_get}
use Rattle.ir_base.specs.Name.{IsName, is_name}
use Rattle.module_arena.specs.Changes.{variable_in, alias_in, function_in}
use Rattle.module_arena.specs.EntryRules.{has_function, has_alias_of_function, is_lasting, is_lasting_variable, is_lasting_function}
use Rattle.module_arena.specs.Known.{HasGlobal, counts, AreDistinct, IsGood, KnowsVariable, KnowsAlias, KnowsFunction}
use Rattle.module_arena.specs.Lists.{Lists, name_at, global_name}
use Rattle.module_arena.specs.Module as modules
use Rattle.module_arena.specs.Module.{Bytes}
use Rattle.module_arena.specs.View.{module_of}
use Rattle.module_arena.specs.declared.entry.Variable as the_variable
use Rattle.module_arena.specs.declared.entry.Alias as the_alias
use Rattle.module_arena.specs.declared.entry.Function as the_function
use Rattle.module_arena.specs.declared.entry.GlobalId.{GlobalId}
use Rattle.module_arena.specs.declared.entry.GlobalId.TheVariants as global
use Rattle.entry_verify.proofs.OnConstants.FunctionNames.{name_is}
use Rattle.entry_verify.specs.Entries.Readings.{KnowsTarget, target_name}
use Rattle.entry_verify.proofs.OnEntries.NamesTold.{not_found, found_once}

pub some-map : {A B : Type 0} (f : A → B) (o : Option A) → is_some o ≡ is_some (option_map f o)
some-map f None = refl
some-map f (Some x) = refl

pub none-map : {A B : Type 0} (f : A → B) (o : Option A) → is_none o ≡ is_none (option_map f o)
none-map f None = refl
none-map f (Some x) = refl

-- what an id says: of which kind it is, and which number it has
abbrev pub kind : GlobalId → ℕ
kind (global.Variable id) = 0
kind (global.Function id) = 1
kind (global.Alias id) = 2

abbrev number : GlobalId → ℕ
number (global.Variable id) = id
number (global.Function id) = id
number (global.Alias id) = id

-- the name of an element that is seen in another way
named_before : {A B : Type 0} (f : A → B) (before : A → Bytes) (after : B → Bytes) → ((x : A) → after (f x) ≡ before x)
    → (xs : List A) (i : ℕ) (y : B) (n : Bytes) → slice_get (map f xs) i ≡ Some y → after y ≡ n → option_map before (slice_get xs i) ≡ Some n
named_before f before after same xs i y n at e = by (slice_get xs i) (sym (slice_get-map f xs i) ∙ at)
  where
    by : (o : Option _) → option_map f o ≡ Some y → option_map before o ≡ Some n
    by None h = absurd (none-some y h)
    by (Some x) h = ap Some (sym (same x) ∙ ap after (same_Some (f x) y h) ∙ e)

-- a name is not empty
no_empty : {A : Type 0} (name : A → Bytes) (xs : List A) (i : ℕ) → All (λ (x : A). IsName (name x)) xs → option_map name (slice_get xs i) ≡ Some [] → ⊥
no_empty name xs i all e = by (slice_get xs i) refl e
  where
    by : (o : Option _) → slice_get xs i ≡ o → option_map name o ≡ Some [] → ⊥
    by None at h = none-some [] h
    by (Some x) at h =
        let named = subst (λ y. IsName (name y)) (get_or_from_slice_get xs i x x at) (all i x (slice_get_within xs i x at)) in
        true≢false (sym named ∙ ap is_name (same_Some (name x) [] h))

-- no name is empty
no_name : (ns : List Bytes) → ((i : ℕ) (n : Bytes) → slice_get ns i ≡ Some n → n ≡ [] → ⊥) → false ≡ list_any (bytes_eq []) ns
no_name [] other = refl
no_name (n ∷ ns) other =
    no_name ns (λ i m at e. other (suc i) m at e)
    ∙ sym (ap (λ b. b || list_any (bytes_eq []) ns) (false_from_ne_true (bytes_eq [] n) (λ e. other 0 n refl (sym ((bytes_decides [] n).0 e)))))

module _ (a : Lists) where
  variable_named : (i : ℕ) (v : modules.Variable) (n : Bytes) → slice_get (map (variable_in a) a.variables) i ≡ Some v → v.name ≡ n → global_name a (global.Variable i) ≡ Some n
  variable_named i v n at e = named_before (variable_in a) (λ (x : the_variable.Variable). x.name) (λ (x : modules.Variable). x.name) (λ x. refl) a.variables i v n at e

  function_named : (i : ℕ) (f : modules.Function) (n : Bytes) → slice_get (map (function_in a) a.functions) i ≡ Some f → f.name ≡ n → global_name a (global.Function i) ≡ Some n
  function_named i f n at e = named_before (function_in a) (λ (x : the_function.Function). x.name) (λ (x : modules.Function). x.name) (λ x. refl) a.functions i f n at e

  alias_named : (i : ℕ) (x : modules.Alias) (n : Bytes) → slice_get (map (alias_in a) a.aliases) i ≡ Some x → x.name ≡ n → global_name a (global.Alias i) ≡ Some n
  alias_named i x n at e = named_before (alias_in a) (λ (y : the_alias.Alias). y.name) (λ (y : modules.Alias). y.name) (λ y. refl) a.aliases i x n at e

  -- an entry that is there has the name that it is asked for
  name_there : (g : GlobalId) → HasGlobal (counts a) g → global_name a g ≡ Some (name_at a g)
  name_there (global.Variable id) h =
      let f = λ (v : the_variable.Variable). v.name in
      sym (slice_get-map f a.variables id) ∙ slice_get-get_or (map f a.variables) id [] (omega (arith, h, length-map a.variables f))
  name_there (global.Function id) h =
      let f = λ (v : the_function.Function). v.name in
      sym (slice_get-map f a.functions id) ∙ slice_get-get_or (map f a.functions) id [] (omega (arith, h, length-map a.functions f))
  name_there (global.Alias id) h =
      let f = λ (v : the_alias.Alias). v.name in
      sym (slice_get-map f a.aliases id) ∙ slice_get-get_or (map f a.aliases) id [] (omega (arith, h, length-map a.aliases f))

  -- the function of the module has the name of that of the arena
  pub own_name : (id : ℕ) (g : the_function.Function) (f : modules.Function) → slice_get a.functions id ≡ Some g → slice_get (module_of a).functions id ≡ Some f → g.name ≡ f.name
  unfolding module_of
  own_name id g f here there =
      ap (λ (x : modules.Function). x.name) (same_Some (function_in a g) f (sym (slice_get-map (function_in a) a.functions id ∙ ap (option_map (function_in a)) here) ∙ there))

  -- what an alias is of is there
  pub target_known : (target : Option GlobalId) (g : GlobalId) → KnowsTarget a target → target ≡ Some g → HasGlobal (counts a) g
  target_known target g known e = All-head (HasGlobal (counts a)) g [] (subst (λ o. KnowsTarget a o) e known)

  -- the entries of the module are those of the arena
  pub variable_at : (id : ℕ) (x : the_variable.Variable) → slice_get a.variables id ≡ Some x → slice_get (module_of a).variables id ≡ Some (variable_in a x)
  unfolding module_of
  variable_at id x at = slice_get-map (variable_in a) a.variables id ∙ ap (option_map (variable_in a)) at

  pub alias_at : (id : ℕ) (x : the_alias.Alias) → slice_get a.aliases id ≡ Some x → slice_get (module_of a).aliases id ≡ Some (alias_in a x)
  unfolding module_of
  alias_at id x at = slice_get-map (alias_in a) a.aliases id ∙ ap (option_map (alias_in a)) at

  pub function_at : (id : ℕ) (x : the_function.Function) → slice_get a.functions id ≡ Some x → slice_get (module_of a).functions id ≡ Some (function_in a x)
  unfolding module_of
  function_at id x at = slice_get-map (function_in a) a.functions id ∙ ap (option_map (function_in a)) at

  -- as many entries
  pub so_many_variables : length (module_of a).variables ≡ length a.variables
  unfolding module_of
  so_many_variables = length-map a.variables (variable_in a)

  pub so_many_aliases : length (module_of a).aliases ≡ length a.aliases
  unfolding module_of
  so_many_aliases = length-map a.aliases (alias_in a)

  -- what is known of each
  pub variable_known : IsGood a → (id : ℕ) (x : the_variable.Variable) → slice_get a.variables id ≡ Some x → KnowsVariable (length a.table.types) (length a.constants) x
  variable_known good id x at =
      subst (KnowsVariable (length a.table.types) (length a.constants)) (get_or_from_slice_get a.variables id x x at) (good.variables id x (slice_get_within a.variables id x at))

  pub alias_known : IsGood a → (id : ℕ) (x : the_alias.Alias) → slice_get a.aliases id ≡ Some x → KnowsAlias (length a.table.types) (counts a) x
  alias_known good id x at =
      subst (KnowsAlias (length a.table.types) (counts a)) (get_or_from_slice_get a.aliases id x x at) (good.aliases id x (slice_get_within a.aliases id x at))

  pub function_known : IsGood a → (id : ℕ) (x : the_function.Function) → slice_get a.functions id ≡ Some x → KnowsFunction (length a.table.types) (length a.constants) x
  function_known good id x at =
      subst (KnowsFunction (length a.table.types) (length a.constants)) (get_or_from_slice_get a.functions id x x at) (good.functions id x (slice_get_within a.functions id x at))

  module _ (distinct : AreDistinct a) where
    other_kind : (g h : GlobalId) (n : Bytes) → global_name a g ≡ Some n → HasGlobal (counts a) h → n ≡ name_at a h → (kind g ≡ kind h → ⊥) → ⊥
    other_kind g h n at there e differ = differ (ap kind (distinct n g h at (name_there h there ∙ ap Some (sym e))))

    one_number : (g h : GlobalId) (n : Bytes) → global_name a g ≡ Some n → HasGlobal (counts a) h → n ≡ name_at a h → number g ≡ number h
    one_number g h n at there e = ap number (distinct n g h at (name_there h there ∙ ap Some (sym e)))

    same_variable : (i id : ℕ) (n : Bytes) → global_name a (global.Variable i) ≡ Some n → id < length a.variables → n ≡ name_at a (global.Variable id) → i ≡ id
    same_variable i id n at there e = one_number (global.Variable i) (global.Variable id) n at there e

    same_function : (i id : ℕ) (n : Bytes) → global_name a (global.Function i) ≡ Some n → id < length a.functions → n ≡ name_at a (global.Function id) → i ≡ id
    same_function i id n at there e = one_number (global.Function i) (global.Function id) n at there e

    same_alias : (i id : ℕ) (n : Bytes) → global_name a (global.Alias i) ≡ Some n → id < length a.aliases → n ≡ name_at a (global.Alias id) → i ≡ id
    same_alias i id n at there e = one_number (global.Alias i) (global.Alias id) n at there e

    -- ---- variables

    pub variable_found : (id : ℕ) (x : the_variable.Variable) → slice_get a.variables id ≡ Some x
        → (is_some x.initialiser && is_lasting x.linkage) ≡ list_any (is_lasting_variable (name_at a (global.Variable id))) (module_of a).variables
    unfolding module_of
    variable_found id x at =
        let n = name_at a (global.Variable id) in
        let got : slice_get (map (variable_in a) a.variables) id ≡ Some (variable_in a x) = slice_get-map (variable_in a) a.variables id ∙ ap (option_map (variable_in a)) at in
        let here : x.name ≡ n = sym (name_is a (global.Variable id) x.name (ap (option_map (λ (v : the_variable.Variable). v.name)) at)) in
        ap (λ b. b && is_lasting x.linkage) (some-map _ x.initialiser)
        ∙ found_once (λ (v : modules.Variable). v.name) (λ (v : modules.Variable). is_some v.initialiser && is_lasting v.linkage) (map (variable_in a) a.variables) n id (variable_in a x) got here
        (λ i v there e. same_variable i id n (variable_named i v n there e) (slice_get_within a.variables id x at) refl)

    pub no_variable : (g : GlobalId) → HasGlobal (counts a) g → (kind g ≡ 0 → ⊥) → false ≡ list_any (is_lasting_variable (name_at a g)) (module_of a).variables
    unfolding module_of
    no_variable g there other =
        not_found (λ (v : modules.Variable). v.name) (λ (v : modules.Variable). is_some v.initialiser && is_lasting v.linkage) (map (variable_in a) a.variables) (name_at a g)
        (λ i v at e. other_kind (global.Variable i) g (name_at a g) (variable_named i v (name_at a g) at e) there refl (λ k. other (sym k)))

    -- ---- functions

    pub function_found : (id : ℕ) (x : the_function.Function) → slice_get a.functions id ≡ Some x
        → (is_some x.body && is_lasting x.linkage) ≡ list_any (is_lasting_function (name_at a (global.Function id))) (module_of a).functions
    unfolding module_of
    function_found id x at =
        let n = name_at a (global.Function id) in
        let got : slice_get (map (function_in a) a.functions) id ≡ Some (function_in a x) = slice_get-map (function_in a) a.functions id ∙ ap (option_map (function_in a)) at in
        let here : x.name ≡ n = sym (name_is a (global.Function id) x.name (ap (option_map (λ (v : the_function.Function). v.name)) at)) in
        ap (λ b. b && is_lasting x.linkage) (some-map _ x.body)
        ∙ found_once (λ (v : modules.Function). v.name) (λ (v : modules.Function). is_some v.body && is_lasting v.linkage) (map (function_in a) a.functions) n id (function_in a x) got here
        (λ i v there e. same_function i id n (function_named i v n there e) (slice_get_within a.functions id x at) refl)

    pub no_function : (g : GlobalId) → HasGlobal (counts a) g → (kind g ≡ 1 → ⊥) → false ≡ list_any (is_lasting_function (name_at a g)) (module_of a).functions
    unfolding module_of
    no_function g there other =
        not_found (λ (v : modules.Function). v.name) (λ (v : modules.Function). is_some v.body && is_lasting v.linkage) (map (function_in a) a.functions) (name_at a g)
        (λ i v at e. other_kind (global.Function i) g (name_at a g) (function_named i v (name_at a g) at e) there refl (λ k. other (sym k)))

    -- ---- aliases

    pub alias_found : (id : ℕ) (x : the_alias.Alias) → slice_get a.aliases id ≡ Some x
        → has_function (module_of a) (target_name a x.target) ≡ has_alias_of_function (module_of a) (name_at a (global.Alias id))
    unfolding module_of
    alias_found id x at =
        let n = name_at a (global.Alias id) in
        let got : slice_get (map (alias_in a) a.aliases) id ≡ Some (alias_in a x) = slice_get-map (alias_in a) a.aliases id ∙ ap (option_map (alias_in a)) at in
        let here : x.name ≡ n = sym (name_is a (global.Alias id) x.name (ap (option_map (λ (v : the_alias.Alias). v.name)) at)) in
        found_once (λ (v : modules.Alias). v.name) (λ (v : modules.Alias). has_function (module_of a) v.target) (map (alias_in a) a.aliases) n id (alias_in a x) got here
        (λ i v there e. same_alias i id n (alias_named i v n there e) (slice_get_within a.aliases id x at) refl)

    pub no_alias : (g : GlobalId) → HasGlobal (counts a) g → (kind g ≡ 2 → ⊥) → false ≡ has_alias_of_function (module_of a) (name_at a g)
    unfolding module_of
    no_alias g there other =
        not_found (λ (v : modules.Alias). v.name) (λ (v : modules.Alias). has_function (module_of a) v.target) (map (alias_in a) a.aliases) (name_at a g)
        (λ i v at e. other_kind (global.Alias i) g (name_at a g) (alias_named i v (name_at a g) at e) there refl (λ k. other (sym k)))

  -- ---- nothing has an empty name

  pub no_nameless_variable : All (λ (v : the_variable.Variable). IsName v.name) a.variables → false ≡ list_any (is_lasting_variable []) (module_of a).variables
  unfolding module_of
  no_nameless_variable all =
      not_found (λ (v : modules.Variable). v.name) (λ (v : modules.Variable). is_some v.initialiser && is_lasting v.linkage) (map (variable_in a) a.variables) []
      (λ i v at e. no_empty (λ (x : the_variable.Variable). x.name) a.variables i all (variable_named i v [] at e))

  pub no_nameless_function : All (λ (f : the_function.Function). IsName f.name) a.functions → false ≡ list_any (is_lasting_function []) (module_of a).functions
  unfolding module_of
  no_nameless_function all =
      not_found (λ (f : modules.Function). f.name) (λ (f : modules.Function). is_some f.body && is_lasting f.linkage) (map (function_in a) a.functions) []
      (λ i f at e. no_empty (λ (x : the_function.Function). x.name) a.functions i all (function_named i f [] at e))

  pub has_no_nameless : All (λ (f : the_function.Function). IsName f.name) a.functions → false ≡ has_function (module_of a) []
  unfolding module_of
  has_no_nameless all =
      no_name (map (λ (f : modules.Function). f.name) (map (function_in a) a.functions))
      (λ i n at e. no_empty (λ (x : the_function.Function). x.name) a.functions i all
      (named_before (λ (f : the_function.Function). f.name) (λ (f : the_function.Function). f.name) (λ (k : Bytes). k) (λ x. refl) a.functions i n [] (ap (λ ns. slice_get ns i) (sym (names_kept a.functions)) ∙ at) e))
    where
      names_kept : (fs : List the_function.Function) → map (λ (f : modules.Function). f.name) (map (function_in a) fs) ≡ map (λ (f : the_function.Function). f.name) fs
      names_kept [] = refl
      names_kept (f ∷ fs) = ap (λ ns. f.name ∷ ns) (names_kept fs)
