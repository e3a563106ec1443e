-- Whether the name of an entry is new is told by the entries that are declared ahead.
use Rattle.std.proofs.Common.{◌≡◌, ◌↔◌, ◌&&◌, ◌||◌, ℕ, zero, suc, Bool, true, false, true≢false, not, List, [], ◌∷◌, ◌++◌, Option, Some, None, length, map, slice_get, All, inl, inr, refl, sym, ap, subst, ◌∙◌}
use Rattle.std.specs.Prelude.{bytes_eq}
use Rattle.std.specs.List.{list_any}
use Rattle.std.specs.Option.{option_map}
use Rattle.std.proofs.lemmas.Bool.{false≢true}
use Rattle.std.proofs.lemmas.List.Elements.{All-head, All-tail}
use Rattle.std.proofs.lemmas.Option.{none-some, same_Some}
use Rattle.std.proofs.lemmas.Slice.Eq.{bytes_eq-Decides}
use Rattle.module_arena.specs.declared.entry.Alias as the_alias
use Rattle.module_arena.specs.declared.entry.Function as the_function
use Rattle.module_arena.specs.declared.entry.GlobalId.{GlobalId}
use Rattle.module_arena.specs.declared.entry.GlobalId.TheVariants as global
use Rattle.module_arena.specs.declared.entry.LocalName.{LocalName}
use Rattle.module_arena.specs.declared.entry.Variable as the_variable
use Rattle.module_arena.specs.Changes.{with_variable, with_function, with_alias}
use Rattle.module_arena.specs.Known.{AreDistinct}
use Rattle.module_arena.specs.Lists.{Lists, global_name}
use Rattle.module_arena.specs.Module as m
use Rattle.module_arena.specs.Module.{Bytes}
use Rattle.module_arena.proofs.Found.{slice_get-here, slice_get-beyond}
use Rattle.record_table.specs.Faults.{Records, no_more, a_block, a_record}
use Rattle.record_table.specs.Fields.{Texts}
use Rattle.record_table.specs.Records.{Sofar, is_new}
use Rattle.type_read.specs.Fields.{is_good}
use Rattle.bitcode_read.specs.Head.Fronts.{alias_front, function_front, variable_front}
use Rattle.bitcode_read.specs.Ahead.Entries.{Declares, DeclaresOne, Declaring, a_function, a_variable, an_alias, alias_entry, declaring, front_of, function_entry, names_behind, names_for, nothing, variable_entry}

-- the entries that were read are called as those that are declared in front
pub record Follows (a : Lists) (s : Sofar) : Type 0 where
  pub variables : map (λ (v : the_variable.Variable). v.name) a.variables ≡ map (λ (v : m.Variable). v.name) s.variables
  pub functions : map (λ (f : the_function.Function). f.name) a.functions ≡ map (λ (f : Bool × m.Function). f.1.name) s.functions
  pub aliases : map (λ (x : the_alias.Alias). x.name) a.aliases ≡ map (λ (x : m.Alias). x.name) s.aliases

-- ---- names in a list

any_mapped : {A : Type 0} (name : A → Bytes) (n : Bytes) (xs : List A) → list_any (λ x. bytes_eq n (name x)) xs ≡ list_any (bytes_eq n) (map name xs)
any_mapped name n [] = refl
any_mapped name n (x ∷ xs) = ap (λ b. bytes_eq n (name x) || b) (any_mapped name n xs)

get_mapped : {A : Type 0} (name : A → Bytes) (xs : List A) (i : ℕ) → slice_get (map name xs) i ≡ option_map name (slice_get xs i)
get_mapped name [] i = refl
get_mapped name (x ∷ xs) zero = refl
get_mapped name (x ∷ xs) (suc i) = get_mapped name xs i

found : (n : Bytes) (ns : List Bytes) → list_any (bytes_eq n) ns ≡ true → (i : ℕ) × (slice_get ns i ≡ Some n)
found n [] h = absurd (false≢true h)
found n (x ∷ ns) h = by (bytes_eq n x) refl h (found n ns)
  where
    by : (b : Bool) → bytes_eq n x ≡ b → (b || list_any (bytes_eq n) ns) ≡ true → (list_any (bytes_eq n) ns ≡ true → (i : ℕ) × (slice_get ns i ≡ Some n)) → (i : ℕ) × (slice_get (x ∷ ns) i ≡ Some n)
    by true e h on = (0, ap (λ (y : Bytes). Some y) (sym ((bytes_eq-Decides n x).0 e)))
    by false e h on = let at = on h in (suc at.0, at.1)

missing : (n : Bytes) (ns : List Bytes) (i : ℕ) → list_any (bytes_eq n) ns ≡ false → slice_get ns i ≡ Some n → ⊥
missing n [] i h is = none-some n is
missing n (x ∷ ns) zero h is = by (bytes_eq n x) ((bytes_eq-Decides n x).1 (sym (same_Some x n is))) h
  where
    by : (b : Bool) → b ≡ true → (b || list_any (bytes_eq n) ns) ≡ false → ⊥
    by true e h = true≢false h
    by false e h = false≢true e
missing n (x ∷ ns) (suc i) h is = by (bytes_eq n x) h (λ e. missing n ns i e is)
  where
    by : (b : Bool) → (b || list_any (bytes_eq n) ns) ≡ false → (list_any (bytes_eq n) ns ≡ false → ⊥) → ⊥
    by true h on = true≢false h
    by false h on = on h

-- ---- entries

-- an entry of that name
abbrev Named : Lists → Bytes → Type 0
Named a n = (g : GlobalId) × (global_name a g ≡ Some n)

module _ (a : Lists) (s : Sofar) (f : Follows a s) (n : Bytes) where
  variables_are : list_any (λ (v : m.Variable). bytes_eq n v.name) s.variables ≡ list_any (bytes_eq n) (map (λ (v : the_variable.Variable). v.name) a.variables)
  variables_are = any_mapped (λ (v : m.Variable). v.name) n s.variables ∙ ap (list_any (bytes_eq n)) (sym f.variables)

  functions_are : list_any (λ (g : Bool × m.Function). bytes_eq n g.1.name) s.functions ≡ list_any (bytes_eq n) (map (λ (g : the_function.Function). g.name) a.functions)
  functions_are = any_mapped (λ (g : Bool × m.Function). g.1.name) n s.functions ∙ ap (list_any (bytes_eq n)) (sym f.functions)

  aliases_are : list_any (λ (x : m.Alias). bytes_eq n x.name) s.aliases ≡ list_any (bytes_eq n) (map (λ (x : the_alias.Alias). x.name) a.aliases)
  aliases_are = any_mapped (λ (x : m.Alias). x.name) n s.aliases ∙ ap (list_any (bytes_eq n)) (sym f.aliases)

  -- a name that is new is that of no entry
  new_free : is_new s n ≡ true → Named a n → ⊥
  new_free new (g, is) = by (list_any (λ (v : m.Variable). bytes_eq n v.name) s.variables) (list_any (λ (h : Bool × m.Function). bytes_eq n h.1.name) s.functions) (list_any (λ (x : m.Alias). bytes_eq n x.name) s.aliases) refl refl refl new g is
    where
      by : (v h x : Bool) → list_any (λ (v : m.Variable). bytes_eq n v.name) s.variables ≡ v → list_any (λ (h : Bool × m.Function). bytes_eq n h.1.name) s.functions ≡ h → list_any (λ (x : m.Alias). bytes_eq n x.name) s.aliases ≡ x
          → (not v && not h && not x) ≡ true → (g : GlobalId) → global_name a g ≡ Some n → ⊥
      by false false false ev eh ex new (global.Variable i) is = missing n (map (λ (v : the_variable.Variable). v.name) a.variables) i (sym variables_are ∙ ev) (get_mapped (λ (v : the_variable.Variable). v.name) a.variables i ∙ is)
      by false false false ev eh ex new (global.Function i) is = missing n (map (λ (h : the_function.Function). h.name) a.functions) i (sym functions_are ∙ eh) (get_mapped (λ (h : the_function.Function). h.name) a.functions i ∙ is)
      by false false false ev eh ex new (global.Alias i) is = missing n (map (λ (x : the_alias.Alias). x.name) a.aliases) i (sym aliases_are ∙ ex) (get_mapped (λ (x : the_alias.Alias). x.name) a.aliases i ∙ is)
      by true h x ev eh ex new g is = false≢true new
      by false true x ev eh ex new g is = false≢true new
      by false false true ev eh ex new g is = false≢true new

  -- and one that is not is that of one
  free_new : (Named a n → ⊥) → is_new s n ≡ true
  free_new free = by (list_any (λ (v : m.Variable). bytes_eq n v.name) s.variables) (list_any (λ (h : Bool × m.Function). bytes_eq n h.1.name) s.functions) (list_any (λ (x : m.Alias). bytes_eq n x.name) s.aliases) refl refl refl
    where
      by : (v h x : Bool) → list_any (λ (v : m.Variable). bytes_eq n v.name) s.variables ≡ v → list_any (λ (h : Bool × m.Function). bytes_eq n h.1.name) s.functions ≡ h → list_any (λ (x : m.Alias). bytes_eq n x.name) s.aliases ≡ x
          → (not v && not h && not x) ≡ true
      by false false false ev eh ex = refl
      by true h x ev eh ex =
          let at = found n (map (λ (v : the_variable.Variable). v.name) a.variables) (sym variables_are ∙ ev) in
          absurd (free (global.Variable at.0, sym (get_mapped (λ (v : the_variable.Variable). v.name) a.variables at.0) ∙ at.1))
      by false true x ev eh ex =
          let at = found n (map (λ (h : the_function.Function). h.name) a.functions) (sym functions_are ∙ eh) in
          absurd (free (global.Function at.0, sym (get_mapped (λ (h : the_function.Function). h.name) a.functions at.0) ∙ at.1))
      by false false true ev eh ex =
          let at = found n (map (λ (x : the_alias.Alias). x.name) a.aliases) (sym aliases_are ∙ ex) in
          absurd (free (global.Alias at.0, sym (get_mapped (λ (x : the_alias.Alias). x.name) a.aliases at.0) ∙ at.1))

  -- the name of the next entry, where it is not declared
  pub told_last : (own : GlobalId) → global_name a own ≡ None → (is_new s n ≡ true) ↔ ((g : GlobalId) → global_name a g ≡ Some n → g ≡ own)
  told_last own none = (
    (λ new g is. absurd (new_free new (g, is))),
    (λ all. free_new (λ named. let same : global_name a own ≡ Some n = subst (λ g. global_name a g ≡ Some n) (all named.0 named.1) named.1 in none-some n (sym none ∙ same))),
  )

  -- and where it is
  pub told_next : (final : Lists) (own : GlobalId) → AreDistinct final → ((g : GlobalId) (k : Bytes) → global_name a g ≡ Some k → global_name final g ≡ Some k) → global_name a own ≡ None → global_name final own ≡ Some n
      → (is_new s n ≡ true) ↔ ((g : GlobalId) → global_name final g ≡ Some n → g ≡ own)
  told_next final own distinct stays none there = (
    (λ new g is. distinct n g own is there),
    (λ all. free_new (λ named.
        let same : global_name a own ≡ Some n = subst (λ g. global_name a g ≡ Some n) (all named.0 (stays named.0 n named.1)) named.1 in
        none-some n (sym none ∙ same))),
  )

-- ---- what is declared stays

pub get_front : {A : Type 0} (xs ys : List A) (i : ℕ) (x : A) → slice_get xs i ≡ Some x → slice_get (xs ++ ys) i ≡ Some x
get_front [] ys i x is = absurd (none-some x is)
get_front (y ∷ xs) ys zero x is = is
get_front (y ∷ xs) ys (suc i) x is = get_front xs ys i x is

named_front : {A : Type 0} (name : A → Bytes) (xs ys : List A) (i : ℕ) (k : Bytes) → option_map name (slice_get xs i) ≡ Some k → option_map name (slice_get (xs ++ ys) i) ≡ Some k
named_front {A} name xs ys i k is = by (slice_get xs i) refl is
  where
    by : (o : Option A) → slice_get xs i ≡ o → option_map name o ≡ Some k → option_map name (slice_get (xs ++ ys) i) ≡ Some k
    by None at e = absurd (none-some k e)
    by (Some x) at e = ap (option_map name) (get_front xs ys i x at) ∙ e

more_variable : (a : Lists) (v : the_variable.Variable) (g : GlobalId) (k : Bytes) → global_name a g ≡ Some k → global_name (with_variable a v) g ≡ Some k
more_variable a v (global.Variable i) k is = named_front (λ (x : the_variable.Variable). x.name) a.variables (v ∷ []) i k is
more_variable a v (global.Function i) k is = is
more_variable a v (global.Alias i) k is = is

more_function : (a : Lists) (f : the_function.Function) (g : GlobalId) (k : Bytes) → global_name a g ≡ Some k → global_name (with_function a f) g ≡ Some k
more_function a f (global.Variable i) k is = is
more_function a f (global.Function i) k is = named_front (λ (x : the_function.Function). x.name) a.functions (f ∷ []) i k is
more_function a f (global.Alias i) k is = is

more_alias : (a : Lists) (x : the_alias.Alias) (g : GlobalId) (k : Bytes) → global_name a g ≡ Some k → global_name (with_alias a x) g ≡ Some k
more_alias a x (global.Variable i) k is = is
more_alias a x (global.Function i) k is = is
more_alias a x (global.Alias i) k is = named_front (λ (y : the_alias.Alias). y.name) a.aliases (x ∷ []) i k is

module _ (texts : Texts) (types : ℕ) (final : Lists) where
  pub entries_stay : (names : List (List LocalName)) (a : Lists) (rest : Records) → Declares texts types final names a rest → (g : GlobalId) (k : Bytes) → global_name a g ≡ Some k → global_name final g ≡ Some k
  entries_stay names a no_more d g k is = subst (λ (x : Lists). global_name x g ≡ Some k) (sym d) is
  entries_stay names a (a_block id inside behind) d g k is = entries_stay names a behind d g k is
  entries_stay names a (a_record code operands behind) d g k is = by (declaring code) d (λ later after on named. entries_stay later after behind on g k named)
    where
      by : (kind : Declaring) → DeclaresOne texts types final names a operands (λ later after. Declares texts types final later after behind) kind
          → ((later : List (List LocalName)) (after : Lists) → Declares texts types final later after behind → global_name after g ≡ Some k → global_name final g ≡ Some k) → global_name final g ≡ Some k
      by a_variable (inl r) go = subst (λ (x : Lists). global_name x g ≡ Some k) (sym r.stays) is
      by a_variable (inr on) go = go _ _ on (more_variable a _ g k is)
      by a_function (inl r) go = subst (λ (x : Lists). global_name x g ≡ Some k) (sym r.stays) is
      by a_function (inr on) go = go _ _ on (more_function a _ g k is)
      by an_alias (inl r) go = subst (λ (x : Lists). global_name x g ≡ Some k) (sym r.stays) is
      by an_alias (inr on) go = go _ _ on (more_alias a _ g k is)
      by nothing on go = go names a on is

  -- the record of the next entry
  module _ (names : List (List LocalName)) (a : Lists) (s : Sofar) (operands : List ℕ) (behind : Records) (distinct : AreDistinct final) (f : Follows a s) where
    abbrev v_entry : the_variable.Variable
    v_entry = variable_entry (front_of (variable_front texts types) operands).0

    v_none : global_name a (global.Variable (length a.variables)) ≡ None
    v_none = ap (option_map (λ (v : the_variable.Variable). v.name)) (slice_get-beyond a.variables)

    pub variable_told : Declares texts types final names a (a_record 5 operands behind)
        → (is_new s v_entry.name ≡ true) ↔ ((g : GlobalId) → global_name final g ≡ Some v_entry.name → g ≡ global.Variable (length a.variables))
    variable_told (inl r) =
        subst (λ (x : Lists). (is_new s v_entry.name ≡ true) ↔ ((g : GlobalId) → global_name x g ≡ Some v_entry.name → g ≡ global.Variable (length a.variables))) (sym r.stays) (told_last a s f v_entry.name (global.Variable (length a.variables)) v_none)
    variable_told (inr on) =
        told_next a s f v_entry.name final (global.Variable (length a.variables)) distinct (λ g k is. entries_stay names (with_variable a v_entry) behind on g k (more_variable a v_entry g k is)) v_none
        (entries_stay names (with_variable a v_entry) behind on (global.Variable (length a.variables)) v_entry.name (ap (option_map (λ (x : the_variable.Variable). x.name)) (slice_get-here a.variables v_entry)))

    abbrev f_defined : Bool
    f_defined = (front_of (function_front texts types) operands).0.1.1.0

    abbrev f_entry : the_function.Function
    f_entry = function_entry (names_for f_defined names) (front_of (function_front texts types) operands).0

    f_none : global_name a (global.Function (length a.functions)) ≡ None
    f_none = ap (option_map (λ (h : the_function.Function). h.name)) (slice_get-beyond a.functions)

    pub function_told : Declares texts types final names a (a_record 6 operands behind)
        → (is_new s f_entry.name ≡ true) ↔ ((g : GlobalId) → global_name final g ≡ Some f_entry.name → g ≡ global.Function (length a.functions))
    function_told (inl r) =
        subst (λ (x : Lists). (is_new s f_entry.name ≡ true) ↔ ((g : GlobalId) → global_name x g ≡ Some f_entry.name → g ≡ global.Function (length a.functions))) (sym r.stays) (told_last a s f f_entry.name (global.Function (length a.functions)) f_none)
    function_told (inr on) =
        told_next a s f f_entry.name final (global.Function (length a.functions)) distinct (λ g k is. entries_stay (names_behind f_defined names) (with_function a f_entry) behind on g k (more_function a f_entry g k is)) f_none
        (entries_stay (names_behind f_defined names) (with_function a f_entry) behind on (global.Function (length a.functions)) f_entry.name (ap (option_map (λ (x : the_function.Function). x.name)) (slice_get-here a.functions f_entry)))

    abbrev x_entry : the_alias.Alias
    x_entry = alias_entry (front_of (alias_front texts types) operands).0

    x_none : global_name a (global.Alias (length a.aliases)) ≡ None
    x_none = ap (option_map (λ (h : the_alias.Alias). h.name)) (slice_get-beyond a.aliases)

    pub alias_told : Declares texts types final names a (a_record 7 operands behind)
        → (is_new s x_entry.name ≡ true) ↔ ((g : GlobalId) → global_name final g ≡ Some x_entry.name → g ≡ global.Alias (length a.aliases))
    alias_told (inl r) =
        subst (λ (x : Lists). (is_new s x_entry.name ≡ true) ↔ ((g : GlobalId) → global_name x g ≡ Some x_entry.name → g ≡ global.Alias (length a.aliases))) (sym r.stays) (told_last a s f x_entry.name (global.Alias (length a.aliases)) x_none)
    alias_told (inr on) =
        told_next a s f x_entry.name final (global.Alias (length a.aliases)) distinct (λ g k is. entries_stay names (with_alias a x_entry) behind on g k (more_alias a x_entry g k is)) x_none
        (entries_stay names (with_alias a x_entry) behind on (global.Alias (length a.aliases)) x_entry.name (ap (option_map (λ (x : the_alias.Alias). x.name)) (slice_get-here a.aliases x_entry)))

-- ---- names that are none

-- the names that were read are good
pub record AreGood (s : Sofar) : Type 0 where
  pub variables : All (λ n. is_good n ≡ true) (map (λ (v : m.Variable). v.name) s.variables)
  pub functions : All (λ n. is_good n ≡ true) (map (λ (f : Bool × m.Function). f.1.name) s.functions)
  pub aliases : All (λ n. is_good n ≡ true) (map (λ (x : m.Alias). x.name) s.aliases)

good_at : (ns : List Bytes) (n : Bytes) → All (λ k. is_good k ≡ true) ns → list_any (bytes_eq n) ns ≡ true → is_good n ≡ true
good_at ns n all h = let at = found n ns h in by ns at.0 all at.1
  where
    by : (ns : List Bytes) (i : ℕ) → All (λ k. is_good k ≡ true) ns → slice_get ns i ≡ Some n → is_good n ≡ true
    by [] i all is = absurd (none-some n is)
    by (x ∷ ns) zero all is = subst (λ k. is_good k ≡ true) (same_Some x n is) (All-head (λ k. is_good k ≡ true) x ns all)
    by (x ∷ ns) (suc i) all is = by ns i (All-tail (λ k. is_good k ≡ true) x ns all) is

-- a text that is no good name is that of no entry that was read
pub bad_new : (s : Sofar) (n : Bytes) → AreGood s → is_good n ≡ false → is_new s n ≡ true
bad_new s n good bad =
    by (list_any (λ (v : m.Variable). bytes_eq n v.name) s.variables) (list_any (λ (h : Bool × m.Function). bytes_eq n h.1.name) s.functions) (list_any (λ (x : m.Alias). bytes_eq n x.name) s.aliases) refl refl refl
  where
    never : is_good n ≡ true → ⊥
    never e = true≢false (sym e ∙ bad)

    by : (v h x : Bool) → list_any (λ (v : m.Variable). bytes_eq n v.name) s.variables ≡ v → list_any (λ (h : Bool × m.Function). bytes_eq n h.1.name) s.functions ≡ h → list_any (λ (x : m.Alias). bytes_eq n x.name) s.aliases ≡ x
        → (not v && not h && not x) ≡ true
    by false false false ev eh ex = refl
    by true h x ev eh ex = absurd (never (good_at (map (λ (v : m.Variable). v.name) s.variables) n good.variables (sym (any_mapped (λ (v : m.Variable). v.name) n s.variables) ∙ ev)))
    by false true x ev eh ex = absurd (never (good_at (map (λ (h : Bool × m.Function). h.1.name) s.functions) n good.functions (sym (any_mapped (λ (h : Bool × m.Function). h.1.name) n s.functions) ∙ eh)))
    by false false true ev eh ex = absurd (never (good_at (map (λ (x : m.Alias). x.name) s.aliases) n good.aliases (sym (any_mapped (λ (x : m.Alias). x.name) n s.aliases) ∙ ex)))
