-- What the entries of an arena are called, where its module has those of items.
use Rattle.std.proofs.Common.{◌≡◌, ◌⊎◌, inl, inr, ℕ, zero, suc, ◌<◌, ◌||◌, not, Bool, true, false, List, [], ◌∷◌, ◌++◌, map, length, get_or, slice_get, Option, Some, None, refl, sym, ap, ◌∙◌, bytes_eq, arith}
use Rattle.std.specs.Prelude.{filter_map}
use Rattle.std.specs.List.{list_any, cons_option}
use Rattle.std.specs.Option.{option_map}
use Rattle.std.proofs.lemmas.Bool.{and_parts, or_parts, not-true, or_right, or_left, or_cases}
use Rattle.std.proofs.lemmas.List.{map-append}
use Rattle.std.proofs.lemmas.List.Folds.{list_any-append}
use Rattle.std.proofs.lemmas.Slice.Eq.{bytes_eq-Decides}
use Rattle.ir_terminals.specs.declared.values.PlacedName.{PlacedName}
use Rattle.ir_tables.specs.Table.{is_distinct}
use Rattle.ir_syntax.specs.Tree.{ItemTree, SourceFilename, DataLayout, TargetTriple, Struct, Variable, Alias, Declaration, Definition, Attributes, Metadata}
use Rattle.type_table.specs.Types.{trees}
use Rattle.module_arena.specs.declared.entry.GlobalId.{GlobalId}
use Rattle.module_arena.specs.declared.entry.GlobalId.TheVariants as global
use Rattle.module_arena.specs.declared.entry.Variable as the_variable
use Rattle.module_arena.specs.declared.entry.Alias as the_alias
use Rattle.module_arena.specs.declared.entry.Function as the_function
use Rattle.module_arena.specs.Lists as lists
use Rattle.module_arena.specs.Lists.{Lists, name_at}
use Rattle.module_arena.specs.Module.{Bytes}
use Rattle.module_arena.specs.Module as m
use Rattle.module_arena.specs.View.{module_of, variable_view, alias_view, function_view, constants_of}
use Rattle.module_arena.specs.WellFormed as formed
use Rattle.name_rules.specs.Breaks as breaks
use Rattle.name_rules.specs.ModuleOf.{variable_in, alias_in, function_in}
use Rattle.item_build.specs.Types.Holding.{entries, HasEntry}
use Rattle.item_build.specs.Buildable.Laws.{global_names, HasEntries}
use Rattle.item_build.specs.Declaring.{IsNewName, AreNamed}
use Rattle.item_build.proofs.Walked.{parted}
use Rattle.item_build.proofs.OnTypes.Made.{map_twice}

bytes_turn : (a b : Bytes) → bytes_eq a b ≡ bytes_eq b a
bytes_turn a b = by (bytes_eq a b) (bytes_eq b a) refl refl
  where
    by : (p q : Bool) → bytes_eq a b ≡ p → bytes_eq b a ≡ q → p ≡ q
    by true true e f = refl
    by false false e f = refl
    by true false e f = let g = (bytes_eq-Decides b a).1 (sym ((bytes_eq-Decides a b).0 e)) in absurd cc
    by false true e f = let g = (bytes_eq-Decides a b).1 (sym ((bytes_eq-Decides b a).0 f)) in absurd cc

or_swap : (a b c : Bool) → (a || (b || c)) ≡ (b || (a || c))
or_swap true true c = refl
or_swap true false c = refl
or_swap false true c = refl
or_swap false false c = refl

-- one more somewhere behind these
any_further : {A : Type 0} (p : A → Bool) (c : Bool) (front xs ys : List A) → list_any p ys ≡ (c || list_any p xs) → list_any p (front ++ ys) ≡ (c || list_any p (front ++ xs))
any_further p c [] xs ys e = e
any_further p c (f ∷ front) xs ys e = ap (λ b. p f || b) (any_further p c front xs ys e) ∙ or_swap (p f) c (list_any p (front ++ xs))

abbrev variables : List ItemTree → List Bytes
variables items = map (λ (v : m.Variable). v.name) (filter_map variable_in items)

abbrev aliases : List ItemTree → List Bytes
aliases items = map (λ (a : m.Alias). a.name) (filter_map alias_in items)

abbrev functions : List ItemTree → List Bytes
functions items = map (λ (f : m.Function). f.name) (filter_map function_in items)

-- the names by kind are those in the order of the text
pub any_kinds : (p : Bytes → Bool) (items : List ItemTree) → list_any p (variables items ++ (aliases items ++ functions items)) ≡ list_any p (global_names items)
any_kinds p [] = refl
any_kinds p (Variable v ∷ more) = ap (λ b. p v.name.name || b) (any_kinds p more)
any_kinds p (Alias a ∷ more) =
    any_further p (p a.name.name) (variables more) (aliases more ++ functions more) (a.name.name ∷ (aliases more ++ functions more)) refl
    ∙ ap (λ b. p a.name.name || b) (any_kinds p more)
any_kinds p (Declaration place head parameters variadic ∷ more) =
    any_further p (p head.name.name) (variables more) (aliases more ++ functions more) (aliases more ++ head.name.name ∷ functions more)
    (any_further p (p head.name.name) (aliases more) (functions more) (head.name.name ∷ functions more) refl)
    ∙ ap (λ b. p head.name.name || b) (any_kinds p more)
any_kinds p (Definition place head parameters blocks ∷ more) =
    any_further p (p head.name.name) (variables more) (aliases more ++ functions more) (aliases more ++ head.name.name ∷ functions more)
    (any_further p (p head.name.name) (aliases more) (functions more) (head.name.name ∷ functions more) refl)
    ∙ ap (λ b. p head.name.name || b) (any_kinds p more)
any_kinds p (SourceFilename place text ∷ more) = any_kinds p more
any_kinds p (DataLayout place text ∷ more) = any_kinds p more
any_kinds p (TargetTriple place text ∷ more) = any_kinds p more
any_kinds p (Struct name body ∷ more) = any_kinds p more
any_kinds p (Attributes place ∷ more) = any_kinds p more
any_kinds p (Metadata place ∷ more) = any_kinds p more

-- ---- the entries of an arena

abbrev names_of : Lists → List Bytes
names_of a = map (λ (v : the_variable.Variable). v.name) a.variables ++ (map (λ (x : the_alias.Alias). x.name) a.aliases ++ map (λ (f : the_function.Function). f.name) a.functions)

names_same : (a : Lists) → formed.global_names (module_of a) ≡ names_of a
unfolding module_of
names_same a = λ j.
    map_twice (variable_view (trees a.table) (constants_of a)) (λ (v : m.Variable). v.name) a.variables j
    ++ (map_twice (alias_view (trees a.table) (name_at a)) (λ (x : m.Alias). x.name) a.aliases j
    ++ map_twice (function_view (trees a.table) (constants_of a)) (λ (f : m.Function). f.name) a.functions j)

any_at : {A : Type 0} (f : A → Bytes) (n : Bytes) (xs : List A) (k : ℕ) → option_map f (slice_get xs k) ≡ Some n → list_any (bytes_eq n) (map f xs) ≡ true
any_at f n [] k is = absurd cc
any_at f n (x ∷ xs) zero is = or_left (bytes_eq n (f x)) (list_any (bytes_eq n) (map f xs)) ((bytes_eq-Decides n (f x)).1 (sym (some_equal is)))
  where
    some_equal : {x y : Bytes} → Some x ≡ Some y → x ≡ y
    some_equal e = cc
any_at f n (x ∷ xs) (suc k) is = or_right (bytes_eq n (f x)) (list_any (bytes_eq n) (map f xs)) (any_at f n xs k is)

at_any : {A : Type 0} (f : A → Bytes) (n : Bytes) (xs : List A) → list_any (bytes_eq n) (map f xs) ≡ true → (k : ℕ) × (option_map f (slice_get xs k) ≡ Some n)
at_any f n [] e = absurd cc
at_any f n (x ∷ xs) e = by (λ h. at_any f n xs h) (or_cases (bytes_eq n (f x)) (list_any (bytes_eq n) (map f xs)) e)
  where
    by : (list_any (bytes_eq n) (map f xs) ≡ true → (k : ℕ) × (option_map f (slice_get xs k) ≡ Some n)) → (bytes_eq n (f x) ≡ true) ⊎ (list_any (bytes_eq n) (map f xs) ≡ true) → (k : ℕ) × (option_map f (slice_get (x ∷ xs) k) ≡ Some n)
    by more (inl here) = (0, ap Some (sym ((bytes_eq-Decides n (f x)).0 here)))
    by more (inr later) = let found = more later in (suc found.0, found.1)

-- an entry's name is among those of the module
named_in : (a : Lists) (g : GlobalId) (n : Bytes) → lists.global_name a g ≡ Some n → list_any (bytes_eq n) (names_of a) ≡ true
named_in a (global.Variable id) n is =
    let vs = map (λ (v : the_variable.Variable). v.name) a.variables in
    let rest = map (λ (x : the_alias.Alias). x.name) a.aliases ++ map (λ (f : the_function.Function). f.name) a.functions in
    list_any-append (bytes_eq n) vs rest ∙ or_left (list_any (bytes_eq n) vs) (list_any (bytes_eq n) rest) (any_at (λ (v : the_variable.Variable). v.name) n a.variables id is)
named_in a (global.Alias id) n is =
    let vs = map (λ (v : the_variable.Variable). v.name) a.variables in
    let xs = map (λ (x : the_alias.Alias). x.name) a.aliases in
    let fs = map (λ (f : the_function.Function). f.name) a.functions in
    list_any-append (bytes_eq n) vs (xs ++ fs)
    ∙ or_right (list_any (bytes_eq n) vs) (list_any (bytes_eq n) (xs ++ fs))
    (list_any-append (bytes_eq n) xs fs ∙ or_left (list_any (bytes_eq n) xs) (list_any (bytes_eq n) fs) (any_at (λ (x : the_alias.Alias). x.name) n a.aliases id is))
named_in a (global.Function id) n is =
    let vs = map (λ (v : the_variable.Variable). v.name) a.variables in
    let xs = map (λ (x : the_alias.Alias). x.name) a.aliases in
    let fs = map (λ (f : the_function.Function). f.name) a.functions in
    list_any-append (bytes_eq n) vs (xs ++ fs)
    ∙ or_right (list_any (bytes_eq n) vs) (list_any (bytes_eq n) (xs ++ fs))
    (list_any-append (bytes_eq n) xs fs ∙ or_right (list_any (bytes_eq n) xs) (list_any (bytes_eq n) fs) (any_at (λ (f : the_function.Function). f.name) n a.functions id is))

-- a name of the module is that of an entry
entry_of : (a : Lists) (n : Bytes) → list_any (bytes_eq n) (names_of a) ≡ true → HasEntry (entries a) n
entry_of a n e = by (or_cases (list_any (bytes_eq n) vs) (list_any (bytes_eq n) (xs ++ fs)) (sym (list_any-append (bytes_eq n) vs (xs ++ fs)) ∙ e))
  where
    vs : List Bytes
    vs = map (λ (v : the_variable.Variable). v.name) a.variables

    xs : List Bytes
    xs = map (λ (x : the_alias.Alias). x.name) a.aliases

    fs : List Bytes
    fs = map (λ (f : the_function.Function). f.name) a.functions

    rest : (list_any (bytes_eq n) xs ≡ true) ⊎ (list_any (bytes_eq n) fs ≡ true) → HasEntry (entries a) n
    rest (inl h) = let at = at_any (λ (x : the_alias.Alias). x.name) n a.aliases h in (global.Alias at.0, at.1)
    rest (inr h) = let at = at_any (λ (f : the_function.Function). f.name) n a.functions h in (global.Function at.0, at.1)

    by : (list_any (bytes_eq n) vs ≡ true) ⊎ (list_any (bytes_eq n) (xs ++ fs) ≡ true) → HasEntry (entries a) n
    by (inl h) = let at = at_any (λ (v : the_variable.Variable). v.name) n a.variables h in (global.Variable at.0, at.1)
    by (inr h) = rest (or_cases (list_any (bytes_eq n) xs) (list_any (bytes_eq n) fs) (sym (list_any-append (bytes_eq n) xs fs) ∙ h))

pub contained : (n : Bytes) (xs : List Bytes) (k : ℕ) → k < length xs → get_or xs k n ≡ n → list_any (bytes_eq n) xs ≡ true
contained n [] k lt is = absurd (omega arith)
contained n (x ∷ xs) zero lt is = or_left (bytes_eq n x) (list_any (bytes_eq n) xs) ((bytes_eq-Decides n x).1 (sym is))
contained n (x ∷ xs) (suc k) lt is = or_right (bytes_eq n x) (list_any (bytes_eq n) xs) (contained n xs k (omega (arith, lt)) is)

-- each name of the items is that of an entry
pub entries_there : (a : Lists) (items : List ItemTree) → AreNamed (module_of a) items → HasEntries (entries a) (global_names items)
entries_there a items named = λ n within.
    entry_of a n (ap (list_any (bytes_eq n)) (sym (names_same a) ∙ named) ∙ (any_kinds (bytes_eq n) items ∙ contained n (global_names items) within.0 within.1 within.2))

-- ---- a name that no item before has is free

pub distinct_front : (n : Bytes) (xs ys : List Bytes) → is_distinct bytes_eq (xs ++ n ∷ ys) ≡ true → list_any (bytes_eq n) xs ≡ false
distinct_front n [] ys d = refl
distinct_front n (x ∷ xs) ys d =
    let parts = and_parts (not (list_any (bytes_eq x) (xs ++ n ∷ ys))) (is_distinct bytes_eq (xs ++ n ∷ ys)) d in
    let none = sym (list_any-append (bytes_eq x) xs (n ∷ ys)) ∙ not-true (list_any (bytes_eq x) (xs ++ n ∷ ys)) parts.0 in
    let behind = or_parts (list_any (bytes_eq x) xs) (bytes_eq x n || list_any (bytes_eq x) ys) none in
    let other = or_parts (bytes_eq x n) (list_any (bytes_eq x) ys) behind.1 in
    (λ j. (bytes_turn n x ∙ other.0) j || distinct_front n xs ys parts.1 j)

names_parted : (first : List ItemTree) (x : ItemTree) (rest : List ItemTree) → global_names (first ++ x ∷ rest) ≡ global_names first ++ map (λ (n : PlacedName). n.name) (cons_option (breaks.global_name x) (filter_map breaks.global_name rest))
names_parted first x rest = ap (map (λ (n : PlacedName). n.name)) (parted breaks.global_name first x rest) ∙ map-append (λ (n : PlacedName). n.name) (filter_map breaks.global_name first) (cons_option (breaks.global_name x) (filter_map breaks.global_name rest))

pub name_is_new : (a : Lists) (first : List ItemTree) (x : ItemTree) (rest : List ItemTree) → AreNamed (module_of a) first → is_distinct bytes_eq (global_names (first ++ x ∷ rest)) ≡ true → IsNewName a (breaks.global_name x)
name_is_new a first x rest named distinct = by (breaks.global_name x) (sym (names_parted first x rest))
  where
    by : (o : Option PlacedName) → global_names first ++ map (λ (n : PlacedName). n.name) (cons_option o (filter_map breaks.global_name rest)) ≡ global_names (first ++ x ∷ rest) → IsNewName a o
    by None same = tt
    by (Some p) same = λ g is.
        let there = sym (any_kinds (bytes_eq p.name) first) ∙ (ap (list_any (bytes_eq p.name)) (sym named ∙ names_same a) ∙ named_in a g p.name is) in
        let none = distinct_front p.name (global_names first) (global_names rest) (ap (is_distinct bytes_eq) same ∙ distinct) in
        absurd cc
