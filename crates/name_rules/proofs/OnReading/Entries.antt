-- The names of the variables, aliases and functions of a module are those of the items, kind by kind.
use Rattle.std.proofs.Common.{◌≡◌, ◌||◌, not, List, [], ◌∷◌, ◌++◌, map, Bool, true, false, refl, sym, ap, ◌∙◌, bytes_eq}
use Rattle.std.specs.List.{list_any}
use Rattle.std.specs.Prelude.{filter_map}
use Rattle.std.proofs.lemmas.Bool.{and_from, and_parts, or_from, or_parts, not-true}
use Rattle.ir_tables.specs.Table.{is_distinct}
use Rattle.ir_syntax.specs.Tree.{ItemTree, SourceFilename, DataLayout, TargetTriple, Struct, Variable, Alias, Declaration, Definition, Attributes, Metadata}
use Rattle.module_arena.specs.Module.{Bytes}
use Rattle.module_arena.specs.Module as m
use Rattle.module_arena.specs.WellFormed.{has_entry, global_names}
use Rattle.name_rules.specs.ModuleOf.{structs_in, variable_in, alias_in, function_in, module_of_items}
use Rattle.name_rules.specs.TypeDemands.{has_name}
use Rattle.name_rules.specs.Breaks.{struct_name, global_name, known_in}
use Rattle.name_rules.proofs.Distinct.{names}
use Rattle.name_rules.proofs.OnReading.Tests.{bytes_turn}

or_swap : (a b c : Bool) → (a || (b || c)) ≡ (b || (a || c))
or_swap true true c = refl
or_swap true false c = refl
or_swap false true c = refl
or_swap false false c = refl

-- one more somewhere behind these
any_further : {A : Type 0} (p : A → Bool) (c : Bool) (front xs ys : List A) → list_any p ys ≡ (c || list_any p xs) → list_any p (front ++ ys) ≡ (c || list_any p (front ++ xs))
any_further p c [] xs ys e = e
any_further p c (f ∷ front) xs ys e = ap (λ b. p f || b) (any_further p c front xs ys e) ∙ or_swap (p f) c (list_any p (front ++ xs))

same_or : (a b c : Bool) → a ≡ b → (a || c) ≡ false → b ≡ false
same_or true b c e h = absurd cc
same_or false b c e h = sym e

none_either : (a b c : Bool) → a ≡ (b || c) → b ≡ false → c ≡ false → a ≡ false
none_either a b c e f g = e ∙ or_from b c f g

-- one name more that none of the others has
distinct_further : (x : Bytes) (front xs ys : List Bytes) → ((p : Bytes → Bool) → list_any p ys ≡ (p x || list_any p xs)) → (is_distinct bytes_eq xs ≡ true → list_any (bytes_eq x) xs ≡ false → is_distinct bytes_eq ys ≡ true)
    → list_any (bytes_eq x) (front ++ xs) ≡ false → is_distinct bytes_eq (front ++ xs) ≡ true → is_distinct bytes_eq (front ++ ys) ≡ true
distinct_further x [] xs ys more made none apart = made apart none
distinct_further x (f ∷ front) xs ys more made none apart =
    let parts = and_parts (not (list_any (bytes_eq f) (front ++ xs))) (is_distinct bytes_eq (front ++ xs)) apart in
    let behind = or_parts (bytes_eq x f) (list_any (bytes_eq x) (front ++ xs)) none in
    let other = same_or (bytes_eq x f) (bytes_eq f x) (list_any (bytes_eq x) (front ++ xs)) (bytes_turn x f) none in
    let fresh = none_either (list_any (bytes_eq f) (front ++ ys)) (bytes_eq f x) (list_any (bytes_eq f) (front ++ xs)) (any_further (bytes_eq f) (bytes_eq f x) front xs ys (more (bytes_eq f))) other (not-true (list_any (bytes_eq f) (front ++ xs)) parts.0) in
    and_from (not (list_any (bytes_eq f) (front ++ ys))) (is_distinct bytes_eq (front ++ ys)) (ap not fresh) (distinct_further x front xs ys more made behind.1 parts.1)

one_more : (x : Bytes) (xs : List Bytes) → is_distinct bytes_eq xs ≡ true → list_any (bytes_eq x) xs ≡ false → is_distinct bytes_eq (x ∷ xs) ≡ true
one_more x xs apart none = and_from (not (list_any (bytes_eq x) xs)) (is_distinct bytes_eq xs) (ap not none) apart

abbrev variables : List ItemTree → List Bytes
variables items = map (λ (v : m.Variable). v.name) (filter_map variable_in items)

abbrev aliases : List ItemTree → List Bytes
aliases items = map (λ (a : m.Alias). a.name) (filter_map alias_in items)

abbrev functions : List ItemTree → List Bytes
functions items = map (λ (f : m.Function). f.name) (filter_map function_in items)

-- the names by kind, and in the order of the text
abbrev kinds : List ItemTree → List Bytes
kinds items = variables items ++ (aliases items ++ functions items)

abbrev in_text : List ItemTree → List Bytes
in_text items = names (filter_map global_name items)

any_kinds : (p : Bytes → Bool) (items : List ItemTree) → list_any p (kinds items) ≡ list_any p (in_text items)
any_kinds p [] = refl
any_kinds p (Variable v ∷ more) = ap (λ b. p v.name.name || b) (any_kinds p more)
any_kinds p (Alias a ∷ more) =
    any_further p (p a.name.name) (variables more) (aliases more ++ functions more) (a.name.name ∷ (aliases more ++ functions more)) refl
    ∙ ap (λ b. p a.name.name || b) (any_kinds p more)
any_kinds p (Declaration place head parameters variadic ∷ more) =
    any_further p (p head.name.name) (variables more) (aliases more ++ functions more) (aliases more ++ head.name.name ∷ functions more)
    (any_further p (p head.name.name) (aliases more) (functions more) (head.name.name ∷ functions more) refl)
    ∙ ap (λ b. p head.name.name || b) (any_kinds p more)
any_kinds p (Definition place head parameters blocks ∷ more) =
    any_further p (p head.name.name) (variables more) (aliases more ++ functions more) (aliases more ++ head.name.name ∷ functions more)
    (any_further p (p head.name.name) (aliases more) (functions more) (head.name.name ∷ functions more) refl)
    ∙ ap (λ b. p head.name.name || b) (any_kinds p more)
any_kinds p (SourceFilename place text ∷ more) = any_kinds p more
any_kinds p (DataLayout place text ∷ more) = any_kinds p more
any_kinds p (TargetTriple place text ∷ more) = any_kinds p more
any_kinds p (Struct name body ∷ more) = any_kinds p more
any_kinds p (Attributes place ∷ more) = any_kinds p more
any_kinds p (Metadata place ∷ more) = any_kinds p more

-- with a function more
function_distinct : (x : Bytes) (items : List ItemTree) → list_any (bytes_eq x) (in_text items) ≡ false → is_distinct bytes_eq (kinds items) ≡ true
    → is_distinct bytes_eq (variables items ++ (aliases items ++ x ∷ functions items)) ≡ true
function_distinct x items none apart =
    distinct_further x (variables items) (aliases items ++ functions items) (aliases items ++ x ∷ functions items)
    (λ p. any_further p (p x) (aliases items) (functions items) (x ∷ functions items) refl)
    (λ d n. distinct_further x (aliases items) (functions items) (x ∷ functions items) (λ p. refl) (λ e f. one_more x (functions items) e f) n d)
    (any_kinds (bytes_eq x) items ∙ none) apart

kinds_distinct : (items : List ItemTree) → is_distinct bytes_eq (in_text items) ≡ true → is_distinct bytes_eq (kinds items) ≡ true
kinds_distinct [] h = refl
kinds_distinct (Variable v ∷ more) h =
    let parts = and_parts (not (list_any (bytes_eq v.name.name) (in_text more))) (is_distinct bytes_eq (in_text more)) h in
    one_more v.name.name (kinds more) (kinds_distinct more parts.1) (any_kinds (bytes_eq v.name.name) more ∙ not-true (list_any (bytes_eq v.name.name) (in_text more)) parts.0)
kinds_distinct (Alias a ∷ more) h =
    let parts = and_parts (not (list_any (bytes_eq a.name.name) (in_text more))) (is_distinct bytes_eq (in_text more)) h in
    distinct_further a.name.name (variables more) (aliases more ++ functions more) (a.name.name ∷ (aliases more ++ functions more)) (λ p. refl)
    (λ e f. one_more a.name.name (aliases more ++ functions more) e f)
    (any_kinds (bytes_eq a.name.name) more ∙ not-true (list_any (bytes_eq a.name.name) (in_text more)) parts.0) (kinds_distinct more parts.1)
kinds_distinct (Declaration place head parameters variadic ∷ more) h =
    let parts = and_parts (not (list_any (bytes_eq head.name.name) (in_text more))) (is_distinct bytes_eq (in_text more)) h in
    function_distinct head.name.name more (not-true (list_any (bytes_eq head.name.name) (in_text more)) parts.0) (kinds_distinct more parts.1)
kinds_distinct (Definition place head parameters blocks ∷ more) h =
    let parts = and_parts (not (list_any (bytes_eq head.name.name) (in_text more))) (is_distinct bytes_eq (in_text more)) h in
    function_distinct head.name.name more (not-true (list_any (bytes_eq head.name.name) (in_text more)) parts.0) (kinds_distinct more parts.1)
kinds_distinct (SourceFilename place text ∷ more) h = kinds_distinct more h
kinds_distinct (DataLayout place text ∷ more) h = kinds_distinct more h
kinds_distinct (TargetTriple place text ∷ more) h = kinds_distinct more h
kinds_distinct (Struct name body ∷ more) h = kinds_distinct more h
kinds_distinct (Attributes place ∷ more) h = kinds_distinct more h
kinds_distinct (Metadata place ∷ more) h = kinds_distinct more h

-- no two entries have one name where no two items do
pub entries_distinct : (items : List ItemTree) → is_distinct bytes_eq (names (filter_map global_name items)) ≡ true → is_distinct bytes_eq (global_names (module_of_items items)) ≡ true
entries_distinct items h = kinds_distinct items h

turned : (name : Bytes) (all : List Bytes) → list_any (λ n. bytes_eq n name) all ≡ list_any (bytes_eq name) all
turned name [] = refl
turned name (n ∷ all) = λ i. bytes_turn n name i || turned name all i

-- what an item defines is an entry
pub entry_there : (items : List ItemTree) (name : Bytes) → has_name (known_in items).globals name ≡ true → has_entry (module_of_items items) name ≡ true
entry_there items name h = any_kinds (bytes_eq name) items ∙ (sym (turned name (in_text items)) ∙ h)

-- the names of the structs, in order
pub struct_names_same : (items : List ItemTree) → map (λ s. s.0) (structs_in items) ≡ names (filter_map struct_name items)
struct_names_same [] = refl
struct_names_same (Struct name body ∷ more) = ap (λ rest. name.name ∷ rest) (struct_names_same more)
struct_names_same (SourceFilename place text ∷ more) = struct_names_same more
struct_names_same (DataLayout place text ∷ more) = struct_names_same more
struct_names_same (TargetTriple place text ∷ more) = struct_names_same more
struct_names_same (Variable v ∷ more) = struct_names_same more
struct_names_same (Alias a ∷ more) = struct_names_same more
struct_names_same (Declaration place head parameters variadic ∷ more) = struct_names_same more
struct_names_same (Definition place head parameters blocks ∷ more) = struct_names_same more
struct_names_same (Attributes place ∷ more) = struct_names_same more
struct_names_same (Metadata place ∷ more) = struct_names_same more
