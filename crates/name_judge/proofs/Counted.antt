-- The counts of items, with one item more, and that they are few.
use Rattle.std.specs.Prelude.{◌≡◌, ℕ, zero, suc, ◌+◌, ◌≤◌, List, [], ◌∷◌, ◌++◌, length, filter_map, take, Option, Some, None}
use Rattle.std.specs.List.{cons_option}
use Rattle.std.proofs.Common.{ap, sym, ◌∙◌, arith, length-append}
use Rattle.std.proofs.lemmas.List.Elements.{filter_map-append}
use Rattle.std.proofs.lemmas.List.Sums.{sum_by-cons}
use Rattle.ir_syntax.specs.declared.item.Item.{Item}
use Rattle.ir_syntax.specs.Tree.{ItemTree, SourceFilename, DataLayout, TargetTriple, Struct, Variable, Alias, Declaration, Definition, Attributes, Metadata}
use Rattle.ir_syntax.specs.View.{item_view, items_view}
use Rattle.ir_syntax.specs.Counts.{counted, item_count}
use Rattle.name_rules.specs.ModuleOf.{struct_in, variable_in, function_in, alias_in}
use Rattle.name_judge.specs.declared.counts.ItemCounts.{ItemCounts}
use Rattle.name_judge.specs.Counting.{AreCounts}

-- no more are kept than there are
pub no_longer : {A B : Type 0} (f : A → Option B) (xs : List A) → length (filter_map f xs) ≤ length xs
no_longer {B = B} f [] = omega arith
no_longer {B = B} f (x ∷ xs) = by (f x) (no_longer f xs)
  where
    by : (o : Option B) → length (filter_map f xs) ≤ length xs → length (cons_option o (filter_map f xs)) ≤ suc (length xs)
    by None h = omega (arith, h)
    by (Some b) h = omega (arith, h)

-- of the first so many items no more are kept
pub below : {B : Type 0} (f : ItemTree → Option B) (i : ℕ) (items : List Item) → length (filter_map f (items_view (take i items))) ≤ i
below {B = B} f zero items = omega arith
below {B = B} f (suc i) [] = omega arith
below {B = B} f (suc i) (x ∷ items) = by (f (item_view x)) (below f i items)
  where
    by : (o : Option B) → length (filter_map f (items_view (take i items))) ≤ i → length (cons_option o (filter_map f (items_view (take i items)))) ≤ suc i
    by None h = omega (arith, h)
    by (Some b) h = omega (arith, h)

one_more : {B : Type 0} (f : ItemTree → Option B) (front : List ItemTree) (item : ItemTree) (whole : List ItemTree) (old new : ℕ) → whole ≡ front ++ item ∷ [] → old ≡ length (filter_map f front)
    → new ≡ old + length (filter_map f (item ∷ [])) → new ≡ length (filter_map f whole)
one_more f front item whole old new w o e =
    e ∙ ap (λ k. k + length (filter_map f (item ∷ []))) o
    ∙ sym (length-append (filter_map f front) (filter_map f (item ∷ [])))
    ∙ sym (ap length (filter_map-append f front (item ∷ [])))
    ∙ sym (ap (λ xs. length (filter_map f xs)) w)

-- one item more
pub counts_more : (front : List ItemTree) (item : ItemTree) (whole : List ItemTree) (old new : ItemCounts) → whole ≡ front ++ item ∷ [] → AreCounts old front
    → new.structs ≡ old.structs + length (filter_map struct_in (item ∷ []))
    → new.variables ≡ old.variables + length (filter_map variable_in (item ∷ []))
    → new.functions ≡ old.functions + length (filter_map function_in (item ∷ []))
    → new.aliases ≡ old.aliases + length (filter_map alias_in (item ∷ []))
    → AreCounts new whole
counts_more front item whole old new w are s v f a = record {
  structs = one_more struct_in front item whole old.structs new.structs w are.structs s;
  variables = one_more variable_in front item whole old.variables new.variables w are.variables v;
  functions = one_more function_in front item whole old.functions new.functions w are.functions f;
  aliases = one_more alias_in front item whole old.aliases new.aliases w are.aliases a;
}

at_least_one : (item : ItemTree) → 1 ≤ item_count item
at_least_one (SourceFilename place text) = omega arith
at_least_one (DataLayout place text) = omega arith
at_least_one (TargetTriple place text) = omega arith
at_least_one (Struct name body) = omega arith
at_least_one (Variable variable) = omega arith
at_least_one (Alias alias) = omega arith
at_least_one (Declaration place head parameters variadic) = omega arith
at_least_one (Definition place head parameters blocks) = omega arith
at_least_one (Attributes place) = omega arith
at_least_one (Metadata place) = omega arith

-- each item counts for one at least
pub no_fewer : (items : List ItemTree) → length items ≤ counted items
no_fewer [] = omega arith
no_fewer (item ∷ items) = let one = at_least_one item in let rest = no_fewer items in both (length items) (item_count item) (counted items) (counted (item ∷ items)) one rest (sum_by-cons item_count item items)
  where
    both : (a b c d : ℕ) → 1 ≤ b → a ≤ c → d ≡ b + c → suc a ≤ d
    both a b c d h k e = omega (arith, h, k, e)
