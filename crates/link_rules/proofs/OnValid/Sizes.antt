-- No function of the linked module is too large where no part has one.
use Rattle.std.proofs.Common.{◌≡◌, ℕ, suc, ◌+◌, ◌*◌, Bool, true, false, cond, List, [], ◌∷◌, map, length, find, filter_map, sum_by, count_by, Option, Some, None, refl, sym, ap, ap₂, ◌∙◌, option_map, nat_lt, arith, if◌then◌else◌}
use Rattle.std.specs.Prelude.{⊤, is_some}
use Rattle.std.specs.List.{AllByRecursion}
use Rattle.std.proofs.lemmas.List.Sums.{sum_by-cons}
use Rattle.module_arena.specs.Functions.{value_count, largest_product, product, is_too_large, first_too_large}
use Rattle.module_arena.specs.Module.{Bytes, Instruction, Block, Function, Module}
use Rattle.module_arena.specs.Renamed.{renamed_instruction, renamed_block}
use Rattle.ir_tables.specs.declared.linkage.Linkage.{Linkage}
use Rattle.linkage_rules.specs.Entries.{Entry, entries, entries_of, part_at}
use Rattle.linkage_rules.specs.declared.symbol.Symbol.{Symbol}
use Rattle.linkage_rules.specs.Globals.{Global, OfVariable, OfFunction, OfAlias, is_written}
use Rattle.linkage_rules.specs.Lists.{first}
use Rattle.linkage_rules.specs.Winner.{definitions, home}
use Rattle.linkage_rules.proofs.Gathered.{all_mapped}
use Rattle.link_rules.specs.Linked.{declared_linkage, linked_block, linked_parameter, linked_definition, linked_declaration, linked_first, linked_by, linked, linked_globals, function_if, link_result}
use Rattle.link_rules.specs.Rename.{new_global, renaming}
use Rattle.link_rules.specs.Structs.{new_struct, linked_type}
use Rattle.link_rules.proofs.Agreed.{all_from_at}
use Rattle.link_rules.proofs.Merged.{declares}
use Rattle.link_rules.proofs.Parts.{entries_by, globals_all}
use Rattle.link_rules.proofs.Searches.{all_units}
use Rattle.link_rules.proofs.Symbols.{home_is}
use Rattle.link_rules.specs.Valid.Laws.{LinkedIsSmall}

none_found : {A : Type 0} (p : A → Bool) (xs : List A) → find p xs ≡ None → AllByRecursion (λ x. p x ≡ false) xs
none_found p [] h = tt
none_found {A = A} p (x ∷ xs) h = go (p x) refl h (none_found p xs)
  where
    go : (b : Bool) → p x ≡ b → (if b then Some x else find p xs) ≡ None → (find p xs ≡ None → AllByRecursion (λ x. p x ≡ false) xs) → AllByRecursion (λ x. p x ≡ false) (x ∷ xs)
    go true e h more = cc
    go false e h more = (e, more h)

found_none : {A : Type 0} (p : A → Bool) (xs : List A) → AllByRecursion (λ x. p x ≡ false) xs → find p xs ≡ None
found_none p [] a = refl
found_none p (x ∷ xs) a = ap (λ b. if b then Some x else find p xs) a.0 ∙ found_none p xs a.1

-- RENAMING KEEPS BLOCKS AND VALUES

sums_map : {A B : Type 0} (f : B → ℕ) (g : A → B) (xs : List A) → sum_by f (map g xs) ≡ sum_by (λ x. f (g x)) xs
sums_map f g [] = refl
sums_map f g (x ∷ xs) = sum_by-cons f (g x) (map g xs) ∙ ap (λ n. f (g x) + n) (sums_map f g xs) ∙ sym (sum_by-cons (λ y. f (g y)) x xs)

length_again : {A B : Type 0} (g : A → B) (xs : List A) → length (map g xs) ≡ length xs
length_again g [] = refl
length_again g (x ∷ xs) = ap suc (length_again g xs)

abbrev results : Block → ℕ
results b = count_by (λ (i : Instruction). is_some i.result) b.instructions

module _ (names globals : Bytes → Bytes) where
  results_again : (b : Block) → results (renamed_block names globals b) ≡ results b
  results_again b = sums_map (λ (i : Instruction). cond (is_some i.result) 1 0) (renamed_instruction names globals) b.instructions

  all_results_again : (bs : List Block) → sum_by results (map (renamed_block names globals) bs) ≡ sum_by results bs
  all_results_again bs = sums_map results (renamed_block names globals) bs ∙ ap (λ (f : Block → ℕ). sum_by f bs) (λ k b. results_again b k)

-- ENTRIES

-- not too large, if it is a function
abbrev IsSmall : Global → Type 0
IsSmall (OfVariable v) = ⊤
IsSmall (OfFunction f) = is_too_large f ≡ false
IsSmall (OfAlias a) = ⊤

-- a declaration has no blocks
declared_small : (f : Function) → f.body ≡ None → is_too_large f ≡ false
declared_small f e = ap (λ b. is_too_large (record f { body = b })) e ∙ ap (nat_lt largest_product) none
  where
    none : 0 * value_count (record f { body = None }) ≡ 0
    none = omega arith

unwritten_small : (g : Global) → is_written g ≡ false → IsSmall g
unwritten_small (OfVariable v) h = tt
unwritten_small (OfFunction f) h = declared_small f (nothing f.body h)
  where
    nothing : (b : Option (List Block)) → is_some b ≡ false → b ≡ None
    nothing None k = refl
    nothing (Some bs) k = cc
unwritten_small (OfAlias a) h = tt

module _ (parts : List Module) where
  module _ (name : Bytes) (i : ℕ) (f : Function) where
    abbrev after : Option (List Block) → Function
    after b = record {
      name = name;
      linkage = f.linkage;
      returns = linked_type parts i f.returns;
      parameters = map (linked_parameter parts i) f.parameters;
      variadic = f.variadic;
      body = option_map (map (linked_block parts i)) b;
    }

    product_again : (b : Option (List Block)) → product (after b) ≡ product (record f { body = b })
    product_again None = ap (λ n. 0 * (n + sum_by results [])) (length_again (linked_parameter parts i) f.parameters)
    product_again (Some bs) =
        ap₂ (λ n k. n * k) (length_again (linked_block parts i) bs)
        (ap₂ (λ n k. n + k) (length_again (linked_parameter parts i) f.parameters) (all_results_again (new_struct parts i) (new_global parts i) bs))

  definition_small : (name : Bytes) (e : Entry) (es : List Entry) (g : Global) → IsSmall g → IsSmall (linked_definition parts name e es g)
  definition_small name e es (OfVariable v) h = tt
  definition_small name e es (OfFunction f) h = ap (nat_lt largest_product) (product_again name e.part f f.body) ∙ h
  definition_small name e es (OfAlias a) h = tt

  declaration_small : (linkage : Linkage) (name : Bytes) (i : ℕ) (g : Global) → IsSmall (linked_declaration linkage parts name i g)
  declaration_small linkage name i g = unwritten_small (linked_declaration linkage parts name i g) (declares linkage parts name i g).unwritten

  first_small : (s : Symbol) (name : Bytes) (o : Option Entry) → IsSmall (linked_first parts s name o)
  first_small s name None = tt
  first_small s name (Some e) = declaration_small (declared_linkage parts s) name e.part e.global

  linked_small : AllByRecursion (λ e. IsSmall e.global) (entries parts) → (row : Symbol × Bytes) → IsSmall (linked parts row)
  linked_small all row = by_home (home parts row.0) refl
    where
      by_home : (o : Option Entry) → home parts row.0 ≡ o → IsSmall (linked_by parts row.0 row.1 o)
      by_home None h = first_small row.0 row.1 (first (entries_of parts row.0))
      by_home (Some e) h = definition_small row.1 e (definitions parts row.0) e.global (home_is parts (λ d. IsSmall d.global) row.0 e all h).0.0

functions_small : (gs : List Global) → AllByRecursion IsSmall gs → AllByRecursion (λ f. is_too_large f ≡ false) (filter_map function_if gs)
functions_small [] a = tt
functions_small (OfVariable v ∷ gs) a = functions_small gs a.1
functions_small (OfFunction f ∷ gs) a = (a.0, functions_small gs a.1)
functions_small (OfAlias x ∷ gs) a = functions_small gs a.1

pub link_is_small : LinkedIsSmall
link_is_small parts small =
    found_none is_too_large (link_result parts).functions
    (functions_small (linked_globals parts) (all_mapped IsSmall (linked parts) (renaming parts) (all_from_at _ (renaming parts) (λ k row at. linked_small parts all row))))
  where
    all : AllByRecursion (λ e. IsSmall e.global) (entries parts)
    all =
        entries_by (λ m. first_too_large m ≡ None) (λ i g. IsSmall g) parts small (λ i h.
        globals_all IsSmall (part_at parts i) (all_units (part_at parts i).variables) (none_found is_too_large (part_at parts i).functions h) (all_units (part_at parts i).aliases))
