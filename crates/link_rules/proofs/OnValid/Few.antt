-- Where linked parts pass no count, the linked module has few entries.
use Rattle.std.proofs.Common.{◌≡◌, ℕ, suc, true, false, List, [], ◌∷◌, ◌++◌, map, length, filter, filter_map, Option, Some, None, refl, sym, ap, ◌∙◌, option_map, nat_lt, nat_le, ltb-false, le-leb}
use Rattle.std.specs.List.{AllByRecursion}
use Rattle.std.proofs.lemmas.Bool.{and_from}
use Rattle.std.proofs.lemmas.List.{append_assoc, map-append}
use Rattle.module_arena.specs.Module.{Variable, Alias, Function, Module}
use Rattle.module_arena.specs.WellFormed.{count_for_aliases, has_few_entries}
use Rattle.linkage_rules.specs.Globals.{Global, OfVariable, OfFunction, OfAlias, is_alias}
use Rattle.linkage_rules.specs.declared.symbol.Symbol.{Symbol}
use Rattle.linkage_rules.specs.Symbols.{variable_symbols, function_symbols, alias_symbols}
use Rattle.link_rules.proofs.Agreed.{first_none, none_passes}
use Rattle.link_rules.specs.Structs.{struct_map}
use Rattle.link_rules.specs.Counts.{Count, limit, counts, too_many, count_of_aliases}
use Rattle.link_rules.specs.Linked.{linked, linked_globals, variable_if, function_if, alias_if, link_result}
use Rattle.link_rules.proofs.Merged.{Row, variable_rows, function_rows, alias_rows, renaming_split}
use Rattle.link_rules.proofs.Sorted.{IsVariable, IsFunction}
use Rattle.link_rules.proofs.Result.{variable_keys, function_keys, alias_keys, variables_linked, functions_linked, aliases_linked}
use Rattle.link_rules.specs.Valid.Laws.{AreLinkable}
use Rattle.link_rules.proofs.OnValid.Renaming.{together}

length_map : {A B : Type 0} (f : A → B) (xs : List A) → length (map f xs) ≡ length xs
length_map f [] = refl
length_map f (x ∷ xs) = ap suc (length_map f xs)

-- how many there are of each kind
pub record Kinds (gs : List Global) (vs fs as_ : ℕ) : Type 0 where
  pub variables : length (filter_map variable_if gs) ≡ vs
  pub functions : length (filter_map function_if gs) ≡ fs
  pub aliases : length (filter_map alias_if gs) ≡ as_

aliases_of : (gs : List Global) → AllByRecursion (λ g. is_alias g ≡ true) gs → Kinds gs 0 0 (length gs)
aliases_of [] a = record { variables = refl; functions = refl; aliases = refl }
aliases_of (OfAlias b ∷ gs) a = let rest = aliases_of gs a.1 in record { variables = rest.variables; functions = rest.functions; aliases = ap suc rest.aliases }
aliases_of (OfVariable v ∷ gs) a = let no_alias : false ≡ true = a.0 in cc
aliases_of (OfFunction f ∷ gs) a = let no_alias : false ≡ true = a.0 in cc

functions_before : (gs hs : List Global) (as_ : ℕ) → AllByRecursion IsFunction gs → Kinds hs 0 0 as_ → Kinds (gs ++ hs) 0 (length gs) as_
functions_before [] hs as_ a k = k
functions_before (OfFunction f ∷ gs) hs as_ a k = let rest = functions_before gs hs as_ a.1 k in record { variables = rest.variables; functions = ap suc rest.functions; aliases = rest.aliases }
functions_before (OfVariable v ∷ gs) hs as_ a k = cc (a.0.0)
functions_before (OfAlias b ∷ gs) hs as_ a k = cc (a.0.1)

variables_before : (gs hs : List Global) (fs as_ : ℕ) → AllByRecursion IsVariable gs → Kinds hs 0 fs as_ → Kinds (gs ++ hs) (length gs) fs as_
variables_before [] hs fs as_ a k = k
variables_before (OfVariable v ∷ gs) hs fs as_ a k = let rest = variables_before gs hs fs as_ a.1 k in record { variables = ap suc rest.variables; functions = rest.functions; aliases = rest.aliases }
variables_before (OfFunction f ∷ gs) hs fs as_ a k = cc (a.0.0)
variables_before (OfAlias b ∷ gs) hs fs as_ a k = cc (a.0.1)

all_map : (parts : List Module) (P : Global → Type 0) (rows : List Row) → AllByRecursion (λ r. P (linked parts r)) rows → AllByRecursion P (map (linked parts) rows)
all_map parts P [] a = tt
all_map parts P (r ∷ rows) a = (a.0, all_map parts P rows a.1)

within : (n k : ℕ) → nat_lt k n ≡ false → nat_le n k ≡ true
within n k h = le-leb n k (ltb-false k n h)

first_some : {A B : Type 0} (f : A → B) (o : Option A) → option_map f o ≡ None → o ≡ None
first_some f None h = refl
first_some f (Some a) h = cc

counts_same : (as_ : List Alias) (vs : List Variable) (fs : List Function) → count_for_aliases as_ vs fs ≡ count_of_aliases (length vs) (length fs) (length as_)
counts_same [] vs fs = refl
counts_same (a ∷ as_) vs fs = refl

module _ (parts : List Module) (fine : AreLinkable parts) (few : too_many parts ≡ None) where
  by_kind : Kinds (linked_globals parts) (length (variable_symbols parts)) (length (function_symbols parts)) (length (alias_symbols parts))
  by_kind =
      let three : Kinds (map (linked parts) (variable_rows parts) ++ (map (linked parts) (function_rows parts) ++ map (linked parts) (alias_rows parts))) (length (map (linked parts) (variable_rows parts))) (length (map (linked parts) (function_rows parts))) (length (map (linked parts) (alias_rows parts))) =
      variables_before _ _ _ _ (all_map parts IsVariable (variable_rows parts) (variables_linked parts (together parts fine)))
      (functions_before _ _ _ (all_map parts IsFunction (function_rows parts) (functions_linked parts (together parts fine)))
      (aliases_of _ (all_map parts (λ g. is_alias g ≡ true) (alias_rows parts) (aliases_linked parts (together parts fine))))) in
      let same : linked_globals parts ≡ map (linked parts) (variable_rows parts) ++ (map (linked parts) (function_rows parts) ++ map (linked parts) (alias_rows parts)) =
      ap (map (linked parts)) (renaming_split parts) ∙ map-append (linked parts) (variable_rows parts ++ function_rows parts) (alias_rows parts)
      ∙ ap (λ l. l ++ map (linked parts) (alias_rows parts)) (map-append (linked parts) (variable_rows parts) (function_rows parts))
      ∙ append_assoc (map (linked parts) (variable_rows parts)) (map (linked parts) (function_rows parts)) (map (linked parts) (alias_rows parts)) in
      record {
        variables = ap (λ gs. length (filter_map variable_if gs)) same ∙ three.variables ∙ counted (variable_rows parts) (variable_symbols parts) (variable_keys parts);
        functions = ap (λ gs. length (filter_map function_if gs)) same ∙ three.functions ∙ counted (function_rows parts) (function_symbols parts) (function_keys parts);
        aliases = ap (λ gs. length (filter_map alias_if gs)) same ∙ three.aliases ∙ counted (alias_rows parts) (alias_symbols parts) (alias_keys parts);
      }
    where
      counted : (rows : List Row) (ss : List Symbol) → map (λ r. r.0) rows ≡ ss → length (map (linked parts) rows) ≡ length ss
      counted rows ss e = length_map (linked parts) rows ∙ sym (length_map (λ r. r.0) rows) ∙ ap length e

  pub passed : AllByRecursion (λ (c : Count). nat_lt (limit c.kind) c.number ≡ false) (counts parts)
  passed = none_passes (λ (c : Count). nat_lt (limit c.kind) c.number) (counts parts) (first_none (filter (λ (c : Count). nat_lt (limit c.kind) c.number) (counts parts)) (first_some _ _ few))

  pub few_entries : has_few_entries (link_result parts) ≡ true
  few_entries =
      let m = link_result parts in
      and_from _ _ (ap (λ n. nat_le n 262144) (length_map _ (struct_map parts)) ∙ within (length (struct_map parts)) 262144 passed.0)
      (and_from _ _ (ap (λ n. nat_le n 262144) by_kind.variables ∙ within (length (variable_symbols parts)) 262144 passed.1.0)
      (and_from _ _ (ap (λ n. nat_le n 262144) by_kind.functions ∙ within (length (function_symbols parts)) 262144 passed.1.1.0)
      (ap (λ n. nat_le n 262144) (counts_same m.aliases m.variables m.functions ∙ (λ i. count_of_aliases (by_kind.variables i) (by_kind.functions i) (by_kind.aliases i)))
      ∙ within (count_of_aliases (length (variable_symbols parts)) (length (function_symbols parts)) (length (alias_symbols parts))) 262144 passed.1.1.1.0)))
