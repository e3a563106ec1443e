-- Variables, functions and aliases, taken out of what a module has and put together again.
use Rattle.std.proofs.Common.{◌≡◌, true, false, List, [], ◌∷◌, ◌++◌, map, refl, ap, ap₂, ◌∙◌, append_assoc, append-nil}
use Rattle.std.specs.Prelude.{filter_map}
use Rattle.std.specs.List.{AllByRecursion}
use Rattle.linkage_rules.specs.Globals.{Global, OfVariable, OfFunction, OfAlias, is_variable, is_alias}
use Rattle.link_rules.specs.Linked.{variable_if, function_if, alias_if}

-- neither a function nor an alias
abbrev pub IsVariable : Global → Type 0
IsVariable g = (is_variable g ≡ true) × (is_alias g ≡ false)

-- neither a variable nor an alias
abbrev pub IsFunction : Global → Type 0
IsFunction g = (is_variable g ≡ false) × (is_alias g ≡ false)

variables_first : (gs hs : List Global) → AllByRecursion IsVariable gs
    → (map OfVariable (filter_map variable_if (gs ++ hs)) ≡ gs ++ map OfVariable (filter_map variable_if hs)) × (filter_map function_if (gs ++ hs) ≡ filter_map function_if hs) × (filter_map alias_if (gs ++ hs) ≡ filter_map alias_if hs)
variables_first [] hs a = (refl, refl, refl)
variables_first (OfVariable v ∷ gs) hs a = let rest = variables_first gs hs a.1 in (ap (λ l. OfVariable v ∷ l) rest.0, rest.1, rest.2)
variables_first (OfFunction f ∷ gs) hs a = let no : false ≡ true = a.0.0 in cc
variables_first (OfAlias x ∷ gs) hs a = let no : true ≡ false = a.0.1 in cc

functions_first : (gs hs : List Global) → AllByRecursion IsFunction gs
    → (filter_map variable_if (gs ++ hs) ≡ filter_map variable_if hs) × (map OfFunction (filter_map function_if (gs ++ hs)) ≡ gs ++ map OfFunction (filter_map function_if hs)) × (filter_map alias_if (gs ++ hs) ≡ filter_map alias_if hs)
functions_first [] hs a = (refl, refl, refl)
functions_first (OfFunction f ∷ gs) hs a = let rest = functions_first gs hs a.1 in (rest.0, ap (λ l. OfFunction f ∷ l) rest.1, rest.2)
functions_first (OfVariable v ∷ gs) hs a = let no : true ≡ false = a.0.0 in cc
functions_first (OfAlias x ∷ gs) hs a = let no : true ≡ false = a.0.1 in cc

aliases_alone : (gs : List Global) → AllByRecursion (λ g. is_alias g ≡ true) gs → (filter_map variable_if gs ≡ []) × (filter_map function_if gs ≡ []) × (map OfAlias (filter_map alias_if gs) ≡ gs)
aliases_alone [] a = (refl, refl, refl)
aliases_alone (OfAlias x ∷ gs) a = let rest = aliases_alone gs a.1 in (rest.0, rest.1, ap (λ l. OfAlias x ∷ l) rest.2)
aliases_alone (OfVariable v ∷ gs) a = let no : false ≡ true = a.0 in cc
aliases_alone (OfFunction f ∷ gs) a = let no : false ≡ true = a.0 in cc

-- all that there is, by kind
abbrev pub by_kind : List Global → List Global
by_kind gs = map OfVariable (filter_map variable_if gs) ++ map OfFunction (filter_map function_if gs) ++ map OfAlias (filter_map alias_if gs)

pub sorted : (vs fs gs : List Global) → AllByRecursion IsVariable vs → AllByRecursion IsFunction fs → AllByRecursion (λ g. is_alias g ≡ true) gs → by_kind (vs ++ fs ++ gs) ≡ vs ++ fs ++ gs
sorted vs fs gs a b c =
    let v = variables_first vs (fs ++ gs) a in
    let f = functions_first fs gs b in
    let g = aliases_alone gs c in
    ap by_kind (append_assoc vs fs gs)
    ∙ ap₂ (λ x y. x ++ y)
    (ap₂ (λ x y. x ++ y)
    (v.0 ∙ ap (λ l. vs ++ map OfVariable l) (f.0 ∙ g.0) ∙ append-nil vs)
    (ap (map OfFunction) v.1 ∙ f.1 ∙ ap (λ l. fs ++ map OfFunction l) g.1 ∙ append-nil fs))
    (ap (map OfAlias) (v.2 ∙ f.2) ∙ g.2)
