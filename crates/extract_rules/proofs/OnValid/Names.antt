-- No name stands twice in what is extracted.
use Rattle.std.proofs.Common.{◌≡◌, ◌+◌, ◌≤◌, Bool, true, false, not, ◌&&◌, List, [], ◌∷◌, ◌++◌, map, filter, filter_map, Option, Some, None, refl, ap, bytes_eq, cond, arith, if◌then◌else◌}
use Rattle.std.specs.List.{cons_option, list_all}
use Rattle.std.proofs.lemmas.Bool.{and_from, and_parts}
use Rattle.std.proofs.lemmas.List.{map-append}
use Rattle.ir_tables.specs.declared.linkage.Linkage.{Linkage}
use Rattle.ir_tables.specs.declared.linkage.Linkage.TheVariants.{External, Private, Internal, Common, Appending, ExternWeak, AvailableExternally, Linkonce, LinkonceOdr, Weak, WeakOdr}
use Rattle.module_arena.specs.Module.{Bytes, Variable, AliasType, PlainType, FunctionType, Alias, Function, Module}
use Rattle.module_arena.specs.Functions.{variable_names, alias_names, function_names}
use Rattle.module_arena.specs.Names.{is_name}
use Rattle.module_arena.specs.WellFormed.{IsWellFormed, global_names, are_good_names}
use Rattle.extract_rules.proofs.OnValid.Distinct.{distinct_apart}
use Rattle.extract_rules.specs.declared.selection.Selection.{Selection}
use Rattle.extract_rules.specs.Selected.{is_among, keeps_variable, keeps_function, keeps_alias}
use Rattle.extract_rules.specs.Extracted.{kept_names, kept_linkage, declared_variable, declared_function, extracted_variable, extracted_function, extracted_alias, alias_as_variable, alias_as_function, declared_aliases, Extracted}
use Rattle.extract_rules.proofs.OnValid.Kept.{either}
use Rattle.extract_rules.proofs.OnValid.Counted.{one_if, often, often_both, often_made, apart_once, once_distinct, all_of_fewer}

declared_name : (l : Linkage) (v : Variable) → (declared_variable l v).name ≡ v.name
declared_name External v = refl
declared_name Private v = refl
declared_name Internal v = refl
declared_name Common v = refl
declared_name Appending v = refl
declared_name ExternWeak v = refl
declared_name AvailableExternally v = refl
declared_name Linkonce v = refl
declared_name LinkonceOdr v = refl
declared_name Weak v = refl
declared_name WeakOdr v = refl

module _ (m : Module) (s : Selection) where
  abbrev declares : Alias → Bool
  declares a = not (keeps_alias m s a) && is_among (kept_names m s) a.name

  abbrev as_variable : Alias → Option Variable
  as_variable a = alias_as_variable m a.name a.target a.ty

  abbrev as_function : Alias → Option Function
  as_function a = alias_as_function a.name a.ty

  abbrev kept_as : List Alias → List Bytes
  kept_as xs = map (λ (a : Alias). a.name) (filter_map (extracted_alias m s) xs)

  abbrev variables_as : List Alias → List Bytes
  variables_as xs = map (λ (v : Variable). v.name) (filter_map as_variable xs)

  abbrev functions_as : List Alias → List Bytes
  functions_as xs = map (λ (f : Function). f.name) (filter_map as_function xs)

  -- an alias stays an alias, or becomes a variable or a function
  one_of_three : (n : Bytes) (as_ : List Alias) → often n (kept_as as_) + (often n (variables_as (filter declares as_)) + often n (functions_as (filter declares as_))) ≤ often n (map (λ (a : Alias). a.name) as_)
  one_of_three n [] = omega arith
  one_of_three n (a ∷ as_) = go (keeps_alias m s a) (is_among (kept_names m s) a.name) (one_of_three n as_)
    where
      rest : List Alias
      rest = filter declares as_

      typed : (t : AliasType) → often n (kept_as as_) + (often n (variables_as rest) + often n (functions_as rest)) ≤ often n (map (λ (a : Alias). a.name) as_)
          → often n (kept_as as_) + (often n (map (λ (v : Variable). v.name) (cons_option (alias_as_variable m a.name a.target t) (filter_map as_variable rest))) + often n (map (λ (f : Function). f.name) (cons_option (alias_as_function a.name t) (filter_map as_function rest)))) ≤ one_if (bytes_eq n a.name) + often n (map (λ (a : Alias). a.name) as_)
      typed (PlainType t) h = omega (arith, h)
      typed (FunctionType signature) h = omega (arith, h)

      go : (b c : Bool) → often n (kept_as as_) + (often n (variables_as rest) + often n (functions_as rest)) ≤ often n (map (λ (a : Alias). a.name) as_)
          → often n (map (λ (a : Alias). a.name) (cons_option (if b then Some (record a { linkage = kept_linkage a.linkage }) else None) (filter_map (extracted_alias m s) as_))) + (often n (variables_as (cond (not b && c) (a ∷ rest) rest)) + often n (functions_as (cond (not b && c) (a ∷ rest) rest))) ≤ one_if (bytes_eq n a.name) + often n (map (λ (a : Alias). a.name) as_)
      go true c h = omega (arith, h)
      go false false h = omega (arith, h)
      go false true h = typed a.ty h

  fewer : (n : Bytes) → often n (global_names (Extracted m s)) ≤ often n (global_names m)
  fewer n =
      let old1 = often_both n (variable_names m) (alias_names m ++ function_names m) in
      let old2 = often_both n (alias_names m) (function_names m) in
      let e = Extracted m s in
      let new1 = often_both n (variable_names e) (alias_names e ++ function_names e) in
      let new2 = often_both n (alias_names e) (function_names e) in
      let vs = ap (often n) (map-append (λ (v : Variable). v.name) (filter_map (extracted_variable m s) m.variables) (filter_map as_variable (declared_aliases m s))) in
      let vs2 = often_both n (map (λ (v : Variable). v.name) (filter_map (extracted_variable m s) m.variables)) (variables_as (declared_aliases m s)) in
      let fs = ap (often n) (map-append (λ (f : Function). f.name) (filter_map (extracted_function m s) m.functions) (filter_map as_function (declared_aliases m s))) in
      let fs2 = often_both n (map (λ (f : Function). f.name) (filter_map (extracted_function m s) m.functions)) (functions_as (declared_aliases m s)) in
      let three = one_of_three n m.aliases in
      let v = often_made (λ (v : Variable). v.name) (λ (v : Variable). v.name) (extracted_variable m s) (λ v w e. either (λ (w : Variable). w.name ≡ v.name) (keeps_variable m s v) (is_among (kept_names m s) v.name) (record v { linkage = kept_linkage v.linkage }) (declared_variable v.linkage v) w e (λ k. refl) (λ k c. declared_name v.linkage v)) n m.variables in
      let f = often_made (λ (f : Function). f.name) (λ (f : Function). f.name) (extracted_function m s) (λ f g e. either (λ (g : Function). g.name ≡ f.name) (keeps_function m s f) (is_among (kept_names m s) f.name) (record f { linkage = kept_linkage f.linkage }) (declared_function f) g e (λ k. refl) (λ k c. refl)) n m.functions in
      omega (arith, old1, old2, new1, new2, vs, vs2, fs, fs2, three, v, f)

  once : IsWellFormed m → (n : Bytes) → often n (global_names (Extracted m s)) ≤ 1
  once good n =
      let all = apart_once (global_names m) (distinct_apart (global_names m) (and_parts (list_all is_name (global_names m)) _ good.global_names).1) n in
      let less = fewer n in
      omega (arith, all, less)

  pub global_names_good : IsWellFormed m → are_good_names (global_names (Extracted m s)) ≡ true
  global_names_good good =
      and_from _ _ (all_of_fewer is_name (global_names (Extracted m s)) (global_names m) fewer (and_parts (list_all is_name (global_names m)) _ good.global_names).0)
      (once_distinct (global_names (Extracted m s)) (once good))
