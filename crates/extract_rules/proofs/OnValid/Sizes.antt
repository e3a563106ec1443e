-- No function that is extracted is too large where none was.
use Rattle.std.proofs.Common.{◌≡◌, ◌*◌, Bool, true, false, List, [], ◌∷◌, find, filter_map, Some, None, refl, sym, ap, ◌∙◌, subst, nat_lt, arith, if◌then◌else◌}
use Rattle.std.specs.Prelude.{⊤}
use Rattle.std.specs.List.{AllByRecursion}
use Rattle.std.proofs.lemmas.Option.{same_Some}
use Rattle.module_arena.specs.Module.{AliasType, PlainType, FunctionType, Alias, Function}
use Rattle.module_arena.specs.Functions.{value_count, largest_product, is_too_large}
use Rattle.extract_rules.specs.Selected.{is_among, keeps_function}
use Rattle.extract_rules.specs.Extracted.{kept_names, kept_linkage, declared_function, extracted_function, alias_as_function, declared_aliases, Extracted}
use Rattle.extract_rules.specs.Valid.Laws.{ExtractedIsSmall}
use Rattle.extract_rules.proofs.OnValid.Gathered.{made_all}
use Rattle.extract_rules.proofs.OnValid.Kept.{either}
use Rattle.extract_rules.proofs.OnValid.Lists.{all_units, all_of_append}

none_found : {A : Type 0} (p : A → Bool) (xs : List A) → find p xs ≡ None → AllByRecursion (λ x. p x ≡ false) xs
none_found p [] h = tt
none_found {A = A} p (x ∷ xs) h = go (p x) refl h (none_found p xs)
  where
    go : (b : Bool) → p x ≡ b → (if b then Some x else find p xs) ≡ None → (find p xs ≡ None → AllByRecursion (λ x. p x ≡ false) xs) → AllByRecursion (λ x. p x ≡ false) (x ∷ xs)
    go true e h more = cc
    go false e h more = (e, more h)

found_none : {A : Type 0} (p : A → Bool) (xs : List A) → AllByRecursion (λ x. p x ≡ false) xs → find p xs ≡ None
found_none p [] a = refl
found_none p (x ∷ xs) a = ap (λ b. if b then Some x else find p xs) a.0 ∙ found_none p xs a.1

-- a declaration has no blocks
small : (f : Function) → f.body ≡ None → is_too_large f ≡ false
small f e = subst (λ b. is_too_large (record f { body = b }) ≡ false) (sym e) (ap (nat_lt largest_product) none)
  where
    none : 0 * value_count (record f { body = None }) ≡ 0
    none = omega arith

pub extract_is_small : ExtractedIsSmall
extract_is_small m s h =
    found_none is_too_large (Extracted m s).functions
    (all_of_append (λ f. is_too_large f ≡ false) (filter_map (extracted_function m s) m.functions) (filter_map (λ (a : Alias). alias_as_function a.name a.ty) (declared_aliases m s))
    (made_all (λ f. is_too_large f ≡ false) (extracted_function m s) (λ f. is_too_large f ≡ false)
    (λ f p y e. either (λ (g : Function). is_too_large g ≡ false) (keeps_function m s f) (is_among (kept_names m s) f.name) (record f { linkage = kept_linkage f.linkage }) (declared_function f) y e (λ k. p) (λ k c. small (declared_function f) refl))
    m.functions (none_found is_too_large m.functions h))
    (made_all (λ a. ⊤) (λ (a : Alias). alias_as_function a.name a.ty) (λ f. is_too_large f ≡ false) (λ a u g e. by_type a a.ty g e) (declared_aliases m s) (all_units (declared_aliases m s))))
  where
    by_type : (a : Alias) (t : AliasType) (g : Function) → alias_as_function a.name t ≡ Some g → is_too_large g ≡ false
    by_type a (PlainType t) g e = cc
    by_type a (FunctionType signature) g e = small g (ap (λ (x : Function). x.body) (sym (same_Some _ g e)))
