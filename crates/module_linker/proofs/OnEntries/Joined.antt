-- One entry more behind the declared ones, and its id.
use Rattle.std.proofs.Common.{◌≡◌, ℕ, suc, ◌+◌, List, [], ◌∷◌, ◌++◌, length, filter_map, Option, Some, None, refl, sym, ap, ◌∙◌, append-nil, arith}
use Rattle.std.specs.List.{cons_option}
use Rattle.std.proofs.lemmas.List.{append_assoc}
use Rattle.std.proofs.lemmas.List.Elements.{filter_map-append}
use Rattle.linkage_rules.specs.Globals.{Global, OfVariable, OfFunction, OfAlias}
use Rattle.module_arena.specs.Module.{Module}
use Rattle.module_arena.specs.declared.entry.GlobalId.{GlobalId}
use Rattle.module_arena.specs.declared.entry.GlobalId.TheVariants as global
use Rattle.link_rules.specs.Linked.{variable_if, function_if, alias_if}
use Rattle.module_linker.specs.Stages.Declared.{with_global, with_globals, ids_from}

-- one more of a kind stands behind those of its kind
one_more : {A B : Type 0} (f : A → Option B) (before : List B) (xs : List A) (x : A) (y : B) → f x ≡ Some y → before ++ filter_map f (xs ++ x ∷ []) ≡ (before ++ filter_map f xs) ++ y ∷ []
one_more f before xs x y e =
    ap (λ l. before ++ l) (filter_map-append f xs (x ∷ []) ∙ ap (λ o. filter_map f xs ++ cons_option o []) e)
    ∙ sym (append_assoc before (filter_map f xs) (y ∷ []))

-- none more of another
none_more : {A B : Type 0} (f : A → Option B) (before : List B) (xs : List A) (x : A) → f x ≡ None → before ++ filter_map f (xs ++ x ∷ []) ≡ before ++ filter_map f xs
none_more f before xs x e = ap (λ l. before ++ l) (filter_map-append f xs (x ∷ []) ∙ ap (λ o. filter_map f xs ++ cons_option o []) e ∙ append-nil (filter_map f xs))

pub with_one_more : (m : Module) (gs : List Global) (g : Global) → with_globals m (gs ++ g ∷ []) ≡ with_global (with_globals m gs) g
with_one_more m gs (OfVariable v) = λ i. record m {
  variables = one_more variable_if m.variables gs (OfVariable v) v refl i;
  aliases = none_more alias_if m.aliases gs (OfVariable v) refl i;
  functions = none_more function_if m.functions gs (OfVariable v) refl i;
}
with_one_more m gs (OfFunction f) = λ i. record m {
  variables = none_more variable_if m.variables gs (OfFunction f) refl i;
  aliases = none_more alias_if m.aliases gs (OfFunction f) refl i;
  functions = one_more function_if m.functions gs (OfFunction f) f refl i;
}
with_one_more m gs (OfAlias a) = λ i. record m {
  variables = none_more variable_if m.variables gs (OfAlias a) refl i;
  aliases = one_more alias_if m.aliases gs (OfAlias a) a refl i;
  functions = none_more function_if m.functions gs (OfAlias a) refl i;
}

-- the id of an entry behind these
abbrev pub id_behind : ℕ → ℕ → ℕ → List Global → Global → GlobalId
id_behind v f a gs (OfVariable x) = global.Variable (v + length (filter_map variable_if gs))
id_behind v f a gs (OfFunction x) = global.Function (f + length (filter_map function_if gs))
id_behind v f a gs (OfAlias x) = global.Alias (a + length (filter_map alias_if gs))

-- the ids of one entry more
pub ids_one_more : (v f a : ℕ) (gs : List Global) (g : Global) → ids_from v f a (gs ++ g ∷ []) ≡ ids_from v f a gs ++ id_behind v f a gs g ∷ []
ids_one_more v f a [] (OfVariable x) = let e : v ≡ v + 0 = omega arith in ap (λ n. global.Variable n ∷ []) e
ids_one_more v f a [] (OfFunction x) = let e : f ≡ f + 0 = omega arith in ap (λ n. global.Function n ∷ []) e
ids_one_more v f a [] (OfAlias x) = let e : a ≡ a + 0 = omega arith in ap (λ n. global.Alias n ∷ []) e
ids_one_more v f a (OfVariable x ∷ gs) g = ap (λ l. global.Variable v ∷ l) (ids_one_more (v + 1) f a gs g ∙ ap (λ id. ids_from (v + 1) f a gs ++ id ∷ []) (later g))
  where
    later : (g : Global) → id_behind (v + 1) f a gs g ≡ id_behind v f a (OfVariable x ∷ gs) g
    later (OfVariable y) = let e : v + 1 + length (filter_map variable_if gs) ≡ v + suc (length (filter_map variable_if gs)) = omega arith in ap global.Variable e
    later (OfFunction y) = refl
    later (OfAlias y) = refl
ids_one_more v f a (OfFunction x ∷ gs) g = ap (λ l. global.Function f ∷ l) (ids_one_more v (f + 1) a gs g ∙ ap (λ id. ids_from v (f + 1) a gs ++ id ∷ []) (later g))
  where
    later : (g : Global) → id_behind v (f + 1) a gs g ≡ id_behind v f a (OfFunction x ∷ gs) g
    later (OfVariable y) = refl
    later (OfFunction y) = let e : f + 1 + length (filter_map function_if gs) ≡ f + suc (length (filter_map function_if gs)) = omega arith in ap global.Function e
    later (OfAlias y) = refl
ids_one_more v f a (OfAlias x ∷ gs) g = ap (λ l. global.Alias a ∷ l) (ids_one_more v f (a + 1) gs g ∙ ap (λ id. ids_from v f (a + 1) gs ++ id ∷ []) (later g))
  where
    later : (g : Global) → id_behind v f (a + 1) gs g ≡ id_behind v f a (OfAlias x ∷ gs) g
    later (OfVariable y) = refl
    later (OfFunction y) = refl
    later (OfAlias y) = let e : a + 1 + length (filter_map alias_if gs) ≡ a + suc (length (filter_map alias_if gs)) = omega arith in ap global.Alias e
