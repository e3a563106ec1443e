-- The entry at a place gets its definition, among others that have theirs and others that do not.
use Rattle.std.proofs.Common.{◌≡◌, ℕ, zero, suc, ◌+◌, List, [], ◌∷◌, ◌++◌, length, take, filter_map, slice_get, Option, Some, None, refl, sym, ap, ◌∙◌, arith}
use Rattle.std.specs.List.{cons_option}
use Rattle.std.specs.Option.{option_map}
use Rattle.std.proofs.lemmas.Option.{same_Some}
use Rattle.linkage_rules.specs.Globals.{Global, OfVariable, OfFunction, OfAlias}
use Rattle.linkage_rules.specs.Ids.{global_at}
use Rattle.module_arena.specs.Changes.{changed_at, initialised, targeted, defined}
use Rattle.module_arena.specs.Module.{Block, Constant, Variable, Alias, Function, Module}
use Rattle.module_arena.specs.declared.entry.GlobalId.{GlobalId}
use Rattle.module_arena.specs.declared.entry.GlobalId.TheVariants as global
use Rattle.link_rules.specs.Linked.{variable_if, function_if, alias_if}
use Rattle.item_build.proofs.Walked.{changed_between, get_between, parted}
use Rattle.module_linker.specs.Stages.Declared.{bare, ids_from, with_globals}
use Rattle.module_linker.specs.Stages.Filled.{with_initialiser, with_blocks, defined_as}
use Rattle.module_linker.specs.Stages.Ground.{ground}

-- ---- the id of an entry

-- the id of an entry behind these, where so many of each kind stand before
abbrev id_behind : ℕ → ℕ → ℕ → List Global → Global → GlobalId
id_behind v f a gs (OfVariable _) = global.Variable (v + length (filter_map variable_if gs))
id_behind v f a gs (OfFunction _) = global.Function (f + length (filter_map function_if gs))
id_behind v f a gs (OfAlias _) = global.Alias (a + length (filter_map alias_if gs))

behind_variable : (v f a : ℕ) (x : Variable) (gs : List Global) (g : Global) → id_behind (v + 1) f a gs g ≡ id_behind v f a (OfVariable x ∷ gs) g
behind_variable v f a x gs (OfVariable y) = ap global.Variable (omega arith)
behind_variable v f a x gs (OfFunction y) = refl
behind_variable v f a x gs (OfAlias y) = refl

behind_function : (v f a : ℕ) (x : Function) (gs : List Global) (g : Global) → id_behind v (f + 1) a gs g ≡ id_behind v f a (OfFunction x ∷ gs) g
behind_function v f a x gs (OfVariable y) = refl
behind_function v f a x gs (OfFunction y) = ap global.Function (omega arith)
behind_function v f a x gs (OfAlias y) = refl

behind_alias : (v f a : ℕ) (x : Alias) (gs : List Global) (g : Global) → id_behind v f (a + 1) gs g ≡ id_behind v f a (OfAlias x ∷ gs) g
behind_alias v f a x gs (OfVariable y) = refl
behind_alias v f a x gs (OfFunction y) = refl
behind_alias v f a x gs (OfAlias y) = ap global.Alias (omega arith)

-- the first id of a list that begins with this entry
first_id : (v f a : ℕ) (x : Global) (gs : List Global) → slice_get (ids_from v f a (x ∷ gs)) 0 ≡ Some (id_behind v f a [] x)
first_id v f a (OfVariable x) gs = ap (λ n. Some (global.Variable n)) (omega arith)
first_id v f a (OfFunction x) gs = ap (λ n. Some (global.Function n)) (omega arith)
first_id v f a (OfAlias x) gs = ap (λ n. Some (global.Alias n)) (omega arith)

id_at : (v f a : ℕ) (gs : List Global) (k : ℕ) (g : Global) (id : GlobalId) → slice_get gs k ≡ Some g → slice_get (ids_from v f a gs) k ≡ Some id → id ≡ id_behind v f a (take k gs) g
id_at v f a [] k g id at is = cc
id_at v f a (x ∷ gs) zero g id at is = same_Some id _ (sym is ∙ first_id v f a x gs) ∙ ap (id_behind v f a []) (same_Some x g at)
id_at v f a (OfVariable x ∷ gs) (suc k) g id at is = id_at (v + 1) f a gs k g id at is ∙ behind_variable v f a x (take k gs) g
id_at v f a (OfFunction x ∷ gs) (suc k) g id at is = id_at v (f + 1) a gs k g id at is ∙ behind_function v f a x (take k gs) g
id_at v f a (OfAlias x ∷ gs) (suc k) g id at is = id_at v f (a + 1) gs k g id at is ∙ behind_alias v f a x (take k gs) g

pub ids_count : (v f a : ℕ) (gs : List Global) → length (ids_from v f a gs) ≡ length gs
ids_count v f a [] = refl
ids_count v f a (OfVariable x ∷ gs) = ap suc (ids_count (v + 1) f a gs)
ids_count v f a (OfFunction x ∷ gs) = ap suc (ids_count v (f + 1) a gs)
ids_count v f a (OfAlias x ∷ gs) = ap suc (ids_count v f (a + 1) gs)

-- the id of an entry behind the first ones
abbrev pub id_of : List Global → Global → GlobalId
id_of xs (OfVariable v) = global.Variable (length (filter_map variable_if xs))
id_of xs (OfFunction f) = global.Function (length (filter_map function_if xs))
id_of xs (OfAlias a) = global.Alias (length (filter_map alias_if xs))

pub id_found : (gs : List Global) (k : ℕ) (g : Global) (id : GlobalId) → slice_get gs k ≡ Some g → slice_get (ids_from 0 0 0 gs) k ≡ Some id → id ≡ id_of (take k gs) g
id_found gs k g id at is = id_at 0 0 0 gs k g id at is ∙ go g
  where
    go : (x : Global) → id_behind 0 0 0 (take k gs) x ≡ id_of (take k gs) x
    go (OfVariable v) = ap global.Variable (omega arith)
    go (OfFunction f) = ap global.Function (omega arith)
    go (OfAlias a) = ap global.Alias (omega arith)

-- ---- those of one kind

module _ {B : Type 0} (f : Global → Option B) (xs ys : List Global) where
  -- those of another kind stay
  others : (g h : Global) → f g ≡ None → f h ≡ None → filter_map f (xs ++ g ∷ ys) ≡ filter_map f (xs ++ h ∷ ys)
  others g h none also = none_of g none ∙ sym (none_of h also)
    where
      none_of : (k : Global) → f k ≡ None → filter_map f (xs ++ k ∷ ys) ≡ filter_map f xs ++ filter_map f ys
      none_of k e = parted f xs k ys ∙ ap (λ o. filter_map f xs ++ cons_option o (filter_map f ys)) e

  one_of : (k : Global) (z : B) → f k ≡ Some z → filter_map f (xs ++ k ∷ ys) ≡ filter_map f xs ++ z ∷ filter_map f ys
  one_of k z e = parted f xs k ys ∙ ap (λ o. filter_map f xs ++ cons_option o (filter_map f ys)) e

  -- of those of its kind the one at its place changes
  here : (g h : Global) (x y : B) (change : B → B) → f g ≡ Some x → f h ≡ Some y → change x ≡ y
      → changed_at (filter_map f (xs ++ g ∷ ys)) (length (filter_map f xs)) change ≡ filter_map f (xs ++ h ∷ ys)
  here g h x y change is becomes e =
      ap (λ l. changed_at l (length (filter_map f xs)) change) (one_of g x is)
      ∙ changed_between (filter_map f xs) x (filter_map f ys) change
      ∙ ap (λ z. filter_map f xs ++ z ∷ filter_map f ys) e
      ∙ sym (one_of h y becomes)

  -- and it is found there
  found : (g : Global) (x : B) → f g ≡ Some x → slice_get (filter_map f (xs ++ g ∷ ys)) (length (filter_map f xs)) ≡ Some x
  found g x is = ap (λ l. slice_get l (length (filter_map f xs))) (one_of g x is) ∙ get_between (filter_map f xs) x (filter_map f ys)

-- ---- the module

module _ (parts : List Module) (xs ys : List Global) where
  -- a variable with an initialiser
  variable_set : (v : Variable) (c : Constant) → v.initialiser ≡ Some c
      → initialised (with_globals (ground parts) (xs ++ bare (OfVariable v) ∷ ys)) (length (filter_map variable_if xs)) c ≡ with_globals (ground parts) (xs ++ OfVariable v ∷ ys)
  variable_set v c e = λ i. record (ground parts) {
    variables = here variable_if xs ys (bare (OfVariable v)) (OfVariable v) (record v { initialiser = None }) v (λ (w : Variable). record w { initialiser = Some c }) refl refl (λ j. record v { initialiser = sym e j }) i;
    aliases = others alias_if xs ys (bare (OfVariable v)) (OfVariable v) refl refl i;
    functions = others function_if xs ys (bare (OfVariable v)) (OfVariable v) refl refl i;
  }

  -- and one without
  variable_left : (v : Variable) → v.initialiser ≡ None → with_globals (ground parts) (xs ++ bare (OfVariable v) ∷ ys) ≡ with_globals (ground parts) (xs ++ OfVariable v ∷ ys)
  variable_left v e = ap (λ (w : Variable). with_globals (ground parts) (xs ++ OfVariable w ∷ ys)) (λ j. record v { initialiser = sym e j })

  -- a function with a body
  function_set : (f : Function) (blocks : List Block) → f.body ≡ Some blocks
      → defined (with_globals (ground parts) (xs ++ bare (OfFunction f) ∷ ys)) (length (filter_map function_if xs)) (λ g. blocks) ≡ with_globals (ground parts) (xs ++ OfFunction f ∷ ys)
  function_set f blocks e = λ i. record (ground parts) {
    variables = others variable_if xs ys (bare (OfFunction f)) (OfFunction f) refl refl i;
    aliases = others alias_if xs ys (bare (OfFunction f)) (OfFunction f) refl refl i;
    functions = here function_if xs ys (bare (OfFunction f)) (OfFunction f) (record f { body = None }) f (λ (g : Function). record g { body = Some blocks }) refl refl (λ j. record f { body = sym e j }) i;
  }

  -- and one without
  function_left : (f : Function) → f.body ≡ None → with_globals (ground parts) (xs ++ bare (OfFunction f) ∷ ys) ≡ with_globals (ground parts) (xs ++ OfFunction f ∷ ys)
  function_left f e = ap (λ (g : Function). with_globals (ground parts) (xs ++ OfFunction g ∷ ys)) (λ j. record f { body = sym e j })

  -- an alias
  alias_set : (a : Alias) → targeted (with_globals (ground parts) (xs ++ bare (OfAlias a) ∷ ys)) (length (filter_map alias_if xs)) a.target ≡ with_globals (ground parts) (xs ++ OfAlias a ∷ ys)
  alias_set a = λ i. record (ground parts) {
    variables = others variable_if xs ys (bare (OfAlias a)) (OfAlias a) refl refl i;
    aliases = here alias_if xs ys (bare (OfAlias a)) (OfAlias a) (record a { target = [] }) a (λ (x : Alias). record x { target = a.target }) refl refl refl i;
    functions = others function_if xs ys (bare (OfAlias a)) (OfAlias a) refl refl i;
  }

  -- whatever it is
  pub entry_set : (g : Global) → defined_as (with_globals (ground parts) (xs ++ bare g ∷ ys)) (id_of xs g) g ≡ with_globals (ground parts) (xs ++ g ∷ ys)
  entry_set (OfVariable v) = go v.initialiser refl
    where
      go : (o : Option Constant) → v.initialiser ≡ o → with_initialiser (with_globals (ground parts) (xs ++ bare (OfVariable v) ∷ ys)) (length (filter_map variable_if xs)) v.initialiser ≡ with_globals (ground parts) (xs ++ OfVariable v ∷ ys)
      go None e = ap (with_initialiser (with_globals (ground parts) (xs ++ bare (OfVariable v) ∷ ys)) (length (filter_map variable_if xs))) e ∙ variable_left v e
      go (Some c) e = ap (with_initialiser (with_globals (ground parts) (xs ++ bare (OfVariable v) ∷ ys)) (length (filter_map variable_if xs))) e ∙ variable_set v c e
  entry_set (OfFunction f) = go f.body refl
    where
      go : (o : Option (List Block)) → f.body ≡ o → with_blocks (with_globals (ground parts) (xs ++ bare (OfFunction f) ∷ ys)) (length (filter_map function_if xs)) f.body ≡ with_globals (ground parts) (xs ++ OfFunction f ∷ ys)
      go None e = ap (with_blocks (with_globals (ground parts) (xs ++ bare (OfFunction f) ∷ ys)) (length (filter_map function_if xs))) e ∙ function_left f e
      go (Some blocks) e = ap (with_blocks (with_globals (ground parts) (xs ++ bare (OfFunction f) ∷ ys)) (length (filter_map function_if xs))) e ∙ function_set f blocks e
  entry_set (OfAlias a) = alias_set a

  -- it is found under its id
  pub entry_found : (g : Global) → global_at (with_globals (ground parts) (xs ++ bare g ∷ ys)) (id_of xs g) ≡ Some (bare g)
  entry_found (OfVariable v) = ap (option_map OfVariable) (found variable_if xs ys (bare (OfVariable v)) (record v { initialiser = None }) refl)
  entry_found (OfFunction f) = ap (option_map OfFunction) (found function_if xs ys (bare (OfFunction f)) (record f { body = None }) refl)
  entry_found (OfAlias a) = ap (option_map OfAlias) (found alias_if xs ys (bare (OfAlias a)) (record a { target = [] }) refl)
