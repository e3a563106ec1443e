-- An entry out of what its record begins with.
use Rattle.std.proofs.Common.{◌≡◌, ◌<◌, ℕ, suc, Bool, true, false, true≢false, List, [], ◌∷◌, Option, Some, None, All, length, inl, inr, refl, sym, subst, ◌∙◌}
use Rattle.std.specs.Prelude.{option_to_list, Result, Ok, Err, IfOk}
use Rattle.std.proofs.lemmas.List.Elements.{All-cons, All-head, All-nil, All-tail}
use Rattle.std.proofs.lemmas.Option.{none-some, same_Some}
use Rattle.ir_tables.specs.declared.linkage.Linkage.{Linkage}
use Rattle.module_arena.specs.declared.entry.Alias as the_alias
use Rattle.module_arena.specs.declared.entry.AliasType.{AliasType}
use Rattle.module_arena.specs.declared.entry.Body.{Body}
use Rattle.module_arena.specs.declared.entry.Function as the_function
use Rattle.module_arena.specs.declared.entry.GlobalId.{GlobalId}
use Rattle.module_arena.specs.declared.entry.LocalName.{LocalName}
use Rattle.module_arena.specs.declared.entry.Parameter.{Parameter}
use Rattle.module_arena.specs.declared.entry.Variable as the_variable
use Rattle.module_arena.specs.declared.fault.ArenaFault.{ArenaFault}
use Rattle.module_arena.specs.declared.fault.ArenaFault.TheVariants.{Duplicate, Memory, TooMany}
use Rattle.module_arena.specs.Known.{HasFault, HasGlobal, KnowsAlias, KnowsBody, KnowsFunction, KnowsVariable, alias_types, counts}
use Rattle.module_arena.specs.Lists.{Lists}
use Rattle.module_arena.specs.Module.{Bytes}
use Rattle.record_table.specs.Fields.{Texts}
use Rattle.record_table.specs.Walk.{Walk}
use Rattle.record_read.specs.Reader.{Reader, IsBroken, IsKept, is_broken}
use Rattle.record_read.specs.Fields.{IsBelow}
use Rattle.type_read.specs.Fields.{AreBelow, IsNameOf}
use Rattle.bitcode_read.specs.Head.Fronts.{AliasFields, FunctionFields, IsListedType, ReadsAlias, ReadsFunction, ReadsVariable, VariableFields, alias_front, function_front, variable_front}
use Rattle.bitcode_read.specs.declared.head.fronts.VariableFront.{VariableFront}
use Rattle.bitcode_read.specs.declared.head.fronts.FunctionFront.{FunctionFront}
use Rattle.bitcode_read.specs.declared.head.fronts.AliasFront.{AliasFront}
use Rattle.bitcode_read.specs.Ahead.Entries.{IsAdded, IsDeclared, IsRefusal, IsRefused, alias_entry, function_entry, name_or_number, parameters_called, variable_entry, whole_alias, whole_function, whole_variable}

-- ---- what is added

-- an entry that was added, or refused for a cause
pub added : (old after new : Lists) (name : Bytes) (w : Walk) (is : Bool) → IsAdded old after name is new → IsDeclared old after name w is new
added old after new name w true h = h
added old after new name w false h = record { stays = h.0; cause = inr h.1 }

-- one that the arena refused
pub refused_adds : {E : Type 0} (old after new : Lists) (name : Bytes) (fault : ArenaFault) (r : Result Bool E) → new ≡ old → HasFault old name (counts after) fault → IfOk r (λ is. IsRefusal fault is) → IfOk r (λ is. IsAdded old after name is new)
refused_adds old after new name fault (Err e) same f h = tt
refused_adds old after new name Memory (Ok is) same f h = absurd h
refused_adds old after new name (Duplicate g) (Ok true) same f h = absurd (true≢false h)
refused_adds old after new name (Duplicate g) (Ok false) same f h = (same, inl (g, f))
refused_adds old after new name (TooMany counted many) (Ok true) same f h = absurd (true≢false h)
refused_adds old after new name (TooMany counted many) (Ok false) same f h = (same, inr (λ none. none-some _ (sym none ∙ f.1)))

-- none is, where a rule is broken
pub refused : (old after : Lists) (name : Bytes) (w : Walk) → IsBroken w → IsRefused old after old name w
refused old after name w broken = record { stays = refl; cause = inl broken }

-- ---- variables

module _ (texts : Texts) (types : ℕ) (old r : Reader) (front : VariableFront) (h : ReadsVariable texts types old r front) (unbroken : is_broken r.walk ≡ false) where
  abbrev v_read : VariableFields
  v_read = ((variable_front texts types).read old.walk).0

  pub variable_whole : (v : the_variable.Variable) → whole_variable front.name front.linkage front.constant front.ty front.alignment ≡ Some v → (v ≡ variable_entry v_read) × (v.ty < types)
  variable_whole v is = by front.name front.ty h.name h.ty is
    where
      some_is : {x : the_variable.Variable} → Some x ≡ Some v → x ≡ v
      some_is {x} e = same_Some x v e

      by : (n : Option Bytes) (t : Option ℕ) → IsNameOf n v_read.0 → IsKept (IsBelow types) t v_read.1.1.1.0 r.walk → whole_variable n front.linkage front.constant t front.alignment ≡ Some v → (v ≡ variable_entry v_read) × (v.ty < types)
      by (Some name) (Some ty) n k e = (
        sym (some_is e) ∙ (λ j. variable_entry (n.0 j, (h.linkage j, (h.constant j, (k.0 j, h.alignment j))))),
        subst (λ (x : the_variable.Variable). x.ty < types) (some_is e) k.1,
      )
      by (Some name) None n k e = absurd (none-some v e)
      by None t n k e = absurd (none-some v e)

  pub variable_none : whole_variable front.name front.linkage front.constant front.ty front.alignment ≡ None → ⊥
  variable_none is = by front.name front.ty h.named h.ty is
    where
      by : (n : Option Bytes) (t : Option ℕ) → (n ≡ None → IsBroken r.walk) → IsKept (IsBelow types) t v_read.1.1.1.0 r.walk → whole_variable n front.linkage front.constant t front.alignment ≡ None → ⊥
      by (Some name) (Some ty) n k e = none-some _ (sym e)
      by (Some name) None n k e = true≢false (sym k ∙ unbroken)
      by None t n k e = true≢false (sym (n refl) ∙ unbroken)

pub knows_variable : (types constants : ℕ) (v : the_variable.Variable) (f : VariableFields) → v ≡ variable_entry f → v.ty < types → KnowsVariable types constants v
knows_variable types constants v f is lt = record {
  ty_known = lt;
  initialiser_known = subst (λ (x : the_variable.Variable). All (λ id. id < constants) (option_to_list x.initialiser)) (sym is) (All-nil (λ id. id < constants));
}

-- ---- functions

module _ (texts : Texts) (types : ℕ) (old r : Reader) (front : FunctionFront) (names : List LocalName) (h : ReadsFunction texts types old r front) (unbroken : is_broken r.walk ≡ false) where
  abbrev f_read : FunctionFields
  f_read = ((function_front texts types).read old.walk).0

  called_known : (place : ℕ) (ts : List ℕ) → All (λ ty. ty < types) ts → All (λ (p : Parameter). p.ty < types) (parameters_called names place ts)
  called_known place [] all = All-nil (λ (p : Parameter). p.ty < types)
  called_known place (t ∷ ts) all = All-cons (λ (p : Parameter). p.ty < types) (record { ty = t; name = name_or_number names place }) (parameters_called names (suc place) ts) (All-head (λ ty. ty < types) t ts all) (called_known (suc place) ts (All-tail (λ ty. ty < types) t ts all))

  pub function_whole : (f : the_function.Function) → whole_function names front.name front.linkage front.returns front.variadic front.parameters ≡ Some f
      → (f ≡ function_entry names f_read) × (f.result < types) × All (λ (p : Parameter). p.ty < types) f.parameters
  function_whole f is = by front.name front.returns front.parameters h.name h.returns h.parameters is
    where
      some_is : {x : the_function.Function} → Some x ≡ Some f → x ≡ f
      some_is {x} e = same_Some x f e

      by : (n : Option Bytes) (t : Option ℕ) (ps : Option (List ℕ)) → IsNameOf n f_read.0 → IsKept (IsBelow types) t f_read.1.1.1.0 r.walk → IsKept (AreBelow types) ps f_read.1.1.1.1.1 r.walk
          → whole_function names n front.linkage t front.variadic ps ≡ Some f → (f ≡ function_entry names f_read) × (f.result < types) × All (λ (p : Parameter). p.ty < types) f.parameters
      by (Some name) (Some ty) (Some ps) n k p e = (
        sym (some_is e) ∙ (λ j. function_entry names (n.0 j, (h.linkage j, (true, (k.0 j, (h.variadic j, p.0 j)))))),
        subst (λ (x : the_function.Function). x.result < types) (some_is e) k.1,
        subst (λ (x : the_function.Function). All (λ (p : Parameter). p.ty < types) x.parameters) (some_is e) (called_known 0 ps p.1),
      )
      by (Some name) (Some ty) None n k p e = absurd (none-some f e)
      by (Some name) None ps n k p e = absurd (none-some f e)
      by None t ps n k p e = absurd (none-some f e)

  pub function_none : whole_function names front.name front.linkage front.returns front.variadic front.parameters ≡ None → ⊥
  function_none is = by front.name front.returns front.parameters h.named h.returns h.parameters is
    where
      by : (n : Option Bytes) (t : Option ℕ) (ps : Option (List ℕ)) → (n ≡ None → IsBroken r.walk) → IsKept (IsBelow types) t f_read.1.1.1.0 r.walk → IsKept (AreBelow types) ps f_read.1.1.1.1.1 r.walk
          → whole_function names n front.linkage t front.variadic ps ≡ None → ⊥
      by (Some name) (Some ty) (Some ps) n k p e = none-some _ (sym e)
      by (Some name) (Some ty) None n k p e = true≢false (sym p ∙ unbroken)
      by (Some name) None ps n k p e = true≢false (sym k ∙ unbroken)
      by None t ps n k p e = true≢false (sym (n refl) ∙ unbroken)

pub knows_function : (types constants : ℕ) (f : the_function.Function) → f.body ≡ None → f.result < types → All (λ (p : Parameter). p.ty < types) f.parameters → KnowsFunction types constants f
knows_function types constants f none lt all = record {
  result_known = lt;
  parameters_known = all;
  body_known = subst (λ (b : Option Body). All (KnowsBody types constants (length f.parameters)) (option_to_list b)) (sym none) (All-nil (KnowsBody types constants (length f.parameters)));
}

-- ---- aliases

-- an alias without a target, of these parts
abbrev alias_with : Bytes → Linkage → AliasType → the_alias.Alias
alias_with name linkage ty = record { name = name; linkage = linkage; ty = ty; target = None }

module _ (texts : Texts) (types : ℕ) (old r : Reader) (front : AliasFront) (h : ReadsAlias texts types old r front) (unbroken : is_broken r.walk ≡ false) where
  abbrev a_read : AliasFields
  a_read = ((alias_front texts types).read old.walk).0

  pub alias_whole : (x : the_alias.Alias) → whole_alias front.name front.linkage front.ty ≡ Some x → (x ≡ alias_entry a_read) × All (λ ty. ty < types) (alias_types x.ty)
  alias_whole x is = by front.name front.ty h.name h.ty is
    where
      some_is : {y : the_alias.Alias} → Some y ≡ Some x → y ≡ x
      some_is {y} e = same_Some y x e

      by : (n : Option Bytes) (t : Option AliasType) → IsNameOf n a_read.0 → IsKept (IsListedType types) t a_read.1.1 r.walk → whole_alias n front.linkage t ≡ Some x → (x ≡ alias_entry a_read) × All (λ ty. ty < types) (alias_types x.ty)
      by (Some name) (Some ty) n k e = (
        sym (some_is e) ∙ (λ j. alias_with (n.0 j) (h.linkage j) (k.0 j)),
        subst (λ (y : the_alias.Alias). All (λ ty. ty < types) (alias_types y.ty)) (some_is e) k.1,
      )
      by (Some name) None n k e = absurd (none-some x e)
      by None t n k e = absurd (none-some x e)

  pub alias_none : whole_alias front.name front.linkage front.ty ≡ None → ⊥
  alias_none is = by front.name front.ty h.named h.ty is
    where
      by : (n : Option Bytes) (t : Option AliasType) → (n ≡ None → IsBroken r.walk) → IsKept (IsListedType types) t a_read.1.1 r.walk → whole_alias n front.linkage t ≡ None → ⊥
      by (Some name) (Some ty) n k e = none-some _ (sym e)
      by (Some name) None n k e = true≢false (sym k ∙ unbroken)
      by None t n k e = true≢false (sym (n refl) ∙ unbroken)

pub knows_alias : (types : ℕ) (a : Lists) (x : the_alias.Alias) → x.target ≡ None → All (λ ty. ty < types) (alias_types x.ty) → KnowsAlias types (counts a) x
knows_alias types a x none all = record {
  types_known = all;
  target_known = subst (λ (t : Option GlobalId). All (HasGlobal (counts a)) (option_to_list t)) (sym none) (All-nil (HasGlobal (counts a)));
}
