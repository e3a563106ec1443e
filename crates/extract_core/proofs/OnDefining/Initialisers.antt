-- What a variable becomes has the initialiser that is copied, or that of an array of no elements.
use Rattle.std.proofs.Common.{◌≡◌, ℕ, ◌<◌, List, [], length, Option, Some, None, All, refl, sym, subst, ap, arith}
use Rattle.std.specs.Prelude.{option_to_list}
use Rattle.std.specs.Option.{option_map, option_map_or}
use Rattle.std.proofs.lemmas.List.Elements.{All-head, All-nil}
use Rattle.std.proofs.lemmas.Option.{same_Some}
use Rattle.ir_tables.specs.declared.linkage.Linkage.{Linkage}
use Rattle.ir_tables.specs.declared.linkage.Linkage.TheVariants.{External, Private, Internal, Common, Appending, ExternWeak, AvailableExternally, Linkonce, LinkonceOdr, Weak, WeakOdr}
use Rattle.type_table.specs.Types.{trees}
use Rattle.module_arena.specs.declared.constant.Brackets.TheVariants as brackets
use Rattle.module_arena.specs.declared.constant.Const.TheVariants as const
use Rattle.module_arena.specs.declared.constant.TypedConst.{TypedConst}
use Rattle.module_arena.specs.declared.entry.Variable as the_variable
use Rattle.module_arena.specs.Changes.{initialised, constant_in, variable_in}
use Rattle.module_arena.specs.Known.{counts, HasGlobal, KnowsConst}
use Rattle.module_arena.specs.Lists.{Lists}
use Rattle.module_arena.specs.Module.{Constant, Aggregate, Square, no_constants, Variable, Module}
use Rattle.module_arena.specs.UsedNames.{names_in_constant, names_in_variable}
use Rattle.module_arena.specs.View.{constant_at, constants_at, constants_of}
use Rattle.module_arena.proofs.Renamed.{constant_stays}
use Rattle.module_arena.specs.Renamed.{own}
use Rattle.item_build.specs.Types.Stands.{IsConstant}
use Rattle.entry_copy.specs.Copies.{Copies, HasNew}
use Rattle.entry_copy.specs.Tables.{Tables, new_constant}
use Rattle.extract_rules.specs.Extracted.{kept_linkage, declared_variable}
use Rattle.extract_core.specs.declared.fates.fates.Fate.{Fate}
use Rattle.extract_core.specs.declared.fates.fates.Fate.TheVariants.{Kept, Declared, LeftOut}
use Rattle.extract_core.specs.Fates.Fates.{variable_as}
use Rattle.entry_copy.specs.Initialisers.{IsInitialiser}
use Rattle.extract_core.specs.Defining.Filling.{initialised_by}

-- ---- the copied one

own_initialiser : (a b : Lists) (t : Tables) → Copies own own a b t → (o : Option ℕ) → All (λ id. id < length a.constants) (option_to_list o)
    → All (HasNew a t) (option_map_or names_in_constant (option_map (constant_at (constants_of a)) o) [])
    → IsInitialiser b (option_map (constant_at (constants_of a)) o) (option_map (new_constant t) o)
own_initialiser a b t h None known named = tt
own_initialiser a b t h (Some id) known named =
    let lt = All-head (λ k. k < length a.constants) id [] known in
    let all = h.all_constants in
    subst (IsConstant b (new_constant t id)) (constant_stays (constant_at (constants_of a) id)) (h.constants.constants id (omega (arith, all, lt)) named)

pub kept_initialiser : (a b : Lists) (t : Tables) → Copies own own a b t → (x : the_variable.Variable) (v w : Variable) (o : Option ℕ) → All (λ id. id < length a.constants) (option_to_list x.initialiser)
    → variable_in a x ≡ v → variable_as Kept v ≡ Some w → All (HasNew a t) (names_in_variable v) → o ≡ option_map (new_constant t) x.initialiser → IsInitialiser b w.initialiser o
kept_initialiser a b t h x v w o known seen makes named is =
    subst (IsInitialiser b w.initialiser) (sym is)
    (subst (λ (u : Variable). IsInitialiser b u.initialiser (option_map (new_constant t) x.initialiser)) (same_Some _ w makes)
    (subst (λ (u : Variable). IsInitialiser b u.initialiser (option_map (new_constant t) x.initialiser)) seen
    (own_initialiser a b t h x.initialiser known (subst (λ (u : Variable). All (HasNew a t) (names_in_variable u)) (sym seen) named))))

-- ---- that of no elements, and none

pub empty_known : (b : Lists) (elements : List TypedConst) → elements ≡ [] → KnowsConst (length b.table.types) (counts b) (length b.constants) (const.Aggregate brackets.Square elements)
empty_known b elements none = subst (λ l. KnowsConst (length b.table.types) (counts b) (length b.constants) (const.Aggregate brackets.Square l)) (sym none)
    (record {
      types_known = All-nil (λ ty. ty < length b.table.types);
      typed_known = All-nil (λ (x : TypedConst). (x.ty < length b.table.types) × (x.value < length b.constants));
      globals_known = All-nil (HasGlobal (counts b));
    })

pub empty_is : (b c : Lists) (id : ℕ) (elements : List TypedConst) → elements ≡ [] → IsConstant c id (constant_in b (const.Aggregate brackets.Square elements)) → IsConstant c id (Aggregate Square no_constants)
empty_is b c id elements none h = subst (λ l. IsConstant c id (Aggregate Square (constants_at (trees b.table) (constants_of b) l))) none h

pub appending_initialiser : (b : Lists) (linkage : Linkage) (v : Variable) (id : ℕ) → linkage ≡ Appending → IsConstant b id (Aggregate Square no_constants) → IsInitialiser b (declared_variable linkage v).initialiser (Some id)
appending_initialiser b linkage v id is h = subst (λ l. IsInitialiser b (declared_variable l v).initialiser (Some id)) (sym is) h

pub no_initialiser_there : (b : Lists) (linkage : Linkage) (v : Variable) → (linkage ≡ Appending → ⊥) → IsInitialiser b (declared_variable linkage v).initialiser None
no_initialiser_there b Appending v other = absurd (other refl)
no_initialiser_there b External v other = tt
no_initialiser_there b Private v other = tt
no_initialiser_there b Internal v other = tt
no_initialiser_there b Common v other = tt
no_initialiser_there b ExternWeak v other = tt
no_initialiser_there b AvailableExternally v other = tt
no_initialiser_there b Linkonce v other = tt
no_initialiser_there b LinkonceOdr v other = tt
no_initialiser_there b Weak v other = tt
no_initialiser_there b WeakOdr v other = tt

-- what a variable that is not kept becomes is declared
pub declared_initialiser_is : (b : Lists) (fate : Fate) (v w : Variable) (o : Option ℕ) → (fate ≡ Kept → ⊥) → variable_as fate v ≡ Some w → IsInitialiser b (declared_variable v.linkage v).initialiser o → IsInitialiser b w.initialiser o
declared_initialiser_is b Kept v w o other makes h = absurd (other refl)
declared_initialiser_is b Declared v w o other makes h = subst (λ (u : Variable). IsInitialiser b u.initialiser o) (same_Some (declared_variable v.linkage v) w makes) h
declared_initialiser_is b LeftOut v w o other makes h = cc

-- ---- setting it

pub set_as : (b : Lists) (m : Module) (number : ℕ) (o : Option Constant) (id : ℕ) → IsInitialiser b o (Some id) → initialised m number (constant_at (constants_of b) id) ≡ initialised_by m number o
set_as b m number None id h = absurd h
set_as b m number (Some c) id h = ap (initialised m number) h.constant

pub none_as : (b : Lists) (m : Module) (number : ℕ) (o : Option Constant) → IsInitialiser b o None → m ≡ initialised_by m number o
none_as b m number None h = refl
none_as b m number (Some c) h = absurd h

pub initialiser_known : (b : Lists) (o : Option Constant) (id : ℕ) → IsInitialiser b o (Some id) → id < length b.constants
initialiser_known b None id h = absurd h
initialiser_known b (Some c) id h = h.known

-- what is not left out becomes something
pub variable_made : (fate : Fate) (v : Variable) → (fate ≡ LeftOut → ⊥) → (w : Variable) × (variable_as fate v ≡ Some w)
variable_made Kept v there = (record v { linkage = kept_linkage v.linkage }, refl)
variable_made Declared v there = (declared_variable v.linkage v, refl)
variable_made LeftOut v there = absurd (there refl)
