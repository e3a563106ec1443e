-- Parameters that are named by their numbers, one after the other.
use Rattle.std.proofs.Common.{◌≡◌, ℕ, suc, ◌+◌, ◌<◌, List, [], ◌∷◌, ◌++◌, map, length, slice_get, take, Some, All, refl, sym, subst, ap, ◌∙◌, arith}
use Rattle.std.proofs.lemmas.List.{map-append, length-map, length-take-le}
use Rattle.std.proofs.lemmas.List.Elements.{All-push, All-nil}
use Rattle.std.proofs.lemmas.Option.{slice_get_within}
use Rattle.type_table.specs.Tree.{Tree}
use Rattle.type_table.specs.Types.{trees}
use Rattle.type_table.proofs.Steps.{take_next}
use Rattle.module_arena.specs.Functions.{numbered_parameters}
use Rattle.module_arena.specs.declared.entry.LocalName.TheVariants as local
use Rattle.module_arena.specs.declared.entry.Parameter as the_parameter
use Rattle.module_arena.specs.Lists.{Lists}
use Rattle.module_arena.specs.Module.{Numbered, Parameter}
use Rattle.module_arena.specs.View.{type_at, parameter_view}
use Rattle.module_arena.specs.Renamed.{renamed_parameter, own}
use Rattle.module_arena.proofs.Renamed.{map_stays, parameter_stays}
use Rattle.item_build.specs.Types.Parameters.{AreParameters}
use Rattle.entry_copy.specs.Tables.{Tables, new_type}
use Rattle.extract_rules.proofs.Entries.{all_get}
use Rattle.extract_core.specs.declared.fates.fates.Fate.{Fate}
use Rattle.extract_core.specs.declared.fates.fates.Fate.TheVariants.{Kept, Declared, LeftOut}
use Rattle.extract_core.specs.Fates.Fates.{parameters_as}
use Rattle.extract_core.specs.Declaring.Stages.{HasTypes}
use Rattle.extract_core.proofs.OnDeclaring.StaysDeclared.{type_is_copied}

numbered_more : (n : ℕ) (ts : List Tree) (t : Tree) (k : ℕ) → k ≡ n + length ts → numbered_parameters n (ts ++ t ∷ []) ≡ numbered_parameters n ts ++ record { ty = t; name = Numbered k } ∷ []
numbered_more n [] t k e = let here : n ≡ k = omega (arith, e) in ap (λ j. record { ty = t; name = Numbered j } ∷ []) here
numbered_more n (u ∷ ts) t k e = ap (λ l. record { ty = u; name = Numbered n } ∷ l) (numbered_more (suc n) ts t k (omega (arith, e)))

module _ (a b : Lists) (t : Tables) (h : HasTypes a b t) (types : List ℕ) (known : All (λ id. id < length a.table.types) types) (k ty : ℕ) (at : slice_get types k ≡ Some ty) where
  abbrev T : ℕ → Tree
  T = type_at (trees a.table)

  as_many : k ≡ 0 + length (map T (take k types))
  as_many =
      let lt = slice_get_within types k ty at in
      let mapped = length-map (take k types) T in
      let taken = length-take-le k types (omega (arith, lt)) in
      omega (arith, lt, mapped, taken)

  whole : numbered_parameters 0 (map T (take (k + 1) types)) ≡ numbered_parameters 0 (map T (take k types)) ++ record { ty = T ty; name = Numbered k } ∷ []
  whole = ap (λ l. numbered_parameters 0 (map T l)) (take_next types k ty at) ∙ ap (numbered_parameters 0) (map-append T (take k types) (ty ∷ [])) ∙ numbered_more 0 (map T (take k types)) (T ty) k as_many

  pub numbered_step : (ps more : List the_parameter.Parameter) (new number : ℕ) → new ≡ new_type t ty → number ≡ k → more ≡ ps ++ record { ty = new; name = local.Numbered number } ∷ []
      → AreParameters b ps (numbered_parameters 0 (map T (take k types))) → AreParameters b more (numbered_parameters 0 (map T (take (k + 1) types)))
  numbered_step ps more new number is place pushed old =
      let p : the_parameter.Parameter = record { ty = new; name = local.Numbered number } in
      let here = type_is_copied a b t h ty (all_get (λ id. id < length a.table.types) types k ty known at) in
      let there = here.known in
      let tree = ap (type_at (trees b.table)) is ∙ here.tree in
      subst (λ l. AreParameters b l (numbered_parameters 0 (map T (take (k + 1) types)))) (sym pushed)
      (record {
        known = All-push (λ (q : the_parameter.Parameter). q.ty < length b.table.types) ps p old.known (subst (λ i. i < length b.table.types) (sym is) there);
        parameters = map-append (parameter_view (trees b.table)) ps (p ∷ []) ∙ (λ j. old.parameters j ++ record { ty = tree j; name = Numbered (place j) } ∷ []) ∙ sym whole;
      })

-- the types of parameters are those of the parameters that they are in the module
pub types_of_views : (ts : List Tree) (ps : List the_parameter.Parameter) → map (type_at ts) (map (λ (p : the_parameter.Parameter). p.ty) ps) ≡ map (λ (p : Parameter). p.ty) (map (parameter_view ts) ps)
types_of_views ts [] = refl
types_of_views ts (p ∷ ps) = ap (λ l. type_at ts p.ty ∷ l) (types_of_views ts ps)

-- what a function that is not kept has for parameters is numbered
pub declared_parameters : (a b : Lists) (fate : Fate) (ps : List the_parameter.Parameter) (types : List ℕ) (copy : List the_parameter.Parameter) → (fate ≡ Kept → ⊥) → types ≡ map (λ (p : the_parameter.Parameter). p.ty) ps
    → AreParameters b copy (numbered_parameters 0 (map (type_at (trees a.table)) types)) → AreParameters b copy (parameters_as fate (map (parameter_view (trees a.table)) ps))
declared_parameters a b Kept ps types copy other are h = absurd (other refl)
declared_parameters a b Declared ps types copy other are h = subst (λ ts. AreParameters b copy (numbered_parameters 0 ts)) (ap (map (type_at (trees a.table))) are ∙ types_of_views (trees a.table) ps) h
declared_parameters a b LeftOut ps types copy other are h = subst (λ ts. AreParameters b copy (numbered_parameters 0 ts)) (ap (map (type_at (trees a.table))) are ∙ types_of_views (trees a.table) ps) h

-- parameters under their own names
pub own_parameters : (b : Lists) (copy : List the_parameter.Parameter) (ps : List Parameter) → AreParameters b copy (map (renamed_parameter own) ps) → AreParameters b copy ps
own_parameters b copy ps h = subst (AreParameters b copy) (map_stays (renamed_parameter own) parameter_stays ps) h

-- none
pub no_parameters : (b : Lists) → AreParameters b [] []
no_parameters b = record { known = All-nil (λ (p : the_parameter.Parameter). p.ty < length b.table.types); parameters = refl }
