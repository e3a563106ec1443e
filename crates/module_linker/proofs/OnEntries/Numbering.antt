-- Parameters that are named by their numbers, one after the other.
use Rattle.std.proofs.Common.{◌≡◌, ℕ, zero, suc, ◌+◌, ◌<◌, List, [], ◌∷◌, ◌++◌, map, length, slice_get, take, Some, All, refl, sym, subst, ap, ◌∙◌, arith}
use Rattle.std.proofs.lemmas.List.{map-append, length-map, length-take-le}
use Rattle.std.proofs.lemmas.List.Elements.{All-push, All-nil}
use Rattle.std.proofs.lemmas.Option.{slice_get_within}
use Rattle.type_table.specs.Types.{trees}
use Rattle.module_arena.specs.declared.entry.LocalName.TheVariants as local
use Rattle.module_arena.specs.declared.entry.Parameter as the_parameter
use Rattle.module_arena.specs.Lists.{Lists}
use Rattle.module_arena.specs.Module.{Numbered, Parameter, Module}
use Rattle.module_arena.specs.View.{type_at, parameter_view}
use Rattle.linkage_rules.proofs.Steps.{all_get, take_more}
use Rattle.link_rules.specs.Linked.{declared_parameters}
use Rattle.link_rules.specs.Structs.{linked_type}
use Rattle.item_build.specs.Types.Parameters.{AreParameters}
use Rattle.entry_copy.specs.Tables.{Tables, new_type}
use Rattle.module_linker.specs.Stages.Ground.{HasTypes}

declared_more : (ms : List Module) (i n : ℕ) (ps : List Parameter) (p : Parameter) (k : ℕ) → k ≡ n + length ps → declared_parameters ms i n (ps ++ p ∷ []) ≡ declared_parameters ms i n ps ++ record { ty = linked_type ms i p.ty; name = Numbered k } ∷ []
declared_more ms i n [] p k e = let here : n ≡ k = omega (arith, e) in ap (λ j. record { ty = linked_type ms i p.ty; name = Numbered j } ∷ []) here
declared_more ms i n (q ∷ ps) p k e = ap (λ l. record { ty = linked_type ms i q.ty; name = Numbered n } ∷ l) (declared_more ms i (suc n) ps p k (omega (arith, e)))

pub whole_list : {A : Type 0} (xs : List A) (k : ℕ) → k ≡ length xs → take k xs ≡ xs
whole_list [] zero e = refl
whole_list [] (suc k) e = refl
whole_list (x ∷ xs) zero e = absurd (omega (arith, e))
whole_list (x ∷ xs) (suc k) e = ap (λ l. x ∷ l) (whole_list xs k (omega (arith, e)))

module _ (ms : List Module) (i : ℕ) (a b : Lists) (t : Tables) (h : HasTypes ms i a b t) (ps : List the_parameter.Parameter) (known : All (λ (p : the_parameter.Parameter). p.ty < length a.table.types) ps) (k : ℕ) (p : the_parameter.Parameter) (at : slice_get ps k ≡ Some p) where
  abbrev view : the_parameter.Parameter → Parameter
  view = parameter_view (trees a.table)

  as_many : k ≡ 0 + length (map view (take k ps))
  as_many =
      let lt = slice_get_within ps k p at in
      let mapped = length-map (take k ps) view in
      let taken = length-take-le k ps (omega (arith, lt)) in
      omega (arith, lt, mapped, taken)

  whole : declared_parameters ms i 0 (map view (take (k + 1) ps)) ≡ declared_parameters ms i 0 (map view (take k ps)) ++ record { ty = linked_type ms i (type_at (trees a.table) p.ty); name = Numbered k } ∷ []
  whole =
      ap (λ l. declared_parameters ms i 0 (map view l)) (take_more ps k p at) ∙ ap (declared_parameters ms i 0) (map-append view (take k ps) (p ∷ []))
      ∙ declared_more ms i 0 (map view (take k ps)) (view p) k as_many

  pub numbered_step : (so_far more : List the_parameter.Parameter) (new number : ℕ) → new ≡ new_type t p.ty → number ≡ k → more ≡ so_far ++ record { ty = new; name = local.Numbered number } ∷ []
      → AreParameters b so_far (declared_parameters ms i 0 (map view (take k ps))) → AreParameters b more (declared_parameters ms i 0 (map view (take (k + 1) ps)))
  numbered_step so_far more new number is place pushed old =
      let q : the_parameter.Parameter = record { ty = new; name = local.Numbered number } in
      let all = h.all in
      let lt = all_get (λ (r : the_parameter.Parameter). r.ty < length a.table.types) ps k p known at in
      let here = h.copies.types p.ty (omega (arith, all, lt)) in
      let there = here.known in
      let tree = ap (type_at (trees b.table)) is ∙ here.tree in
      subst (λ l. AreParameters b l (declared_parameters ms i 0 (map view (take (k + 1) ps)))) (sym pushed)
      (record {
        known = All-push (λ (r : the_parameter.Parameter). r.ty < length b.table.types) so_far q old.known (subst (λ n. n < length b.table.types) (sym is) there);
        parameters = map-append (parameter_view (trees b.table)) so_far (q ∷ []) ∙ (λ j. old.parameters j ++ record { ty = tree j; name = Numbered (place j) } ∷ []) ∙ sym whole;
      })

-- none
pub no_parameters : (b : Lists) → AreParameters b [] []
no_parameters b = record { known = All-nil (λ (p : the_parameter.Parameter). p.ty < length b.table.types); parameters = refl }
