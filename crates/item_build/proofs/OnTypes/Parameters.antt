-- Parameters, one after the other.
use Rattle.std.proofs.Common.{◌≡◌, ℕ, ◌+◌, ◌<◌, ◌≤◌, true, false, List, [], ◌∷◌, ◌++◌, map, length, get_or, take, Option, Some, None, refl, sym, ap, ◌∙◌, subst, arith}
use Rattle.std.proofs.lemmas.List.{map-append, map_more}
use Rattle.std.proofs.lemmas.List.Elements.{All-push, All-weaker}
use Rattle.ir_terminals.specs.declared.values.Local.{Local}
use Rattle.ir_terminals.specs.declared.values.Local.TheVariants as locals
use Rattle.ir_syntax.specs.Tree.{ParameterTree}
use Rattle.type_table.specs.Types.{trees}
use Rattle.module_arena.specs.declared.entry.Parameter as the_parameter
use Rattle.module_arena.specs.Lists.{Lists}
use Rattle.module_arena.specs.Module.{Parameter, Numbered}
use Rattle.module_arena.specs.View.{type_at, local_view, parameter_view}
use Rattle.module_arena.proofs.SameView.{same-map}
use Rattle.name_rules.specs.Locals.{called, next_behind}
use Rattle.name_rules.specs.ModuleOf.{parameters_in, numbered_parameters}
use Rattle.name_rules.specs.Written.{type_in}
use Rattle.item_build.specs.Types.Stands.{IsType, Grows}
use Rattle.item_build.specs.Types.Parameters.{AreParameters, kept, behind}

parameters_more : (n : ℕ) (ps : List ParameterTree) (p : ParameterTree) → parameters_in n (ps ++ p ∷ []) ≡ parameters_in n ps ++ record { ty = type_in p.0; name = called (behind n ps) p.1 } ∷ []
parameters_more n [] p = refl
parameters_more n (q ∷ ps) p = ap (λ rest. record { ty = type_in q.0; name = called n q.1 } ∷ rest) (parameters_more (next_behind n q.1) ps p)

behind_more : (n : ℕ) (ps : List ParameterTree) (p : ParameterTree) → behind n (ps ++ p ∷ []) ≡ next_behind (behind n ps) p.1
behind_more n [] p = refl
behind_more n (q ∷ ps) p = behind_more (next_behind n q.1) ps p

-- those of a declaration have numbers alone
pub numbered_alone : (n : ℕ) (ps : List ParameterTree) → numbered_parameters n (map (λ (p : ParameterTree). p.0) ps) ≡ parameters_in n (map (kept false) ps)
numbered_alone n [] = refl
numbered_alone n (p ∷ ps) = ap (λ rest. record { ty = type_in p.0; name = Numbered n } ∷ rest) (numbered_alone (next_behind n None) ps)

pub all_named : (ps : List ParameterTree) → map (kept true) ps ≡ ps
all_named [] = refl
all_named (p ∷ ps) = ap (λ rest. p ∷ rest) (all_named ps)

pub behind_le : (n : ℕ) (written : Option Local) → next_behind n written ≤ n + 1
behind_le n None = omega arith
behind_le n (Some (locals.Named name)) = omega arith
behind_le n (Some (locals.Numbered number place)) = omega arith

module _ (a b : Lists) (grows : Grows a b) where
  stays : (p : the_parameter.Parameter) → p.ty < length a.table.types → IsType b p.ty (type_at (trees a.table) p.ty)
  stays p lt = grows.types p.ty (type_at (trees a.table) p.ty) (record { known = lt; tree = refl })

  pub parameters_stay : (ps : List the_parameter.Parameter) (expected : List Parameter) → AreParameters a ps expected → AreParameters b ps expected
  parameters_stay ps expected h = record {
    known = All-weaker (λ (p : the_parameter.Parameter). p.ty < length a.table.types) (λ (p : the_parameter.Parameter). p.ty < length b.table.types) (λ p lt. (stays p lt).known) ps h.known;
    parameters = same-map (parameter_view (trees b.table)) (parameter_view (trees a.table)) (λ (p : the_parameter.Parameter). p.ty < length a.table.types) (λ p lt. λ j. record { ty = (stays p lt).tree j; name = local_view p.name }) ps h.known ∙ h.parameters;
  }

  module _ {X : Type 0} (f : X → ParameterTree) (xs : List X) (i : ℕ) (x : X) (lt : i < length xs) (is : x ≡ get_or xs i x) where
    step : map f (take (i + 1) xs) ≡ map f (take i xs) ++ f x ∷ []
    step = map_more f xs i x lt ∙ ap (λ y. map f (take i xs) ++ f y ∷ []) (sym is)

    pub parameters_step : (ps more : List the_parameter.Parameter) (p : the_parameter.Parameter) → AreParameters a ps (parameters_in 0 (map f (take i xs))) → IsType b p.ty (type_in (f x).0)
        → local_view p.name ≡ called (behind 0 (map f (take i xs))) (f x).1 → more ≡ ps ++ p ∷ [] → AreParameters b more (parameters_in 0 (map f (take (i + 1) xs)))
    parameters_step ps more p all ty name pushed =
        let old = parameters_stay ps (parameters_in 0 (map f (take i xs))) all in
        let whole = ap (parameters_in 0) step ∙ parameters_more 0 (map f (take i xs)) (f x) in
        subst (λ ns. AreParameters b ns (parameters_in 0 (map f (take (i + 1) xs)))) (sym pushed)
        (record {
          known = All-push (λ (q : the_parameter.Parameter). q.ty < length b.table.types) ps p old.known ty.known;
          parameters = map-append (parameter_view (trees b.table)) ps (p ∷ []) ∙ (λ j. old.parameters j ++ record { ty = ty.tree j; name = name j } ∷ []) ∙ sym whole;
        })

    pub behind_step : (next after : ℕ) → next ≡ behind 0 (map f (take i xs)) → after ≡ next_behind next (f x).1 → after ≡ behind 0 (map f (take (i + 1) xs))
    behind_step next after so_far one = one ∙ ap (λ n. next_behind n (f x).1) so_far ∙ sym (ap (behind 0) step ∙ behind_more 0 (map f (take i xs)) (f x))
