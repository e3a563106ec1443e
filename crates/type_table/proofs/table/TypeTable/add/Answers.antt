use Rattle.std.proofs.Common.{arith, subst, sym, ap, ◌∙◌, ◌≡◌, ◌≤◌, ◌<◌, ◌^◌, ◌++◌, ◌∷◌, [], ◌⊎◌, inl, inr, refl}
use Rattle.type_table.specs.declared.fault.TypeFault.TheVariants.{TooDeep, TooLarge}
use Rattle.type_table.specs.declared.measure.Measure.{Measure}
use Rattle.type_table.specs.Kept.{IsLarge, type_length}
use Rattle.type_table.specs.Limits.{HasFault}
use Rattle.type_table.specs.Measures.{type_measure}
use Rattle.type_table.specs.Types.{with_type, structs, trees, IsKnown}
use Rattle.type_table.proofs.Added.{added_too_deep, added_too_large, added_too_long, structs-with, trees-with}
use Rattle.type_table.proofs.Flags.{table_with, table_moved}
use Rattle.type_table.proofs.Judged.{within_kept}
use Rattle.type_table.proofs.table.TypeTable.add.Goals as goal
use Rattle.type_table.proofs.table.TypeTable.add.Goals.{After-measure_type-measure}

-- what is measured is the measure that the table is about to keep
measure_is : (c : After-measure_type-measure) → c.measure_type-measure.result ≡ type_measure c.self.inside.measures.structs.items c.self.inside.measures.types.items c.args.ty
measure_is c = c.measure_type-measure.ensures ∙ (λ j. type_measure (c.deref.ensures.value j) (c.deref-2.ensures.value j) c.args.ty)

-- the type is known to the table that is seen and to the one that is kept
known_inside : (c : After-measure_type-measure) → IsKnown (record { types = c.self.inside.types.items; structs = c.self.inside.structs.entries }) c.args.ty
known_inside c = subst (λ t. IsKnown t c.args.ty) (sym c.self.view_is) c.requires

pub returns-then-measure-gt-NESTING_LIMIT-clause-fault : goal.returns-then-measure-gt-NESTING_LIMIT-clause-fault
returns-then-measure-gt-NESTING_LIMIT-clause-fault c =
    let at = (goal.at.returns-then-measure-gt-NESTING_LIMIT-clause-fault c).After-measure_type-measure in
    let deep : 64 < c.measure_type-measure.result.nesting = omega arith in
    subst (λ t. HasFault (with_type t c.args.ty) TooDeep) c.self.view_is
    (added_too_deep _ _ _ c.self.invariant.kept c.args.ty (known_inside at) (subst (λ (m : Measure). 64 < m.nesting) (measure_is at) deep))

pub returns-then-is_too_large-clause-fault : goal.returns-then-is_too_large-clause-fault
returns-then-is_too_large-clause-fault c =
    let at = (goal.at.returns-then-is_too_large-clause-fault c).After-measure_type-measure in
    let fits : c.measure_type-measure.result.nesting ≤ 64 = omega arith in
    let nests = subst (λ (m : Measure). m.nesting ≤ 64) (measure_is at) fits in
    let large : IsLarge c.measure_type-measure.result ⊎ (2 ^ 40 < type_length c.args.ty) = c.is_too_large.ensures.0 c.if-is_too_large.true in
    subst (λ t. HasFault (with_type t c.args.ty) TooLarge) c.self.view_is
    (elim large [
      | inl l ↦ added_too_large _ _ _ c.self.invariant.kept c.args.ty (known_inside at) nests (subst IsLarge (measure_is at) l)
      | inr l ↦ added_too_long _ _ _ c.self.invariant.kept c.args.ty (known_inside at) nests l
    ])

pub invariant_of-self-2 : goal.invariant_of-self-2
invariant_of-self-2 c =
    let at = (goal.at.invariant_of-self-2 c).After-measure_type-measure in
    let fits : c.measure_type-measure.result.nesting ≤ 64 = omega arith in
    let nests = subst (λ (m : Measure). m.nesting ≤ 64) (measure_is at) fits in
    let within = table_with _ _ _ _ c.self.invariant c.args.ty (known_inside at) nests
    (λ l. let t = c.is_too_large.ensures.1 (inl (subst IsLarge (sym (measure_is at)) l)) in cc)
    (λ l. let t = c.is_too_large.ensures.1 (inr l) in cc) in
    table_moved _ _ _ _ _ _ _ _ _ _ c.in_ok-push.ensures.items refl refl
    (c.push_into_room.ensures ∙ (λ j. c.in_ok-reserve.ensures.items j ++ measure_is at j ∷ [])) c.set_flag.ensures within

pub returns-clause-within : goal.returns-clause-within
returns-clause-within c = within_kept _ _ _ (invariant_of-self-2 c).kept

pub returns-clause-kept : goal.returns-clause-kept
returns-clause-kept c =
    let at = (goal.at.returns-clause-kept c).After-measure_type-measure in
    ap (λ types. structs (record { types = types; structs = c.self.inside.structs.entries })) c.in_ok-push.ensures.items
    ∙ structs-with _ c.args.ty c.self.invariant.kept.measured.good
    ∙ ap structs c.self.view_is

pub returns-clause-trees : goal.returns-clause-trees
returns-clause-trees c =
    ap (λ types. trees (record { types = types; structs = c.self.inside.structs.entries })) c.in_ok-push.ensures.items
    ∙ ap (λ t. trees (with_type t c.args.ty)) c.self.view_is
    ∙ trees-with c.args.self.now c.args.ty
