use Rattle.std.proofs.Common.{arith, refl, subst, sym, ap, ◌∙◌, ◌≡◌, ◌≤◌, ◌<◌, ◌++◌, ℕ, List, length, slice_get, get_or, set, Some, None, All, Bool, false, [], ◌∷◌}
use Rattle.std.proofs.lemmas.List.{get_or_default}
use Rattle.std.proofs.lemmas.Result.{err_from_is_err_and}
use Rattle.indexmap.specs.IndexMap.{set_value_at}
use Rattle.type_table.specs.declared.measure.Measure.{Measure}
use Rattle.type_table.specs.Kept.{IsSmall, HasListFault}
use Rattle.type_table.specs.Limits.{HasFault, SomeContainsItself}
use Rattle.type_table.specs.Measures.{body_measure, opaque_measure, passes, deepest_nesting, type_measures}
use Rattle.type_table.specs.Types.{Types, bodies, trees, with_body, IsKnownBody}
use Rattle.type_table.proofs.Defined.{defined_contains_itself, defined_fault, kept_defined, set_value_at-place, trees-defined, some_nesting, table_of}
use Rattle.type_table.proofs.Flags.{table_defined, table_moved}
use Rattle.type_table.proofs.Judged.{within_kept}
use Rattle.type_table.proofs.PassLists.{deepest_most, deepest_bound}
use Rattle.type_table.proofs.Unheld.{kept_unheld, fault_unheld}
use Rattle.type_table.proofs.table.TypeTable.define_struct.Goals as goal
use Rattle.type_table.proofs.table.TypeTable.define_struct.Goals.{After-measure_body-measure, After-measure_body-again}

-- the table as its fields have it
abbrev table : After-measure_body-again → Types
table c = record { types = c.self.inside.types.items; structs = c.self.inside.structs.entries }

abbrev struct_list : After-measure_body-again → List Measure
struct_list c = c.self.inside.measures.structs.items

abbrev type_list : After-measure_body-again → List Measure
type_list c = c.self.inside.measures.types.items

within : (c : After-measure_body-again) → c.args.id < length (table c).structs
within c = let e = ap (λ (t : Types). length t.structs) c.self.view_is in omega (arith, e, c.requires.known)

undefined : (c : After-measure_body-again) → slice_get (bodies (table c)) c.args.id ≡ Some None
undefined c = ap (λ t. slice_get (bodies t) c.args.id) c.self.view_is ∙ c.requires.undefined

known : (c : After-measure_body-again) → IsKnownBody (table c) c.args.body
known c = subst (λ t. IsKnownBody t c.args.body) (sym c.self.view_is) c.requires.fields

measure_is : (c : After-measure_body-again) → c.measure_body-measure.result ≡ body_measure (type_list c) opaque_measure (Some c.args.body)
measure_is c = c.measure_body-measure.ensures ∙ (λ j. body_measure (c.deref.ensures.value j) (c.opaque.ensures j) (Some c.args.body))

abbrev room : After-measure_body-again → ℕ
room c = deepest_nesting (struct_list c)

abbrev start : After-measure_body-again → List Measure
start c = set (struct_list c) c.args.id (body_measure (type_list c) opaque_measure (Some c.args.body))

made_is : (c : After-measure_body-again) → c.in_ok-measures.measures.structs.items ≡ passes (table c).types (bodies (table c)) (start c) (room c)
made_is c =
    c.in_ok-measures.ensures.structs
    ∙ (λ j. passes (c.deref-3.ensures.value j) (bodies (table c)) (set (c.deref-2.ensures.value j) (c.number-index.ensures j) (measure_is c j)) (deepest_nesting (c.deref-2.ensures.value j)))

types_are : (c : After-measure_body-again) → c.in_ok-measures.measures.types.items ≡ type_measures (passes (table c).types (bodies (table c)) (start c) (room c)) (table c).types
types_are c = c.in_ok-measures.ensures.types ∙ (λ j. type_measures (made_is c j) (c.deref-3.ensures.value j))

again_is : (c : After-measure_body-again) → c.measure_body-again.result ≡ body_measure (type_measures (passes (table c).types (bodies (table c)) (start c) (room c)) (table c).types) opaque_measure (Some c.args.body)
again_is c = c.measure_body-again.ensures ∙ (λ j. body_measure ((c.deref-4.ensures.value ∙ types_are c) j) (c.opaque-2.ensures j) (Some c.args.body))

high : (c : After-measure_body-again) → room c ≤ 64
high c = deepest_bound (struct_list c) 64 (λ k d lt. (c.self.invariant.kept.small_structs k d lt).nests)

low : (c : After-measure_body-again) → 1 ≤ room c
low c = some_nesting _ _ _ c.self.invariant.kept c.args.id (within c) (undefined c) c.args.body (known c)

again_deep : (c : After-measure_body-again) → c.measure_body-again.result.nesting ≡ (body_measure (type_measures (passes (table c).types (bodies (table c)) (start c) (room c)) (table c).types) opaque_measure (Some c.args.body)).nesting
again_deep c = ap (λ (m : Measure). m.nesting) (again_is c)

measure_deep : (c : After-measure_body-again) → c.measure_body-measure.result.nesting ≡ (body_measure (type_list c) opaque_measure (Some c.args.body)).nesting
measure_deep c = ap (λ (m : Measure). m.nesting) (measure_is c)

pub returns-then-again-measure-clause-fault : goal.returns-then-again-measure-clause-fault
returns-then-again-measure-clause-fault c =
    let at = (goal.at.returns-then-again-measure-clause-fault c).After-measure_body-again in
    subst (λ t. SomeContainsItself (with_body t c.args.id c.args.body)) c.self.view_is
    (defined_contains_itself _ _ _ c.self.invariant.kept c.args.id (within at) (undefined at) c.args.body (known at) (room at) (low at) (high at) (deepest_most (struct_list at))
    (λ e. c.if-again-measure.true (again_deep at ∙ e ∙ sym (measure_deep at))))

pub returns-in_err-check-2-clause-fault : goal.returns-in_err-check-2-clause-fault
returns-in_err-check-2-clause-fault c =
    let at = (goal.at.returns-in_err-check-2-clause-fault c).After-measure_body-again in
    let p = err_from_is_err_and c.from_residual-in_err-check-2.result c.from_residual-in_err-check-2.ensures.1 in
    let lists : c.in_ok-measures.measures.types.items ++ c.in_ok-measures.measures.structs.items ≡ _ = λ j. types_are at j ++ made_is at j in
    rw (p.1, p.2)
    (subst (λ t. HasFault (with_body t c.args.id c.args.body) c.in_err-check-2.field-0.0) c.self.view_is
    (defined_fault _ _ _ c.self.invariant.kept c.args.id (within at) (undefined at) c.args.body (known at) (room at) (low at) (high at) (deepest_most (struct_list at))
    (sym (again_deep at) ∙ c.if-again-measure.false ∙ measure_deep at) c.in_err-check-2.field-0.0
    (subst (λ ms. HasListFault ms c.in_err-check-2.field-0.0) lists c.in_err-check-2.ensures.fault)))

pub invariant_of-self-2 : goal.invariant_of-self-2
invariant_of-self-2 c =
    let at = (goal.at.invariant_of-self-2 c).After-measure_body-again in
    let entries = c.self.inside.structs.entries in
    let lists : c.in_ok-measures.measures.types.items ++ c.in_ok-measures.measures.structs.items ≡ _ = λ j. types_are at j ++ made_is at j in
    let kept = kept_defined _ _ _ c.self.invariant.kept c.args.id (within at) (undefined at) c.args.body (known at) (room at) (low at) (high at) (deepest_most (struct_list at))
    (sym (again_deep at) ∙ c.if-again-measure.false ∙ measure_deep at) (subst (All IsSmall) lists c.in_ok-check-2.ensures.small) in
    let body = c.set_body-2.ensures ∙ ap (λ i. set_value_at entries i (Some c.args.body)) c.number-index.ensures ∙ set_value_at-place entries c.args.id (Some c.args.body) in
    table_moved _ _ _ _ _ _ _ _ _ _ refl body (made_is at) (types_are at) refl
    (table_defined _ _ _ _ c.self.invariant c.args.id c.args.body _ _ kept)

pub returns-clause-ok : goal.returns-clause-ok
returns-clause-ok c =
    let entries = c.self.inside.structs.entries in
    let body = c.set_body-2.ensures ∙ ap (λ i. set_value_at entries i (Some c.args.body)) c.number-index.ensures ∙ set_value_at-place entries c.args.id (Some c.args.body) in
    ap (λ es. table_of c.self.inside.types.items es) body ∙ ap (λ t. with_body t c.args.id c.args.body) c.self.view_is

pub returns-clause-trees : goal.returns-clause-trees
returns-clause-trees c = ap trees (returns-clause-ok c) ∙ trees-defined c.args.self.now c.args.id c.args.body

pub returns-clause-within : goal.returns-clause-within
returns-clause-within c = within_kept _ _ _ (invariant_of-self-2 c).kept

-- where no type is the struct's name
early_within : (c : After-measure_body-measure) → c.args.id < length c.self.inside.structs.entries
early_within c = let e = ap (λ (t : Types). length t.structs) c.self.view_is in omega (arith, e, c.requires.known)

early_undefined : (c : After-measure_body-measure) → slice_get (bodies (record { types = c.self.inside.types.items; structs = c.self.inside.structs.entries })) c.args.id ≡ Some None
early_undefined c = ap (λ t. slice_get (bodies t) c.args.id) c.self.view_is ∙ c.requires.undefined

early_known : (c : After-measure_body-measure) → IsKnownBody (record { types = c.self.inside.types.items; structs = c.self.inside.structs.entries }) c.args.body
early_known c = subst (λ t. IsKnownBody t c.args.body) (sym c.self.view_is) c.requires.fields

early_measure : (c : After-measure_body-measure) → c.measure_body-measure.result ≡ body_measure c.self.inside.measures.types.items opaque_measure (Some c.args.body)
early_measure c = c.measure_body-measure.ensures ∙ (λ j. body_measure (c.deref.ensures.value j) (c.opaque.ensures j) (Some c.args.body))

unset : (flags : List Bool) (i id : ℕ) (b : Bool) → b ≡ get_or flags i b → b ≡ false → i ≡ id → id < length flags → get_or flags id false ≡ false
unset flags i id b is e same lt = get_or_default flags id false b lt ∙ ap (λ k. get_or flags k b) (sym same) ∙ sym is ∙ e

pub returns-in_err-check-clause-fault : goal.returns-in_err-check-clause-fault
returns-in_err-check-clause-fault c =
    let at = (goal.at.returns-in_err-check-clause-fault c).After-measure_body-measure in
    let p = err_from_is_err_and c.from_residual.result c.from_residual.ensures.1 in
    let free = unset _ _ _ _ c.index.ensures c.if-not-index.true c.number-index.ensures (omega (arith, early_within at, c.self.invariant.as_many_flags)) in
    rw (p.1, p.2)
    (subst (λ t. HasFault (with_body t c.args.id c.args.body) c.in_err-check.field-0.0) c.self.view_is
    (fault_unheld _ _ _ c.self.invariant.kept c.args.id (early_within at) (early_undefined at) c.args.body (early_known at) _ c.self.invariant.flagged free c.in_err-check.field-0.0
    (subst (λ m. HasListFault (m ∷ []) c.in_err-check.field-0.0) (early_measure at) c.in_err-check.ensures.fault)))

pub invariant_of-self : goal.invariant_of-self
invariant_of-self c =
    let at = (goal.at.invariant_of-self c).After-measure_body-measure in
    let entries = c.self.inside.structs.entries in
    let free = unset _ _ _ _ c.index.ensures c.if-not-index.true c.number-index.ensures (omega (arith, early_within at, c.self.invariant.as_many_flags)) in
    let kept = kept_unheld _ _ _ c.self.invariant.kept c.args.id (early_within at) (early_undefined at) c.args.body (early_known at) _ c.self.invariant.flagged free
    (subst IsSmall (early_measure at) c.in_ok-check.ensures.small) in
    let body = c.set_body.ensures ∙ ap (λ i. set_value_at entries i (Some c.args.body)) c.number-index.ensures ∙ set_value_at-place entries c.args.id (Some c.args.body) in
    table_moved _ _ _ _ _ _ _ _ _ _ refl body (λ j. set c.self.inside.measures.structs.items (c.number-index.ensures j) (early_measure at j)) refl refl
    (table_defined _ _ _ _ c.self.invariant c.args.id c.args.body _ _ kept)

pub returns-then-not-index-clause-ok : goal.returns-then-not-index-clause-ok
returns-then-not-index-clause-ok c =
    let entries = c.self.inside.structs.entries in
    let body = c.set_body.ensures ∙ ap (λ i. set_value_at entries i (Some c.args.body)) c.number-index.ensures ∙ set_value_at-place entries c.args.id (Some c.args.body) in
    ap (λ es. table_of c.self.inside.types.items es) body ∙ ap (λ t. with_body t c.args.id c.args.body) c.self.view_is

pub returns-then-not-index-clause-trees : goal.returns-then-not-index-clause-trees
returns-then-not-index-clause-trees c = ap trees (returns-then-not-index-clause-ok c) ∙ trees-defined c.args.self.now c.args.id c.args.body

pub returns-then-not-index-clause-within : goal.returns-then-not-index-clause-within
returns-then-not-index-clause-within c = within_kept _ _ _ (invariant_of-self c).kept
