use Rattle.std.proofs.Common.{◌≡◌, ◌≤◌, ◌+◌, ◌++◌, ◌∙◌, ℕ, List, Option, None, All, sym, ap, subst, arith, length, slice_get, get_or}
use Rattle.type_table.specs.declared.ir_type.StructBody.{StructBody}
use Rattle.type_table.specs.declared.measure.Measure.{Measure}
use Rattle.type_table.specs.Kept.{IsSmall, IsTable}
use Rattle.type_table.specs.Measures.{opaque_measure, struct_measures, type_measures}
use Rattle.type_table.specs.Types.{IsKnownBody, Types, bodies, trees}
use Rattle.type_table.specs.Batch.{IsOpen, StaysWithin, set_from, with_bodies}
use Rattle.type_table.proofs.Batched.{table_given, within_given}
use Rattle.type_table.proofs.Flags.{table_of}
use Rattle.type_table.proofs.Given.{AreUndefined, trees-given}
use Rattle.type_table.proofs.table.TypeTable.define_structs.Goals as goal
use Rattle.type_table.proofs.table.TypeTable.define_structs.Goals.{After-replace}

-- the table as its fields have it, and what it is given
abbrev table : After-replace → Types
table c = table_of c.self.inside.types.items c.self.inside.structs.entries

abbrev given : After-replace → List StructBody
given c = c.args.given.now.items

abbrev ms : After-replace → List Measure
ms c = c.in-Some.measures.structs.items

fit : (c : After-replace) → c.args.first + length (given c) ≤ length (table c).structs
fit c = let e = ap (λ (t : Types). length t.structs) c.self.view_is in omega (arith, e, c.requires.known)

known : (c : After-replace) → All (IsKnownBody (table c)) (given c)
known c = subst (λ t. All (IsKnownBody t) (given c)) (sym c.self.view_is) c.requires.fields

none : (c : After-replace) → AreUndefined (table c) c.args.first (length (given c))
none c = λ k le lt. ap (λ t. slice_get (bodies t) k) c.self.view_is ∙ c.requires.undefined k le lt

set_from_is : (c : After-replace) → set_from (bodies (table c)) c.number-index.result c.deref-3.result.now ≡ set_from (bodies (table c)) c.args.first (given c)
set_from_is c = λ j. set_from (bodies (table c)) (c.number-index.ensures j) (c.deref-3.ensures.value j)

types_are : (c : After-replace) → c.in-Some.measures.types.items ≡ type_measures (ms c) (table c).types
types_are c = (rw c.in-Some.is at c.in_ok-found.ensures.types) ∙ ap (type_measures (ms c)) c.deref-2.ensures.value

rest : (c : After-replace) → struct_measures (type_measures (ms c) (table c).types) (ms c) (set_from (bodies (table c)) c.args.first (given c)) ≡ ms c
rest c = sym (λ j. struct_measures (types_are c j) (ms c) (set_from_is c j)) ∙ (rw c.in-Some.is at c.in_ok-found.ensures.rest)

open_kept : (c : After-replace) (k : ℕ) → IsOpen (get_or (set_from (bodies (table c)) c.args.first (given c)) k None) → get_or (ms c) k opaque_measure ≡ get_or c.self.inside.measures.structs.items k opaque_measure
open_kept c k is =
    let kept = rw c.in-Some.is at c.in_ok-found.ensures.kept in
    kept k (subst (λ (bs : List (Option StructBody)). IsOpen (get_or bs k None)) (sym (set_from_is c)) is) ∙ ap (λ l. get_or l k opaque_measure) c.deref.ensures.value

many : (c : After-replace) → length (ms c) ≡ length (table c).structs
many c = rw c.in-Some.is at c.in_ok-found.ensures.many

small : (c : After-replace) → All IsSmall (type_measures (ms c) (table c).types ++ ms c)
small c = subst (λ ts. All IsSmall (ts ++ ms c)) (types_are c) c.in-Ok.ensures.small

pub invariant_of-self : goal.invariant_of-self
invariant_of-self c =
    let at = (goal.at.invariant_of-self c).After-replace in
    let set = sym (λ j. with_bodies (table at) (c.number-index.ensures j) (ap (λ v. v.items) c.replace.ensures.value j)) ∙ c.set_bodies.ensures c.self.inside.types.items in
    subst (λ t. IsTable t (ms at) c.in-Some.measures.types.items c.self.inside.flags.items) set
    (subst (λ ts. IsTable (with_bodies (table at) c.args.first (given at)) (ms at) ts c.self.inside.flags.items) (sym (types_are at))
    (table_given (table at) _ _ _ c.self.invariant c.args.first (given at) (fit at) (known at) (none at) (ms at) (many at) (rest at) (open_kept at) (small at)))

pub returns-in-Ok-clause-trees : goal.returns-in-Ok-clause-trees
returns-in-Ok-clause-trees c =
    let at = (goal.at.returns-in-Ok-clause-trees c).After-replace in
    let set = sym (λ j. with_bodies (table at) (c.number-index.ensures j) (ap (λ v. v.items) c.replace.ensures.value j)) ∙ c.set_bodies.ensures c.self.inside.types.items in
    sym (ap trees set) ∙ trees-given (table at) c.args.first (given at) ∙ ap trees c.self.view_is

pub returns-in-Ok-clause-within : goal.returns-in-Ok-clause-within
returns-in-Ok-clause-within c = λ e.
    let at = (goal.at.returns-in-Ok-clause-within c).After-replace in
    subst (λ t. StaysWithin t c.args.first (given at)) c.self.view_is
    (within_given (table at) _ _ _ c.self.invariant c.args.first (given at) (fit at) (known at) (none at) (ms at) (many at) (rest at) (open_kept at) (small at))
