use Rattle.std.proofs.Common.{All, List, Some, [], ap, arith, length, map, refl, slice_get, subst, sym, ℕ, ◌∷◌, ◌≡◌}
use Rattle.std.proofs.lemmas.Option.{get_or_from_slice_get, slice_get_within}
use Rattle.bitcode_write.proofs.Lined.{things_end, things_more}
use Rattle.bitcode_write.specs.Entries.{IsVariable, variable_of}
use Rattle.module_arena.specs.Known.{IsGood, KnowsVariable}
use Rattle.module_arena.specs.Lists.{Lists}
use Rattle.record_write.specs.Operands.Numbered.{indices, texts}
use Rattle.record_table.specs.Records as records
use Rattle.module_arena.specs.Module as m
use Rattle.module_arena.specs.declared.entry.Variable.{Variable}
use Rattle.bitcode_write.proofs.globals.put_variables.Goals as goal

-- what holds of all holds of the one with that number
one_of : {A : Type 0} (P : A → Type 0) (xs : List A) → All P xs → (k : ℕ) (x : A) → slice_get xs k ≡ Some x → P x
one_of P xs all k x at = subst P (get_or_from_slice_get xs k x x at) (all k x (slice_get_within xs k x at))

pub parts-preserved : goal.parts-preserved
parts-preserved c =
    let a = c.args.numbering.now in
    let x = c.variable-variable.result.now in
    let at = subst (λ (b : Lists). slice_get b.variables c.parts.place ≡ Some x) c.arena-arena.ensures (rw c.new.ensures at c.variable-variable.ensures) in
    let many = ap (λ (b : Lists). length b.variables) c.arena-arena.ensures in
    record {
      ready = c.in_ok-put_variable.ensures.put.ready;
      none = c.in_ok-put_variable.ensures.none;
      rest = λ now h. c.parts.invariant.rest now (things_more (λ (x : Variable). (5, (records.variable (texts a) (indices a)).spell (variable_of a x)) ∷ []) (λ (xs : List Variable). map (λ (y : m.Variable). (5, (records.variable (texts a) (indices a)).spell y)) (map (variable_of a) xs)) refl (λ x xs. refl) a.variables c.parts.place x (omega (arith, c.parts-test.true, c.variable_count-place-end.ensures.count, many)) (sym (get_or_from_slice_get a.variables c.parts.place x x at)) c.in_ok-put_variable.ensures.put h);
    }

pub returns-clause-put : goal.returns-clause-put
returns-clause-put c =
    let a = c.args.numbering.now in
    let many = ap (λ (b : Lists). length b.variables) c.arena-arena.ensures in
    c.parts.invariant.rest _ (things_end (λ (x : Variable). (5, (records.variable (texts a) (indices a)).spell (variable_of a x)) ∷ []) (λ (xs : List Variable). map (λ (y : m.Variable). (5, (records.variable (texts a) (indices a)).spell y)) (map (variable_of a) xs)) refl (λ x xs. refl) a.variables c.parts.place _ (omega (arith, c.parts-test.false, c.variable_count-place-end.ensures.count, many)) c.parts.invariant.ready)

pub put_variable-requires-clause-ready : goal.put_variable-requires-clause-ready
put_variable-requires-clause-ready c = c.parts.invariant.ready

pub put_variable-requires-clause-empty : goal.put_variable-requires-clause-empty
put_variable-requires-clause-empty c = c.parts.invariant.none

pub put_variable-requires-clause-known : goal.put_variable-requires-clause-known
put_variable-requires-clause-known c =
    let a = c.args.numbering.now in
    let x = c.variable-variable.result.now in
    let at = subst (λ (b : Lists). slice_get b.variables c.parts.place ≡ Some x) c.arena-arena.ensures (rw c.new.ensures at c.variable-variable.ensures) in
    one_of (KnowsVariable (length a.table.types) (length a.constants)) a.variables (subst (λ (b : Lists). IsGood b) c.arena-arena.ensures c.variable_count-place-end.ensures.good).variables c.parts.place x at

pub put_variable-requires-clause-fits : goal.put_variable-requires-clause-fits
put_variable-requires-clause-fits c =
    let a = c.args.numbering.now in
    let x = c.variable-variable.result.now in
    let at = subst (λ (b : Lists). slice_get b.variables c.parts.place ≡ Some x) c.arena-arena.ensures (rw c.new.ensures at c.variable-variable.ensures) in
    one_of (IsVariable a) a.variables c.requires.entries.variables c.parts.place x at
