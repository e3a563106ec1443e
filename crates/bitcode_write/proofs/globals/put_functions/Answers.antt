use Rattle.std.proofs.Common.{All, Bool, List, None, Option, Some, [], ap, arith, is_some, length, map, refl, slice_get, subst, sym, ℕ, ◌∷◌, ◌≡◌}
use Rattle.std.proofs.lemmas.Option.{get_or_from_slice_get, slice_get_within}
use Rattle.std.specs.Option.{option_map}
use Rattle.bitcode_write.proofs.Lined.{lines_same, things_end, things_more}
use Rattle.bitcode_write.specs.Entries.{function_of}
use Rattle.module_arena.specs.Known.{IsGood, KnowsFunction}
use Rattle.module_arena.specs.Lists.{Lists}
use Rattle.record_write.specs.Operands.Numbered.{indices, texts}
use Rattle.record_table.specs.Records as records
use Rattle.module_arena.specs.Module as m
use Rattle.module_arena.specs.declared.entry.Function.{Function}
use Rattle.bitcode_write.proofs.globals.put_functions.Goals as goal

-- what holds of all holds of the one with that number
one_of : {A : Type 0} (P : A → Type 0) (xs : List A) → All P xs → (k : ℕ) (x : A) → slice_get xs k ≡ Some x → P x
one_of P xs all k x at = subst P (get_or_from_slice_get xs k x x at) (all k x (slice_get_within xs k x at))

some_mapped : {A B : Type 0} (f : A → B) (o : Option A) → is_some o ≡ is_some (option_map f o)
some_mapped f None = refl
some_mapped f (Some x) = refl

pub parts-preserved : goal.parts-preserved
parts-preserved c =
    let a = c.args.numbering.now in
    let x = c.function-function.result.now in
    let at = subst (λ (b : Lists). slice_get b.functions c.parts.place ≡ Some x) c.arena-arena.ensures (rw c.new.ensures at c.function-function.ensures) in
    let many = ap (λ (b : Lists). length b.functions) c.arena-arena.ensures in
    record {
      ready = c.in_ok-put_function.ensures.put.ready;
      none = c.in_ok-put_function.ensures.none;
      rest = λ now h. c.parts.invariant.rest now (things_more (λ (x : Function). (6, (records.function (texts a) (indices a)).spell (is_some ((function_of a x)).body, (function_of a x))) ∷ []) (λ (xs : List Function). map (λ (y : m.Function). (6, (records.function (texts a) (indices a)).spell (is_some (y).body, y))) (map (function_of a) xs)) refl (λ x xs. refl) a.functions c.parts.place x (omega (arith, c.parts-test.true, c.function_count-place-end.ensures, many)) (sym (get_or_from_slice_get a.functions c.parts.place x x at)) (lines_same (ap (λ (d : Bool). (6, (records.function (texts a) (indices a)).spell (d, function_of a x)) ∷ []) (some_mapped _ x.body)) c.in_ok-put_function.ensures.put) h);
    }

pub returns-clause-put : goal.returns-clause-put
returns-clause-put c =
    let a = c.args.numbering.now in
    let many = ap (λ (b : Lists). length b.functions) c.arena-arena.ensures in
    c.parts.invariant.rest _ (things_end (λ (x : Function). (6, (records.function (texts a) (indices a)).spell (is_some ((function_of a x)).body, (function_of a x))) ∷ []) (λ (xs : List Function). map (λ (y : m.Function). (6, (records.function (texts a) (indices a)).spell (is_some (y).body, y))) (map (function_of a) xs)) refl (λ x xs. refl) a.functions c.parts.place _ (omega (arith, c.parts-test.false, c.function_count-place-end.ensures, many)) c.parts.invariant.ready)

pub put_function-requires-clause-ready : goal.put_function-requires-clause-ready
put_function-requires-clause-ready c = c.parts.invariant.ready

pub put_function-requires-clause-empty : goal.put_function-requires-clause-empty
put_function-requires-clause-empty c = c.parts.invariant.none

pub put_function-requires-clause-known : goal.put_function-requires-clause-known
put_function-requires-clause-known c =
    let a = c.args.numbering.now in
    let x = c.function-function.result.now in
    let at = subst (λ (b : Lists). slice_get b.functions c.parts.place ≡ Some x) c.arena-arena.ensures (rw c.new.ensures at c.function-function.ensures) in
    one_of (KnowsFunction (length a.table.types) (length a.constants)) a.functions (subst (λ (b : Lists). IsGood b) c.arena-arena.ensures c.variable_count-count.ensures.good).functions c.parts.place x at
