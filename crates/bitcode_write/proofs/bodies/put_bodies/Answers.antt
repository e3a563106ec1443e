use Rattle.std.proofs.Common.{All, List, None, Option, Some, [], ap, arith, filter_map, length, map, refl, slice_get, subst, sym, ℕ, ◌++◌, ◌≡◌}
use Rattle.std.proofs.lemmas.Option.{get_or_from_slice_get, slice_get_within}
use Rattle.std.specs.List.{cons_option}
use Rattle.bitcode_write.proofs.Lined.{bodies_end, bodies_more}
use Rattle.bitcode_write.specs.Entries.{IsBlock, function_of}
use Rattle.module_arena.specs.Known.{IsGood, KnowsFunction}
use Rattle.module_arena.specs.Lists.{Lists, function_blocks}
use Rattle.record_write.specs.Operands.Numbered.{indices, texts}
use Rattle.record_table.specs.Spelling.{body_of}
use Rattle.module_arena.specs.declared.entry.Function.{Function}
use Rattle.module_arena.specs.Module as m
use Rattle.bitcode_write.proofs.bodies.put_bodies.Goals as goal

-- what holds of all holds of the one with that number
one_of : {A : Type 0} (P : A → Type 0) (xs : List A) → All P xs → (k : ℕ) (x : A) → slice_get xs k ≡ Some x → P x
one_of P xs all k x at = subst P (get_or_from_slice_get xs k x x at) (all k x (slice_get_within xs k x at))

with_first : {X : Type 0} (o : Option X) (xs : List X) → cons_option o xs ≡ cons_option o [] ++ xs
with_first None xs = refl
with_first (Some x) xs = refl

pub parts-preserved : goal.parts-preserved
parts-preserved c =
    let a = c.args.numbering.now in
    let x = c.function.result.now in
    let at = subst (λ (b : Lists). slice_get b.functions c.parts.place ≡ Some x) c.arena-arena.ensures (rw c.new.ensures at c.function.ensures) in
    let many = ap (λ (b : Lists). length b.functions) c.arena-arena.ensures in
    let all = λ (fs : List Function). filter_map (body_of (texts a) (indices a)) (map (function_of a) fs) in
    record {
      ready = c.in_ok-put_own_body.ensures.put.ready;
      none = c.in_ok-put_own_body.ensures.none;
      rest = λ now h. c.parts.invariant.rest now (bodies_more all refl (λ f fs. with_first (body_of (texts a) (indices a) (function_of a f)) (all fs)) a.functions c.parts.place x (omega (arith, c.parts-test.true, c.function_count-place-end.ensures, many)) (sym (get_or_from_slice_get a.functions c.parts.place x x at)) c.in_ok-put_own_body.ensures.put h);
    }

pub returns-clause-put : goal.returns-clause-put
returns-clause-put c =
    let a = c.args.numbering.now in
    let many = ap (λ (b : Lists). length b.functions) c.arena-arena.ensures in
    let all = λ (fs : List Function). filter_map (body_of (texts a) (indices a)) (map (function_of a) fs) in
    c.parts.invariant.rest _ (bodies_end all refl (λ f fs. with_first (body_of (texts a) (indices a) (function_of a f)) (all fs)) a.functions c.parts.place _ (omega (arith, c.parts-test.false, c.function_count-place-end.ensures, many)) c.parts.invariant.ready)

pub put_own_body-requires-clause-ready : goal.put_own_body-requires-clause-ready
put_own_body-requires-clause-ready c = c.parts.invariant.ready

pub put_own_body-requires-clause-empty : goal.put_own_body-requires-clause-empty
put_own_body-requires-clause-empty c = c.parts.invariant.none

pub put_own_body-requires-clause-known : goal.put_own_body-requires-clause-known
put_own_body-requires-clause-known c =
    let a = c.args.numbering.now in
    let x = c.function.result.now in
    let at = subst (λ (b : Lists). slice_get b.functions c.parts.place ≡ Some x) c.arena-arena.ensures (rw c.new.ensures at c.function.ensures) in
    one_of (KnowsFunction (length a.table.types) (length a.constants)) a.functions (subst (λ (b : Lists). IsGood b) c.arena-arena.ensures c.variable_count-count.ensures.good).functions c.parts.place x at

pub put_own_body-requires-clause-blocks : goal.put_own_body-requires-clause-blocks
put_own_body-requires-clause-blocks c =
    let a = c.args.numbering.now in
    let x = c.function.result.now in
    let at = subst (λ (b : Lists). slice_get b.functions c.parts.place ≡ Some x) c.arena-arena.ensures (rw c.new.ensures at c.function.ensures) in
    one_of (λ (f : Function). All (IsBlock a f) (function_blocks f)) a.functions c.requires.entries.functions c.parts.place x at
