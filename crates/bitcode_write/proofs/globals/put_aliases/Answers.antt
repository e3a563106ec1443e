use Rattle.std.proofs.Common.{All, List, Some, [], ap, arith, length, map, refl, slice_get, subst, sym, ℕ, ◌∷◌, ◌≡◌}
use Rattle.std.proofs.lemmas.Option.{get_or_from_slice_get, slice_get_within}
use Rattle.bitcode_write.proofs.Lined.{things_end, things_more}
use Rattle.bitcode_write.specs.Entries.{IsAlias, alias_of}
use Rattle.module_arena.specs.Known.{IsGood, KnowsAlias, counts}
use Rattle.module_arena.specs.Lists.{Lists}
use Rattle.record_write.specs.Operands.Numbered.{indices, texts}
use Rattle.record_table.specs.Records as records
use Rattle.module_arena.specs.Module as m
use Rattle.module_arena.specs.declared.entry.Alias.{Alias}
use Rattle.bitcode_write.proofs.globals.put_aliases.Goals as goal

-- what holds of all holds of the one with that number
one_of : {A : Type 0} (P : A → Type 0) (xs : List A) → All P xs → (k : ℕ) (x : A) → slice_get xs k ≡ Some x → P x
one_of P xs all k x at = subst P (get_or_from_slice_get xs k x x at) (all k x (slice_get_within xs k x at))

pub parts-preserved : goal.parts-preserved
parts-preserved c =
    let a = c.args.numbering.now in
    let x = c.alias-alias.result.now in
    let at = subst (λ (b : Lists). slice_get b.aliases c.parts.place ≡ Some x) c.arena-arena.ensures (rw c.new.ensures at c.alias-alias.ensures) in
    let many = ap (λ (b : Lists). length b.aliases) c.arena-arena.ensures in
    record {
      ready = c.in_ok-put_alias.ensures.put.ready;
      none = c.in_ok-put_alias.ensures.none;
      rest = λ now h. c.parts.invariant.rest now (things_more (λ (x : Alias). (7, (records.alias (texts a) (indices a)).spell (alias_of a x)) ∷ []) (λ (xs : List Alias). map (λ (y : m.Alias). (7, (records.alias (texts a) (indices a)).spell y)) (map (alias_of a) xs)) refl (λ x xs. refl) a.aliases c.parts.place x (omega (arith, c.parts-test.true, c.alias_count-place-end.ensures, many)) (sym (get_or_from_slice_get a.aliases c.parts.place x x at)) c.in_ok-put_alias.ensures.put h);
    }

pub returns-clause-put : goal.returns-clause-put
returns-clause-put c =
    let a = c.args.numbering.now in
    let many = ap (λ (b : Lists). length b.aliases) c.arena-arena.ensures in
    c.parts.invariant.rest _ (things_end (λ (x : Alias). (7, (records.alias (texts a) (indices a)).spell (alias_of a x)) ∷ []) (λ (xs : List Alias). map (λ (y : m.Alias). (7, (records.alias (texts a) (indices a)).spell y)) (map (alias_of a) xs)) refl (λ x xs. refl) a.aliases c.parts.place _ (omega (arith, c.parts-test.false, c.alias_count-place-end.ensures, many)) c.parts.invariant.ready)

pub put_alias-requires-clause-ready : goal.put_alias-requires-clause-ready
put_alias-requires-clause-ready c = c.parts.invariant.ready

pub put_alias-requires-clause-empty : goal.put_alias-requires-clause-empty
put_alias-requires-clause-empty c = c.parts.invariant.none

pub put_alias-requires-clause-known : goal.put_alias-requires-clause-known
put_alias-requires-clause-known c =
    let a = c.args.numbering.now in
    let x = c.alias-alias.result.now in
    let at = subst (λ (b : Lists). slice_get b.aliases c.parts.place ≡ Some x) c.arena-arena.ensures (rw c.new.ensures at c.alias-alias.ensures) in
    one_of (KnowsAlias (length a.table.types) (counts a)) a.aliases (subst (λ (b : Lists). IsGood b) c.arena-arena.ensures c.variable_count-count.ensures.good).aliases c.parts.place x at

pub put_alias-requires-clause-fits : goal.put_alias-requires-clause-fits
put_alias-requires-clause-fits c =
    let a = c.args.numbering.now in
    let x = c.alias-alias.result.now in
    let at = subst (λ (b : Lists). slice_get b.aliases c.parts.place ≡ Some x) c.arena-arena.ensures (rw c.new.ensures at c.alias-alias.ensures) in
    one_of (IsAlias a) a.aliases c.requires.entries.aliases c.parts.place x at
