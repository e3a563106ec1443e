use Rattle.std.proofs.Common.{List, [], ap, length, map, refl, subst, sym, ℕ, ◌<◌, ◌∷◌}
use Rattle.bitcode_write.proofs.Lined.{lines_same, things_end, things_more}
use Rattle.bitcode_write.specs.Entries.{type_in}
use Rattle.record_table.specs.Spelling.{type_line}
use Rattle.type_table.specs.Tree.{Tree}
use Rattle.type_table.specs.Types.{tree}
use Rattle.bitcode_write.proofs.types.put_listed.Goals as goal

pub parts-preserved : goal.parts-preserved
parts-preserved c =
    let a = c.args.numbering.now in
    let ids = c.types-ids.result.now in
    record {
      ready = c.in_ok-put_type.ensures.put.ready;
      none = c.in_ok-put_type.ensures.none;
      rest = λ now h. c.parts.invariant.rest now (things_more (λ (x : ℕ). type_line (type_in a (tree a.table x)) ∷ []) (λ (xs : List ℕ). map (λ (t : Tree). type_line (type_in a t)) (map (tree a.table) xs)) refl (λ x xs. refl) ids c.parts.place c.index-ids-place.result c.parts-test.true c.index-ids-place.is c.in_ok-put_type.ensures.put h);
    }

pub returns-clause-put : goal.returns-clause-put
returns-clause-put c =
    let a = c.args.numbering.now in
    let ids = c.types-ids.result.now in
    lines_same (ap (map (λ (t : Tree). type_line (type_in a t))) c.types-ids.ensures.trees)
    (c.parts.invariant.rest _ (things_end (λ (x : ℕ). type_line (type_in a (tree a.table x)) ∷ []) (λ (xs : List ℕ). map (λ (t : Tree). type_line (type_in a t)) (map (tree a.table) xs)) refl (λ x xs. refl) ids c.parts.place _ c.parts-test.false c.parts.invariant.ready))

pub put_type-requires-clause-ready : goal.put_type-requires-clause-ready
put_type-requires-clause-ready c = c.parts.invariant.ready

pub put_type-requires-clause-empty : goal.put_type-requires-clause-empty
put_type-requires-clause-empty c = c.parts.invariant.none

pub put_type-requires-clause-known : goal.put_type-requires-clause-known
put_type-requires-clause-known c =
    subst (λ (n : ℕ). n < length c.args.numbering.now.table.types) (sym c.index-ids-place.is) (c.types-ids.ensures.known c.parts.place c.index-ids-place.result c.parts-test.true)
