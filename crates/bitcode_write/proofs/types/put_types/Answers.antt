use Rattle.std.proofs.Common.{List, [], ap, arith, get_or, length, map, refl, ℕ, ◌<◌, ◌∙◌, ◌∷◌}
use Rattle.std.proofs.lemmas.List.{get_or_default, length-map}
use Rattle.bitcode_write.proofs.Lined.{lines_same, lines_then, things_end, things_more}
use Rattle.bitcode_write.specs.Entries.{define_in, struct_in, type_in}
use Rattle.module_arena.specs.Lists.{Lists}
use Rattle.module_arena.specs.View.{module_of}
use Rattle.record_table.specs.Mentions.{mentioned}
use Rattle.record_table.specs.Spelling.{type_line}
use Rattle.type_table.specs.Tree.{Tree, TreeBody, opaque_body}
use Rattle.type_table.specs.Types.{Types, structs, tree_struct, trees}
use Rattle.bitcode_write.proofs.types.put_types.Goals as goal

pub structs-preserved : goal.structs-preserved
structs-preserved c =
    let a = c.args.numbering.now in
    let count = c.struct_count-count.ensures ∙ ap (λ (t : Types). length t.structs) (c.types.ensures ∙ ap (λ (x : Lists). x.table) c.arena.ensures) in
    let many = length-map a.table.structs (tree_struct (trees a.table)) in
    let lt : c.structs.place < length (structs a.table) = omega (arith, c.structs-test.true, count, many) in
    let x = get_or (structs a.table) c.structs.place ([], opaque_body) in
    record {
      ready = c.in_ok-put_struct.ensures.put.ready;
      none = c.in_ok-put_struct.ensures.none;
      rest = λ now h. c.structs.invariant.rest now (things_more (λ (s : List ℕ × TreeBody). define_in a s ∷ []) (λ (ss : List (List ℕ × TreeBody)). map (define_in a) ss) refl (λ s ss. refl) (structs a.table) c.structs.place x lt
          (get_or_default (structs a.table) c.structs.place ([], opaque_body) x lt) (lines_same (ap (λ (n : ℕ). struct_in a n ∷ []) c.new.ensures) c.in_ok-put_struct.ensures.put) h);
    }

pub put_struct-requires-clause-ready : goal.put_struct-requires-clause-ready
put_struct-requires-clause-ready c = c.structs.invariant.ready

pub put_struct-requires-clause-empty : goal.put_struct-requires-clause-empty
put_struct-requires-clause-empty c = c.structs.invariant.none

pub put_struct-requires-clause-known : goal.put_struct-requires-clause-known
put_struct-requires-clause-known c =
    let count = c.struct_count-count.ensures ∙ ap (λ (t : Types). length t.structs) (c.types.ensures ∙ ap (λ (x : Lists). x.table) c.arena.ensures) in
    omega (arith, c.structs-test.true, count, c.new.ensures)

pub returns-clause-put : goal.returns-clause-put
unfolding module_of
returns-clause-put c =
    let a = c.args.numbering.now in
    let count = c.struct_count-count.ensures ∙ ap (λ (t : Types). length t.structs) (c.types.ensures ∙ ap (λ (x : Lists). x.table) c.arena.ensures) in
    let many = length-map a.table.structs (tree_struct (trees a.table)) in
    lines_then (map (λ (t : Tree). type_line (type_in a t)) (mentioned (module_of a))) (map (define_in a) (structs a.table)) c.in_ok-put_listed.ensures.put
    (c.structs.invariant.rest _ (things_end (λ (s : List ℕ × TreeBody). define_in a s ∷ []) (λ (ss : List (List ℕ × TreeBody)). map (define_in a) ss) refl (λ s ss. refl) (structs a.table) c.structs.place _ (omega (arith, c.structs-test.false, count, many)) c.structs.invariant.ready))
