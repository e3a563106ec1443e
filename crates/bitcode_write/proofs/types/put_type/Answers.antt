use Rattle.std.proofs.Common.{List, Some, ap, length, map, slice_get, subst, sym, ℕ, ◌<◌, ◌∙◌, ◌≡◌}
use Rattle.bitcode_write.proofs.Chain.{from_empty}
use Rattle.bitcode_write.proofs.Lined.{put_as}
use Rattle.bitcode_write.proofs.TypeLines.{known_here, same_kind, tree_here}
use Rattle.bitcode_write.specs.Entries.{type_in}
use Rattle.module_arena.specs.Lists.{Lists}
use Rattle.module_arena.specs.View.{module_of}
use Rattle.record_table.specs.Mentions.{mentioned}
use Rattle.record_table.specs.Spelling.{type_line}
use Rattle.record_table.specs.TypeRecords.{kind_code, kind_of}
use Rattle.type_table.specs.Tree.{Tree, TreeBody}
use Rattle.type_table.specs.Types.{IsGood, Types, names, trees}
use Rattle.bitcode_write.proofs.types.put_type.Goals as goal

pub get-ty-requires : goal.get-ty-requires
get-ty-requires c = subst (λ (t : Types). c.args.id < length t.types) (sym (c.types-types.ensures ∙ ap (λ (x : Lists). x.table) c.arena.ensures)) c.requires.known

pub put_parts-requires-clause-good : goal.put_parts-requires-clause-good
put_parts-requires-clause-good c = subst IsGood (c.types-types.ensures ∙ ap (λ (x : Lists). x.table) c.arena.ensures) c.type_count-count.ensures.good

pub put_parts-requires-clause-known : goal.put_parts-requires-clause-known
put_parts-requires-clause-known c =
    let same = c.types-types.ensures ∙ ap (λ (x : Lists). x.table) c.arena.ensures in
    let good = subst IsGood same c.type_count-count.ensures.good in
    known_here c.args.numbering.now.table good c.args.id c.get-ty.result.now (subst (λ (t : Types). slice_get t.types c.args.id ≡ Some c.get-ty.result.now) same c.get-ty.ensures)

pub returns-clause-put : goal.returns-clause-put
returns-clause-put c =
    let a = c.args.numbering.now in
    let t = a.table in
    let x = c.get-ty.result.now in
    let same = c.types-types.ensures ∙ ap (λ (y : Lists). y.table) c.arena.ensures in
    let good = subst IsGood same c.type_count-count.ensures.good in
    let at = subst (λ (u : Types). slice_get u.types c.args.id ≡ Some x) same c.get-ty.ensures in
    let here = sym (tree_here t good c.args.id x at) in
    put_as _ _ _ _ _ _ _ c.put.ensures.put
    (c.code.ensures ∙ ap kind_code c.kind_of-kind.ensures ∙ ap kind_code (same_kind (mentioned (module_of a)) (map (λ (s : List ℕ × TreeBody). s.0) (module_of a).structs) (names t) (trees t) x) ∙ ap (λ (y : Tree). kind_code (kind_of (type_in a y))) here)
    (from_empty _ _ _ c.requires.empty c.in_ok-put_parts.ensures ∙ ap (λ (y : Tree). (type_line (type_in a y)).1) here)
