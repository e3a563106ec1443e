use Rattle.std.proofs.Common.{List, map, length, refl, sym, arith}
use Rattle.std.proofs.lemmas.Option.{get_or_from_slice_get}
use Rattle.ir_lexer.specs.Pieces.{Line}
use Rattle.module_arena.specs.declared.entry.Alias as the_alias
use Rattle.type_table.specs.Types.{trees}
use Rattle.module_arena.specs.Lists.{name_at}
use Rattle.module_arena.specs.View.{alias_view}
use Rattle.canonical.specs.Canonical.{alias_phrase}
use Rattle.module_arena.specs.Known.{KnowsAlias, counts}
use Rattle.ir_printer.proofs.Followed.{one_of}
use Rattle.ir_printer.proofs.Lined.{line_more, lines_end}
use Rattle.ir_printer.proofs.entries.put_aliases.Goals as goal

pub parts-preserved : goal.parts-preserved
parts-preserved g c = λ s now h.
    let a = c.args.arena.now in
    let x = c.alias-alias.result.now in
    let at = rw c.new.ensures at c.alias-alias.ensures in
    c.parts.invariant s now (line_more Line (λ (x : the_alias.Alias). alias_phrase (alias_view (trees a.table) (name_at a) x)) (λ (xs : List the_alias.Alias). map alias_phrase (map (alias_view (trees a.table) (name_at a)) xs)) refl (λ x xs. refl) a.aliases c.parts.place x s (omega (arith, c.parts-test.true, c.alias_count-place-end.ensures)) (sym (get_or_from_slice_get a.aliases c.parts.place x x at)) c.put_alias.ensures h)

pub returns : goal.returns
returns g c = λ s.
    let a = c.args.arena.now in
    c.parts.invariant s _ (lines_end Line (λ (x : the_alias.Alias). alias_phrase (alias_view (trees a.table) (name_at a) x)) (λ (xs : List the_alias.Alias). map alias_phrase (map (alias_view (trees a.table) (name_at a)) xs)) refl (λ x xs. refl) a.aliases c.parts.place s _ (omega (arith, c.parts-test.false, c.alias_count-place-end.ensures)))

pub put_alias-requires : goal.put_alias-requires
put_alias-requires g c =
    let a = c.args.arena.now in
    let at = rw c.new.ensures at c.alias-alias.ensures in
    one_of (KnowsAlias (length a.table.types) (counts a)) a.aliases c.variable_count-count.ensures.good.aliases c.parts.place c.alias-alias.result.now at
