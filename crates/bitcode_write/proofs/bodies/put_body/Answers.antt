use Rattle.std.proofs.Common.{All, List, [], ap, flat_map, map, refl, subst, sym, ◌∙◌, ◌∷◌}
use Rattle.bit_tree.specs.Written.{no_more}
use Rattle.bitcode_write.proofs.Chain.{from_empty}
use Rattle.bitcode_write.proofs.Lined.{block_before, entered_open, left_open, lines_as, lines_same, lines_then, none_put}
use Rattle.bitcode_write.proofs.Viewed.{blocks_are, own_lines, own_names}
use Rattle.bitcode_write.specs.Entries.{IsBlock, block_of}
use Rattle.bitcode_write.specs.Put.{Puts, PutsLines}
use Rattle.module_arena.specs.View.{local_view}
use Rattle.record_write.specs.Operands.Numbered.{inside, texts}
use Rattle.record_table.specs.Fields.{label}
use Rattle.record_table.specs.Spelling.{Line, block_lines, put, put_bodies}
use Rattle.type_table.specs.Types.{names}
use Rattle.module_arena.specs.declared.entry.Block.{Block}
use Rattle.module_arena.specs.declared.entry.Parameter.{Parameter}
use Rattle.bitcode_write.proofs.bodies.put_body.Goals as goal

pub put-requires : goal.put-requires
put-requires c = entered_open c.args.out.now.writer 12 _ c.requires.ready.unspent c.in_ok-enter.ensures.entered

pub put_blocks-requires-clause-known : goal.put_blocks-requires-clause-known
put_blocks-requires-clause-known c =
    let a = c.args.numbering.now in
    let f = c.args.function.now in
    rw c.as_slice-2.ensures (subst (λ (xs : List Block). All (IsBlock a f) xs) (blocks_are a f c.args.body.now c.requires.own) c.requires.blocks)

pub returns-clause-put : goal.returns-clause-put
returns-clause-put c =
    let a = c.args.numbering.now in
    let f = c.args.function.now in
    let b = c.args.body.now in
    let named : Line = (1, flat_map (label (texts a) 0).spell (own_names a f)) in
    let others = flat_map (block_lines (texts a) (inside a f)) (map (block_of a f) b.blocks) in
    let names = from_empty _ _ _ (c.in_ok-enter.ensures.kept ∙ c.requires.empty) c.in_ok-put_names.ensures
    ∙ ap (λ (ps : List Parameter). flat_map (label (texts a) 0).spell (map (λ (p : Parameter). local_view p.name) ps)) c.as_slice.ensures in
    let inner : PutsLines c.enter.new.self.writer (named ∷ others) c.put_blocks.new.out.writer =
    lines_then (named ∷ []) others (lines_as _ 1 _ _ c.in_ok-put.ensures.put refl names)
    (lines_same (ap (λ (xs : List Block). flat_map (block_lines (texts a) (inside a f)) (map (block_of a f) xs)) c.as_slice-2.ensures) c.in_ok-put_blocks.ensures.put) in
    let left = left_open 12 (put (named ∷ others) no_more) c.requires.ready c.in_ok-enter.ensures.entered inner c.in_ok-leave.ensures.ended in
    subst (λ (ls : List (List Line)). Puts c.args.out.now.writer (put_bodies ls no_more) c.leave.new.self.writer) (sym (own_lines a f b c.requires.own c.requires.known))
    (block_before 12 (put (named ∷ others) no_more) no_more c.in_ok-enter.ensures.entered inner c.in_ok-leave.ensures.ended (none_put _ left))
