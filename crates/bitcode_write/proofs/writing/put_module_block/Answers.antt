use Rattle.std.proofs.Common.{ap, filter_map, map, ◌∙◌}
use Rattle.bit_stream.specs.Writer.{Writer, end_block}
use Rattle.bit_tree.specs.Written.{no_more, written}
use Rattle.bitcode_write.proofs.Lined.{around_kept, block_before, entered_open, left_open, lines_before}
use Rattle.bitcode_write.specs.Entries.{function_of}
use Rattle.bitcode_write.specs.Put.{Puts}
use Rattle.module_arena.specs.View.{module_of}
use Rattle.record_write.specs.Operands.Numbered.{indices, texts}
use Rattle.record_table.specs.Mentions.{mentioned}
use Rattle.record_table.specs.Spelling.{body_of, global_lines, head_lines, put, put_block, put_bodies, put_module, texts_in, type_lines}
use Rattle.type_table.specs.Types.{bodies}
use Rattle.bitcode_write.proofs.writing.put_module_block.Goals as goal

pub put_head-requires-clause-ready : goal.put_head-requires-clause-ready
put_head-requires-clause-ready c = entered_open c.args.out.now.writer 8 _ c.requires.outside.unspent c.in_ok-enter.ensures.entered

pub put_types-requires-clause-ready : goal.put_types-requires-clause-ready
put_types-requires-clause-ready c = entered_open _ 17 _ c.in_ok-put_head.ensures.put.ready.unspent c.in_ok-enter-2.ensures.entered

pub put_globals-requires-clause-ready : goal.put_globals-requires-clause-ready
put_globals-requires-clause-ready c = left_open 17 _ c.in_ok-put_head.ensures.put.ready c.in_ok-enter-2.ensures.entered c.in_ok-put_types.ensures.put c.in_ok-leave.ensures.ended

pub returns-clause-put : goal.returns-clause-put
unfolding module_of written
returns-clause-put c =
    let a = c.args.numbering.now in
    let t = texts a in
    let all = mentioned (module_of a) in
    let head = head_lines t (module_of a) in
    let types = put (type_lines t all (module_of a)) no_more in
    let globals = global_lines t (module_of a) in
    let bodies = put_bodies (filter_map (body_of t (indices a)) (map (function_of a) a.functions)) no_more in
    let inner : Puts c.enter.new.self.writer (put head (put_block 17 types (put globals bodies))) c.put_bodies.new.out.writer =
    lines_before head (put_block 17 types (put globals bodies)) c.in_ok-put_head.ensures.put
    (block_before 17 types (put globals bodies) c.in_ok-enter-2.ensures.entered c.in_ok-put_types.ensures.put c.in_ok-leave.ensures.ended
    (lines_before globals bodies c.in_ok-put_globals.ensures.put c.in_ok-put_bodies.ensures.put)) in
    c.in_ok-leave-2.ensures.ended ∙ ap end_block (inner.put ∙ ap (λ (w : Writer). written w (put head (put_block 17 types (put globals bodies)))) c.in_ok-enter.ensures.entered)

pub returns-clause-unspent : goal.returns-clause-unspent
returns-clause-unspent c = ap (λ (w : Writer). w.spent) c.in_ok-leave-2.ensures.ended ∙ c.in_ok-put_bodies.ensures.put.ready.unspent

pub returns-clause-outside : goal.returns-clause-outside
unfolding module_of written
returns-clause-outside c =
    ap (λ (w : Writer). w.around) (returns-clause-put c) ∙ around_kept (put_block 8 (put_module (texts_in (module_of c.args.numbering.now)) (module_of c.args.numbering.now)) no_more) c.args.out.now.writer ∙ c.requires.outside.outside
