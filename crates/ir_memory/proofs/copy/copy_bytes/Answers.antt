use Rattle.std.proofs.Common.{◌≡◌, ◌∙◌, ap, ◌+◌}
use Rattle.std.specs.Prelude.{slice_range}
use Rattle.std.proofs.lemmas.List.{get_or-set_same}
use Rattle.ir_memory.specs.Masked.Masked.{put}
use Rattle.ir_memory.specs.declared.kept.KeptBlock.{KeptBlock}
use Rattle.ir_memory.proofs.Writes.{put-back}
use Rattle.ir_memory.proofs.copy.copy_bytes.Goals as goal

pub returns : goal.returns
returns c =
    let b = c.get_mut-block-2.result.now in
    let from = c.get-from.result.now in
    let target = c.args.target in
    let source = c.args.source in
    let a : KeptBlock = record b { bytes = c.replace-bytes.new.dest; mixed = c.either-block-2.result } in
    let found : c.get_mut.result.now ≡ a = c.get_mut.ensures.value ∙ get_or-set_same c.args.kept.now target.index a _ c.requires.target.index in
    let bytes : c.copy_from.new.self ≡ put target.offset (slice_range from.bytes source.offset (source.offset + c.args.count)) b.bytes = c.copy_from.ensures ∙ ap (λ old. put target.offset (slice_range from.bytes source.offset (source.offset + c.args.count)) old) c.replace-bytes.ensures.value in
    let new =
    ap (λ (x : KeptBlock). record x { bytes = c.copy_from.new.self }) found
    ∙ ap (λ bs. record b { bytes = bs; mixed = c.either-block-2.result }) bytes
    ∙ ap (λ m. record b { bytes = put target.offset (slice_range from.bytes source.offset (source.offset + c.args.count)) b.bytes; mixed = m }) c.either-block-2.ensures in
    put-back c.args.kept.now target source c.args.count c.args.mixed b a from _ c.requires.target.index c.requires.source.index c.if-source-target.false c.get_mut-block-2.ensures.value c.get-from.ensures new
