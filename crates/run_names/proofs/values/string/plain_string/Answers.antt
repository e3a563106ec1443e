use Rattle.std.proofs.Common.{◌+◌, ◌<◌, length, take, Ok, sym, ap, ◌∙◌, arith}
use Rattle.std.specs.List.{prefix_len}
use Rattle.ir_memory.specs.Memory.{live_bytes}
use Rattle.run_names.specs.Values.Strings.{is_inside}
use Rattle.run_names.proofs.OnValues.Plain.{whole_string}
use Rattle.run_names.proofs.values.string.plain_string.Goals as goal

pub returns : goal.returns
returns c =
    let m = c.args.memory.now in
    let bytes = c.in_ok-bytes.bytes.now in
    let told = c.in_ok-bytes.ensures in
    let count = c.inside_count-count.ensures in
    let some : prefix_len is_inside bytes < length bytes = omega (arith, count.count, count.within) in
    let few : prefix_len is_inside bytes < live_bytes m.list + 1 = omega (arith, some, told.few) in
    whole_string m c.args.pointer bytes (live_bytes m.list + 1) told.loads told.within some few ∙ ap (λ n. Ok (take n bytes)) (sym count.count)
