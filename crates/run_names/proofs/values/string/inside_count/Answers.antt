use Rattle.std.proofs.Common.{◌+◌, sym, ap, ◌∙◌}
use Rattle.std.specs.List.{prefix_len}
use Rattle.std.proofs.lemmas.List.{take_rest}
use Rattle.run_names.specs.Values.Strings.{is_inside}
use Rattle.run_names.proofs.values.string.inside_count.Goals as goal

pub returns-clause-count : goal.returns-clause-count
returns-clause-count c =
    ap (λ n. c.fours.count + n) (c.single_count.ensures.count ∙ ap (prefix_len is_inside) (take_rest c.args.bytes.now c.fours.count)) ∙ sym c.fours.invariant.done
