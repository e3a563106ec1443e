use Rattle.std.proofs.Common.{◌∙◌, rules}
use Rattle.std.proofs.lemmas.Iterator.{YieldsList-from_slice, YieldsList-from_map, items_from_collect}
use Rattle.std.proofs.lemmas.Result.{IfOk-at_ok}
use Rattle.instruction_verify.specs.Uses.Keys.{typed_key}
use Rattle.instruction_verify.proofs.uses.keys.typed_keys.Goals as goal

pub returns : goal.returns
returns c =
    c.from_vec.ensures
    ∙ IfOk-at_ok _ c.in_ok-list.was (items_from_collect _ c.collect.ensures.ran
    (YieldsList-from_map _ (typed_key c.args.types.now c.args.classes.now) (YieldsList-from_slice c.args.parts.now cc) c.map.ensures.closure (λ x r q k. search rules)))
