use Rattle.std.proofs.Common.{◌++◌, ◌∷◌, [], sym, ap, ◌∙◌, append-nil, append_assoc}
use Rattle.linkage_rules.specs.declared.entry.EntryId.{EntryId}
use Rattle.linkage_rules.specs.Grouped.{numbered}
use Rattle.linkage_rules.proofs.Gathered.{numbered_more, numbered_none}
use Rattle.linkage_rules.proofs.gather.push_kind.Goals as goal

pub loop-number-init : goal.loop-number-init
loop-number-init c = sym (ap (λ l. c.args.ids.now.items ++ l) (numbered_none c.args.part c.args.kind) ∙ append-nil c.args.ids.now.items)

pub loop-number-preserved : goal.loop-number-preserved
loop-number-preserved c =
    let id : EntryId = record { part = c.args.part; kind = c.args.kind; number = c.loop-number.number } in
    let so_far = numbered c.args.part c.args.kind c.loop-number.number in
    c.in_ok-push.ensures.items ∙ ap (λ l. l ++ id ∷ []) c.loop-number.invariant ∙ append_assoc c.args.ids.now.items so_far (id ∷ [])
    ∙ ap (λ l. c.args.ids.now.items ++ l) (sym (numbered_more c.args.part c.args.kind c.loop-number.number))
