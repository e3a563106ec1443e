use Rattle.linkage_rules.specs.Ids.{modules}
use Rattle.module_arena.specs.View.{module_of}
use Rattle.tool_cli.proofs.Headline.{all_sized}
use Rattle.tool_cli.proofs.Linked.{parts_link, parts_linking, parts_unlinked}
use Rattle.tool_cli.proofs.linking.linked.Goals as goal

pub returns-in-Ok-clause-made : goal.returns-in-Ok-clause-made
returns-in-Ok-clause-made c =
    let are = c.in_ok-parts.ensures.parts in
    let parts = modules c.in_ok-parts.parts.items in
    parts_link c.args.texts parts (module_of c.in-Ok.whole) are c.in-Ok.ensures.agree c.in-Ok.ensures.few c.in-Ok.ensures.module c.arena-arena.ensures.well_formed c.arena-arena.ensures.valid
    (c.in-Ok.ensures.small (all_sized c.args.texts parts are)) c.in-Ok.ensures.runs

pub returns-in-Ok-clause-linking : goal.returns-in-Ok-clause-linking
returns-in-Ok-clause-linking c =
    parts_linking c.args.names.now c.args.texts (modules c.in_ok-parts.parts.items) c.in_ok-parts.ensures.accepted c.in_ok-parts.ensures.parts c.in-Ok.ensures.agree c.in-Ok.ensures.few

pub returns-in-Err-clause-refused : goal.returns-in-Err-clause-refused
returns-in-Err-clause-refused c =
    let parts = modules c.in_ok-parts.parts.items in
    parts_unlinked c.args.names.now c.args.texts parts c.link_refusal.result c.in_ok-parts.ensures.accepted c.in_ok-parts.ensures.parts (c.link_refusal.ensures.told parts c.in-Err.ensures.fault)
