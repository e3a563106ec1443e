use Rattle.std.proofs.Common.{sym, ap, ◌∙◌}
use Rattle.std.specs.Option.{option_copied}
use Rattle.linkage_rules.specs.Ids.{modules}
use Rattle.linkage_rules.proofs.OnResolving.Told.{is_seen}
use Rattle.module_table.proofs.meaning.add_meaning.Goals as goal

pub add_bound-requires : goal.add_bound-requires
add_bound-requires c = is_seen (modules c.args.parts.now) _ c.args.part c.args.name.now _ c.in_ok-meanings.ensures (sym (ap option_copied c.in-Some.is) ∙ c.bind.ensures)
