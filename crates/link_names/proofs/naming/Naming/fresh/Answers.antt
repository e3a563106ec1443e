use Rattle.std.proofs.Common.{sym, ap, ◌∙◌, bytes_eq}
use Rattle.linkage_rules.specs.Lists.{has}
use Rattle.link_names.specs.Naming.{taken}
use Rattle.link_names.proofs.FirstFree.{first_free_is}
use Rattle.link_names.proofs.naming.Naming.fresh.Goals as goal

pub returns-clause-name : goal.returns-clause-name
returns-clause-name c =
    let free = c.in_ok-number.field-0 in
    let names = taken c.args.self.now in
    c.in_ok-number.ensures.name
    ∙ sym (first_free_is names c.args.base.now free.number c.in_ok-number.ensures.first c.in_ok-number.ensures.before (ap (has bytes_eq names) (sym c.in_ok-number.ensures.name) ∙ c.in_ok-number.ensures.free))
