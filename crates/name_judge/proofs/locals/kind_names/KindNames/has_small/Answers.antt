use Rattle.std.proofs.Common.{Bool, true, cond, nat_eq, ap, sym, ◌∙◌}
use Rattle.indexmap.specs.IndexSet.{contains}
use Rattle.name_judge.proofs.locals.kind_names.KindNames.has_small.Goals as goal

pub returns-then-is_marked : goal.returns-then-is_marked
returns-then-is_marked c =
    sym (ap (λ (marked : Bool). cond marked true (contains nat_eq c.args.self.now.small c.args.number)) (sym c.is_marked.ensures ∙ c.if-is_marked.true))

pub returns : goal.returns
returns c =
    c.contains.ensures
    ∙ sym (ap (λ (marked : Bool). cond marked true (contains nat_eq c.args.self.now.small c.args.number)) (sym c.is_marked.ensures ∙ c.if-is_marked.false))
