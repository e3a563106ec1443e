use Rattle.std.proofs.Common.{◌≡◌, List, IfOk, sym, subst, ◌∙◌}
use Rattle.linkage_rules.specs.Ids.{modules}
use Rattle.module_arena.specs.Module.{Bytes}
use Rattle.link_names.proofs.Given.{all_shared_keep}
use Rattle.link_names.proofs.symbols.new_names.Goals as goal

pub returns-then-are_shared : goal.returns-then-are_shared
returns-then-are_shared c =
    subst (λ (l : List Bytes). IfOk c.own_names.result (λ names. names ≡ l))
    (all_shared_keep (modules c.args.parts.now) c.args.symbols.now c.requires (sym c.are_shared.ensures ∙ c.if-are_shared.true)) c.own_names.ensures
