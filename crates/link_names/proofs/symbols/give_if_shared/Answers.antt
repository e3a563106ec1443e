use Rattle.std.proofs.Common.{◌∷◌, [], OnOk, sym, subst}
use Rattle.linkage_rules.specs.declared.symbol.Symbol.{Symbol}
use Rattle.link_rules.specs.Rename.{shared_names}
use Rattle.link_names.specs.Naming.{HasMore}
use Rattle.link_names.proofs.Avoided.{nothing_more}
use Rattle.link_names.proofs.symbols.give_if_shared.Goals as goal

pub returns-in-Shared-clause-given : goal.returns-in-Shared-clause-given
returns-in-Shared-clause-given c =
    subst (λ (s : Symbol). OnOk c.give.result (HasMore c.args.naming.now.given (shared_names (s ∷ [])) c.give.new.self.given)) (sym c.in-Shared.is) c.give.ensures.given

pub returns-in-Local-clause-given : goal.returns-in-Local-clause-given
returns-in-Local-clause-given c =
    subst (λ (s : Symbol). HasMore c.args.naming.now.given (shared_names (s ∷ [])) c.args.naming.now.given) (sym c.in-Local.is) (nothing_more c.args.naming.now.given)
