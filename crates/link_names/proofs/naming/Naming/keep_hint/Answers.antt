use Rattle.std.proofs.Common.{◌++◌, bytes_eq, sym, ap, ◌∙◌, subst}
use Rattle.std.specs.Map.{lookup}
use Rattle.link_names.specs.Naming.{AllTaken, TakenNames, taken}
use Rattle.link_names.proofs.Hints.{hint_put}
use Rattle.link_names.proofs.naming.Naming.keep_hint.Goals as goal

pub invariant_of-self-in_err-insert : goal.invariant_of-self-in_err-insert
invariant_of-self-in_err-insert c = λ base number at.
    c.self.invariant base number (ap (lookup (bytes_eq base)) (sym c.in_err-insert.ensures.err) ∙ at)

pub invariant_of-self-2 : goal.invariant_of-self-2
invariant_of-self-2 c =
    let inside = c.self.inside in
    let names = inside.given.keys ++ inside.avoided.keys in
    let before = subst (λ (v : TakenNames). AllTaken (taken v) c.args.base.now c.args.number) (sym c.self.view_is) c.requires.before in
    hint_put inside.next.entries c.insert.new.self.entries names c.in_ok-copy.field-0 c.args.number (λ q. c.in_ok-insert.ensures.updates.0 q) c.requires.first
    (subst (λ b. AllTaken names b c.args.number) (sym c.in_ok-copy.ensures) before) c.self.invariant
