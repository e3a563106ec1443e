use Rattle.std.proofs.Common.{◌≡◌, ℕ, Option, unwrap_or, bytes_eq, ap, ◌∙◌, subst, ◌++◌}
use Rattle.std.specs.Map.{lookup}
use Rattle.link_names.specs.Naming.{AllTaken, TakenNames, taken}
use Rattle.link_names.proofs.Hints.{hint_first}
use Rattle.link_names.proofs.naming.Naming.first_number.Goals as goal

pub returns-clause-before : goal.returns-clause-before
returns-clause-before c =
    let inside = c.self.inside in
    let is : c.unwrap_or.result ≡ unwrap_or (lookup (bytes_eq c.args.base.now) inside.next.entries) 1 = c.unwrap_or.ensures ∙ ap (λ (o : Option ℕ). unwrap_or o 1) (c.copied.ensures ∙ c.get.ensures.value) in
    subst (λ (v : TakenNames). AllTaken (taken v) c.args.base.now c.unwrap_or.result) c.self.view_is
    (hint_first inside.next.entries (inside.given.keys ++ inside.avoided.keys) c.args.base.now c.unwrap_or.result c.self.invariant is).1
