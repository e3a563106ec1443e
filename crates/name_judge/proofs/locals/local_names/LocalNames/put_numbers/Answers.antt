use Rattle.std.proofs.Common.{◌≡◌, ℕ, [], ◌∷◌, sym, ◌∙◌, subst}
use Rattle.std.proofs.lemmas.Bool.{eqb-true}
use Rattle.std.proofs.lemmas.Result.{on_ok_weaker}
use Rattle.module_arena.specs.Module.{Numbered}
use Rattle.name_judge.specs.Locals.Names.{Brings, next_of}
use Rattle.name_judge.proofs.OnLocals.Named.{brings_both, brings_twice}
use Rattle.name_judge.proofs.locals.local_names.LocalNames.put_numbers.Goals as goal

-- what is written is the next number, which is there
pub returns-then-is_same_number-clause-names : goal.returns-then-is_same_number-clause-names
returns-then-is_same_number-clause-names c =
    let old = c.args.self.now in
    let next = next_of old in
    let same : c.args.number.now ≡ next = eqb-true c.args.number.now _ (sym c.is_same_number.ensures ∙ c.if-is_same_number.true) ∙ c.len-next.ensures in
    subst (λ (number : ℕ). Brings old c.put_next.new.self ((Numbered next, c.args.block) ∷ (Numbered number, c.args.block) ∷ [])) (sym same)
    (brings_twice old c.put_next.new.self (Numbered next, c.args.block) c.in_ok-put_next.ensures.names)

pub returns-clause-names : goal.returns-clause-names
returns-clause-names c = on_ok_weaker c.put_number.result (λ put. brings_both _ _ _ _ _ c.in_ok-put_next.ensures.names put) c.put_number.ensures.names
