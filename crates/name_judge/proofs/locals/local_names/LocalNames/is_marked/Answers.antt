use Rattle.std.proofs.Common.{arith, ap, sym, subst, ◌≡◌, ◌∙◌, ℕ, Bool, true, List}
use Rattle.module_arena.specs.Module.{Numbered}
use Rattle.name_rules.specs.Locals.{is_there}
use Rattle.name_judge.specs.Locals.Names.{is_marked}
use Rattle.name_judge.proofs.OnLocals.Named.{marked_there}
use Rattle.name_judge.proofs.OnLocals.Sized.{below_is}
use Rattle.name_judge.proofs.locals.local_names.LocalNames.is_marked.Goals as goal

pub returns-in-Some : goal.returns-in-Some
returns-in-Some c = λ all h e.
    let names = c.args.self.now in
    let block = c.args.block in
    let same = below_is c.args.number.now c.in-Some.small (sym c.in-Some.is ∙ c.to_u64.ensures) in
    let marked : is_marked names.marks.items block c.in-Some.small ≡ true =
    ap (λ (marks : List Bool). is_marked marks block c.in-Some.small) (sym c.as_slice.ensures.value) ∙ sym c.is_marked.ensures ∙ e in
    subst (λ (number : ℕ). is_there all block (Numbered number) ≡ true) same (marked_there names all block c.in-Some.small h (omega arith) marked)
