use Rattle.std.proofs.Common.{◌≡◌, true, sym, subst, rules}
use Rattle.ir_phrases.specs.declared.constants.ty.Type.TheFolds.{the_lemmas}
use Rattle.ir_phrases.specs.Constants.View.{type_view}
use Rattle.type_table.specs.Tree.{Tree, int}
use Rattle.name_rules.specs.Written.{type_in, bits_at}
use Rattle.name_judge.specs.Locals.Literals.{fits_in}
use Rattle.name_judge.proofs.locals.literals.is_short_at.Goals as goal

pub returns-in-Integer : goal.returns-in-Integer
returns-in-Integer c e =
    let is : type_in (type_view c.args.ty.now) ≡ int c.in-Integer.width = search (rules, the_lemmas) in
    subst (λ (t : Tree). fits_in (bits_at t) c.args.negative c.args.magnitude.now ≡ true) (sym is) (c.is_short.ensures e)
