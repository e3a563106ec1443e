use Rattle.std.proofs.Common.{Some, None, refl, sym, subst}
use Rattle.module_arena.specs.View.{module_of}
use Rattle.extract_core.specs.Part.AliasesThere.{WithAlias}
use Rattle.extract_core.proofs.OnDeclaring.NewIds.{keeps_same}
use Rattle.extract_core.proofs.OnPart.AliasesDeclared.{alias_passed, aliases_stay}
use Rattle.extract_core.proofs.part.aliases.declare_alias.Goals as goal

pub returns-in-LeftOut : goal.returns-in-LeftOut
returns-in-LeftOut c =
    let a = c.args.from.now in
    let b = c.args.into.now.arena in
    subst (λ f. WithAlias a c.args.copier.now b c.args.id f b None) (sym c.in-LeftOut.is) (record {
      joined = λ w e. aliases_stay (module_of a) (module_of b) w;
      types = c.requires.types;
      declaring = alias_passed a b c.args.id c.requires.declaring;
      keeps = keeps_same b;
      called = λ name named. refl;
    })

pub returns-in_ok-new-in-Kept : goal.returns-in_ok-new-in-Kept
returns-in_ok-new-in-Kept c =
    subst (λ f. WithAlias c.args.from.now c.args.copier.now c.args.into.now.arena c.args.id f c.keep_alias.new.into.arena (Some c.in_ok-new-in-Kept.new)) (sym c.in-Kept.is) c.in_ok-new-in-Kept.ensures

pub returns-in_ok-new-in-Declared : goal.returns-in_ok-new-in-Declared
returns-in_ok-new-in-Declared c =
    subst (λ f. WithAlias c.args.from.now c.args.copier.now c.args.into.now.arena c.args.id f c.declare_other.new.into.arena (Some c.in_ok-new-in-Declared.new)) (sym c.in-Declared.is) c.in_ok-new-in-Declared.ensures
