use Rattle.std.proofs.Common.{◌≡◌, ◌+◌, ◌<◌, Some, None, All, refl, sym, subst, ap, ◌∙◌}
use Rattle.module_arena.specs.declared.entry.Alias as the_alias
use Rattle.module_arena.specs.declared.entry.GlobalId.TheVariants as global
use Rattle.module_arena.specs.Changes.{with_alias}
use Rattle.module_arena.specs.Known.{KnowsAlias, alias_types}
use Rattle.module_arena.specs.Lists.{Lists, global_name}
use Rattle.module_arena.specs.View.{module_of}
use Rattle.module_arena.specs.Renamed.{own}
use Rattle.item_build.specs.Types.Declarations.{IsFree}
use Rattle.extract_rules.proofs.Entries.{all_get}
use Rattle.extract_core.specs.Declaring.Declaring.{IsDeclaring, KeepsNames}
use Rattle.extract_core.specs.Part.AliasesThere.{aliases_through}
use Rattle.extract_core.proofs.OnPart.DeclaredNext.{with_alias_keeps, alias_called}
use Rattle.extract_core.proofs.OnDeclaring.StaysDeclared.{types_there}
use Rattle.extract_core.proofs.OnPart.AliasesDeclared.{alias_called_so, alias_free, alias_few, alias_more, alias_known, kept_joined}
use Rattle.extract_core.proofs.part.aliases.keep_alias.Goals as goal

pub add_alias-requires-clause-known : goal.add_alias-requires-clause-known
add_alias-requires-clause-known c =
    let a = c.args.from.now in
    let b = c.args.into.now.arena in
    let x = c.alias-alias.result.now in
    let d : the_alias.Alias = record { name = c.in_ok-name.name; linkage = c.kept_linkage.result; ty = c.in_ok-ty.ty; target = None } in
    alias_known b d (c.in_ok-ty.ensures.is own a b c.requires.types.copies (subst (λ n. All (λ i. i < n) (alias_types x.ty)) (sym c.requires.types.all) (all_get (KnowsAlias _ _) a.aliases c.args.id x c.variable_count-good.ensures.good.aliases c.alias-alias.ensures).types_known)).known refl

pub add_alias-requires-clause-free : goal.add_alias-requires-clause-free
add_alias-requires-clause-free c =
    let x = c.alias-alias.result.now in
    subst (IsFree c.args.into.now.arena) (sym c.in_ok-name.ensures)
    (alias_free c.args.from.now c.args.into.now.arena c.args.id c.requires.declaring x.name c.variable_count-good.ensures.distinct (alias_called_so c.args.from.now c.args.id x c.alias-alias.ensures))

pub add_alias-requires-clause-few : goal.add_alias-requires-clause-few
add_alias-requires-clause-few c = alias_few c.args.from.now c.args.into.now.arena c.args.id c.requires.declaring c.variable_count-good.ensures.good c.requires.known

pub returns : goal.returns
returns c =
    let a = c.args.from.now in
    let b = c.args.into.now.arena in
    let t = c.args.copier.now in
    let id = c.args.id in
    let new = c.add_alias.new.into.arena in
    let x = c.alias-alias.result.now in
    let at = c.alias-alias.ensures in
    let step = c.in_ok-new.ensures in
    let d : the_alias.Alias = record { name = c.in_ok-name.name; linkage = c.kept_linkage.result; ty = c.in_ok-ty.ty; target = None } in
    let called : global_name a (global.Alias id) ≡ Some d.name = alias_called_so a id x at ∙ ap Some (sym c.in_ok-name.ensures) in
    let is = c.in_ok-ty.ensures.is own a b c.requires.types.copies (subst (λ n. All (λ i. i < n) (alias_types x.ty)) (sym c.requires.types.all) (all_get (KnowsAlias _ _) a.aliases c.args.id x c.variable_count-good.ensures.good.aliases c.alias-alias.ensures).types_known) in
    record {
      joined = λ w e. step.module ∙ kept_joined a b (module_of b) id x at c.in_ok-name.name c.kept_linkage.result c.in_ok-ty.ty c.in_ok-name.ensures c.kept_linkage.ensures is w e;
      types = types_there a b new t (ap (λ (l : Lists). l.table) step.lists) c.requires.types;
      declaring = subst (IsDeclaring a (aliases_through a (id + 1))) (sym step.lists) (alias_more a b id c.requires.declaring d refl called);
      keeps = subst (KeepsNames b) (sym step.lists) (with_alias_keeps b d);
      called = λ name named. ap (λ (l : Lists). global_name l c.in_ok-new.new) step.lists ∙ ap (global_name (with_alias b d)) step.id ∙ alias_called b d ∙ sym called ∙ named;
    }
