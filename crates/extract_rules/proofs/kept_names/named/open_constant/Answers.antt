use Rattle.std.proofs.Common.{◌∷◌, [], sym, ap, ◌∙◌, subst}
use Rattle.std.specs.Prelude.{OnOk}
use Rattle.std.proofs.lemmas.Option.{get_or_from_slice_get}
use Rattle.module_arena.specs.declared.constant.Const as the_const
use Rattle.module_arena.specs.declared.constant.Const.TheVariants as const
use Rattle.module_arena.specs.declared.instruction.Value.TheVariants as value
use Rattle.module_arena.specs.Module.{Bytes}
use Rattle.std.proofs.Common.{List, refl}
use Rattle.extract_rules.specs.Calls.{Adds}
use Rattle.extract_rules.specs.KeptNames.Marks.{MarksAll, in_parts, own_names}
use Rattle.extract_rules.proofs.Adding.{adds_as, adds_none}
use Rattle.extract_rules.proofs.Called.{address_known}
use Rattle.extract_rules.proofs.Entries.{name_is}
use Rattle.extract_rules.proofs.OnKeptNames.Naming.{own_none, on_ok}
use Rattle.extract_rules.proofs.kept_names.named.open_constant.Goals as goal

pub returns-in_default : goal.returns-in_default
returns-in_default c =
    let a = c.args.arena.now in
    let e = get_or_from_slice_get a.constants c.args.id c.constant-constant.result.now const.Null c.constant-constant.ensures in
    record {
      names = adds_as _ _ _ _ (sym (ap (own_names a) e ∙ own_none a c.constant-constant.result.now c.in_default.not-Address)) (adds_none c.args.names.now.keys);
      marks = subst (λ (x : the_const.Const). MarksAll c.args.marks.now (λ cs. in_parts cs x) c.mark_parts.new.marks) (sym e) c.mark_parts.ensures;
    }

pub name-requires : goal.name-requires
name-requires c =
    address_known c.args.arena.now c.variable_count-count.ensures.good (value.Known c.args.id) c.args.id refl c.constant-constant.result.now c.constant-constant.ensures c.in-Address.entry c.in-Address.is

pub returns-clause-names : goal.returns-clause-names
returns-clause-names c =
    let a = c.args.arena.now in
    let e = get_or_from_slice_get a.constants c.args.id c.constant-constant.result.now const.Null c.constant-constant.ensures in
    subst (λ (xs : List Bytes). OnOk c.add_name.result (Adds c.args.names.now.keys xs c.add_name.new.names.keys))
    (ap (λ (n : Bytes). n ∷ []) (sym (name_is a c.in-Address.entry c.name.result.now c.name.ensures)) ∙ sym (ap (own_names a) (e ∙ c.in-Address.is))) c.add_name.ensures

pub returns-clause-marks : goal.returns-clause-marks
returns-clause-marks c =
    let a = c.args.arena.now in
    let e = get_or_from_slice_get a.constants c.args.id c.constant-constant.result.now const.Null c.constant-constant.ensures in
    on_ok c.add_name.result _ (subst (λ (x : the_const.Const). MarksAll c.args.marks.now (λ cs. in_parts cs x) c.mark_parts.new.marks) (sym e) c.mark_parts.ensures)
