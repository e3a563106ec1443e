use Rattle.std.proofs.Common.{true, false, List, All, map, sym, subst, ap, ◌∙◌}
use Rattle.ir_phrases.specs.declared.constants.ty.Type as the_type
use Rattle.ir_phrases.specs.Constants.View.{type_view}
use Rattle.ir_syntax.specs.declared.item.WrittenBody.{WrittenBody}
use Rattle.ir_syntax.specs.View.{body_view}
use Rattle.type_table.specs.Tree.{fields}
use Rattle.type_table.specs.Types.{structs}
use Rattle.name_rules.specs.Written.{type_in, body_in}
use Rattle.item_build.specs.Types.Fitting.{CanBe}
use Rattle.item_build.specs.Types.Stands.{AreTypes}
use Rattle.item_build.proofs.OnTypes.Made.{fields_made}
use Rattle.item_build.proofs.OnTypes.Declaring.{all_mapped}
use Rattle.item_build.specs.Buildable.Entries.{CanStruct}
use Rattle.item_build.proofs.defining.add_body.Goals as goal

pub add_types-requires : goal.add_types-requires
add_types-requires c =
    let ss = structs c.args.builder.now.arena.table in
    let can = subst (λ (w : WrittenBody). CanStruct ss (body_view w)) c.in-Plain.is c.requires in
    let all = all_mapped type_view (λ t. CanBe ss (type_in t)) c.in-Plain.fields.items can in
    subst (All (λ (x : the_type.Type). CanBe ss (type_in (type_view x)))) (sym c.deref.ensures.value) all

pub returns-in_ok-fields-in-Plain-clause-is : goal.returns-in_ok-fields-in-Plain-clause-is
returns-in_ok-fields-in-Plain-clause-is c =
    let b = c.add_types.new.self.arena in
    let ids = c.in_ok-fields-in-Plain.fields in
    let are = subst (λ (xs : List the_type.Type). AreTypes b ids (map (λ (x : the_type.Type). type_in (type_view x)) xs)) c.deref.ensures.value c.in_ok-fields-in-Plain.ensures.are in
    ap (fields false) (fields_made type_view b ids c.in-Plain.fields.items are) ∙ sym (ap (λ (w : WrittenBody). body_in (body_view w)) c.in-Plain.is)

pub returns-in_ok-fields-in-Plain-clause-within : goal.returns-in_ok-fields-in-Plain-clause-within
returns-in_ok-fields-in-Plain-clause-within c whole can old =
    let can_fields = subst (λ (w : WrittenBody). CanStruct whole (body_view w)) c.in-Plain.is can in
    let all = all_mapped type_view (λ t. CanBe whole (type_in t)) c.in-Plain.fields.items can_fields in
    c.in_ok-fields-in-Plain.ensures.within whole (subst (All (λ (x : the_type.Type). CanBe whole (type_in (type_view x)))) (sym c.deref.ensures.value) all) old

pub add_types-requires-in-Packed : goal.add_types-requires-in-Packed
add_types-requires-in-Packed c =
    let ss = structs c.args.builder.now.arena.table in
    let can = subst (λ (w : WrittenBody). CanStruct ss (body_view w)) c.in-Packed.is c.requires in
    let all = all_mapped type_view (λ t. CanBe ss (type_in t)) c.in-Packed.fields.items can in
    subst (All (λ (x : the_type.Type). CanBe ss (type_in (type_view x)))) (sym c.deref-in-Packed.ensures.value) all

pub returns-in_ok-fields-in-Packed-clause-is : goal.returns-in_ok-fields-in-Packed-clause-is
returns-in_ok-fields-in-Packed-clause-is c =
    let b = c.add_types-in-Packed.new.self.arena in
    let ids = c.in_ok-fields-in-Packed.fields in
    let are = subst (λ (xs : List the_type.Type). AreTypes b ids (map (λ (x : the_type.Type). type_in (type_view x)) xs)) c.deref-in-Packed.ensures.value c.in_ok-fields-in-Packed.ensures.are in
    ap (fields true) (fields_made type_view b ids c.in-Packed.fields.items are) ∙ sym (ap (λ (w : WrittenBody). body_in (body_view w)) c.in-Packed.is)

pub returns-in_ok-fields-in-Packed-clause-within : goal.returns-in_ok-fields-in-Packed-clause-within
returns-in_ok-fields-in-Packed-clause-within c whole can old =
    let can_fields = subst (λ (w : WrittenBody). CanStruct whole (body_view w)) c.in-Packed.is can in
    let all = all_mapped type_view (λ t. CanBe whole (type_in t)) c.in-Packed.fields.items can_fields in
    c.in_ok-fields-in-Packed.ensures.within whole (subst (All (λ (x : the_type.Type). CanBe whole (type_in (type_view x)))) (sym c.deref-in-Packed.ensures.value) all) old
