use Rattle.std.proofs.Common.{◌≡◌, length, ap, ◌∙◌, arith}
use Rattle.std.proofs.lemmas.List.{length-map}
use Rattle.module_arena.specs.View.{module_of}
use Rattle.linkage_rules.specs.Ids.{modules}
use Rattle.link_rules.specs.Structs.{struct_map}
use Rattle.item_build.specs.Partly.{with_structs}
use Rattle.module_linker.specs.Head.Head.{texts_of}
use Rattle.module_linker.proofs.OnGround.Beginning.{made_none, structs_are}
use Rattle.module_linker.proofs.OnGround.Ending.{have_types, structs_whole}
use Rattle.module_linker.proofs.OnGround.Whole.{few_rows}
use Rattle.module_linker.proofs.ground.ground.copy_ground.Goals as goal

pub set_head-requires-clause-few : goal.set_head-requires-clause-few
set_head-requires-clause-few c =
    let ms = modules c.args.parts.now in
    let few = few_rows ms c.requires.can in
    let many = ap (λ l. length l) c.requires.names ∙ length-map (struct_map ms) (λ row. row.1) in
    omega (arith, few, many)

pub parts-init : goal.parts-init
parts-init c = record {
  upto = omega arith;
  one_each = ap (λ l. length l) c.new-copiers.ensures.items;
  made = made_none c.args.parts.now c.set_head.new.into.arena c.args.rows.now.names c.new-copiers.result.items c.requires.can c.requires.names c.in_ok-set_head.ensures.table c.new-copiers.ensures.items;
  joined = c.in_ok-set_head.ensures.module;
  others = c.in_ok-set_head.ensures.entries;
}

pub at-requires : goal.at-requires
at-requires c =
    let many = c.requires.numbers.count ∙ length-map c.args.parts.now module_of in
    let more = c.parts-test.true in
    omega (arith, many, more)

pub add_part-requires-clause-numbers : goal.add_part-requires-clause-numbers
add_part-requires-clause-numbers c = structs_are c.args.parts.now c.args.rows.now.numbers c.parts.part c.at.result.now c.requires.numbers c.at.ensures

pub returns-clause-module : goal.returns-clause-module
returns-clause-module c =
    let parts = c.args.parts.now in
    let past = c.parts-test.false in
    let upto = c.parts.invariant.upto in
    let one = c.parts.invariant.one_each in
    let all : length c.parts.copiers.items ≡ length parts = omega (arith, past, upto, one) in
    c.parts.invariant.joined ∙ ap (with_structs (texts_of (modules parts))) (structs_whole parts c.parts.into.arena c.parts.copiers.items c.parts.invariant.made all)

pub returns-clause-types : goal.returns-clause-types
returns-clause-types c =
    let parts = c.args.parts.now in
    let past = c.parts-test.false in
    let upto = c.parts.invariant.upto in
    let one = c.parts.invariant.one_each in
    let all : length c.parts.copiers.items ≡ length parts = omega (arith, past, upto, one) in
    have_types parts c.parts.into.arena c.parts.copiers.items c.parts.invariant.made all
