use Rattle.std.proofs.Common.{length, Some, sym, subst, ap, ◌∙◌, arith}
use Rattle.type_table.specs.Types.{Types, KnowsBody}
use Rattle.module_arena.specs.Lists.{Lists}
use Rattle.link_rules.specs.Linked.{link_result}
use Rattle.link_rules.specs.Structs.{new_struct}
use Rattle.item_build.specs.Partly.{IsDone}
use Rattle.item_build.proofs.Partly.{new_structs}
use Rattle.entry_copy.specs.Copies.{CopiesTypes}
use Rattle.entry_copy.proofs.OnStructs.StructsDefined.{knows_more, struct_there}
use Rattle.module_linker.specs.Parts.Bodies.{IsMaking}
use Rattle.module_linker.proofs.OnParts.Bodies.{part_fits}
use Rattle.module_linker.proofs.OnParts.Given.{making_after, memory_after, done_after, kept_after, still_after}
use Rattle.module_linker.proofs.parts.part.give_body.Goals as goal

pub behind_body-requires : goal.behind_body-requires
behind_body-requires c =
    subst (λ n. KnowsBody n (Some c.args.body.now)) (sym (c.type_count-count.ensures.count ∙ ap (λ (t : Types). length t.types) c.types.ensures)) c.requires.fields

pub copy_types-requires-clause-copies : goal.copy_types-requires-clause-copies
copy_types-requires-clause-copies c =
    let ms = c.requires.making.0 in
    let i = c.requires.making.1 in
    let is = c.requires.making.2 in
    (new_struct ms i, is.copies, part_fits (new_struct ms i) (link_result ms).structs c.args.from.now c.args.into.now.arena is.partly is.fit)

pub define_struct-requires-clause-known : goal.define_struct-requires-clause-known
define_struct-requires-clause-known c =
    let ms = c.requires.making.0 in
    let is = c.requires.making.2 in
    let there = struct_there (link_result ms).structs c.args.into.now.arena is.partly c.args.new c.requires.making.3.known in
    let same = ap length c.in_ok-copy_types.ensures.grows.structs in
    omega (arith, there, same)

pub define_struct-requires-clause-fields : goal.define_struct-requires-clause-fields
define_struct-requires-clause-fields c =
    let ms = c.requires.making.0 in
    let i = c.requires.making.1 in
    let is = c.requires.making.2 in
    let step = c.in_ok-copy_types.ensures in
    let many = step.count in
    let knows = knows_more c.behind_body.result (length c.copy_types.new.self.types) (omega (arith, many)) (Some c.args.body.now) c.behind_body.ensures.past in
    let made = c.in_ok-copy.ensures.is (new_struct ms i) c.args.from.now c.copy_types.new.into.arena (step.copies (new_struct ms i) is.copies) knows in
    made.known

pub type_out_of_memory-requires : goal.type_out_of_memory-requires
type_out_of_memory-requires c =
    let a = c.args.from.now in
    let ms = c.requires.making.0 in
    let i = c.requires.making.1 in
    let is = c.requires.making.2 in
    let step = c.in_ok-copy_types.ensures in
    let many = step.count in
    let copies = step.copies (new_struct ms i) is.copies in
    let knows = knows_more c.behind_body.result (length c.copy_types.new.self.types) (omega (arith, many)) (Some c.args.body.now) c.behind_body.ensures.past in
    let made = c.in_ok-copy.ensures.is (new_struct ms i) a c.copy_types.new.into.arena copies knows in
    let within = step.within (new_struct ms i) (link_result ms).structs is.copies is.fit is.partly.within in
    memory_after ms i a c.args.into.now.arena c.copy_types.new.into.arena c.args.copier.now c.copy_types.new.self c.args.new c.args.body.now c.in_ok-copy.copy is c.requires.making.3 step.grows within step.others copies made is.structs c.in-Err.fault c.in-Err.ensures.fault

pub returns-in-Ok-clause-module : goal.returns-in-Ok-clause-module
returns-in-Ok-clause-module c = new_structs c.args.into.now.arena c.copy_types.new.into.arena c.define_struct.new.self _ c.in_ok-copy_types.ensures.grows c.in-Ok.ensures.module

pub returns-in-Ok-clause-making : goal.returns-in-Ok-clause-making
returns-in-Ok-clause-making c ms i is gives =
    let a = c.args.from.now in
    let step = c.in_ok-copy_types.ensures in
    let many = step.count in
    let copies = step.copies (new_struct ms i) is.copies in
    let knows = knows_more c.behind_body.result (length c.copy_types.new.self.types) (omega (arith, many)) (Some c.args.body.now) c.behind_body.ensures.past in
    let made = c.in_ok-copy.ensures.is (new_struct ms i) a c.copy_types.new.into.arena copies knows in
    let within = step.within (new_struct ms i) (link_result ms).structs is.copies is.fit is.partly.within in
    subst (λ (w : Lists). IsMaking ms i a w c.copy_types.new.self) (sym c.in-Ok.ensures.ok)
    (making_after ms i a c.args.into.now.arena c.copy_types.new.into.arena c.args.copier.now c.copy_types.new.self c.args.new c.args.body.now c.in_ok-copy.copy is gives step.grows within step.others copies made)

pub returns-in-Ok-clause-still : goal.returns-in-Ok-clause-still
returns-in-Ok-clause-still c naming a t h =
    subst (λ (w : Lists). CopiesTypes naming a w t) (sym c.in-Ok.ensures.ok) (still_after c.args.into.now.arena c.copy_types.new.into.arena c.args.new c.in_ok-copy.copy c.in_ok-copy_types.ensures.grows naming a t h)

pub returns-in-Ok-clause-done : goal.returns-in-Ok-clause-done
returns-in-Ok-clause-done c ms i is gives =
    let a = c.args.from.now in
    let step = c.in_ok-copy_types.ensures in
    let many = step.count in
    let copies = step.copies (new_struct ms i) is.copies in
    let knows = knows_more c.behind_body.result (length c.copy_types.new.self.types) (omega (arith, many)) (Some c.args.body.now) c.behind_body.ensures.past in
    let made = c.in_ok-copy.ensures.is (new_struct ms i) a c.copy_types.new.into.arena copies knows in
    let within = step.within (new_struct ms i) (link_result ms).structs is.copies is.fit is.partly.within in
    subst (λ (w : Lists). IsDone (link_result ms).structs w c.args.new) (sym c.in-Ok.ensures.ok)
    (done_after ms i a c.args.into.now.arena c.copy_types.new.into.arena c.args.copier.now c.copy_types.new.self c.args.new c.args.body.now c.in_ok-copy.copy is gives step.grows within step.others copies made)

pub returns-in-Ok-clause-kept : goal.returns-in-Ok-clause-kept
returns-in-Ok-clause-kept c ms i is gives other below done =
    let a = c.args.from.now in
    let step = c.in_ok-copy_types.ensures in
    let many = step.count in
    let copies = step.copies (new_struct ms i) is.copies in
    let knows = knows_more c.behind_body.result (length c.copy_types.new.self.types) (omega (arith, many)) (Some c.args.body.now) c.behind_body.ensures.past in
    let made = c.in_ok-copy.ensures.is (new_struct ms i) a c.copy_types.new.into.arena copies knows in
    let within = step.within (new_struct ms i) (link_result ms).structs is.copies is.fit is.partly.within in
    subst (λ (w : Lists). IsDone (link_result ms).structs w other) (sym c.in-Ok.ensures.ok)
    (kept_after ms i a c.args.into.now.arena c.copy_types.new.into.arena c.args.copier.now c.copy_types.new.self c.args.new c.args.body.now c.in_ok-copy.copy is gives step.grows within step.others copies made other below done)
