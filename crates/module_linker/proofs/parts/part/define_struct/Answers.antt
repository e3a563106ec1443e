use Rattle.std.proofs.Common.{ℕ, OnOk, length, slice_get, sym, subst, ap, ◌∙◌, arith}
use Rattle.type_table.specs.Types.{Types, IsGood, bodies}
use Rattle.link_rules.specs.Linked.{link_result}
use Rattle.item_build.specs.Partly.{IsDone}
use Rattle.item_build.proofs.Partly.{same_structs}
use Rattle.entry_copy.specs.Tables.{new_struct}
use Rattle.entry_copy.proofs.OnStructs.StructsDefined.{has_body, struct_there}
use Rattle.module_linker.specs.Parts.Bodies.{GivesBody}
use Rattle.module_linker.proofs.OnParts.StructBodies.{done_none, gives, new_known}
use Rattle.module_linker.proofs.parts.part.define_struct.Goals as goal

pub struct_body-requires : goal.struct_body-requires
struct_body-requires c =
    let ms = c.requires.making.0 in
    let i = c.requires.making.1 in
    let is = c.requires.making.2 in
    let b = c.args.into.now.arena in
    let there = struct_there (link_result ms).structs b is.partly (new_struct c.args.copier.now c.args.id) (new_known ms i c.args.from.now b c.args.copier.now is c.args.id c.requires.known) in
    let same = ap (λ (t : Types). length t.structs) c.types-2.ensures in
    let new = c.new_struct-new.ensures in
    omega (arith, there, same, new)

pub give_body-requires-clause-making : goal.give_body-requires-clause-making
give_body-requires-clause-making c =
    let ms = c.requires.making.0 in
    let i = c.requires.making.1 in
    let is = c.requires.making.2 in
    let a = c.args.from.now in
    let b = c.args.into.now.arena in
    let t = c.args.copier.now in
    let id = c.args.id in
    let good = subst IsGood c.types.ensures c.type_count-good.ensures.good in
    let here = (λ j. slice_get (bodies ((sym c.types-in-None.ensures) j)) id) ∙ c.in-Some-struct_body.ensures in
    let body = c.in-Some-struct_body.body.now in
    let given = subst (λ (new : ℕ). GivesBody ms i a new body) (sym c.new_struct-new.ensures) (gives ms i a b t is id c.requires.known good c.structs_keep_bodies.ensures body here) in
    (ms, i, is, given)

pub returns-in-Some-clause-module : goal.returns-in-Some-clause-module
returns-in-Some-clause-module c = same_structs c.args.into.now.arena

pub returns-in-Some-clause-done : goal.returns-in-Some-clause-done
returns-in-Some-clause-done c ms i is =
    let b = c.args.into.now.arena in
    let new = c.new_struct-new.result in
    subst (IsDone (link_result ms).structs b) c.new_struct-new.ensures
    (has_body (link_result ms).structs b is.partly new c.in-Some.field-0.now ((λ j. slice_get (bodies ((sym c.types-2.ensures) j)) new) ∙ c.in-Some.ensures))

pub returns-in-Some-struct_body-clause-making : goal.returns-in-Some-struct_body-clause-making
returns-in-Some-struct_body-clause-making c ms i is =
    let a = c.args.from.now in
    let b = c.args.into.now.arena in
    let t = c.args.copier.now in
    let id = c.args.id in
    let good = subst IsGood c.types.ensures c.type_count-good.ensures.good in
    let here = (λ j. slice_get (bodies ((sym c.types-in-None.ensures) j)) id) ∙ c.in-Some-struct_body.ensures in
    let body = c.in-Some-struct_body.body.now in
    let given = subst (λ (new : ℕ). GivesBody ms i a new body) (sym c.new_struct-new.ensures) (gives ms i a b t is id c.requires.known good c.structs_keep_bodies.ensures body here) in
    c.give_body.ensures.making ms i is given

pub returns-in-Some-struct_body-clause-done : goal.returns-in-Some-struct_body-clause-done
returns-in-Some-struct_body-clause-done c ms i is =
    let a = c.args.from.now in
    let b = c.args.into.now.arena in
    let t = c.args.copier.now in
    let id = c.args.id in
    let good = subst IsGood c.types.ensures c.type_count-good.ensures.good in
    let here = (λ j. slice_get (bodies ((sym c.types-in-None.ensures) j)) id) ∙ c.in-Some-struct_body.ensures in
    let body = c.in-Some-struct_body.body.now in
    let given = subst (λ (new : ℕ). GivesBody ms i a new body) (sym c.new_struct-new.ensures) (gives ms i a b t is id c.requires.known good c.structs_keep_bodies.ensures body here) in
    subst (λ (new : ℕ). OnOk c.give_body.result (IsDone (link_result ms).structs c.give_body.new.into.arena new)) c.new_struct-new.ensures (c.give_body.ensures.done ms i is given)

pub returns-in-Some-struct_body-clause-kept : goal.returns-in-Some-struct_body-clause-kept
returns-in-Some-struct_body-clause-kept c ms i is =
    let a = c.args.from.now in
    let b = c.args.into.now.arena in
    let t = c.args.copier.now in
    let id = c.args.id in
    let good = subst IsGood c.types.ensures c.type_count-good.ensures.good in
    let here = (λ j. slice_get (bodies ((sym c.types-in-None.ensures) j)) id) ∙ c.in-Some-struct_body.ensures in
    let body = c.in-Some-struct_body.body.now in
    let given = subst (λ (new : ℕ). GivesBody ms i a new body) (sym c.new_struct-new.ensures) (gives ms i a b t is id c.requires.known good c.structs_keep_bodies.ensures body here) in
    c.give_body.ensures.kept ms i is given

pub returns-in-None-struct_body-clause-module : goal.returns-in-None-struct_body-clause-module
returns-in-None-struct_body-clause-module c = same_structs c.args.into.now.arena

pub returns-in-None-struct_body-clause-done : goal.returns-in-None-struct_body-clause-done
returns-in-None-struct_body-clause-done c ms i is =
    let a = c.args.from.now in
    let b = c.args.into.now.arena in
    let t = c.args.copier.now in
    let id = c.args.id in
    let good = subst IsGood c.types.ensures c.type_count-good.ensures.good in
    let here = (λ j. slice_get (bodies ((sym c.types-in-None.ensures) j)) id) ∙ c.in-None-struct_body.ensures in
    let there = (λ j. slice_get (bodies ((sym c.types-2.ensures) j)) ((sym c.new_struct-new.ensures) j)) ∙ c.in-None.ensures in
    done_none ms i a b t is id c.requires.known good c.structs_keep_bodies.ensures here there
