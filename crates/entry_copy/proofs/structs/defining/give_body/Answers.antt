use Rattle.std.proofs.Common.{◌<◌, ℕ, length, List, Option, Some, refl, sym, subst, ap, ◌∙◌, arith}
use Rattle.std.proofs.lemmas.List.{length-map}
use Rattle.std.proofs.lemmas.Option.{slice_get_within}
use Rattle.type_table.specs.declared.ir_type.StructBody.{StructBody}
use Rattle.type_table.specs.Limits.{IsWithin}
use Rattle.type_table.specs.Types.{Types, with_body, structs, bodies, trees, tree_body, KnowsBody}
use Rattle.type_table.proofs.Defined.{names-defined, trees-defined}
use Rattle.module_arena.specs.Changes.{with_table}
use Rattle.module_arena.specs.Lists.{Lists}
use Rattle.module_arena.proofs.Renamed.{body_stays}
use Rattle.module_arena.specs.Renamed.{own}
use Rattle.item_build.proofs.OnTypes.Staying.{structs_stay}
use Rattle.item_build.specs.Partly.{IsPartly, IsDone, body_at}
use Rattle.item_build.proofs.Partly.{body_is, partly_grown, new_structs}
use Rattle.entry_copy.specs.Copies.{CopiesTypes}
use Rattle.entry_copy.proofs.Starting.{own_types_fit, types_still_copied}
use Rattle.entry_copy.proofs.OnStructs.StructsDefined.{part_fits, structs_fit, knows_more, as_many_structs, after_partly, after_memory, after_done, after_kept}
use Rattle.entry_copy.proofs.structs.defining.give_body.Goals as goal

pub behind_body-requires : goal.behind_body-requires
behind_body-requires c =
    subst (λ n. KnowsBody n (Some c.args.body.now)) (sym (c.type_count-count.ensures.count ∙ ap (λ (t : Types). length t.types) c.types.ensures)) c.requires.fields

pub copy_types-requires-clause-copies : goal.copy_types-requires-clause-copies
copy_types-requires-clause-copies c =
    let a = c.args.from.now in
    let within = subst IsWithin c.types.ensures c.type_count-count.ensures.within in
    (own, c.requires.copies, part_fits (structs a.table) a c.args.into.now.arena c.requires.partly (own_types_fit a within))

pub define_struct-requires-clause-fields : goal.define_struct-requires-clause-fields
define_struct-requires-clause-fields c =
    let a = c.args.from.now in
    let b = c.args.into.now.arena in
    let b1 = c.copy_types.new.into.arena in
    let id = c.args.id in
    let whole = structs a.table in
    let step = c.in_ok-copy_types.ensures in
    let many = step.count in
    let knows = knows_more c.behind_body.result (length c.copy_types.new.self.types) (omega (arith, many)) (Some c.args.body.now) c.behind_body.ensures.past in
    let made = c.in_ok-copy.ensures.is own a b1 (step.copies own c.requires.copies) knows in
    made.known

pub type_out_of_memory-requires : goal.type_out_of_memory-requires
type_out_of_memory-requires c =
    let a = c.args.from.now in
    let b = c.args.into.now.arena in
    let b1 = c.copy_types.new.into.arena in
    let id = c.args.id in
    let whole = structs a.table in
    let step = c.in_ok-copy_types.ensures in
    let many = step.count in
    let knows = knows_more c.behind_body.result (length c.copy_types.new.self.types) (omega (arith, many)) (Some c.args.body.now) c.behind_body.ensures.past in
    let made = c.in_ok-copy.ensures.is own a b1 (step.copies own c.requires.copies) knows in
    let within = subst IsWithin c.types.ensures c.type_count-count.ensures.within in
    let part = partly_grown whole b b1 step.grows (step.within own whole c.requires.copies (own_types_fit a within) c.requires.partly.within) c.requires.partly in
    let here = made.body ∙ body_stays (tree_body (trees a.table) (Some c.args.body.now)) ∙ sym (body_is a.table id (Some c.args.body.now) c.requires.here) in
    let lt : id < length whole = (let all = as_many_structs a in let in_bodies = slice_get_within (bodies a.table) id (Some c.args.body.now) c.requires.here in let long = length-map a.table.structs (λ (s : List ℕ × Option StructBody). s.1) in omega (arith, all, in_bodies, long)) in
    after_memory whole b1 part id lt c.in_ok-copy.copy here (structs_fit a within) c.in-Err.fault c.in-Err.ensures.fault

pub returns-in-Ok-clause-module : goal.returns-in-Ok-clause-module
returns-in-Ok-clause-module c = new_structs c.args.into.now.arena c.copy_types.new.into.arena c.define_struct.new.self _ c.in_ok-copy_types.ensures.grows c.in-Ok.ensures.module

pub returns-in-Ok-clause-partly : goal.returns-in-Ok-clause-partly
returns-in-Ok-clause-partly c =
    let a = c.args.from.now in
    let b = c.args.into.now.arena in
    let b1 = c.copy_types.new.into.arena in
    let id = c.args.id in
    let whole = structs a.table in
    let step = c.in_ok-copy_types.ensures in
    let many = step.count in
    let knows = knows_more c.behind_body.result (length c.copy_types.new.self.types) (omega (arith, many)) (Some c.args.body.now) c.behind_body.ensures.past in
    let made = c.in_ok-copy.ensures.is own a b1 (step.copies own c.requires.copies) knows in
    let within = subst IsWithin c.types.ensures c.type_count-count.ensures.within in
    let part = partly_grown whole b b1 step.grows (step.within own whole c.requires.copies (own_types_fit a within) c.requires.partly.within) c.requires.partly in
    let here = made.body ∙ body_stays (tree_body (trees a.table) (Some c.args.body.now)) ∙ sym (body_is a.table id (Some c.args.body.now) c.requires.here) in
    let lt : id < length whole = (let all = as_many_structs a in let in_bodies = slice_get_within (bodies a.table) id (Some c.args.body.now) c.requires.here in let long = length-map a.table.structs (λ (s : List ℕ × Option StructBody). s.1) in omega (arith, all, in_bodies, long)) in
    subst (IsPartly whole) (sym c.in-Ok.ensures.ok) (after_partly whole b1 part id lt c.in_ok-copy.copy here)

pub returns-in-Ok-clause-copies : goal.returns-in-Ok-clause-copies
returns-in-Ok-clause-copies c =
    let a = c.args.from.now in
    let b1 = c.copy_types.new.into.arena in
    let t = c.copy_types.new.self in
    let body = c.in_ok-copy.copy in
    subst (λ (w : Lists). CopiesTypes own a w t) (sym c.in-Ok.ensures.ok)
    (types_still_copied b1 (with_table b1 (with_body b1.table c.args.id body)) (trees-defined b1.table c.args.id body) refl own a t (names-defined b1.table c.args.id body) (c.in_ok-copy_types.ensures.copies own c.requires.copies))

pub returns-in-Ok-clause-done : goal.returns-in-Ok-clause-done
returns-in-Ok-clause-done c =
    let a = c.args.from.now in
    let b = c.args.into.now.arena in
    let b1 = c.copy_types.new.into.arena in
    let id = c.args.id in
    let whole = structs a.table in
    let step = c.in_ok-copy_types.ensures in
    let many = step.count in
    let knows = knows_more c.behind_body.result (length c.copy_types.new.self.types) (omega (arith, many)) (Some c.args.body.now) c.behind_body.ensures.past in
    let made = c.in_ok-copy.ensures.is own a b1 (step.copies own c.requires.copies) knows in
    let within = subst IsWithin c.types.ensures c.type_count-count.ensures.within in
    let part = partly_grown whole b b1 step.grows (step.within own whole c.requires.copies (own_types_fit a within) c.requires.partly.within) c.requires.partly in
    let here = made.body ∙ body_stays (tree_body (trees a.table) (Some c.args.body.now)) ∙ sym (body_is a.table id (Some c.args.body.now) c.requires.here) in
    let lt : id < length whole = (let all = as_many_structs a in let in_bodies = slice_get_within (bodies a.table) id (Some c.args.body.now) c.requires.here in let long = length-map a.table.structs (λ (s : List ℕ × Option StructBody). s.1) in omega (arith, all, in_bodies, long)) in
    subst (λ (w : Lists). IsDone whole w id) (sym c.in-Ok.ensures.ok) (after_done whole b1 part id lt c.in_ok-copy.copy here)

pub returns-in-Ok-clause-kept : goal.returns-in-Ok-clause-kept
returns-in-Ok-clause-kept c other below done =
    let a = c.args.from.now in
    let b = c.args.into.now.arena in
    let b1 = c.copy_types.new.into.arena in
    let id = c.args.id in
    let whole = structs a.table in
    let step = c.in_ok-copy_types.ensures in
    let many = step.count in
    let knows = knows_more c.behind_body.result (length c.copy_types.new.self.types) (omega (arith, many)) (Some c.args.body.now) c.behind_body.ensures.past in
    let made = c.in_ok-copy.ensures.is own a b1 (step.copies own c.requires.copies) knows in
    let within = subst IsWithin c.types.ensures c.type_count-count.ensures.within in
    let part = partly_grown whole b b1 step.grows (step.within own whole c.requires.copies (own_types_fit a within) c.requires.partly.within) c.requires.partly in
    let here = made.body ∙ body_stays (tree_body (trees a.table) (Some c.args.body.now)) ∙ sym (body_is a.table id (Some c.args.body.now) c.requires.here) in
    let lt : id < length whole = (let all = as_many_structs a in let in_bodies = slice_get_within (bodies a.table) id (Some c.args.body.now) c.requires.here in let long = length-map a.table.structs (λ (s : List ℕ × Option StructBody). s.1) in omega (arith, all, in_bodies, long)) in
    let less : other < length whole = (let all = as_many_structs a in omega (arith, all, below)) in
    let still = ap (λ ss. body_at ss other) (structs_stay b b1 step.grows) ∙ done in
    subst (λ (w : Lists). IsDone whole w other) (sym c.in-Ok.ensures.ok) (after_kept whole b1 part id lt c.in_ok-copy.copy here other less still)
