use Rattle.std.proofs.Common.{◌^◌, ◌<◌, ℕ, All, length, sym, subst, ap, ◌∙◌, arith}
use Rattle.std.proofs.lemmas.List.{length_push}
use Rattle.type_table.specs.Limits.{IsWithin}
use Rattle.type_table.specs.Types.{IsGood}
use Rattle.linkage_rules.specs.Ids.{modules}
use Rattle.entry_copy.specs.Tables.{Tables, tables_of, with_types}
use Rattle.module_linker.specs.Parts.Bodies.{IsMaking}
use Rattle.module_linker.specs.Ground.Making.{IsMade}
use Rattle.module_linker.proofs.OnGround.Adding.{made_more}
use Rattle.module_linker.proofs.OnGround.Beginning.{making, small}
use Rattle.module_linker.proofs.ground.ground.add_part.Goals as goal

pub struct_ids-requires : goal.struct_ids-requires
struct_ids-requires c =
    subst (All (λ (number : ℕ). number < 2 ^ 32)) (sym c.as_slice.ensures)
    (small c.args.parts.now c.args.part c.arena_of-from.result.now c.args.into.now.arena c.args.copiers.now.items c.args.numbers.now c.requires.made c.arena_of-from.ensures.arena c.requires.numbers)

pub copy_part-requires : goal.copy_part-requires
copy_part-requires c =
    let parts = c.args.parts.now in
    let a = c.arena_of-from.result.now in
    let b = c.args.into.now.arena in
    let good = subst IsGood c.types.ensures c.type_count-good.ensures.good in
    let within = subst IsWithin c.types.ensures c.type_count-good.ensures.within in
    let start = c.new-copier.ensures ∙ ap tables_of (c.in_ok-ids.ensures ∙ c.as_slice.ensures) in
    record { making = (modules parts, c.args.part, subst (IsMaking (modules parts) c.args.part a b) (sym start) (making parts c.args.part a b c.args.copiers.now.items c.args.numbers.now c.requires.made c.arena_of-from.ensures.arena c.requires.numbers good within)) }

pub returns-clause-made : goal.returns-clause-made
returns-clause-made c =
    let parts = c.args.parts.now in
    let ms = modules parts in
    let part = c.args.part in
    let a = c.arena_of-from.result.now in
    let b = c.args.into.now.arena in
    let b1 = c.copy_part.new.into.arena in
    let before = c.args.copiers.now.items in
    let numbers = c.args.numbers.now in
    let t = c.copy_part.new.copier in
    let good = subst IsGood c.types.ensures c.type_count-good.ensures.good in
    let within = subst IsWithin c.types.ensures c.type_count-good.ensures.within in
    let start = c.new-copier.ensures ∙ ap tables_of (c.in_ok-ids.ensures ∙ c.as_slice.ensures) in
    let is = subst (IsMaking ms part a b) (sym start) (making parts part a b before numbers c.requires.made c.arena_of-from.ensures.arena c.requires.numbers good within) in
    let step = c.in_ok-copy_part.ensures in
    subst (IsMade parts b1) (sym c.in_ok-push.ensures.items)
    (made_more parts part a b b1 before numbers t c.requires.made c.arena_of-from.ensures.arena c.requires.next (step.making ms part is) (step.others ∙ ap (λ (x : Tables). with_types x t.types) start) step.all (step.done ms part is)
    (λ naming x y h. step.still naming x y h) (step.kept ms part is))

pub returns-clause-one : goal.returns-clause-one
returns-clause-one c =
    let many = ap (λ l. length l) c.in_ok-push.ensures.items ∙ length_push c.args.copiers.now.items c.copy_part.new.copier in
    let next = c.requires.next in
    omega (arith, many, next)
