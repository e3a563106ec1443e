use Rattle.std.proofs.Common.{length, ap, ◌∙◌, arith}
use Rattle.type_table.specs.Types.{Types}
use Rattle.module_arena.specs.View.{module_of}
use Rattle.link_rules.specs.Linked.{link_result}
use Rattle.link_rules.specs.Structs.{new_struct}
use Rattle.item_build.proofs.OnTypes.Staying.{entries_stay}
use Rattle.entry_copy.specs.Tables.{with_types}
use Rattle.entry_copy.proofs.TypesCopied.{types_still}
use Rattle.module_linker.proofs.OnParts.Bodies.{part_fits}
use Rattle.module_linker.proofs.OnParts.Grown.{making_grown, done_still, module_grown}
use Rattle.module_linker.proofs.parts.part.copy_type.Goals as goal

pub overflow_add-number : goal.overflow_add-number
overflow_add-number c =
    let many = c.type_count-count.ensures.count ∙ ap (λ (t : Types). length t.types) c.types.ensures in
    let fits = c.type_count-count.type_inv in
    let here = c.number.ensures in
    let below = c.requires.known in
    omega (arith, many, fits, here, below)

pub copy_types-requires-clause-copies : goal.copy_types-requires-clause-copies
copy_types-requires-clause-copies c =
    let ms = c.requires.making.0 in
    let i = c.requires.making.1 in
    let is = c.in_ok-before_type.ensures.making ms i c.requires.making.2 in
    (new_struct ms i, is.copies, part_fits (new_struct ms i) (link_result ms).structs c.args.from.now c.before_type.new.into.arena is.partly is.fit)

pub returns-clause-making : goal.returns-clause-making
returns-clause-making c ms i old =
    let is = c.in_ok-before_type.ensures.making ms i old in
    let step = c.in_ok-copy_types.ensures in
    making_grown ms i c.args.from.now c.before_type.new.into.arena c.copy_types.new.into.arena c.before_type.new.copier c.copy_types.new.self is step.grows
    (step.within (new_struct ms i) (link_result ms).structs is.copies is.fit is.partly.within) step.others (step.copies (new_struct ms i) is.copies)

pub returns-clause-module : goal.returns-clause-module
returns-clause-module c = module_grown (module_of c.args.into.now.arena) c.before_type.new.into.arena c.copy_types.new.into.arena c.in_ok-copy_types.ensures.grows c.in_ok-before_type.ensures.module

pub returns-clause-entries : goal.returns-clause-entries
returns-clause-entries c = entries_stay c.before_type.new.into.arena c.copy_types.new.into.arena c.in_ok-copy_types.ensures.grows ∙ c.in_ok-before_type.ensures.entries

pub returns-clause-others : goal.returns-clause-others
returns-clause-others c = c.in_ok-copy_types.ensures.others ∙ ap (λ t. with_types t c.copy_types.new.self.types) c.in_ok-before_type.ensures.others

pub returns-clause-still : goal.returns-clause-still
returns-clause-still c naming a t h =
    types_still naming a c.before_type.new.into.arena t (c.in_ok-before_type.ensures.still naming a t h) c.copy_types.new.into.arena c.in_ok-copy_types.ensures.grows

pub returns-clause-copied : goal.returns-clause-copied
returns-clause-copied c = let many = c.in_ok-copy_types.ensures.count in omega (arith, many)

pub returns-clause-kept : goal.returns-clause-kept
returns-clause-kept c ms i is other below done =
    done_still (link_result ms).structs c.before_type.new.into.arena c.copy_types.new.into.arena other c.in_ok-copy_types.ensures.grows (c.in_ok-before_type.ensures.kept ms i is other below done)
