use Rattle.std.proofs.Common.{refl}
use Rattle.module_arena.specs.Changes.{with_constant}
use Rattle.type_read.proofs.OnArena.Kept.{keep_added, keep_found, keep_or, still_growing, table_of_either}
use Rattle.type_read.proofs.arena.growing_arena.GrowingArena.keep.Goals as goal

pub invariant_of-self : goal.invariant_of-self
invariant_of-self c =
    let g = c.self.inside in
    still_growing (record { arena = g.arena; types = g.types; pointer = g.pointer; bit = g.bit }) c.add_constant.new.arena c.self.invariant
    (table_of_either c.add_constant.result g.arena c.add_constant.new.arena (with_constant g.arena c.args.constant) refl c.add_constant.ensures.ok c.add_constant.ensures.err)

pub returns-in_default : goal.returns-in_default
returns-in_default c =
    let g = c.self.inside in
    keep_or c.add_constant.result c.args.self.now (record { arena = g.arena; types = g.types; pointer = g.pointer; bit = g.bit }) c.add_constant.new.arena c.args.constant c.self.view_is c.add_constant.ensures.ok c.add_constant.ensures.id

pub returns-in-Some-remembered : goal.returns-in-Some-remembered
returns-in-Some-remembered c =
    let g = c.self.inside in
    keep_found c.args.self.now (record { arena = g.arena; types = g.types; pointer = g.pointer; bit = g.bit }) c.args.constant c.in-Some-remembered.id c.self.view_is c.in-Some-remembered.ensures

pub invariant_of-self-in_err-id : goal.invariant_of-self-in_err-id
invariant_of-self-in_err-id c =
    let g = c.self.inside in
    still_growing (record { arena = g.arena; types = g.types; pointer = g.pointer; bit = g.bit }) c.add_constant-2.new.arena c.self.invariant
    (table_of_either c.add_constant-2.result g.arena c.add_constant-2.new.arena (with_constant g.arena c.args.constant) refl c.add_constant-2.ensures.ok c.add_constant-2.ensures.err)

pub returns : goal.returns
returns c =
    let g = c.self.inside in
    keep_added c.args.self.now (record { arena = g.arena; types = g.types; pointer = g.pointer; bit = g.bit }) c.add_constant-2.new.arena c.args.constant c.in_ok-id.id c.self.view_is c.in_ok-id.ensures.ok c.in_ok-id.ensures.id
