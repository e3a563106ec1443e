use Rattle.std.proofs.Common.{ap, ◌∙◌}
use Rattle.module_arena.specs.Lists.{Lists}
use Rattle.run_decode.proofs.OnSignatures.Told.{all_known, known_there, told_all, written_here}
use Rattle.run_decode.proofs.signatures.signatures.Signatures.is_shape_of.Goals as goal

pub shape_eq-returned-requires-clause-own : goal.shape_eq-returned-requires-clause-own
shape_eq-returned-requires-clause-own c =
    let s = c.self.inside in
    known_there c.args.self.now s.program.now s.parameters s.written c.self.view_is c.self.invariant c.args.number c.at-known.result.now c.at-known.ensures
    c.types-types.result.now (c.types-types.ensures ∙ ap (λ (x : Lists). x.table) c.arena.ensures.arena)

pub in_span-requires : goal.in_span-requires
in_span-requires c =
    let s = c.self.inside in
    (written_here c.args.self.now s.program.now s.parameters s.written c.self.view_is c.self.invariant c.args.number c.at-known.result.now c.at-known.ensures).there

pub are_alike-taken-requires-clause-first : goal.are_alike-taken-requires-clause-first
are_alike-taken-requires-clause-first c =
    let s = c.self.inside in
    all_known c.args.self.now s.program.now s.parameters s.written c.self.view_is c.self.invariant c.args.number c.at-known.result.now c.at-known.ensures
    c.types-types.result.now (c.types-types.ensures ∙ ap (λ (x : Lists). x.table) c.arena.ensures.arena) c.in_span.result.now c.in_span.ensures

pub returns : goal.returns
returns c =
    let s = c.self.inside in
    told_all c.args.self.now s.program.now s.parameters s.written c.self.view_is c.self.invariant c.args.number c.at-known.result.now c.at-known.ensures
    c.args.returns c.args.parameters.now c.args.variadic
    c.types-types.result.now (c.types-types.ensures ∙ ap (λ (x : Lists). x.table) c.arena.ensures.arena) c.type_count-count.ensures.good c.type_count-count.ensures.within c.requires.returns
    c.in_span.result.now c.in_span.ensures c.shape_eq-returned.result c.are_alike-taken.result c.shape_eq-returned.ensures c.are_alike-taken.ensures
