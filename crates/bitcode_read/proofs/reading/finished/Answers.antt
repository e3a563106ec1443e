use Rattle.std.proofs.Common.{ℕ, Bool, List, Option, length, refl, sym, ap, subst, ◌∙◌}
use Rattle.module_arena.specs.declared.entry.GlobalId.{GlobalId}
use Rattle.module_arena.specs.Lists.{Lists}
use Rattle.bitcode_read.specs.Holding.Holding.{HasConstants, HasTargets, Suits, targeted_by}
use Rattle.bitcode_read.specs.Sofar.{AreSettable}
use Rattle.bitcode_read.proofs.Setting.{bodies_set, initialisers_set, made_is, still_constants, still_suits, still_undefined, still_unset, targets_set}
use Rattle.bitcode_read.proofs.reading.finished.Goals as goal

pub set_targets-requires-clause-untargeted : goal.set_targets-requires-clause-untargeted
set_targets-requires-clause-untargeted c =
    let h : AreSettable c.into_arena-arena.result c.args.sofar = subst (λ (a : Lists). AreSettable a c.args.sofar) (sym c.into_arena-arena.ensures) c.requires in
    h.untargeted

pub set_targets-requires-clause-known : goal.set_targets-requires-clause-known
set_targets-requires-clause-known c =
    let h : AreSettable c.into_arena-arena.result c.args.sofar = subst (λ (a : Lists). AreSettable a c.args.sofar) (sym c.into_arena-arena.ensures) c.requires in
    subst (λ (os : List (Option GlobalId)). HasTargets c.into_arena-arena.result os) (sym c.deref.ensures.value) h.targets

pub set_initialisers-requires-clause-unset : goal.set_initialisers-requires-clause-unset
set_initialisers-requires-clause-unset c =
    let h : AreSettable c.into_arena-arena.result c.args.sofar = subst (λ (a : Lists). AreSettable a c.args.sofar) (sym c.into_arena-arena.ensures) c.requires in
    let one = targets_set c.into_arena-arena.result c.set_targets.new.arena c.deref.result.now c.args.sofar.targets.items c.set_targets.ensures c.deref.ensures.value in
    still_unset c.into_arena-arena.result c.args.sofar h c.set_targets.new.arena _ one refl

pub set_initialisers-requires-clause-known : goal.set_initialisers-requires-clause-known
set_initialisers-requires-clause-known c =
    let h : AreSettable c.into_arena-arena.result c.args.sofar = subst (λ (a : Lists). AreSettable a c.args.sofar) (sym c.into_arena-arena.ensures) c.requires in
    let one = targets_set c.into_arena-arena.result c.set_targets.new.arena c.deref.result.now c.args.sofar.targets.items c.set_targets.ensures c.deref.ensures.value in
    subst (λ (os : List (Option ℕ)). HasConstants c.set_targets.new.arena os) (sym c.deref-2.ensures.value) (still_constants c.into_arena-arena.result c.args.sofar h c.set_targets.new.arena _ one refl)

pub set_bodies-requires-clause-undefined : goal.set_bodies-requires-clause-undefined
set_bodies-requires-clause-undefined c =
    let h : AreSettable c.into_arena-arena.result c.args.sofar = subst (λ (a : Lists). AreSettable a c.args.sofar) (sym c.into_arena-arena.ensures) c.requires in
    let one = targets_set c.into_arena-arena.result c.set_targets.new.arena c.deref.result.now c.args.sofar.targets.items c.set_targets.ensures c.deref.ensures.value in
    let two = initialisers_set c.set_targets.new.arena c.set_initialisers.new.arena c.deref-2.result.now c.args.sofar.initialisers.items c.set_initialisers.ensures c.deref-2.ensures.value in
    still_undefined c.into_arena-arena.result c.args.sofar h c.set_targets.new.arena c.set_initialisers.new.arena one two

pub set_bodies-requires-clause-suits : goal.set_bodies-requires-clause-suits
set_bodies-requires-clause-suits c =
    let h : AreSettable c.into_arena-arena.result c.args.sofar = subst (λ (a : Lists). AreSettable a c.args.sofar) (sym c.into_arena-arena.ensures) c.requires in
    let one = targets_set c.into_arena-arena.result c.set_targets.new.arena c.deref.result.now c.args.sofar.targets.items c.set_targets.ensures c.deref.ensures.value in
    let two = initialisers_set c.set_targets.new.arena c.set_initialisers.new.arena c.deref-2.result.now c.args.sofar.initialisers.items c.set_initialisers.ensures c.deref-2.ensures.value in
    let a = c.set_initialisers.new.arena in
    subst (λ (ds : List Bool). Suits (length a.table.types) (length a.constants) a.functions ds c.args.sofar.bodies.items) (sym c.deref-3.ensures.value) (still_suits c.into_arena-arena.result c.args.sofar h c.set_targets.new.arena a one two)

pub returns : goal.returns
returns c = λ s r.
    let one = targets_set c.into_arena-arena.result c.set_targets.new.arena c.deref.result.now c.args.sofar.targets.items c.set_targets.ensures c.deref.ensures.value in
    let two = initialisers_set c.set_targets.new.arena c.set_initialisers.new.arena c.deref-2.result.now c.args.sofar.initialisers.items c.set_initialisers.ensures c.deref-2.ensures.value in
    let three = bodies_set c.set_initialisers.new.arena c.set_bodies.new.arena c.deref-3.result.now c.args.sofar.defined.items c.args.sofar.bodies.items c.set_bodies.ensures c.deref-3.ensures.value in
    made_is c.args.m.growing.arena c.args.sofar c.set_targets.new.arena c.set_initialisers.new.arena c.set_bodies.new.arena c.set_texts.new.self
    (one ∙ ap (λ (a : Lists). record a { aliases = targeted_by a.aliases c.args.sofar.targets.items }) c.into_arena-arena.ensures) two three c.set_texts.ensures s r
