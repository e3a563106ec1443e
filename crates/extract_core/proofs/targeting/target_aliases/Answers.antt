use Rattle.std.proofs.Common.{◌≡◌, ◌<◌, ◌++◌, [], map, length, slice_get, Some, take, drop, refl, sym, ap, ◌∙◌, append-nil, arith}
use Rattle.module_arena.specs.Changes.{alias_in}
use Rattle.module_arena.specs.Module.{Module, Alias}
use Rattle.module_arena.specs.View.{module_of}
use Rattle.item_build.specs.Types.Declarations.{without_target}
use Rattle.extract_rules.specs.Extracted.{kept_linkage}
use Rattle.extract_rules.proofs.Entries.{get_within}
use Rattle.extract_rules.proofs.Keeping.{alias_at, aliases_length}
use Rattle.extract_core.specs.Fates.Fates.{alias_as, made}
use Rattle.extract_core.specs.Defining.Filling.{targeted_as, with_aliases}
use Rattle.extract_core.proofs.OnDefining.Filled.{aliases_step, next_found, behind_is, behind_upto, all_done_alone}
use Rattle.extract_core.proofs.OnDefining.NextEntry.{alias_there}
use Rattle.extract_core.proofs.targeting.target_aliases.Goals as goal

pub target_next-next-requires-clause-known : goal.target_next-next-requires-clause-known
target_next-next-requires-clause-known c = let e = c.new-id.ensures in omega (arith, e, c.aliases-test.true, c.alias_count-number-end.ensures)

pub target_next-next-requires-clause-upto : goal.target_next-next-requires-clause-upto
target_next-next-requires-clause-upto c = let e = c.new-id.ensures in let le = c.aliases.invariant.before in omega (arith, e, le)

pub target_next-next-requires-clause-here : goal.target_next-next-requires-clause-here
target_next-next-requires-clause-here c = λ kept.
    let a = c.args.from.now in
    let n = c.aliases.number in
    let old = c.aliases.invariant in
    let fates = c.args.fates.now in
    let lt : n < length a.aliases = omega (arith, c.aliases-test.true, c.alias_count-number-end.ensures) in
    let x = get_within a.aliases n lt in
    let v : Alias = alias_in a x.0 in
    let w : Alias = record v { linkage = kept_linkage v.linkage } in
    let made_it : alias_as c.at.result.now v ≡ Some w = ap (λ f. alias_as f v) kept in
    let done = made alias_as (take n fates) (take n (module_of a).aliases) in
    let behind = map without_target (made alias_as (drop n fates) (drop n (module_of a).aliases)) in
    alias_there c.aliases.into.arena c.aliases.next (without_target w)
    (next_found alias_as without_target fates (module_of a).aliases n c.at.result.now v c.at.ensures (alias_at a n x.0 x.1)
    [] (module_of c.aliases.into.arena).aliases w c.aliases.next made_it (ap (λ (m : Module). m.aliases) old.joined ∙ ap (λ l. done ++ l) (sym (append-nil behind))) old.next)

pub target_next-next-requires-clause-ids : goal.target_next-next-requires-clause-ids
target_next-next-requires-clause-ids c = (c.requires.ids.0, c.aliases.invariant.ids c.requires.ids.0 c.requires.ids.1)

pub target_next-next-requires-clause-target : goal.target_next-next-requires-clause-target
target_next-next-requires-clause-target c = λ x at. c.requires.targets c.aliases.number x c.at.result.now (ap (slice_get c.args.from.now.aliases) (sym c.new-id.ensures) ∙ at) c.at.ensures

pub aliases-init : goal.aliases-init
aliases-init c = record {
  upto = omega arith;
  next = refl;
  before = omega arith;
  joined = ap (with_aliases (module_of c.args.into.now.arena)) c.requires.declared;
  untargeted = c.requires.untargeted;
  ids = λ all h. h;
}

pub aliases-preserved : goal.aliases-preserved
aliases-preserved c =
    let a = c.args.from.now in
    let b = c.args.into.now.arena in
    let n = c.aliases.number in
    let next = c.aliases.next in
    let old = c.aliases.invariant in
    let step = c.target_next-next.ensures in
    let fates = c.args.fates.now in
    let fate = c.at.result.now in
    let lt : n < length a.aliases = omega (arith, c.aliases-test.true, c.alias_count-number-end.ensures) in
    let x = get_within a.aliases n lt in
    let v : Alias = alias_in a x.0 in
    let at : slice_get (module_of a).aliases n ≡ Some v = alias_at a n x.0 x.1 in
    let here = ap (slice_get (module_of a).aliases) c.new-id.ensures ∙ at in
    record {
      upto = omega (arith, lt);
      next = behind_is alias_as without_target fates (module_of a).aliases n fate v c.at.ensures at next c.target_next-next.result old.next (step.behind v here);
      before = behind_upto next c.target_next-next.result (alias_as fate v) n (step.behind v here) old.before;
      joined = step.module v here ∙ ap (λ (m : Module). targeted_as m next (alias_as fate v)) old.joined
          ∙ aliases_step (module_of b) fates (module_of a).aliases n fate v c.at.ensures at next old.next;
      untargeted = step.untargeted;
      ids = λ all h. step.ids all (old.ids all h);
    }

pub returns : goal.returns
returns c =
    let a = c.args.from.now in
    let n = c.aliases.number in
    let old = c.aliases.invariant in
    let upto = old.upto in
    let sizes = c.requires.sizes in
    let long = aliases_length a in
    let end : n ≡ length a.aliases = omega (arith, upto, c.aliases-test.false, c.alias_count-number-end.ensures) in
    old.joined
    ∙ ap (with_aliases (module_of c.args.into.now.arena)) (all_done_alone alias_as without_target c.args.fates.now (module_of a).aliases n (omega (arith, end, sizes)) (omega (arith, end, long)))
