use Rattle.std.proofs.Common.{◌≡◌, ◌<◌, length, slice_get, Some, refl, sym, ap, ◌∙◌, arith}
use Rattle.module_arena.specs.Changes.{function_in}
use Rattle.std.proofs.lemmas.Option.{same_Some}
use Rattle.module_arena.specs.Module.{Module, Function}
use Rattle.module_arena.specs.View.{module_of}
use Rattle.item_build.specs.Types.Parameters.{without_body}
use Rattle.extract_rules.specs.Extracted.{kept_linkage}
use Rattle.extract_rules.proofs.Entries.{get_within}
use Rattle.extract_rules.proofs.Keeping.{function_at, functions_length}
use Rattle.extract_core.specs.Fates.Fates.{function_as, made}
use Rattle.extract_core.specs.Part.FunctionsThere.{with_functions}
use Rattle.extract_core.specs.Defining.Filling.{defined_as}
use Rattle.extract_core.proofs.OnDefining.Changed.{keeps_all_same, keeps_all_on}
use Rattle.extract_core.proofs.OnDefining.Filled.{functions_step, next_found, behind_is, behind_upto, all_done}
use Rattle.extract_core.proofs.OnDefining.NextEntry.{function_there, function_unset}
use Rattle.extract_core.proofs.defining.defining.define_functions.Goals as goal

pub define_next-requires-clause-known : goal.define_next-requires-clause-known
define_next-requires-clause-known c = let e = c.new-id.ensures in omega (arith, e, c.functions-test.true, c.function_count-number-end.ensures)

pub define_next-requires-clause-upto : goal.define_next-requires-clause-upto
define_next-requires-clause-upto c = let e = c.new-id.ensures in let le = c.functions.invariant.before in omega (arith, e, le)

pub define_next-requires-clause-here : goal.define_next-requires-clause-here
define_next-requires-clause-here c = λ kept.
    let a = c.args.from.now in
    let n = c.functions.number in
    let old = c.functions.invariant in
    let lt : n < length a.functions = omega (arith, c.functions-test.true, c.function_count-number-end.ensures) in
    let x = get_within a.functions n lt in
    let v : Function = function_in a x.0 in
    let w : Function = record v { linkage = kept_linkage v.linkage } in
    let made : function_as c.at.result.now v ≡ Some w = ap (λ f. function_as f v) kept in
    let rest = c.requires.declared.0 in
    function_there c.functions.into.arena c.functions.next (without_body w)
    (next_found function_as without_body c.args.fates.now (module_of a).functions n c.at.result.now v c.at.ensures (function_at a n x.0 x.1)
    rest (module_of c.functions.into.arena).functions w c.functions.next made (ap (λ (m : Module). m.functions) (old.joined rest c.requires.declared.1)) old.next)

pub define_next-requires-clause-undefined : goal.define_next-requires-clause-undefined
define_next-requires-clause-undefined c = λ kept.
    let a = c.args.from.now in
    let n = c.functions.number in
    let old = c.functions.invariant in
    let lt : n < length a.functions = omega (arith, c.functions-test.true, c.function_count-number-end.ensures) in
    let x = get_within a.functions n lt in
    let v : Function = function_in a x.0 in
    let w : Function = record v { linkage = kept_linkage v.linkage } in
    let made : function_as c.at.result.now v ≡ Some w = ap (λ f. function_as f v) kept in
    let rest = c.requires.declared.0 in
    function_unset c.functions.into.arena c.functions.next w
    (next_found function_as without_body c.args.fates.now (module_of a).functions n c.at.result.now v c.at.ensures (function_at a n x.0 x.1)
    rest (module_of c.functions.into.arena).functions w c.functions.next made (ap (λ (m : Module). m.functions) (old.joined rest c.requires.declared.1)) old.next)

pub define_next-requires-clause-parameters : goal.define_next-requires-clause-parameters
define_next-requires-clause-parameters c = λ kept f g at there.
    let a = c.args.from.now in
    let n = c.functions.number in
    let old = c.functions.invariant in
    let w : Function = record f { linkage = kept_linkage f.linkage } in
    let made : function_as c.at.result.now f ≡ Some w = ap (λ y. function_as y f) kept in
    let rest = c.requires.declared.0 in
    let here = ap (slice_get (module_of a).functions) (sym c.new-id.ensures) ∙ at in
    let found = next_found function_as without_body c.args.fates.now (module_of a).functions n c.at.result.now f c.at.ensures here
    rest (module_of c.functions.into.arena).functions w c.functions.next made (ap (λ (m : Module). m.functions) (old.joined rest c.requires.declared.1)) old.next in
    ap (λ (y : Function). y.parameters) (same_Some g (without_body w) (sym there ∙ found))

pub define_next-requires-clause-copies : goal.define_next-requires-clause-copies
define_next-requires-clause-copies c = c.functions.invariant.keeps.copies c.args.from.now c.args.copier.now c.requires.copies

pub define_next-requires-clause-names : goal.define_next-requires-clause-names
define_next-requires-clause-names c = λ v at. c.requires.names c.functions.number v c.at.result.now (ap (slice_get (module_of c.args.from.now).functions) (sym c.new-id.ensures) ∙ at) c.at.ensures

pub functions-init : goal.functions-init
functions-init c = record {
  upto = omega arith;
  next = refl;
  before = omega arith;
  joined = λ rest begins. ap (with_functions (module_of c.args.into.now.arena)) begins;
  keeps = keeps_all_same c.args.into.now.arena;
}

pub functions-preserved : goal.functions-preserved
functions-preserved c =
    let a = c.args.from.now in
    let b = c.args.into.now.arena in
    let mid = c.functions.into.arena in
    let new = c.define_next.new.into.arena in
    let n = c.functions.number in
    let next = c.functions.next in
    let old = c.functions.invariant in
    let step = c.in_ok-behind.ensures in
    let fates = c.args.fates.now in
    let fate = c.at.result.now in
    let lt : n < length a.functions = omega (arith, c.functions-test.true, c.function_count-number-end.ensures) in
    let x = get_within a.functions n lt in
    let v : Function = function_in a x.0 in
    let at : slice_get (module_of a).functions n ≡ Some v = function_at a n x.0 x.1 in
    let here = ap (slice_get (module_of a).functions) c.new-id.ensures ∙ at in
    record {
      upto = omega (arith, lt);
      next = behind_is function_as without_body fates (module_of a).functions n fate v c.at.ensures at next c.in_ok-behind.behind old.next (step.behind v here);
      before = behind_upto next c.in_ok-behind.behind (function_as fate v) n (step.behind v here) old.before;
      joined = λ rest begins. step.module v here ∙ ap (λ (m : Module). defined_as m next (function_as fate v)) (old.joined rest begins)
          ∙ functions_step (module_of b) fates (module_of a).functions rest n fate v c.at.ensures at next old.next;
      keeps = keeps_all_on b mid new old.keeps step.keeps;
    }

pub returns-clause-module : goal.returns-clause-module
returns-clause-module c = λ rest begins.
    let a = c.args.from.now in
    let n = c.functions.number in
    let old = c.functions.invariant in
    let upto = old.upto in
    let sizes = c.requires.sizes in
    let long = functions_length a in
    let end : n ≡ length a.functions = omega (arith, upto, c.functions-test.false, c.function_count-number-end.ensures) in
    old.joined rest begins
    ∙ ap (with_functions (module_of c.args.into.now.arena)) (all_done function_as without_body c.args.fates.now (module_of a).functions n (omega (arith, end, sizes)) (omega (arith, end, long)) rest)
