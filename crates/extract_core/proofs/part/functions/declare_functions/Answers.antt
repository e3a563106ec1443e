use Rattle.std.proofs.Common.{◌≡◌, [], ◌+◌, ◌<◌, ◌++◌, map, length, slice_get, Some, sym, subst, ap, ◌∙◌, arith}
use Rattle.std.specs.Prelude.{option_to_list}
use Rattle.std.proofs.lemmas.List.{length-map}
use Rattle.module_arena.specs.declared.entry.GlobalId.TheVariants as global
use Rattle.module_arena.specs.Changes.{function_in}
use Rattle.module_arena.specs.Functions.{function_names}
use Rattle.module_arena.specs.Lists.{global_name}
use Rattle.module_arena.specs.Module.{Module, Function}
use Rattle.module_arena.specs.View.{module_of}
use Rattle.item_build.specs.Types.Parameters.{without_body}
use Rattle.extract_rules.proofs.Entries.{get_within}
use Rattle.extract_rules.proofs.Keeping.{function_at, functions_length}
use Rattle.extract_core.specs.Fates.Fates.{function_as}
use Rattle.extract_core.specs.Declaring.Declaring.{IsDeclaring, AreNewIds}
use Rattle.extract_core.specs.Part.FunctionsThere.{functions_through, with_functions}
use Rattle.extract_core.proofs.OnDeclaring.NewIds.{ids_pushed, ids_whole, keeps_same, keeps_on}
use Rattle.extract_core.proofs.OnDeclaring.Filled.{joined_none, joined_more, joined_whole}
use Rattle.extract_core.proofs.OnPart.FunctionsDeclared.{function_called_so, function_listed}
use Rattle.extract_core.proofs.part.functions.declare_functions.Goals as goal

pub declare_function-requires-clause-known : goal.declare_function-requires-clause-known
declare_function-requires-clause-known c = let e = c.new-id.ensures in omega (arith, e, c.functions-test.true, c.function_count-number-end.ensures)

pub declare_function-requires-clause-declaring : goal.declare_function-requires-clause-declaring
declare_function-requires-clause-declaring c = subst (λ k. IsDeclaring c.args.from.now (functions_through c.args.from.now k) c.functions.into.arena) (sym c.new-id.ensures) c.functions.invariant.declaring

pub functions-init : goal.functions-init
functions-init c =
    let m = module_of c.args.into.now.arena in
    record {
      upto = omega arith;
      joined = ap (with_functions m) (joined_none function_as without_body m.functions c.args.fates.now (module_of c.args.from.now).functions);
      types = c.requires.types;
      declaring = c.requires.declaring;
      keeps = keeps_same c.args.into.now.arena;
      ids = subst (AreNewIds c.args.into.now.arena [] []) (sym c.new-ids.ensures.items) tt;
    }

pub functions-preserved : goal.functions-preserved
functions-preserved c =
    let a = c.args.from.now in
    let b = c.args.into.now.arena in
    let mid = c.functions.into.arena in
    let new = c.declare_function.new.into.arena in
    let n = c.functions.number in
    let old = c.functions.invariant in
    let step = c.in_ok-new.ensures in
    let e = c.new-id.ensures in
    let fate = c.at.result.now in
    let lt : n < length a.functions = omega (arith, c.functions-test.true, c.function_count-number-end.ensures) in
    let x = get_within a.functions n lt in
    let v : Function = function_in a x.0 in
    let at : slice_get (module_of a).functions n ≡ Some v = function_at a n x.0 x.1 in
    let here = ap (λ k. slice_get (module_of a).functions k) e ∙ at in
    record {
      upto = omega (arith, lt);
      joined = step.module v here
          ∙ (λ i. let m : Module = old.joined i in with_functions m (m.functions ++ map without_body (option_to_list (function_as fate v))))
          ∙ ap (with_functions (module_of b)) (joined_more function_as without_body (module_of b).functions c.args.fates.now (module_of a).functions n fate v c.at.ensures at);
      types = step.types;
      declaring = subst (λ k. IsDeclaring a (functions_through a (k + 1)) new) e step.declaring;
      keeps = keeps_on b mid new old.keeps step.keeps;
      ids = ids_pushed mid new (function_names (module_of a)) c.args.fates.now n x.0.name fate c.functions.ids.items c.push.new.self.items c.in_ok-new.new step.keeps (function_listed a n x.0 x.1) c.at.ensures old.ids
          (step.id x.0.name (ap (λ k. global_name a (global.Function k)) e ∙ function_called_so a n x.0 x.1)) c.in_ok-push.ensures.items;
    }

pub returns-clause-module : goal.returns-clause-module
returns-clause-module c =
    let a = c.args.from.now in
    let m = module_of c.args.into.now.arena in
    let n = c.functions.number in
    let upto = c.functions.invariant.upto in
    let sizes = c.requires.sizes in
    let long = functions_length a in
    let end : n ≡ length a.functions = omega (arith, upto, c.functions-test.false, c.function_count-number-end.ensures) in
    c.functions.invariant.joined ∙ ap (with_functions m) (joined_whole function_as without_body m.functions c.args.fates.now (module_of a).functions n (omega (arith, end, sizes)) (omega (arith, end, long)))

pub returns-clause-declaring : goal.returns-clause-declaring
returns-clause-declaring c =
    let a = c.args.from.now in
    let upto = c.functions.invariant.upto in
    let end : c.functions.number ≡ length a.functions = omega (arith, upto, c.functions-test.false, c.function_count-number-end.ensures) in
    subst (λ k. IsDeclaring a (functions_through c.args.from.now k) c.functions.into.arena) end c.functions.invariant.declaring

pub returns-clause-ids : goal.returns-clause-ids
returns-clause-ids c =
    let a = c.args.from.now in
    let n = c.functions.number in
    let upto = c.functions.invariant.upto in
    let sizes = c.requires.sizes in
    let long = functions_length a in
    let named = length-map (module_of a).functions (λ (v : Function). v.name) in
    let end : n ≡ length a.functions = omega (arith, upto, c.functions-test.false, c.function_count-number-end.ensures) in
    ids_whole c.functions.into.arena (function_names (module_of a)) c.args.fates.now n c.functions.ids.items (omega (arith, end, long, named)) (omega (arith, end, sizes)) c.functions.invariant.ids
