use Rattle.std.proofs.Common.{◌≡◌, [], ◌+◌, ◌<◌, ◌++◌, map, length, slice_get, Some, sym, subst, ap, ◌∙◌, arith}
use Rattle.std.specs.Prelude.{option_to_list}
use Rattle.std.proofs.lemmas.List.{length-map}
use Rattle.module_arena.specs.declared.entry.GlobalId.TheVariants as global
use Rattle.module_arena.specs.Changes.{variable_in}
use Rattle.module_arena.specs.Functions.{variable_names}
use Rattle.module_arena.specs.Lists.{global_name}
use Rattle.module_arena.specs.Module.{Module, Variable}
use Rattle.module_arena.specs.View.{module_of}
use Rattle.item_build.specs.Types.Declarations.{without_initialiser}
use Rattle.extract_rules.proofs.Entries.{get_within}
use Rattle.extract_rules.proofs.Keeping.{variable_at, variables_length}
use Rattle.extract_core.specs.Fates.Fates.{variable_as}
use Rattle.extract_core.specs.Declaring.Declaring.{variables_through, IsDeclaring, AreNewIds}
use Rattle.extract_core.specs.Declaring.Stages.{with_variables}
use Rattle.extract_core.proofs.OnDeclaring.Filled.{joined_none, joined_more, joined_whole}
use Rattle.extract_core.proofs.OnDeclaring.NewIds.{ids_pushed, ids_whole}
use Rattle.extract_core.proofs.OnDeclaring.VariablesDeclared.{variable_called_so, variable_listed}
use Rattle.extract_core.proofs.declaring.variables.declare_variables.Goals as goal

pub declare_variable-requires-clause-known : goal.declare_variable-requires-clause-known
declare_variable-requires-clause-known c = let e = c.new-id.ensures in omega (arith, e, c.variables-test.true, c.variable_count-number-end.ensures.count)

pub declare_variable-requires-clause-declaring : goal.declare_variable-requires-clause-declaring
declare_variable-requires-clause-declaring c = subst (λ k. IsDeclaring c.args.from.now (variables_through k) c.variables.into.arena) (sym c.new-id.ensures) c.variables.invariant.declaring

pub variables-init : goal.variables-init
variables-init c =
    let m = module_of c.args.into.now.arena in
    record {
      upto = omega arith;
      joined = ap (with_variables m) (joined_none variable_as without_initialiser m.variables c.args.fates.now (module_of c.args.from.now).variables);
      types = c.requires.types;
      declaring = c.requires.declaring;
      ids = subst (AreNewIds c.args.into.now.arena [] []) (sym c.new-ids.ensures.items) tt;
    }

pub variables-preserved : goal.variables-preserved
variables-preserved c =
    let a = c.args.from.now in
    let b = c.args.into.now.arena in
    let mid = c.variables.into.arena in
    let new = c.declare_variable.new.into.arena in
    let n = c.variables.number in
    let old = c.variables.invariant in
    let step = c.in_ok-new.ensures in
    let e = c.new-id.ensures in
    let fate = c.at.result.now in
    let lt : n < length a.variables = omega (arith, c.variables-test.true, c.variable_count-number-end.ensures.count) in
    let x = get_within a.variables n lt in
    let v : Variable = variable_in a x.0 in
    let at : slice_get (module_of a).variables n ≡ Some v = variable_at a n x.0 x.1 in
    let here = ap (λ k. slice_get (module_of a).variables k) e ∙ at in
    record {
      upto = omega (arith, lt);
      joined = step.module v here
          ∙ (λ i. let m : Module = old.joined i in with_variables m (m.variables ++ map without_initialiser (option_to_list (variable_as fate v))))
          ∙ ap (with_variables (module_of b)) (joined_more variable_as without_initialiser (module_of b).variables c.args.fates.now (module_of a).variables n fate v c.at.ensures at);
      types = step.types;
      declaring = subst (λ k. IsDeclaring a (variables_through (k + 1)) new) e step.declaring;
      ids = ids_pushed mid new (variable_names (module_of a)) c.args.fates.now n x.0.name fate c.variables.ids.items c.push.new.self.items c.in_ok-new.new step.keeps (variable_listed a n x.0 x.1) c.at.ensures old.ids
          (step.id x.0.name (ap (λ k. global_name a (global.Variable k)) e ∙ variable_called_so a n x.0 x.1)) c.in_ok-push.ensures.items;
    }

pub returns-clause-module : goal.returns-clause-module
returns-clause-module c =
    let a = c.args.from.now in
    let m = module_of c.args.into.now.arena in
    let n = c.variables.number in
    let upto = c.variables.invariant.upto in
    let sizes = c.requires.sizes in
    let long = variables_length a in
    let end : n ≡ length a.variables = omega (arith, upto, c.variables-test.false, c.variable_count-number-end.ensures.count) in
    c.variables.invariant.joined ∙ ap (with_variables m) (joined_whole variable_as without_initialiser m.variables c.args.fates.now (module_of a).variables n (omega (arith, end, sizes)) (omega (arith, end, long)))

pub returns-clause-declaring : goal.returns-clause-declaring
returns-clause-declaring c =
    let a = c.args.from.now in
    let upto = c.variables.invariant.upto in
    let end : c.variables.number ≡ length a.variables = omega (arith, upto, c.variables-test.false, c.variable_count-number-end.ensures.count) in
    subst (λ k. IsDeclaring a (variables_through k) c.variables.into.arena) end c.variables.invariant.declaring

pub returns-clause-ids : goal.returns-clause-ids
returns-clause-ids c =
    let a = c.args.from.now in
    let n = c.variables.number in
    let upto = c.variables.invariant.upto in
    let sizes = c.requires.sizes in
    let long = variables_length a in
    let named = length-map (module_of a).variables (λ (v : Variable). v.name) in
    let end : n ≡ length a.variables = omega (arith, upto, c.variables-test.false, c.variable_count-number-end.ensures.count) in
    ids_whole c.variables.into.arena (variable_names (module_of a)) c.args.fates.now n c.variables.ids.items (omega (arith, end, long, named)) (omega (arith, end, sizes)) c.variables.invariant.ids
