use Rattle.std.proofs.Common.{◌≡◌, [], ◌+◌, ◌<◌, length, slice_get, Some, sym, subst, ap, ◌∙◌, arith}
use Rattle.std.proofs.lemmas.List.{length-map}
use Rattle.module_arena.specs.declared.entry.GlobalId.TheVariants as global
use Rattle.module_arena.specs.Changes.{alias_in}
use Rattle.module_arena.specs.Functions.{alias_names}
use Rattle.module_arena.specs.Lists.{global_name}
use Rattle.module_arena.specs.Module.{Module, Alias}
use Rattle.module_arena.specs.View.{module_of}
use Rattle.item_build.specs.Types.Declarations.{without_initialiser, without_target}
use Rattle.item_build.specs.Types.Parameters.{without_body}
use Rattle.extract_rules.proofs.Entries.{get_within}
use Rattle.extract_rules.proofs.Keeping.{alias_at, aliases_length}
use Rattle.extract_core.specs.Fates.Fates.{alias_as, alias_variable_as, alias_function_as}
use Rattle.extract_core.specs.Declaring.Declaring.{IsDeclaring, AreNewIds}
use Rattle.extract_core.specs.Part.AliasesThere.{with_alias_as, aliases_through}
use Rattle.extract_core.proofs.OnDeclaring.NewIds.{ids_pushed, ids_whole, keeps_same, keeps_on}
use Rattle.extract_core.proofs.OnDeclaring.Filled.{joined_none, joined_more, joined_whole}
use Rattle.extract_core.proofs.OnPart.AliasesDeclared.{alias_called_so, alias_listed}
use Rattle.extract_core.proofs.part.aliases.declare_aliases.Goals as goal

pub declare_alias-requires-clause-known : goal.declare_alias-requires-clause-known
declare_alias-requires-clause-known c = let e = c.new-id.ensures in omega (arith, e, c.aliases-test.true, c.alias_count-number-end.ensures)

pub declare_alias-requires-clause-declaring : goal.declare_alias-requires-clause-declaring
declare_alias-requires-clause-declaring c = subst (λ k. IsDeclaring c.args.from.now (aliases_through c.args.from.now k) c.aliases.into.arena) (sym c.new-id.ensures) c.aliases.invariant.declaring

pub aliases-init : goal.aliases-init
aliases-init c =
    let M = module_of c.args.from.now in
    let m = module_of c.args.into.now.arena in
    let fates = c.args.fates.now in
    record {
      upto = omega arith;
      joined = λ i. record m {
        variables = joined_none (alias_variable_as M) without_initialiser m.variables fates M.aliases i;
        aliases = joined_none alias_as without_target m.aliases fates M.aliases i;
        functions = joined_none alias_function_as without_body m.functions fates M.aliases i;
      };
      types = c.requires.types;
      declaring = c.requires.declaring;
      keeps = keeps_same c.args.into.now.arena;
      ids = subst (AreNewIds c.args.into.now.arena [] []) (sym c.new-ids.ensures.items) tt;
    }

pub aliases-preserved : goal.aliases-preserved
aliases-preserved c =
    let a = c.args.from.now in
    let b = c.args.into.now.arena in
    let M = module_of a in
    let m0 = module_of b in
    let mid = c.aliases.into.arena in
    let new = c.declare_alias.new.into.arena in
    let n = c.aliases.number in
    let old = c.aliases.invariant in
    let step = c.in_ok-new.ensures in
    let e = c.new-id.ensures in
    let fates = c.args.fates.now in
    let fate = c.at.result.now in
    let lt : n < length a.aliases = omega (arith, c.aliases-test.true, c.alias_count-number-end.ensures) in
    let x = get_within a.aliases n lt in
    let v : Alias = alias_in a x.0 in
    let at : slice_get M.aliases n ≡ Some v = alias_at a n x.0 x.1 in
    let here = ap (λ k. slice_get M.aliases k) e ∙ at in
    record {
      upto = omega (arith, lt);
      joined = step.joined v here ∙ (λ i. let m : Module = old.joined i in with_alias_as M m fate v)
          ∙ (λ i. record m0 {
            variables = joined_more (alias_variable_as M) without_initialiser m0.variables fates M.aliases n fate v c.at.ensures at i;
            aliases = joined_more alias_as without_target m0.aliases fates M.aliases n fate v c.at.ensures at i;
            functions = joined_more alias_function_as without_body m0.functions fates M.aliases n fate v c.at.ensures at i;
          });
      types = step.types;
      declaring = subst (λ k. IsDeclaring a (aliases_through a (k + 1)) new) e step.declaring;
      keeps = keeps_on b mid new old.keeps step.keeps;
      ids = ids_pushed mid new (alias_names M) fates n x.0.name fate c.aliases.ids.items c.push.new.self.items c.in_ok-new.new step.keeps (alias_listed a n x.0 x.1) c.at.ensures old.ids
          (step.called x.0.name (ap (λ k. global_name a (global.Alias k)) e ∙ alias_called_so a n x.0 x.1)) c.in_ok-push.ensures.items;
    }

pub returns : goal.returns
returns c =
    let a = c.args.from.now in
    let M = module_of a in
    let m = module_of c.args.into.now.arena in
    let fates = c.args.fates.now in
    let n = c.aliases.number in
    let inv = c.aliases.invariant in
    let upto = inv.upto in
    let sizes = c.requires.sizes in
    let long = aliases_length a in
    let named = length-map M.aliases (λ (x : Alias). x.name) in
    let end : n ≡ length a.aliases = omega (arith, upto, c.aliases-test.false, c.alias_count-number-end.ensures) in
    let by_fates : n ≡ length fates = omega (arith, end, sizes) in
    let by_module : n ≡ length M.aliases = omega (arith, end, long) in
    record {
      joined = inv.joined ∙ (λ i. record m {
        variables = joined_whole (alias_variable_as M) without_initialiser m.variables fates M.aliases n by_fates by_module i;
        aliases = joined_whole alias_as without_target m.aliases fates M.aliases n by_fates by_module i;
        functions = joined_whole alias_function_as without_body m.functions fates M.aliases n by_fates by_module i;
      });
      types = inv.types;
      declaring = subst (λ k. IsDeclaring a (aliases_through a k) c.aliases.into.arena) end inv.declaring;
      keeps = inv.keeps;
      called = ids_whole c.aliases.into.arena (alias_names M) fates n c.aliases.ids.items (omega (arith, by_module, named)) by_fates inv.ids;
    }
