use Rattle.std.proofs.Common.{◌≡◌, ◌↔◌, true, Some, ap, subst}
use Rattle.module_arena.specs.declared.entry.GlobalId.{GlobalId}
use Rattle.module_arena.specs.Lists.{Lists, global_name}
use Rattle.bitcode_read.proofs.entry.ending.ask_name.Goals as goal

pub returns : goal.returns
returns c = record {
  is = c.is_new-is.result;
  asks = ap (λ r. record c.args.m.now { reader = r }) c.also.ensures;
  told = subst (λ (a : Lists). (c.is_new-is.result ≡ true) ↔ ((g : GlobalId) → global_name a g ≡ Some c.args.name.now → g ≡ c.args.own)) c.arena.ensures c.is_new-is.ensures;
}
