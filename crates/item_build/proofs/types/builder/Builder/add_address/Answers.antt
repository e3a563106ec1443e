use Rattle.std.proofs.Common.{Some, sym, subst, ap, ◌∙◌, IfOk}
use Rattle.module_arena.specs.Module as m
use Rattle.item_build.specs.Types.Stands.{IsConstant}
use Rattle.item_build.proofs.OnTypes.Known.{has_global, is_named}
use Rattle.item_build.proofs.OnTypes.Staying.{entry_named}
use Rattle.item_build.proofs.types.builder.Builder.add_address.Goals as goal

pub keep_entry-requires : goal.keep_entry-requires
keep_entry-requires c =
    let a = c.args.self.now.arena in
    let named = (c.lookup.ensures c.in-Some.global).0 c.in-Some.is in
    has_global a c.in-Some.global _ named

pub returns-clause-is : goal.returns-clause-is
returns-clause-is c =
    let a = c.args.self.now.arena in
    let named = (c.lookup.ensures c.in-Some.global).0 c.in-Some.is in
    subst (λ n. IfOk c.keep_entry.result (λ id. IsConstant c.keep_entry.new.self.arena id (m.Address n))) (is_named a c.in-Some.global _ named ∙ c.in_ok-name.ensures) c.keep_entry.ensures.is

pub unreachable-requires : goal.unreachable-requires
unreachable-requires c =
    let g = c.requires.0 in
    c.in_default.not-Some g ((c.lookup.ensures g).1 (entry_named c.args.self.now.arena g ∙ c.requires.1 ∙ ap Some (sym c.in_ok-name.ensures)))
