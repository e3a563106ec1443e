use Rattle.std.proofs.Common.{subst, true≢false}
use Rattle.module_arena.specs.declared.entry.GlobalId.TheVariants as global
use Rattle.module_linker.specs.Filling.Filling.{IsBareEntry}
use Rattle.module_linker.specs.Filling.Standing.{IsPlainId}
use Rattle.module_linker.proofs.OnFilling.Defining.{three_ok}
use Rattle.module_linker.proofs.OnFilling.Homes.{IsOfKind}
use Rattle.module_linker.proofs.OnFilling.NextSymbol.{alias_done, function_done, next_bare, next_group, next_kind, next_known, next_name, next_untargeted}
use Rattle.module_linker.proofs.OnFilling.Within.{alias_within, function_within}
use Rattle.module_linker.proofs.filling.filling.define_in.Goals as goal

pub unreachable-requires : goal.unreachable-requires
unreachable-requires c = true≢false (subst IsPlainId c.in-Variable.is c.requires.plain)

pub define-requires-clause-function : goal.define-requires-clause-function
define-requires-clause-function c =
    let d = c.requires.next in
    subst (λ i. IsOfKind i c.args.home.kind) c.in-Function.is (next_kind d.0 d.1 d.2 c.args.home c.args.id c.args.arena.now c.args.into.now.arena c.args.copier.now d.3)

pub define-requires-clause-number : goal.define-requires-clause-number
define-requires-clause-number c =
    let d = c.requires.next in
    let h = d.3 in
    let home = c.args.home in
    let a = c.args.arena.now in
    let b = c.args.into.now.arena in
    let t = c.args.copier.now in
    function_within d.0 home a (next_known d.0 d.1 d.2 home c.args.id a b t h) h.there (subst (λ i. IsOfKind i home.kind) c.in-Function.is (next_kind d.0 d.1 d.2 home c.args.id a b t h))

pub define-requires-clause-declared : goal.define-requires-clause-declared
define-requires-clause-declared c =
    let d = c.requires.next in
    let h = d.3 in
    let home = c.args.home in
    let a = c.args.arena.now in
    let b = c.args.into.now.arena in
    let t = c.args.copier.now in
    let group = next_group d.0 d.1 d.2 home c.args.id a b t h in
    let name = next_name d.0 d.1 d.2 home c.args.id a b t h in
    (d.0, d.1, group, name, subst (IsBareEntry d.0 d.1 home group name a b t) c.in-Function.is (next_bare d.0 d.1 d.2 home c.args.id a b t h))

pub returns-in-Function : goal.returns-in-Function
returns-in-Function c = λ parts tables number h.
    let home = c.args.home in
    let a = c.args.arena.now in
    let b = c.args.into.now.arena in
    let t = c.args.copier.now in
    let group = next_group parts tables number home c.args.id a b t h in
    let name = next_name parts tables number home c.args.id a b t h in
    let bare = subst (IsBareEntry parts tables home group name a b t) c.in-Function.is (next_bare parts tables number home c.args.id a b t h) in
    three_ok c.define.result
    (λ made keeps aliases. function_done parts tables number home c.args.id a b t h c.define.new.into.arena (global.Function c.in-Function.id) c.in-Function.is made keeps aliases)
    (c.define.ensures.module parts tables group name bare) c.define.ensures.keeps c.define.ensures.aliases

pub target-requires-clause-alias : goal.target-requires-clause-alias
target-requires-clause-alias c =
    let d = c.requires.next in
    subst (λ i. IsOfKind i c.args.home.kind) c.in-Alias.is (next_kind d.0 d.1 d.2 c.args.home c.args.id c.args.arena.now c.args.into.now.arena c.args.copier.now d.3)

pub target-requires-clause-number : goal.target-requires-clause-number
target-requires-clause-number c =
    let d = c.requires.next in
    let h = d.3 in
    let home = c.args.home in
    let a = c.args.arena.now in
    let b = c.args.into.now.arena in
    let t = c.args.copier.now in
    alias_within d.0 home a (next_known d.0 d.1 d.2 home c.args.id a b t h) h.there (subst (λ i. IsOfKind i home.kind) c.in-Alias.is (next_kind d.0 d.1 d.2 home c.args.id a b t h))

pub target-requires-clause-untargeted : goal.target-requires-clause-untargeted
target-requires-clause-untargeted c =
    let d = c.requires.next in
    next_untargeted d.0 d.1 d.2 c.args.home c.args.id c.args.arena.now c.args.into.now.arena c.args.copier.now d.3 c.in-Alias.id c.in-Alias.is

pub target-requires-clause-declared : goal.target-requires-clause-declared
target-requires-clause-declared c =
    let d = c.requires.next in
    let h = d.3 in
    let home = c.args.home in
    let a = c.args.arena.now in
    let b = c.args.into.now.arena in
    let t = c.args.copier.now in
    let group = next_group d.0 d.1 d.2 home c.args.id a b t h in
    let name = next_name d.0 d.1 d.2 home c.args.id a b t h in
    (d.0, d.1, group, name, subst (IsBareEntry d.0 d.1 home group name a b t) c.in-Alias.is (next_bare d.0 d.1 d.2 home c.args.id a b t h))

pub returns-in-Alias : goal.returns-in-Alias
returns-in-Alias c = λ parts tables number h.
    let home = c.args.home in
    let a = c.args.arena.now in
    let b = c.args.into.now.arena in
    let t = c.args.copier.now in
    let group = next_group parts tables number home c.args.id a b t h in
    let name = next_name parts tables number home c.args.id a b t h in
    let bare = subst (IsBareEntry parts tables home group name a b t) c.in-Alias.is (next_bare parts tables number home c.args.id a b t h) in
    alias_done parts tables number home c.args.id a b t h c.target.new.into.arena (global.Alias c.in-Alias.id) c.in-Alias.is (c.target.ensures.module parts tables group name bare) c.target.ensures.keeps
    c.in-Alias.id c.in-Alias.is c.target.ensures.untargeted
