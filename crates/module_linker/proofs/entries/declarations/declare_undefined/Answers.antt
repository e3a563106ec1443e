use Rattle.std.proofs.Common.{IfOk, sym, subst, ◌∙◌}
use Rattle.std.proofs.lemmas.Bool.{false≢true}
use Rattle.module_linker.specs.Entries.Definitions.{declared_as}
use Rattle.module_linker.specs.Entries.Room.{HasRoom}
use Rattle.module_linker.specs.Entries.Step.{IsDeclared}
use Rattle.module_linker.proofs.OnEntries.Written.{kind_alias}
use Rattle.module_linker.proofs.entries.declarations.declare_undefined.Goals as goal

pub declare_variable-requires-clause-room : goal.declare_variable-requires-clause-room
declare_variable-requires-clause-room c = subst (λ l. HasRoom c.args.into.now.arena (declared_as c.args.parts.now l c.args.first c.args.name.now)) (sym c.declared_linkage-linkage.ensures) c.requires.room

pub declare_function-requires-clause-room : goal.declare_function-requires-clause-room
declare_function-requires-clause-room c = subst (λ l. HasRoom c.args.into.now.arena (declared_as c.args.parts.now l c.args.first c.args.name.now)) (sym c.declared_linkage-linkage.ensures) c.requires.room

pub returns-in-Variable : goal.returns-in-Variable
returns-in-Variable c =
    subst (λ l. IfOk c.declare_variable.result (IsDeclared c.args.parts.now c.args.into.now.arena c.declare_variable.new.into.arena c.args.copiers.now (declared_as c.args.parts.now l c.args.first c.args.name.now)))
    c.declared_linkage-linkage.ensures c.declare_variable.ensures

pub returns-in-Function : goal.returns-in-Function
returns-in-Function c =
    subst (λ l. IfOk c.declare_function.result (IsDeclared c.args.parts.now c.args.into.now.arena c.declare_function.new.into.arena c.args.copiers.now (declared_as c.args.parts.now l c.args.first c.args.name.now)))
    c.declared_linkage-linkage.ensures c.declare_function.ensures

pub unreachable-requires : goal.unreachable-requires
unreachable-requires c = absurd (false≢true (sym c.requires.plain ∙ kind_alias c.args.parts.now c.args.first c.requires.entry c.in-Alias.is))
