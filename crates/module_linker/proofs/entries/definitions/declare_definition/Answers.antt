use Rattle.module_linker.proofs.entries.definitions.declare_definition.Goals as goal

pub declare_function-requires-clause-room : goal.declare_function-requires-clause-room
declare_function-requires-clause-room c = (c.args.ids.now, c.requires.room)

pub declare_alias-requires-clause-room : goal.declare_alias-requires-clause-room
declare_alias-requires-clause-room c = (c.args.ids.now, c.requires.room)

pub returns-in-Function : goal.returns-in-Function
returns-in-Function c = c.declare_function.ensures c.args.ids.now

pub returns-in-Alias : goal.returns-in-Alias
returns-in-Alias c = c.declare_alias.ensures c.args.ids.now
