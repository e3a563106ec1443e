use Rattle.ir_terminals.proofs.Classes.{nothing_else}
use Rattle.ir_terminals.proofs.terminal.Terminal.listed_code.Goals as goal

pub unreachable-requires : goal.unreachable-requires
unreachable-requires c = nothing_else c.args.self c.requires c.in_default.not-Linkage c.in_default.not-GlobalDropped c.in_default.not-UnnamedAddress c.in_default.not-CallingConvention c.in_default.not-ParameterDropped c.in_default.not-AttributeDropped c.in_default.not-FunctionDropped c.in_default.not-ParameterDroppedList c.in_default.not-FunctionDroppedList c.in_default.not-UnwindTable c.in_default.not-TailMark c.in_default.not-True c.in_default.not-False c.in_default.not-Null c.in_default.not-Undef c.in_default.not-Poison c.in_default.not-ZeroInitializer c.in_default.not-Flag c.in_default.not-Predicate c.in_default.not-Alias c.in_default.not-Opcode
