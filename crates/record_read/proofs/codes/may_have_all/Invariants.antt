use Rattle.std.proofs.Common.{◌≡◌, ◌||◌, not, drop}
use Rattle.std.specs.List.{list_all}
use Rattle.ir_tables.specs.Flags.{has_flag}
use Rattle.module_arena.specs.Forms.{may_have}
use Rattle.record_read.proofs.codes.may_have_all.Given as goal

abbrev pub invariant-flags : goal.invariant-flags
invariant-flags l = list_all (λ f. not (has_flag l.set f) || may_have l.opcode f) (drop l.flag-index l.flags) ≡ list_all (λ f. not (has_flag l.set f) || may_have l.opcode f) l.flags
