-- For `modules_are_spelled_alone`: the law of records.
use Rattle.std.specs.Prelude.{◌<◌, ◌/◌, length}
use Rattle.bit_stream.specs.declared.item.TheConstants.{WORDS_LIMIT}
use Rattle.module_arena.specs.Module.{Module}
use Rattle.module_arena.specs.Valid.{IsValid}
use Rattle.module_arena.specs.WellFormed.{IsWellFormed}
use Rattle.record_table.specs.Spelling.{spelling, IsSpelledAlone}

-- what is written of a well-formed and valid module spells it and no other, where it has no more words than a block may have
abbrev pub ModulesAreSpelledAlone : Type 0
ModulesAreSpelledAlone = (m : Module) → IsWellFormed m → IsValid m → length (spelling m) / 4 < WORDS_LIMIT → IsSpelledAlone m
