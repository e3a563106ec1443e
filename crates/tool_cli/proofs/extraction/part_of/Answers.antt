use Rattle.module_arena.specs.View.{module_of}
use Rattle.tool_cli.proofs.Extracting.{taken_there, taken_part, taken_missing}
use Rattle.tool_cli.proofs.extraction.part_of.Goals as goal

pub returns-in-Ok-extract-clause-there : goal.returns-in-Ok-extract-clause-there
returns-in-Ok-extract-clause-there c = taken_there (module_of c.args.checked.now) _ _ c.in-Ok.ensures c.in-Ok-extract.ensures.there

pub returns-in-Ok-extract-clause-part : goal.returns-in-Ok-extract-clause-part
returns-in-Ok-extract-clause-part c = taken_part (module_of c.args.checked.now) _ _ _ c.in-Ok.ensures c.in-Ok-extract.ensures.part

pub returns-in-Err-NoSuchSymbol-clause-missing : goal.returns-in-Err-NoSuchSymbol-clause-missing
returns-in-Err-NoSuchSymbol-clause-missing c = taken_missing (module_of c.args.checked.now) _ _ c.in-Err-NoSuchSymbol.field-0 _ _ c.in-Ok.ensures c.in-Err-NoSuchSymbol.field-0-is c.in-Err-NoSuchSymbol.ensures.fault c.symbol_told.ensures.told
