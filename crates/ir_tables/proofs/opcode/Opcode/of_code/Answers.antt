use Rattle.std.proofs.Common.{ap}
use Rattle.ir_tables.specs.Table.{codes_of}
use Rattle.ir_tables.specs.Opcode.{opcode_of_code}
use Rattle.ir_tables.proofs.Tables.{place_below, absent, present}
use Rattle.ir_tables.proofs.OpcodeValues.{opcode_codes}
use Rattle.ir_tables.proofs.opcode.Opcode.of_code.Goals as goal

pub returns-in_err-place : goal.returns-in_err-place
unfolding opcode_of_code
returns-in_err-place c = let none = absent opcode_codes (ap codes_of c.table.ensures) c.in_err-place.ensures c.from_residual.ensures in record { exact = none.exact; value = none.value }

pub bounds-place : goal.bounds-place
bounds-place c = place_below opcode_codes (ap codes_of c.table.ensures) c.in_ok-place.ensures

pub returns : goal.returns
unfolding opcode_of_code
returns c = let found = present opcode_codes (ap codes_of c.table.ensures) c.in_ok-place.ensures in record { exact = (found _).exact; value = (found _).value }
