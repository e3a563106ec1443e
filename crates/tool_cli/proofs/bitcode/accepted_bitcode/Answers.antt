use Rattle.std.proofs.Common.{sym}
use Rattle.tool_cli.proofs.Spelled.{bitcode_refused, spelled_refused}
use Rattle.tool_cli.proofs.bitcode.accepted_bitcode.Goals as goal

pub returns-in-Err-clause-refused : goal.returns-in-Err-clause-refused
returns-in-Err-clause-refused c = bitcode_refused c.args.name.now c.args.bytes.now c.in-Err.fault c.bitcode_told.result c.in-Err.ensures.told c.bitcode_told.ensures.told

pub returns-in-Err-verify-clause-refused : goal.returns-in-Err-verify-clause-refused
returns-in-Err-verify-clause-refused c = spelled_refused c.args.name.now c.args.bytes.now _ c.in-Err-verify.fault c.verdict_told.result c.in-Ok.ensures.spelled c.in-Err-verify.ensures.verdict c.verdict_told.ensures.told

pub returns-in-Ok-verify-clause-module : goal.returns-in-Ok-verify-clause-module
returns-in-Ok-verify-clause-module c =
    rw c.in-Ok-verify.ensures.same (record { spelled = c.in-Ok.ensures.spelled; sized = c.in-Ok-verify.ensures.verdict.0; valid = c.in-Ok-verify.ensures.verdict.1 })

pub returns-in-Ok-verify-clause-one : goal.returns-in-Ok-verify-clause-one
returns-in-Ok-verify-clause-one c = rw c.in-Ok-verify.ensures.same (λ m spells. sym (c.in-Ok.ensures.alone m spells))

pub verify-requires : goal.verify-requires
verify-requires c = c.in-Ok.ensures.well_formed
