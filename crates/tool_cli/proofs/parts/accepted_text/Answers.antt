use Rattle.ir_resolve.proofs.OnReadsNarrow.Items.{are_narrow}
use Rattle.tool_cli.proofs.Verdicts.{refused_so, only_module}
use Rattle.tool_cli.proofs.parts.accepted_text.Goals as goal

pub resolve-requires-clause-narrow : goal.resolve-requires-clause-narrow
resolve-requires-clause-narrow c = are_narrow c.args.text _ c.in-Ok.ensures.items

pub verify-requires : goal.verify-requires
verify-requires c = c.in-Ok-resolve.ensures.well_formed c.args.text c.items_of.ensures.bytes c.in-Ok.ensures.items

pub returns-in-Err-verify-clause-refused : goal.returns-in-Err-verify-clause-refused
returns-in-Err-verify-clause-refused c = refused_so c.args.name.now c.args.text _ _ c.in-Err-verify.fault c.verdict_told.result c.in-Ok.ensures.items c.in-Ok-resolve.ensures.joined c.in-Err-verify.ensures.verdict c.verdict_told.ensures.told

pub returns-in-Ok-verify-clause-one : goal.returns-in-Ok-verify-clause-one
returns-in-Ok-verify-clause-one c = rw c.in-Ok-verify.ensures.same (only_module c.args.text _ _ c.in-Ok.ensures.one c.in-Ok-resolve.ensures.joined)
