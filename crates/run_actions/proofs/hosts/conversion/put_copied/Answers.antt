use Rattle.std.proofs.Common.{◌++◌, ◌∙◌, List, ℕ, ap}
use Rattle.ir_printf.specs.Printed.{printed_bytes}
use Rattle.run_names.proofs.OnValues.Refusals.{if_fault}
use Rattle.run_actions.proofs.OnHosts.Put.{string_put, string_refused}
use Rattle.run_actions.proofs.hosts.conversion.put_copied.Goals as goal

pub returns-in_err-bytes-clause-why : goal.returns-in_err-bytes-clause-why
returns-in_err-bytes-clause-why c =
    if_fault c.from_residual.result _ _ c.from_residual.ensures.0 c.from_residual.ensures.1
    (string_refused c.args.memory.now c.args.conversion.now c.args.string c.in_err-bytes.field-0.0 c.in_err-bytes.ensures.why)

pub returns-clause-ok : goal.returns-clause-ok
returns-clause-ok c = (
  printed_bytes c.args.conversion.now c.in_ok-bytes.bytes.items,
  string_put c.args.memory.now c.args.conversion.now c.args.string c.in_ok-bytes.bytes.items c.in_ok-bytes.ensures.ok,
  c.in_ok-put_bytes.ensures.ok ∙ ap (λ (xs : List ℕ). c.args.written.now.items ++ printed_bytes c.args.conversion.now xs) c.as_slice.ensures.value,
)
