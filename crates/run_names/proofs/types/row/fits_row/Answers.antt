use Rattle.std.proofs.Common.{map, sym, ap, ◌∙◌}
use Rattle.std.specs.List.{list_any}
use Rattle.module_arena.specs.declared.host.HostRow.{HostRow}
use Rattle.module_arena.specs.HostRows.{fixed, host_types, integer_parameters, integer_returns}
use Rattle.run_rules.specs.Calls.{same_signature}
use Rattle.run_rules.specs.Look.{no_names}
use Rattle.run_rules.specs.Resolve.{signature_in}
use Rattle.run_names.specs.Types.Wanted.{written_as}
use Rattle.run_names.proofs.OnTypes.Asked.{by_forms, one_of_one}
use Rattle.run_names.proofs.types.row.fits_row.Goals as goal

pub returns-in-Integer : goal.returns-in-Integer
returns-in-Integer c =
    let used = written_as c.args.types.now c.args.returns c.args.parameters.now c.args.variadic in
    c.fits_integer.ensures
    ∙ one_of_one (same_signature used) (signature_in no_names (fixed (integer_returns c.in-Integer.which c.in-Integer.width) (integer_parameters c.in-Integer.which c.in-Integer.width)))
    ∙ ap (λ (row : HostRow). list_any (same_signature used) (map (signature_in no_names) (host_types row))) (sym c.in-Integer.is)

pub returns-in-Printf : goal.returns-in-Printf
returns-in-Printf c =
    let used = written_as c.args.types.now c.args.returns c.args.parameters.now c.args.variadic in
    c.fits_printf.ensures ∙ ap (λ (row : HostRow). list_any (same_signature used) (map (signature_in no_names) (host_types row))) (sym c.in-Printf.is)

pub returns-in_default : goal.returns-in_default
returns-in_default c = c.fits_fixed.ensures ∙ by_forms c.args.row (written_as c.args.types.now c.args.returns c.args.parameters.now c.args.variadic) c.in_default.not-Integer
