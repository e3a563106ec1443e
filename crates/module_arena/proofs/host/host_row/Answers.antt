use Rattle.std.proofs.Common.{sym, ap, ◌∙◌}
use Rattle.ir_tables.specs.Intrinsic.{intrinsics}
use Rattle.module_arena.specs.HostRows.{first_row, row_among, host_row}
use Rattle.module_arena.proofs.IntegerNames.{integer_of, integer_told}
use Rattle.module_arena.proofs.host.host_row.Goals as goal

pub returns-in-Some : goal.returns-in-Some
unfolding host_row
returns-in-Some c = ap (λ o. first_row o (row_among c.args.name.now intrinsics)) c.in-Some.ensures

pub returns-in-Some-of_name : goal.returns-in-Some-of_name
unfolding host_row
returns-in-Some-of_name c =
    ap integer_of (sym c.in-Some-of_name.is)
    ∙ integer_told c.args.name.now c.of_name.result c.of_name.ensures
    ∙ ap (λ o. first_row o (row_among c.args.name.now intrinsics)) c.in_default.ensures

pub returns-in-None : goal.returns-in-None
unfolding host_row
returns-in-None c =
    ap integer_of (sym c.in-None.is)
    ∙ integer_told c.args.name.now c.of_name.result c.of_name.ensures
    ∙ ap (λ o. first_row o (row_among c.args.name.now intrinsics)) c.in_default.ensures
