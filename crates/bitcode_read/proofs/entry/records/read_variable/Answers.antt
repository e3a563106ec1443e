use Rattle.std.proofs.Common.{◌<◌, sym, ap, subst}
use Rattle.std.specs.Prelude.{nat_lt}
use Rattle.module_arena.specs.declared.entry.GlobalId.TheVariants as global
use Rattle.type_read.specs.declared.arena.module_reader.ModuleReader.{ModuleReader}
use Rattle.std.proofs.lemmas.Bool.{ltb-true}
use Rattle.std.proofs.lemmas.Result.{err_from_is_err_and}
use Rattle.type_read.proofs.Walks.{out_of_memory}
use Rattle.bitcode_read.proofs.OnEntry.Answered.{TellsAll, variable_err, variable_ok}
use Rattle.bitcode_read.proofs.entry.records.read_variable.Goals as goal

pub returns-in_err-fields-clause-reads : goal.returns-in_err-fields-clause-reads
returns-in_err-fields-clause-reads c = λ s operands front many follows told.
    let p = err_from_is_err_and c.from_residual.result c.from_residual.ensures.1 in
    rw p.1 (out_of_memory _ _ p.0 p.2)

pub returns-in_err-end_record-clause-reads : goal.returns-in_err-end_record-clause-reads
returns-in_err-end_record-clause-reads c = λ s operands front many follows told.
    let p = err_from_is_err_and c.from_residual-in_err-end_record.result c.from_residual-in_err-end_record.ensures.1 in
    let tells = subst (λ n. TellsAll c.read_fields.new.m c.in_ok-fields.fields.name (global.Variable n) (nat_lt c.args.number 262144) c.args.in_order c.end_record.result) c.new.ensures c.end_record.ensures.told in
    rw (p.1, p.2)
    (variable_err _ c.args.m.now c.read_fields.new.m c.in_ok-fields.fields c.args.number c.args.in_order c.end_record.result c.in_ok-fields.ensures tells s operands front many follows told _ _ c.in_err-end_record.was)

pub returns-clause-reads : goal.returns-clause-reads
returns-clause-reads c = λ s operands front many follows told.
    let tells = subst (λ n. TellsAll c.read_fields.new.m c.in_ok-fields.fields.name (global.Variable n) (nat_lt c.args.number 262144) c.args.in_order c.end_record.result) c.new.ensures c.end_record.ensures.told in
    variable_ok _ c.args.m.now c.read_fields.new.m c.in_ok-fields.fields c.args.number c.args.in_order c.end_record.result c.in_ok-fields.ensures tells s operands front many follows told c.end_record.new.m c.known.result c.end_record.ensures.ends c.in_ok-end_record.was c.known.ensures

pub returns-clause-few : goal.returns-clause-few
returns-clause-few c = ltb-true c.args.number 262144 c.in_ok-end_record.ensures.few

pub end_record-requires : goal.end_record-requires
end_record-requires c = subst (λ n. 0 < n) (sym (ap (λ (x : ModuleReader). x.reader.at) c.in_ok-fields.ensures.initialiser.goes.rest)) c.requires
