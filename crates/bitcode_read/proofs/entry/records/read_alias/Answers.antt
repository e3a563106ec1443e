use Rattle.std.proofs.Common.{◌+◌, ◌<◌, suc, sym, ap, subst, ◌∙◌, arith}
use Rattle.std.specs.Prelude.{nat_le}
use Rattle.module_arena.specs.declared.entry.GlobalId.TheVariants as global
use Rattle.record_read.specs.Reader.{Reader}
use Rattle.type_read.specs.declared.arena.module_reader.ModuleReader.{ModuleReader}
use Rattle.std.proofs.lemmas.Bool.{leb-true}
use Rattle.std.proofs.lemmas.Result.{err_from_is_err_and}
use Rattle.type_read.proofs.Walks.{out_of_memory}
use Rattle.bitcode_read.proofs.OnEntry.Answered.{TellsAll, alias_err, alias_ok}
use Rattle.bitcode_read.proofs.entry.records.read_alias.Goals as goal

pub returns-in_err-front-clause-reads : goal.returns-in_err-front-clause-reads
returns-in_err-front-clause-reads c = λ s operands front many behind follows told.
    let p = err_from_is_err_and c.from_residual.result c.from_residual.ensures.1 in
    rw p.1 (out_of_memory _ _ p.0 p.2)

pub returns-in_err-end_record-clause-reads : goal.returns-in_err-end_record-clause-reads
returns-in_err-end_record-clause-reads c = λ s operands front many behind follows told.
    let p = err_from_is_err_and c.from_residual-in_err-end_record.result c.from_residual-in_err-end_record.ensures.1 in
    let few = subst (λ f. TellsAll c.read_target-target.new.m c.in_ok-front.front.name (global.Alias c.new.result) f c.args.in_order c.end_record.result) c.are_few.ensures c.end_record.ensures.told in
    let tells = subst (λ n. TellsAll c.read_target-target.new.m c.in_ok-front.front.name (global.Alias n) (nat_le (suc c.args.number + c.args.others) 262144) c.args.in_order c.end_record.result) c.new.ensures few in
    rw (p.1, p.2)
    (alias_err _ c.args.m.now c.read_alias_front.new.reader c.type_count-types.result c.in_ok-front.front c.read_target-target.new.m c.read_target-target.result c.args.number c.args.others c.args.in_order c.end_record.result c.type_count-types.ensures.listed c.type_count-types.ensures.there c.in_ok-front.ensures
    c.read_target-target.ensures.takes c.read_target-target.ensures.there c.read_target-target.ensures.reads tells s operands front many behind follows told _ _ c.in_err-end_record.was)

pub returns-clause-reads : goal.returns-clause-reads
returns-clause-reads c = λ s operands front many behind follows told.
    let few = subst (λ f. TellsAll c.read_target-target.new.m c.in_ok-front.front.name (global.Alias c.new.result) f c.args.in_order c.end_record.result) c.are_few.ensures c.end_record.ensures.told in
    let tells = subst (λ n. TellsAll c.read_target-target.new.m c.in_ok-front.front.name (global.Alias n) (nat_le (suc c.args.number + c.args.others) 262144) c.args.in_order c.end_record.result) c.new.ensures few in
    alias_ok _ c.args.m.now c.read_alias_front.new.reader c.type_count-types.result c.in_ok-front.front c.read_target-target.new.m c.read_target-target.result c.args.number c.args.others c.args.in_order c.end_record.result c.type_count-types.ensures.listed c.type_count-types.ensures.there c.in_ok-front.ensures
    c.read_target-target.ensures.takes c.read_target-target.ensures.there c.read_target-target.ensures.reads tells s operands front many behind follows told c.end_record.new.m c.end_record.ensures.ends c.in_ok-end_record.was

pub returns-clause-few : goal.returns-clause-few
returns-clause-few c =
    let le = leb-true (suc c.args.number + c.args.others) 262144 (sym c.are_few.ensures ∙ c.in_ok-end_record.ensures.few) in
    omega (arith, le)

pub end_record-requires : goal.end_record-requires
end_record-requires c =
    subst (λ n. 0 < n) (sym (ap (λ (x : ModuleReader). x.reader.at) c.read_target-target.ensures.takes.rest ∙ ap (λ (r : Reader). r.at) c.in_ok-front.ensures.reader)) c.requires
