use Rattle.std.proofs.Common.{◌≡◌, true, refl}
use Rattle.bitcode_read.proofs.OnEntry.Ended.{ends_few, ends_given, ends_record, ends_told, on_ok}
use Rattle.bitcode_read.proofs.entry.ending.end_record.Goals as goal

pub finish-requires : goal.finish-requires
finish-requires c = ends_given c.args.m.now c.ask_new.new.m c.args.name.now c.args.own c.also.new.self c.also-2.new.self c.args.are_few c.args.in_order c.ask_new.ensures c.also.ensures c.also-2.ensures c.requires

pub returns-clause-ends : goal.returns-clause-ends
returns-clause-ends c = ends_record c.args.m.now c.ask_new.new.m c.args.name.now c.args.own c.also.new.self c.also-2.new.self c.args.are_few c.args.in_order c.ask_new.ensures c.also.ensures c.also-2.ensures c.finish.new.self _ refl c.finish.ensures.left c.finish.ensures.spent c.finish.ensures.at

pub returns-clause-few : goal.returns-clause-few
returns-clause-few c = on_ok (c.args.are_few ≡ true) c.finish.result (ends_few c.args.m.now c.ask_new.new.m c.args.name.now c.args.own c.also.new.self c.also-2.new.self c.args.are_few c.args.in_order c.ask_new.ensures c.also.ensures c.also-2.ensures c.finish.result c.finish.ensures.told)

pub returns-clause-told : goal.returns-clause-told
returns-clause-told c = λ s value t n. ends_told c.args.m.now c.ask_new.new.m c.args.name.now c.args.own c.also.new.self c.also-2.new.self c.args.are_few c.args.in_order c.ask_new.ensures c.also.ensures c.also-2.ensures c.finish.result c.finish.ensures.told s value t n
