use Rattle.std.proofs.Common.{refl, sym, subst}
use Rattle.bitcode_read.specs.Entry.Entries.{AsksNew}
use Rattle.bitcode_read.proofs.entry.ending.ask_new.Goals as goal

pub returns-in-Some : goal.returns-in-Some
returns-in-Some c = subst (λ n. AsksNew c.args.m.now n c.args.own c.ask_name.new.m) (sym c.in-Some.is) c.ask_name.ensures

pub returns-in-None : goal.returns-in-None
returns-in-None c = subst (λ n. AsksNew c.args.m.now n c.args.own c.args.m.now) (sym c.in-None.is) refl
