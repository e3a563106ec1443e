use Rattle.std.proofs.Common.{refl}
use Rattle.type_judge.proofs.NamesGathered.{globals_more}
use Rattle.type_judge.proofs.known.GlobalNames.add.Goals as goal

pub returns : goal.returns
returns c names are = globals_more c.args.self.now _ names c.args.name.now.name c.bytes.result _ c.bytes.ensures.bytes are c.in_ok-is_new.ensures.added refl c.in_ok-is_new.ensures.keys
