use Rattle.std.proofs.Common.{ap, refl, ◌∙◌, Some, bytes_eq, cond}
use Rattle.std.proofs.lemmas.Result.{on_ok_weaker}
use Rattle.type_table.specs.Names.Entries.{value_of}
use Rattle.name_judge.proofs.OnLocals.Named.{named_brings}
use Rattle.name_judge.proofs.locals.kind_names.KindNames.put_name.Goals as goal

pub returns : goal.returns
returns c =
    let old = c.args.self.now in
    let name = c.args.name.now in
    on_ok_weaker c.put.result
    (λ put. named_brings _ _ name.name name.place refl refl (λ other. put other ∙ ap (λ key. cond (bytes_eq other key) (Some name.place) (value_of old.named other)) c.bytes.ensures.bytes))
    c.put.ensures.put
