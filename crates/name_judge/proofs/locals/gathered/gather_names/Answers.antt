use Rattle.std.proofs.lemmas.Result.{on_ok_weaker}
use Rattle.name_judge.proofs.OnLocals.Named.{announces_all, announces_both}
use Rattle.name_judge.proofs.locals.gathered.gather_names.Goals as goal

pub returns : goal.returns
returns c =
    on_ok_weaker c.add_blocks.result (λ added. announces_all _ _ _ c.clear.ensures.names c.clear.ensures.next (announces_both _ _ _ _ _ c.in_ok-add_parameters.ensures added)) c.add_blocks.ensures
