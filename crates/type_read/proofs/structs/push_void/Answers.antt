use Rattle.std.proofs.Common.{◌++◌, sym, ap, ◌∙◌}
use Rattle.std.proofs.lemmas.List.{append-nil}
use Rattle.type_read.specs.Listed.{void_by}
use Rattle.type_read.proofs.structs.push_void.Goals as goal

pub returns-in-None : goal.returns-in-None
returns-in-None c = sym (append-nil c.args.voids.now.items) ∙ ap (λ k. c.args.voids.now.items ++ void_by k) c.in-None.ensures
