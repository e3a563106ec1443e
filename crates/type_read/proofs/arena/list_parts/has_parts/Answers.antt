use Rattle.std.proofs.Common.{ap, ◌∙◌}
use Rattle.std.specs.Prelude.{nat_eq}
use Rattle.type_read.specs.Arena.ListParts.{parts_at}
use Rattle.type_read.proofs.OnArena.Parts.{many_these}
use Rattle.type_read.proofs.arena.list_parts.has_parts.Goals as goal

pub returns-in-These : goal.returns-in-These
returns-in-These c =
    ap (λ n. nat_eq n c.args.count) c.len.ensures
    ∙ many_these c.args.types.now _ c.in-These.fields.now (parts_at c.args.types.now c.args.ty) c.args.count c.in-These.ensures
