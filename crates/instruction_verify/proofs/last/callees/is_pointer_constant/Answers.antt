use Rattle.std.proofs.Common.{All, ◌<◌}
use Rattle.type_table.specs.Types.{Types}
use Rattle.module_arena.specs.Mentions.{types_in}
use Rattle.instruction_verify.specs.Last.ValuesById.{is_pointer_const}
use Rattle.module_arena.specs.Known.{IsGood}
use Rattle.module_arena.specs.Lists.{Lists}
use Rattle.std.proofs.Common.{◌≡◌, ◌∙◌, ap, sym, subst, length, slice_get, Some}
use Rattle.module_arena.proofs.ConstantsTold.{const_known}
use Rattle.instruction_verify.proofs.OnLast.CalleesTold.{is_pointer_told}
use Rattle.instruction_verify.proofs.last.callees.is_pointer_constant.Goals as goal

pub is_pointer_const-requires : goal.is_pointer_const-requires
is_pointer_const-requires c =
    subst (λ (t : Types). All (λ ty. ty < length t.types) (types_in c.constant.result.now)) (sym c.types.ensures) ((const_known c.args.judge.now (subst IsGood c.arena-arena.ensures c.variable_count-count.ensures.good) c.args.id c.constant.result.now (subst (λ (b : Lists). slice_get b.constants c.args.id ≡ Some c.constant.result.now) c.arena-arena.ensures c.constant.ensures)).types_known)

pub returns : goal.returns
returns c =
    let a = c.args.judge.now in
    c.is_pointer_const.ensures
    ∙ ap (λ (t : Types). is_pointer_const t c.constant.result.now) c.types.ensures
    ∙ is_pointer_told a (subst IsGood c.arena-arena.ensures c.variable_count-count.ensures.good) c.args.id c.constant.result.now (subst (λ (b : Lists). slice_get b.constants c.args.id ≡ Some c.constant.result.now) c.arena-arena.ensures c.constant.ensures)
