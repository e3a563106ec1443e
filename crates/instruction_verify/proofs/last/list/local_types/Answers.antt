use Rattle.std.proofs.Common.{◌<◌, List, All, Some, length, map, ap, sym, subst}
use Rattle.type_table.specs.Types.{Types, tree}
use Rattle.module_arena.specs.Lists.{function_blocks}
use Rattle.module_arena.specs.declared.entry.Parameter.{Parameter}
use Rattle.instruction_verify.specs.Last.Given.{HasBlock}
use Rattle.instruction_verify.proofs.OnLast.Behind.{grows_both, grows_from, grows_told}
use Rattle.instruction_verify.proofs.OnLast.NamesTold.{all_typed, blocks_typed}
use Rattle.instruction_verify.proofs.last.list.local_types.Goals as goal

pub add_parameters-requires : goal.add_parameters-requires
add_parameters-requires c =
    let ps = c.args.function.now.parameters in
    let known = subst (λ (t : Types). All (λ (p : Parameter). p.ty < length t.types) ps) (sym c.types-types.ensures) c.requires.parameters_known in
    subst (λ (qs : List Parameter). All (λ (p : Parameter). p.ty < length c.types-types.result.now.types) qs) (sym c.as_slice.ensures) known

pub add_body-requires : goal.add_body-requires
add_body-requires c =
    let a = c.args.judge.now in
    let f = c.args.function.now in
    subst (λ (t : Types). All (HasBlock t) (function_blocks f)) (sym c.types-types.ensures) (blocks_typed a.table (length a.constants) f c.requires)

pub returns : goal.returns
returns c =
    let t = c.types-types.result.now in
    let parameters = grows_told t (ap (λ (ps : List Parameter). map (λ (p : Parameter). Some (tree t p.ty)) ps) c.as_slice.ensures) c.in_ok-add_parameters.ensures in
    all_typed c.args.judge.now c.args.function.now c.requires t c.types-types.ensures (grows_from t c.clear.ensures.items (grows_both t parameters c.in_ok-add_body.ensures))
