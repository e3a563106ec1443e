use Rattle.std.proofs.Common.{List, [], All, Option, flat_map, ap, sym, ◌∙◌, subst}
use Rattle.std.specs.Option.{option_map_or}
use Rattle.module_arena.specs.declared.entry.Block.{Block}
use Rattle.module_arena.specs.declared.entry.Body.{Body}
use Rattle.instruction_verify.specs.Last.Given.{HasBlock, given_in}
use Rattle.instruction_verify.proofs.OnLast.Behind.{grows_none, grows_told, grows_told_ok}
use Rattle.instruction_verify.proofs.last.list.add_body.Goals as goal

pub add_blocks-requires : goal.add_blocks-requires
add_blocks-requires c =
    let t = c.args.types.now in
    let known = subst (λ (o : Option Body). All (HasBlock t) (option_map_or (λ (b : Body). b.blocks) o [])) c.in-Some.is c.requires in
    subst (λ (bs : List Block). All (HasBlock t) bs) (sym c.as_slice.ensures) known

pub returns-in-Some : goal.returns-in-Some
returns-in-Some c =
    let t = c.args.types.now in
    let all = c.as_slice.ensures ∙ ap (λ (o : Option Body). option_map_or (λ (b : Body). b.blocks) o []) (sym c.in-Some.is) in
    grows_told_ok t _ _ _ _ c.add_blocks.result (ap (λ (bs : List Block). flat_map (given_in t) bs) all) c.add_blocks.ensures

pub returns-in-None : goal.returns-in-None
returns-in-None c =
    let t = c.args.types.now in
    grows_told t (ap (λ (o : Option Body). flat_map (given_in t) (option_map_or (λ (b : Body). b.blocks) o [])) (sym c.in-None.is)) (grows_none t _)
