use Rattle.std.proofs.Common.{map, sym, ◌∙◌}
use Rattle.std.proofs.lemmas.List.{length-map}
use Rattle.type_table.specs.Types.{tree, trees}
use Rattle.module_arena.specs.declared.constant.TypedConst.{TypedConst}
use Rattle.entry_verify.proofs.OnConstants.PartsTold.{other_count}
use Rattle.entry_verify.proofs.constants.fits.have_types.Goals as goal

pub returns-then-wanted-parts : goal.returns-then-wanted-parts
returns-then-wanted-parts c =
    let f = λ (x : TypedConst). tree c.args.types.now x.ty in
    sym (other_count (trees c.args.types.now) c.args.wanted.now (map f c.args.parts.now) (λ e. c.if-wanted-parts.true (e ∙ length-map c.args.parts.now f)))
