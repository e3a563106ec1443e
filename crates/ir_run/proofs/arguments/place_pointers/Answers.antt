use Rattle.std.proofs.Common.{◌+◌, ◌*◌, false, length, refl, subst, arith}
use Rattle.ir_memory.specs.declared.kind.BlockKind.TheVariants as kind
use Rattle.ir_run.specs.Arguments.{MakesBlock}
use Rattle.ir_run.proofs.Blocks.{known_behind, made_known}
use Rattle.ir_run.proofs.Rows.{pointers_full, pointers_placed, pointers_stored}
use Rattle.ir_run.proofs.arguments.place_pointers.Goals as goal

pub add_block-requires-clause-align : goal.add_block-requires-clause-align
add_block-requires-clause-align c = (3, omega arith, refl)

pub fill_row-requires : goal.fill_row-requires
fill_row-requires c =
    let ps = c.args.pointers.now in
    let size = 8 * (length ps + 1) in
    let m = c.args.memory.now in
    let o = c.add_block.new.memory in
    let has = subst (λ x. MakesBlock size 8 x m o) c.in-Some.is c.in_ok-block.ensures.made in
    record {
      few = c.requires.few;
      block = made_known size 8 (kind.Variable false) m o has.0 c.in-Some.block has.1;
      known = known_behind size 8 m o ps has.0 c.requires.known;
      well = pointers_stored ps size m o c.in-Some.block (known_behind size 8 m o ps has.0 c.requires.known) c.requires.unsealed c.requires.next c.requires.few refl has.0 has.1;
    }

pub returns-in_default : goal.returns-in_default
returns-in_default c =
    let size = 8 * (length c.args.pointers.now + 1) in
    pointers_full c.args.pointers.now size c.args.memory.now refl
    (subst (λ x. MakesBlock size 8 x c.args.memory.now c.add_block.new.memory) c.in_default.is c.in_ok-block.ensures.made)

pub returns : goal.returns
returns c =
    let size = 8 * (length c.args.pointers.now + 1) in
    let m = c.args.memory.now in
    let o = c.add_block.new.memory in
    let has = subst (λ x. MakesBlock size 8 x m o) c.in-Some.is c.in_ok-block.ensures.made in
    pointers_placed c.args.pointers.now size m o c.fill_row.new.memory c.in-Some.block refl has.0 has.1 c.in_ok-fill_row.ensures.put c.fill_row.ensures.kept
