use Rattle.std.proofs.Common.{◌+◌, false, length, refl, subst, arith}
use Rattle.ir_memory.specs.declared.kind.BlockKind.TheVariants as kind
use Rattle.ir_run.specs.Arguments.{MakesBlock}
use Rattle.ir_run.proofs.Blocks.{made_known, made_within}
use Rattle.ir_run.proofs.Words.{bytes_below, string_full, string_placed, string_stored}
use Rattle.ir_run.proofs.arguments.place_string.Goals as goal

pub add_block-requires-clause-align : goal.add_block-requires-clause-align
add_block-requires-clause-align c = (0, omega arith, refl)

pub fill_string-requires : goal.fill_string-requires
fill_string-requires c =
    let has = subst (λ o. MakesBlock (length c.args.bytes.now + 1) 1 o c.args.memory.now c.add_block.new.memory) c.in-Some.is c.in_ok-block.ensures.made in
    let room = made_within (length c.args.bytes.now + 1) 1 (kind.Variable false) c.args.memory.now c.add_block.new.memory has.0 in
    record {
      ends = omega (arith, room);
      block = made_known (length c.args.bytes.now + 1) 1 (kind.Variable false) c.args.memory.now c.add_block.new.memory has.0 c.in-Some.block has.1;
      well =
          string_stored c.args.bytes.now (length c.args.bytes.now + 1) c.args.memory.now c.add_block.new.memory c.in-Some.block (bytes_below c.args.bytes.now (λ i. omega (arith, c.type_inv.bytes i))) c.requires.unsealed c.requires.next
          refl has.0 has.1;
    }

pub returns-in_default-clause-made : goal.returns-in_default-clause-made
returns-in_default-clause-made c =
    string_full c.args.bytes.now (length c.args.bytes.now + 1) c.args.memory.now refl
    (subst (λ o. MakesBlock (length c.args.bytes.now + 1) 1 o c.args.memory.now c.add_block.new.memory) c.in_default.is c.in_ok-block.ensures.made)

pub returns-clause-made : goal.returns-clause-made
returns-clause-made c =
    let has = subst (λ o. MakesBlock (length c.args.bytes.now + 1) 1 o c.args.memory.now c.add_block.new.memory) c.in-Some.is c.in_ok-block.ensures.made in
    string_placed c.args.bytes.now (length c.args.bytes.now + 1) c.args.memory.now c.add_block.new.memory c.fill_string.new.memory c.in-Some.block (bytes_below c.args.bytes.now (λ i. omega (arith, c.type_inv.bytes i))) c.requires.unsealed c.requires.next
    refl has.0 has.1 c.in_ok-fill_string.ensures.put c.fill_string.ensures.kept
