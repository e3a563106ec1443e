use Rattle.std.proofs.Common.{arith, refl}
use Rattle.std.proofs.lemmas.Result.{err_from_is_err_and}
use Rattle.ir_phrases.specs.Instructions.View.{block_view}
use Rattle.name_rules.specs.FunctionDemands.{block_demands, blocks_demands}
use Rattle.name_rules.specs.Locals.{announced_block}
use Rattle.type_judge.specs.Gathered.{known_of}
use Rattle.name_judge.specs.Locals.Names.{locals_of}
use Rattle.name_judge.proofs.OnLocals.Loops.{going_start, going_next, going_fails, going_end}
use Rattle.name_judge.proofs.locals.functions.check_blocks.Goals as goal

pub all_blocks-init : goal.all_blocks-init
all_blocks-init c = going_start block_view (block_demands (known_of c.args.known.now) (locals_of c.args.locals.now)) announced_block (blocks_demands (known_of c.args.known.now) (locals_of c.args.locals.now)) c.args.blocks.now _

pub all_blocks-preserved : goal.all_blocks-preserved
all_blocks-preserved c = going_next block_view (block_demands (known_of c.args.known.now) (locals_of c.args.locals.now)) announced_block (blocks_demands (known_of c.args.known.now) (locals_of c.args.locals.now)) c.args.blocks.now (λ b. refl) (λ b y ys. refl) c.all_blocks.block-index c.block-item.result (omega arith) c.block-item.is _ _ _ c.in_ok-check_block.ensures c.all_blocks.invariant

pub returns-in_err-check_block : goal.returns-in_err-check_block
returns-in_err-check_block c =
    let p = err_from_is_err_and c.from_residual.result c.from_residual.ensures.1 in
    rw (p.1, p.2) (going_fails block_view (block_demands (known_of c.args.known.now) (locals_of c.args.locals.now)) announced_block (blocks_demands (known_of c.args.known.now) (locals_of c.args.locals.now)) c.args.blocks.now (λ b. refl) (λ b y ys. refl) c.all_blocks.block-index c.block-item.result (omega arith) c.block-item.is _ _ _ _ _ _ c.in_err-check_block.ensures c.all_blocks.invariant)

pub returns : goal.returns
returns c = going_end block_view (block_demands (known_of c.args.known.now) (locals_of c.args.locals.now)) announced_block (blocks_demands (known_of c.args.known.now) (locals_of c.args.locals.now)) c.args.blocks.now (λ b. refl) (λ b y ys. refl) c.all_blocks.block-index (omega arith) _ _ c.all_blocks.invariant
