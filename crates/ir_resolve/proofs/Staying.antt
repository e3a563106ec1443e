-- What was built stays while the arena grows.
use Rattle.std.proofs.Common.{◌≡◌, ℕ, ◌<◌, ◌≤◌, zero, suc, List, [], ◌∷◌, ◌++◌, length, get_or, refl, sym, ◌∙◌, subst, arith}
use Rattle.std.proofs.lemmas.List.{map-append}
use Rattle.std.proofs.lemmas.List.Elements.{All-push, All-weaker}
use Rattle.ir_phrases.specs.Instructions.Tree.{InstructionTree, EndingTree, BlockTree}
use Rattle.type_table.specs.Types.{structs, trees}
use Rattle.module_arena.specs.declared.instruction.Inst.{Inst}
use Rattle.module_arena.specs.declared.entry.Block as the_block
use Rattle.module_arena.specs.Lists.{Lists}
use Rattle.module_arena.specs.Known.{KnowsInst, KnowsBlock}
use Rattle.module_arena.specs.Module.{LocalName, Numbered, Instruction, Block}
use Rattle.module_arena.specs.View.{type_at, constant_at, constants_of, local_view, inst_view, block_view}
use Rattle.module_arena.proofs.Grown.{KnowsInst-grown, KnowsBlock-grown}
use Rattle.module_arena.proofs.SameView.{same-map, inst_view-same, block_view-same}
use Rattle.name_rules.specs.Bodies.{ending_in}
use Rattle.item_build.specs.Types.Holding.{entries}
use Rattle.item_build.specs.Types.Stands.{IsType, IsConstant, Grows}
use Rattle.item_build.proofs.OnTypes.Staying.{structs_stay, entries_stay}
use Rattle.item_build.specs.Buildable.Bodies.{CanInstruction, CanEnding, CanBlock}
use Rattle.ir_resolve.specs.InstructionBuild.Meant.{IsInst, IsEnding}
use Rattle.ir_resolve.specs.Built.{instructions_built, block_built, AreInsts, IsBlock, AreBlocks}

-- at least as many
no_fewer : (m n : ℕ) → ((k : ℕ) → k < m → k < n) → m ≤ n
no_fewer zero n h = omega arith
no_fewer (suc m) n h = let last = h m (omega arith) in omega (arith, last)

module _ (a b : Lists) (grows : Grows a b) where
  type_stays : (id : ℕ) → id < length a.table.types → IsType b id (type_at (trees a.table) id)
  type_stays id lt = grows.types id (type_at (trees a.table) id) (record { known = lt; tree = refl })

  constant_stays : (id : ℕ) → id < length a.constants → IsConstant b id (constant_at (constants_of a) id)
  constant_stays id lt = grows.constants id (constant_at (constants_of a) id) (record { known = lt; constant = refl })

  types_grow : length a.table.types ≤ length b.table.types
  types_grow = no_fewer (length a.table.types) (length b.table.types) (λ k lt. (type_stays k lt).known)

  constants_grow : length a.constants ≤ length b.constants
  constants_grow = no_fewer (length a.constants) (length b.constants) (λ k lt. (constant_stays k lt).known)

  module _ (values labels : List LocalName) where
    abbrev KnownInst : Inst → Type 0
    KnownInst = KnowsInst (length a.table.types) (length a.constants) (length values) (length labels)

    abbrev KnownBlock : the_block.Block → Type 0
    KnownBlock = KnowsBlock (length a.table.types) (length a.constants) (length values) (length labels)

    inst_known : (i : Inst) → KnownInst i → KnowsInst (length b.table.types) (length b.constants) (length values) (length labels) i
    inst_known i k = KnowsInst-grown (length a.table.types) (length b.table.types) types_grow (length a.constants) (length b.constants) constants_grow (length values) (length labels) i k

    inst_same : (i : Inst) → KnownInst i → inst_view (trees b.table) (constants_of b) values labels i ≡ inst_view (trees a.table) (constants_of a) values labels i
    inst_same i k = inst_view-same (trees a.table) (trees b.table) (length a.table.types) (λ id lt. (type_stays id lt).tree) (constants_of a) (constants_of b) (length a.constants) (λ id lt. (constant_stays id lt).constant) values labels (length values) (length labels) i k

    pub insts_stay : (is : List Inst) (expected : List Instruction) → AreInsts values labels a is expected → AreInsts values labels b is expected
    insts_stay is expected h = record {
      known = All-weaker KnownInst (KnowsInst (length b.table.types) (length b.constants) (length values) (length labels)) inst_known is h.known;
      instructions = same-map (inst_view (trees b.table) (constants_of b) values labels) (inst_view (trees a.table) (constants_of a) values labels) KnownInst inst_same is h.known ∙ h.instructions;
    }

    -- one instruction more
    pub insts_more : (is more : List Inst) (i : Inst) (expected : List Instruction) (one : Instruction) → more ≡ is ++ i ∷ []
        → AreInsts values labels a is expected → IsInst values labels b i one → AreInsts values labels b more (expected ++ one ∷ [])
    insts_more is more i expected one pushed h this =
        let old = insts_stay is expected h in
        subst (λ l. AreInsts values labels b l (expected ++ one ∷ [])) (sym pushed)
        (record {
          known = All-push (KnowsInst (length b.table.types) (length b.constants) (length values) (length labels)) is i old.known this.known;
          instructions = map-append (inst_view (trees b.table) (constants_of b) values labels) is (i ∷ []) ∙ (λ j. old.instructions j ++ this.instruction j ∷ []);
        })

    block_known : (x : the_block.Block) → KnownBlock x → KnowsBlock (length b.table.types) (length b.constants) (length values) (length labels) x
    block_known x k = KnowsBlock-grown (length a.table.types) (length b.table.types) types_grow (length a.constants) (length b.constants) constants_grow (length values) (length labels) x k

    block_same : (x : the_block.Block) → KnownBlock x → block_view (trees b.table) (constants_of b) values labels x ≡ block_view (trees a.table) (constants_of a) values labels x
    block_same x k = block_view-same (trees a.table) (trees b.table) (length a.table.types) (λ id lt. (type_stays id lt).tree) (constants_of a) (constants_of b) (length a.constants) (λ id lt. (constant_stays id lt).constant) values labels (length values) (length labels) x k

    blocks_stay : (bs : List the_block.Block) (expected : List Block) → AreBlocks values labels a bs expected → AreBlocks values labels b bs expected
    blocks_stay bs expected h = record {
      known = All-weaker KnownBlock (KnowsBlock (length b.table.types) (length b.constants) (length values) (length labels)) block_known bs h.known;
      blocks = same-map (block_view (trees b.table) (constants_of b) values labels) (block_view (trees a.table) (constants_of a) values labels) KnownBlock block_same bs h.known ∙ h.blocks;
    }

    -- one block more
    pub blocks_more : (bs more : List the_block.Block) (x : the_block.Block) (expected : List Block) (one : Block) → more ≡ bs ++ x ∷ []
        → AreBlocks values labels a bs expected → IsBlock values labels b x one → AreBlocks values labels b more (expected ++ one ∷ [])
    blocks_more bs more x expected one pushed h this =
        let old = blocks_stay bs expected h in
        subst (λ l. AreBlocks values labels b l (expected ++ one ∷ [])) (sym pushed)
        (record {
          known = All-push (KnowsBlock (length b.table.types) (length b.constants) (length values) (length labels)) bs x old.known this.known;
          blocks = map-append (block_view (trees b.table) (constants_of b) values labels) bs (x ∷ []) ∙ (λ j. old.blocks j ++ this.block j ∷ []);
        })

    -- ---- what can be built can still be built

    pub instruction_still : (i : InstructionTree) → CanInstruction (structs a.table) (entries a) values labels i → CanInstruction (structs b.table) (entries b) values labels i
    instruction_still i h = subst (λ ss. CanInstruction ss (entries b) values labels i) (sym (structs_stay a b grows)) (subst (λ e. CanInstruction (structs a.table) e values labels i) (sym (entries_stay a b grows)) h)

    pub ending_still : (e : EndingTree) → CanEnding (structs a.table) (entries a) values labels e → CanEnding (structs b.table) (entries b) values labels e
    ending_still e h = subst (λ ss. CanEnding ss (entries b) values labels e) (sym (structs_stay a b grows)) (subst (λ l. CanEnding (structs a.table) l values labels e) (sym (entries_stay a b grows)) h)

    pub block_still : (x : BlockTree) → CanBlock (structs a.table) (entries a) values labels x → CanBlock (structs b.table) (entries b) values labels x
    block_still x h = subst (λ ss. CanBlock ss (entries b) values labels x) (sym (structs_stay a b grows)) (subst (λ e. CanBlock (structs a.table) e values labels x) (sym (entries_stay a b grows)) h)

-- a block is what its parts are
pub block_is : (a : Lists) (values labels : List LocalName) (b : the_block.Block) (id first : ℕ) (written : BlockTree) → local_view b.name ≡ get_or labels id (Numbered 0)
    → AreInsts values labels a b.instructions (instructions_built values first written.instructions) → IsEnding values labels a b.end (ending_in written.ending) → IsBlock values labels a b (block_built values labels id first written)
block_is a values labels b id first written name are is = record {
  known = record { instructions_known = are.known; operands_known = is.operands_known; targets_known = is.targets_known };
  block = λ j. record { name = name j; instructions = are.instructions j; ending = is.ending j };
}
