-- The bodies that the code writes have known ids.
use Rattle.std.proofs.Common.{◌≡◌, ℕ, ◌+◌, ◌^◌, ◌<◌, List, [], ◌∷◌, length, All, sym, ap, ◌∙◌, subst, arith, lit<}
use Rattle.std.specs.Prelude.{⊤, flat_map}
use Rattle.module_arena.specs.declared.entry.Body.{Body}
use Rattle.module_arena.specs.declared.entry.Block.{Block}
use Rattle.module_arena.specs.declared.instruction.Value.{Value}
use Rattle.module_arena.specs.declared.instruction.Value.TheVariants.{Local, Known}
use Rattle.std.proofs.lemmas.List.Elements.{All-from_recursion}
use Rattle.module_arena.specs.declared.instruction.Inst.{Inst}
use Rattle.module_arena.specs.declared.instruction.Ending.TheVariants as ending
use Rattle.module_arena.specs.Known.{upto, HasOperand, HasValue, KnowsInst, KnowsBlock, KnowsBody}
use Rattle.module_arena.specs.Mentions.{operands_of, bare_values_of, types_of, blocks_of, end_operands_of, targets_of, block_results}
use Rattle.arena_table.specs.declared.arena.body.Parts.{Parts}
use Rattle.arena_table.specs.Bodies.{KnowsParts, at, block, slots, stores, loads, adds, compares, small_blocks, entry_block, test_block, turn_block, step_block, last_block, sum_blocks}

-- the fact of each item, one by one
abbrev ByRecursion : {X : Type 0} → (X → Type 0) → List X → Type 0
ByRecursion P [] = ⊤
ByRecursion P (x ∷ xs) = P x × ByRecursion P xs

module _ (t c v b : ℕ) where
  inst_known : (i : Inst) → ByRecursion (HasOperand t c v) (operands_of i) → ByRecursion (HasValue c v) (bare_values_of i)
      → ByRecursion (λ ty. ty < t) (types_of i) → ByRecursion (λ id. id < b) (blocks_of i) → KnowsInst t c v b i
  inst_known i operands values types blocks = record {
    operands_known = All-from_recursion (HasOperand t c v) (operands_of i) operands;
    values_known = All-from_recursion (HasValue c v) (bare_values_of i) values;
    types_known = All-from_recursion (λ ty. ty < t) (types_of i) types;
    blocks_known = All-from_recursion (λ id. id < b) (blocks_of i) blocks;
  }

  block_known : (block : Block) → ByRecursion (KnowsInst t c v b) block.instructions → ByRecursion (HasOperand t c v) (end_operands_of block.end)
      → ByRecursion (λ id. id < b) (targets_of block.end) → KnowsBlock t c v b block
  block_known block instructions operands targets = record {
    instructions_known = All-from_recursion (KnowsInst t c v b) block.instructions instructions;
    operands_known = All-from_recursion (HasOperand t c v) (end_operands_of block.end) operands;
    targets_known = All-from_recursion (λ id. id < b) (targets_of block.end) targets;
  }

  module _ (p : Parts) (k : KnowsParts t c p) where
    slot_known : (n : ℕ) → KnowsInst t c v b (slots p n)
    slot_known n = inst_known (slots p n) tt tt (k.ty_known, tt) tt

    store_known : (value : Value) (address : ℕ) → HasValue c v value → address < v → KnowsInst t c v b (stores p value address)
    store_known value address h lt = inst_known (stores p value address) ((k.ty_known, h), ((k.pointer_known, lt), tt)) tt tt tt

    load_known : (n address : ℕ) → address < v → KnowsInst t c v b (loads p n address)
    load_known n address lt = inst_known (loads p n address) ((k.pointer_known, lt), tt) tt (k.ty_known, tt) tt

    add_known : (n left : ℕ) (right : Value) → left < v → HasValue c v right → KnowsInst t c v b (adds p n left right)
    add_known n left right lt h = inst_known (adds p n left right) ((k.ty_known, lt), tt) (h, tt) tt tt

    less_known : (n left : ℕ) (right : Value) → left < v → HasValue c v right → KnowsInst t c v b (compares p n left right)
    less_known n left right lt h = inst_known (compares p n left right) ((k.ty_known, lt), tt) (h, tt) tt tt

module _ (t c : ℕ) (p : Parts) (k : KnowsParts t c p) where
  small_block_known : All (KnowsBlock t c 3 1) (small_blocks p)
  small_block_known = All-from_recursion (KnowsBlock t c 3 1) (small_blocks p) (
    block_known t c 3 1 (block 0 (slots p 0 ∷ stores p (Known p.start) 0 ∷ loads p 1 0 ∷ adds p 2 1 (Known p.step) ∷ stores p (Local 2) 0 ∷ []) (ending.Return (at p.ty 2))) (
      slot_known t c 3 1 p k 0,
      (
        store_known t c 3 1 p k (Known p.start) 0 k.start_known (lit< tt),
        (
          load_known t c 3 1 p k 1 0 (lit< tt),
          (
            add_known t c 3 1 p k 2 1 (Known p.step) (lit< tt) k.step_known,
            (store_known t c 3 1 p k (Local 2) 0 (lit< tt) (lit< tt), tt),
          ),
        ),
      ),
    )
        ((k.ty_known, lit< tt), tt) tt,
    tt,
  )

  entry_known : KnowsBlock t c 11 5 (entry_block p)
  entry_known = block_known t c 11 5 (entry_block p) (
    slot_known t c 11 5 p k 0,
    (
      slot_known t c 11 5 p k 1,
      (
        slot_known t c 11 5 p k 2,
        (
          store_known t c 11 5 p k (Known p.start) 0 k.start_known (lit< tt),
          (
            store_known t c 11 5 p k (Known p.start) 1 k.start_known (lit< tt),
            (store_known t c 11 5 p k (Known p.start) 2 k.start_known (lit< tt), tt),
          ),
        ),
      ),
    ),
  )
      tt (lit< tt, tt)

  test_known : KnowsBlock t c 11 5 (test_block p)
  test_known = block_known t c 11 5 (test_block p) (
    load_known t c 11 5 p k 3 2 (lit< tt),
    (less_known t c 11 5 p k 4 3 (Known p.limit) (lit< tt) k.limit_known, tt),
  )
      ((k.bit_known, lit< tt), tt) (lit< tt, (lit< tt, tt))

  turn_known : KnowsBlock t c 11 5 (turn_block p)
  turn_known = block_known t c 11 5 (turn_block p) (
    load_known t c 11 5 p k 5 2 (lit< tt),
    (
      load_known t c 11 5 p k 6 1 (lit< tt),
      (
        add_known t c 11 5 p k 7 6 (Local 5) (lit< tt) (lit< tt),
        (store_known t c 11 5 p k (Local 7) 1 (lit< tt) (lit< tt), tt),
      ),
    ),
  )
      tt (lit< tt, tt)

  step_known : KnowsBlock t c 11 5 (step_block p)
  step_known = block_known t c 11 5 (step_block p) (
    load_known t c 11 5 p k 8 2 (lit< tt),
    (
      add_known t c 11 5 p k 9 8 (Known p.step) (lit< tt) k.step_known,
      (store_known t c 11 5 p k (Local 9) 2 (lit< tt) (lit< tt), tt),
    ),
  )
      tt (lit< tt, tt)

  last_known : KnowsBlock t c 11 5 (last_block p)
  last_known = block_known t c 11 5 (last_block p) (load_known t c 11 5 p k 10 1 (lit< tt), tt) ((k.ty_known, lit< tt), tt) tt

pub small_known : (t c : ℕ) (p : Parts) (body : Body) → KnowsParts t c p → body.blocks ≡ small_blocks p → length body.results ≡ 3 → KnowsBody t c 0 body
unfolding upto
small_known t c p body k blocks results = record {
  few_values = omega (arith, results);
  few_blocks = subst (λ (bs : List Block). length bs < 2 ^ 32) (sym blocks) (lit< tt);
  in_order = ap (flat_map block_results) blocks ∙ ap (upto 0) (sym results);
  blocks_known =
      subst (λ (bs : List Block). All (KnowsBlock t c (0 + length body.results) (length bs)) bs) (sym blocks)
      (subst (λ (n : ℕ). All (KnowsBlock t c (0 + n) 1) (small_blocks p)) (sym results) (small_block_known t c p k));
}

pub sum_known : (t c : ℕ) (p : Parts) (body : Body) → KnowsParts t c p → body.blocks ≡ sum_blocks p → length body.results ≡ 11 → KnowsBody t c 0 body
unfolding upto
sum_known t c p body k blocks results = record {
  few_values = omega (arith, results);
  few_blocks = subst (λ (bs : List Block). length bs < 2 ^ 32) (sym blocks) (lit< tt);
  in_order = ap (flat_map block_results) blocks ∙ ap (upto 0) (sym results);
  blocks_known =
      subst (λ (bs : List Block). All (KnowsBlock t c (0 + length body.results) (length bs)) bs) (sym blocks)
      (subst (λ (n : ℕ). All (KnowsBlock t c (0 + n) 5) (sum_blocks p)) (sym results)
      (All-from_recursion (KnowsBlock t c 11 5) (sum_blocks p) (entry_known t c p k, (test_known t c p k, (turn_known t c p k, (step_known t c p k, (last_known t c p k, tt)))))));
}
