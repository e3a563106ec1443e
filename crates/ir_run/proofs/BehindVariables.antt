-- What is behind the blocks of variables: the next block lies near, and variables stay where they are while blocks are added behind
-- them.
use Rattle.std.proofs.Common.{◌≡◌, ℕ, ◌+◌, ◌^◌, ◌≤◌, List, [], ◌∷◌, ◌++◌, length, Bool, true, false, Some, Result, Ok, Err, refl, sym, ap, ◌∙◌, subst, arith}
use Rattle.std.specs.Prelude.{IfOk, slice_get}
use Rattle.std.proofs.lemmas.List.{length-map}
use Rattle.std.proofs.lemmas.Option.{same_Some, slice_get_within}
use Rattle.ir_memory.specs.declared.kind.BlockKind.{BlockKind}
use Rattle.ir_memory.specs.declared.kind.BlockKind.TheVariants as kind
use Rattle.ir_memory.specs.MemoryBlock.{MemoryBlock, new_block}
use Rattle.ir_memory.specs.Memory.{Blocks, added, no_blocks, round_up}
use Rattle.linkage_rules.specs.Addresses.{rooms}
use Rattle.module_arena.specs.Lists.{Lists}
use Rattle.module_arena.specs.View.{module_of}
use Rattle.linkage_rules.proofs.Seen.{get_within}
use Rattle.run_names.specs.declared.spot.Spot.{Spot}
use Rattle.run_names.specs.Spots.{AreSpots, needs}
use Rattle.run_names.specs.Told.{alone}
use Rattle.run_rules.specs.declared.end.End.{End}
use Rattle.run_rules.specs.Access.{and_then}
use Rattle.run_rules.specs.Opening.{made, with_variables}
use Rattle.run_rules.specs.Plan as plans
use Rattle.run_initial.proofs.OnContents.Made.{variables_made}
use Rattle.run_initial.specs.Contents.Placed.{ArePlaced, Fills}
use Rattle.ir_run.specs.Arguments.{KeepsBlocks}
use Rattle.ir_run.proofs.Blocks.{made_is}

-- where no block ends further off, the next one does not begin far behind
abbrev IsNear : Blocks → Type 0
IsNear m = (bound : ℕ) → ((j : ℕ) (b : MemoryBlock) → slice_get m.list j ≡ Some b → b.start + b.size ≤ bound) → m.next ≤ bound + 2 ^ 17

newest : (bs : List MemoryBlock) (b : MemoryBlock) → slice_get (bs ++ b ∷ []) (length bs) ≡ Some b
newest [] b = refl
newest (c ∷ bs) b = newest bs b

behind_last : (start size bound : ℕ) → start + size ≤ bound → start + size + 16 ≤ bound + 2 ^ 17
behind_last start size bound ends = omega (arith, ends)

near_added : (size align : ℕ) (kind : BlockKind) (m : Blocks) → IsNear (added size align kind m)
near_added size align kind m = λ bound h.
    let b = new_block (round_up m.next align) size kind in
    behind_last (round_up m.next align) size bound (h (length m.list) b (newest m.list b))

near_variables : (vs : List plans.Variable) (m n : Blocks) → IsNear m → with_variables vs m ≡ Ok n → IsNear n
near_variables [] m n h e = let same : m ≡ n = cc in subst IsNear same h
near_variables (v ∷ vs) m n h e = go (made v.size v.align (kind.Variable v.constant) m) refl e (λ o k f. near_variables vs o n k f)
  where
    go : (r : Result Blocks End) → made v.size v.align (kind.Variable v.constant) m ≡ r → and_then r (λ o. with_variables vs o) ≡ Ok n → ((o : Blocks) → IsNear o → with_variables vs o ≡ Ok n → IsNear n) → IsNear n
    go (Ok o) is f more = more o (subst IsNear (sym (made_is v.size v.align (kind.Variable v.constant) m o is)) (near_added v.size v.align (kind.Variable v.constant) m)) f
    go (Err x) is f more = cc

module _ (a : Lists) (spots : List Spot) (are : AreSpots a spots) where
  abbrev vs : List plans.Variable
  vs = (plans.plan (alone (module_of a))).variables

  as_many_spots : length spots ≡ length vs
  as_many_spots = sym (length-map spots needs) ∙ ap length are.variables

  pub variables_near : (m : Blocks) → with_variables vs no_blocks ≡ Ok m → ArePlaced a m → m.next ≤ 2 ^ 60 + 2 ^ 17
  variables_near m e placed = near_variables vs no_blocks m (λ bound h. omega arith) e (2 ^ 60) ends
    where
      ends : (j : ℕ) (b : MemoryBlock) → slice_get m.list j ≡ Some b → b.start + b.size ≤ 2 ^ 60
      ends j b at =
          let long = (variables_made vs no_blocks m e).long in
          let many = as_many_spots in
          let within = slice_get_within m.list j b at in
          let s = get_within spots j (omega (arith, long, many, within)) in
          let same = same_Some (new_block s.0.start s.0.size (kind.Variable s.0.constant)) b (sym (placed.fresh spots are j s.0 s.1) ∙ at) in
          let last = are.within j s.0 s.1 in
          subst (λ (x : MemoryBlock). x.start + x.size ≤ 2 ^ 60) same last

-- the same of an answer
pub near_where : {E : Type 0} (a : Lists) (spots : List Spot) → AreSpots a spots → (r : Result Bool E) (m : Blocks) → IfOk r (λ all. Fills all (with_variables (plans.plan (alone (module_of a))).variables no_blocks) m) → IfOk r (λ all. all ≡ true → ArePlaced a m) → IfOk r (λ all. all ≡ true → m.next ≤ 2 ^ 60 + 2 ^ 17)
near_where a spots are (Ok true) m made placed = λ e. variables_near a spots are m made (placed refl)
near_where a spots are (Ok false) m made placed = λ e. cc
near_where a spots are (Err x) m made placed = tt

-- where blocks are added behind them, variables stay where they are
pub placed_later : (a : Lists) (m n : Blocks) → ArePlaced a m → KeepsBlocks m n → ArePlaced a n
placed_later a m n placed kept =
    let more = kept.more in
    let many = placed.many in
    record {
      unsealed = kept.sealed ∙ placed.unsealed;
      many = omega (arith, many, more);
      fresh = λ spots' are' j s at.
          let few = sym (length-map spots' needs) ∙ ap length are'.variables ∙ length-map (rooms (alone (module_of a))) (plans.variable_of (alone (module_of a))) in
          let within = slice_get_within spots' j s at in
          kept.same j (omega (arith, few, within, many)) ∙ placed.fresh spots' are' j s at;
    }
