-- What each variable holds is stored into its block, one after another.
use Rattle.std.proofs.Common.{◌≡◌, ℕ, ◌+◌, List, [], ◌∷◌, drop, Some, Result, Ok, refl, sym, ap, ◌∙◌, subst, arith}
use Rattle.std.specs.Prelude.{IfOk, slice_get}
use Rattle.ir_tables.specs.declared.undefined_kind.UndefinedKind.{UndefinedKind}
use Rattle.ir_eval.specs.declared.value.Pointer.{Pointer}
use Rattle.ir_memory.specs.declared.kind.BlockKind.TheVariants as kind
use Rattle.ir_memory.specs.Answer.{Keeps}
use Rattle.ir_memory.specs.MemoryBlock.{new_block}
use Rattle.ir_memory.specs.Memory.{Blocks}
use Rattle.linkage_rules.specs.Addresses.{rooms}
use Rattle.module_arena.specs.declared.entry.Variable.{Variable}
use Rattle.module_arena.specs.Lists.{Lists}
use Rattle.module_arena.specs.Module.{Module}
use Rattle.module_arena.specs.Valid.{IsValid}
use Rattle.module_arena.specs.View.{module_of}
use Rattle.module_arena.specs.WellFormed.{IsWellFormed}
use Rattle.linkage_rules.proofs.Steps.{drop_more}
use Rattle.run_names.proofs.Listed.{mapped_at}
use Rattle.run_names.proofs.Put.{Row}
use Rattle.run_names.specs.declared.spot.Spot.{Spot}
use Rattle.run_names.specs.Spots.{AreSpots, size_of}
use Rattle.run_rules.specs.Access.{or_as_before, stored_slots}
use Rattle.run_rules.specs.Look.{pointer_to}
use Rattle.run_rules.specs.Opening.{with_contents}
use Rattle.run_rules.specs.Plan.{Contents, contents_of, plan}
use Rattle.run_initial.proofs.OnInitial.Fresh.{IsFresh, same_stored}
use Rattle.run_initial.specs.Initial.Fresh.{Puts, to_store}
use Rattle.run_initial.proofs.OnInitial.Sounds as sounds
use Rattle.run_initial.specs.Contents.Held.{held}
use Rattle.run_initial.proofs.OnContents.Holdings.{held_is, held_order, held_stored}
use Rattle.run_initial.proofs.OnContents.OtherBlocks.{KeepsOthers, stored_others}
use Rattle.run_initial.proofs.OnContents.Placed.{ArePlacedFrom}
use Rattle.run_initial.proofs.OnContents.Rooms.{IsOf, pointer_is, row, row_at, row_symbol, size_is}

module _ (a : Lists) (well_formed : IsWellFormed (module_of a)) (valid : IsValid (module_of a)) (spots : List Spot) (are : AreSpots a spots) (k : ℕ) (s : Spot) (there : slice_get spots k ≡ Some s) (v : Variable) (of : IsOf a well_formed valid s v)
    (id : ℕ) (has : v.initialiser ≡ Some id) (m n : Blocks) (placed : ArePlacedFrom a k m) where
  abbrev parts : List Module
  parts = module_of a ∷ []

  abbrev p : Pointer
  p = record { block = Some k; address = s.start }

  fresh : IsFresh m p k [] s.size
  fresh = record {
    block = new_block s.start s.size (kind.Variable s.constant);
    of_block = refl;
    address = refl;
    there = placed.fresh spots are k s (omega arith) there;
    live = refl;
    long = omega arith;
    near = let ends = are.within k s there in omega (arith, ends);
    cells = refl;
    unsealed = placed.unsealed;
  }

  size_same : s.size ≡ size_of a v
  size_same = size_is a well_formed valid spots are k s there v of

  whole_stored : Puts p (held a v) m n → stored_slots p 1 (held a v) m ≡ Ok n
  whole_stored stored =
      same_stored (held a v) m p k [] s.size (size_of a v) (sounds.blocks a) (let same = size_same in omega (arith, same)) fresh
      (held_order a well_formed valid s.variable v of.at of.is id has) (held_stored a well_formed valid s.variable v of.at of.is id has)
      ∙ stored

  its_contents : contents_of parts (row a well_formed valid spots are k s there v of).0 ≡ held a v
  its_contents = ap (contents_of parts) (row_symbol a well_formed valid spots are k s there v of) ∙ held_is a well_formed valid s.variable v of.at of.is id has

  -- the contents of the others complete those of all
  pub one_stored : Puts p (held a v) m n → with_contents (drop (k + 1) (plan parts).stores) n ≡ with_contents (drop k (plan parts).stores) m
  one_stored stored =
      let its : Row = row a well_formed valid spots are k s there v of in
      let stores = (plan parts).stores in
      let first : drop k stores ≡ (pointer_to parts its.0, contents_of parts its.0) ∷ drop (k + 1) stores =
      drop_more stores k (pointer_to parts its.0, contents_of parts its.0) (mapped_at (λ (r : Row). (pointer_to parts r.0, contents_of parts r.0)) (rooms parts) k its (row_at a well_formed valid spots are k s there v of)) in
      let pointer = pointer_is a well_formed valid spots are k s there v of in
      let contents = its_contents in
      sym
      (ap (λ (l : List (Pointer × Contents)). with_contents l m) first
      ∙ (λ j. with_contents (drop (k + 1) stores) (or_as_before m (stored_slots (pointer j) 1 (contents j) m)))
      ∙ ap (λ (r : Result Blocks UndefinedKind). with_contents (drop (k + 1) stores) (or_as_before m r)) (whole_stored stored))

  -- the other blocks are as they were
  pub others_placed : Puts p (held a v) m n → Keeps m n → ArePlacedFrom a (k + 1) n
  others_placed stored kept =
      let others : KeepsOthers k m n = subst (λ (r : Result Blocks UndefinedKind). IfOk r (KeepsOthers k m)) stored (stored_others p k refl (to_store (held a v)) m) in
      record {
        unsealed = others.sealed ∙ placed.unsealed;
        many = let count = kept.0 in let many = placed.many in omega (arith, count, many);
        fresh = λ spots' are' j s' le at. others.others j (λ e. omega (arith, le, e)) ∙ placed.fresh spots' are' j s' (omega (arith, le)) at;
      }
