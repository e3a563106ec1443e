-- Instructions that see memory: what they are asked for, and that what was carried out is what was meant.
use Rattle.std.proofs.Common.{◌≡◌, ℕ, Bool, All, List, length, map, refl, sym, ap, ◌∙◌, subst, Result, Ok, Err}
use Rattle.std.specs.Prelude.{zip}
use Rattle.std.proofs.lemmas.List.{length-map}
use Rattle.std.proofs.lemmas.List.Elements.{All-weaker}
use Rattle.ir_eval.specs.declared.value.Scalar.{Scalar}
use Rattle.ir_eval.specs.declared.value.Scalar.TheVariants as scalar
use Rattle.ir_memory.specs.MemoryBlock.{MemoryBlock}
use Rattle.ir_memory.specs.declared.fault.MemoryFault.{MemoryFault}
use Rattle.ir_memory.specs.declared.fault.MemoryFault.TheVariants as faults
use Rattle.ir_memory.specs.declared.leaf.Leaf.{Leaf}
use Rattle.ir_memory.specs.declared.leaf.Leaf.TheVariants as leaf
use Rattle.ir_memory.specs.Given.{IsAddress, IsAlignment, IsLeaf}
use Rattle.ir_memory.specs.Memory.{Blocks}
use Rattle.module_arena.specs.Lists.{Lists}
use Rattle.run_rules.specs.Action as actions
use Rattle.run_rules.specs.Frame.{read}
use Rattle.run_rules.specs.Leaves.{Slot}
use Rattle.run_actions.specs.declared.stack.origin.Origin.{Origin}
use Rattle.run_actions.specs.Stack.Origins.{origin_of}
use Rattle.run_actions.specs.Stack.UnderWay.{UnderWay, newest}
use Rattle.run_actions.specs.Operands as operands
use Rattle.run_actions.specs.Operands.{HasPlaces, IsPlace, IsThere, MayGoOn}
use Rattle.run_actions.specs.Accesses.Done.{StaysAtAnEnd}
use Rattle.run_decode.specs.declared.flat.action.Action.{Action}
use Rattle.run_decode.specs.declared.flat.action.Action.TheVariants.{Load, Store, Allocate, Displace}
use Rattle.run_decode.specs.declared.flat.action.Term.{Term}
use Rattle.run_decode.specs.declared.flat.leaf.LeafAt.{LeafAt}
use Rattle.run_decode.specs.declared.flat.leaf.LeafAt.TheVariants.{Held, Known}
use Rattle.run_decode.specs.declared.flat.leaf.Span.{Span}
use Rattle.run_decode.specs.declared.flat.pools.Pools.{Pools}
use Rattle.run_decode.specs.Flat.Flat.{action_of, leaf_of, term_of, terms_of}
use Rattle.run_decode.specs.Flat.Spans.{spanned}
use Rattle.typed_runs.specs.Actions.{IsTerm}
use Rattle.typed_runs.specs.Kinds.{IsOf}
use Rattle.typed_runs.proofs.Leaves.{read_typed}
use Rattle.typed_runs.proofs.Values.{integer_from}
use Rattle.run_acts.specs.Classes.Ends.{FramesStay}
use Rattle.run_acts.specs.Classes.May.{HasPlace, IsIndexed, IsStorable, MayAct}
use Rattle.run_acts.proofs.OnClasses.Going.{All-unmap}
use Rattle.run_acts.proofs.OnClasses.Paired.{zip_mapped}
use Rattle.run_acts.proofs.OnClasses.Placed.{had, IsMeant, may_go_on, place_there, places_there}

-- a pointer is an address
address_from : (blocks : List MemoryBlock) (v : Scalar) → IsOf (length blocks) leaf.Ptr v → IsAddress blocks v
address_from blocks (scalar.Int n) h = absurd h
address_from blocks (scalar.Ptr q) h = h
address_from blocks scalar.Poison h = tt

-- what an access asks of its address
pub record IsAccessible (blocks : List MemoryBlock) (s : UnderWay) (place : Origin) : Type 0 where
  pub on : MayGoOn s
  pub there : IsThere s place
  pub address : IsAddress blocks (operands.leaf_of s place)

module _ (blocks : List MemoryBlock) (p : Pools) (action : Action) (s : UnderWay) (may : MayAct (length blocks) p action s) where
  accessible : (place : Origin) (meant : actions.Origin) → origin_of place ≡ meant → IsMeant (length blocks) p action s may leaf.Ptr meant → IsAccessible blocks s place
  accessible place meant e h =
      let one = had (length blocks) p action s may leaf.Ptr place meant e h in
      record { on = may_go_on (length blocks) p action s may; there = one.there; address = address_from blocks (operands.leaf_of s place) one.typed }

  index_there : (kind : Leaf) (l : LeafAt) → IsMeant (length blocks) p action s may kind (leaf_of p l) → HasPlace (length (newest s.frames).leaves) l
  index_there kind (Held place) h = place_there (length blocks) p action s may place kind (h, tt)
  index_there kind (Known place) h = tt

  indexed : (t : Term) → IsTerm may.typing may.look (newest s.frames).function (term_of p t) → IsIndexed s p t
  indexed t h =
      record {
        there = index_there (leaf.Int t.width) t.index h.1;
        width = h.0;
        index =
            integer_from (length blocks) t.width (read (newest s.frames) (leaf_of p t.index))
            (read_typed may.typing may.look (length blocks) may.fixed (newest s.frames) may.leaves (leaf.Int t.width) (leaf_of p t.index) h.1);
      }

  -- a leaf has the kind of its slot
  abbrev pub IsMeantPair : Slot × actions.Origin → Type 0
  IsMeantPair x = IsLeaf x.0.leaf × IsMeant (length blocks) p action s may x.0.leaf x.1

  storable : (x : Slot × Origin) → IsMeantPair (x.0, origin_of x.1) → IsStorable (length blocks) s x
  storable x h = let one = had (length blocks) p action s may x.0.leaf x.1 (origin_of x.1) refl h.1 in (h.0, one.there, one.typed)

  pairs_storable : (slots : List Slot) (value : List Origin) → All IsMeantPair (zip slots (map origin_of value)) → All (IsStorable (length blocks) s) (zip slots value)
  pairs_storable slots value h =
      let meant : Slot × Origin → Slot × actions.Origin = λ x. (x.0, origin_of x.1) in
      All-weaker (λ (x : Slot × Origin). IsMeantPair (meant x)) (IsStorable (length blocks) s) storable (zip slots value)
      (All-unmap IsMeantPair meant (zip slots value) (subst (All IsMeantPair) (zip_mapped origin_of slots value) h))

-- ---- each of them

pub record IsLoadable (blocks : List MemoryBlock) (s : UnderWay) (to align : ℕ) (place : Origin) (kinds : List Slot) : Type 0 where
  pub access : IsAccessible blocks s place
  pub align_is : IsAlignment align
  pub leaves : All (λ (x : Slot). IsLeaf x.leaf) kinds
  pub places : HasPlaces s to (length kinds)

pub record IsStoredTo (blocks : List MemoryBlock) (s : UnderWay) (align : ℕ) (place : Origin) (kinds : List Slot) (leaves : List Origin) : Type 0 where
  pub access : IsAccessible blocks s place
  pub align_is : IsAlignment align
  pub pairs : All (IsStorable (length blocks) s) (zip kinds leaves)

pub record IsAllocatable (s : UnderWay) (to align : ℕ) (number : Origin) : Type 0 where
  pub on : MayGoOn s
  pub place : IsPlace s to
  pub there : IsThere s number
  pub align_is : IsAlignment align

pub record IsDisplaceable (blocks : List MemoryBlock) (s : UnderWay) (p : Pools) (to : ℕ) (place : Origin) : Type 0 where
  pub access : IsAccessible blocks s place
  pub to_place : IsPlace s to

module _ (blocks : List MemoryBlock) (p : Pools) (s : UnderWay) where
  pub loadable : (to align : ℕ) (address : LeafAt) (slots : Span) (place : Origin) (kinds : List Slot) → origin_of place ≡ leaf_of p address → kinds ≡ spanned p.slots slots → MayAct (length blocks) p (Load to align address slots) s
      → IsLoadable blocks s to align place kinds
  loadable to align address slots place kinds is here may =
      let action = Load to align address slots in
      let places = places_there (length blocks) p action s may to (map (λ (x : Slot). x.leaf) (spanned p.slots slots)) (length (spanned p.slots slots)) (length-map (spanned p.slots slots) (λ (x : Slot). x.leaf)) may.typed.3 in
      record {
        access = accessible blocks p action s may place (leaf_of p address) is may.typed.1;
        align_is = may.typed.0;
        leaves = subst (All (λ (x : Slot). IsLeaf x.leaf)) (sym here) may.typed.2;
        places = subst (λ (xs : List Slot). HasPlaces s to (length xs)) (sym here) places;
      }

  pub stored_to : (align : ℕ) (address : LeafAt) (slots value : Span) (place : Origin) (kinds : List Slot) (leaves : List Origin) → origin_of place ≡ leaf_of p address → kinds ≡ spanned p.slots slots → leaves ≡ spanned p.origins value
      → MayAct (length blocks) p (Store align address slots value) s → IsStoredTo blocks s align place kinds leaves
  stored_to align address slots value place kinds leaves is here there may =
      let action = Store align address slots value in
      let IsMeantHere : List Slot → List Origin → Type 0 = λ xs ys. All (IsMeantPair blocks p action s may) (zip xs (map origin_of ys)) in
      record {
        access = accessible blocks p action s may place (leaf_of p address) is may.typed.1;
        align_is = may.typed.0;
        pairs =
            pairs_storable blocks p action s may kinds leaves
            (subst (λ (xs : List Slot). IsMeantHere xs leaves) (sym here) (subst (λ (ys : List Origin). IsMeantHere (spanned p.slots slots) ys) (sym there) may.typed.2));
      }

  pub allocatable : (to align size : ℕ) (counted : LeafAt) (number : Origin) → origin_of number ≡ leaf_of p counted → MayAct (length blocks) p (Allocate to align size counted) s → IsAllocatable s to align number
  allocatable to align size counted number is may =
      let action = Allocate to align size counted in
      record {
        on = may_go_on (length blocks) p action s may;
        place = place_there (length blocks) p action s may to leaf.Ptr may.typed.2;
        there = (had (length blocks) p action s may (leaf.Int may.typed.1.0) number (leaf_of p counted) is may.typed.1.2).there;
        align_is = may.typed.0;
      }

  pub displaceable : (to : ℕ) (inbounds : Bool) (base : LeafAt) (terms : Span) (sum : ℕ) (place : Origin) → origin_of place ≡ leaf_of p base → MayAct (length blocks) p (Displace to inbounds base terms sum) s → IsDisplaceable blocks s p to place
  displaceable to inbounds base terms sum place is may =
      let action = Displace to inbounds base terms sum in
      record { access = accessible blocks p action s may place (leaf_of p base) is may.typed.0; to_place = place_there (length blocks) p action s may to leaf.Ptr may.typed.2 }

  pub all_indexed : (to : ℕ) (inbounds : Bool) (base : LeafAt) (terms : Span) (sum : ℕ) → MayAct (length blocks) p (Displace to inbounds base terms sum) s → All (IsIndexed s p) (spanned p.terms terms)
  all_indexed to inbounds base terms sum may =
      let action = Displace to inbounds base terms sum in
      let IsMeantTerm : actions.Term → Type 0 = IsTerm may.typing may.look (newest s.frames).function in
      All-weaker (λ (t : Term). IsMeantTerm (term_of p t)) (IsIndexed s p) (indexed blocks p action s may) (spanned p.terms terms) (All-unmap IsMeantTerm (term_of p) (spanned p.terms terms) may.typed.1)

-- ---- what was carried out is what was meant

module _ (p : Pools) (a : Lists) (action : Action) where
  pub loaded_so : (to align : ℕ) (address : LeafAt) (slots : Span) (place : Origin) (kinds : List Slot) → action ≡ Load to align address slots → origin_of place ≡ leaf_of p address → kinds ≡ spanned p.slots slots
      → actions.Load to align (origin_of place) kinds ≡ action_of p a action
  loaded_so to align address slots place kinds is one here = (λ i. actions.Load to align (one i) (here i)) ∙ ap (action_of p a) (sym is)

  pub stored_so : (align : ℕ) (address : LeafAt) (slots value : Span) (place : Origin) (kinds : List Slot) (leaves : List Origin) → action ≡ Store align address slots value → origin_of place ≡ leaf_of p address → kinds ≡ spanned p.slots slots → leaves ≡ spanned p.origins value
      → actions.Store align (origin_of place) (zip kinds (map origin_of leaves)) ≡ action_of p a action
  stored_so align address slots value place kinds leaves is one here there = (λ i. actions.Store align (one i) (zip (here i) (map origin_of (there i)))) ∙ ap (action_of p a) (sym is)

  pub allocated_so : (to align size : ℕ) (counted : LeafAt) (number : Origin) → action ≡ Allocate to align size counted → origin_of number ≡ leaf_of p counted → actions.Allocate to size align (origin_of number) ≡ action_of p a action
  allocated_so to align size counted number is one = ap (actions.Allocate to size align) one ∙ ap (action_of p a) (sym is)

  pub displaced_so : (to : ℕ) (inbounds : Bool) (base : LeafAt) (terms : Span) (sum : ℕ) (place : Origin) → action ≡ Displace to inbounds base terms sum → origin_of place ≡ leaf_of p base
      → actions.Displace to inbounds (origin_of place) (terms_of p terms) ≡ action_of p a action
  displaced_so to inbounds base terms sum place is one = (λ i. actions.Displace to inbounds (one i) (terms_of p terms)) ∙ ap (action_of p a) (sym is)

-- ---- where the program ends

pub frames_stay_at_end : {T : Type 0} (r : Result T MemoryFault) (old new : UnderWay) (m n : Blocks) → StaysAtAnEnd r old new m n → FramesStay r old new
frames_stay_at_end (Ok done) old new m n h = tt
frames_stay_at_end (Err (faults.Undefined kind)) old new m n h = h.0
frames_stay_at_end (Err faults.MemoryLimit) old new m n h = h.0
frames_stay_at_end (Err faults.Memory) old new m n h = tt
