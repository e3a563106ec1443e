-- Values that may have many leaves: what their instructions are asked for, and that what was carried out is what was meant.
use Rattle.std.proofs.Common.{◌≡◌, ℕ, ◌<◌, Bool, true, All, List, [], ◌∷◌, length, map, refl, sym, ap, ◌∙◌, subst, arith}
use Rattle.std.specs.List.{AllZip}
use Rattle.std.proofs.lemmas.Bool.{false≢true, lt-ltb}
use Rattle.std.proofs.lemmas.List.{length-map}
use Rattle.std.proofs.lemmas.List.Elements.{All-cons, All-nil}
use Rattle.ir_eval.specs.Value.{IsInteger}
use Rattle.ir_memory.specs.declared.leaf.Leaf.{Leaf}
use Rattle.ir_memory.specs.declared.leaf.Leaf.TheVariants as leaf
use Rattle.module_arena.specs.Lists.{Lists}
use Rattle.run_rules.specs.Action as actions
use Rattle.run_rules.specs.Leaves.{is_pointer}
use Rattle.run_rules.specs.Wants.{is_wide}
use Rattle.run_actions.specs.declared.stack.origin.Origin.{Origin}
use Rattle.run_actions.specs.Stack.Origins.{origin_of}
use Rattle.run_actions.specs.Stack.UnderWay.{UnderWay}
use Rattle.run_actions.specs.declared.values.Arm.{Arm}
use Rattle.run_actions.specs.declared.values.FrozenLeaf.{FrozenLeaf}
use Rattle.run_actions.specs.Operands as operands
use Rattle.run_actions.specs.Operands.{HasPlaces, IsThere, MayGoOn}
use Rattle.run_actions.specs.Values.{arm_of, IsArmThere, IsPartThere, part_of}
use Rattle.run_decode.specs.declared.flat.action.Action.{Action}
use Rattle.run_decode.specs.declared.flat.action.Action.TheVariants.{Select, Freeze, Gather}
use Rattle.run_decode.specs.declared.flat.leaf.LeafAt.{LeafAt}
use Rattle.run_decode.specs.declared.flat.leaf.Span.{Span}
use Rattle.run_decode.specs.declared.flat.pools.Pools.{Pools}
use Rattle.run_decode.specs.Flat.Flat.{action_of, leaf_of}
use Rattle.run_decode.specs.Flat.Spans.{spanned}
use Rattle.typed_runs.proofs.Values.{integer_from}
use Rattle.run_acts.specs.Classes.Groups.{is_value}
use Rattle.run_acts.specs.Classes.May.{MayAct}
use Rattle.run_acts.proofs.OnClasses.Placed.{equally_long, had, IsMeant, may_go_on, origin_there, places_there}

-- as many kinds as leaves, whatever these are in an action
as_many : {A B C : Type 0} (R : A → C → Type 0) (f : B → C) (ks : List A) (xs : List B) → AllZip R ks (map f xs) → length ks ≡ length xs
as_many R f ks xs h = equally_long R ks (map f xs) h ∙ length-map xs f

module _ (count : ℕ) (p : Pools) (action : Action) (s : UnderWay) (may : MayAct count p action s) where
  -- both leaves of an arm are of the kind
  abbrev pub IsMeantArm : Leaf → actions.Origin × actions.Origin → Type 0
  IsMeantArm kind arm = IsMeant count p action s may kind arm.0 × IsMeant count p action s may kind arm.1

  arms_there : (ks : List Leaf) (arms : List Arm) → AllZip IsMeantArm ks (map arm_of arms) → All (IsArmThere s) arms
  arms_there [] [] h = All-nil (IsArmThere s)
  arms_there [] (x ∷ xs) h = absurd h
  arms_there (k ∷ ks) [] h = absurd h
  arms_there (k ∷ ks) (x ∷ xs) h =
      All-cons (IsArmThere s) x xs (origin_there count p action s may k x.first h.0.0, origin_there count p action s may k x.second h.0.1) (arms_there ks xs h.1)

  -- a leaf that is frozen is of the kind
  abbrev pub IsMeantPart : Leaf → Bool × actions.Origin → Type 0
  IsMeantPart kind x = (x.0 ≡ is_pointer kind) × IsMeant count p action s may kind x.1

  parts_there : (ks : List Leaf) (parts : List FrozenLeaf) → AllZip IsMeantPart ks (map part_of parts) → All (IsPartThere s) parts
  parts_there [] [] h = All-nil (IsPartThere s)
  parts_there [] (x ∷ xs) h = absurd h
  parts_there (k ∷ ks) [] h = absurd h
  parts_there (k ∷ ks) (x ∷ xs) h = All-cons (IsPartThere s) x xs (origin_there count p action s may k x.value h.0.1) (parts_there ks xs h.1)

  pub origins_there : (ks : List Leaf) (os : List Origin) → AllZip (IsMeant count p action s may) ks (map origin_of os) → All (IsThere s) os
  origins_there [] [] h = All-nil (IsThere s)
  origins_there [] (o ∷ os) h = absurd h
  origins_there (k ∷ ks) [] h = absurd h
  origins_there (k ∷ ks) (o ∷ os) h = All-cons (IsThere s) o os (origin_there count p action s may k o h.0) (origins_there ks os h.1)

-- ---- each of them

pub record IsSelectable (s : UnderWay) (to : ℕ) (chooses : Origin) (arms : List Arm) : Type 0 where
  pub on : MayGoOn s
  pub there : IsThere s chooses
  pub chooses_one : IsInteger 1 (operands.leaf_of s chooses)
  pub arms_there : All (IsArmThere s) arms
  pub places : HasPlaces s to (length arms)

pub record IsFreezable (s : UnderWay) (to : ℕ) (parts : List FrozenLeaf) : Type 0 where
  pub on : MayGoOn s
  pub there : All (IsPartThere s) parts
  pub places : HasPlaces s to (length parts)

pub record IsGatherable (s : UnderWay) (to : ℕ) (leaves : List Origin) : Type 0 where
  pub on : MayGoOn s
  pub there : All (IsThere s) leaves
  pub places : HasPlaces s to (length leaves)

module _ (count : ℕ) (p : Pools) (s : UnderWay) where
  pub selectable : (to : ℕ) (condition : LeafAt) (arms : Span) (chooses : Origin) (both : List Arm) → origin_of chooses ≡ leaf_of p condition → both ≡ spanned p.arms arms → MayAct count p (Select to condition arms) s
      → IsSelectable s to chooses both
  selectable to condition arms chooses both is here may =
      let action = Select to condition arms in
      let one = had count p action s may (leaf.Int 1) chooses (leaf_of p condition) is may.typed.0 in
      let kinds = may.typed.1.0 in
      let typed = subst (λ (xs : List Arm). AllZip (IsMeantArm count p action s may) kinds (map arm_of xs)) (sym here) may.typed.1.1 in
      record {
        on = may_go_on count p action s may;
        there = one.there;
        chooses_one = integer_from count 1 (operands.leaf_of s chooses) one.typed;
        arms_there = arms_there count p action s may kinds both typed;
        places = places_there count p action s may to kinds (length both) (as_many (IsMeantArm count p action s may) arm_of kinds both typed) may.typed.1.2;
      }

  pub freezable : (to : ℕ) (parts : Span) (leaves : List FrozenLeaf) → leaves ≡ spanned p.parts parts → MayAct count p (Freeze to parts) s → IsFreezable s to leaves
  freezable to parts leaves here may =
      let action = Freeze to parts in
      let kinds = may.typed.0.0 in
      let typed = subst (λ (xs : List FrozenLeaf). AllZip (IsMeantPart count p action s may) kinds (map part_of xs)) (sym here) may.typed.0.1 in
      record {
        on = may_go_on count p action s may;
        there = parts_there count p action s may kinds leaves typed;
        places = places_there count p action s may to kinds (length leaves) (as_many (IsMeantPart count p action s may) part_of kinds leaves typed) may.typed.0.2;
      }

  pub gatherable : (to : ℕ) (value : Span) (leaves : List Origin) → leaves ≡ spanned p.origins value → MayAct count p (Gather to value) s → IsGatherable s to leaves
  gatherable to value leaves here may =
      let action = Gather to value in
      let kinds = may.typed.0.0 in
      let typed = subst (λ (xs : List Origin). AllZip (IsMeant count p action s may) kinds (map origin_of xs)) (sym here) may.typed.0.1 in
      record {
        on = may_go_on count p action s may;
        there = origins_there count p action s may kinds leaves typed;
        places = places_there count p action s may to kinds (length leaves) (as_many (IsMeant count p action s may) origin_of kinds leaves typed) may.typed.0.2;
      }

-- ---- what was carried out is what was meant

module _ (p : Pools) (a : Lists) (action : Action) where
  pub selected_so : (to : ℕ) (condition : LeafAt) (arms : Span) (chooses : Origin) (both : List Arm) → action ≡ Select to condition arms → origin_of chooses ≡ leaf_of p condition → both ≡ spanned p.arms arms
      → actions.Select to (origin_of chooses) (map arm_of both) ≡ action_of p a action
  selected_so to condition arms chooses both is one here = (λ i. actions.Select to (one i) (map arm_of (here i))) ∙ ap (action_of p a) (sym is)

  pub frozen_so : (to : ℕ) (parts : Span) (leaves : List FrozenLeaf) → action ≡ Freeze to parts → leaves ≡ spanned p.parts parts → actions.Freeze to (map part_of leaves) ≡ action_of p a action
  frozen_so to parts leaves is here = (λ i. actions.Freeze to (map part_of (here i))) ∙ ap (action_of p a) (sym is)

  pub gathered_so : (to : ℕ) (value : Span) (leaves : List Origin) → action ≡ Gather to value → leaves ≡ spanned p.origins value → actions.Gather to (map origin_of leaves) ≡ action_of p a action
  gathered_so to value leaves is here = (λ i. actions.Gather to (map origin_of (here i))) ∙ ap (action_of p a) (sym is)

-- more leaves than one want memory
pub wide_wants : {A B : Type 0} (f : A → B) (xs : List A) → 1 < length xs → is_wide (map f xs) ≡ true
wide_wants f xs more = let n = length-map xs f in lt-ltb 1 (length (map f xs)) (omega (arith, n, more))

-- there is no other
pub no_other_value : (action : Action) → is_value action ≡ true → ((to : ℕ) (condition : LeafAt) (arms : Span) → action ≡ Select to condition arms → ⊥) → ((to : ℕ) (parts : Span) → action ≡ Freeze to parts → ⊥)
    → ((to : ℕ) (value : Span) → action ≡ Gather to value → ⊥) → ⊥
no_other_value (Select to condition arms) h one two three = one to condition arms refl
no_other_value (Freeze to parts) h one two three = two to parts refl
no_other_value (Gather to value) h one two three = three to value refl
no_other_value _ h one two three = absurd (false≢true h)
