-- Instructions whose result is one leaf: what they are asked for, and that what was carried out is what was meant.
use Rattle.std.proofs.Common.{◌≡◌, ℕ, Bool, Result, Ok, Err, length, refl, sym, ap, ◌∙◌, subst}
use Rattle.std.specs.Prelude.{IsTrue}
use Rattle.ir_eval.specs.Cast.{IsCast}
use Rattle.ir_eval.specs.Compare.{AreComparable}
use Rattle.ir_eval.specs.Operators.{is_binary}
use Rattle.ir_eval.specs.Value.{IsInteger, IsWidth}
use Rattle.ir_memory.specs.declared.leaf.Leaf.TheVariants as leaf
use Rattle.ir_tables.specs.declared.opcode.Opcode.{Opcode}
use Rattle.ir_tables.specs.declared.predicate.Predicate.{Predicate}
use Rattle.ir_tables.specs.declared.undefined_kind.UndefinedKind.{UndefinedKind}
use Rattle.module_arena.specs.Lists.{Lists}
use Rattle.run_rules.specs.Action as actions
use Rattle.run_rules.specs.Frame.{read}
use Rattle.run_rules.specs.State.{Frame}
use Rattle.run_actions.specs.declared.stack.origin.Origin.{Origin}
use Rattle.run_actions.specs.declared.stack.origin.Origin.TheVariants as origin
use Rattle.run_actions.specs.Stack.Origins.{IsIn, origin_of}
use Rattle.run_actions.specs.Stack.UnderWay.{UnderWay, newest}
use Rattle.run_actions.specs.Carried.{Acts, IsCarriedOut}
use Rattle.run_actions.specs.Operands as operands
use Rattle.run_actions.specs.Operands.{IsPlace, IsThere, MayGoOn}
use Rattle.run_decode.specs.declared.flat.action.Action.{Action}
use Rattle.run_decode.specs.declared.flat.action.Action.TheVariants.{Compute, Compare, Convert}
use Rattle.run_decode.specs.declared.flat.leaf.LeafAt.{LeafAt}
use Rattle.run_decode.specs.declared.flat.leaf.LeafAt.TheVariants as at
use Rattle.run_decode.specs.declared.flat.pools.Pools.{Pools}
use Rattle.run_decode.specs.Flat.Flat.{action_of, leaf_of}
use Rattle.typed_runs.specs.Actions.{cast_from, cast_to}
use Rattle.typed_runs.proofs.Values.{castable, comparable, integer_from}
use Rattle.run_acts.specs.Classes.May.{HasPlace, MayAct}
use Rattle.run_acts.proofs.OnClasses.Placed.{had, may_go_on, place_there}

-- ---- operands

-- an operand as the code has it
abbrev stands : actions.Origin → Origin
stands (actions.Held place) = origin.Held place
stands (actions.Known leaf) = origin.Known leaf

stands_so : (o : actions.Origin) → origin_of (stands o) ≡ o
stands_so (actions.Held place) = refl
stands_so (actions.Known leaf) = refl

has_place : (p : Pools) (n : ℕ) (l : LeafAt) → IsIn n (stands (leaf_of p l)) → HasPlace n l
has_place p n (at.Held place) h = h
has_place p n (at.Known place) h = tt

-- an operand whose leaf is told already
abbrev pub IsTold : UnderWay → actions.Origin → Origin → Type 0
IsTold s o told = told ≡ origin.Known (read (newest s.frames) o)

told_there : (s : UnderWay) (o : actions.Origin) (told : Origin) → IsTold s o told → IsThere s told
told_there s o told is = subst (IsThere s) (sym is) tt

told_leaf : (s : UnderWay) (o : actions.Origin) (told : Origin) → IsTold s o told → operands.leaf_of s (stands o) ≡ operands.leaf_of s told
told_leaf s o told is = ap (read (newest s.frames)) (stands_so o) ∙ ap (operands.leaf_of s) (sym is)

-- ---- binary instructions

pub record IsComputable (s : UnderWay) (to : ℕ) (opcode : Opcode) (width : ℕ) (first second : Origin) : Type 0 where
  pub on : MayGoOn s
  pub place : IsPlace s to
  pub binary : IsTrue (is_binary opcode)
  pub wide : IsWidth width
  pub first_there : IsThere s first
  pub second_there : IsThere s second
  pub first_integer : IsInteger width (operands.leaf_of s first)
  pub second_integer : IsInteger width (operands.leaf_of s second)

module _ (count : ℕ) (p : Pools) (s : UnderWay) where
  pub computable : (to : ℕ) (opcode : Opcode) (flags width : ℕ) (left right : LeafAt) (first second : Origin) → origin_of first ≡ leaf_of p left → origin_of second ≡ leaf_of p right
      → MayAct count p (Compute to opcode flags width left right) s → IsComputable s to opcode width first second
  computable to opcode flags width left right first second is other may =
      let action = Compute to opcode flags width left right in
      let one = had count p action s may (leaf.Int width) first (leaf_of p left) is may.typed.2 in
      let two = had count p action s may (leaf.Int width) second (leaf_of p right) other may.typed.3 in
      record {
        on = may_go_on count p action s may;
        place = place_there count p action s may to (leaf.Int width) may.typed.4;
        binary = may.typed.0;
        wide = may.typed.1;
        first_there = one.there;
        second_there = two.there;
        first_integer = integer_from count width (operands.leaf_of s first) one.typed;
        second_integer = integer_from count width (operands.leaf_of s second) two.typed;
      }

  -- the operands have their places
  pub computes_there : (to : ℕ) (opcode : Opcode) (flags width : ℕ) (left right : LeafAt) → MayAct count p (Compute to opcode flags width left right) s
      → HasPlace (length (newest s.frames).leaves) left × HasPlace (length (newest s.frames).leaves) right
  computes_there to opcode flags width left right may =
      let k = computable to opcode flags width left right (stands (leaf_of p left)) (stands (leaf_of p right)) (stands_so (leaf_of p left)) (stands_so (leaf_of p right)) may in
      (has_place p (length (newest s.frames).leaves) left k.first_there, has_place p (length (newest s.frames).leaves) right k.second_there)

  pub computes_told : (to : ℕ) (opcode : Opcode) (flags width : ℕ) (left right : LeafAt) (first second : Origin) → IsTold s (leaf_of p left) first → IsTold s (leaf_of p right) second
      → MayAct count p (Compute to opcode flags width left right) s → IsComputable s to opcode width first second
  computes_told to opcode flags width left right first second is other may =
      let k = computable to opcode flags width left right (stands (leaf_of p left)) (stands (leaf_of p right)) (stands_so (leaf_of p left)) (stands_so (leaf_of p right)) may in
      record {
        on = k.on;
        place = k.place;
        binary = k.binary;
        wide = k.wide;
        first_there = told_there s (leaf_of p left) first is;
        second_there = told_there s (leaf_of p right) second other;
        first_integer = subst (IsInteger width) (told_leaf s (leaf_of p left) first is) k.first_integer;
        second_integer = subst (IsInteger width) (told_leaf s (leaf_of p right) second other) k.second_integer;
      }

-- ---- comparisons

pub record AreCompared (s : UnderWay) (to width : ℕ) (first second : Origin) : Type 0 where
  pub on : MayGoOn s
  pub place : IsPlace s to
  pub wide : IsWidth width
  pub first_there : IsThere s first
  pub second_there : IsThere s second
  pub alike : AreComparable width (operands.leaf_of s first) (operands.leaf_of s second)

module _ (count : ℕ) (p : Pools) (s : UnderWay) where
  pub compared : (to : ℕ) (predicate : Predicate) (samesign : Bool) (width : ℕ) (left right : LeafAt) (first second : Origin) → origin_of first ≡ leaf_of p left → origin_of second ≡ leaf_of p right
      → MayAct count p (Compare to predicate samesign width left right) s → AreCompared s to width first second
  compared to predicate samesign width left right first second is other may =
      let action = Compare to predicate samesign width left right in
      let kind = may.typed.1.0 in
      let one = had count p action s may kind first (leaf_of p left) is may.typed.1.2 in
      let two = had count p action s may kind second (leaf_of p right) other may.typed.1.3 in
      record {
        on = may_go_on count p action s may;
        place = place_there count p action s may to (leaf.Int 1) may.typed.2;
        wide = may.typed.0;
        first_there = one.there;
        second_there = two.there;
        alike = comparable count width kind (operands.leaf_of s first) (operands.leaf_of s second) may.typed.1.1 one.typed two.typed;
      }

  -- the operands have their places
  pub compares_there : (to : ℕ) (predicate : Predicate) (samesign : Bool) (width : ℕ) (left right : LeafAt) → MayAct count p (Compare to predicate samesign width left right) s
      → HasPlace (length (newest s.frames).leaves) left × HasPlace (length (newest s.frames).leaves) right
  compares_there to predicate samesign width left right may =
      let k = compared to predicate samesign width left right (stands (leaf_of p left)) (stands (leaf_of p right)) (stands_so (leaf_of p left)) (stands_so (leaf_of p right)) may in
      (has_place p (length (newest s.frames).leaves) left k.first_there, has_place p (length (newest s.frames).leaves) right k.second_there)

  pub compares_told : (to : ℕ) (predicate : Predicate) (samesign : Bool) (width : ℕ) (left right : LeafAt) (first second : Origin) → IsTold s (leaf_of p left) first → IsTold s (leaf_of p right) second
      → MayAct count p (Compare to predicate samesign width left right) s → AreCompared s to width first second
  compares_told to predicate samesign width left right first second is other may =
      let k = compared to predicate samesign width left right (stands (leaf_of p left)) (stands (leaf_of p right)) (stands_so (leaf_of p left)) (stands_so (leaf_of p right)) may in
      record {
        on = k.on;
        place = k.place;
        wide = k.wide;
        first_there = told_there s (leaf_of p left) first is;
        second_there = told_there s (leaf_of p right) second other;
        alike =
            subst (λ v. AreComparable width v (operands.leaf_of s second)) (told_leaf s (leaf_of p left) first is)
            (subst (AreComparable width (operands.leaf_of s (stands (leaf_of p left)))) (told_leaf s (leaf_of p right) second other) k.alike);
      }

-- ---- casts

pub record IsConvertible (s : UnderWay) (to : ℕ) (opcode : Opcode) (from_width to_width : ℕ) (operand : Origin) : Type 0 where
  pub on : MayGoOn s
  pub place : IsPlace s to
  pub wide : IsWidth from_width
  pub wide_to : IsWidth to_width
  pub there : IsThere s operand
  pub cast : IsCast opcode from_width to_width (operands.leaf_of s operand)

module _ (count : ℕ) (p : Pools) (s : UnderWay) where
  pub convertible : (to : ℕ) (opcode : Opcode) (flags from_width to_width : ℕ) (value : LeafAt) (operand : Origin) → origin_of operand ≡ leaf_of p value
      → MayAct count p (Convert to opcode flags from_width to_width value) s → IsConvertible s to opcode from_width to_width operand
  convertible to opcode flags from_width to_width value operand is may =
      let action = Convert to opcode flags from_width to_width value in
      let one = had count p action s may (cast_from opcode from_width) operand (leaf_of p value) is may.typed.3 in
      record {
        on = may_go_on count p action s may;
        place = place_there count p action s may to (cast_to opcode to_width) may.typed.4;
        wide = may.typed.0;
        wide_to = may.typed.1;
        there = one.there;
        cast = castable count opcode from_width to_width (operands.leaf_of s operand) may.typed.2 one.typed;
      }

-- ---- what was carried out is what was meant

module _ (p : Pools) (a : Lists) (action : Action) where
  pub converted_so : (to : ℕ) (opcode : Opcode) (flags from_width to_width : ℕ) (value : LeafAt) (operand : Origin) → action ≡ Convert to opcode flags from_width to_width value → origin_of operand ≡ leaf_of p value
      → actions.Convert to opcode flags from_width to_width (origin_of operand) ≡ action_of p a action
  converted_so to opcode flags from_width to_width value operand is one = ap (actions.Convert to opcode flags from_width to_width) one ∙ ap (action_of p a) (sym is)

-- ---- what was carried out with leaves that were told is what was meant

module _ (p : Pools) (a : Lists) (action : Action) (s new : UnderWay) where
  abbrev f : Frame
  f = newest s.frames

  computed_leaves : (to : ℕ) (opcode : Opcode) (flags width : ℕ) (l r : actions.Origin) (result : Result (Unit {0}) UndefinedKind)
      → Acts (actions.Compute to opcode flags width (actions.Known (read f l)) (actions.Known (read f r))) result s new → Acts (actions.Compute to opcode flags width l r) result s new
  computed_leaves to opcode flags width l r (Ok done) h = record { goes = h.goes; width = h.width }
  computed_leaves to opcode flags width l r (Err kind) h = record { fails = h.fails; same = h.same }

  pub computed_told : (to : ℕ) (opcode : Opcode) (flags width : ℕ) (left right : LeafAt) (first second : Origin) (result : Result (Unit {0}) UndefinedKind) → action ≡ Compute to opcode flags width left right
      → IsTold s (leaf_of p left) first → IsTold s (leaf_of p right) second
      → Acts (actions.Compute to opcode flags width (origin_of first) (origin_of second)) result s new → Acts (action_of p a action) result s new
  computed_told to opcode flags width left right first second result is one two h =
      subst (λ x. Acts (action_of p a x) result s new) (sym is)
      (computed_leaves to opcode flags width (leaf_of p left) (leaf_of p right) result
      (subst (λ x. x) (λ i. Acts (actions.Compute to opcode flags width (origin_of (one i)) (origin_of (two i))) result s new) h))

  compared_leaves : (to : ℕ) (predicate : Predicate) (samesign : Bool) (width : ℕ) (l r : actions.Origin)
      → IsCarriedOut (actions.Compare to predicate samesign width (actions.Known (read f l)) (actions.Known (read f r))) s new → IsCarriedOut (actions.Compare to predicate samesign width l r) s new
  compared_leaves to predicate samesign width l r h = record { goes = h.goes; width = h.width }

  pub compared_told : (to : ℕ) (predicate : Predicate) (samesign : Bool) (width : ℕ) (left right : LeafAt) (first second : Origin) → action ≡ Compare to predicate samesign width left right
      → IsTold s (leaf_of p left) first → IsTold s (leaf_of p right) second
      → IsCarriedOut (actions.Compare to predicate samesign width (origin_of first) (origin_of second)) s new → IsCarriedOut (action_of p a action) s new
  compared_told to predicate samesign width left right first second is one two h =
      subst (λ x. IsCarriedOut (action_of p a x) s new) (sym is)
      (compared_leaves to predicate samesign width (leaf_of p left) (leaf_of p right)
      (subst (λ x. x) (λ i. IsCarriedOut (actions.Compare to predicate samesign width (origin_of (one i)) (origin_of (two i))) s new) h))
