-- What each phrase comes to, by what its operands have come to.
use Rattle.std.proofs.Common.{◌≡◌, ℕ, Bool, List, Option, Some, map, ap, ◌∙◌}
use Rattle.std.specs.Prelude.{zip, unwrap_or}
use Rattle.ir_tables.specs.declared.flag.Flag.TheVariants.{Inbounds, Samesign}
use Rattle.ir_tables.specs.declared.opcode.Opcode.{Opcode}
use Rattle.ir_tables.specs.declared.predicate.Predicate.{Predicate}
use Rattle.ir_tables.specs.Flags.{has_flag}
use Rattle.module_arena.specs.declared.instruction.Choice.{Choice}
use Rattle.module_arena.specs.declared.instruction.Inst.TheVariants as inst
use Rattle.module_arena.specs.declared.instruction.Insertion.{Insertion}
use Rattle.module_arena.specs.declared.instruction.Operand.{Operand}
use Rattle.module_arena.specs.declared.instruction.Value.{Value}
use Rattle.type_table.specs.Layout.{align, size}
use Rattle.type_table.specs.Shape.{Shape}
use Rattle.type_table.specs.Types.{tree}
use Rattle.run_rules.specs.Action as actions
use Rattle.run_rules.specs.Constant.{shape_of}
use Rattle.run_rules.specs.Displace as displace
use Rattle.run_rules.specs.Leaves.{Slot, is_pointer, slots, width}
use Rattle.run_rules.specs.Resolve.{extracted, index_in, inserted}
use Rattle.run_rules.specs.Scope.{operand_in, scalar_in, scalar_of}
use Rattle.run_names.specs.Shapes.Shapes.{shape_in}
use Rattle.run_initial.specs.Constants.Sound.{names_of}
use Rattle.run_decode.specs.declared.flat.action.Action.TheVariants.{Compute, Compare, Convert, Select, Freeze, Gather, Load, Store, Allocate, Displace}
use Rattle.run_decode.specs.declared.flat.leaf.LeafAt.{LeafAt}
use Rattle.run_decode.specs.declared.flat.leaf.Span.{Span}
use Rattle.run_decode.specs.declared.flat.pools.Pools.{Pools}
use Rattle.run_decode.specs.Flat.Grown.{Adds, AreArms, AreLeaves, AreParts, AreSlots, AreTerms, IsLeaf}
use Rattle.run_decode.proofs.OnFlat.Growth.{leaf_stays, leaves_stay, slots_stay}
use Rattle.run_decode.specs.Scopes.Scopes.{Framed, operand_of, scope_in, to_of, value_of}
use Rattle.run_decode.proofs.OnScopes.Shaped.{shapes_same}
use Rattle.run_decode.proofs.OnOperands.Ended.{mapped_twice}
use Rattle.run_decode.specs.Operations.{Meant, count_in}

module _ (s : Framed) where
  -- the operands that are meant
  abbrev one : Operand → actions.Origin
  one o = scalar_in (scope_in s.lists s.function) (operand_of s.lists s.function o)

  abbrev other : Operand → Value → actions.Origin
  other o v = scalar_of (scope_in s.lists s.function) (tree s.lists.table o.ty) (value_of s.lists s.function v)

  abbrev all : Operand → List actions.Origin
  all o = operand_in (scope_in s.lists s.function) (operand_of s.lists s.function o)

  abbrev shaped : ℕ → Shape
  shaped ty = shape_in s.lists.table ty

  abbrev wide : ℕ → ℕ
  wide ty = width (shaped ty)

  widths_same : (ty : ℕ) → wide ty ≡ width (shape_of (names_of s.lists) (tree s.lists.table ty))
  widths_same ty = ap width (shapes_same s.lists ty)

  aligned_same : (stated : Option ℕ) (ty : ℕ) → unwrap_or stated (align (shaped ty)) ≡ unwrap_or stated (align (shape_of (names_of s.lists) (tree s.lists.table ty)))
  aligned_same stated ty = ap (λ (x : Shape). unwrap_or stated (align x)) (shapes_same s.lists ty)

  slots_same : (ty : ℕ) → slots (shaped ty) ≡ slots (shape_of (names_of s.lists) (tree s.lists.table ty))
  slots_same ty = ap slots (shapes_same s.lists ty)

  -- ---- of one step

  pub convert_meant : (q : Pools) (opcode : Opcode) (flags result to from_width to_width ty : ℕ) (operand : Operand) (v : LeafAt) → to ≡ to_of s (Some result) → from_width ≡ wide operand.ty → to_width ≡ wide ty → IsLeaf q v (one operand)
      → Meant s q (inst.Convert opcode flags result operand ty) (Convert to opcode flags from_width to_width v)
  convert_meant q opcode flags result to from_width to_width ty operand v there from towards leaf = record {
    within = leaf.within;
    means = λ i. actions.Convert (there i) opcode flags ((from ∙ widths_same operand.ty) i) ((towards ∙ widths_same ty) i) (leaf.means i);
  }

  pub freeze_meant : (q : Pools) (result to : ℕ) (operand : Operand) (span : Span) → to ≡ to_of s (Some result) → AreParts q span (zip (map (λ (x : Slot). is_pointer x.leaf) (slots (shaped operand.ty))) (all operand))
      → Meant s q (inst.Freeze result operand) (Freeze to span)
  freeze_meant q result to operand span there parts = record {
    within = parts.within;
    means = λ i. actions.Freeze (there i) ((parts.means ∙ ap (λ (xs : List Slot). zip (map (λ (x : Slot). is_pointer x.leaf) xs) (all operand)) (slots_same operand.ty)) i);
  }

  pub alloca_meant : (q : Pools) (result to al bytes ty : ℕ) (count : Option Operand) (alignment : Option ℕ) (c : LeafAt) → to ≡ to_of s (Some result) → al ≡ unwrap_or alignment (align (shaped ty)) → bytes ≡ size (shaped ty) → IsLeaf q c (count_in s count)
      → Meant s q (inst.Alloca result ty count alignment) (Allocate to al bytes c)
  alloca_meant q result to al bytes ty count alignment c there aligned sized leaf = record {
    within = leaf.within;
    means = λ i. actions.Allocate (there i) ((sized ∙ ap size (shapes_same s.lists ty)) i) ((aligned ∙ aligned_same alignment ty) i) (leaf.means i);
  }

  pub extract_meant : (q : Pools) (result to : ℕ) (aggregate : Operand) (indices : List ℕ) (v : Span) → to ≡ to_of s (Some result) → AreLeaves q v (extracted (scope_in s.lists s.function) (operand_of s.lists s.function aggregate) indices)
      → Meant s q (inst.ExtractValue result aggregate indices) (Gather to v)
  extract_meant q result to aggregate indices v there leaves = record { within = leaves.within; means = λ i. actions.Gather (there i) (leaves.means i) }

  pub insert_meant : (q : Pools) (result to : ℕ) (x : Insertion) (v : Span) → to ≡ to_of s (Some result)
      → AreLeaves q v (inserted (scope_in s.lists s.function) (operand_of s.lists s.function x.aggregate) (operand_of s.lists s.function x.part) x.indices) → Meant s q (inst.InsertValue result x) (Gather to v)
  insert_meant q result to x v there leaves = record { within = leaves.within; means = λ i. actions.Gather (there i) (leaves.means i) }

  -- ---- of two steps, one after the other

  module _ (p q : Pools) (g : Adds p q) where
    pub binary_meant : (opcode : Opcode) (flags result to w : ℕ) (left : Operand) (right : Value) (l r : LeafAt) → to ≡ to_of s (Some result) → w ≡ wide left.ty → IsLeaf p l (one left) → IsLeaf q r (other left right)
        → Meant s q (inst.Binary opcode flags result left right) (Compute to opcode flags w l r)
    binary_meant opcode flags result to w left right l r there bits first second =
        let kept = leaf_stays p q g.grows l (one left) first in
        record {
          within = (kept.within, second.within);
          means = λ i. actions.Compute (there i) opcode flags ((bits ∙ widths_same left.ty) i) (kept.means i) (second.means i);
        }

    pub compare_meant : (flags : ℕ) (predicate : Predicate) (result to w : ℕ) (samesign : Bool) (left : Operand) (right : Value) (l r : LeafAt) → to ≡ to_of s (Some result) → samesign ≡ has_flag flags Samesign → w ≡ wide left.ty
        → IsLeaf p l (one left) → IsLeaf q r (other left right) → Meant s q (inst.Compare flags predicate result left right) (Compare to predicate samesign w l r)
    compare_meant flags predicate result to w samesign left right l r there signs bits first second =
        let kept = leaf_stays p q g.grows l (one left) first in
        record {
          within = (kept.within, second.within);
          means = λ i. actions.Compare (there i) predicate (signs i) ((bits ∙ widths_same left.ty) i) (kept.means i) (second.means i);
        }

    pub select_meant : (result to : ℕ) (choice : Choice) (c : LeafAt) (span : Span) → to ≡ to_of s (Some result) → IsLeaf p c (one choice.condition) → AreArms q span (zip (all choice.first) (all choice.second))
        → Meant s q (inst.Select result choice) (Select to c span)
    select_meant result to choice c span there condition arms =
        let kept = leaf_stays p q g.grows c (one choice.condition) condition in
        record { within = (kept.within, arms.within); means = λ i. actions.Select (there i) (kept.means i) (arms.means i) }

    -- slots first, then the address
    pub load_meant : (flags result to al ty : ℕ) (address : Operand) (alignment : Option ℕ) (span : Span) (at : LeafAt) → to ≡ to_of s (Some result) → al ≡ unwrap_or alignment (align (shaped ty)) → AreSlots p span (slots (shaped ty))
        → IsLeaf q at (one address) → Meant s q (inst.Load flags result ty address alignment) (Load to al at span)
    load_meant flags result to al ty address alignment span at there aligned which leaf =
        let kept = slots_stay p q g.grows span (slots (shaped ty)) which in
        record {
          within = (leaf.within, kept.within);
          means = λ i. actions.Load (there i) ((aligned ∙ aligned_same alignment ty) i) (leaf.means i) ((kept.means ∙ slots_same ty) i);
        }

    pub displace_meant : (flags result to source : ℕ) (inbounds : Bool) (base : Operand) (indices : List Operand) (b : LeafAt) (span : Span) (sum : ℕ) → to ≡ to_of s (Some result) → inbounds ≡ has_flag flags Inbounds → IsLeaf p b (one base)
        → AreTerms q span sum (displace.terms_of (shaped source) (map (λ (o : Operand). index_in (scope_in s.lists s.function) (operand_of s.lists s.function o)) indices))
        → Meant s q (inst.GetElementPtr flags result source base indices) (Displace to inbounds b span sum)
    displace_meant flags result to source inbounds base indices b span sum there bounded leaf terms =
        let kept = leaf_stays p q g.grows b (one base) leaf in
        let twice = mapped_twice (index_in (scope_in s.lists s.function)) (operand_of s.lists s.function) indices in
        record {
          within = (kept.within, terms.within);
          means = λ i. actions.Displace (there i) (bounded i) (kept.means i) ((terms.means ∙ (λ j. displace.terms_of (shapes_same s.lists source j) (twice j))) i);
        }

    -- ---- of three

    module _ (r : Pools) (h : Adds q r) where
      pub store_meant : (flags al : ℕ) (stored address : Operand) (alignment : Option ℕ) (sp vs : Span) (at : LeafAt) → al ≡ unwrap_or alignment (align (shaped stored.ty)) → AreSlots p sp (slots (shaped stored.ty)) → AreLeaves q vs (all stored)
          → IsLeaf r at (one address) → Meant s r (inst.Store flags stored address alignment) (Store al at sp vs)
      store_meant flags al stored address alignment sp vs at aligned which leaves leaf =
          let kept = slots_stay q r h.grows sp (slots (shaped stored.ty)) (slots_stay p q g.grows sp (slots (shaped stored.ty)) which) in
          let value = leaves_stay q r h.grows vs (all stored) leaves in
          record {
            within = (leaf.within, kept.within, value.within);
            means = λ i. actions.Store ((aligned ∙ aligned_same alignment stored.ty) i) (leaf.means i) (zip ((kept.means ∙ slots_same stored.ty) i) (value.means i));
          }
