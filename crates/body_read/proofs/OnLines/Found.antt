-- Instructions on numbers and on parts of values, from what their parts are found to be.
use Rattle.std.proofs.Common.{◌≡◌, ℕ, List, [], ◌∷◌, Option, Some, None, refl, sym, ap, subst, ◌∙◌}
use Rattle.std.specs.Option.{option_map}
use Rattle.std.proofs.lemmas.List.Elements.{All-nil, All-cons}
use Rattle.ir_tables.specs.declared.opcode.Opcode.{Opcode}
use Rattle.ir_tables.specs.declared.opcode.Opcode.TheVariants as op
use Rattle.ir_tables.specs.declared.predicate.Predicate.{Predicate}
use Rattle.type_table.specs.Tree.{Tree, int}
use Rattle.type_table.specs.Types.{Types}
use Rattle.module_arena.specs.declared.instruction.Choice.{Choice}
use Rattle.module_arena.specs.declared.instruction.Insertion.{Insertion}
use Rattle.module_arena.specs.declared.instruction.Incoming.{Incoming}
use Rattle.module_arena.specs.declared.instruction.Inst.TheVariants as inst
use Rattle.module_arena.specs.declared.instruction.Operand.{Operand}
use Rattle.module_arena.specs.declared.instruction.Value.{Value}
use Rattle.module_arena.specs.Lists.{Lists}
use Rattle.module_arena.specs.Module as m
use Rattle.module_arena.proofs.Replaced.{one_all}
use Rattle.record_table.specs.Constants.{value}
use Rattle.record_table.specs.Fields.{Numbering, block, flags, index, predicate, ty}
use Rattle.record_table.specs.Layout.{counted_some}
use Rattle.record_table.specs.Lines.{incoming, typed_value}
use Rattle.record_table.specs.Walk.{Walk}
use Rattle.record_read.specs.Reader.{Reader}
use Rattle.type_read.specs.declared.arena.counts.LocalCounts.{LocalCounts}
use Rattle.type_read.specs.declared.arena.module_reader.ModuleReader.{ModuleReader}
use Rattle.type_read.specs.Arena.Growing.{IsType}
use Rattle.type_read.specs.Arena.Kept.{IsKnownType, ReadsType, TakesOnly, tree_at}
use Rattle.type_read.specs.Arena.Numbered.{Numbers}
use Rattle.type_read.proofs.OnArena.Kept.{same_table}
use Rattle.type_read.proofs.OnArena.LeavesRead.{goes_takes}
use Rattle.body_read.specs.Operands.Found.{Finds, HasBlock, HasOperand, HasType, HasValue, block_in, both, operand_at, operand_in, type_in, value_in}
use Rattle.body_read.proofs.OnOperands.Joined.{HasAny, HasBoth, also, and_then, behind, both_in, put_so, starting}
use Rattle.body_read.proofs.OnOperands.Leaves.{type_found, type_is}
use Rattle.body_read.specs.Lines.Kept.{GivesInst, HasInst, HasIncoming, HasIndices, HaveIncoming, all_incoming_in, incoming_in, indices_in, kept_binary, kept_choice, kept_comparison, kept_conversion, kept_extraction, kept_incoming, kept_insertion, kept_phi, operation_in}
use Rattle.body_read.specs.Lines.Operations.{computation, conversion, operation}
use Rattle.body_read.proofs.OnLines.Fields.{plain_in}
use Rattle.body_read.proofs.OnLines.Lists.{map_all, map_same}

-- what is made twice over
pub mapped_two : {A B C : Type 0} (f : B → C) (g : A → B) (x : Option A) → option_map f (option_map g x) ≡ option_map (λ y. f (g y)) x
mapped_two f g None = refl
mapped_two f g (Some x) = refl

-- the type, and an operand and a value of it
abbrev pub pair_read : Numbering → Walk → (m.Operand × m.Value) × Walk
pair_read k w = let t = (ty k).read w in behind (λ k. operand_at k t.0) (λ p k. (value k t.0).read) k t.1

module _ (a b c d : ModuleReader) (t : Option ℕ) (l : Option Operand) (r : Option Value) (takes : TakesOnly a b) (reads : (k : Numbering) → Numbers a k → ReadsType k a b t) where
  pub pair_found : Finds HasOperand operand_in (λ k. operand_at k (tree_at b.growing.arena.table t)) b c l → Finds HasValue value_in (λ k. (value k (tree_at c.growing.arena.table t)).read) c d r
      → Finds (HasBoth HasOperand HasValue) (both_in operand_in value_in) pair_read a d (both l r)
  pair_found h i =
      starting pair_read a b d (both l r) (goes_takes a b takes) (also b c d l r h i)
      (λ k n.
      let first = type_is a b t takes reads k n in
      let second = ap (λ (s : Types). tree_at s t) (same_table b.growing c.growing h.goes.grows) ∙ first in
      let at = ap (λ (q : Reader). q.walk) (reads k n).reader in
      λ j. behind (λ k. operand_at k (first j)) (λ p k. (value k (second j)).read) k (at j))

-- an operand and a value
pair_known : (l : LocalCounts) (a : Lists) (defined : ℕ) (o : Opcode) (f : ℕ) (x : Operand) (v : Value) → HasOperand l a x → HasValue l a v → HasInst l a (inst.Binary o f defined x v)
pair_known l a defined o f x v h i = record {
  operands_known = one_all (HasOperand l a) x h;
  values_known = one_all (HasValue l a) v i;
  types_known = λ k d lt. All-nil (HasType l a) k d lt;
  blocks_known = λ k d lt. All-nil (HasBlock l a) k d lt;
}

pub computation_found : (o : Opcode) (defined : ℕ) (a b c : ModuleReader) (bits : ℕ) (l : Option Operand) (r : Option Value) → Finds HasAny plain_in (λ k. (flags o).read) a b (Some bits) → Finds (HasBoth HasOperand HasValue) (both_in operand_in value_in) pair_read b c (both l r)
    → Finds (GivesInst defined) operation_in (λ k. (computation k o).read) a c (option_map (kept_binary o defined) (both (Some bits) (both l r)))
computation_found o defined a b c bits l r h i =
    put_so (GivesInst defined) operation_in (kept_binary o defined) (λ (f, (x, y)). m.BinaryOperation o f x y) a c (both (Some bits) (both l r))
    (λ n q y has. (pair_known n q defined o y.0 y.1.0 y.1.1 has.1.0 has.1.1, refl)) (λ k q y. refl) (also a b c (Some bits) (both l r) h i)

pub comparison_found : (defined : ℕ) (a b c d : ModuleReader) (bits : ℕ) (p : Predicate) (l : Option Operand) (r : Option Value) → Finds HasAny plain_in (λ k. (flags op.ICmp).read) a b (Some bits) → Finds HasAny plain_in (λ k. predicate.read) b c (Some p)
    → Finds (HasBoth HasOperand HasValue) (both_in operand_in value_in) pair_read c d (both l r)
    → Finds (GivesInst defined) operation_in (λ k. (operation k op.ICmp).read) a d (option_map (kept_comparison defined) (both (Some bits) (both (Some p) (both l r))))
comparison_found defined a b c d bits p l r h i j =
    put_so (GivesInst defined) operation_in (kept_comparison defined) (λ (f, (p, (x, y))). m.Compare f p x y) a d (both (Some bits) (both (Some p) (both l r)))
    (λ n q y has. (
      record {
        operands_known = one_all (HasOperand n q) y.1.1.0 has.1.1.0;
        values_known = one_all (HasValue n q) y.1.1.1 has.1.1.1;
        types_known = All-nil (HasType n q);
        blocks_known = All-nil (HasBlock n q);
      },
      refl,
    ))
    (λ k q y. refl) (also a b d (Some bits) (both (Some p) (both l r)) h (also b c d (Some p) (both l r) i j))

pub conversion_found : (o : Opcode) (defined : ℕ) (a b c d : ModuleReader) (bits : ℕ) (x : Option Operand) (to : Option ℕ) → Finds HasAny plain_in (λ k. (flags o).read) a b (Some bits) → Finds HasOperand operand_in (λ k. (typed_value k).read) b c x
    → Finds HasType type_in (λ k. (ty k).read) c d to → Finds (GivesInst defined) operation_in (λ k. (conversion k o).read) a d (option_map (kept_conversion o defined) (both (Some bits) (both x to)))
conversion_found o defined a b c d bits x to h i j =
    put_so (GivesInst defined) operation_in (kept_conversion o defined) (λ (f, (x, t)). m.Convert o f x t) a d (both (Some bits) (both x to))
    (λ n q y has. (
      record {
        operands_known = one_all (HasOperand n q) y.1.0 has.1.0;
        values_known = All-nil (HasValue n q);
        types_known = one_all (HasType n q) y.1.1 has.1.1;
        blocks_known = All-nil (HasBlock n q);
      },
      refl,
    ))
    (λ k q y. refl) (also a b d (Some bits) (both x to) h (also b c d x to i j))

-- ---- select

abbrev choice_read : Numbering → Walk → (m.Operand × (m.Operand × m.Operand)) × Walk
choice_read k w = let t = (ty k).read w in behind (λ k. operand_at k (int 1)) (λ p. behind (λ k. operand_at k t.0) (λ p k. operand_at k t.0)) k t.1

pub select_found : (defined bit : ℕ) (a b c d e : ModuleReader) (t : Option ℕ) (x l r : Option Operand) → TakesOnly a b → ((k : Numbering) → Numbers a k → ReadsType k a b t) → IsType b.growing.arena bit (int 1)
    → Finds HasOperand operand_in (λ k. operand_at k (tree_at b.growing.arena.table (Some bit))) b c x → Finds HasOperand operand_in (λ k. operand_at k (tree_at c.growing.arena.table t)) c d l
    → Finds HasOperand operand_in (λ k. operand_at k (tree_at d.growing.arena.table t)) d e r
    → Finds (GivesInst defined) operation_in (λ k. (operation k op.Select).read) a e (option_map (λ (y : Choice). inst.Select defined y) (option_map kept_choice (both x (both l r))))
select_found defined bit a b c d e t x l r takes reads is h i j =
    subst (Finds (GivesInst defined) operation_in (λ k. (operation k op.Select).read) a e) (sym (mapped_two (λ (y : Choice). inst.Select defined y) kept_choice (both x (both l r))))
    (put_so (GivesInst defined) operation_in (λ y. inst.Select defined (kept_choice y)) (λ (x, (y, z)). m.Select x y z) a e (both x (both l r))
    (λ n q y has. (
      record {
        operands_known = All-cons (HasOperand n q) y.0 (y.1.0 ∷ y.1.1 ∷ []) has.0 (All-cons (HasOperand n q) y.1.0 (y.1.1 ∷ []) has.1.0 (one_all (HasOperand n q) y.1.1 has.1.1));
        values_known = All-nil (HasValue n q);
        types_known = All-nil (HasType n q);
        blocks_known = All-nil (HasBlock n q);
      },
      refl,
    ))
    (λ k q y. refl)
    (starting choice_read a b e (both x (both l r)) (goes_takes a b takes) (also b c e x (both l r) h (also c d e l r i j))
    (λ k n.
    let first = type_is a b t takes reads k n in
    let second = ap (λ (s : Types). tree_at s t) (same_table b.growing c.growing h.goes.grows) ∙ first in
    let third = ap (λ (s : Types). tree_at s t) (same_table c.growing d.growing i.goes.grows) ∙ second in
    let at = ap (λ (q : Reader). q.walk) (reads k n).reader in
    λ v. behind (λ k. operand_at k (is.tree_is v)) (λ p. behind (λ k. operand_at k (second v)) (λ p k. operand_at k (third v))) k (at v))))

-- ---- freeze, phi

pub freeze_found : (defined : ℕ) (a b : ModuleReader) (x : Option Operand) → Finds HasOperand operand_in (λ k. (typed_value k).read) a b x
    → Finds (GivesInst defined) operation_in (λ k. (operation k op.Freeze).read) a b (option_map (λ (o : Operand). inst.Freeze defined o) x)
freeze_found defined a b x h =
    put_so (GivesInst defined) operation_in (λ (o : Operand). inst.Freeze defined o) (λ (o : m.Operand). m.Freeze o) a b x
    (λ n q y has. (
      record {
        operands_known = one_all (HasOperand n q) y has;
        values_known = All-nil (HasValue n q);
        types_known = All-nil (HasType n q);
        blocks_known = All-nil (HasBlock n q);
      },
      refl,
    ))
    (λ k q y. refl) h

-- a value of a phi of its parts
abbrev incoming_of_parts : m.Value × m.LocalName → m.Incoming
incoming_of_parts (v, b) = record { value = v; block = b }

pub incoming_found : (t : Tree) (a b c : ModuleReader) (x : Option Value) (y : Option ℕ) → Finds HasValue value_in (λ k. (value k t).read) a b x → Finds HasBlock block_in (λ k. (block k).read) b c y
    → Finds HasIncoming incoming_in (λ k. (incoming k t).read) a c (option_map kept_incoming (both x y))
incoming_found t a b c x y h i =
    put_so HasIncoming incoming_in kept_incoming incoming_of_parts a c (both x y) (λ l q w has. (has.0, has.1)) (λ k q w. refl) (also a b c x y h i)

pub phi_found : (defined : ℕ) (a b c : ModuleReader) (t : Option ℕ) (is : Option (List Incoming)) → TakesOnly a b → IsKnownType b t → ((k : Numbering) → Numbers a k → ReadsType k a b t)
    → Finds HaveIncoming all_incoming_in (λ k. (counted_some (incoming k (tree_at b.growing.arena.table t))).read) b c is
    → Finds (GivesInst defined) operation_in (λ k. (operation k op.Phi).read) a c (option_map (kept_phi defined) (both t is))
phi_found defined a b c t is takes known reads h =
    put_so (GivesInst defined) operation_in (kept_phi defined) (λ (t, all). m.Phi t all) a c (both t is)
    (λ n q y has. (
      record {
        operands_known = All-nil (HasOperand n q);
        values_known = map_all (HasValue n q) (λ (i : Incoming). HasValue n q i.value × HasBlock n q i.block) (λ (i : Incoming). i.value) y.1 (λ i g. g.0) has.1;
        types_known = one_all (HasType n q) y.0 has.0;
        blocks_known = map_all (HasBlock n q) (λ (i : Incoming). HasValue n q i.value × HasBlock n q i.block) (λ (i : Incoming). i.block) y.1 (λ i g. g.1) has.1;
      },
      refl,
    ))
    (λ k q y. refl)
    (and_then (λ u k. (counted_some (incoming k u)).read) a b c t is (type_found a b t takes known reads) h (λ k n w. ap (λ (u : Tree). (counted_some (incoming k u)).read w) (type_is a b t takes reads k n)))

-- ---- parts of values

pub extraction_found : (defined : ℕ) (a b c : ModuleReader) (x : Option Operand) (is : Option (List ℕ)) → Finds HasOperand operand_in (λ k. (typed_value k).read) a b x → Finds HasIndices indices_in (λ k. (counted_some index).read) b c is
    → Finds (GivesInst defined) operation_in (λ k. (operation k op.ExtractValue).read) a c (option_map (kept_extraction defined) (both x is))
extraction_found defined a b c x is h i =
    put_so (GivesInst defined) operation_in (kept_extraction defined) (λ (x, all). m.ExtractValue x all) a c (both x is)
    (λ n q y has. (
      record {
        operands_known = one_all (HasOperand n q) y.0 has.0;
        values_known = All-nil (HasValue n q);
        types_known = All-nil (HasType n q);
        blocks_known = All-nil (HasBlock n q);
      },
      refl,
    ))
    (λ k q y. ap (λ (all : List ℕ). m.ExtractValue (operand_in k q y.0) all) (sym (map_same y.1))) (also a b c x is h i)

pub insertion_found : (defined : ℕ) (a b c d : ModuleReader) (x p : Option Operand) (is : Option (List ℕ)) → Finds HasOperand operand_in (λ k. (typed_value k).read) a b x → Finds HasOperand operand_in (λ k. (typed_value k).read) b c p
    → Finds HasIndices indices_in (λ k. (counted_some index).read) c d is
    → Finds (GivesInst defined) operation_in (λ k. (operation k op.InsertValue).read) a d (option_map (λ (y : Insertion). inst.InsertValue defined y) (option_map kept_insertion (both x (both p is))))
insertion_found defined a b c d x p is h i j =
    subst (Finds (GivesInst defined) operation_in (λ k. (operation k op.InsertValue).read) a d) (sym (mapped_two (λ (y : Insertion). inst.InsertValue defined y) kept_insertion (both x (both p is))))
    (put_so (GivesInst defined) operation_in (λ y. inst.InsertValue defined (kept_insertion y)) (λ (x, (p, all)). m.InsertValue x p all) a d (both x (both p is))
    (λ n q y has. (
      record {
        operands_known = All-cons (HasOperand n q) y.0 (y.1.0 ∷ []) has.0 (one_all (HasOperand n q) y.1.0 has.1.0);
        values_known = All-nil (HasValue n q);
        types_known = All-nil (HasType n q);
        blocks_known = All-nil (HasBlock n q);
      },
      refl,
    ))
    (λ k q y. ap (λ (all : List ℕ). m.InsertValue (operand_in k q y.0) (operand_in k q y.1.0) all) (sym (map_same y.1.1))) (also a b d x (both p is) h (also b c d p is i j)))
