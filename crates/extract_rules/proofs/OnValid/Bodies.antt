-- What the body of a function is asked for holds in a module of the same structs that has no intrinsic more.
use Rattle.std.proofs.Common.{◌≡◌, ℕ, ◌+◌, true, false, List, [], ◌∷◌, ◌++◌, length, Option, Some, None, refl, flat_map}
use Rattle.std.specs.List.{list_any}
use Rattle.std.proofs.lemmas.Bool.{and_from, and_parts, or_from, or_parts, not_from_false, not-true}
use Rattle.ir_tables.specs.declared.linkage.Linkage.{Linkage}
use Rattle.type_table.specs.Tree.{Tree, ptr}
use Rattle.module_arena.specs.Module.{Bytes, Constant, Value, Operand, Instruction, Block, Variable, Alias, Function, Module}
use Rattle.module_arena.specs.Module.Constant.{Integer, Truth, Null, Undef, Poison, ZeroInitializer, Address, ByteString, Aggregate, ElementAddress, Cast, Binary}
use Rattle.module_arena.specs.Module.Value.{Local, Known}
use Rattle.module_arena.specs.Constants.{constants_in, address_in}
use Rattle.module_arena.specs.Operations.{operands, ending_operands, callee}
use Rattle.module_arena.specs.EntryRules.{is_only_called, takes_no_intrinsic}
use Rattle.module_arena.specs.InstructionRules.{value_takes_no_intrinsic, callee_takes_no_intrinsic, operands_take_no_intrinsic}
use Rattle.module_arena.specs.Valid.{AllHold, instruction_demands, ending_demands, instructions_demands, blocks_demands, entry_demands}
use Rattle.module_arena.proofs.Parts.{front_holds, rest_holds, both_hold}

-- no name is an intrinsic's that was none
abbrev pub NoMore : Module → Module → Type 0
NoMore m n = (name : Bytes) → is_only_called m name ≡ false → is_only_called n name ≡ false

-- a module with these entries instead
abbrev pub with_entries : Module → List Variable → List Alias → List Function → Module
with_entries m vs as_ fs = record m { variables = vs; aliases = as_; functions = fs }

module _ (m n : Module) (none : NoMore m n) where
  none_of : (names : List Bytes) → list_any (is_only_called m) names ≡ false → list_any (is_only_called n) names ≡ false
  none_of [] h = refl
  none_of (name ∷ names) h =
      let both = or_parts (is_only_called m name) _ h in
      or_from (is_only_called n name) _ (none name both.0) (none_of names both.1)

  pub takes_none : (t : Tree) (c : Constant) → takes_no_intrinsic m t c ≡ true → takes_no_intrinsic n t c ≡ true
  takes_none t c h = not_from_false _ (none_of (flat_map address_in (constants_in t c)) (not-true _ h))

  value_none : (t : Tree) (v : Value) → value_takes_no_intrinsic m t v ≡ true → value_takes_no_intrinsic n t v ≡ true
  value_none t (Local name) h = refl
  value_none t (Known c) h = takes_none t c h

  operands_none : (os : List Operand) → operands_take_no_intrinsic m os ≡ true → operands_take_no_intrinsic n os ≡ true
  operands_none [] h = refl
  operands_none (o ∷ os) h =
      let both = and_parts (value_takes_no_intrinsic m o.ty o.value) _ h in
      and_from _ _ (value_none o.ty o.value both.0) (operands_none os both.1)

  known_none : (c : Constant) → callee_takes_no_intrinsic m (Some (Known c)) ≡ true → callee_takes_no_intrinsic n (Some (Known c)) ≡ true
  known_none (Address name) h = refl
  known_none (Integer k) h = refl
  known_none (Truth truth) h = refl
  known_none Null h = refl
  known_none Undef h = refl
  known_none Poison h = refl
  known_none ZeroInitializer h = refl
  known_none (ByteString bytes) h = refl
  known_none (Aggregate shape elements) h = takes_none ptr (Aggregate shape elements) h
  known_none (ElementAddress flags source os) h = takes_none ptr (ElementAddress flags source os) h
  known_none (Cast opcode from value to) h = takes_none ptr (Cast opcode from value to) h
  known_none (Binary opcode flags a left b right) h = takes_none ptr (Binary opcode flags a left b right) h

  callee_none : (o : Option Value) → callee_takes_no_intrinsic m o ≡ true → callee_takes_no_intrinsic n o ≡ true
  callee_none None h = refl
  callee_none (Some (Local name)) h = refl
  callee_none (Some (Known c)) h = known_none c h

module _ (m : Module) (vs : List Variable) (as_ : List Alias) (fs : List Function) (none : NoMore m (with_entries m vs as_ fs)) (f : Function) (linkage : Linkage) where
  abbrev n : Module
  n = with_entries m vs as_ fs

  abbrev g : Function
  g = record f { linkage = linkage }

  instruction_same : (b : Block) (before k : ℕ) (i : Instruction) → AllHold (instruction_demands m f b before k i) → AllHold (instruction_demands n g b before k i)
  instruction_same b before k i h =
      let both = and_parts (operands_take_no_intrinsic m (operands i.operation)) _ h.0 in
      (and_from _ _ (operands_none m n none (operands i.operation) both.0) (callee_none m n none (callee i.operation) both.1), h.1)

  ending_same : (b : Block) (k : ℕ) → AllHold (ending_demands m f b k) → AllHold (ending_demands n g b k)
  ending_same b k h = (operands_none m n none (ending_operands b.ending) h.0, h.1)

  instructions_same : (b : Block) (before k : ℕ) (xs : List Instruction) → AllHold (instructions_demands m f b before k xs) → AllHold (instructions_demands n g b before k xs)
  instructions_same b before k [] h = ending_same b k h
  instructions_same b before k (i ∷ xs) h =
      both_hold (instruction_demands n g b before k i) _
      (instruction_same b before k i (front_holds (instruction_demands m f b before k i) _ h))
      (instructions_same b (before + 1) (k + 1) xs (rest_holds (instruction_demands m f b before k i) _ h))

  pub blocks_same : (k : ℕ) (bs : List Block) → AllHold (blocks_demands m f k bs) → AllHold (blocks_demands n g k bs)
  blocks_same k [] h = tt
  blocks_same k (b ∷ bs) h =
      both_hold (instructions_demands n g b 0 k b.instructions) _
      (instructions_same b 0 k b.instructions (front_holds (instructions_demands m f b 0 k b.instructions) _ h))
      (blocks_same (k + length b.instructions + 1) bs (rest_holds (instructions_demands m f b 0 k b.instructions) _ h))

  entry_same : (bs : List Block) → AllHold (entry_demands f bs) → AllHold (entry_demands g bs)
  entry_same [] h = tt
  entry_same (b ∷ bs) h = h

  pub body_same : (bs : List Block) → AllHold (entry_demands f bs ++ blocks_demands m f 0 bs) → AllHold (entry_demands g bs ++ blocks_demands n g 0 bs)
  body_same bs h =
      both_hold (entry_demands g bs) _ (entry_same bs (front_holds (entry_demands f bs) _ h)) (blocks_same 0 bs (rest_holds (entry_demands f bs) _ h))
