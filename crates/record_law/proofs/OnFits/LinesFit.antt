-- The instructions and ends of blocks of a well-formed and valid module are read of what they spell, but for the names of results.
use Rattle.std.proofs.Common.{◌≡◌, ℕ, ◌^◌, Bool, true, ◌&&◌, ◌||◌, not, List, [], ◌∷◌, ◌++◌, map, flat_map, Option, Some, None, refl, sym, ap, subst, inl, inr}
use Rattle.std.specs.Prelude.{is_none, nat_lt, nat_eq, ⊤}
use Rattle.std.specs.List.{list_all, list_any, AllByRecursion}
use Rattle.std.proofs.lemmas.Bool.{and_parts, or_left, or_right, or_cases, eqb-true, eq-eqb, false≢true}
use Rattle.ir_tables.specs.declared.opcode.Opcode.TheVariants as op
use Rattle.type_table.specs.Tree.{Tree, int, ptr, void, array, struct, named}
use Rattle.module_arena.specs.Module.{LocalName, Value, Operand, Incoming, Operation, BinaryOperation, Compare, Convert, Select, Freeze, Phi, Load, Store, Alloca, GetElementPtr, Call, ExtractValue, InsertValue, Case, Ending, ReturnVoid, Return, Jump, Branch, Switch, Unreachable, Function, Module}
use Rattle.module_arena.specs.Same.{same_type, has_local}
use Rattle.module_arena.specs.EntryRules.{alignments, alignment_suits}
use Rattle.module_arena.specs.Forms.{is_binary, is_cast, are_flags_of, are_indices, is_not_empty, is_small_alignment, is_operation_of_phrase}
use Rattle.module_arena.specs.InstructionRules.{operation_alignment_suits}
use Rattle.module_arena.specs.Names.{blocks_of_operation}
use Rattle.module_arena.specs.Operations.{operands, ending_operands, callee, incoming_operand, case_operand, targets, local_in}
use Rattle.module_arena.specs.TypeTests.{is_integer, is_integer_of, is_pointer, is_void}
use Rattle.module_arena.specs.ValueRules.{value_fits, operands_fit, arithmetic_suits, address_suits, element_address_suits, arguments_suit, call_suits, is_pointer_value, is_case_of, ending_suits}
use Rattle.module_arena.specs.WellFormed.{is_good_constant, known_in, known_of_operands}
use Rattle.module_arena.proofs.SameValues.{type_is}
use Rattle.record_table.specs.Fields.{same_option, coded_alignments}
use Rattle.record_table.specs.Listed.{IsListed, AreSome, IsBlock, IsAlignment}
use Rattle.record_table.specs.FittingConstants.{Fits, ValueFits, OperandFits}
use Rattle.record_table.specs.FittingLines.{AreIndices, FitsPlace, IncomingFits, AreArguments, OperationFits, CaseFits, EndingFits}
use Rattle.record_table.specs.Mentions.{in_value, in_operand, in_incoming, in_operation, in_case, in_ending, mentioned}
use Rattle.record_law.proofs.OnTypes.Places.{is_listed}
use Rattle.record_law.proofs.OnTypes.Tests.{all_front, all_rest, each_passes, front_of, rest_of}
use Rattle.record_law.proofs.OnTypes.TypesInOrder.{has}
use Rattle.record_law.proofs.OnFits.ConstantsFit.{pointer_is, here, type_listed, local_listed, IsSoundValue, value_back, known_fits}

one_bit : (t : Tree) → is_integer_of 1 t ≡ true → t ≡ int 1
one_bit (int width) h = ap int (eqb-true width 1 h)
one_bit ptr h = absurd (false≢true h)
one_bit void h = absurd (false≢true h)
one_bit (array n t) h = absurd (false≢true h)
one_bit (struct packed ts) h = absurd (false≢true h)
one_bit (named name) h = absurd (false≢true h)

-- ---- alignments

option_is : (x y : Option ℕ) → same_option x y ≡ true → x ≡ y
option_is None None h = refl
option_is (Some m) (Some n) h = ap (λ (k : ℕ). Some k) (eqb-true m n h)
option_is None (Some n) h = absurd (false≢true h)
option_is (Some m) None h = absurd (false≢true h)

option_self : (x : Option ℕ) → same_option x x ≡ true
option_self None = refl
option_self (Some n) = eq-eqb n n refl

some_among : (n : ℕ) (ns : List ℕ) → list_any (nat_eq n) ns ≡ true → list_any (same_option (Some n)) (map (λ (k : ℕ). Some k) ns) ≡ true
some_among n [] h = h
some_among n (k ∷ ns) h = elim (or_cases (nat_eq n k) (list_any (nat_eq n) ns) h) [
  | inl is ↦ or_left (nat_eq n k) (list_any (same_option (Some n)) (map (λ (k : ℕ). Some k) ns)) is
  | inr later ↦ or_right (nat_eq n k) (list_any (same_option (Some n)) (map (λ (k : ℕ). Some k) ns)) (some_among n ns later)
]

coded : (align : Option ℕ) → alignment_suits align ≡ true → list_any (same_option align) coded_alignments ≡ true
coded None h = refl
coded (Some n) h = some_among n alignments h

-- an alignment that suits has a code
pub has_code : (align : Option ℕ) → alignment_suits align ≡ true → IsAlignment align
has_code align h = is_listed same_option option_is option_self coded_alignments None align (coded align h)

-- ---- indices
indices_are : (is : List ℕ) → are_indices is ≡ true → AreIndices is
indices_are [] h = absurd (false≢true h)
indices_are (i ∷ is) h = each_passes (λ n. nat_lt n 0x1_0000_0000) (i ∷ is) (and_parts (is_not_empty (i ∷ is)) (list_all (λ k. nat_lt k (2 ^ 32)) (i ∷ is)) h).1

module _ (m : Module) (values blocks : List LocalName) where
  abbrev There : List Tree → Type 0
  There ts = AllByRecursion (λ t. has (mentioned m) t ≡ true) ts

  abbrev Sound : Operand → Type 0
  Sound o = IsSoundValue m values blocks o.ty o.value

  -- what is said of a callee, where there is one
  abbrev pub CalleeSound : Option Value → Type 0
  CalleeSound None = ⊤
  CalleeSound (Some v) = IsSoundValue m values blocks ptr v

  -- what is said of operands, operand by operand
  pub sound_operands : (os : List Operand) → operands_fit m.structs os ≡ true → list_all (is_good_constant m) (known_of_operands os) ≡ true → list_all (has_local values) (flat_map (λ o. local_in o.value) os) ≡ true → AllByRecursion Sound os
  sound_operands [] f g l = tt
  sound_operands (o ∷ os) f g l =
      let p = and_parts (value_fits m.structs o.ty o.value) (operands_fit m.structs os) f in
      let others = flat_map (λ (o : Operand). local_in o.value) os in (
        record {
          fit = p.0;
          good = all_front (is_good_constant m) (known_in o.ty o.value) (known_of_operands os) g;
          known = all_front (has_local values) (local_in o.value) others l;
        },
        sound_operands os p.1 (all_rest (is_good_constant m) (known_in o.ty o.value) (known_of_operands os) g) (all_rest (has_local values) (local_in o.value) others l),
      )

  value_in : (t : Tree) (v : Value) → IsSoundValue m values blocks t v → There (in_value v) → ValueFits (here m values blocks) t v
  value_in t v s there = value_back m values blocks t v s there

  operand_in : (o : Operand) → Sound o → There (in_operand o) → OperandFits (here m values blocks) o
  operand_in o s there = (type_listed m values blocks o.ty there.0, value_in o.ty o.value s there.1)

  -- at a place of that type
  place_in : (t : Tree) (o : Operand) → o.ty ≡ t → Sound o → There (in_operand o) → FitsPlace (here m values blocks) t o
  place_in t o is s there = (is, subst (λ (u : Tree). ValueFits (here m values blocks) u o.value) is (value_in o.ty o.value s there.1))

  block_in : (b : LocalName) → has_local blocks b ≡ true → IsBlock (here m values blocks) b
  block_in b h = local_listed m values blocks blocks b h

  incoming_in : (t : Tree) (is : List Incoming) → AllByRecursion Sound (map (incoming_operand t) is) → There (flat_map in_incoming is) → list_all (has_local blocks) (map (λ i. i.block) is) ≡ true
      → AllByRecursion (IncomingFits (here m values blocks) t) is
  incoming_in t [] s there known = tt
  incoming_in t (i ∷ is) s there known =
      let p = and_parts (has_local blocks i.block) (list_all (has_local blocks) (map (λ (i : Incoming). i.block) is)) known in
      let P = λ (t : Tree). has (mentioned m) t ≡ true in
      ((value_in t i.value s.0 (front_of P (in_value i.value) (flat_map in_incoming is) there), block_in i.block p.0), incoming_in t is s.1 (rest_of P (in_value i.value) (flat_map in_incoming is) there) p.1)

  some_incoming : (t : Tree) (is : List Incoming) → is_not_empty is ≡ true → AllByRecursion (IncomingFits (here m values blocks) t) is → AreSome (IncomingFits (here m values blocks) t) is
  some_incoming t [] some all = absurd (false≢true some)
  some_incoming t (i ∷ is) some all = all

  operands_in : (os : List Operand) → AllByRecursion Sound os → There (flat_map in_operand os) → AllByRecursion (OperandFits (here m values blocks)) os
  operands_in [] s there = tt
  operands_in (o ∷ os) s there =
      let P = λ (t : Tree). has (mentioned m) t ≡ true in
      (operand_in o s.0 (front_of P (in_operand o) (flat_map in_operand os) there), operands_in os s.1 (rest_of P (in_operand o) (flat_map in_operand os) there))

  further : (os : List Operand) → AllByRecursion (OperandFits (here m values blocks)) os → AreArguments (here m values blocks) [] os
  further [] all = tt
  further (x ∷ xs) all = (all.0, further xs all.1)

  arguments_in : (variadic : Bool) (ts : List Tree) (os : List Operand) → arguments_suit variadic ts os ≡ true → AllByRecursion (OperandFits (here m values blocks)) os → AreArguments (here m values blocks) ts os
  arguments_in variadic [] os h all = further os all
  arguments_in variadic (t ∷ ts) [] h all = tt
  arguments_in variadic (t ∷ ts) (x ∷ xs) h all =
      let p = and_parts (same_type t x.ty) (arguments_suit variadic ts xs) h in
      let same : x.ty ≡ t = sym (type_is t x.ty p.0) in
      ((same, subst (λ (u : Tree). ValueFits (here m values blocks) u x.value) same all.0.1), arguments_in variadic ts xs p.1 all.1)

  types_in : (ts : List Tree) → There ts → AllByRecursion (λ t. IsListed same_type (mentioned m) void t) ts
  types_in [] there = tt
  types_in (t ∷ ts) there = (type_listed m values blocks t there.0, types_in ts there.1)

  cases_in : (t : Tree) (cs : List Case) → list_all (is_case_of t) cs ≡ true → AllByRecursion Sound (map case_operand cs) → There (flat_map in_case cs) → list_all (has_local blocks) (map (λ c. c.target) cs) ≡ true
      → AllByRecursion (CaseFits (here m values blocks) t) cs
  cases_in t [] h s there known = tt
  cases_in t (c ∷ cs) h s there known =
      let p = and_parts (is_case_of t c) (list_all (is_case_of t) cs) h in
      let same : c.ty ≡ t = type_is c.ty t (and_parts (same_type c.ty t) _ p.0).0 in
      let q = and_parts (has_local blocks c.target) (list_all (has_local blocks) (map (λ (c : Case). c.target) cs)) known in
      let P = λ (t : Tree). has (mentioned m) t ≡ true in
      let front = front_of P (in_case c) (flat_map in_case cs) there in
      let fit = known_fits m values blocks c.ty c.value s.0.fit (and_parts (is_good_constant m (c.ty, c.value)) true s.0.good).0 front.1 in
      ((same, subst (λ (u : Tree). Fits (here m values blocks) c.value 64 u) same fit, block_in c.target q.0), cases_in t cs p.1 s.1 (rest_of P (in_case c) (flat_map in_case cs) there) q.1)

  module _ (f : Function) where
    pub operation_in : (o : Operation) (result : Option LocalName) → is_operation_of_phrase o ≡ true → operation_alignment_suits o ≡ true → arithmetic_suits o ≡ true → address_suits o ≡ true → element_address_suits m.structs o ≡ true
        → call_suits m.structs f result o ≡ true → AllByRecursion Sound (operands o) → CalleeSound (callee o) → list_all (has_local blocks) (blocks_of_operation o) ≡ true → There (in_operation o)
        → OperationFits (here m values blocks) o
    operation_in (BinaryOperation o set a b) result phrase align numbers address element call all called known there =
        let p = and_parts (is_binary o) (are_flags_of o set) phrase in
        let P = λ (t : Tree). has (mentioned m) t ≡ true in
        (p.0, p.1, operand_in a all.0 (front_of P (in_operand a) (in_value b) there), value_in a.ty b all.1.0 (rest_of P (in_operand a) (in_value b) there))
    operation_in (Compare set p a b) result phrase align numbers address element call all called known there =
        let P = λ (t : Tree). has (mentioned m) t ≡ true in
        (phrase, operand_in a all.0 (front_of P (in_operand a) (in_value b) there), value_in a.ty b all.1.0 (rest_of P (in_operand a) (in_value b) there))
    operation_in (Convert o set a t) result phrase align numbers address element call all called known there =
        let p = and_parts (is_cast o) (are_flags_of o set) phrase in
        let P = λ (t : Tree). has (mentioned m) t ≡ true in
        (p.0, p.1, operand_in a all.0 (front_of P (in_operand a) (t ∷ []) there), type_listed m values blocks t (rest_of P (in_operand a) (t ∷ []) there).0)
    operation_in (Select c a b) result phrase align numbers address element call all called known there =
        let p = and_parts (is_integer_of 1 c.ty) (same_type a.ty b.ty) numbers in
        let P = λ (t : Tree). has (mentioned m) t ≡ true in
        let front = front_of P (in_operand c ++ in_operand a) (in_operand b) there in (
          place_in (int 1) c (one_bit c.ty p.0) all.0 (front_of P (in_operand c) (in_operand a) front),
          operand_in a all.1.0 (rest_of P (in_operand c) (in_operand a) front),
          place_in a.ty b (sym (type_is a.ty b.ty p.1)) all.1.1.0 (rest_of P (in_operand c ++ in_operand a) (in_operand b) there),
        )
    operation_in (Freeze a) result phrase align numbers address element call all called known there = operand_in a all.0 there
    operation_in (Phi t incoming) result phrase align numbers address element call all called known there =
        (type_listed m values blocks t there.0, some_incoming t incoming phrase (incoming_in t incoming all there.1 known))
    operation_in (Load set t a alignment) result phrase align numbers address element call all called known there =
        ((and_parts (are_flags_of op.Load set) (is_small_alignment alignment) phrase).0, type_listed m values blocks t there.0, place_in ptr a (pointer_is a.ty address) all.0 there.1, has_code alignment align)
    operation_in (Store set v a alignment) result phrase align numbers address element call all called known there =
        let P = λ (t : Tree). has (mentioned m) t ≡ true in (
          (and_parts (are_flags_of op.Store set) (is_small_alignment alignment) phrase).0,
          operand_in v all.0 (front_of P (in_operand v) (in_operand a) there),
          place_in ptr a (pointer_is a.ty address) all.1.0 (rest_of P (in_operand v) (in_operand a) there),
          has_code alignment align,
        )
    operation_in (Alloca t None alignment) result phrase align numbers address element call all called known there = (type_listed m values blocks t there.0, tt, has_code alignment align)
    operation_in (Alloca t (Some o) alignment) result phrase align numbers address element call all called known there =
        (type_listed m values blocks t there.0, operand_in o all.0 there.1, has_code alignment align)
    operation_in (GetElementPtr set t base indices) result phrase align numbers address element call all called known there =
        let P = λ (t : Tree). has (mentioned m) t ≡ true in
        let front = front_of P (t ∷ in_operand base) (flat_map in_operand indices) there in (
          phrase,
          type_listed m values blocks t front.0,
          place_in ptr base (pointer_is base.ty (and_parts (is_pointer base.ty) _ element).0) all.0 front.1,
          operands_in indices all.1 (rest_of P (t ∷ in_operand base) (flat_map in_operand indices) there),
        )
    operation_in (Call s v xs) result phrase align numbers address element call all called known there =
        let p = and_parts (is_pointer_value m.structs f v) (arguments_suit s.variadic s.parameters xs && (not (is_void s.returns) || is_none result)) call in
        let suit = (and_parts (arguments_suit s.variadic s.parameters xs) (not (is_void s.returns) || is_none result) p.1).0 in
        let P = λ (t : Tree). has (mentioned m) t ≡ true in
        let front = front_of P ((s.returns ∷ s.parameters) ++ in_value v) (flat_map in_operand xs) there in
        let types = front_of P (s.returns ∷ s.parameters) (in_value v) front in (
          type_listed m values blocks s.returns types.0,
          types_in s.parameters types.1,
          value_in ptr v called (rest_of P (s.returns ∷ s.parameters) (in_value v) front),
          arguments_in s.variadic s.parameters xs suit (operands_in xs all (rest_of P ((s.returns ∷ s.parameters) ++ in_value v) (flat_map in_operand xs) there)),
        )
    operation_in (ExtractValue a indices) result phrase align numbers address element call all called known there = (operand_in a all.0 there, indices_are indices phrase)
    operation_in (InsertValue a part indices) result phrase align numbers address element call all called known there =
        let P = λ (t : Tree). has (mentioned m) t ≡ true in
        (operand_in a all.0 (front_of P (in_operand a) (in_operand part) there), operand_in part all.1.0 (rest_of P (in_operand a) (in_operand part) there), indices_are indices phrase)

    pub ending_in : (e : Ending) → ending_suits f e ≡ true → AllByRecursion Sound (ending_operands e) → list_all (has_local blocks) (targets e) ≡ true → There (in_ending e) → EndingFits (here m values blocks) e
    ending_in ReturnVoid h all known there = tt
    ending_in (Return v) h all known there = operand_in v all.0 there
    ending_in (Jump b) h all known there = block_in b (and_parts (has_local blocks b) true known).0
    ending_in (Branch c a b) h all known there =
        let p = and_parts (has_local blocks a) (has_local blocks b && true) known in
        (place_in (int 1) c (one_bit c.ty h) all.0 there, block_in a p.0, block_in b (and_parts (has_local blocks b) true p.1).0)
    ending_in (Switch v b cases) h all known there =
        let suit = (and_parts (list_all (is_case_of v.ty) cases) _ (and_parts (is_integer v.ty) _ h).1).0 in
        let p = and_parts (has_local blocks b) (list_all (has_local blocks) (map (λ c. c.target) cases)) known in
        let P = λ (t : Tree). has (mentioned m) t ≡ true in
        (operand_in v all.0 (front_of P (in_operand v) (flat_map in_case cases) there), block_in b p.0, cases_in v.ty cases suit all.1 (rest_of P (in_operand v) (flat_map in_case cases) there) p.1)
    ending_in Unreachable h all known there = tt
