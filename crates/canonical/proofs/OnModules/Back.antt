-- The canonical items of types and constants stand for them.
use Rattle.std.proofs.Common.{◌≡◌, ℕ, zero, suc, ◌-◌, ◌^◌, ◌%◌, ◌<◌, ◌≤◌, ◌==◌, nat_lt, List, [], ◌∷◌, map, Bool, true, false, cond, not, if◌then◌else◌, Option, Some, None, option_map, refl, sym, ap, ◌∙◌, arith}
use Rattle.std.proofs.lemmas.Bool.{eqb-true, ltb-false}
use Rattle.std.proofs.Math.Nat.{mod-eq_of_lt}
use Rattle.std.proofs.Math.Pow.{pow-sub-lt}
use Rattle.ir_phrases.specs.Constants.Tree.{IntegerConstant}
use Rattle.type_table.specs.Tree.{Tree, int, ptr, void, array, struct, named, Trees, no_trees, more_trees}
use Rattle.module_arena.specs.Module.{Brackets, Square, Braces, Packed, LocalName, Named, Numbered, Constant, Integer, Truth, Null, Undef, Poison, ZeroInitializer, Address, ByteString, Aggregate, ElementAddress, Cast, Binary, Constants, no_constants, more_constants, Value, Local, Known, Operand, Incoming, Operation, BinaryOperation, Compare, Convert, Select, Freeze, Phi, Load, Store, Alloca, GetElementPtr, Call, ExtractValue, InsertValue, Instruction}
use Rattle.canonical.specs.Items.Parts.{signed, natural, type_tree, type_trees, type_list, truth_tree, integer_tree, brackets_tree, constant_tree, constant_trees, local_tree, value_tree, operand_tree, incoming_tree, signature_tree, operation_tree, instruction_tree}
use Rattle.name_rules.specs.Written as written
use Rattle.name_rules.specs.Written.{type_in, types_in, fields_in, modulo, constant_in, constants_in, value_in, operand_in, brackets_in, alignment_in}
use Rattle.name_rules.specs.Locals.{local_in, called, next_behind, gives, announced_result, next_after}
use Rattle.name_rules.specs.Locals.{is_void as written_is_void}
use Rattle.module_arena.specs.TypeTests.{is_void}
use Rattle.name_rules.specs.Bodies.{incoming_in, types_of, signature_in, operation_in, instruction_in, instructions_in}
use Rattle.canonical.specs.Modules.Exact.{is_bit, IsExactNumber, IsExact, AreExact, IsExactValue, IsExactOperand, AreExactOperands, AreExactIncoming, IsExactCount, IsExactSignature, IsExactOperation, HasNoResult, IsNext, behind, IsNextResult, behind_result, AreExactInstructions}

mutual
  pub type_back : (t : Tree) → type_in (type_tree t) ≡ t
  type_back (int width) = refl
  type_back ptr = refl
  type_back void = refl
  type_back (array count t) = ap (λ u. array count u) (type_back t)
  type_back (struct packed ts) = ap (λ us. struct packed us) (types_back ts)
  type_back (named name) = refl

  pub types_back : (ts : Trees) → types_in (type_trees ts) ≡ ts
  types_back no_trees = refl
  types_back (more_trees t ts) = λ i. more_trees (type_back t i) (types_back ts i)

pub fields_back : (ts : Trees) → fields_in (type_list ts) ≡ ts
fields_back no_trees = refl
fields_back (more_trees t ts) = λ i. more_trees (type_back t i) (fields_back ts i)

brackets_back : (b : Brackets) → brackets_in (brackets_tree b) ≡ b
brackets_back Square = refl
brackets_back Braces = refl
brackets_back Packed = refl

below_power : (bits n : ℕ) (b : Bool) → nat_lt n (2 ^ (bits - 1)) ≡ b → n < 2 ^ bits → modulo bits (cond b (natural n) (record { negative = true; magnitude = 2 ^ bits - n; place = record { line = 0; column = 0 } })) ≡ n
below_power bits n true e h = mod-eq_of_lt h
below_power bits zero false e h =
    let low : 2 ^ (bits - 1) ≤ zero = ltb-false zero (2 ^ (bits - 1)) e in
    let less : 2 ^ (bits - 1) - 1 < 2 ^ (bits - 1) = pow-sub-lt (bits - 1) (omega arith) in
    absurd (omega arith)
below_power bits (suc n) false e h =
    let less : 2 ^ bits - suc n < 2 ^ bits = omega arith in
    let inner : (2 ^ bits - suc n) % 2 ^ bits ≡ 2 ^ bits - suc n = mod-eq_of_lt less in
    let back : 2 ^ bits - (2 ^ bits - suc n) ≡ suc n = omega arith in
    rw inner (rw back (mod-eq_of_lt h))

signed_back : (bits n : ℕ) → n < 2 ^ bits → modulo bits (signed bits n) ≡ n
signed_back bits n h = below_power bits n (nat_lt n (2 ^ (bits - 1))) refl h

truth_number : (width n : ℕ) → (width == 1) ≡ true → n < 2 ^ width → constant_in (int width) (truth_tree (n == 1)) ≡ Integer n
truth_number width zero e h = rw e refl
truth_number width (suc zero) e h = rw e refl
truth_number width (suc (suc n)) e h = absurd (let w = eqb-true width 1 e in omega (arith, ap (λ k. 2 ^ k) w))

integer_by : (width n : ℕ) (b : Bool) → (width == 1) ≡ b → n < 2 ^ width → constant_in (int width) (integer_tree (int width) n) ≡ Integer n
integer_by width n true e h = ap (λ b. constant_in (int width) (cond b (truth_tree (n == 1)) (IntegerConstant (signed width n)))) e ∙ truth_number width n e h
integer_by width n false e h = rw e (ap Integer (signed_back width n h))

integer_back : (ty : Tree) (n : ℕ) → IsExactNumber ty n → constant_in ty (integer_tree ty n) ≡ Integer n
integer_back (int width) n h = integer_by width n (width == 1) refl h
integer_back ptr n h = ap Integer (signed_back 128 n h)
integer_back void n h = ap Integer (signed_back 128 n h)
integer_back (array count t) n h = ap Integer (signed_back 128 n h)
integer_back (struct packed ts) n h = ap Integer (signed_back 128 n h)
integer_back (named name) n h = ap Integer (signed_back 128 n h)

truth_back : (ty : Tree) (b : Bool) → is_bit ty ≡ false → constant_in ty (truth_tree b) ≡ Truth b
truth_back (int width) true h = rw h refl
truth_back (int width) false h = rw h refl
truth_back ptr true h = refl
truth_back ptr false h = refl
truth_back void true h = refl
truth_back void false h = refl
truth_back (array count t) true h = refl
truth_back (array count t) false h = refl
truth_back (struct packed ts) true h = refl
truth_back (struct packed ts) false h = refl
truth_back (named name) true h = refl
truth_back (named name) false h = refl

mutual
  pub constant_back : (ty : Tree) (c : Constant) → IsExact ty c → constant_in ty (constant_tree ty c) ≡ c
  constant_back ty (Integer n) h = integer_back ty n h
  constant_back ty (Truth b) h = truth_back ty b h
  constant_back ty Null h = refl
  constant_back ty Undef h = refl
  constant_back ty Poison h = refl
  constant_back ty ZeroInitializer h = refl
  constant_back ty (Address name) h = refl
  constant_back ty (ByteString bytes) h = refl
  constant_back ty (Aggregate kind cs) h = λ i. Aggregate (brackets_back kind i) (constants_back cs h i)
  constant_back ty (ElementAddress set source cs) h = λ i. ElementAddress set (type_back source i) (constants_back cs h i)
  constant_back ty (Cast o from c to) h = λ i. Cast o (type_back from i) ((ap (λ t. constant_in t (constant_tree from c)) (type_back from) ∙ constant_back from c h) i) (type_back to i)
  constant_back ty (Binary o set s b t c) h =
      λ i. Binary o set (type_back s i) ((ap (λ u. constant_in u (constant_tree s b)) (type_back s) ∙ constant_back s b h.0) i) (type_back t i) ((ap (λ u. constant_in u (constant_tree t c)) (type_back t) ∙ constant_back t c h.1) i)

  pub constants_back : (cs : Constants) → AreExact cs → constants_in (constant_trees cs) ≡ cs
  constants_back no_constants h = refl
  constants_back (more_constants ty c cs) h = λ i. more_constants (type_back ty i) ((ap (λ u. constant_in u (constant_tree ty c)) (type_back ty) ∙ constant_back ty c h.0) i) (constants_back cs h.1 i)

pub local_back : (name : LocalName) → local_in (local_tree name) ≡ name
local_back (Named name) = refl
local_back (Numbered n) = refl

pub value_back : (ty : Tree) (v : Value) → IsExactValue ty v → value_in ty (value_tree ty v) ≡ v
value_back ty (Local name) h = ap Local (local_back name)
value_back ty (Known c) h = ap Known (constant_back ty c h)

pub operand_back : (o : Operand) → IsExactOperand o → operand_in (operand_tree o) ≡ o
operand_back o h = λ i. record { ty = type_back o.ty i; value = (ap (λ t. value_in t (value_tree o.ty o.value)) (type_back o.ty) ∙ value_back o.ty o.value h) i }

pub operands_back : (os : List Operand) → AreExactOperands os → map operand_in (map operand_tree os) ≡ os
operands_back [] h = refl
operands_back (o ∷ os) h = λ i. operand_back o h.0 i ∷ operands_back os h.1 i

value_at_back : (ty : Tree) (v : Value) → IsExactValue ty v → value_in (type_in (type_tree ty)) (value_tree ty v) ≡ v
value_at_back ty v h = ap (λ t. value_in t (value_tree ty v)) (type_back ty) ∙ value_back ty v h

incoming_back : (ty : Tree) (is : List Incoming) → AreExactIncoming ty is → map (incoming_in (type_in (type_tree ty))) (map (incoming_tree ty) is) ≡ is
incoming_back ty [] h = refl
incoming_back ty (j ∷ js) h = λ i. record { value = value_at_back ty j.value h.0 i; block = local_back j.block i } ∷ incoming_back ty js h.1 i

count_back : (c : Option Operand) → IsExactCount c → option_map operand_in (option_map operand_tree c) ≡ c
count_back None h = refl
count_back (Some o) h = ap Some (operand_back o h)

pub alignment_back : (n : Option ℕ) → alignment_in (option_map natural n) ≡ n
alignment_back None = refl
alignment_back (Some n) = refl

naturals_back : (ns : List ℕ) → map written.natural (map natural ns) ≡ ns
naturals_back [] = refl
naturals_back (n ∷ ns) = ap (λ ms. n ∷ ms) (naturals_back ns)

pub types_list_back : (ts : List Tree) → map type_in (map type_tree ts) ≡ ts
types_list_back [] = refl
types_list_back (t ∷ ts) = λ i. type_back t i ∷ types_list_back ts i

argument_types_back : (os : List Operand) → types_of (map operand_tree os) ≡ map (λ o. o.ty) os
argument_types_back [] = refl
argument_types_back (o ∷ os) = λ i. type_back o.ty i ∷ argument_types_back os i

signature_back : (returns : Tree) (parameters : List Tree) (variadic : Bool) (os : List Operand) → IsExactSignature variadic parameters os → signature_in (type_tree returns) (map operand_tree os) (signature_tree parameters variadic) ≡ record { returns = returns; parameters = parameters; variadic = variadic }
signature_back returns parameters true os h = λ i. record { returns = type_back returns i; parameters = types_list_back parameters i; variadic = true }
signature_back returns parameters false os h = λ i. record { returns = type_back returns i; parameters = (argument_types_back os ∙ sym h) i; variadic = false }

pub operation_back : (o : Operation) → IsExactOperation o → operation_in (operation_tree o) ≡ o
operation_back (BinaryOperation o set left right) h = λ i. BinaryOperation o set (operand_back left h.0 i) (value_at_back left.ty right h.1 i)
operation_back (Compare set p left right) h = λ i. Compare set p (operand_back left h.0 i) (value_at_back left.ty right h.1 i)
operation_back (Convert o set value to) h = λ i. Convert o set (operand_back value h i) (type_back to i)
operation_back (Select a b c) h = λ i. Select (operand_back a h.0 i) (operand_back b h.1 i) (operand_back c h.2 i)
operation_back (Freeze v) h = ap Freeze (operand_back v h)
operation_back (Phi ty js) h = λ i. Phi (type_back ty i) (incoming_back ty js h i)
operation_back (Load set ty a n) h = λ i. Load set (type_back ty i) (operand_back a h i) (alignment_back n i)
operation_back (Store set v a n) h = λ i. Store set (operand_back v h.0 i) (operand_back a h.1 i) (alignment_back n i)
operation_back (Alloca ty c n) h = λ i. Alloca (type_back ty i) (count_back c h i) (alignment_back n i)
operation_back (GetElementPtr set s o os) h = λ i. GetElementPtr set (type_back s i) (operand_back o h.0 i) (operands_back os h.1 i)
operation_back (Call s v os) h = λ i. Call (signature_back s.returns s.parameters s.variadic os h.0 i) (value_back ptr v h.1 i) (operands_back os h.2 i)
operation_back (ExtractValue v ns) h = λ i. ExtractValue (operand_back v h i) (naturals_back ns i)
operation_back (InsertValue v p ns) h = λ i. InsertValue (operand_back v h.0 i) (operand_back p h.1 i) (naturals_back ns i)

pub called_back : (n : ℕ) (name : LocalName) → IsNext n name → called n (Some (local_tree name)) ≡ name
called_back n (Named name) h = refl
called_back n (Numbered k) h = ap Numbered (sym h)

pub behind_back : (n : ℕ) (name : LocalName) → next_behind n (Some (local_tree name)) ≡ behind n name
behind_back n (Named name) = refl
behind_back n (Numbered k) = refl

void_back : (t : Tree) → is_void t ≡ true → written_is_void (type_tree t) ≡ true
void_back void h = refl
void_back _ h = absurd cc

no_result : (o : Operation) → HasNoResult o → gives (operation_tree o) ≡ false
no_result (Store set v a n) h = refl
no_result (Call s v os) h = ap not (void_back s.returns h)
no_result _ h = absurd h

instruction_by : (n : ℕ) (r : Option LocalName) (o : Operation) → IsNextResult n r o → IsExactOperation o → instruction_in n (instruction_tree (record { result = r; operation = o })) ≡ record { result = r; operation = o }
instruction_by n None o h k = λ i. record { result = cond (no_result o h i) (Some (Numbered n)) None; operation = operation_back o k i }
instruction_by n (Some name) o h k = λ i. record { result = Some (called_back n name h i); operation = operation_back o k i }

pub result_by : (n : ℕ) (r : Option LocalName) (o : Operation) → IsNextResult n r o → next_after n (announced_result (instruction_tree (record { result = r; operation = o }))) ≡ behind_result n r
result_by n None o h = ap (λ b. next_after n (if b then (false, None) ∷ [] else [])) (no_result o h)
result_by n (Some name) o h = behind_back n name

pub instructions_back : (n : ℕ) (is : List Instruction) → AreExactInstructions n is → instructions_in n (map instruction_tree is) ≡ is
instructions_back n [] h = refl
instructions_back n (j ∷ js) h =
    λ i. instruction_by n j.result j.operation h.0 h.1 i ∷ (ap (λ k. instructions_in k (map instruction_tree js)) (result_by n j.result j.operation h.0) ∙ instructions_back (behind_result n j.result) js h.2) i
