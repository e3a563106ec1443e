-- Where nothing fails that an operation asks for, it is as its phrase, of good types and constants, and its locals are there.
use Rattle.std.proofs.Common.{◌≡◌, ℕ, ◌^◌, ◌&&◌, nat_lt, cond, List, [], ◌∷◌, ◌++◌, map, Bool, true, false, Option, Some, None, option_map, refl}
use Rattle.std.specs.List.{list_all, flat_map}
use Rattle.std.specs.Prelude.{option_to_list}
use Rattle.std.proofs.lemmas.Bool.{and_from, and_parts}
use Rattle.ir_tables.specs.declared.opcode.Opcode.{Opcode}
use Rattle.ir_tables.specs.declared.opcode.Opcode.TheVariants as op
use Rattle.ir_terminals.specs.declared.values.Integer.{Integer}
use Rattle.ir_phrases.specs.Constants.Tree.{TypeTree, TypedValueTree, ValueTree, LocalValue, ConstantValue}
use Rattle.ir_phrases.specs.Constants.Forms.{AllAre, IsNotEmpty, IsValueFormed, IsOperandFormed}
use Rattle.ir_phrases.specs.Instructions.Tree.{SignatureTree, IncomingTree, OperationTree, Binary, Compare, Cast, Select, Freeze, Phi, Load, Store, Alloca, GetElementPtr, Call, ExtractValue, InsertValue}
use Rattle.ir_phrases.specs.Instructions.Forms.{is_binary, is_cast, IsCountFormed, IsIncomingFormed, IsOperationFormed}
use Rattle.ir_syntax.specs.Tree.{ItemTree}
use Rattle.ir_syntax.specs.Items.{language}
use Rattle.type_table.specs.Tree.{Tree, ptr}
use Rattle.module_arena.specs.Module.{Bytes, Operand, Value, Operation}
use Rattle.module_arena.specs.Forms as forms
use Rattle.module_arena.specs.Names.{blocks_of_operation}
use Rattle.module_arena.specs.Operations.{operands, callee, incoming_operand, local_in as locals_of_value}
use Rattle.module_arena.specs.WellFormed.{is_good_type, is_good_constant, has_entry, known_in as constants_at, types_of_operation}
use Rattle.name_rules.specs.declared.fault.ResolveFault.TheVariants as faults
use Rattle.name_rules.specs.Spelled.{spelled_local}
use Rattle.name_rules.specs.Locals.{Locals, local_in, is_there}
use Rattle.name_rules.specs.Written.{natural, type_in, constant_in, value_in, operand_in, alignment_in}
use Rattle.name_rules.specs.Bodies.{incoming_in, types_of, signature_in, element_address_in, operation_in}
use Rattle.name_rules.specs.ModuleOf.{structs_in, module_of_items}
use Rattle.name_rules.specs.Demand.{first_refusal, is_natural, place_of_local}
use Rattle.name_rules.specs.TypeDemands.{has_name, type_demands}
use Rattle.name_rules.specs.FunctionDemands.{alignment_demands, index_demands, value_demands, operand_demands, block_demand, incoming_demands, signature_demands, count_demands, operation_demands}
use Rattle.name_rules.specs.Breaks.{known_in, demands}
use Rattle.name_rules.proofs.Judging.{held, both_hold}
use Rattle.name_rules.proofs.OnReading.Types.{HasWidths}
use Rattle.name_rules.proofs.OnReading.Constants.{IsValueWell, IsOperandWell}
use Rattle.name_rules.proofs.OnReading.Instructions.{IsSignatureWell, IsCountWell, IsIncomingWell, IsOperationWell}
use Rattle.name_rules.proofs.OnReading.GoodTypes.{good_type}
use Rattle.name_rules.proofs.OnReading.GoodConstants.{flags_test, good_constant}
use Rattle.name_rules.proofs.OnReading.Tests.{all_one}

binary_test : (opcode : Opcode) → is_binary opcode ≡ true → forms.is_binary opcode ≡ true
binary_test op.Add e = refl
binary_test op.Sub e = refl
binary_test op.Mul e = refl
binary_test op.UDiv e = refl
binary_test op.SDiv e = refl
binary_test op.URem e = refl
binary_test op.SRem e = refl
binary_test op.Shl e = refl
binary_test op.LShr e = refl
binary_test op.AShr e = refl
binary_test op.And e = refl
binary_test op.Or e = refl
binary_test op.Xor e = refl
binary_test _ e = absurd cc

cast_test : (opcode : Opcode) → is_cast opcode ≡ true → forms.is_cast opcode ≡ true
cast_test op.Trunc e = refl
cast_test op.ZExt e = refl
cast_test op.SExt e = refl
cast_test op.PtrToInt e = refl
cast_test op.IntToPtr e = refl
cast_test _ e = absurd cc

-- ---- indices and alignments

small_number : (written : Integer) → (is_natural written && nat_lt written.magnitude (2 ^ 32)) ≡ true → nat_lt (natural written) (2 ^ 32) ≡ true
small_number written h = by written.negative
  where
    parts : (is_natural written ≡ true) × (nat_lt written.magnitude (2 ^ 32) ≡ true)
    parts = and_parts (is_natural written) (nat_lt written.magnitude (2 ^ 32)) h

    by : (b : Bool) → nat_lt (cond b 0 written.magnitude) (2 ^ 32) ≡ true
    by true = refl
    by false = parts.1

pub small_alignment : (written : Option Integer) → first_refusal (alignment_demands written) ≡ None → forms.is_small_alignment (alignment_in written) ≡ true
small_alignment None e = refl
small_alignment (Some written) e =
    small_number written (held (is_natural written && nat_lt written.magnitude (2 ^ 32)) (faults.ConstantRange written.place) [] e).0

small_indices : (written : List Integer) → first_refusal (index_demands written) ≡ None → list_all (λ k. nat_lt k (2 ^ 32)) (map natural written) ≡ true
small_indices [] e = refl
small_indices (w ∷ ws) e =
    let here = held (is_natural w && nat_lt w.magnitude (2 ^ 32)) (faults.ConstantRange w.place) (index_demands ws) e in
    and_from (nat_lt (natural w) (2 ^ 32)) (list_all (λ k. nat_lt k (2 ^ 32)) (map natural ws)) (small_number w here.0) (small_indices ws here.1)

not_empty : {A B : Type 0} (f : A → B) (xs : List A) → IsNotEmpty xs → forms.is_not_empty (map f xs) ≡ true
not_empty f [] h = absurd h
not_empty f (x ∷ xs) h = refl

indices_good : (written : List Integer) → IsNotEmpty written → first_refusal (index_demands written) ≡ None → forms.are_indices (map natural written) ≡ true
indices_good written some e =
    and_from (forms.is_not_empty (map natural written)) (list_all (λ k. nat_lt k (2 ^ 32)) (map natural written)) (not_empty natural written some) (small_indices written e)

module _ (items : List ItemTree) (unbroken : first_refusal (demands items) ≡ None) (entries : (name : Bytes) → has_name (known_in items).globals name ≡ true → has_entry (module_of_items items) name ≡ true) (all : Locals) where
  -- the constants in a value are good, and its locals are values of the function
  pub record IsValueGood (t : Tree) (value : Value) : Type 0 where
    pub constants : list_all (is_good_constant (module_of_items items)) (constants_at t value) ≡ true
    pub locals : list_all (λ name. is_there all false name) (locals_of_value value) ≡ true

  pub record IsOperandGood (o : Operand) : Type 0 where
    pub ty : is_good_type (structs_in items) o.ty ≡ true
    pub value : IsValueGood o.ty o.value

  abbrev pub IsCalleeGood : Option Value → Type 0
  IsCalleeGood None = Unit {0}
  IsCalleeGood (Some value) = IsValueGood ptr value

  pub record IsOperationGood (o : Operation) : Type 0 where
    pub phrase : forms.is_operation_of_phrase o ≡ true
    pub operands_good : AllAre IsOperandGood (operands o)
    pub callee_good : IsCalleeGood (callee o)
    pub types : AllAre (λ t. is_good_type (structs_in items) t ≡ true) (types_of_operation o)
    pub blocks : list_all (λ name. is_there all true name) (blocks_of_operation o) ≡ true

  type_good : (t : TypeTree) → HasWidths t → first_refusal (type_demands (known_in items) t) ≡ None → is_good_type (structs_in items) (type_in t) ≡ true
  type_good t h e = good_type items unbroken t h e

  types_good : (ts : List TypeTree) → AllAre HasWidths ts → first_refusal (flat_map (type_demands (known_in items)) ts) ≡ None → AllAre (λ t. is_good_type (structs_in items) t ≡ true) (map type_in ts)
  types_good [] h e = tt
  types_good (t ∷ ts) h e =
      let parts = both_hold (type_demands (known_in items) t) (flat_map (type_demands (known_in items)) ts) e in
      (type_good t h.0 parts.0, types_good ts h.1 parts.1)

  pub value_good : (t : Tree) (v : ValueTree) → is_good_type (structs_in items) t ≡ true → IsValueWell language v → IsValueFormed v → first_refusal (value_demands (known_in items) all t v) ≡ None → IsValueGood t (value_in t v)
  value_good t (LocalValue written) h w f e =
      let there = held (is_there all false (local_in written)) (faults.UnknownName (place_of_local written) (spelled_local (local_in written))) [] e in
      record { constants = refl; locals = all_one (λ name. is_there all false name) (local_in written) there.0 }
  value_good t (ConstantValue c) h w f e =
      record { constants = all_one (is_good_constant (module_of_items items)) (t, constant_in t c) (good_constant items unbroken entries t c h w f e); locals = refl }

  pub operand_good : (o : TypedValueTree) → IsOperandWell language o → IsOperandFormed o → first_refusal (operand_demands (known_in items) all o) ≡ None → IsOperandGood (operand_in o)
  operand_good o w f e =
      let parts = both_hold (type_demands (known_in items) o.0) (value_demands (known_in items) all (type_in o.0) o.1) e in
      let ty = type_good o.0 w.0 parts.0 in
      record { ty = ty; value = value_good (type_in o.0) o.1 ty w.1 f parts.1 }

  operands_are : (os : List TypedValueTree) → AllAre (IsOperandWell language) os → AllAre IsOperandFormed os → first_refusal (flat_map (operand_demands (known_in items) all) os) ≡ None → AllAre IsOperandGood (map operand_in os)
  operands_are [] w f e = tt
  operands_are (o ∷ os) w f e =
      let parts = both_hold (operand_demands (known_in items) all o) (flat_map (operand_demands (known_in items) all) os) e in
      (operand_good o w.0 f.0 parts.0, operands_are os w.1 f.1 parts.1)

  -- an operand, and a value of the same type behind it
  two_good : (left : TypedValueTree) (right : ValueTree) → IsOperandWell language left → IsValueWell language right → IsOperandFormed left → IsValueFormed right
      → first_refusal (operand_demands (known_in items) all left ++ value_demands (known_in items) all (type_in left.0) right) ≡ None
      → AllAre IsOperandGood (operand_in left ∷ record { ty = type_in left.0; value = value_in (type_in left.0) right } ∷ [])
  two_good left right w v f g e =
      let parts = both_hold (operand_demands (known_in items) all left) (value_demands (known_in items) all (type_in left.0) right) e in
      let first = operand_good left w f parts.0 in
      (first, (record { ty = first.ty; value = value_good (type_in left.0) right first.ty v g parts.1 }, tt))

  incoming_are : (ty : TypeTree) (incoming : List IncomingTree) → is_good_type (structs_in items) (type_in ty) ≡ true → AllAre (IsIncomingWell language) incoming → AllAre IsIncomingFormed incoming
      → first_refusal (flat_map (incoming_demands (known_in items) all (type_in ty)) incoming) ≡ None
      → AllAre IsOperandGood (map (incoming_operand (type_in ty)) (map (incoming_in (type_in ty)) incoming))
      × (list_all (λ name. is_there all true name) (map (λ i. i.block) (map (incoming_in (type_in ty)) incoming)) ≡ true)
  incoming_are ty [] h w f e = (tt, refl)
  incoming_are ty (i ∷ is) h w f e =
      let parts = both_hold (incoming_demands (known_in items) all (type_in ty) i) (flat_map (incoming_demands (known_in items) all (type_in ty)) is) e in
      let halves = both_hold (value_demands (known_in items) all (type_in ty) i.0) (block_demand (known_in items) all i.1 ∷ []) parts.0 in
      let there = held (is_there all true (local_in i.1)) (faults.UnknownName (place_of_local i.1) (spelled_local (local_in i.1))) [] halves.1 in
      let rest = incoming_are ty is h w.1 f.1 parts.1 in
      ((record { ty = h; value = value_good (type_in ty) i.0 h w.0 f.0 halves.0 }, rest.0), and_from _ _ there.0 rest.1)

  count_are : (count : Option TypedValueTree) → IsCountWell language count → IsCountFormed count → first_refusal (count_demands (known_in items) all count) ≡ None → AllAre IsOperandGood (option_to_list (option_map operand_in count))
  count_are None w f e = tt
  count_are (Some o) w f e = (operand_good o w f e, tt)

  arguments_types : (os : List TypedValueTree) → AllAre (IsOperandWell language) os → first_refusal (flat_map (operand_demands (known_in items) all) os) ≡ None → AllAre (λ t. is_good_type (structs_in items) t ≡ true) (types_of os)
  arguments_types [] w e = tt
  arguments_types (o ∷ os) w e =
      let parts = both_hold (operand_demands (known_in items) all o) (flat_map (operand_demands (known_in items) all) os) e in
      let halves = both_hold (type_demands (known_in items) o.0) (value_demands (known_in items) all (type_in o.0) o.1) parts.0 in
      (type_good o.0 w.0.0 halves.0, arguments_types os w.1 parts.1)

  element_good : (set : ℕ) (source : TypeTree) (os : List TypedValueTree) → IsNotEmpty os → AllAre IsOperandGood (map operand_in os) → is_good_type (structs_in items) (type_in source) ≡ true → forms.are_flags_of op.GetElementPtr set ≡ true
      → IsOperationGood (element_address_in set source os)
  element_good set source [] some os h f = absurd some
  element_good set source (base ∷ indices) some os h f = record { phrase = f; operands_good = os; callee_good = tt; types = (h, tt); blocks = refl }

  signature_types : (returns : TypeTree) (arguments : List TypedValueTree) (written : Option SignatureTree) → is_good_type (structs_in items) (type_in returns) ≡ true → IsSignatureWell written
      → first_refusal (signature_demands (known_in items) all written) ≡ None → AllAre (λ t. is_good_type (structs_in items) t ≡ true) (types_of arguments)
      → AllAre (λ t. is_good_type (structs_in items) t ≡ true) ((signature_in returns arguments written).returns ∷ (signature_in returns arguments written).parameters)
  signature_types returns arguments None h w e rest = (h, rest)
  signature_types returns arguments (Some written) h w e rest = (h, types_good written.0 w e)

  -- an operation of which nothing is asked in vain
  pub operation_good : (o : OperationTree) → IsOperationWell language o → IsOperationFormed o → first_refusal (operation_demands (known_in items) all o) ≡ None → IsOperationGood (operation_in o)
  operation_good (Binary opcode set left right) w f e = record {
    phrase = and_from (forms.is_binary opcode) (forms.are_flags_of opcode set) (binary_test opcode f.0) (flags_test opcode set f.1);
    operands_good = two_good left right w.0 w.1 f.2 f.3 e;
    callee_good = tt;
    types = tt;
    blocks = refl;
  }
  operation_good (Compare set predicate left right) w f e = record {
    phrase = flags_test op.ICmp set f.0;
    operands_good = two_good left right w.0 w.1 f.1 f.2 e;
    callee_good = tt;
    types = tt;
    blocks = refl;
  }
  operation_good (Cast opcode set value to) w f e =
      let parts = both_hold (operand_demands (known_in items) all value) (type_demands (known_in items) to) e in
      record {
        phrase = and_from (forms.is_cast opcode) (forms.are_flags_of opcode set) (cast_test opcode f.0) (flags_test opcode set f.1);
        operands_good = (operand_good value w.0 f.2 parts.0, tt);
        callee_good = tt;
        types = (type_good to w.1 parts.1, tt);
        blocks = refl;
      }
  operation_good (Select condition first second) w f e =
      let parts = both_hold (operand_demands (known_in items) all condition) (operand_demands (known_in items) all first ++ operand_demands (known_in items) all second) e in
      let halves = both_hold (operand_demands (known_in items) all first) (operand_demands (known_in items) all second) parts.1 in
      record {
        phrase = refl;
        operands_good = (operand_good condition w.0 f.0 parts.0, (operand_good first w.1 f.1 halves.0, (operand_good second w.2 f.2 halves.1, tt)));
        callee_good = tt;
        types = tt;
        blocks = refl;
      }
  operation_good (Freeze value) w f e = record { phrase = refl; operands_good = (operand_good value w f e, tt); callee_good = tt; types = tt; blocks = refl }
  operation_good (Phi ty incoming) w f e =
      let parts = both_hold (type_demands (known_in items) ty) (flat_map (incoming_demands (known_in items) all (type_in ty)) incoming) e in
      let h = type_good ty w.0 parts.0 in
      let rest = incoming_are ty incoming h w.1 f.1 parts.1 in
      record { phrase = not_empty (incoming_in (type_in ty)) incoming f.0; operands_good = rest.0; callee_good = tt; types = (h, tt); blocks = rest.1 }
  operation_good (Load set ty address alignment) w f e =
      let parts = both_hold (type_demands (known_in items) ty) (operand_demands (known_in items) all address ++ alignment_demands alignment) e in
      let halves = both_hold (operand_demands (known_in items) all address) (alignment_demands alignment) parts.1 in
      record {
        phrase = and_from (forms.are_flags_of op.Load set) (forms.is_small_alignment (alignment_in alignment)) (flags_test op.Load set f.0) (small_alignment alignment halves.1);
        operands_good = (operand_good address w.1 f.1 halves.0, tt);
        callee_good = tt;
        types = (type_good ty w.0 parts.0, tt);
        blocks = refl;
      }
  operation_good (Store set value address alignment) w f e =
      let parts = both_hold (operand_demands (known_in items) all value) (operand_demands (known_in items) all address ++ alignment_demands alignment) e in
      let halves = both_hold (operand_demands (known_in items) all address) (alignment_demands alignment) parts.1 in
      record {
        phrase = and_from (forms.are_flags_of op.Store set) (forms.is_small_alignment (alignment_in alignment)) (flags_test op.Store set f.0) (small_alignment alignment halves.1);
        operands_good = (operand_good value w.0 f.1 parts.0, (operand_good address w.1 f.2 halves.0, tt));
        callee_good = tt;
        types = tt;
        blocks = refl;
      }
  operation_good (Alloca ty count alignment) w f e =
      let parts = both_hold (type_demands (known_in items) ty) (count_demands (known_in items) all count ++ alignment_demands alignment) e in
      let halves = both_hold (count_demands (known_in items) all count) (alignment_demands alignment) parts.1 in
      record {
        phrase = small_alignment alignment halves.1;
        operands_good = count_are count w.1 f halves.0;
        callee_good = tt;
        types = (type_good ty w.0 parts.0, tt);
        blocks = refl;
      }
  operation_good (GetElementPtr set source os) w f e =
      let parts = both_hold (type_demands (known_in items) source) (flat_map (operand_demands (known_in items) all) os) e in
      element_good set source os f.1 (operands_are os w.1 f.2 parts.1) (type_good source w.0 parts.0) (flags_test op.GetElementPtr set f.0)
  operation_good (Call call) w f e =
      let known = known_in items in
      let first = both_hold (type_demands known call.returns) (signature_demands known all call.signature ++ (value_demands known all ptr call.callee ++ flat_map (operand_demands known all) call.arguments)) e in
      let second = both_hold (signature_demands known all call.signature) (value_demands known all ptr call.callee ++ flat_map (operand_demands known all) call.arguments) first.1 in
      let third = both_hold (value_demands known all ptr call.callee) (flat_map (operand_demands known all) call.arguments) second.1 in
      record {
        phrase = refl;
        operands_good = operands_are call.arguments w.3 f.1 third.1;
        callee_good = value_good ptr call.callee refl w.2 f.0 third.0;
        types = signature_types call.returns call.arguments call.signature (type_good call.returns w.0 first.0) w.1 second.0 (arguments_types call.arguments w.3 third.1);
        blocks = refl;
      }
  operation_good (ExtractValue aggregate indices) w f e =
      let parts = both_hold (operand_demands (known_in items) all aggregate) (index_demands indices) e in
      record { phrase = indices_good indices f.1 parts.1; operands_good = (operand_good aggregate w f.0 parts.0, tt); callee_good = tt; types = tt; blocks = refl }
  operation_good (InsertValue aggregate part indices) w f e =
      let parts = both_hold (operand_demands (known_in items) all aggregate) (operand_demands (known_in items) all part ++ index_demands indices) e in
      let halves = both_hold (operand_demands (known_in items) all part) (index_demands indices) parts.1 in
      record {
        phrase = indices_good indices f.2 halves.1;
        operands_good = (operand_good aggregate w.0 f.0 parts.0, (operand_good part w.1 f.1 halves.0, tt));
        callee_good = tt;
        types = tt;
        blocks = refl;
      }
