-- The operands of an instruction or an end that fits have 64 bits.
use Rattle.std.proofs.Common.{◌≡◌, ℕ, ◌^◌, ◌<◌, ◌≤◌, Bool, true, false, List, [], ◌∷◌, ◌++◌, length, map, flat_map, Option, Some, None, sym, subst, arith}
use Rattle.std.specs.Prelude.{nat_lt, unwrap_or}
use Rattle.std.specs.List.{list_all, AllByRecursion}
use Rattle.std.proofs.lemmas.Bool.{ltb-true}
use Rattle.std.proofs.lemmas.List.{length-append}
use Rattle.ir_tables.specs.declared.opcode.Opcode.TheVariants as op
use Rattle.ir_tables.specs.declared.predicate.Predicate.{Predicate}
use Rattle.ir_tables.specs.declared.predicate.Predicate.TheVariants.{Eq}
use Rattle.ir_tables.specs.Predicate.{predicate_code}
use Rattle.type_table.specs.Tree.{Tree, int, ptr}
use Rattle.module_arena.specs.Module.{LocalName, Numbered, Value, Known, Operand, Incoming, Operation, BinaryOperation, Compare, Convert, Select, Freeze, Phi, Load, Store, Alloca, GetElementPtr, Call, ExtractValue, InsertValue, Instruction, Case, Ending, ReturnVoid, Return, Jump, Branch, Switch, Unreachable, Module}
use Rattle.module_arena.specs.Operations.{operands, ending_operands, incoming_operand, case_operand}
use Rattle.module_arena.specs.Same.{same_type, same_local}
use Rattle.module_arena.specs.TypeTests.{is_void}
use Rattle.module_arena.specs.WellFormed.{is_good_constant, known_in, known_of_operands, known_of_operation}
use Rattle.record_table.specs.Fields.{Texts, Numbering, bool_code, label, same_option, coded_alignments, index, ty}
use Rattle.record_table.specs.Layout.{Layout, place}
use Rattle.record_table.specs.Listed.{AreSome, IsType, IsBlock, IsLabel, IsAlignment}
use Rattle.record_table.specs.Constants.{value_spell, spell_constant}
use Rattle.record_table.specs.FittingConstants.{ValueFits, OperandFits}
use Rattle.record_table.specs.FittingLines.{IsSome, AreIndices, IsCallResult, FitsPlace, IncomingFits, AreArguments, OperationFits, CaseFits, EndingFits, IsResult}
use Rattle.record_table.specs.Lays.{Lays}
use Rattle.record_table.specs.Lines.{operation_opcode, ending_opcode, instruction, ending, typed_value, incoming, case_of, spell_arguments, result_by}
use Rattle.record_table.proofs.InstructionsBack.{as_computation, as_conversion}
use Rattle.record_law.proofs.OnTypes.Tests.{all_front, all_rest}
use Rattle.record_law.proofs.OnAlone.Numbers.{IsSmall, none, next, one, join, counted, indexed, AreFew}
use Rattle.record_law.proofs.OnAlone.ConstantsLow.{flags_low, value_some, type_low, value_low}

pub bool_low : (b : Bool) → bool_code b < 2 ^ 64
bool_low true = omega arith
bool_low false = omega arith

predicate_low : (p : Predicate) → predicate_code p < 2 ^ 64
predicate_low Eq = omega arith
predicate_low _ = omega arith

pub alignment_low : (a : Option ℕ) → IsAlignment a → place same_option coded_alignments a < 2 ^ 64
alignment_low a listed = indexed same_option coded_alignments None a listed (omega arith)

-- names, as these texts spell them
abbrev pub LowLabels : Texts → Type 0
LowLabels texts = (own : ℕ) (name : LocalName) → IsLabel texts own name → IsSmall ((label texts 0).spell name)

module _ (m : Module) (k : Numbering) (few : AreFew k) where
  abbrev Good : Tree → Value → Type 0
  Good t v = list_all (is_good_constant m) (known_in t v) ≡ true

  abbrev AllGood : List Operand → Type 0
  AllGood os = list_all (is_good_constant m) (known_of_operands os) ≡ true

  first_good : (o : Operand) (os : List Operand) → AllGood (o ∷ os) → Good o.ty o.value
  first_good o os g = all_front (is_good_constant m) (known_in o.ty o.value) (known_of_operands os) g

  later_good : (o : Operand) (os : List Operand) → AllGood (o ∷ os) → AllGood os
  later_good o os g = all_rest (is_good_constant m) (known_in o.ty o.value) (known_of_operands os) g

  value_in : (t : Tree) (v : Value) → ValueFits k t v → Good t v → IsSmall (value_spell k t v)
  value_in t v fit g = value_low m k few t v fit g

  -- a value at the place of a type
  place_in : (t : Tree) (o : Operand) → FitsPlace k t o → Good o.ty o.value → IsSmall (value_spell k t o.value)
  place_in t o fit g = value_in t o.value fit.1 (subst (λ (u : Tree). Good u o.value) fit.0 g)

  operand_in : (o : Operand) → OperandFits k o → Good o.ty o.value → IsSmall ((typed_value k).spell o)
  operand_in o fit g = next (place same_type k.types o.ty) (value_spell k o.ty o.value) (type_low m k few o.ty fit.0) (value_in o.ty o.value fit.1 g)

  operand_some : (o : Operand) → 0 < length ((typed_value k).spell o)
  operand_some o = omega arith

  operands_in : (os : List Operand) → AllByRecursion (OperandFits k) os → AllGood os → AllByRecursion (λ o. IsSmall ((typed_value k).spell o)) os
  operands_in [] fit g = tt
  operands_in (o ∷ os) fit g = (operand_in o fit.0 (first_good o os g), operands_in os fit.1 (later_good o os g))

  pub block_low : (b : LocalName) → IsBlock k b → place same_local k.blocks b < 2 ^ 64
  block_low b listed = indexed same_local k.blocks (Numbered 0) b listed few.blocks

  incoming_some : (t : Tree) (i : Incoming) → 0 < length ((incoming k t).spell i)
  incoming_some t i = omega (arith, length-append (value_spell k t i.value) (place same_local k.blocks i.block ∷ []))

  incoming_in : (t : Tree) (is : List Incoming) → AllByRecursion (IncomingFits k t) is → AllGood (map (incoming_operand t) is) → AllByRecursion (λ i. IsSmall ((incoming k t).spell i)) is
  incoming_in t [] fit g = tt
  incoming_in t (i ∷ is) fit g =
      let os = map (incoming_operand t) is in (
        join (value_spell k t i.value) (place same_local k.blocks i.block ∷ []) (value_in t i.value fit.0.0 (first_good (incoming_operand t i) os g)) (one (place same_local k.blocks i.block) (block_low i.block fit.0.1)),
        incoming_in t is fit.1 (later_good (incoming_operand t i) os g),
      )

  some_of : {A : Type 0} (P : A → Type 0) (xs : List A) → AreSome P xs → AllByRecursion P xs
  some_of P [] all = elim all [ ]
  some_of P (x ∷ xs) all = all

  case_some : (t : Tree) (c : Case) → 0 < length ((case_of k t).spell c)
  case_some t c = omega (arith, length-append (spell_constant k t c.value) (place same_local k.blocks c.target ∷ []))

  cases_in : (t : Tree) (cs : List Case) → AllByRecursion (CaseFits k t) cs → AllGood (map case_operand cs) → AllByRecursion (λ c. IsSmall ((case_of k t).spell c)) cs
  cases_in t [] fit g = tt
  cases_in t (c ∷ cs) fit g =
      let os = map case_operand cs in
      let here = subst (λ (u : Tree). Good u (Known c.value)) fit.0.0 (first_good (case_operand c) os g) in (
        join (spell_constant k t c.value) (place same_local k.blocks c.target ∷ []) (value_in t (Known c.value) fit.0.1 here) (one (place same_local k.blocks c.target) (block_low c.target fit.0.2)),
        cases_in t cs fit.1 (later_good (case_operand c) os g),
      )

  pub types_low : (ts : List Tree) → AllByRecursion (IsType k) ts → AllByRecursion (λ t. IsSmall ((ty k).spell t)) ts
  types_low [] all = tt
  types_low (t ∷ ts) all = (one (place same_type k.types t) (type_low m k few t all.0), types_low ts all.1)

  pub type_some : (t : Tree) → 0 < length ((ty k).spell t)
  type_some t = omega arith

  index_some : (n : ℕ) → 0 < length (index.spell n)
  index_some n = omega arith

  indices_low : (is : List ℕ) → AllByRecursion (λ n. nat_lt n 0x1_0000_0000 ≡ true) is → AllByRecursion (λ n. IsSmall (index.spell n)) is
  indices_low [] all = tt
  indices_low (i ∷ is) all = let less : i < 0x1_0000_0000 = ltb-true i 0x1_0000_0000 all.0 in (one i (omega (arith, less)), indices_low is all.1)

  indices_in : (is : List ℕ) → AreIndices is → IsSmall (length is ∷ flat_map index.spell is)
  indices_in is all = counted index.spell is index_some (indices_low is (some_of (λ n. nat_lt n 0x1_0000_0000 ≡ true) is all))

  arguments_some : (ts : List Tree) (os : List Operand) → length os ≤ length (spell_arguments k ts os)
  arguments_some ts [] = omega arith
  arguments_some [] (x ∷ xs) = let others = arguments_some [] xs in omega (arith, others, length-append ((typed_value k).spell x) (spell_arguments k [] xs))
  arguments_some (t ∷ ts) (x ∷ xs) =
      let here = value_some k t x.value in
      let others = arguments_some ts xs in
      omega (arith, here, others, length-append (value_spell k t x.value) (spell_arguments k ts xs))

  arguments_in : (ts : List Tree) (os : List Operand) → AreArguments k ts os → AllGood os → IsSmall (spell_arguments k ts os)
  arguments_in ts [] fit g = none
  arguments_in [] (x ∷ xs) fit g = join ((typed_value k).spell x) (spell_arguments k [] xs) (operand_in x fit.0 (first_good x xs g)) (arguments_in [] xs fit.1 (later_good x xs g))
  arguments_in (t ∷ ts) (x ∷ xs) fit g = join (value_spell k t x.value) (spell_arguments k ts xs) (place_in t x fit.0 (first_good x xs g)) (arguments_in ts xs fit.1 (later_good x xs g))

  counted_arguments : (ts : List Tree) (os : List Operand) → AreArguments k ts os → AllGood os → IsSmall (length os ∷ spell_arguments k ts os)
  counted_arguments ts os fit g =
      let count = arguments_some ts os in
      let others = arguments_in ts os fit g in
      record { all = λ less. (omega (arith, less, count), others.all (omega (arith, less))) }

  module _ (texts : Texts) (lays_label : (own : ℕ) → Lays (IsLabel texts own) (label texts own)) (low : LowLabels texts) where
    -- a name that is there
    result_low : (own : ℕ) (result : Option LocalName) → IsSome (IsLabel texts own) result → IsSmall ((label texts 0).spell (unwrap_or result (Numbered 0)))
    result_low own None fit = elim fit [ ]
    result_low own (Some name) fit = low own name fit

    call_result_low : (own : ℕ) (empty : Bool) (result : Option LocalName) → IsCallResult texts own empty result → IsSmall ((result_by texts 0 empty).spell result)
    call_result_low own true result fit = none
    call_result_low own false result fit = result_low own result fit

    abbrev Spelled : Option LocalName → Operation → Type 0
    Spelled result o = IsSmall ((instruction texts k 0 (operation_opcode o)).spell (record { result = result; operation = o }))

    -- the operands behind a result's name
    behind_name : (own : ℕ) (result : Option LocalName) (others : List ℕ) → IsSome (IsLabel texts own) result → IsSmall others → IsSmall ((label texts 0).spell (unwrap_or result (Numbered 0)) ++ others)
    behind_name own result others fit rest = join ((label texts 0).spell (unwrap_or result (Numbered 0))) others (result_low own result fit) rest

    pub operation_low : (own : ℕ) (o : Operation) (result : Option LocalName) → OperationFits k o → IsResult texts k own o result → list_all (is_good_constant m) (known_of_operation o) ≡ true → Spelled result o
    operation_low own (BinaryOperation o f a b) result fit is g =
        let os = operands (BinaryOperation o f a b) in
        let all = all_front (is_good_constant m) (known_of_operands os) [] g in
        let right : Operand = record { ty = a.ty; value = b } in
        subst (λ (l : Layout Instruction). IsSmall (l.spell (record { result = result; operation = BinaryOperation o f a b }))) (sym (as_computation texts k lays_label 0 o fit.0))
        (behind_name own result _ is (next f _ (flags_low o f fit.1) (next (place same_type k.types a.ty) _ (type_low m k few a.ty fit.2.0)
        (join (value_spell k a.ty a.value) (value_spell k a.ty b) (value_in a.ty a.value fit.2.1 (first_good a (right ∷ []) all)) (value_in a.ty b fit.3 (first_good right [] (later_good a (right ∷ []) all)))))))
    operation_low own (Compare f p a b) result fit is g =
        let os = operands (Compare f p a b) in
        let all = all_front (is_good_constant m) (known_of_operands os) [] g in
        let right : Operand = record { ty = a.ty; value = b } in
        behind_name own result _ is (next f _ (flags_low op.ICmp f fit.0) (next (predicate_code p) _ (predicate_low p) (next (place same_type k.types a.ty) _ (type_low m k few a.ty fit.1.0)
        (join (value_spell k a.ty a.value) (value_spell k a.ty b) (value_in a.ty a.value fit.1.1 (first_good a (right ∷ []) all)) (value_in a.ty b fit.2 (first_good right [] (later_good a (right ∷ []) all)))))))
    operation_low own (Convert o f a t) result fit is g =
        let all = all_front (is_good_constant m) (known_of_operands (a ∷ [])) [] g in
        subst (λ (l : Layout Instruction). IsSmall (l.spell (record { result = result; operation = Convert o f a t }))) (sym (as_conversion texts k lays_label 0 o fit.0))
        (behind_name own result _ is (next f _ (flags_low o f fit.1) (next (place same_type k.types a.ty) _ (type_low m k few a.ty fit.2.0)
        (join (value_spell k a.ty a.value) (place same_type k.types t ∷ []) (value_in a.ty a.value fit.2.1 (first_good a [] all)) (one (place same_type k.types t) (type_low m k few t fit.3))))))
    operation_low own (Select c a b) result fit is g =
        let all = all_front (is_good_constant m) (known_of_operands (c ∷ a ∷ b ∷ [])) [] g in
        let later = later_good c (a ∷ b ∷ []) all in
        behind_name own result _ is (next (place same_type k.types a.ty) _ (type_low m k few a.ty fit.1.0)
        (join (value_spell k (int 1) c.value) (value_spell k a.ty a.value ++ value_spell k a.ty b.value) (place_in (int 1) c fit.0 (first_good c (a ∷ b ∷ []) all))
        (join (value_spell k a.ty a.value) (value_spell k a.ty b.value) (value_in a.ty a.value fit.1.1 (first_good a (b ∷ []) later)) (place_in a.ty b fit.2 (first_good b [] (later_good a (b ∷ []) later))))))
    operation_low own (Freeze a) result fit is g =
        let all = all_front (is_good_constant m) (known_of_operands (a ∷ [])) [] g in
        behind_name own result _ is (operand_in a fit (first_good a [] all))
    operation_low own (Phi t is_) result fit is g =
        let all = all_front (is_good_constant m) (known_of_operands (map (incoming_operand t) is_)) [] g in
        behind_name own result _ is (next (place same_type k.types t) _ (type_low m k few t fit.0) (counted (incoming k t).spell is_ (incoming_some t) (incoming_in t is_ (some_of (IncomingFits k t) is_ fit.1) all)))
    operation_low own (Load f t a align) result fit is g =
        let all = all_front (is_good_constant m) (known_of_operands (a ∷ [])) [] g in
        behind_name own result _ is (next f _ (flags_low op.Load f fit.0) (next (place same_type k.types t) _ (type_low m k few t fit.1)
        (join (value_spell k ptr a.value) (place same_option coded_alignments align ∷ []) (place_in ptr a fit.2 (first_good a [] all)) (one (place same_option coded_alignments align) (alignment_low align fit.3)))))
    operation_low own (Store f v a align) result fit is g =
        let all = all_front (is_good_constant m) (known_of_operands (v ∷ a ∷ [])) [] g in
        next f _ (flags_low op.Store f fit.0) (join ((typed_value k).spell v) (value_spell k ptr a.value ++ place same_option coded_alignments align ∷ []) (operand_in v fit.1 (first_good v (a ∷ []) all))
        (join (value_spell k ptr a.value) (place same_option coded_alignments align ∷ []) (place_in ptr a fit.2 (first_good a [] (later_good v (a ∷ []) all))) (one (place same_option coded_alignments align) (alignment_low align fit.3))))
    operation_low own (Alloca t None align) result fit is g =
        behind_name own result _ is (next (place same_type k.types t) _ (type_low m k few t fit.0) (next 0 _ (omega arith) (one (place same_option coded_alignments align) (alignment_low align fit.2))))
    operation_low own (Alloca t (Some count) align) result fit is g =
        let all = all_front (is_good_constant m) (known_of_operands (count ∷ [])) [] g in
        behind_name own result _ is (next (place same_type k.types t) _ (type_low m k few t fit.0) (next 1 _ (omega arith)
        (join ((typed_value k).spell count) (place same_option coded_alignments align ∷ []) (operand_in count fit.1 (first_good count [] all)) (one (place same_option coded_alignments align) (alignment_low align fit.2)))))
    operation_low own (GetElementPtr f t base indices) result fit is g =
        let all = all_front (is_good_constant m) (known_of_operands (base ∷ indices)) [] g in
        behind_name own result _ is (next f _ (flags_low op.GetElementPtr f fit.0) (next (place same_type k.types t) _ (type_low m k few t fit.1)
        (join (value_spell k ptr base.value) (length indices ∷ flat_map (typed_value k).spell indices) (place_in ptr base fit.2 (first_good base indices all))
        (counted (typed_value k).spell indices operand_some (operands_in indices fit.3 (later_good base indices all))))))
    operation_low own (Call s v xs) result fit is g =
        let all = all_front (is_good_constant m) (known_of_operands xs) (known_in ptr v) g in
        let called = all_rest (is_good_constant m) (known_of_operands xs) (known_in ptr v) g in
        next (place same_type k.types s.returns) _ (type_low m k few s.returns fit.0)
        (join ((result_by texts 0 (is_void s.returns)).spell result) (bool_code s.variadic ∷ ((length s.parameters ∷ flat_map (ty k).spell s.parameters) ++ (value_spell k ptr v ++ length xs ∷ spell_arguments k s.parameters xs))) (call_result_low own (is_void s.returns) result is)
        (next (bool_code s.variadic) _ (bool_low s.variadic)
        (join (length s.parameters ∷ flat_map (ty k).spell s.parameters) (value_spell k ptr v ++ length xs ∷ spell_arguments k s.parameters xs) (counted (ty k).spell s.parameters type_some (types_low s.parameters fit.1))
        (join (value_spell k ptr v) (length xs ∷ spell_arguments k s.parameters xs) (value_in ptr v fit.2 called) (counted_arguments s.parameters xs fit.3 all)))))
    operation_low own (ExtractValue a indices) result fit is g =
        let all = all_front (is_good_constant m) (known_of_operands (a ∷ [])) [] g in
        behind_name own result _ is (join ((typed_value k).spell a) (length indices ∷ flat_map index.spell indices) (operand_in a fit.0 (first_good a [] all)) (indices_in indices fit.1))
    operation_low own (InsertValue a part indices) result fit is g =
        let all = all_front (is_good_constant m) (known_of_operands (a ∷ part ∷ [])) [] g in
        behind_name own result _ is (join ((typed_value k).spell a) ((typed_value k).spell part ++ length indices ∷ flat_map index.spell indices) (operand_in a fit.0 (first_good a (part ∷ []) all))
        (join ((typed_value k).spell part) (length indices ∷ flat_map index.spell indices) (operand_in part fit.1 (first_good part [] (later_good a (part ∷ []) all))) (indices_in indices fit.2)))

  pub ending_low : (e : Ending) → EndingFits k e → AllGood (ending_operands e) → IsSmall ((ending k (ending_opcode e)).spell e)
  ending_low ReturnVoid fit g = one 0 (omega arith)
  ending_low (Return v) fit g = next 1 _ (omega arith) (operand_in v fit (first_good v [] g))
  ending_low (Jump b) fit g = next 0 _ (omega arith) (one (place same_local k.blocks b) (block_low b fit))
  ending_low (Branch c a b) fit g =
      next 1 _ (omega arith) (join (value_spell k (int 1) c.value) (place same_local k.blocks a ∷ place same_local k.blocks b ∷ []) (place_in (int 1) c fit.0 (first_good c [] g))
      (next (place same_local k.blocks a) _ (block_low a fit.1) (one (place same_local k.blocks b) (block_low b fit.2))))
  ending_low (Switch v b cases) fit g =
      let os = map case_operand cases in
      next (place same_type k.types v.ty) _ (type_low m k few v.ty fit.0.0)
      (join (value_spell k v.ty v.value) (place same_local k.blocks b ∷ length cases ∷ flat_map (case_of k v.ty).spell cases) (value_in v.ty v.value fit.0.1 (first_good v os g))
      (next (place same_local k.blocks b) _ (block_low b fit.1) (counted (case_of k v.ty).spell cases (case_some v.ty) (cases_in v.ty cases fit.2 (later_good v os g)))))
  ending_low Unreachable fit g = none
