-- What an instruction spells is read back.
use Rattle.std.proofs.Common.{◌≡◌, ℕ, suc, Bool, true, false, List, [], ◌∷◌, ◌++◌, length, Option, Some, None, refl, sym, ap, ◌∙◌, append_assoc}
use Rattle.std.specs.Prelude.{nat_lt, unwrap_or, ⊤}
use Rattle.std.proofs.lemmas.Bool.{false≢true}
use Rattle.std.specs.List.{AllByRecursion}
use Rattle.ir_tables.specs.declared.opcode.Opcode.{Opcode}
use Rattle.ir_tables.specs.declared.opcode.Opcode.TheVariants as op
use Rattle.ir_tables.specs.declared.predicate.Predicate.{Predicate}
use Rattle.ir_tables.specs.declared.predicate.Predicate.TheVariants.{Eq, Ne, Ugt, Uge, Ult, Ule, Sgt, Sge, Slt, Sle}
use Rattle.ir_tables.specs.Predicate.{predicate_of_code}
use Rattle.type_table.specs.Tree.{Tree, int, ptr}
use Rattle.module_arena.specs.Module.{LocalName, Signature, Numbered, Value, Operand, Incoming, Instruction, Operation, BinaryOperation, Compare, Convert, Select, Freeze, Phi, Load, Store, Alloca, GetElementPtr, Call, ExtractValue, InsertValue}
use Rattle.record_table.specs.Walk.{Walk, going, next}
use Rattle.record_table.specs.Layout.{Layout, ◌&>◌, counted_some}
use Rattle.record_table.specs.Fields.{Texts, Numbering, ty, block, label, index, truth, predicate, flags, alignment}
use Rattle.module_arena.specs.Forms.{are_flags_of, is_binary, is_cast}
use Rattle.module_arena.specs.Same.{same_local}
use Rattle.record_table.specs.Constants.{value}
use Rattle.record_table.specs.Lines.{doing, store_parts, insert_parts, call_of, call_parts, return_type, known_type, result_by, arguments, arguments_by, spell_arguments, giving, giving_by, instruction, computation, conversion, binary_parts, compare_parts, select_parts, phi_parts, convert_parts, freeze_parts, load_parts, element_parts, alloca_parts, extract_parts, operand, operation_opcode, typed_value, incoming}
use Rattle.module_arena.specs.TypeTests.{is_void}
use Rattle.record_table.specs.Listed.{AreSome, AreFlagsOf, IsType, IsBlock, IsLabel, IsAlignment}
use Rattle.record_table.specs.FittingConstants.{ValueFits, OperandFits}
use Rattle.record_table.specs.FittingLines.{IfSome, AreIndices, IsCallResult, AreArguments, FitsPlace, IncomingFits, OperationFits, IsResult}
use Rattle.record_table.specs.Lays.{Lays}
use Rattle.record_table.proofs.Layouts.{IsGoodOption, lays_indexed, lays_tested, lays_both, lays_chain, lays_mapped, lays_counted, lays_option, lays_some, lays_as}
use Rattle.record_table.proofs.LinesBack as lines

module _ (texts : Texts) (k : Numbering) (lays_label : (own : ℕ) → Lays (IsLabel texts own) (label texts own)) where
  -- an instruction is read back behind its own operands
  abbrev pub IsBack : ℕ → Opcode → Instruction → Type 0
  IsBack own o i = (rest : List ℕ) → (instruction texts k own o).read (going ((instruction texts k own o).spell i ++ rest) None) ≡ (i, going rest None)

  giving_back : {A : Type 0} {good : A → Type 0} {l : Layout A} (own : ℕ) (to : A → Operation) (from : Operation → A) → Lays good l
      → (name : LocalName) (operation : Operation) → IsLabel texts own name → good (from operation) → to (from operation) ≡ operation
      → (rest : List ℕ) → (giving_by texts own to from l).read (going ((giving_by texts own to from l).spell (giving name operation) ++ rest) None) ≡ (giving name operation, going rest None)
  giving_back own to from lays name operation called good same rest =
      (lines.lays_giving texts k lays_label own to from lays).back (giving name operation) rest ((called, good), ap (giving name) same)

  pub lays_value : (t : Tree) → Lays (ValueFits k t) (value k t)
  lays_value t = lines.lays_value texts k lays_label t

  pub lays_ty : Lays (IsType k) (ty k)
  lays_ty = lines.lays_ty texts k lays_label

  lays_flags : (o : Opcode) → Lays (AreFlagsOf o) (flags o)
  lays_flags o = lays_tested 3 (are_flags_of o)

  lays_typed : Lays (λ x. IsType k x.0 × ValueFits k x.0 x.1) (ty k &> λ t. value k t)
  lays_typed = lays_chain lays_ty (λ t known. lays_value t)

  pub lays_operand : Lays (OperandFits k) (typed_value k)
  lays_operand = lays_as (λ o fit. ((fit.0, fit.1), refl)) (lays_mapped (λ (t, v). operand t v) (λ o. (o.ty, o.value)) lays_typed)

  computation_back : (own : ℕ) (o : Opcode) (name : LocalName) (f : ℕ) (a : Operand) (b : Value) → IsLabel texts own name → AreFlagsOf o f → OperandFits k a → ValueFits k a.ty b
      → (rest : List ℕ) → (computation texts k own o).read (going ((computation texts k own o).spell (giving name (BinaryOperation o f a b)) ++ rest) None) ≡ (giving name (BinaryOperation o f a b), going rest None)
  computation_back own o name f a b called known fit_a fit_b =
      giving_back own (λ (f, (t, (a, b))). BinaryOperation o f (operand t a) b) binary_parts (lays_both (lays_flags o) (lays_chain lays_ty (λ t known. lays_both (lays_value t) (lays_value t))))
      name (BinaryOperation o f a b) called (known, (fit_a.0, (fit_a.1, fit_b))) refl

  conversion_back : (own : ℕ) (o : Opcode) (name : LocalName) (f : ℕ) (a : Operand) (t : Tree) → IsLabel texts own name → AreFlagsOf o f → OperandFits k a → IsType k t
      → (rest : List ℕ) → (conversion texts k own o).read (going ((conversion texts k own o).spell (giving name (Convert o f a t)) ++ rest) None) ≡ (giving name (Convert o f a t), going rest None)
  conversion_back own o name f a t called known fit_a fit_t =
      giving_back own (λ (f, ((t, a), to)). Convert o f (operand t a) to) convert_parts (lays_both (lays_flags o) (lays_both lays_typed lays_ty))
      name (Convert o f a t) called (known, ((fit_a.0, fit_a.1), fit_t)) refl

  freeze_back : (own : ℕ) (name : LocalName) (a : Operand) → IsLabel texts own name → OperandFits k a → IsBack own op.Freeze (giving name (Freeze a))
  freeze_back own name a called fit = giving_back own (λ (t, a). Freeze (operand t a)) freeze_parts lays_typed name (Freeze a) called (fit.0, fit.1) refl

  load_back : (own : ℕ) (name : LocalName) (f : ℕ) (t : Tree) (a : Operand) (align : Option ℕ) → IsLabel texts own name → AreFlagsOf op.Load f → IsType k t → FitsPlace k ptr a → IsAlignment align
      → IsBack own op.Load (giving name (Load f t a align))
  load_back own name f t a align called known known_ty fit aligned =
      giving_back own (λ (f, (t, (a, align))). Load f t (operand ptr a) align) load_parts (lays_both (lays_flags op.Load) (lays_both lays_ty (lays_both (lays_value ptr) (lines.lays_alignment texts k lays_label))))
      name (Load f t a align) called (known, (known_ty, (fit.1, aligned))) (ap (λ u. Load f t (operand u a.value) align) (sym fit.0))

  lays_predicate : Lays (λ p. ⊤) predicate
  unfolding next predicate_of_code
  lays_predicate = record { back = back } where
    back : (p : Predicate) (rest : List ℕ) → ⊤ → predicate.read (going (predicate.spell p ++ rest) None) ≡ (p, going rest None)
    back Eq rest g = refl
    back Ne rest g = refl
    back Ugt rest g = refl
    back Uge rest g = refl
    back Ult rest g = refl
    back Ule rest g = refl
    back Sgt rest g = refl
    back Sge rest g = refl
    back Slt rest g = refl
    back Sle rest g = refl

  compare_back : (own : ℕ) (name : LocalName) (f : ℕ) (p : Predicate) (a : Operand) (b : Value) → IsLabel texts own name → AreFlagsOf op.ICmp f → OperandFits k a → ValueFits k a.ty b → IsBack own op.ICmp (giving name (Compare f p a b))
  compare_back own name f p a b called known fit_a fit_b =
      giving_back own (λ (f, (p, (t, (a, b)))). Compare f p (operand t a) b) compare_parts
      (lays_both (lays_flags op.ICmp) (lays_both lays_predicate (lays_chain lays_ty (λ t known. lays_both (lays_value t) (lays_value t)))))
      name (Compare f p a b) called (known, (tt, (fit_a.0, (fit_a.1, fit_b)))) refl

  select_back : (own : ℕ) (name : LocalName) (c a b : Operand) → IsLabel texts own name → FitsPlace k (int 1) c → OperandFits k a → FitsPlace k a.ty b → IsBack own op.Select (giving name (Select c a b))
  select_back own name c a b called fit_c fit_a fit_b =
      giving_back own (λ (t, (c, (a, b))). Select (operand (int 1) c) (operand t a) (operand t b)) select_parts
      (lays_chain lays_ty (λ t known. lays_both (lays_value (int 1)) (lays_both (lays_value t) (lays_value t))))
      name (Select c a b) called (fit_a.0, (fit_c.1, (fit_a.1, fit_b.1))) (ap (λ u. Select (operand u c.value) a (operand a.ty b.value)) (sym fit_c.0) ∙ ap (λ u. Select c a (operand u b.value)) (sym fit_b.0))

  pub lays_truth : Lays (λ b. ⊤) truth
  unfolding next
  lays_truth = record { back = back } where
    back : (b : Bool) (rest : List ℕ) → ⊤ → truth.read (going (truth.spell b ++ rest) None) ≡ (b, going rest None)
    back true rest g = refl
    back false rest g = refl

  pub lays_block : Lays (IsBlock k) (block k)
  lays_block = lays_indexed same_local k.blocks (Numbered 0)

  lays_incoming : (t : Tree) → Lays (IncomingFits k t) (incoming k t)
  lays_incoming t = lays_as (λ i fit. ((fit.0, fit.1), refl)) (lays_mapped (λ (v, b). record { value = v; block = b }) (λ i. (i.value, i.block)) (lays_both (lays_value t) lays_block))

  phi_back : (own : ℕ) (name : LocalName) (t : Tree) (all : List Incoming) → IsLabel texts own name → IsType k t → AreSome (IncomingFits k t) all → IsBack own op.Phi (giving name (Phi t all))
  phi_back own name t all called known fit =
      giving_back own (λ (t, all). Phi t all) phi_parts (lays_chain lays_ty (λ t known. lays_some (lays_incoming t))) name (Phi t all) called (known, fit) refl

  lays_indices : Lays AreIndices (counted_some index)
  lays_indices = lays_some (lays_tested 3 (λ n. nat_lt n 0x1_0000_0000))

  pub lays_alignment : Lays IsAlignment alignment
  lays_alignment = lines.lays_alignment texts k lays_label

  store_back : (own : ℕ) (f : ℕ) (v a : Operand) (align : Option ℕ) → AreFlagsOf op.Store f → OperandFits k v → FitsPlace k ptr a → IsAlignment align → IsBack own op.Store (doing (Store f v a align))
  store_back own f v a align known fit_v fit_a aligned rest =
      (lays_mapped (λ (f, ((t, v), (a, align))). doing (Store f (operand t v) (operand ptr a) align)) (λ i. store_parts i.operation)
      (lays_both (lays_flags op.Store) (lays_both lays_typed (lays_both (lays_value ptr) lays_alignment)))).back
      (doing (Store f v a align)) rest ((known, ((fit_v.0, fit_v.1), (fit_a.1, aligned))), ap (λ u. doing (Store f v (operand u a.value) align)) (sym fit_a.0))

  alloca_back : (own : ℕ) (name : LocalName) (t : Tree) (count : Option Operand) (align : Option ℕ) → IsLabel texts own name → IsType k t → IsGoodOption (OperandFits k) count → IsAlignment align
      → IsBack own op.Alloca (giving name (Alloca t count align))
  alloca_back own name t count align called known fit aligned =
      giving_back own (λ (t, (count, align)). Alloca t count align) alloca_parts (lays_both lays_ty (lays_both (lays_option lays_operand) lays_alignment))
      name (Alloca t count align) called (known, (fit, aligned)) refl

  element_back : (own : ℕ) (name : LocalName) (f : ℕ) (t : Tree) (a : Operand) (indices : List Operand) → IsLabel texts own name → AreFlagsOf op.GetElementPtr f → IsType k t → FitsPlace k ptr a
      → AllByRecursion (OperandFits k) indices → IsBack own op.GetElementPtr (giving name (GetElementPtr f t a indices))
  element_back own name f t a indices called known known_ty fit fits =
      giving_back own (λ (f, (t, (a, indices))). GetElementPtr f t (operand ptr a) indices) element_parts
      (lays_both (lays_flags op.GetElementPtr) (lays_both lays_ty (lays_both (lays_value ptr) (lays_counted lays_operand))))
      name (GetElementPtr f t a indices) called (known, (known_ty, (fit.1, fits))) (ap (λ u. GetElementPtr f t (operand u a.value) indices) (sym fit.0))

  extract_back : (own : ℕ) (name : LocalName) (a : Operand) (indices : List ℕ) → IsLabel texts own name → OperandFits k a → AreIndices indices → IsBack own op.ExtractValue (giving name (ExtractValue a indices))
  extract_back own name a indices called fit small =
      giving_back own (λ (a, indices). ExtractValue a indices) extract_parts (lays_both lays_operand lays_indices) name (ExtractValue a indices) called (fit, small) refl

  insert_back : (own : ℕ) (name : LocalName) (a part : Operand) (indices : List ℕ) → IsLabel texts own name → OperandFits k a → OperandFits k part → AreIndices indices
      → IsBack own op.InsertValue (giving name (InsertValue a part indices))
  insert_back own name a part indices called fit fit_part small =
      giving_back own (λ (a, (part, indices)). InsertValue a part indices) insert_parts (lays_both lays_operand (lays_both lays_operand lays_indices))
      name (InsertValue a part indices) called (fit, (fit_part, small)) refl

  arguments_back : (ts : List Tree) (xs : List Operand) (rest : List ℕ) → AreArguments k ts xs → arguments_by k (length xs) ts (going (spell_arguments k ts xs ++ rest) None) ≡ (xs, going rest None)
  unfolding arguments_by
  arguments_back ts [] rest fit = refl
  arguments_back [] (x ∷ xs) rest fit =
      ap (λ operands. arguments_by k (suc (length xs)) [] (going operands None)) (append_assoc ((typed_value k).spell x) (spell_arguments k [] xs) rest)
      ∙ ap (λ (p : Operand × Walk). (p.0 ∷ (arguments_by k (length xs) [] p.1).0, (arguments_by k (length xs) [] p.1).1)) (lays_operand.back x (spell_arguments k [] xs ++ rest) fit.0)
      ∙ ap (λ (q : List Operand × Walk). (x ∷ q.0, q.1)) (arguments_back [] xs rest fit.1)
  arguments_back (t ∷ ts) (x ∷ xs) rest fit =
      ap (λ operands. arguments_by k (suc (length xs)) (t ∷ ts) (going operands None)) (append_assoc ((value k t).spell x.value) (spell_arguments k ts xs) rest)
      ∙ ap (λ (p : Value × Walk). (operand t p.0 ∷ (arguments_by k (length xs) ts p.1).0, (arguments_by k (length xs) ts p.1).1)) ((lays_value t).back x.value (spell_arguments k ts xs ++ rest) fit.0.1)
      ∙ ap (λ (q : List Operand × Walk). (operand t x.value ∷ q.0, q.1)) (arguments_back ts xs rest fit.1)
      ∙ ap (λ u. (operand u x.value ∷ xs, going rest None)) (sym fit.0.0)

  lays_arguments : (ts : List Tree) → Lays (AreArguments k ts) (arguments k ts)
  unfolding next
  lays_arguments ts = record { back = λ xs rest fit. arguments_back ts xs rest fit }

  lays_return : Lays (IsType k) (return_type k)
  unfolding next known_type
  lays_return = record { back = λ t rest fit. rw (fit.inside, fit.found) refl }

  lays_result : (own : ℕ) (is : Bool) → Lays (IsCallResult texts own is) (result_by texts own is)
  lays_result own true = record { back = back } where
    back : (x : Option LocalName) (rest : List ℕ) → IsCallResult texts own true x → (result_by texts own true).read (going ((result_by texts own true).spell x ++ rest) None) ≡ (x, going rest None)
    back None rest fit = refl
    back (Some name) rest fit = elim fit [ ]
  lays_result own false = lays_as some (lays_mapped (λ name. Some name) (λ result. unwrap_or result (Numbered 0)) (lays_label own)) where
    some : (x : Option LocalName) → IsCallResult texts own false x → IsLabel texts own (unwrap_or x (Numbered 0)) × (Some (unwrap_or x (Numbered 0)) ≡ x)
    some None fit = elim fit [ ]
    some (Some name) fit = (fit, refl)

  call_back : (own : ℕ) (result : Option LocalName) (s : Signature) (callee : Value) (xs : List Operand) → IsType k s.returns → IsCallResult texts own (is_void s.returns) result
      → AllByRecursion (IsType k) s.parameters → ValueFits k ptr callee → AreArguments k s.parameters xs → IsBack own op.Call (record { result = result; operation = Call s callee xs })
  call_back own result s callee xs known has fits fit fits_xs rest =
      (lays_mapped call_of call_parts (lays_chain lays_return (λ t known. lays_both (lays_result own (is_void t)) (lays_both lays_truth (lays_chain (lays_counted lays_ty) (λ ts known. lays_both (lays_value ptr) (lays_arguments ts))))))).back
      (record { result = result; operation = Call s callee xs }) rest ((known, (has, (tt, (fits, (fit, fits_xs))))), refl)

  -- the opcodes that stand for computations and conversions have their layouts
  pub as_computation : (own : ℕ) (o : Opcode) → is_binary o ≡ true → instruction texts k own o ≡ computation texts k own o
  as_computation own op.Add is = refl
  as_computation own op.Sub is = refl
  as_computation own op.Mul is = refl
  as_computation own op.UDiv is = refl
  as_computation own op.SDiv is = refl
  as_computation own op.URem is = refl
  as_computation own op.SRem is = refl
  as_computation own op.Shl is = refl
  as_computation own op.LShr is = refl
  as_computation own op.AShr is = refl
  as_computation own op.And is = refl
  as_computation own op.Or is = refl
  as_computation own op.Xor is = refl
  as_computation own _ is = absurd (false≢true is)

  pub as_conversion : (own : ℕ) (o : Opcode) → is_cast o ≡ true → instruction texts k own o ≡ conversion texts k own o
  as_conversion own op.Trunc is = refl
  as_conversion own op.ZExt is = refl
  as_conversion own op.SExt is = refl
  as_conversion own op.PtrToInt is = refl
  as_conversion own op.IntToPtr is = refl
  as_conversion own _ is = absurd (false≢true is)

  if_some : (o : Option Operand) → IfSome (OperandFits k) o → IsGoodOption (OperandFits k) o
  if_some None fit = tt
  if_some (Some x) fit = fit

  pub named_back : (own : ℕ) (name : LocalName) (operation : Operation) → IsLabel texts own name → OperationFits k operation → IsResult texts k own operation (Some name) → IsBack own (operation_opcode operation) (giving name operation)
  named_back own name (BinaryOperation o f a b) called fit is = λ rest. rw (as_computation own o fit.0) (computation_back own o name f a b called fit.1 fit.2 fit.3 rest)
  named_back own name (Compare f p a b) called fit is = compare_back own name f p a b called fit.0 fit.1 fit.2
  named_back own name (Convert o f a t) called fit is = λ rest. rw (as_conversion own o fit.0) (conversion_back own o name f a t called fit.1 fit.2 fit.3 rest)
  named_back own name (Select c a b) called fit is = select_back own name c a b called fit.0 fit.1 fit.2
  named_back own name (Freeze a) called fit is = freeze_back own name a called fit
  named_back own name (Phi t all) called fit is = phi_back own name t all called fit.0 fit.1
  named_back own name (Load f t a align) called fit is = load_back own name f t a align called fit.0 fit.1 fit.2 fit.3
  named_back own name (Store f v a align) called fit is = elim is [ ]
  named_back own name (Alloca t count align) called fit is = alloca_back own name t count align called fit.0 (if_some count fit.1) fit.2
  named_back own name (GetElementPtr f t a indices) called fit is = element_back own name f t a indices called fit.0 fit.1 fit.2 fit.3
  named_back own name (Call s callee xs) called fit is = call_back own (Some name) s callee xs fit.0 is fit.1 fit.2 fit.3
  named_back own name (ExtractValue a indices) called fit is = extract_back own name a indices called fit.0 fit.1
  named_back own name (InsertValue a part indices) called fit is = insert_back own name a part indices called fit.0 fit.1 fit.2

  pub bare_back : (own : ℕ) (operation : Operation) → OperationFits k operation → IsResult texts k own operation None → IsBack own (operation_opcode operation) (doing operation)
  bare_back own (Store f v a align) fit is = store_back own f v a align fit.0 fit.1 fit.2 fit.3
  bare_back own (Call s callee xs) fit is = call_back own None s callee xs fit.0 is fit.1 fit.2 fit.3
  bare_back own (BinaryOperation o f a b) fit is = elim is [ ]
  bare_back own (Compare f p a b) fit is = elim is [ ]
  bare_back own (Convert o f a t) fit is = elim is [ ]
  bare_back own (Select c a b) fit is = elim is [ ]
  bare_back own (Freeze a) fit is = elim is [ ]
  bare_back own (Phi t all) fit is = elim is [ ]
  bare_back own (Load f t a align) fit is = elim is [ ]
  bare_back own (Alloca t count align) fit is = elim is [ ]
  bare_back own (GetElementPtr f t a indices) fit is = elim is [ ]
  bare_back own (ExtractValue a indices) fit is = elim is [ ]
  bare_back own (InsertValue a part indices) fit is = elim is [ ]
