-- The names that a body declares are found in its records.
use Rattle.std.proofs.Common.{◌≡◌, ℕ, ◌+◌, Bool, true, false, List, ◌++◌, Option, Some, None, refl, ap, ◌∙◌}
use Rattle.ir_tables.specs.declared.opcode.Opcode.{Opcode}
use Rattle.ir_tables.specs.declared.opcode.Opcode.TheVariants as op
use Rattle.ir_tables.specs.Opcode.{opcode_code, opcode_of_code}
use Rattle.module_arena.specs.Module.{LocalName, Instruction, Operation, BinaryOperation, Compare, Convert, Select, Freeze, Phi, Load, Store, Alloca, GetElementPtr, Call, ExtractValue, InsertValue, Ending, ReturnVoid, Return, Jump, Branch, Switch, Unreachable}
use Rattle.record_table.specs.Fields.{Texts, Numbering, label}
use Rattle.record_table.specs.Lines.{instruction, operation_opcode, ending_opcode}
use Rattle.module_arena.specs.TypeTests.{is_void}
use Rattle.record_table.specs.Faults.{Records, a_record}
use Rattle.record_table.specs.Bodies.{Labels, with_value, label_in, with_line, labels_from}
use Rattle.record_table.specs.Listed.{IsLabel}
use Rattle.record_table.specs.FittingLines.{IsCallResult, OperationFits, IsResult, InstructionFits}
use Rattle.std.proofs.lemmas.Bool.{false≢true}
use Rattle.module_arena.specs.Forms.{is_binary, is_cast}
use Rattle.record_table.specs.Lays.{Lays}
use Rattle.record_table.proofs.EveryLine.{named}
use Rattle.record_table.proofs.InstructionsBack.{as_computation, as_conversion}

-- with the result, where there is one
abbrev pub with_result : Labels → Option LocalName → Labels
with_result s None = s
with_result s (Some name) = with_value s name

module _ (texts : Texts) (k : Numbering) (values blocks : List LocalName) (lays_label : (own : ℕ) → Lays (IsLabel texts own) (label texts own)) where
  -- what indices stand for in the body
  abbrev q : Numbering
  q = record k { values = values; blocks = blocks }

  pub named_in : (own : ℕ) (name : LocalName) (rest : List ℕ) → IsLabel texts own name → label_in texts k own ((label texts 0).spell name ++ rest) ≡ name
  named_in own name rest fit = ap (λ p. p.0) ((lays_label own).back name rest fit)

  -- a record is one of its opcode
  by_opcode : (o : Opcode) (s : Labels) (operands : List ℕ) (behind : Records) → labels_from texts k s (a_record (10 + opcode_code o) operands behind) ≡ labels_from texts k (with_line texts k s operands (Some o)) behind
  unfolding opcode_of_code
  by_opcode op.Add s operands behind = refl
  by_opcode op.Sub s operands behind = refl
  by_opcode op.Mul s operands behind = refl
  by_opcode op.UDiv s operands behind = refl
  by_opcode op.SDiv s operands behind = refl
  by_opcode op.URem s operands behind = refl
  by_opcode op.SRem s operands behind = refl
  by_opcode op.Shl s operands behind = refl
  by_opcode op.LShr s operands behind = refl
  by_opcode op.AShr s operands behind = refl
  by_opcode op.And s operands behind = refl
  by_opcode op.Or s operands behind = refl
  by_opcode op.Xor s operands behind = refl
  by_opcode op.ICmp s operands behind = refl
  by_opcode op.Trunc s operands behind = refl
  by_opcode op.ZExt s operands behind = refl
  by_opcode op.SExt s operands behind = refl
  by_opcode op.PtrToInt s operands behind = refl
  by_opcode op.IntToPtr s operands behind = refl
  by_opcode op.Select s operands behind = refl
  by_opcode op.Freeze s operands behind = refl
  by_opcode op.Phi s operands behind = refl
  by_opcode op.Load s operands behind = refl
  by_opcode op.Store s operands behind = refl
  by_opcode op.Alloca s operands behind = refl
  by_opcode op.GetElementPtr s operands behind = refl
  by_opcode op.Call s operands behind = refl
  by_opcode op.ExtractValue s operands behind = refl
  by_opcode op.InsertValue s operands behind = refl
  by_opcode op.Ret s operands behind = refl
  by_opcode op.Br s operands behind = refl
  by_opcode op.Switch s operands behind = refl
  by_opcode op.Unreachable s operands behind = refl

  computed : (o : Opcode) (s : Labels) (operands : List ℕ) → is_binary o ≡ true → with_line texts k s operands (Some o) ≡ with_value s (label_in texts k s.own operands)
  computed op.Add s operands is = refl
  computed op.Sub s operands is = refl
  computed op.Mul s operands is = refl
  computed op.UDiv s operands is = refl
  computed op.SDiv s operands is = refl
  computed op.URem s operands is = refl
  computed op.SRem s operands is = refl
  computed op.Shl s operands is = refl
  computed op.LShr s operands is = refl
  computed op.AShr s operands is = refl
  computed op.And s operands is = refl
  computed op.Or s operands is = refl
  computed op.Xor s operands is = refl
  computed _ s operands is = absurd (false≢true is)

  converted : (o : Opcode) (s : Labels) (operands : List ℕ) → is_cast o ≡ true → with_line texts k s operands (Some o) ≡ with_value s (label_in texts k s.own operands)
  converted op.Trunc s operands is = refl
  converted op.ZExt s operands is = refl
  converted op.SExt s operands is = refl
  converted op.PtrToInt s operands is = refl
  converted op.IntToPtr s operands is = refl
  converted _ s operands is = absurd (false≢true is)

  -- the value that a line begins with
  with_named : (s : Labels) (name : LocalName) (rest : List ℕ) → IsLabel texts s.own name → with_value s (label_in texts k s.own ((label texts 0).spell name ++ rest)) ≡ with_value s name
  with_named s name rest fit = ap (with_value s) (named_in s.own name rest fit)

  gives : (own : ℕ) (is : Bool) (name : LocalName) → IsCallResult texts own is (Some name) → is ≡ false
  gives own true name has = elim has [ ]
  gives own false name has = refl

  gives_none : (own : ℕ) (is : Bool) → IsCallResult texts own is None → is ≡ true
  gives_none own true has = refl
  gives_none own false has = elim has [ ]

  named_line : (s : Labels) (name : LocalName) (operation : Operation) → IsLabel texts s.own name → OperationFits q operation → IsResult texts q s.own operation (Some name)
      → with_line texts k s ((instruction texts q 0 (operation_opcode operation)).spell (record { result = Some name; operation = operation })) (Some (operation_opcode operation)) ≡ with_value s name
  named_line s name (BinaryOperation o f a b) called fit is = rw (as_computation texts q lays_label 0 o fit.0) (computed o s _ fit.0 ∙ with_named s name _ called)
  named_line s name (Compare f p a b) called fit is = with_named s name _ called
  named_line s name (Convert o f a t) called fit is = rw (as_conversion texts q lays_label 0 o fit.0) (converted o s _ fit.0 ∙ with_named s name _ called)
  named_line s name (Select c a b) called fit is = with_named s name _ called
  named_line s name (Freeze a) called fit is = with_named s name _ called
  named_line s name (Phi t all) called fit is = with_named s name _ called
  named_line s name (Load f t a align) called fit is = with_named s name _ called
  named_line s name (Store f v a align) called fit is = elim is [ ]
  named_line s name (Alloca t count align) called fit is = with_named s name _ called
  named_line s name (GetElementPtr f t a indices) called fit is = with_named s name _ called
  named_line s name (Call g callee xs) called fit is = rw (fit.0.found, gives s.own (is_void g.returns) name is) (with_named s name _ called)
  named_line s name (ExtractValue a indices) called fit is = with_named s name _ called
  named_line s name (InsertValue a part indices) called fit is = with_named s name _ called

  bare_line : (s : Labels) (operation : Operation) → OperationFits q operation → IsResult texts q s.own operation None
      → with_line texts k s ((instruction texts q 0 (operation_opcode operation)).spell (record { result = None; operation = operation })) (Some (operation_opcode operation)) ≡ s
  bare_line s (Store f v a align) fit is = refl
  bare_line s (Call g callee xs) fit is = rw (fit.0.found, gives_none s.own (is_void g.returns) is) refl
  bare_line s (BinaryOperation o f a b) fit is = elim is [ ]
  bare_line s (Compare f p a b) fit is = elim is [ ]
  bare_line s (Convert o f a t) fit is = elim is [ ]
  bare_line s (Select c a b) fit is = elim is [ ]
  bare_line s (Freeze a) fit is = elim is [ ]
  bare_line s (Phi t all) fit is = elim is [ ]
  bare_line s (Load f t a align) fit is = elim is [ ]
  bare_line s (Alloca t count align) fit is = elim is [ ]
  bare_line s (GetElementPtr f t a indices) fit is = elim is [ ]
  bare_line s (ExtractValue a indices) fit is = elim is [ ]
  bare_line s (InsertValue a part indices) fit is = elim is [ ]

  line_in : (s : Labels) (result : Option LocalName) (operation : Operation) → InstructionFits texts q s.own (record { result = result; operation = operation })
      → with_line texts k s ((instruction texts q 0 (operation_opcode operation)).spell (record { result = result; operation = operation })) (Some (operation_opcode operation)) ≡ with_result s result
  line_in s None operation fit = bare_line s operation fit.0 fit.1
  line_in s (Some name) operation fit = named_line s name operation (named texts q lays_label s.own operation name fit.1) fit.0 fit.1

  -- an instruction
  pub instruction_in : (s : Labels) (i : Instruction) (behind : Records) → InstructionFits texts q s.own i
      → labels_from texts k s (a_record (10 + opcode_code (operation_opcode i.operation)) ((instruction texts q 0 (operation_opcode i.operation)).spell i) behind) ≡ labels_from texts k (with_result s i.result) behind
  instruction_in s i behind fit =
      by_opcode (operation_opcode i.operation) s ((instruction texts q 0 (operation_opcode i.operation)).spell i) behind
      ∙ ap (λ t. labels_from texts k t behind) (line_in s i.result i.operation fit)

  -- an end declares nothing
  with_end : (e : Ending) (s : Labels) (operands : List ℕ) → with_line texts k s operands (Some (ending_opcode e)) ≡ s
  with_end ReturnVoid s operands = refl
  with_end (Return v) s operands = refl
  with_end (Jump b) s operands = refl
  with_end (Branch c a b) s operands = refl
  with_end (Switch v b cases) s operands = refl
  with_end Unreachable s operands = refl

  pub end_in : (s : Labels) (e : Ending) (operands : List ℕ) (behind : Records) → labels_from texts k s (a_record (10 + opcode_code (ending_opcode e)) operands behind) ≡ labels_from texts k s behind
  end_in s e operands behind = by_opcode (ending_opcode e) s operands behind ∙ ap (λ t. labels_from texts k t behind) (with_end e s operands)
