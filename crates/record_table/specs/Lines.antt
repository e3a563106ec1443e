-- For `write` and `read` of bitcode: the lines of a body as operands, an instruction or an end by its opcode.
use Rattle.std.specs.Prelude.{ℕ, zero, suc, Bool, true, false, List, [], ◌∷◌, ◌++◌, length, ◌⊎◌, Option, Some, None, unwrap_or, nat_lt, slice_index_or, if◌then◌else◌}
use mathlib.Core.Logic.{inl, inr}
use Rattle.ir_tables.specs.declared.opcode.Opcode.{Opcode}
use Rattle.ir_tables.specs.declared.opcode.Opcode.TheVariants as op
use Rattle.ir_tables.specs.declared.predicate.Predicate.{Predicate}
use Rattle.ir_tables.specs.declared.predicate.Predicate.TheVariants.{Eq}
use Rattle.type_table.specs.Tree.{Tree, int, ptr, void}
use Rattle.module_arena.specs.Module.{Null, LocalName, Numbered, Value, Known, Operand, Incoming, Operation, BinaryOperation, Compare, Convert, Select, Freeze, Phi, Load, Store, Alloca, GetElementPtr, Call, ExtractValue, InsertValue, Instruction, Case, Ending, ReturnVoid, Return, Jump, Branch, Switch, Unreachable}
use Rattle.module_arena.specs.TypeTests.{is_void}
use Rattle.record_table.specs.Walk.{Walk, going, stopped, stop, next}
use Rattle.record_table.specs.Layout.{Layout, nothing, mapped, ◌&◌, ◌&>◌, counted, counted_some, option, either}
use Rattle.record_table.specs.Fields.{Texts, Numbering, ty, block, index, truth, label, alignment, predicate, flags}
use Rattle.record_table.specs.Constants.{constant, value}

-- a value behind its type
abbrev pub operand : Tree → Value → Operand
operand t v = record { ty = t; value = v }

-- a value that stands for nothing
abbrev pub no_value : Value
no_value = Known Null

-- an operand that stands for nothing
abbrev pub no_operand : Operand
no_operand = operand void no_value

-- an instruction with a result, and one without
abbrev pub giving : LocalName → Operation → Instruction
giving name operation = record { result = Some name; operation = operation }

-- one without a result
abbrev pub doing : Operation → Instruction
doing operation = record { result = None; operation = operation }

-- the name of the result
abbrev pub result_name : Instruction → LocalName
result_name i = unwrap_or i.result (Numbered 0)

-- what stands between a result's name and the end of its line: the parts of an instruction in its layout, or anything
-- where it is another instruction
abbrev pub binary_parts : Operation → ℕ × (Tree × (Value × Value))
binary_parts (BinaryOperation o f a b) = (f, (a.ty, (a.value, b)))
binary_parts _ = (0, (void, (no_value, no_value)))

-- of a comparison
abbrev pub compare_parts : Operation → ℕ × (Predicate × (Tree × (Value × Value)))
compare_parts (Compare f p a b) = (f, (p, (a.ty, (a.value, b))))
compare_parts _ = (0, (Eq, (void, (no_value, no_value))))

-- of a cast
abbrev pub convert_parts : Operation → ℕ × ((Tree × Value) × Tree)
convert_parts (Convert o f a t) = (f, ((a.ty, a.value), t))
convert_parts _ = (0, ((void, no_value), void))

-- of a select
abbrev pub select_parts : Operation → Tree × (Value × (Value × Value))
select_parts (Select c a b) = (a.ty, (c.value, (a.value, b.value)))
select_parts _ = (void, (no_value, (no_value, no_value)))

-- of a freeze
abbrev pub freeze_parts : Operation → Tree × Value
freeze_parts (Freeze a) = (a.ty, a.value)
freeze_parts _ = (void, no_value)

-- of a phi
abbrev pub phi_parts : Operation → Tree × List Incoming
phi_parts (Phi t incoming) = (t, incoming)
phi_parts _ = (void, [])

-- of a load
abbrev pub load_parts : Operation → ℕ × (Tree × (Value × Option ℕ))
load_parts (Load f t a align) = (f, (t, (a.value, align)))
load_parts _ = (0, (void, (no_value, None)))

-- of a store
abbrev pub store_parts : Operation → ℕ × ((Tree × Value) × (Value × Option ℕ))
store_parts (Store f v a align) = (f, ((v.ty, v.value), (a.value, align)))
store_parts _ = (0, ((void, no_value), (no_value, None)))

-- of an alloca
abbrev pub alloca_parts : Operation → Tree × (Option Operand × Option ℕ)
alloca_parts (Alloca t count align) = (t, (count, align))
alloca_parts _ = (void, (None, None))

-- of an address
abbrev pub element_parts : Operation → ℕ × (Tree × (Value × List Operand))
element_parts (GetElementPtr f t base indices) = (f, (t, (base.value, indices)))
element_parts _ = (0, (void, (no_value, [])))

-- of a part taken out
abbrev pub extract_parts : Operation → Operand × List ℕ
extract_parts (ExtractValue a indices) = (a, indices)
extract_parts _ = (no_operand, [])

-- of a part put in
abbrev pub insert_parts : Operation → Operand × (Operand × List ℕ)
insert_parts (InsertValue a part indices) = (a, (part, indices))
insert_parts _ = (no_operand, (no_operand, []))

-- the parts of a call: the type that it returns, its result, whether it is variadic, the types of its parameters, the callee and the arguments
abbrev pub CallParts : Type 0
CallParts = Tree × (Option LocalName × (Bool × (List Tree × (Value × List Operand))))

-- those of an instruction
abbrev pub call_parts : Instruction → CallParts
call_parts i = of_call i.result i.operation where
  -- those of an operation with this result; what is no call has none
  of_call : Option LocalName → Operation → CallParts
  of_call result (Call s callee arguments) = (s.returns, (result, (s.variadic, (s.parameters, (callee, arguments)))))
  of_call result _ = (void, (None, (false, ([], (no_value, [])))))

-- the call that has them
abbrev pub call_of : CallParts → Instruction
call_of (t, (result, (variadic, (ts, (callee, arguments))))) =
    record { result = result; operation = Call (record { returns = t; parameters = ts; variadic = variadic }) callee arguments }

-- a return of a value or of none
abbrev pub return_of : Option Operand → Ending
return_of None = ReturnVoid
return_of (Some v) = Return v

-- what is returned
abbrev pub return_parts : Ending → Option Operand
return_parts (Return v) = Some v
return_parts _ = None

-- a jump, or a branch by a condition
abbrev pub branch_of : LocalName ⊎ (Value × (LocalName × LocalName)) → Ending
branch_of (inl b) = Jump b
branch_of (inr (c, (a, b))) = Branch (operand (int 1) c) a b

-- what they are made of
abbrev pub branch_parts : Ending → LocalName ⊎ (Value × (LocalName × LocalName))
branch_parts (Branch c a b) = inr (c.value, (a, b))
branch_parts (Jump b) = inl b
branch_parts _ = inl (Numbered 0)

-- what a switch is made of
abbrev pub switch_parts : Ending → Tree × (Value × (LocalName × List Case))
switch_parts (Switch v b cases) = (v.ty, (v.value, (b, cases)))
switch_parts _ = (void, (no_value, (Numbered 0, [])))

-- the opcode of an operation
abbrev pub operation_opcode : Operation → Opcode
operation_opcode (BinaryOperation o f a b) = o
operation_opcode (Compare f p a b) = op.ICmp
operation_opcode (Convert o f a t) = o
operation_opcode (Select c a b) = op.Select
operation_opcode (Freeze a) = op.Freeze
operation_opcode (Phi t incoming) = op.Phi
operation_opcode (Load f t a align) = op.Load
operation_opcode (Store f v a align) = op.Store
operation_opcode (Alloca t count align) = op.Alloca
operation_opcode (GetElementPtr f t base indices) = op.GetElementPtr
operation_opcode (Call s callee arguments) = op.Call
operation_opcode (ExtractValue a indices) = op.ExtractValue
operation_opcode (InsertValue a part indices) = op.InsertValue

-- the opcode of an end
abbrev pub ending_opcode : Ending → Opcode
ending_opcode ReturnVoid = op.Ret
ending_opcode (Return v) = op.Ret
ending_opcode (Jump b) = op.Br
ending_opcode (Branch c a b) = op.Br
ending_opcode (Switch v b cases) = op.Switch
ending_opcode Unreachable = op.Unreachable

-- an opcode of an end
abbrev pub is_end : Opcode → Bool
is_end op.Ret = true
is_end op.Br = true
is_end op.Switch = true
is_end op.Unreachable = true
is_end _ = false

-- an instruction with a result whose parts stand so behind its name; `own` is the number that it has without a name
abbrev pub giving_by : {A : Type 0} → Texts → ℕ → (A → Operation) → (Operation → A) → Layout A → Layout Instruction
giving_by texts own to from l = mapped (λ (name, x). giving name (to x)) (λ i. (result_name i, from i.operation)) (label texts own & l)

-- a call has a result where it does not return `void`
abbrev pub result_by : Texts → ℕ → Bool → Layout (Option LocalName)
result_by texts own true = mapped (λ u. None) (λ result. tt) nothing
result_by texts own false = mapped (λ name. Some name) (λ result. unwrap_or result (Numbered 0)) (label texts own)

module _ (k : Numbering) where
  -- a type, and a value of it
  abbrev pub typed_value : Layout Operand
  typed_value = mapped (λ (t, v). operand t v) (λ o. (o.ty, o.value)) (ty k &> λ t. value k t)

  -- an entry of a phi
  abbrev pub incoming : Tree → Layout Incoming
  incoming t = mapped (λ (v, b). record { value = v; block = b }) (λ i. (i.value, i.block)) (value k t & block k)

  -- the arguments of a call: those for its parameters, and further ones behind their types
  unfoldable pub arguments_by : ℕ → List Tree → Walk → List Operand × Walk
  arguments_by zero ts w = ([], w)
  arguments_by (suc n) ts (stopped broken) = ([], stopped broken)
  arguments_by (suc n) [] (going rest broken) =
      let x = typed_value.read (going rest broken) in let xs = arguments_by n [] x.1 in (x.0 ∷ xs.0, xs.1)
  arguments_by (suc n) (t ∷ ts) (going rest broken) =
      let v = (value k t).read (going rest broken) in let xs = arguments_by n ts v.1 in (operand t v.0 ∷ xs.0, xs.1)

  -- how arguments are spelled
  abbrev pub spell_arguments : List Tree → List Operand → List ℕ
  spell_arguments ts [] = []
  spell_arguments [] (x ∷ xs) = typed_value.spell x ++ spell_arguments [] xs
  spell_arguments (t ∷ ts) (x ∷ xs) = (value k t).spell x.value ++ spell_arguments ts xs

  -- a count and so many arguments
  abbrev pub arguments : List Tree → Layout (List Operand)
  arguments ts = record { spell = λ xs. length xs ∷ spell_arguments ts xs; read = λ w. let n = next w in arguments_by n.0 ts n.1 }

  -- the type that a call returns. Where no type has that index, it is not known whether a result follows
  unfoldable pub known_type : ℕ → Walk → Tree × Walk
  known_type n w = if nat_lt n (length k.types) then (slice_index_or k.types n void, w) else (void, stop 2 w)

  -- the type that a call returns
  abbrev pub return_type : Layout Tree
  return_type = record { spell = (ty k).spell; read = λ w. let n = next w in known_type n.0 n.1 }

  -- a case of a switch over that type
  abbrev pub case_of : Tree → Layout Case
  case_of t = mapped (λ (c, b). record { ty = t; value = c; target = b }) (λ c. (c.value, c.target)) (constant k t & block k)

  -- an end of that opcode
  abbrev pub ending : Opcode → Layout Ending
  ending op.Ret = mapped return_of return_parts (option typed_value)
  ending op.Br = mapped branch_of branch_parts (either (block k) (value k (int 1) & block k & block k))
  ending op.Switch = mapped (λ (t, (v, (b, cases))). Switch (operand t v) b cases) switch_parts
      (ty k &> λ t. value k t & block k & counted (case_of t))
  ending _ = mapped (λ u. Unreachable) (λ e. tt) nothing

module _ (texts : Texts) (k : Numbering) where
  -- an operation on two integers
  abbrev pub computation : ℕ → Opcode → Layout Instruction
  computation own o = giving_by texts own (λ (f, (t, (a, b))). BinaryOperation o f (operand t a) b) binary_parts
      (flags o & ty k &> λ t. value k t & value k t)

  -- a cast
  abbrev pub conversion : ℕ → Opcode → Layout Instruction
  conversion own o = giving_by texts own (λ (f, ((t, a), to)). Convert o f (operand t a) to) convert_parts
      (flags o & (ty k &> λ t. value k t) & ty k)

  -- an instruction of that opcode
  abbrev pub instruction : ℕ → Opcode → Layout Instruction
  instruction own op.ICmp = giving_by texts own (λ (f, (p, (t, (a, b)))). Compare f p (operand t a) b) compare_parts
      (flags op.ICmp & predicate & ty k &> λ t. value k t & value k t)
  instruction own op.Trunc = conversion own op.Trunc
  instruction own op.ZExt = conversion own op.ZExt
  instruction own op.SExt = conversion own op.SExt
  instruction own op.PtrToInt = conversion own op.PtrToInt
  instruction own op.IntToPtr = conversion own op.IntToPtr
  instruction own op.Select = giving_by texts own (λ (t, (c, (a, b))). Select (operand (int 1) c) (operand t a) (operand t b)) select_parts
      (ty k &> λ t. value k (int 1) & value k t & value k t)
  instruction own op.Freeze = giving_by texts own (λ (t, a). Freeze (operand t a)) freeze_parts (ty k &> λ t. value k t)
  instruction own op.Phi = giving_by texts own (λ (t, all). Phi t all) phi_parts (ty k &> λ t. counted_some (incoming k t))
  instruction own op.Load = giving_by texts own (λ (f, (t, (a, align))). Load f t (operand ptr a) align) load_parts
      (flags op.Load & ty k & value k ptr & alignment)
  instruction own op.Store = mapped (λ (f, ((t, v), (a, align))). doing (Store f (operand t v) (operand ptr a) align)) (λ i. store_parts i.operation)
      (flags op.Store & (ty k &> λ t. value k t) & value k ptr & alignment)
  instruction own op.Alloca = giving_by texts own (λ (t, (count, align)). Alloca t count align) alloca_parts
      (ty k & option (typed_value k) & alignment)
  instruction own op.GetElementPtr = giving_by texts own (λ (f, (t, (a, indices))). GetElementPtr f t (operand ptr a) indices) element_parts
      (flags op.GetElementPtr & ty k & value k ptr & counted (typed_value k))
  instruction own op.Call = mapped call_of call_parts
      (return_type k &> λ t. result_by texts own (is_void t) & truth & counted (ty k) &> λ ts. value k ptr & arguments k ts)
  instruction own op.ExtractValue = giving_by texts own (λ (a, indices). ExtractValue a indices) extract_parts
      (typed_value k & counted_some index)
  instruction own op.InsertValue = giving_by texts own (λ (a, (part, indices)). InsertValue a part indices) insert_parts
      (typed_value k & typed_value k & counted_some index)
  instruction own o = computation own o
