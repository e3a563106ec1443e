-- A call by one of the types of its row has the arguments that the row looks at.
use Rattle.std.proofs.Common.{◌≡◌, ℕ, List, [], ◌∷◌, ◌++◌, map, refl, sym, ap, ◌∙◌, subst, true, false, true≢false, Option, Some, None, inl, inr}
use Rattle.std.specs.List.{AllZip, list_any}
use Rattle.std.proofs.lemmas.Bool.{or_cases}
use Rattle.ir_eval.specs.Value.{IsInteger}
use Rattle.ir_eval.specs.declared.value.Scalar.{Scalar}
use Rattle.ir_intrinsics.specs.Operands.{IsOperand, second_width, third_width}
use Rattle.ir_memory.specs.declared.leaf.Leaf.{Leaf}
use Rattle.ir_memory.specs.declared.leaf.Leaf.TheVariants as leaf
use Rattle.ir_tables.specs.declared.intrinsic.Intrinsic.{Intrinsic}
use Rattle.ir_tables.specs.declared.intrinsic.Intrinsic.TheVariants as integer
use Rattle.module_arena.specs.declared.host.HostRow.{HostRow}
use Rattle.module_arena.specs.declared.host.HostRow.TheVariants.{Putchar, Puts, Getchar, Exit, Abort, Malloc, Free, Memcpy, Memmove, Memset, Strlen, MemcpyI64, MemmoveI64, MemsetI64, MemcpyI32, MemmoveI32, MemsetI32, LifetimeStart, LifetimeEnd, Printf, Integer}
use Rattle.module_arena.specs.HostRows.{host_types, fixed, integer_returns, integer_parameters}
use Rattle.run_rules.specs.Action.{Signature}
use Rattle.run_rules.specs.Calls.{same_signature}
use Rattle.run_rules.specs.Constant.{shape_of}
use Rattle.run_rules.specs.Host.{operand_at}
use Rattle.run_rules.specs.Look.{no_names}
use Rattle.run_rules.specs.Resolve.{signature_in}
use Rattle.run_names.specs.Types.Wanted.{leaf_of}
use Rattle.type_table.specs.Shape.{Shape, int_leaf, ptr_leaf, void_leaf, opaque_leaf, array_of, struct_of}
use Rattle.typed_runs.specs.Actions.{AreArguments}
use Rattle.typed_runs.specs.Kinds.{IsOf, kinds_of_all}
use Rattle.typed_runs.proofs.Hosts.{signature_exact, all_parameters}
use Rattle.typed_runs.proofs.Values.{integer_from}
use Rattle.run_actions.specs.Hosts.Made.{IsHostCall}
use Rattle.run_actions.specs.Hosts.Printing.{AreOf, ArePrinted}
use Rattle.run_actions.specs.Hosts.Taken.{AreTaken}

-- the one type of a row
only : (used s : Signature) → list_any (same_signature used) (s ∷ []) ≡ true → used ≡ s
only used s e = elim (or_cases (same_signature used s) false e) [
  | inl y ↦ signature_exact used s y
  | inr n ↦ absurd (true≢false (sym n))
]

module _ (count : ℕ) (used : Signature) (shapes : List Shape) (vs : List Scalar) (fit : AreArguments used shapes) (leaves : AllZip (IsOf count) (kinds_of_all shapes) vs) where
  -- the leaves are those of the parameters
  by_one : (s : Signature) → list_any (same_signature used) (s ∷ []) ≡ true → s.variadic ≡ false → AllZip (IsOf count) (kinds_of_all s.parameters) vs
  by_one s e plain =
      let same = only used s e in
      subst (λ (t : Signature). AllZip (IsOf count) (kinds_of_all t.parameters) vs) same
      (subst (λ ss. AllZip (IsOf count) (kinds_of_all ss) vs) (all_parameters used shapes fit (ap (λ (t : Signature). t.variadic) same ∙ plain)) leaves)

  -- the type that is written so
  abbrev Typed : HostRow → Type 0
  Typed row = list_any (same_signature used) (map (signature_in no_names) (host_types row)) ≡ true

  abbrev type_of : Shape → List Shape → Signature
  type_of returns parameters = record { returns = returns; parameters = parameters; variadic = false }

  pub taken : (row : HostRow) → Typed row → AreTaken row count vs
  taken Putchar e = by_one (type_of (int_leaf 32) (int_leaf 32 ∷ [])) e refl
  taken Puts e = by_one (type_of (int_leaf 32) (ptr_leaf ∷ [])) e refl
  taken Getchar e = tt
  taken Exit e = by_one (type_of void_leaf (int_leaf 32 ∷ [])) e refl
  taken Abort e = tt
  taken Malloc e = by_one (type_of ptr_leaf (int_leaf 64 ∷ [])) e refl
  taken Free e = by_one (type_of void_leaf (ptr_leaf ∷ [])) e refl
  taken Memcpy e = by_one (type_of ptr_leaf (ptr_leaf ∷ ptr_leaf ∷ int_leaf 64 ∷ [])) e refl
  taken Memmove e = by_one (type_of ptr_leaf (ptr_leaf ∷ ptr_leaf ∷ int_leaf 64 ∷ [])) e refl
  taken Memset e = by_one (type_of ptr_leaf (ptr_leaf ∷ int_leaf 32 ∷ int_leaf 64 ∷ [])) e refl
  taken Strlen e = by_one (type_of (int_leaf 64) (ptr_leaf ∷ [])) e refl
  taken MemcpyI64 e = by_one (type_of void_leaf (ptr_leaf ∷ ptr_leaf ∷ int_leaf 64 ∷ int_leaf 1 ∷ [])) e refl
  taken MemmoveI64 e = by_one (type_of void_leaf (ptr_leaf ∷ ptr_leaf ∷ int_leaf 64 ∷ int_leaf 1 ∷ [])) e refl
  taken MemsetI64 e = by_one (type_of void_leaf (ptr_leaf ∷ int_leaf 8 ∷ int_leaf 64 ∷ int_leaf 1 ∷ [])) e refl
  taken MemcpyI32 e = by_one (type_of void_leaf (ptr_leaf ∷ ptr_leaf ∷ int_leaf 32 ∷ int_leaf 1 ∷ [])) e refl
  taken MemmoveI32 e = by_one (type_of void_leaf (ptr_leaf ∷ ptr_leaf ∷ int_leaf 32 ∷ int_leaf 1 ∷ [])) e refl
  taken MemsetI32 e = by_one (type_of void_leaf (ptr_leaf ∷ int_leaf 8 ∷ int_leaf 32 ∷ int_leaf 1 ∷ [])) e refl
  taken LifetimeStart e = tt
  taken LifetimeEnd e = tt
  taken Printf e = tt
  taken (Integer which width) e = tt

  -- ---- intrinsics over integers

  -- what an intrinsic is evaluated on
  pub integer_leaves : (which : Intrinsic) (width : ℕ) → Typed (Integer which width) → AllZip (IsOf count) (kinds_of_all (map (shape_of no_names) (integer_parameters which width))) vs
  integer_leaves which width e = by_one (signature_in no_names (fixed (integer_returns which width) (integer_parameters which width))) e refl

-- the three operands are as `evaluate` asks
abbrev pub AreOperands : ℕ → Option ℕ → Option ℕ → List Scalar → Type 0
AreOperands width second third vs = IsInteger width (operand_at vs 0) × IsOperand second (operand_at vs 1) × IsOperand third (operand_at vs 2)

module _ (count width : ℕ) where
  one_operand : (vs : List Scalar) → AllZip (IsOf count) (leaf.Int width ∷ []) vs → AreOperands width None None vs
  one_operand [] h = absurd h
  one_operand (v ∷ []) h = (integer_from count width v h.0, refl, refl)
  one_operand (v ∷ w ∷ vs) h = absurd h.1

  two_operands : (second : ℕ) (vs : List Scalar) → AllZip (IsOf count) (leaf.Int width ∷ leaf.Int second ∷ []) vs → AreOperands width (Some second) None vs
  two_operands second [] h = absurd h
  two_operands second (v ∷ []) h = absurd h.1
  two_operands second (v ∷ w ∷ []) h = (integer_from count width v h.0, integer_from count second w h.1.0, refl)
  two_operands second (v ∷ w ∷ x ∷ vs) h = absurd h.1.1

  three_operands : (vs : List Scalar) → AllZip (IsOf count) (leaf.Int width ∷ leaf.Int width ∷ leaf.Int width ∷ []) vs → AreOperands width (Some width) (Some width) vs
  three_operands [] h = absurd h
  three_operands (v ∷ []) h = absurd h.1
  three_operands (v ∷ w ∷ []) h = absurd h.1.1
  three_operands (v ∷ w ∷ x ∷ vs) h = (integer_from count width v h.0, integer_from count width w h.1.0, integer_from count width x h.1.1.0)

  pub operands : (which : Intrinsic) (vs : List Scalar) → AllZip (IsOf count) (kinds_of_all (map (shape_of no_names) (integer_parameters which width))) vs
      → AreOperands width (second_width which width) (third_width which width) vs
  operands integer.Ctpop vs h = one_operand vs h
  operands integer.Bswap vs h = one_operand vs h
  operands integer.Bitreverse vs h = one_operand vs h
  operands integer.Ctlz vs h = two_operands 1 vs h
  operands integer.Cttz vs h = two_operands 1 vs h
  operands integer.Abs vs h = two_operands 1 vs h
  operands integer.Fshl vs h = three_operands vs h
  operands integer.Fshr vs h = three_operands vs h
  operands _ vs h = two_operands width vs h

-- ---- printf

-- leaves of their shapes are of what is told of these
pub leaves_told : (count : ℕ) (shapes : List Shape) (vs : List Scalar) → AllZip (IsOf count) (kinds_of_all shapes) vs → AreOf count (map leaf_of shapes) vs
leaves_told count [] vs h = tt
leaves_told count (int_leaf width ∷ ss) [] h = absurd h
leaves_told count (int_leaf width ∷ ss) (v ∷ vs) h = (h.0, leaves_told count ss vs h.1)
leaves_told count (ptr_leaf ∷ ss) [] h = absurd h
leaves_told count (ptr_leaf ∷ ss) (v ∷ vs) h = (h.0, leaves_told count ss vs h.1)
leaves_told count (void_leaf ∷ ss) vs h = tt
leaves_told count (opaque_leaf label ∷ ss) vs h = tt
leaves_told count (array_of n s ∷ ss) vs h = tt
leaves_told count (struct_of label packed fields ∷ ss) vs h = tt

-- i32 (ptr, ...)
abbrev printf_type : Signature
printf_type = record { returns = int_leaf 32; parameters = ptr_leaf ∷ []; variadic = true }

first_printed : (count : ℕ) (further : List Shape) (vs : List Scalar) → AllZip (IsOf count) (kinds_of_all (ptr_leaf ∷ further)) vs → ArePrinted count (map leaf_of (ptr_leaf ∷ further)) vs
first_printed count further [] h = absurd h
first_printed count further (v ∷ vs) h = (h.0, leaves_told count further vs h.1)

-- what `printf` looks at
pub printed_arguments : (count : ℕ) (kinds : List (Option Leaf)) (vs : List Scalar) → IsHostCall Printf count kinds vs → ArePrinted count kinds vs
printed_arguments count kinds vs made =
    let same = only made.used printf_type made.typed in
    let shapes : made.shapes ≡ ptr_leaf ∷ made.fit.0 = made.fit.1 ∙ ap (λ (t : Signature). t.parameters ++ made.fit.0) same in
    subst (λ ks. ArePrinted count ks vs) (sym (made.told refl ∙ ap (map leaf_of) shapes))
    (first_printed count made.fit.0 vs (subst (λ ss. AllZip (IsOf count) (kinds_of_all ss) vs) shapes made.leaves))

-- ---- calls

module _ (row : HostRow) (count : ℕ) (kinds : List (Option Leaf)) (vs : List Scalar) (made : IsHostCall row count kinds vs) where
  pub row_taken : AreTaken row count vs
  row_taken = taken count made.used made.shapes vs made.fit made.leaves row made.typed

  pub row_operands : (which : Intrinsic) (width : ℕ) → row ≡ Integer which width → AreOperands width (second_width which width) (third_width which width) vs
  row_operands which width e =
      operands count width which vs
      (integer_leaves count made.used made.shapes vs made.fit made.leaves which width (subst (λ (r : HostRow). list_any (same_signature made.used) (map (signature_in no_names) (host_types r)) ≡ true) e made.typed))

  pub row_printed : row ≡ Printf → ArePrinted count kinds vs
  row_printed e = printed_arguments count kinds vs (subst (λ r. IsHostCall r count kinds vs) e made)
