-- What the intrinsics over integers give is of the kinds of their types.
use Rattle.std.proofs.Common.{ℕ, List, [], ◌∷◌, map, refl, Option, Some, None, Bool, true, false}
use Rattle.std.specs.List.{AllZip}
use Rattle.std.specs.Option.{option_to_list}
use Rattle.ir_tables.specs.declared.intrinsic.Intrinsic.{Intrinsic}
use Rattle.ir_tables.specs.declared.intrinsic.Intrinsic.TheVariants as integer
use Rattle.ir_eval.specs.Value.{IsWidth, IsInteger}
use Rattle.ir_eval.specs.declared.value.Scalar.{Scalar}
use Rattle.ir_intrinsics.specs.declared.outcome.Outcome.{Outcome}
use Rattle.ir_intrinsics.specs.Kinds.{IsSecond, IsOutcome}
use Rattle.ir_intrinsics.specs.Operands.{IsOperand, second_width}
use Rattle.ir_intrinsics.specs.Results.{apply_of, has_second}
use Rattle.ir_intrinsics.proofs.ResultKinds.{apply_kind}
use Rattle.ir_memory.specs.declared.leaf.Leaf.TheVariants as leaf
use Rattle.module_arena.specs.HostRows.{integer_returns, integer_parameters}
use Rattle.run_rules.specs.Constant.{shape_of}
use Rattle.run_rules.specs.Host.{operand_at, outcome_leaves}
use Rattle.run_rules.specs.Look.{no_names}
use Rattle.typed_runs.specs.Kinds.{IsOf, kinds_of, kinds_of_all}
use Rattle.typed_runs.proofs.Values.{integer_from, integer_to}

module _ (count width : ℕ) where
  -- the first two operands are as `apply` asks
  abbrev AreOperands : Option ℕ → List Scalar → Type 0
  AreOperands second vs = IsInteger width (operand_at vs 0) × IsOperand second (operand_at vs 1)

  one_operand : (vs : List Scalar) → AllZip (IsOf count) (leaf.Int width ∷ []) vs → AreOperands None vs
  one_operand [] h = absurd h
  one_operand (v ∷ []) h = (integer_from count width v h.0, refl)
  one_operand (v ∷ w ∷ vs) h = absurd h.1

  two_operands : (second : ℕ) (vs : List Scalar) → AllZip (IsOf count) (leaf.Int width ∷ leaf.Int second ∷ []) vs → AreOperands (Some second) vs
  two_operands second [] h = absurd h
  two_operands second (v ∷ []) h = absurd h.1
  two_operands second (v ∷ w ∷ []) h = (integer_from count width v h.0, integer_from count second w h.1.0)
  two_operands second (v ∷ w ∷ x ∷ vs) h = absurd h.1.1

  three_operands : (vs : List Scalar) → AllZip (IsOf count) (leaf.Int width ∷ leaf.Int width ∷ leaf.Int width ∷ []) vs → AreOperands (Some width) vs
  three_operands [] h = absurd h
  three_operands (v ∷ []) h = absurd h.1
  three_operands (v ∷ w ∷ vs) h = (integer_from count width v h.0, integer_from count width w h.1.0)

  operands : (which : Intrinsic) (vs : List Scalar) → AllZip (IsOf count) (kinds_of_all (map (shape_of no_names) (integer_parameters which width))) vs → AreOperands (second_width which width) vs
  operands integer.Ctpop vs h = one_operand vs h
  operands integer.Bswap vs h = one_operand vs h
  operands integer.Bitreverse vs h = one_operand vs h
  operands integer.Ctlz vs h = two_operands 1 vs h
  operands integer.Cttz vs h = two_operands 1 vs h
  operands integer.Abs vs h = two_operands 1 vs h
  operands integer.Fshl vs h = three_operands vs h
  operands integer.Fshr vs h = three_operands vs h
  operands _ vs h = two_operands width vs h

  -- the leaves that a result has
  abbrev AreGiven : Bool → Scalar → Option Scalar → Type 0
  AreGiven true a b = AllZip (IsOf count) (leaf.Int width ∷ leaf.Int 1 ∷ []) (a ∷ option_to_list b)
  AreGiven false a b = AllZip (IsOf count) (leaf.Int width ∷ []) (a ∷ option_to_list b)

  given : (two : Bool) (a : Scalar) (b : Option Scalar) → IsInteger width a → IsSecond two b → AreGiven two a b
  given true a (Some b) h k = (integer_to count width a h, (integer_to count 1 b k, tt))
  given true a None h k = absurd k
  given false a (Some b) h k = absurd k
  given false a None h k = (integer_to count width a h, tt)

  returned : (which : Intrinsic) (o : Outcome) → AreGiven (has_second which) o.first o.second → AllZip (IsOf count) (kinds_of (shape_of no_names (integer_returns which width))) (outcome_leaves o)
  returned integer.SaddWithOverflow o h = h
  returned integer.UaddWithOverflow o h = h
  returned integer.SsubWithOverflow o h = h
  returned integer.UsubWithOverflow o h = h
  returned integer.SmulWithOverflow o h = h
  returned integer.UmulWithOverflow o h = h
  returned _ o h = h

  pub evaluated : (which : Intrinsic) (vs : List Scalar) → IsWidth width → AllZip (IsOf count) (kinds_of_all (map (shape_of no_names) (integer_parameters which width))) vs
      → AllZip (IsOf count) (kinds_of (shape_of no_names (integer_returns which width))) (outcome_leaves (apply_of which width (operand_at vs 0) (operand_at vs 1) (operand_at vs 2)))
  evaluated which vs is h =
      let a = operands which vs h in
      let o = apply_of which width (operand_at vs 0) (operand_at vs 1) (operand_at vs 2) in
      let k : IsOutcome which width o = apply_kind which width (operand_at vs 0) (operand_at vs 1) (operand_at vs 2) is a.0 a.1 in
      returned which o (given (has_second which) o.first o.second k.first k.second)
