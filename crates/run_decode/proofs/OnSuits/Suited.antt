-- Each instruction and each end of a block of a checked module can be decoded.
use Rattle.std.proofs.Common.{◌≡◌, ℕ, ◌<◌, List, [], ◌∷◌, length, map, Bool, true, false, not, ◌&&◌, ◌||◌, Option, Some, None, IfSome, is_some, option_to_list, refl, sym, ap, ◌∙◌, true≢false, arith}
use Rattle.std.specs.Prelude.{nat_eq}
use Rattle.std.specs.List.{AllByRecursion, list_all}
use Rattle.std.specs.Option.{option_and_then, option_map}
use Rattle.std.proofs.lemmas.Bool.{and_parts}
use Rattle.std.proofs.lemmas.List.Elements.{All-from_recursion, All-tail, recursion_from_All}
use Rattle.ir_tables.specs.declared.flag.Flag.TheVariants.{Samesign}
use Rattle.ir_tables.specs.Flags.{has_flag}
use Rattle.ir_tables.specs.Table.{is_distinct}
use Rattle.type_table.specs.Layout as layouts
use Rattle.type_table.specs.Tree.{Tree, int, ptr}
use Rattle.type_table.specs.Types.{shape, structs, tree}
use Rattle.module_arena.specs.declared.entry.Function as the_function
use Rattle.module_arena.specs.declared.instruction.Call.{Call}
use Rattle.module_arena.specs.declared.instruction.Case as the_case
use Rattle.module_arena.specs.declared.instruction.Ending.{Ending}
use Rattle.module_arena.specs.declared.instruction.Ending.TheVariants as ending
use Rattle.module_arena.specs.declared.instruction.Inst.{Inst}
use Rattle.module_arena.specs.declared.instruction.Inst.TheVariants as inst
use Rattle.module_arena.specs.declared.instruction.Operand.{Operand}
use Rattle.module_arena.specs.Constants.{Index, indices_fit, written_number}
use Rattle.module_arena.specs.Lists.{Lists, function_blocks, value_names}
use Rattle.module_arena.specs.Module as m
use Rattle.module_arena.specs.Same.{same_type}
use Rattle.module_arena.specs.TypeTests.{is_integer, is_integer_of, is_passable, is_pointer}
use Rattle.module_arena.specs.ValueRules.{case_numbers, index_of_operand, is_case_of}
use Rattle.module_arena.proofs.SameValues.{type_is}
use Rattle.run_initial.specs.Constants.Sound.{is_scalar}
use Rattle.run_initial.proofs.OnConstants.LeafKinds.{cast_scalars, integer_scalar, pointer_scalar}
use Rattle.run_initial.proofs.OnConstants.Held.{integers_in}
use Rattle.run_decode.specs.Scopes.Scopes.{Framed, HasOperand, HasScalar, operand_of}
use Rattle.run_decode.proofs.OnScopes.Shaped.{small_laid}
use Rattle.run_decode.specs.Operands.Suits.{BlockSuits, EndSuits, HasCall, HasCase, IsResult, Lies, Suits}
use Rattle.run_decode.specs.Suits.Laws.{FunctionsSuit}
use Rattle.run_decode.proofs.OnSuits.Checked.{IsEnd, end_checked, instruction_checked}
use Rattle.run_decode.proofs.OnSuits.Functions.{phis_are, values_are}
use Rattle.run_decode.proofs.OnSuits.TypedOperands.{IsHad, case_of, framed, number_operand, value_stands, value_there}
use Rattle.run_decode.proofs.OnSuits.Listed.{all_of}
use Rattle.run_decode.proofs.OnSuits.Values.{IsChecked, part_there, some_type}

-- ---- types

bits_scalar : (width : ℕ) (t : Tree) → is_integer_of width t ≡ true → is_scalar t ≡ true
bits_scalar width (int w) h = refl
bits_scalar width _ h = absurd (true≢false (sym h))

compared_scalar : (t : Tree) (b : Bool) → (is_integer t || (b && is_pointer t)) ≡ true → is_scalar t ≡ true
compared_scalar (int w) b h = refl
compared_scalar ptr b h = refl
compared_scalar _ true h = absurd (true≢false (sym h))
compared_scalar _ false h = absurd (true≢false (sym h))

module _ (a : Lists) (f : the_function.Function) (places : List ℕ) where
  abbrev s : Framed
  s = framed a f places

  scalar_had : (o : Operand) → IsHad a f places o → is_scalar (tree a.table o.ty) ≡ true → HasScalar s o
  scalar_had o h e = record { value = h.has; scalar = e }

  lies : (ty : ℕ) → ty < length a.table.types → is_passable (structs a.table) (tree a.table ty) ≡ true → Lies a ty
  lies ty lt h = record { known = lt; laid = small_laid (option_and_then layouts.layout (shape a.table ty)) h }

  operands_there : (os : List Operand) → AllByRecursion (IsHad a f places) os → AllByRecursion (HasOperand s) os
  operands_there [] h = tt
  operands_there (o ∷ os) h = (h.0.has, operands_there os h.1)

  indices_there : (os : List Operand) → AllByRecursion (IsHad a f places) os → list_all (λ (i : Index). is_integer i.ty) (map index_of_operand (map (operand_of a f) os)) ≡ true → AllByRecursion (HasScalar s) os
  indices_there [] h e = tt
  indices_there (o ∷ os) h e =
      let p = and_parts (is_integer (tree a.table o.ty)) (list_all (λ (i : Index). is_integer i.ty) (map index_of_operand (map (operand_of a f) os))) e in
      (scalar_had o h.0 (integer_scalar (tree a.table o.ty) p.0), indices_there os h.1 p.1)

  count_there : (o : Option Operand) → AllByRecursion (IsHad a f places) (option_to_list o) → list_all (λ (c : m.Operand). is_integer c.ty) (option_to_list (option_map (operand_of a f) o)) ≡ true → IfSome o (HasScalar s)
  count_there None h e = tt
  count_there (Some o) h e = scalar_had o h.0 (integer_scalar (tree a.table o.ty) (and_parts (is_integer (tree a.table o.ty)) true e).0)

  result_there : (o : Option ℕ) → AllByRecursion (λ id. id < length (value_names f)) (option_to_list o) → IfSome o (IsResult s)
  result_there None h = tt
  result_there (Some id) h = h.0

  call_there : (call : Call) → IsChecked a f places (inst.Call call) → HasCall s call
  call_there call h = record {
    result = result_there call.result h.results;
    returns = h.ids.types_known 0 call.signature.returns (omega arith);
    parameters = All-tail (λ ty. ty < length a.table.types) call.signature.returns call.signature.parameters h.ids.types_known;
    callee = value_there a f places call.callee (h.ids.values_known 0 call.callee (omega arith));
    stands = value_stands a f places ptr call.callee h.called;
    arguments = All-from_recursion (HasOperand s) call.arguments (operands_there call.arguments h.had);
  }

  suits : (i : Inst) → IsChecked a f places i → Suits s i
  suits (inst.Binary opcode flags result left right) h =
      let e = integer_scalar (tree a.table left.ty) h.asked.arithmetic in
      (h.results.0, record { first = scalar_had left h.had.0 e; second = record { value = h.had.1.0.has; scalar = e } })
  suits (inst.Compare flags predicate result left right) h =
      let e = compared_scalar (tree a.table left.ty) (not (has_flag flags Samesign)) h.asked.arithmetic in
      (h.results.0, record { first = scalar_had left h.had.0 e; second = record { value = h.had.1.0.has; scalar = e } })
  suits (inst.Convert opcode flags result operand to) h = (
    h.results.0,
    record {
      operand = scalar_had operand h.had.0 (cast_scalars opcode (tree a.table operand.ty) (tree a.table to) h.asked.cast).0;
      ty = h.ids.types_known 0 to (omega arith);
    },
  )
  suits (inst.Select result choice) h =
      let t = tree a.table choice.condition.ty in
      let p = and_parts (is_integer_of 1 t) (same_type (tree a.table choice.first.ty) (tree a.table choice.second.ty)) h.asked.arithmetic in
      (h.results.0, record { condition = scalar_had choice.condition h.had.0 (bits_scalar 1 t p.0); first = h.had.1.0.has; second = h.had.1.1.0.has })
  suits (inst.Freeze result operand) h = (h.results.0, record { operand = h.had.0.has; lies = lies operand.ty h.had.0.has.known h.had.0.passes })
  suits (inst.Phi result ty incoming) h = tt
  suits (inst.Load flags result ty address alignment) h = (
    h.results.0,
    record { lies = lies ty (h.ids.types_known 0 ty (omega arith)) h.asked.given_type; address = scalar_had address h.had.0 (pointer_scalar (tree a.table address.ty) h.asked.address) },
  )
  suits (inst.Store flags stored address alignment) h = record {
    stored = record { operand = h.had.0.has; lies = lies stored.ty h.had.0.has.known h.had.0.passes };
    address = scalar_had address h.had.1.0 (pointer_scalar (tree a.table address.ty) h.asked.address);
  }
  suits (inst.Alloca result ty count alignment) h =
      (h.results.0, record { known = h.ids.types_known 0 ty (omega arith); laid = h.asked.other_types }, count_there count h.had h.asked.address)
  suits (inst.GetElementPtr flags result source base indices) h =
      let is = map index_of_operand (map (operand_of a f) indices) in
      let p = and_parts (is_pointer (tree a.table base.ty)) (indices_fit (structs a.table) (tree a.table source) is) h.asked.steps in (
        h.results.0,
        record {
          lies = record { known = h.ids.types_known 0 source (omega arith); laid = h.asked.other_types };
          base = scalar_had base h.had.0 (pointer_scalar (tree a.table base.ty) p.0);
          indices = All-from_recursion (HasScalar s) indices (indices_there indices h.had.1 (integers_in (structs a.table) (tree a.table source) is p.1));
        },
      )
  suits (inst.Call call) h = call_there call h
  suits (inst.ExtractValue result aggregate indices) h = (h.results.0, record { aggregate = h.had.0.has; part = part_there a f places aggregate indices h.had.0 h.asked.part })
  suits (inst.InsertValue result insertion) h = (
    h.results.0,
    record {
      extraction = record {
        aggregate = h.had.0.has;
        part = part_there a f places insertion.aggregate insertion.indices h.had.0 (some_type (same_type (tree a.table insertion.part.ty)) _ h.asked.part);
      };
      new = h.had.1.0.has;
    },
  )

  -- ---- ends

  cases_there : (t : Tree) (cs : List the_case.Case) → is_integer t ≡ true → AllByRecursion (IsHad a f places) (map number_operand cs) → AllByRecursion (λ id. id < length (function_blocks f)) (map (λ (c : the_case.Case). c.target) cs)
      → list_all (is_case_of t) (map (case_of a f) cs) ≡ true → AllByRecursion (HasCase s) cs
  cases_there t [] e h k l = tt
  cases_there t (c ∷ cs) e h k l =
      let p = and_parts (is_case_of t (case_of a f c)) (list_all (is_case_of t) (map (case_of a f) cs)) l in
      let q = and_parts (same_type (tree a.table c.ty) t) (is_some (written_number (case_of a f c).value)) p.0 in (
        record { number = record { value = h.0.has; scalar = ap is_scalar (type_is (tree a.table c.ty) t q.0) ∙ integer_scalar t e }; target = k.0 },
        cases_there t cs e h.1 k.1 p.1,
      )

  end_suits : (e : Ending) → IsEnd a f places e → EndSuits s e
  end_suits ending.ReturnVoid h = tt
  end_suits (ending.Return operand) h = h.had.0.has
  end_suits (ending.Jump target) h = h.targets 0 target (omega arith)
  end_suits (ending.Branch condition then_to else_to) h = record {
    condition = scalar_had condition h.had.0 (bits_scalar 1 (tree a.table condition.ty) h.asked.phrase);
    then_to = h.targets 0 then_to (omega arith);
    else_to = h.targets 1 else_to (omega arith);
  }
  end_suits (ending.Switch operand otherwise cases) h =
      let t = tree a.table operand.ty in
      let seen = map (case_of a f) cases in
      let p = and_parts (is_integer t) (list_all (is_case_of t) seen && is_distinct nat_eq (case_numbers seen)) h.asked.phrase in
      let q = and_parts (list_all (is_case_of t) seen) (is_distinct nat_eq (case_numbers seen)) p.1 in
      let blocks : ℕ → Type 0 = λ id. id < length (function_blocks f) in
      let targets = map (λ (c : the_case.Case). c.target) cases in
      record {
        operand = scalar_had operand h.had.0 (integer_scalar t p.0);
        otherwise = h.targets 0 otherwise (omega arith);
        cases = All-from_recursion (HasCase s) cases (cases_there t cases p.0 h.had.1 (recursion_from_All blocks targets (All-tail blocks otherwise targets h.targets)) q.0);
      }
  end_suits ending.Unreachable h = tt

pub functions_suit : FunctionsSuit
functions_suit a good well_formed valid id f at places = record {
  values = values_are a good well_formed valid id f at;
  phis = phis_are a good well_formed valid id f at places;
  blocks = all_of (BlockSuits (framed a f places)) (function_blocks f) (λ k b here. record {
    instructions = all_of (Suits (framed a f places)) b.instructions (λ j i there. suits a f places i (instruction_checked a good well_formed valid id f at places k b here j i there));
    end = end_suits a f places b.end (end_checked a good well_formed valid id f at places k b here);
  });
}
