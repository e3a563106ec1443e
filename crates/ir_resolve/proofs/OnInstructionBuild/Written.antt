-- The value that an instruction defines is the one that its text says.
use Rattle.std.proofs.Common.{◌≡◌, ℕ, Bool, true, false, cond, ◌||◌, is_some, List, [], ◌∷◌, Option, Some, None, Result, Ok, Err, IfOk, refl, sym, ap, subst}
use Rattle.ir_terminals.specs.declared.values.Local.{Local}
use Rattle.ir_phrases.specs.Instructions.Tree.{OperationTree, Binary, Compare, Cast, Select, Freeze, Phi, Load, Store, Alloca, GetElementPtr, Call, ExtractValue, InsertValue}
use Rattle.module_arena.specs.declared.instruction.Inst.{Inst}
use Rattle.module_arena.specs.Lists.{Lists}
use Rattle.module_arena.specs.Mentions.{result_of}
use Rattle.module_arena.specs.Module.{LocalName, Operation}
use Rattle.module_arena.specs.View.{value_name}
use Rattle.name_rules.specs.Locals.{has_result}
use Rattle.item_build.specs.Buildable.Narrow.{StoresNothing}
use Rattle.ir_resolve.specs.InstructionBuild.Meant.{IsInst}
use Rattle.ir_resolve.specs.InstructionBuild.Made.{Makes, defined_by}

certain : (next : ℕ) (written : Option Local) → Some next ≡ cond (is_some written || true) (Some next) None
certain next None = refl
certain next (Some name) = refl

pub as_written : (next : ℕ) (result : Option Local) (operation : OperationTree) → StoresNothing (record { result = result; operation = operation })
    → defined_by (has_result (record { result = result; operation = operation })) next operation ≡ cond (has_result (record { result = result; operation = operation })) (Some next) None
as_written next result (Binary opcode flags left right) nothing = certain next result
as_written next result (Compare flags predicate left right) nothing = certain next result
as_written next result (Cast opcode flags value to) nothing = certain next result
as_written next result (Select condition first second) nothing = certain next result
as_written next result (Freeze value) nothing = certain next result
as_written next result (Phi ty incoming) nothing = certain next result
as_written next result (Load flags ty address alignment) nothing = certain next result
as_written next result (Store flags value address alignment) nothing = ap (λ r. cond (is_some r || false) (Some next) None) (sym (nothing flags value address alignment refl))
as_written next result (Alloca ty count alignment) nothing = certain next result
as_written next result (GetElementPtr flags source operands) nothing = certain next result
as_written next result (Call call) nothing = refl
as_written next result (ExtractValue aggregate indices) nothing = certain next result
as_written next result (InsertValue aggregate part indices) nothing = certain next result

module _ (values blocks : List LocalName) (a : Lists) (next : ℕ) (operation : Operation) where
  one_is : (has : Bool) (i : Inst) → Makes values blocks a (cond has (Some next) None) i operation → IsInst values blocks a i (record { result = cond has (Some (value_name [] [] values [] next)) None; operation = operation })
  one_is true i h = h.is
  one_is false i h = h.is

  one_gives : (has : Bool) (i : Inst) → Makes values blocks a (cond has (Some next) None) i operation → result_of i ≡ cond has (next ∷ []) []
  one_gives true i h = h.gives
  one_gives false i h = h.gives

  module _ (has : Bool) (defined : Option ℕ) (same : defined ≡ cond has (Some next) None) where
    pub made_is : {E : Type 0} (r : Result Inst E) → IfOk r (λ i. Makes values blocks a defined i operation) → IfOk r (λ i. IsInst values blocks a i (record { result = cond has (Some (value_name [] [] values [] next)) None; operation = operation }))
    made_is (Ok i) h = one_is has i (subst (λ d. Makes values blocks a d i operation) same h)
    made_is (Err e) h = tt

    pub made_gives : {E : Type 0} (r : Result Inst E) → IfOk r (λ i. Makes values blocks a defined i operation) → IfOk r (λ i. result_of i ≡ cond has (next ∷ []) [])
    made_gives (Ok i) h = one_gives has i (subst (λ d. Makes values blocks a d i operation) same h)
    made_gives (Err e) h = tt
