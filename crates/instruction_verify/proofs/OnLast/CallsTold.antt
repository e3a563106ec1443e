-- Arguments beside parameters, and what does not call.
use Rattle.std.proofs.Common.{◌≡◌, ℕ, ◌<◌, ◌≤◌, Bool, true, false, not, ◌&&◌, ◌||◌, ◌==◌, List, [], ◌∷◌, map, length, Option, refl, sym, ap, ◌∙◌, arith}
use Rattle.std.proofs.Math.Dec.{eqb-suc-suc, eqb-suc-zero}
use Rattle.type_table.specs.Tree.{Tree, Structs}
use Rattle.type_table.specs.Types.{Types, tree, trees}
use Rattle.module_arena.specs.declared.instruction.Call.{Call}
use Rattle.module_arena.specs.declared.instruction.Inst as the_inst
use Rattle.module_arena.specs.declared.instruction.Inst.TheVariants as inst
use Rattle.module_arena.specs.declared.instruction.Operand as the_operand
use Rattle.module_arena.specs.Module.{Constant, Function, LocalName, Operand}
use Rattle.module_arena.specs.Same.{same_type}
use Rattle.module_arena.specs.ValueRules.{arguments_suit, call_suits}
use Rattle.module_arena.specs.View.{inst_view, operand_view, type_at}
use Rattle.instruction_verify.specs.Last.CallsById.{are_alike}

swapped : (x s y : Bool) → (x && (s && y)) ≡ (s && (x && y))
swapped true true y = refl
swapped true false y = refl
swapped false true y = refl
swapped false false y = refl

never : (s : Bool) → false ≡ (s && false)
never true = refl
never false = refl

module _ (t : Types) (cs : List Constant) (vs bs : List LocalName) where
  abbrev pub seen : the_operand.Operand → Operand
  seen o = operand_view (trees t) cs vs bs o

  -- there are too few
  pub too_few : (variadic : Bool) (ps : List ℕ) (os : List the_operand.Operand) → length os < length ps → false ≡ arguments_suit variadic (map (type_at (trees t)) ps) (map seen os)
  too_few variadic [] os lt = absurd (omega (arith, lt))
  too_few variadic (p ∷ ps) [] lt = refl
  too_few variadic (p ∷ ps) (o ∷ os) lt =
      never (same_type (tree t p) (tree t o.ty)) ∙ ap (λ b. same_type (tree t p) (tree t o.ty) && b) (too_few variadic ps os (omega (arith, lt)))

  -- there are enough
  pub enough : (variadic : Bool) (ps : List ℕ) (os : List the_operand.Operand) → length ps ≤ length os
      → ((variadic || (length os == length ps)) && are_alike t ps os) ≡ arguments_suit variadic (map (type_at (trees t)) ps) (map seen os)
  enough true [] [] le = refl
  enough false [] [] le = refl
  enough true [] (o ∷ os) le = refl
  enough false [] (o ∷ os) le = ap (λ b. b && true) (eqb-suc-zero (length os))
  enough variadic (p ∷ ps) [] le = absurd (omega (arith, le))
  enough variadic (p ∷ ps) (o ∷ os) le =
      ap (λ b. (variadic || b) && (same_type (tree t p) (tree t o.ty) && are_alike t ps os)) (eqb-suc-suc (length os) (length ps))
      ∙ swapped (variadic || (length os == length ps)) (same_type (tree t p) (tree t o.ty)) (are_alike t ps os)
      ∙ ap (λ b. same_type (tree t p) (tree t o.ty) && b) (enough variadic ps os (omega (arith, le)))

-- there is none where there is not some
pub turned : (s r : Bool) → s ≡ not r → r ≡ not s
turned s true e = ap not (sym e)
turned s false e = ap not (sym e)

-- what does not call is asked nothing
pub no_call : (s : Structs) (f : Function) (r : Option LocalName) (ts : List Tree) (cs : List Constant) (vs bs : List LocalName) (i : the_inst.Inst)
    → ((call : Call) → i ≡ inst.Call call → ⊥) → true ≡ call_suits s f r (inst_view ts cs vs bs i).operation
no_call s f r ts cs vs bs (inst.Binary opcode flags result left right) o = refl
no_call s f r ts cs vs bs (inst.Compare flags predicate result left right) o = refl
no_call s f r ts cs vs bs (inst.Convert opcode flags result operand to) o = refl
no_call s f r ts cs vs bs (inst.Select result choice) o = refl
no_call s f r ts cs vs bs (inst.Freeze result operand) o = refl
no_call s f r ts cs vs bs (inst.Phi result ty incoming) o = refl
no_call s f r ts cs vs bs (inst.Load flags result ty address alignment) o = refl
no_call s f r ts cs vs bs (inst.Store flags stored address alignment) o = refl
no_call s f r ts cs vs bs (inst.Alloca result ty count alignment) o = refl
no_call s f r ts cs vs bs (inst.GetElementPtr flags result source base indices) o = refl
no_call s f r ts cs vs bs (inst.Call call) o = absurd (o call refl)
no_call s f r ts cs vs bs (inst.ExtractValue result aggregate indices) o = refl
no_call s f r ts cs vs bs (inst.InsertValue result insertion) o = refl
