-- The cases of a switch and the values of a phi, as operands.
use Rattle.std.proofs.Common.{◌≡◌, ℕ, List, [], ◌∷◌, All, map, refl, ap, subst, arith}
use Rattle.std.proofs.lemmas.List.{length-map}
use Rattle.type_table.proofs.UnderIds.{get_or-map}
use Rattle.module_arena.specs.Lists.{Lists}
use Rattle.module_arena.specs.Module.{LocalName}
use Rattle.module_arena.specs.Operations.{case_operand, incoming_operand}
use Rattle.module_arena.specs.View.{constants_of, incoming_view, type_at}
use Rattle.module_arena.specs.declared.instruction.Incoming.{Incoming}
use Rattle.type_table.specs.Types.{trees}
use Rattle.module_arena.specs.declared.instruction.Case.{Case}
use Rattle.module_arena.specs.declared.instruction.Operand.{Operand}
use Rattle.module_arena.specs.declared.instruction.Value.TheVariants as value
use Rattle.instruction_verify.specs.ArenaOperands.{HasCase, HasConstant, HasOperand, case_in, case_operand_in, phi_operand_in}

-- a case as an operand of the arena
abbrev number_of : Case → Operand
number_of c = record { ty = c.ty; value = value.Known c.value }

pub cases_known : (a : Lists) (cases : List Case) → All (HasOperand a) (map number_of cases) → All (HasCase a) cases
cases_known a cases all k d lt =
    let many = length-map cases number_of in
    subst (HasOperand a) (get_or-map number_of cases k d) (all k (number_of d) (omega (arith, lt, many)))

pub cases_listed : (a : Lists) (values blocks : List LocalName) (cases : List Case) → map (case_operand_in a values blocks) cases ≡ map case_operand (map (case_in a values blocks) cases)
cases_listed a values blocks [] = refl
cases_listed a values blocks (c ∷ cases) = ap (λ os. case_operand_in a values blocks c ∷ os) (cases_listed a values blocks cases)

-- the values of a phi
pub values_known : (a : Lists) (incoming : List Incoming) → All (HasConstant a) (map (λ (i : Incoming). i.value) incoming) → All (λ (i : Incoming). HasConstant a i.value) incoming
values_known a incoming all k d lt =
    let f = λ (i : Incoming). i.value in
    let many = length-map incoming f in
    subst (HasConstant a) (get_or-map f incoming k d) (all k (f d) (omega (arith, lt, many)))

pub incoming_listed : (a : Lists) (values blocks : List LocalName) (ty : ℕ) (incoming : List Incoming)
    → map (phi_operand_in a values blocks ty) incoming ≡ map (incoming_operand (type_at (trees a.table) ty)) (map (incoming_view (trees a.table) (constants_of a) values blocks) incoming)
incoming_listed a values blocks ty [] = refl
incoming_listed a values blocks ty (i ∷ incoming) = ap (λ os. phi_operand_in a values blocks ty i ∷ os) (incoming_listed a values blocks ty incoming)
