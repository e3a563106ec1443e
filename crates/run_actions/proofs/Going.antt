-- The newest frame goes along a way.
use Rattle.std.proofs.Common.{◌≡◌, ℕ, suc, zero, true, false, eqb, List, [], ◌∷◌, map, refl, sym, ap, ◌∙◌, arith}
use Rattle.std.specs.Prelude.{if◌then◌else◌}
use Rattle.std.specs.List.{All}
use Rattle.ir_eval.specs.declared.value.Scalar.{Scalar}
use Rattle.ir_eval.specs.declared.value.Scalar.TheVariants.{Int, Ptr, Poison}
use Rattle.ir_tables.specs.declared.undefined_kind.UndefinedKind.TheVariants.{BranchOnPoison}
use Rattle.run_rules.specs.Act.{branches, switches, case_of}
use Rattle.run_rules.specs.Action.{Edge, Jump, Branch, Switch}
use Rattle.run_rules.specs.Frame.{followed}
use Rattle.run_rules.specs.State.{Frame, Core, goes, fails}
use Rattle.run_actions.specs.declared.stack.origin.Move.{Move}
use Rattle.run_actions.specs.declared.stack.origin.Origin.{Origin}
use Rattle.run_actions.specs.Stack.Origins.{origin_of}
use Rattle.run_actions.specs.Stack.UnderWay.{UnderWay, newest, changed, IsRunning}
use Rattle.run_actions.specs.declared.edge.SwitchWay.{SwitchWay}
use Rattle.run_actions.specs.declared.edge.Edge as code
use Rattle.run_actions.specs.Carried.{IsCarriedOut, IsUndefined}
use Rattle.run_actions.specs.Edges.{way_of, case_way, chosen_of, IsWay}
use Rattle.run_actions.specs.Operands.{leaf_of}
use Rattle.run_actions.proofs.Carried.{carried, undefined}

-- ---- to one block

pub jumps : (way : Edge) (old new : UnderWay) → IsRunning old.frames → new ≡ changed (followed way) old → IsCarriedOut (Jump way) old new
jumps way old new running is = carried (Jump way) (followed way) old new running is (λ table c. refl)

-- ---- to one of two

branches_then : (number : ℕ) (then_way else_way : Edge) (f : Frame) (c : Core) → (number ≡ 0 → ⊥) → branches (Int number) then_way else_way f c ≡ goes (followed then_way f) c
branches_then zero then_way else_way f c h = absurd (h refl)
branches_then (suc number) then_way else_way f c h = refl

no_way : (v : Scalar) (then_way else_way : Edge) (f : Frame) (c : Core) → ((number : ℕ) → v ≡ Int number → ⊥) → branches v then_way else_way f c ≡ fails BranchOnPoison
no_way (Int number) then_way else_way f c h = absurd (h number refl)
no_way (Ptr p) then_way else_way f c h = refl
no_way Poison then_way else_way f c h = refl

module _ (condition : Origin) (then_way else_way : Edge) (old new : UnderWay) (running : IsRunning old.frames) where
  -- any number but 0 goes the first way
  pub goes_then : (number : ℕ) → Int number ≡ leaf_of old condition → (number ≡ 0 → ⊥) → new ≡ changed (followed then_way) old → IsCarriedOut (Branch (origin_of condition) then_way else_way) old new
  goes_then number value some is =
      carried (Branch (origin_of condition) then_way else_way) (followed then_way) old new running is
      (λ table c. ap (λ (v : Scalar). branches v then_way else_way (newest old.frames) c) (sym value) ∙ branches_then number then_way else_way (newest old.frames) c some)

  -- 0 goes the other
  pub goes_else : (number : ℕ) → Int number ≡ leaf_of old condition → number ≡ 0 → new ≡ changed (followed else_way) old → IsCarriedOut (Branch (origin_of condition) then_way else_way) old new
  goes_else number value none is =
      carried (Branch (origin_of condition) then_way else_way) (followed else_way) old new running is
      (λ table c. ap (λ (v : Scalar). branches v then_way else_way (newest old.frames) c) (sym (ap (λ n. Int n) (sym none) ∙ value)))

-- no number goes nowhere
pub branches_nowhere : (condition : Origin) (then_way else_way : Edge) (s : UnderWay) → ((number : ℕ) → leaf_of s condition ≡ Int number → ⊥) → IsUndefined (Branch (origin_of condition) then_way else_way) BranchOnPoison s s
branches_nowhere condition then_way else_way s h =
    undefined (Branch (origin_of condition) then_way else_way) BranchOnPoison s (λ table c. no_way (leaf_of s condition) then_way else_way (newest s.frames) c h)

-- ---- to one of many

-- the case that was looked for is the one of the definition
chosen_way : (pool : List Move) (number : ℕ) (otherwise : code.Edge) (cases : List SwitchWay) → way_of pool (chosen_of number otherwise cases) ≡ case_of number (way_of pool otherwise) (map (case_way pool) cases)
chosen_way pool number otherwise [] = refl
chosen_way pool number otherwise (x ∷ xs) =
    elim (eqb x.number number) as (λ b. way_of pool (if b then x.edge else chosen_of number otherwise xs) ≡ (if b then way_of pool x.edge else case_of number (way_of pool otherwise) (map (case_way pool) xs))) [
      | true ↦ refl
      | false ↦ chosen_way pool number otherwise xs
    ]

-- where each way may be gone, the chosen one may
pub chosen_may : (s : UnderWay) (pool : List Move) (number : ℕ) (otherwise : code.Edge) (cases : List SwitchWay) → IsWay s pool otherwise → All (λ x. IsWay s pool x.edge) cases → IsWay s pool (chosen_of number otherwise cases)
chosen_may s pool number otherwise [] other ways = other
chosen_may s pool number otherwise (x ∷ xs) other ways =
    elim (eqb x.number number) as (λ b. IsWay s pool (if b then x.edge else chosen_of number otherwise xs)) [
      | true ↦ ways 0 x (omega arith)
      | false ↦ chosen_may s pool number otherwise xs other (λ k d l. ways (suc k) d (omega (arith, l)))
    ]

no_case : (v : Scalar) (otherwise : Edge) (cases : List (ℕ × Edge)) (f : Frame) (c : Core) → ((number : ℕ) → v ≡ Int number → ⊥) → switches v otherwise cases f c ≡ fails BranchOnPoison
no_case (Int number) otherwise cases f c h = absurd (h number refl)
no_case (Ptr p) otherwise cases f c h = refl
no_case Poison otherwise cases f c h = refl

pub goes_case : (value : Origin) (pool : List Move) (number : ℕ) (otherwise : code.Edge) (cases : List SwitchWay) (old new : UnderWay) → IsRunning old.frames → Int number ≡ leaf_of old value
    → new ≡ changed (followed (way_of pool (chosen_of number otherwise cases))) old → IsCarriedOut (Switch (origin_of value) (way_of pool otherwise) (map (case_way pool) cases)) old new
goes_case value pool number otherwise cases old new running is_number is =
    let way = case_of number (way_of pool otherwise) (map (case_way pool) cases) in
    carried (Switch (origin_of value) (way_of pool otherwise) (map (case_way pool) cases)) (followed way) old new running
    (is ∙ ap (λ (w : Edge). changed (followed w) old) (chosen_way pool number otherwise cases))
    (λ table c. ap (λ (v : Scalar). switches v (way_of pool otherwise) (map (case_way pool) cases) (newest old.frames) c) (sym is_number))

pub switches_nowhere : (value : Origin) (otherwise : Edge) (cases : List (ℕ × Edge)) (s : UnderWay) → ((number : ℕ) → leaf_of s value ≡ Int number → ⊥) → IsUndefined (Switch (origin_of value) otherwise cases) BranchOnPoison s s
switches_nowhere value otherwise cases s h =
    undefined (Switch (origin_of value) otherwise cases) BranchOnPoison s (λ table c. no_case (leaf_of s value) otherwise cases (newest s.frames) c h)
