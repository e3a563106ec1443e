-- What stands in the rows of a body is what look-up finds in a scope whose blocks have these actions.
use Rattle.std.proofs.Common.{◌≡◌, ℕ, zero, suc, Bool, List, [], ◌∷◌, ◌++◌, length, map, nat_eq, refl, sym, ap, ◌∙◌}
use Rattle.std.specs.Prelude.{slice_get, if◌then◌else◌}
use Rattle.std.specs.List.{AllZip}
use Rattle.std.specs.Option.{option_map_or}
use Rattle.std.proofs.Math.Dec.{eqb-suc-zero, eqb-suc-suc}
use Rattle.module_arena.specs.Lists.{Lists}
use Rattle.module_arena.specs.Module.{Block}
use Rattle.run_rules.specs.Action as actions
use Rattle.run_rules.specs.Look.{action_at, look_in}
use Rattle.run_rules.specs.Resolve.{ending_in, instruction_in}
use Rattle.run_rules.specs.Scope.{FunctionScope}
use Rattle.run_decode.specs.declared.flat.action.Action.{Action}
use Rattle.run_decode.specs.declared.flat.pools.Pools.{Pools}
use Rattle.run_decode.specs.Flat.Flat.{action_of}
use Rattle.run_decode.specs.Flat.Grown.{Stands}
use Rattle.run_decode.specs.Body.Bodies.{Decoded, look_in_row, look_of}

-- the actions of a block: those of its instructions, and of its end
abbrev pub actions_of : FunctionScope → Block → List actions.Action
actions_of sc b = map (instruction_in sc) b.instructions ++ ending_in sc b.name b.ending ∷ []

-- the action at a place of a list
abbrev at_place : List actions.Action → ℕ → actions.Action
at_place xs p = option_map_or (λ x. x) (slice_get xs p) actions.Stuck

-- what stands in a list with an end
at_end : {A : Type 0} (f : A → actions.Action) (is : List A) (end : actions.Action) (p : ℕ)
    → at_place (map f is ++ end ∷ []) p ≡ option_map_or f (slice_get is p) (if nat_eq p (length is) then end else actions.Stuck)
at_end f [] end zero = refl
at_end f [] end (suc p) = ap (λ (b : Bool). if b then end else actions.Stuck) (sym (eqb-suc-zero p))
at_end f (i ∷ is) end zero = refl
at_end f (i ∷ is) end (suc p) =
    at_end f is end p ∙ ap (λ (b : Bool). option_map_or f (slice_get is p) (if b then end else actions.Stuck)) (sym (eqb-suc-suc p (length is)))

-- flat actions that are these stand where these do
row_looked : (a : Lists) (pools : Pools) (row : List Action) (xs : List actions.Action) (p : ℕ) → AllZip (Stands a pools) row xs
    → option_map_or (action_of pools a) (slice_get row p) actions.Stuck ≡ at_place xs p
row_looked a pools [] [] p h = refl
row_looked a pools [] (x ∷ xs) p h = absurd h
row_looked a pools (r ∷ row) [] p h = absurd h
row_looked a pools (r ∷ row) (x ∷ xs) zero h = h.0.means
row_looked a pools (r ∷ row) (x ∷ xs) (suc p) h = row_looked a pools row xs p h.1

-- so the actions of a block stand where look-up finds them
pub block_looked : (d : Decoded) (sc : FunctionScope) (row : List Action) (b : Block) (position : ℕ) → AllZip (Stands d.lists d.pools) row (actions_of sc b) → look_in_row d position row ≡ action_at sc b position
block_looked d sc row b position h =
    row_looked d.lists d.pools row (actions_of sc b) position h ∙ at_end (instruction_in sc) b.instructions (ending_in sc b.name b.ending) position

rows_looked : (d : Decoded) (sc : FunctionScope) (rows : List (List Action)) (bs : List Block) (block position : ℕ) → AllZip (λ (row : List Action) (b : Block). AllZip (Stands d.lists d.pools) row (actions_of sc b)) rows bs
    → option_map_or (look_in_row d position) (slice_get rows block) actions.Stuck ≡ option_map_or (λ (b : Block). action_at sc b position) (slice_get bs block) actions.Stuck
rows_looked d sc [] [] block position h = refl
rows_looked d sc [] (b ∷ bs) block position h = absurd h
rows_looked d sc (row ∷ rows) [] block position h = absurd h
rows_looked d sc (row ∷ rows) (b ∷ bs) zero position h = block_looked d sc row b position h.0
rows_looked d sc (row ∷ rows) (b ∷ bs) (suc block) position h = rows_looked d sc rows bs block position h.1

-- and so those of all blocks
pub body_looked : (d : Decoded) (sc : FunctionScope) → AllZip (λ (row : List Action) (b : Block). AllZip (Stands d.lists d.pools) row (actions_of sc b)) d.rows sc.blocks → (block position : ℕ) → look_of d block position ≡ look_in sc block position
body_looked d sc h block position = rows_looked d sc d.rows sc.blocks block position h
