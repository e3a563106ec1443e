-- What the functions of canonical text ask for holds.
use Rattle.std.specs.Prelude.{◌≡◌, refl, ℕ, suc, Bool, true, false, ◌&&◌, List, [], ◌∷◌, ◌++◌, map, flat_map, Option, Some, None}
use Rattle.std.specs.List.{list_any, list_all}
use Rattle.std.specs.Option.{option_to_list}
use Rattle.std.proofs.Common.{ap, sym, subst, ◌∙◌, append_assoc, append-nil, inl, inr}
use Rattle.std.proofs.lemmas.Bool.{or_left, or_right, or_cases}
use Rattle.std.proofs.lemmas.List.Folds.{list_any-append}
use Rattle.ir_tables.specs.Table.{is_distinct}
use Rattle.module_arena.specs.Module.{LocalName, Instruction, Block, Parameter, Module}
use Rattle.module_arena.specs.Same.{same_local, has_local}
use Rattle.module_arena.specs.Functions.{result_name}
use Rattle.module_arena.specs.Names.{block_results, is_numbered_from}
use Rattle.module_arena.specs.WellFormed.{is_good_type, are_good_structs}
use Rattle.canonical.specs.Items.Parts.{local_tree, instruction_tree, block_tree}
use Rattle.canonical.specs.Items.Items.{parameter_tree}
use Rattle.canonical.proofs.OnModules.Back.{local_back}
use Rattle.name_rules.specs.Locals.{Locals, Announced, local_in, next_behind, called, announced, announced_parameter, announced_result, announced_block, locals_from, is_alike, is_there}
use Rattle.name_rules.specs.FunctionDemands.{Called, none_called, called_with, called_after, instructions_demands, blocks_demands, parameters_demands, definition_demands}
use Rattle.canonical.proofs.OnReads.Asked.{Held, held_none, held_both}
use Rattle.canonical.proofs.OnReads.Good.{first_of_all, others_of_all}
use Rattle.canonical.proofs.OnReads.GoodBodies.{AreGoodInstructions, AreGoodBlocks}
use Rattle.canonical.proofs.OnReads.TypesHold.{known, type_holds}
use Rattle.canonical.proofs.OnReads.OperationsHold.{operation_holds, ending_holds}
use Rattle.canonical.proofs.OnReads.CalledHold.{IsFresh, call_holds, fresh_behind, after_both, result_holds}

-- ---- what is announced is there

-- whether it is announced under that name
abbrev is_named : Bool → LocalName → Announced → Bool
is_named b name (k, None) = false
is_named b name (k, Some w) = same_local (local_in w) name && is_alike k b

there : (b : Bool) (name : LocalName) (next : ℕ) (all : List Announced) → list_any (is_named b name) all ≡ true → is_there (locals_from next all) b name ≡ true
there b name next [] e = absurd cc
there b name next ((k, None) ∷ all) e = or_right (same_local (called next None) name && is_alike k b) (is_there (locals_from (suc next) all) b name) (there b name (suc next) all e)
there b name next ((k, Some w) ∷ all) e =
    or_right (same_local (called next (Some w)) name && is_alike k b) _
    (elim (or_cases (same_local (local_in w) name && is_alike k b) (list_any (is_named b name) all) e) [
      | inl h ↦ or_left (same_local (local_in w) name && is_alike k b) (is_there (locals_from (next_behind next (Some w)) all) b name) h
      | inr h ↦ or_right (same_local (local_in w) name && is_alike k b) (is_there (locals_from (next_behind next (Some w)) all) b name) (there b name (next_behind next (Some w)) all h)
    ])

-- a name among these is announced
named_one : (b : Bool) (name n : LocalName) → is_alike b b ≡ true → same_local n name ≡ true → is_named b name (b, Some (local_tree n)) ≡ true
named_one b name n alike e = λ i. ((ap (λ k. same_local k name) (local_back n) ∙ e) i) && alike i

any_left : {X : Type 0} (p : X → Bool) (xs ys : List X) → list_any p xs ≡ true → list_any p (xs ++ ys) ≡ true
any_left p xs ys e = list_any-append p xs ys ∙ or_left (list_any p xs) (list_any p ys) e

any_right : {X : Type 0} (p : X → Bool) (xs ys : List X) → list_any p ys ≡ true → list_any p (xs ++ ys) ≡ true
any_right p xs ys e = list_any-append p xs ys ∙ or_right (list_any p xs) (list_any p ys) e

parameter_named : (name : LocalName) (ps : List Parameter) → has_local (map (λ p. p.name) ps) name ≡ true → list_any (is_named false name) (map announced_parameter (map parameter_tree ps)) ≡ true
parameter_named name [] e = absurd cc
parameter_named name (p ∷ ps) e =
    elim (or_cases (same_local p.name name) (has_local (map (λ p. p.name) ps) name) e) [
      | inl h ↦ or_left (is_named false name (false, Some (local_tree p.name))) (list_any (is_named false name) (map announced_parameter (map parameter_tree ps))) (named_one false name p.name refl h)
      | inr h ↦ or_right (is_named false name (false, Some (local_tree p.name))) (list_any (is_named false name) (map announced_parameter (map parameter_tree ps))) (parameter_named name ps h)
    ]

result_named : (name : LocalName) (i : Instruction) → has_local (result_name i) name ≡ true → list_any (is_named false name) (announced_result (instruction_tree i)) ≡ true
result_named name i e = by i.result e
  where
    by : (r : Option LocalName) → has_local (option_to_list r) name ≡ true → list_any (is_named false name) (announced_result (instruction_tree (record { result = r; operation = i.operation }))) ≡ true
    by None h = absurd cc
    by (Some n) h = elim (or_cases (same_local n name) false h) [ inl k ↦ or_left (is_named false name (false, Some (local_tree n))) false (named_one false name n refl k) | inr k ↦ absurd cc ]

results_named : (name : LocalName) (is : List Instruction) → has_local (flat_map result_name is) name ≡ true → list_any (is_named false name) (flat_map announced_result (map instruction_tree is)) ≡ true
results_named name [] e = absurd cc
results_named name (i ∷ is) e =
    elim (or_cases (has_local (result_name i) name) (has_local (flat_map result_name is) name) (sym (list_any-append (λ n. same_local n name) (result_name i) (flat_map result_name is)) ∙ e)) [
      | inl h ↦ any_left (is_named false name) (announced_result (instruction_tree i)) (flat_map announced_result (map instruction_tree is)) (result_named name i h)
      | inr h ↦ any_right (is_named false name) (announced_result (instruction_tree i)) (flat_map announced_result (map instruction_tree is)) (results_named name is h)
    ]

values_named : (name : LocalName) (bs : List Block) → has_local (flat_map block_results bs) name ≡ true → list_any (is_named false name) (flat_map announced_block (map block_tree bs)) ≡ true
values_named name [] e = absurd cc
values_named name (b ∷ bs) e =
    elim (or_cases (has_local (block_results b) name) (has_local (flat_map block_results bs) name) (sym (list_any-append (λ n. same_local n name) (block_results b) (flat_map block_results bs)) ∙ e)) [
      | inl h ↦ any_left (is_named false name) (announced_block (block_tree b)) (flat_map announced_block (map block_tree bs)) (or_right (is_named false name (true, Some (local_tree b.name))) (list_any (is_named false name) (flat_map announced_result (map instruction_tree b.instructions))) (results_named name b.instructions h))
      | inr h ↦ any_right (is_named false name) (announced_block (block_tree b)) (flat_map announced_block (map block_tree bs)) (values_named name bs h)
    ]

blocks_named : (name : LocalName) (bs : List Block) → has_local (map (λ b. b.name) bs) name ≡ true → list_any (is_named true name) (flat_map announced_block (map block_tree bs)) ≡ true
blocks_named name [] e = absurd cc
blocks_named name (b ∷ bs) e =
    elim (or_cases (same_local b.name name) (has_local (map (λ b. b.name) bs) name) e) [
      | inl h ↦ any_left (is_named true name) (announced_block (block_tree b)) (flat_map announced_block (map block_tree bs)) (or_left (is_named true name (true, Some (local_tree b.name))) (list_any (is_named true name) (flat_map announced_result (map instruction_tree b.instructions))) (named_one true name b.name refl h))
      | inr h ↦ any_right (is_named true name) (announced_block (block_tree b)) (flat_map announced_block (map block_tree bs)) (blocks_named name bs h)
    ]

-- ---- bodies

module _ (m : Module) (good : are_good_structs m.structs ≡ true) (all : Locals) (values ends : List LocalName) (values_there : (n : LocalName) → has_local values n ≡ true → is_there all false n ≡ true) (ends_there : (n : LocalName) → has_local ends n ≡ true → is_there all true n ≡ true) where
  instructions_hold : (before : Called) (is : List Instruction) (rest : List LocalName) → AreGoodInstructions m values ends is → IsFresh before (flat_map result_name is ++ rest)
      → Held (instructions_demands (known m good) all before (map instruction_tree is)) × IsFresh (called_after before (flat_map announced_result (map instruction_tree is))) rest
  instructions_hold before [] rest g f = (held_none, f)
  instructions_hold before (i ∷ is) rest g f =
      let here = result_holds before i.result i.operation (flat_map result_name is ++ rest) g.0.named (subst (IsFresh before) (append_assoc (result_name i) (flat_map result_name is) rest) f) in
      let next = instructions_hold (called_after before (announced_result (instruction_tree i))) is rest g.1 here.1 in (
        held_both (held_both here.0 (operation_holds m good all values ends values_there ends_there i.operation g.0.operation)) next.0,
        subst (λ c. IsFresh c rest) (sym (after_both before (announced_result (instruction_tree i)) (flat_map announced_result (map instruction_tree is)))) next.1,
      )

  blocks_hold : (before : Called) (bs : List Block) → AreGoodBlocks m values ends bs → IsFresh before (flat_map (λ b. b.name ∷ block_results b) bs) → Held (blocks_demands (known m good) all before (map block_tree bs))
  blocks_hold before [] g f = held_none
  blocks_hold before (b ∷ bs) g f =
      let rest = flat_map (λ (b : Block). b.name ∷ block_results b) bs in
      let behind = fresh_behind before b.name true (block_results b ++ rest) f in
      let inside = instructions_hold (called_with before (true, Some (local_tree b.name))) b.instructions rest g.0.instructions behind in
      held_both (held_both (call_holds before b.name (block_results b ++ rest) f) (held_both inside.0 (ending_holds m good all values ends values_there ends_there b.ending g.0.ending))) (blocks_hold (called_after (called_with before (true, Some (local_tree b.name))) (flat_map announced_result (map instruction_tree b.instructions))) bs g.1 inside.1)

  parameters_hold : (before : Called) (ps : List Parameter) (rest : List LocalName) → list_all (λ p. is_good_type m.structs p.ty) ps ≡ true → IsFresh before (map (λ p. p.name) ps ++ rest)
      → Held (parameters_demands (known m good) all before (map parameter_tree ps)) × IsFresh (called_after before (map announced_parameter (map parameter_tree ps))) rest
  parameters_hold before [] rest g f = (held_none, f)
  parameters_hold before (p ∷ ps) rest g f =
      let next = parameters_hold (called_with before (false, Some (local_tree p.name))) ps rest (others_of_all (λ p. is_good_type m.structs p.ty) p ps g) (fresh_behind before p.name false (map (λ p. p.name) ps ++ rest) f) in
      (held_both (type_holds m good p.ty (first_of_all (λ p. is_good_type m.structs p.ty) p ps g)) (held_both (call_holds before p.name (map (λ p. p.name) ps ++ rest) f) next.0), next.1)

-- the names of parameters, blocks and results
abbrev pub names_in : List Parameter → List Block → List LocalName
names_in ps bs = map (λ (p : Parameter). p.name) ps ++ flat_map (λ (b : Block). b.name ∷ block_results b) bs

pub definition_holds : (m : Module) (good : are_good_structs m.structs ≡ true) (ps : List Parameter) (bs : List Block) → list_all (λ p. is_good_type m.structs p.ty) ps ≡ true
    → AreGoodBlocks m (map (λ p. p.name) ps ++ flat_map block_results bs) (map (λ b. b.name) bs) bs → is_numbered_from 0 (names_in ps bs) ≡ true → is_distinct same_local (names_in ps bs) ≡ true
    → Held (definition_demands (known m good) (map parameter_tree ps) (map block_tree bs))
definition_holds m good ps bs types blocks ordered apart =
    let heard = announced (map parameter_tree ps) (map block_tree bs) in
    let all = locals_from 0 heard in
    let values = map (λ (p : Parameter). p.name) ps ++ flat_map block_results bs in
    let ends = map (λ (b : Block). b.name) bs in
    let front = map announced_parameter (map parameter_tree ps) in
    let back = flat_map announced_block (map block_tree bs) in
    let values_there : (n : LocalName) → has_local values n ≡ true → is_there all false n ≡ true = λ n e. there false n 0 heard
    (elim (or_cases (has_local (map (λ p. p.name) ps) n) (has_local (flat_map block_results bs) n) (sym (list_any-append (λ k. same_local k n) (map (λ p. p.name) ps) (flat_map block_results bs)) ∙ e)) [
      | inl h ↦ any_left (is_named false n) front back (parameter_named n ps h)
      | inr h ↦ any_right (is_named false n) front back (values_named n bs h)
    ]) in
    let ends_there : (n : LocalName) → has_local ends n ≡ true → is_there all true n ≡ true = λ n e. there true n 0 heard (any_right (is_named true n) front back (blocks_named n bs e)) in
    let fresh : IsFresh none_called (names_in ps bs) = record { ordered = ordered; apart = apart } in
    let first = parameters_hold m good all values ends values_there ends_there none_called ps (flat_map (λ b. b.name ∷ block_results b) bs) types fresh in
    held_both first.0 (blocks_hold m good all values ends values_there ends_there (called_after none_called (front ++ [])) bs blocks (subst (λ l. IsFresh (called_after none_called l) (flat_map (λ b. b.name ∷ block_results b) bs)) (sym (append-nil front)) first.1))
