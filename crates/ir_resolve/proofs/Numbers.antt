-- Blocks, one after the other, and the numbers behind them.
use Rattle.std.proofs.Common.{◌≡◌, ℕ, ◌+◌, ◌≤◌, Bool, true, false, cond, List, [], ◌∷◌, ◌++◌, map, length, flat_map, filter_map, Option, Some, None, refl, sym, ap, ◌∙◌, arith}
use Rattle.std.specs.List.{cons_option}
use Rattle.std.proofs.lemmas.List.{length-map, length-append, append-nil, map-append}
use Rattle.std.proofs.lemmas.Grind.{flat_map-append}
use Rattle.ir_phrases.specs.Instructions.Tree.{InstructionTree, BlockTree}
use Rattle.ir_syntax.specs.Counts.{block_count}
use Rattle.ir_syntax.specs.Tree.{ParameterTree}
use Rattle.module_arena.specs.declared.entry.LocalName as the_local
use Rattle.module_arena.specs.Module as m
use Rattle.module_arena.specs.Module.{LocalName}
use Rattle.module_arena.specs.View.{local_view}
use Rattle.name_rules.specs.Bodies.{instruction_in, instructions_in, block_in, blocks_in}
use Rattle.name_rules.specs.Locals.{Announced, next_behind, next_after, announced_parameter, announced_result, announced_block, has_result}
use Rattle.name_rules.specs.ModuleOf.{parameters_in}
use Rattle.item_build.proofs.OnTypes.Parameters.{behind_le}
use Rattle.item_build.specs.Buildable.Bodies.{result_names}
use Rattle.ir_resolve.proofs.OnInstructionBuild.Gathered.{after_more}

-- the number behind one block more
pub behind_more : (n : ℕ) (bs : List BlockTree) (b : BlockTree) → next_after n (flat_map announced_block (bs ++ b ∷ [])) ≡ next_after (next_after n (flat_map announced_block bs)) (announced_block b)
behind_more n bs b =
    ap (next_after n) (flat_map-append announced_block bs (b ∷ []) ∙ ap (λ l. flat_map announced_block bs ++ l) (append-nil (announced_block b)))
    ∙ after_more n (flat_map announced_block bs) (announced_block b)

-- one block more
pub blocks_more : (n : ℕ) (bs : List BlockTree) (b : BlockTree) → blocks_in n (bs ++ b ∷ []) ≡ blocks_in n bs ++ block_in (next_after n (flat_map announced_block bs)) b ∷ []
blocks_more n [] b = refl
blocks_more n (c ∷ bs) b =
    ap (λ rest. block_in n c ∷ rest)
    (blocks_more (next_after n (announced_block c)) bs b
    ∙ ap (λ k. blocks_in (next_after n (announced_block c)) bs ++ block_in k b ∷ []) (sym (after_more n (announced_block c) (flat_map announced_block bs))))

abbrev pub results : m.Block → List LocalName
results b = filter_map (λ (i : m.Instruction). i.result) b.instructions

abbrev pub label : m.Block → LocalName
label b = b.name

-- its results
pub results_more : (n : ℕ) (bs : List BlockTree) (b : BlockTree) → result_names (blocks_in n (bs ++ b ∷ [])) ≡ result_names (blocks_in n bs) ++ results (block_in (next_after n (flat_map announced_block bs)) b)
results_more n bs b =
    let c = block_in (next_after n (flat_map announced_block bs)) b in
    ap result_names (blocks_more n bs b) ∙ flat_map-append results (blocks_in n bs) (c ∷ []) ∙ ap (λ l. result_names (blocks_in n bs) ++ l) (append-nil (results c))

-- its name
pub labels_more : (n : ℕ) (bs : List BlockTree) (b : BlockTree) → map label (blocks_in n (bs ++ b ∷ [])) ≡ map label (blocks_in n bs) ++ (block_in (next_after n (flat_map announced_block bs)) b).name ∷ []
labels_more n bs b = ap (map label) (blocks_more n bs b) ∙ map-append label (blocks_in n bs) (block_in (next_after n (flat_map announced_block bs)) b ∷ [])

-- ---- how many there can be

all_behind : (n : ℕ) (xs : List Announced) → next_after n xs ≤ n + length xs
all_behind n [] = omega arith
all_behind n (x ∷ xs) = let one = behind_le n x.1 in let rest = all_behind (next_behind n x.1) xs in omega (arith, one, rest)

announced_one : (b : Bool) (a : Announced) (rest : List Announced) → length (cond b (a ∷ []) [] ++ rest) ≤ length rest + 1
announced_one true a rest = omega arith
announced_one false a rest = omega arith

announced_few : (xs : List InstructionTree) → length (flat_map announced_result xs) ≤ length xs
announced_few [] = omega arith
announced_few (x ∷ xs) = let one = announced_one (has_result x) (false, x.result) (flat_map announced_result xs) in let rest = announced_few xs in omega (arith, one, rest)

-- a block takes a number, and each instruction one at most
pub behind_block_le : (n : ℕ) (b : BlockTree) → next_after n (announced_block b) ≤ n + block_count b
behind_block_le n b = let all = all_behind n (announced_block b) in let few = announced_few b.instructions in omega (arith, all, few)

-- the number behind parameters
pub behind_parameters_le : (n : ℕ) (ps : List ParameterTree) → next_after n (map announced_parameter ps) ≤ n + length ps
behind_parameters_le n ps = let all = all_behind n (map announced_parameter ps) in let long = length-map ps announced_parameter in omega (arith, all, long)

-- each parameter has a name
pub parameters_named : (n : ℕ) (ps : List ParameterTree) → length (map (λ (p : m.Parameter). p.name) (parameters_in n ps)) ≡ length ps
parameters_named n [] = refl
parameters_named n (p ∷ ps) = let rest = parameters_named (next_behind n p.1) ps in omega (arith, rest)

cons_few : (o : Option LocalName) (rest : List LocalName) → length (cons_option o rest) ≤ length rest + 1
cons_few None rest = omega arith
cons_few (Some name) rest = omega arith

results_few : (n : ℕ) (xs : List InstructionTree) → length (filter_map (λ (i : m.Instruction). i.result) (instructions_in n xs)) ≤ length xs
results_few n [] = omega arith
results_few n (x ∷ xs) =
    let after = next_after n (announced_result x) in
    let rest = results_few after xs in
    let one = cons_few (instruction_in n x).result (filter_map (λ (i : m.Instruction). i.result) (instructions_in after xs)) in
    omega (arith, rest, one)

-- one value an instruction at most
pub names_le : (old more : List the_local.LocalName) (n : ℕ) (b : BlockTree) → map local_view more ≡ map local_view old ++ results (block_in n b) → length more + 1 ≤ length old + block_count b
names_le old more n b e =
    let a = length-map more local_view in
    let c = length-map old local_view in
    let both = length-append (map local_view old) (results (block_in n b)) in
    let few = results_few (next_behind n b.label) b.instructions in
    let same = ap length e in
    omega (arith, a, c, both, few, same)

-- one name more
pub label_le : (old more : List the_local.LocalName) (name : LocalName) → map local_view more ≡ map local_view old ++ name ∷ [] → length more ≡ length old + 1
label_le old more name e =
    let a = length-map more local_view in
    let c = length-map old local_view in
    let both = length-append (map local_view old) (name ∷ []) in
    let same = ap length e in
    omega (arith, a, c, both, same)
