-- What is built over the names of a function is what is written.
use Rattle.std.proofs.Common.{◌≡◌, ℕ, ◌+◌, ◌≤◌, Bool, true, false, cond, List, [], ◌∷◌, ◌++◌, map, length, get_or, drop, filter_map, Option, Some, None, refl, sym, ap, ◌∙◌, arith}
use Rattle.std.specs.List.{sum_by, cons_option}
use Rattle.std.proofs.lemmas.List.{length-append, get_or-drop, drop-drop}
use Rattle.std.proofs.lemmas.List.Sums.{sum_by-cons}
use Rattle.ir_phrases.specs.Instructions.Tree.{InstructionTree, BlockTree}
use Rattle.ir_syntax.specs.Counts.{block_count}
use Rattle.module_arena.specs.Module as m
use Rattle.module_arena.specs.Module.{LocalName, Numbered}
use Rattle.name_rules.specs.Bodies.{operation_in, instructions_in, ending_in, blocks_in}
use Rattle.name_rules.specs.Locals.{called, next_behind, next_after, announced_result, announced_block, has_result}
use Rattle.item_build.specs.Buildable.Bodies.{result_names}
use Rattle.ir_resolve.specs.InstructionBuild.Named.{built}
use Rattle.ir_resolve.specs.Built.{result_count, block_results_count, instructions_built, block_built, blocks_built}

-- the first of what is left
at_front : (names rest : List LocalName) (next : ℕ) (name : LocalName) → drop next names ≡ name ∷ rest → (get_or names next (Numbered 0) ≡ name) × (drop (next + 1) names ≡ rest)
at_front names rest next name e =
    let here : get_or names next (Numbered 0) ≡ get_or names (next + 0) (Numbered 0) = ap (λ k. get_or names k (Numbered 0)) (omega arith) in
    (here ∙ sym (get_or-drop next names 0 (Numbered 0)) ∙ ap (λ l. get_or l 0 (Numbered 0)) e, sym (drop-drop 1 next names) ∙ ap (drop 1) e)

-- a result, where there is one
taken : (b : Bool) (values rest : List LocalName) (next : ℕ) (name : LocalName) → drop next values ≡ cons_option (cond b (Some name) None) rest
    → (cond b (Some (get_or values next (Numbered 0))) None ≡ cond b (Some name) None) × (drop (next + cond b 1 0) values ≡ rest)
taken false values rest next name e = (refl, ap (λ n. drop n values) (omega arith) ∙ e)
taken true values rest next name e = let front = at_front values rest next name e in (ap Some front.0, front.1)

onto_both : (o : Option LocalName) (us vs : List LocalName) → cons_option o us ++ vs ≡ cons_option o (us ++ vs)
onto_both None us vs = refl
onto_both (Some x) us vs = refl

abbrev result_name : m.Instruction → Option LocalName
result_name i = i.result

-- Where the values behind are the results, the instructions are those that are written.
instructions_meant : (values later : List LocalName) (next number : ℕ) (xs : List InstructionTree) → drop next values ≡ filter_map result_name (instructions_in number xs) ++ later
    → (instructions_built values next xs ≡ instructions_in number xs) × (drop (next + sum_by result_count xs) values ≡ later)
instructions_meant values later next number [] e = (refl, ap (λ n. drop n values) (omega arith) ∙ e)
instructions_meant values later next number (x ∷ xs) e =
    let after = next_after number (announced_result x) in
    let more = filter_map result_name (instructions_in after xs) in
    let one = taken (has_result x) values (more ++ later) next (called number x.result) (e ∙ onto_both (cond (has_result x) (Some (called number x.result)) None) more later) in
    let rest = instructions_meant values later (next + result_count x) after xs one.1 in
    let behind = sum_by-cons result_count x xs in
    ((λ j. record { result = one.0 j; operation = operation_in x.operation } ∷ rest.0 j), ap (λ n. drop n values) (omega (arith, behind)) ∙ rest.1)

abbrev label : m.Block → LocalName
label b = b.name

-- And so are the blocks.
pub blocks_meant : (values labels : List LocalName) (id next number : ℕ) (bs : List BlockTree) → drop next values ≡ result_names (blocks_in number bs) → drop id labels ≡ map label (blocks_in number bs)
    → blocks_built values labels id next bs ≡ blocks_in number bs
blocks_meant values labels id next number [] e l = refl
blocks_meant values labels id next number (b ∷ bs) e l =
    let after = next_after number (announced_block b) in
    let inside = instructions_meant values (result_names (blocks_in after bs)) next (next_behind number b.label) b.instructions e in
    let front = at_front labels (map label (blocks_in after bs)) id (called number b.label) l in
    let rest = blocks_meant values labels (id + 1) (next + block_results_count b) after bs inside.1 front.1 in
    λ j. record { name = front.0 j; instructions = inside.0 j; ending = ending_in b.ending } ∷ rest j

-- ---- how many results there are

-- one, where there is one
one_counted : (b : Bool) (name : LocalName) (rest : List LocalName) → length (cons_option (cond b (Some name) None) rest) ≡ cond b 1 0 + length rest
one_counted true name rest = omega arith
one_counted false name rest = omega arith

results_counted : (number : ℕ) (xs : List InstructionTree) → length (filter_map result_name (instructions_in number xs)) ≡ sum_by result_count xs
results_counted number [] = refl
results_counted number (x ∷ xs) =
    let after = next_after number (announced_result x) in
    let one = one_counted (has_result x) (called number x.result) (filter_map result_name (instructions_in after xs)) in
    let rest = results_counted after xs in
    let sum = sum_by-cons result_count x xs in
    omega (arith, one, rest, sum)

-- one name a result
pub all_counted : (number : ℕ) (bs : List BlockTree) → length (result_names (blocks_in number bs)) ≡ sum_by block_results_count bs
all_counted number [] = refl
all_counted number (b ∷ bs) =
    let after = next_after number (announced_block b) in
    let one = results_counted (next_behind number b.label) b.instructions in
    let both = length-append (filter_map result_name (instructions_in (next_behind number b.label) b.instructions)) (result_names (blocks_in after bs)) in
    let rest = all_counted after bs in
    let sum = sum_by-cons block_results_count b bs in
    omega (arith, one, both, rest, sum)

one_le : (b : Bool) → cond b 1 0 ≤ 1
one_le true = omega arith
one_le false = omega arith

pub result_le : (x : InstructionTree) → result_count x ≤ 1
result_le x = one_le (has_result x)

-- one an instruction at most
pub results_le : (xs : List InstructionTree) → sum_by result_count xs ≤ length xs
results_le [] = omega arith
results_le (x ∷ xs) = let one = result_le x in let rest = results_le xs in let sum = sum_by-cons result_count x xs in omega (arith, one, rest, sum)

-- fewer results than blocks and instructions
pub block_results_le : (bs : List BlockTree) → sum_by block_results_count bs + length bs ≤ sum_by block_count bs
block_results_le [] = omega arith
block_results_le (b ∷ bs) =
    let one = results_le b.instructions in
    let rest = block_results_le bs in
    let sum = sum_by-cons block_results_count b bs in
    let counted = sum_by-cons block_count b bs in
    omega (arith, one, rest, sum, counted)

-- one name a block
pub blocks_named : (number : ℕ) (bs : List BlockTree) → length (map label (blocks_in number bs)) ≡ length bs
blocks_named number [] = refl
blocks_named number (b ∷ bs) = let rest = blocks_named (next_after number (announced_block b)) bs in omega (arith, rest)

-- ---- one more of a loop

-- an instruction
pub instructions_more : (values : List LocalName) (next : ℕ) (xs : List InstructionTree) (x : InstructionTree) → instructions_built values next (xs ++ x ∷ []) ≡ instructions_built values next xs ++ built values (next + sum_by result_count xs) x ∷ []
instructions_more values next [] x = ap (λ k. built values k x ∷ []) (omega arith)
instructions_more values next (y ∷ xs) x =
    let sum = sum_by-cons result_count y xs in
    ap (λ rest. built values next y ∷ rest)
    (instructions_more values (next + result_count y) xs x ∙ ap (λ k. instructions_built values (next + result_count y) xs ++ built values k x ∷ []) (omega (arith, sum)))

-- a block
pub blocks_more : (values labels : List LocalName) (id next : ℕ) (bs : List BlockTree) (b : BlockTree)
    → blocks_built values labels id next (bs ++ b ∷ []) ≡ blocks_built values labels id next bs ++ block_built values labels (id + length bs) (next + sum_by block_results_count bs) b ∷ []
blocks_more values labels id next [] b =
    let ids : id ≡ id + 0 = omega arith in
    let nexts : next ≡ next + 0 = omega arith in
    λ j. block_built values labels (ids j) (nexts j) b ∷ []
blocks_more values labels id next (c ∷ bs) b =
    let sum = sum_by-cons block_results_count c bs in
    let ids : id + 1 + length bs ≡ id + length (c ∷ bs) = omega arith in
    let nexts : next + block_results_count c + sum_by block_results_count bs ≡ next + sum_by block_results_count (c ∷ bs) = omega (arith, sum) in
    ap (λ rest. block_built values labels id next c ∷ rest)
    (blocks_more values labels (id + 1) (next + block_results_count c) bs b
    ∙ (λ j. blocks_built values labels (id + 1) (next + block_results_count c) bs ++ block_built values labels (ids j) (nexts j) b ∷ []))
