-- Results, one after the other.
use Rattle.std.proofs.Common.{◌≡◌, ℕ, ◌+◌, ◌≤◌, Bool, true, false, cond, List, [], ◌∷◌, ◌++◌, map, length, Option, Some, None, refl, sym, ap, ◌∙◌, arith}
use Rattle.std.specs.Prelude.{flat_map, filter_map, option_to_list}
use Rattle.std.proofs.lemmas.List.{length-map, append-nil, length-append}
use Rattle.std.proofs.lemmas.List.Elements.{filter_map-append}
use Rattle.ir_terminals.specs.declared.values.Local.{Local}
use Rattle.ir_phrases.specs.Instructions.Tree.{InstructionTree}
use Rattle.module_arena.specs.declared.entry.LocalName as the_local
use Rattle.module_arena.specs.Module as m
use Rattle.module_arena.specs.Module.{LocalName}
use Rattle.module_arena.specs.View.{local_view}
use Rattle.name_rules.specs.Bodies.{instruction_in, instructions_in}
use Rattle.name_rules.specs.Locals.{Announced, called, next_behind, next_after, announced_parameter, announced_result, has_result}
use Rattle.name_rules.specs.ModuleOf.{parameters_in}
use Rattle.ir_syntax.specs.Tree.{ParameterTree}
use Rattle.item_build.proofs.OnTypes.Parameters.{behind_le as behind_one}

pub after_more : (n : ℕ) (xs ys : List Announced) → next_after n (xs ++ ys) ≡ next_after (next_after n xs) ys
after_more n [] ys = refl
after_more n (x ∷ xs) ys = after_more (next_behind n x.1) xs ys

-- the number behind one instruction more
pub behind_more : (n : ℕ) (xs : List InstructionTree) (x : InstructionTree) → next_after n (flat_map announced_result (xs ++ x ∷ [])) ≡ next_after (next_after n (flat_map announced_result xs)) (announced_result x)
behind_more n [] x = ap (next_after n) (append-nil (announced_result x))
behind_more n (y ∷ xs) x =
    after_more n (announced_result y) (flat_map announced_result (xs ++ x ∷ []))
    ∙ behind_more (next_after n (announced_result y)) xs x
    ∙ ap (λ k. next_after k (announced_result x)) (sym (after_more n (announced_result y) (flat_map announced_result xs)))

-- one instruction more
pub instructions_more : (n : ℕ) (xs : List InstructionTree) (x : InstructionTree) → instructions_in n (xs ++ x ∷ []) ≡ instructions_in n xs ++ instruction_in (next_after n (flat_map announced_result xs)) x ∷ []
instructions_more n [] x = refl
instructions_more n (y ∷ xs) x =
    ap (λ rest. instruction_in n y ∷ rest)
    (instructions_more (next_after n (announced_result y)) xs x
    ∙ ap (λ k. instructions_in (next_after n (announced_result y)) xs ++ instruction_in k x ∷ []) (sym (after_more n (announced_result y) (flat_map announced_result xs))))

abbrev result_of : m.Instruction → Option LocalName
result_of i = i.result

one : (r : Option LocalName) (i : m.Instruction) → i.result ≡ r → filter_map result_of (i ∷ []) ≡ option_to_list i.result
one (Some name) i e = ap (λ r. filter_map (λ (x : Option LocalName). x) (r ∷ [])) e ∙ ap option_to_list (sym e)
one None i e = ap (λ r. filter_map (λ (x : Option LocalName). x) (r ∷ [])) e ∙ ap option_to_list (sym e)

pub results_more : (n : ℕ) (xs : List InstructionTree) (x : InstructionTree) → filter_map result_of (instructions_in n (xs ++ x ∷ [])) ≡ filter_map result_of (instructions_in n xs) ++ option_to_list (instruction_in (next_after n (flat_map announced_result xs)) x).result
results_more n xs x =
    let i = instruction_in (next_after n (flat_map announced_result xs)) x in
    ap (filter_map result_of) (instructions_more n xs x)
    ∙ filter_map-append result_of (instructions_in n xs) (i ∷ [])
    ∙ ap (λ rest. filter_map result_of (instructions_in n xs) ++ rest) (one i.result i refl)

behind_either : (b : Bool) (next : ℕ) (written : Option Local) → next_after next (cond b ((false, written) ∷ []) []) ≤ next + 1
behind_either true next written = behind_one next written
behind_either false next written = omega arith

-- a result takes one number at most
pub behind_le : (next : ℕ) (x : InstructionTree) → next_after next (announced_result x) ≤ next + 1
behind_le next x = behind_either (has_result x) next x.result

listed_le : (r : Option LocalName) → length (option_to_list r) ≤ 1
listed_le (Some name) = omega arith
listed_le None = omega arith

-- and one id
pub names_le : (old more : List the_local.LocalName) (r : Option LocalName) → map local_view more ≡ map local_view old ++ option_to_list r → length more ≤ length old + 1
names_le old more r e =
    let a = length-map more local_view in
    let b = length-map old local_view in
    let both = length-append (map local_view old) (option_to_list r) in
    let le = listed_le r in
    let same = ap length e in
    omega (arith, a, b, both, le, same)

-- one parameter more
pub parameters_more : (n : ℕ) (ps : List ParameterTree) (p : ParameterTree) → map (λ (x : m.Parameter). x.name) (parameters_in n (ps ++ p ∷ [])) ≡ map (λ (x : m.Parameter). x.name) (parameters_in n ps) ++ called (next_after n (map announced_parameter ps)) p.1 ∷ []
parameters_more n [] p = refl
parameters_more n (q ∷ ps) p = ap (λ rest. called n q.1 ∷ rest) (parameters_more (next_behind n q.1) ps p)

-- the number behind one parameter more
pub behind_parameter : (n : ℕ) (ps : List ParameterTree) (p : ParameterTree) → next_after n (map announced_parameter (ps ++ p ∷ [])) ≡ next_behind (next_after n (map announced_parameter ps)) p.1
behind_parameter n [] p = refl
behind_parameter n (q ∷ ps) p = behind_parameter (next_behind n q.1) ps p

-- a parameter takes one number at most
pub behind_one_le : (next : ℕ) (written : Option Local) → next_behind next written ≤ next + 1
behind_one_le next written = behind_one next written
