-- Parameters with the numbers from 0 as names are named as they must be.
use Rattle.std.proofs.Common.{◌≡◌, ℕ, suc, ◌+◌, ◌<◌, true, false, ◌&&◌, ◌||◌, List, [], ◌∷◌, ◌++◌, None, refl, sym, subst, nat_eq, ◌==◌, append-nil, arith, eqb-true, eq-eqb}
use Rattle.std.specs.List.{list_any, list_all}
use Rattle.std.proofs.lemmas.Bool.{and_from, or_from, not_from_false, false_from_ne_true}
use Rattle.ir_tables.specs.Table.{is_distinct}
use Rattle.module_arena.specs.Module.{LocalName, Parameter, Function}
use Rattle.module_arena.specs.Module.LocalName.{Numbered}
use Rattle.module_arena.specs.Same.{same_local}
use Rattle.module_arena.specs.Names.{is_local_name, parameter_names, is_numbered_from, is_number, has_good_names}

-- so many names, the numbers from k on
abbrev pub numbers : ℕ → List Parameter → List LocalName
numbers k [] = []
numbers k (p ∷ ps) = Numbered k ∷ numbers (suc k) ps

all_names : (k : ℕ) (ps : List Parameter) → list_all is_local_name (numbers k ps) ≡ true
all_names k [] = refl
all_names k (p ∷ ps) = all_names (suc k) ps

all_numbers : (k : ℕ) (ps : List Parameter) → list_all is_number (numbers k ps) ≡ true
all_numbers k [] = refl
all_numbers k (p ∷ ps) = all_numbers (suc k) ps

none_below : (j k : ℕ) (ps : List Parameter) → j < k → list_any (same_local (Numbered j)) (numbers k ps) ≡ false
none_below j k [] h = refl
none_below j k (p ∷ ps) h = or_from (nat_eq j k) _ (false_from_ne_true _ (λ e. let same : j ≡ k = eqb-true j k e in omega (arith, h, same))) (none_below j (suc k) ps (omega (arith, h)))

distinct : (k : ℕ) (ps : List Parameter) → is_distinct same_local (numbers k ps) ≡ true
distinct k [] = refl
distinct k (p ∷ ps) = and_from _ _ (not_from_false _ (none_below k (suc k) ps (omega arith))) (distinct (suc k) ps)

in_order : (k : ℕ) (ps : List Parameter) → is_numbered_from k (numbers k ps) ≡ true
in_order k [] = refl
in_order k (p ∷ ps) =
    let next : suc k ≡ k + 1 = omega arith in
    and_from (k == k) _ (eq-eqb k k refl) (subst (λ j. is_numbered_from j (numbers (suc k) ps) ≡ true) next (in_order (suc k) ps))

-- a declaration whose parameters have such names
pub declared_names : (f : Function) (ps : List Parameter) → f.body ≡ None → parameter_names f ≡ numbers 0 ps → has_good_names f ≡ true
declared_names f ps none are =
    subst (λ b. has_good_names (record f { body = b }) ≡ true) (sym none)
    (subst (λ (ns : List LocalName). (list_all is_local_name (ns ++ []) && (is_distinct same_local (ns ++ []) && (is_numbered_from 0 (ns ++ []) && ((false || list_all is_number ns) && true)))) ≡ true) (sym are)
    (subst (λ (ns : List LocalName). (list_all is_local_name ns && (is_distinct same_local ns && (is_numbered_from 0 ns && ((false || list_all is_number (numbers 0 ps)) && true)))) ≡ true) (sym (append-nil (numbers 0 ps)))
    (and_from _ _ (all_names 0 ps) (and_from _ _ (distinct 0 ps) (and_from _ _ (in_order 0 ps) (and_from _ _ (all_numbers 0 ps) refl))))))
