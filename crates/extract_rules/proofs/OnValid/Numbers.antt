-- Parameters with the numbers from 0 as names are named as they must be.
use Rattle.std.proofs.Common.{◌≡◌, ℕ, suc, ◌+◌, ◌<◌, true, false, ◌&&◌, ◌||◌, List, [], ◌∷◌, ◌++◌, None, refl, sym, subst, nat_eq, ◌==◌, append-nil, arith, eqb-true, eq-eqb}
use Rattle.std.specs.List.{list_any, list_all}
use Rattle.std.proofs.lemmas.Bool.{and_from, or_from, not_from_false, false_from_ne_true}
use Rattle.ir_tables.specs.Table.{is_distinct}
use Rattle.type_table.specs.Tree.{Tree}
use Rattle.module_arena.specs.Module.{LocalName, Function}
use Rattle.module_arena.specs.Module.LocalName.{Numbered}
use Rattle.module_arena.specs.Same.{same_local}
use Rattle.module_arena.specs.Names.{is_local_name, parameter_names, is_numbered_from, is_number, has_good_names}

-- so many names, the numbers from k on
abbrev pub numbers : ℕ → List Tree → List LocalName
numbers k [] = []
numbers k (t ∷ ts) = Numbered k ∷ numbers (suc k) ts

all_names : (k : ℕ) (ts : List Tree) → list_all is_local_name (numbers k ts) ≡ true
all_names k [] = refl
all_names k (t ∷ ts) = all_names (suc k) ts

all_numbers : (k : ℕ) (ts : List Tree) → list_all is_number (numbers k ts) ≡ true
all_numbers k [] = refl
all_numbers k (t ∷ ts) = all_numbers (suc k) ts

none_below : (j k : ℕ) (ts : List Tree) → j < k → list_any (same_local (Numbered j)) (numbers k ts) ≡ false
none_below j k [] h = refl
none_below j k (t ∷ ts) h = or_from (nat_eq j k) _ (false_from_ne_true _ (λ e. let same : j ≡ k = eqb-true j k e in omega (arith, h, same))) (none_below j (suc k) ts (omega (arith, h)))

distinct : (k : ℕ) (ts : List Tree) → is_distinct same_local (numbers k ts) ≡ true
distinct k [] = refl
distinct k (t ∷ ts) = and_from _ _ (not_from_false _ (none_below k (suc k) ts (omega arith))) (distinct (suc k) ts)

in_order : (k : ℕ) (ts : List Tree) → is_numbered_from k (numbers k ts) ≡ true
in_order k [] = refl
in_order k (t ∷ ts) =
    let next : suc k ≡ k + 1 = omega arith in
    and_from (k == k) _ (eq-eqb k k refl) (subst (λ j. is_numbered_from j (numbers (suc k) ts) ≡ true) next (in_order (suc k) ts))

-- a declaration whose parameters have such names
pub declared_names : (f : Function) (ts : List Tree) → f.body ≡ None → parameter_names f ≡ numbers 0 ts → has_good_names f ≡ true
declared_names f ts none are =
    subst (λ b. has_good_names (record f { body = b }) ≡ true) (sym none)
    (subst (λ (ns : List LocalName). (list_all is_local_name (ns ++ []) && (is_distinct same_local (ns ++ []) && (is_numbered_from 0 (ns ++ []) && ((false || list_all is_number ns) && true)))) ≡ true) (sym are)
    (subst (λ (ns : List LocalName). (list_all is_local_name ns && (is_distinct same_local ns && (is_numbered_from 0 ns && ((false || list_all is_number (numbers 0 ts)) && true)))) ≡ true) (sym (append-nil (numbers 0 ts)))
    (and_from _ _ (all_names 0 ts) (and_from _ _ (distinct 0 ts) (and_from _ _ (in_order 0 ts) (and_from _ _ (all_numbers 0 ts) refl))))))
