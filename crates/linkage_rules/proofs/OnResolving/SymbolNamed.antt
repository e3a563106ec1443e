-- What a name is of in a part, by what is filed under symbols.
use Rattle.std.proofs.Common.{◌≡◌, ℕ, suc, Bool, true, false, not, cond, ◌||◌, List, [], ◌∷◌, map, length, refl, sym, ap, ◌∙◌, filter, arith}
use Rattle.std.specs.Prelude.{◌==◌}
use Rattle.std.specs.List.{list_any}
use Rattle.std.proofs.lemmas.Bool.{false_from_ne_true, eqb-true}
use Rattle.module_arena.specs.Lists.{Lists}
use Rattle.module_arena.specs.Module.{Bytes}
use Rattle.linkage_rules.specs.Resolving.Meanings.{symbol_under}
use Rattle.linkage_rules.specs.declared.symbol.Symbol.TheVariants.{Shared, Local}
use Rattle.linkage_rules.specs.Entries.{same_symbol, symbol_of, entries, symbol_in}
use Rattle.linkage_rules.specs.Grouped.{Rows, group_in, AreGroups}
use Rattle.linkage_rules.specs.Ids.{modules, seen}
use Rattle.linkage_rules.proofs.OnResolving.PartNames.{length_mapped}

more_than_none : (n : ℕ) → (suc n == 0) ≡ false
more_than_none n = false_from_ne_true (suc n == 0) (λ e. let none : suc n ≡ 0 = eqb-true (suc n) 0 e in omega (arith, none))

any_filtered : {A B : Type 0} (p : B → Bool) (f : A → B) (xs : List A) → list_any p (map f xs) ≡ not (length (filter (λ x. p (f x)) xs) == 0)
any_filtered p f [] = refl
any_filtered p f (x ∷ xs) = go (p (f x)) (any_filtered p f xs)
  where
    go : (b : Bool) → list_any p (map f xs) ≡ not (length (filter (λ y. p (f y)) xs) == 0) → (b || list_any p (map f xs)) ≡ not (length (cond b (x ∷ filter (λ y. p (f y)) xs) (filter (λ y. p (f y)) xs)) == 0)
    go true e = sym (ap not (more_than_none (length (filter (λ y. p (f y)) xs))))
    go false e = e

turned : {A : Type 0} (b : Bool) (x y : A) → cond b x y ≡ cond (not b) y x
turned true x y = refl
turned false x y = refl

pub symbol_is : (parts : List Lists) (rows : Rows) → AreGroups parts rows → (i : ℕ) (name : Bytes) → symbol_under rows i name ≡ symbol_in (modules parts) i name
symbol_is parts rows groups i name =
    ap (λ n. cond (n == 0) (Shared name) (Local i name)) (sym (length_mapped (seen (modules parts)) (group_in rows (Local i name))) ∙ ap length (groups.groups (Local i name)))
    ∙ turned _ (Shared name) (Local i name)
    ∙ ap (λ b. cond b (Local i name) (Shared name)) (sym (any_filtered (same_symbol (Local i name)) symbol_of (entries (modules parts))))
