-- Which types are `void`, one more at a time.
use Rattle.std.proofs.Common.{◌≡◌, ◌<◌, ◌+◌, ℕ, zero, suc, Bool, true, false, List, [], ◌∷◌, ◌++◌, Some, length, map, take, get_or, slice_get, refl, sym, ap, ◌∙◌, arith, add-one}
use Rattle.std.proofs.lemmas.Option.{get_or_from_slice_get, slice_get_within}
use Rattle.type_table.specs.declared.ir_type.IrType.{IrType}
use Rattle.type_table.specs.declared.ir_type.IrType.TheVariants.{Int, Ptr, Void, Array, Struct, Named}
use Rattle.type_table.specs.Tree.{Tree, void}
use Rattle.type_table.specs.Types.{IsGood, Types, names, tree, tree_of, trees}
use Rattle.type_table.proofs.Added.{length-trees}
use Rattle.type_table.proofs.Outlined.{tree-is}
use Rattle.module_arena.specs.TypeTests.{is_void}

taken_more : {A B : Type 0} (f : A → B) (xs : List A) (n : ℕ) (d : A) → n < length xs → map f (take (suc n) xs) ≡ map f (take n xs) ++ f (get_or xs n d) ∷ []
taken_more f [] n d lt = absurd (omega arith)
taken_more f (x ∷ xs) zero d lt = refl
taken_more f (x ∷ xs) (suc n) d lt = ap (λ l. f x ∷ l) (taken_more f xs n d (omega arith))

pub one_more : (f : Tree → Bool) (t : Types) (items now : List Bool) (n : ℕ) (is : Bool) → n < length t.types → items ≡ map f (take n (trees t)) → is ≡ f (tree t n) → now ≡ items ++ is ∷ [] → now ≡ map f (take (n + 1) (trees t))
one_more f t items now n is lt h e more =
    let long = length-trees t in
    more ∙ ((λ j. h j ++ e j ∷ []) ∙ (sym (taken_more f (trees t) n void (omega arith)) ∙ ap (λ k. map f (take k (trees t))) (sym (add-one n))))

pub all_taken : {A : Type 0} (xs : List A) (n : ℕ) → n ≡ length xs → take n xs ≡ xs
all_taken [] zero is = refl
all_taken [] (suc n) is = refl
all_taken (x ∷ xs) zero is = absurd (omega arith)
all_taken (x ∷ xs) (suc n) is = ap (λ l. x ∷ l) (all_taken xs n (omega arith))

-- ---- one type

module _ (t : Types) (good : IsGood t) (ty : ℕ) (x : IrType) (at : slice_get t.types ty ≡ Some x) where
  tree_here : tree t ty ≡ tree_of (names t) (trees t) x
  tree_here = tree-is t good ty (slice_get_within t.types ty x at) ∙ ap (tree_of (names t) (trees t)) (get_or_from_slice_get t.types ty x Void at)

  pub void_told : x ≡ Void → true ≡ is_void (tree t ty)
  void_told is = sym (ap is_void (tree_here ∙ ap (tree_of (names t) (trees t)) is))

  pub void_not : (x ≡ Void → ⊥) → false ≡ is_void (tree t ty)
  void_not not = sym (ap is_void tree_here ∙ by x not)
    where
      by : (y : IrType) → (y ≡ Void → ⊥) → is_void (tree_of (names t) (trees t) y) ≡ false
      by (Int w) no_one = refl
      by Ptr no_one = refl
      by Void no_one = absurd (no_one refl)
      by (Array n part) no_one = refl
      by (Struct packed parts) no_one = refl
      by (Named id) no_one = refl
