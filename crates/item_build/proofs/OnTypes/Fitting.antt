-- A type within the limits is taken by a table that is within them: only memory may be wanting.
use Rattle.std.proofs.Common.{◌≡◌, inl, inr, List, [], ◌∷◌, ◌++◌, map, All, Any, Option, Some, None, refl, sym, ap, ◌∙◌, subst, arith}
use Rattle.std.proofs.lemmas.List.Elements.{All-append, All-push}
use Rattle.std.proofs.lemmas.List.{map-append}
use Rattle.type_table.specs.declared.fault.TypeFault.{TypeFault}
use Rattle.type_table.specs.declared.fault.TypeFault.TheVariants.{Duplicate, SelfContaining, TooDeep, TooLarge, Memory}
use Rattle.type_table.specs.declared.ir_type.IrType.{IrType}
use Rattle.type_table.specs.Limits.{HasFault, IsTooDeep, IsTooLarge, IsWithin, IsWithinLimits, all_shapes}
use Rattle.type_table.specs.Shape.{Shape, shape}
use Rattle.type_table.specs.Types.{Types, IsGood, names, trees, tree_of, structs, with_type}
use Rattle.type_table.specs.Tree.{Tree, Structs, named}
use Rattle.module_arena.specs.Changes.{with_table}
use Rattle.module_arena.specs.Lists.{Lists}
use Rattle.item_build.specs.Types.Fitting.{AreWithin}
use Rattle.type_table.proofs.Added.{structs-with, trees-with}
use Rattle.type_table.proofs.Judged.{All-left, All-right}

not_deep : (o : Option Shape) → IsWithinLimits o → IsTooDeep o → ⊥
not_deep None within deep = within
not_deep (Some s) within deep = let le = within.nests in absurd (omega (arith, le, deep))

not_large : (o : Option Shape) → IsWithinLimits o → IsTooLarge o → ⊥
not_large None within large = large
not_large (Some s) within (inl many) = let le = within.parts_fit in absurd (omega (arith, le, many))
not_large (Some s) within (inr (inl long)) = let le = within.length_fits in absurd (omega (arith, le, long))
not_large (Some s) within (inr (inr big)) = let le = within.size_fits big.0 in let lt = big.1 in absurd (omega (arith, le, lt))

none_of : {X : Type 0} (P Q : X → Type 0) → ((x : X) → P x → Q x → ⊥) → (xs : List X) → All P xs → Any Q xs → ⊥
none_of P Q apart xs all any = apart any.1 (subst P any.3 (all any.0 any.1 any.2)) any.4

module _ (t : Types) (ty : IrType) (good : IsGood t) (within : IsWithin t) (fits : IsWithinLimits (shape (structs t) (tree_of (names t) (trees t) ty))) where
  all_fit : All IsWithinLimits (all_shapes (with_type t ty))
  all_fit =
      let S = shape (structs t) in
      let x = tree_of (names t) (trees t) ty in
      let ns = map named (names t) in
      let old : All IsWithinLimits (map S (trees t) ++ map S ns) = subst (All IsWithinLimits) (map-append S (trees t) ns) within.fits in
      let target : all_shapes (with_type t ty) ≡ (map S (trees t) ++ S x ∷ []) ++ map S ns =
      (λ j. map (shape (structs-with t ty good j)) (trees-with t ty j ++ ns))
      ∙ map-append S (trees t ++ x ∷ []) ns
      ∙ ap (λ l. l ++ map S ns) (map-append S (trees t) (x ∷ [])) in
      subst (All IsWithinLimits) (sym target)
      (All-append IsWithinLimits (map S (trees t) ++ S x ∷ []) (map S ns)
      (All-push IsWithinLimits (map S (trees t)) (S x) (All-left IsWithinLimits (map S (trees t)) (map S ns) old) fits)
      (All-right IsWithinLimits (map S (trees t)) (map S ns) old))

  pub memory_alone : (fault : TypeFault) → HasFault (with_type t ty) fault → (fault ≡ SelfContaining → ⊥) → fault ≡ Memory
  memory_alone Duplicate has never = absurd has
  memory_alone SelfContaining has never = absurd (never refl)
  memory_alone TooDeep has never = absurd (none_of IsWithinLimits IsTooDeep not_deep (all_shapes (with_type t ty)) all_fit has.1)
  memory_alone TooLarge has never = absurd (none_of IsWithinLimits IsTooLarge not_large (all_shapes (with_type t ty)) all_fit has.2)
  memory_alone Memory has never = refl

-- one type more is within the limits
pub within_more : (a : Lists) (ty : IrType) (whole : Structs) → IsWithinLimits (shape whole (tree_of (names a.table) (trees a.table) ty)) → AreWithin whole a → AreWithin whole (with_table a (with_type a.table ty))
within_more a ty whole fits old =
    let P : Tree → Type 0 = λ t. IsWithinLimits (shape whole t) in
    subst (All P) (sym (trees-with a.table ty)) (All-push P (trees a.table) (tree_of (names a.table) (trees a.table) ty) old fits)
