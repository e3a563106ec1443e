-- What lies in memory has no void in it, and names of entries that are no intrinsics.
use Rattle.std.proofs.Common.{◌≡◌, Bool, true, false, not, ◌&&◌, ◌||◌, Option, Some, None, refl, sym, ap, ◌∙◌, subst, option_and_then, is_some}
use Rattle.std.specs.Option.{option_map_or}
use Rattle.std.proofs.lemmas.Bool.{and_from, and_parts, and_right, both_ways, cond-false, false_from_ne_true, not-true}
use Rattle.type_table.specs.Tree.{Tree, int, ptr, void, array, struct, named, Trees, no_trees, more_trees, Structs}
use Rattle.type_table.specs.Shape.{Shape, array_of, struct_of, Shapes, expanded, all_expanded, shape}
use Rattle.type_table.specs.Layout.{has_layout, have_layouts, layout}
use Rattle.type_table.proofs.Rooms.{unmapped, unjoined}
use Rattle.module_arena.specs.Module.{Bytes, Variable, Alias, Module}
use Rattle.module_arena.specs.TypeTests.{is_free_of_void, are_free_of_void, lies_in_memory}
use Rattle.module_arena.specs.EntryRules.{is_llvm_name, is_appending, variable_name_suits, is_constructor_list, is_used_list}
use Rattle.module_arena.specs.Valid.{AllHold, variable_demands, alias_demands}

-- ---- types

module _ (look : Bytes → Option Shape) where
  mutual
    laid_free : (t : Tree) (s : Shape) → expanded look t ≡ Some s → has_layout s ≡ true → is_free_of_void t ≡ true
    laid_free (int w) s e h = refl
    laid_free ptr s e h = refl
    laid_free void s e h = subst (λ (o : Option Shape). option_map_or has_layout o true ≡ true) (sym e) h
    laid_free (array n t) s e h =
        let inside = unmapped (array_of n) (expanded look t) s e in
        laid_free t inside.0 inside.1 (ap has_layout inside.2 ∙ h)
    laid_free (struct packed ts) s e h =
        let inside = unmapped (struct_of None packed) (all_expanded look ts) s e in
        all_laid_free ts inside.0 inside.1 (ap has_layout inside.2 ∙ h)
    laid_free (named name) s e h = refl

    all_laid_free : (ts : Trees) (ss : Shapes) → all_expanded look ts ≡ Some ss → have_layouts ss ≡ true → are_free_of_void ts ≡ true
    all_laid_free no_trees ss e h = refl
    all_laid_free (more_trees t ts) ss e h =
        let halves = unjoined (expanded look t) (all_expanded look ts) ss e in
        let both = and_parts (has_layout halves.0) (have_layouts halves.1) (ap have_layouts halves.4 ∙ h) in
        and_from _ _ (laid_free t halves.0 halves.2 both.0) (all_laid_free ts halves.1 halves.3 both.1)

laid_out : (o : Option Shape) → is_some (option_and_then layout o) ≡ true → (s : Shape) × (o ≡ Some s) × (has_layout s ≡ true)
laid_out None h = cc
laid_out (Some s) h = (s, refl, go (has_layout s) refl)
  where
    go : (b : Bool) → has_layout s ≡ b → has_layout s ≡ true
    go true e = e
    go false e = absurd (both_ways _ (ap is_some (cond-false (has_layout s) _ None e)) h)

pub memory_free : (structs : Structs) (t : Tree) → lies_in_memory structs t ≡ true → is_free_of_void t ≡ true
memory_free structs t h = let l = laid_out (shape structs t) h in laid_free _ t l.0 l.1 l.2

-- ---- names

-- a variable that is not appending has no name that begins `llvm.`
pub variable_plain : (m : Module) (v : Variable) → AllHold (variable_demands m v) → is_appending v.linkage ≡ false → is_llvm_name v.name ≡ false
variable_plain m v h plain = false_from_ne_true _ (λ e. go (is_llvm_name v.name) e (and_parts (variable_name_suits m v) _ h.1.1.1.0).0)
  where
    list_at : (b : Bool) (r : Bool) → (b && (is_appending v.linkage && r)) ≡ false
    list_at b r = and_right b _ (ap (λ a. a && r) plain)

    go : (b : Bool) → b ≡ true → (not b || (is_constructor_list m v || is_used_list v)) ≡ true → ⊥
    go true e h = neither (is_constructor_list m v) (is_used_list v) (list_at _ _) (list_at _ _) h
      where
        neither : (a b : Bool) → a ≡ false → b ≡ false → (a || b) ≡ true → ⊥
        neither false false p q h = cc
        neither true b p q h = cc
        neither false true p q h = cc
    go false e h = cc

-- nor has an alias
pub alias_plain : (m : Module) (a : Alias) → AllHold (alias_demands m a) → is_llvm_name a.name ≡ false
alias_plain m a h = not-true _ (and_parts (not (is_llvm_name a.name)) _ h.1.1.1.0).0
