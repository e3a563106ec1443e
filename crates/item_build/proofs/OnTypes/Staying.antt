-- What an arena can take it can still take when it has grown.
use Rattle.std.proofs.Common.{◌≡◌, ℕ, ◌<◌, length, get_or, ◌≤◌, List, [], ◌∷◌, map, All, sym, subst, ap, arith, refl}
use Rattle.std.proofs.lemmas.List.Elements.{All-cons, All-nil}
use Rattle.ir_phrases.specs.Constants.Tree.{TypeTree, types, ConstantTree, TypedConstantTree, constants}
use Rattle.type_table.specs.Tree.{Tree, int, ptr, void, array, struct, named, TreeBody, Structs}
use Rattle.type_table.specs.Types.{Types, structs, names, trees}
use Rattle.type_table.proofs.UnderIds.{tree_names}
use Rattle.module_arena.specs.declared.entry.GlobalId.{GlobalId}
use Rattle.module_arena.specs.declared.entry.GlobalId.TheVariants as global
use Rattle.module_arena.specs.Lists.{Lists, no_lists, global_name}
use Rattle.module_arena.specs.Module.{Module}
use Rattle.module_arena.specs.View.{module_of}
use Rattle.name_rules.specs.Written.{type_in, types_in, bits_at}
use Rattle.item_build.specs.Types.Fitting.{CanBe, AllCanBe}
use Rattle.item_build.specs.Types.Holding.{entries, CanHold, AllCanHold, CanHoldTyped}
use Rattle.item_build.specs.Types.Stands.{Grows}

module _ (a b : Lists) (g : Grows a b) where
  pub structs_stay : structs b.table ≡ structs a.table
  unfolding module_of
  structs_stay = ap (λ (m : Module). m.structs) g.same

  pub entries_stay : entries b ≡ entries a
  entries_stay = λ j. record no_lists { variables = g.variables j; aliases = g.aliases j; functions = g.functions j }

  pub can_still_be : (t : Tree) → CanBe (structs a.table) t → CanBe (structs b.table) t
  can_still_be t h = subst (λ ss. CanBe ss t) (sym structs_stay) h

  pub can_still_hold : (c : ConstantTree) → CanHold (structs a.table) (entries a) c → CanHold (structs b.table) (entries b) c
  can_still_hold c h = subst (λ ss. CanHold ss (entries b) c) (sym structs_stay) (subst (λ e. CanHold (structs a.table) e c) (sym entries_stay) h)

  pub can_still_hold_typed : (c : TypedConstantTree) → CanHoldTyped (structs a.table) (entries a) c → CanHoldTyped (structs b.table) (entries b) c
  can_still_hold_typed c h = (can_still_be (type_in c.0) h.0, can_still_hold c.1 h.1)

pub entry_named : (a : Lists) (g : GlobalId) → global_name a g ≡ global_name (entries a) g
entry_named a (global.Variable id) = refl
entry_named a (global.Function id) = refl
entry_named a (global.Alias id) = refl

-- an item of a list, all of whose items are so
pub at_item : {X : Type 0} (P : X → Type 0) (xs : List X) (i : ℕ) (x : X) → i < length xs → x ≡ get_or xs i x → All P xs → P x
at_item P xs i x lt is all = subst P (sym is) (all i x lt)

-- each field can be
pub fields_can_be : {X : Type 0} (view : X → TypeTree) (ss : Structs) (xs : List X) → AllCanBe ss (types_in (types (map view xs))) → All (λ x. CanBe ss (type_in (view x))) xs
fields_can_be view ss [] h = All-nil (λ x. CanBe ss (type_in (view x)))
fields_can_be view ss (x ∷ xs) h = All-cons (λ y. CanBe ss (type_in (view y))) x xs h.0 (fields_can_be view ss xs h.1)

-- each element can be held
pub elements_can_be_held : {X : Type 0} (view : X → TypedConstantTree) (ss : Structs) (a : Lists) (xs : List X) → AllCanHold ss a (constants (map view xs)) → All (λ x. CanHoldTyped ss a (view x)) xs
elements_can_be_held view ss a [] h = All-nil (λ x. CanHoldTyped ss a (view x))
elements_can_be_held view ss a (x ∷ xs) h = All-cons (λ y. CanHoldTyped ss a (view y)) x xs h.0 (elements_can_be_held view ss a xs h.1)

-- the bits of what can be are at most 128
pub bits_fit : (ss : Structs) (t : Tree) → CanBe ss t → bits_at t ≤ 128
bits_fit ss (int width) h = h.1
bits_fit ss ptr h = omega arith
bits_fit ss void h = omega arith
bits_fit ss (array n t) h = omega arith
bits_fit ss (struct packed ts) h = omega arith
bits_fit ss (named name) h = omega arith

pub names_same : (t : Types) → map (λ (s : List ℕ × TreeBody). s.0) (structs t) ≡ names t
names_same t = tree_names (trees t) t.structs
