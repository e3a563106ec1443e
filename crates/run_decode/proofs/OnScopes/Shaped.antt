-- The leaves of types and of what instructions give.
use Rattle.std.proofs.Common.{◌≡◌, ℕ, ◌+◌, ◌≤◌, Bool, true, false, List, [], ◌∷◌, ◌++◌, Option, Some, None, option_to_list, inl, inr, is_some, unwrap_or, refl, sym, ap, ◌∙◌}
use Rattle.std.specs.Prelude.{if◌then◌else◌}
use Rattle.std.specs.Option.{option_and_then, option_map, option_map_or}
use Rattle.std.proofs.lemmas.Bool.{leb-true, true≢false}
use Rattle.module_arena.specs.declared.entry.Function.{Function}
use Rattle.module_arena.specs.declared.instruction.Inst.{Inst}
use Rattle.module_arena.specs.declared.instruction.Inst.TheVariants as inst
use Rattle.module_arena.specs.Lists.{Lists}
use Rattle.module_arena.specs.Mentions as mentions
use Rattle.module_arena.specs.Module.{LocalName}
use Rattle.module_arena.specs.TypeTests.{is_passable, is_small_layout, is_void, lies_in_memory}
use Rattle.module_arena.specs.View.{module_of}
use Rattle.run_initial.specs.Constants.Sound.{names_of}
use Rattle.run_rules.specs.Constant.{shape_of}
use Rattle.run_rules.specs.Scope.{Typed, result_of, result_shape}
use Rattle.run_names.specs.Shapes.Shapes.{laid_out, shape_in}
use Rattle.type_table.specs.declared.layout.Layout.{Layout}
use Rattle.type_table.specs.Layout as layouts
use Rattle.type_table.specs.Shape.{Shape, void_leaf}
use Rattle.type_table.specs.Shape as shapes
use Rattle.type_table.specs.Tree.{Tree, void}
use Rattle.type_table.specs.Types.{shape, structs, tree}
use Rattle.run_decode.specs.Scopes.Places.{AreAdded, Returns}
use Rattle.run_decode.specs.Scopes.Scopes.{instruction_of, name_of}
use Rattle.run_decode.proofs.OnScopes.Added.{added_one}

pub shapes_same : (a : Lists) (ty : ℕ) → shape_in a.table ty ≡ shape_of (names_of a) (tree a.table ty)
unfolding module_of
shapes_same a ty = refl

void_is : (t : Tree) → is_void t ≡ true → t ≡ void
void_is void h = refl
void_is _ h = absurd (true≢false (sym h))

pub small_laid : (o : Option Layout) → is_small_layout o ≡ true → is_some o ≡ true
small_laid None h = absurd (true≢false (sym h))
small_laid (Some l) h = refl

pub passable_laid : (a : Lists) (ty : ℕ) → is_passable (structs a.table) (tree a.table ty) ≡ true → lies_in_memory (structs a.table) (tree a.table ty) ≡ true
passable_laid a ty h = small_laid (option_and_then layouts.layout (shape a.table ty)) h

small_few : (s : Shape) (b : Bool) → is_small_layout (if b then Some (laid_out s) else None) ≡ true → layouts.leaves s ≤ 65536
small_few s true h = leb-true (layouts.leaves s) 65536 h
small_few s false h = absurd (true≢false (sym h))

-- a type of values has few leaves
pub passable_few : (a : Lists) (ty : ℕ) → is_passable (structs a.table) (tree a.table ty) ≡ true → layouts.leaves (shape_in a.table ty) ≤ 65536
passable_few a ty h = go (shape a.table ty) h
  where
    go : (o : Option Shape) → is_small_layout (option_and_then layouts.layout o) ≡ true → layouts.leaves (unwrap_or o void_leaf) ≤ 65536
    go None k = absurd (true≢false (sym k))
    go (Some s) k = small_few s (layouts.has_layout s) k

not_laid : (o : Option Layout) → o ≡ None → is_some o ≡ true → false ≡ true
not_laid o e h = sym (ap is_some e) ∙ h

-- what lies nowhere is void, which has no leaf
pub no_leaves : (a : Lists) (ty : ℕ) → Returns a ty → option_and_then layouts.layout (shape a.table ty) ≡ None → 0 ≡ layouts.leaves (shape_in a.table ty)
no_leaves a ty h none = elim h.returned [
  | inl v ↦ sym (ap (λ (t : Tree). layouts.leaves (unwrap_or (shapes.shape (structs a.table) t) void_leaf)) (void_is (tree a.table ty) v))
  | inr p ↦ absurd (true≢false (sym (not_laid (option_and_then layouts.layout (shape a.table ty)) none (passable_laid a ty p))))
]

-- ---- results

pub one_result : (name : ℕ → LocalName) (r : ℕ) (o : Option ℕ) → option_to_list o ≡ r ∷ [] → Some (name r) ≡ option_map name o
one_result name r None e = absurd cc
one_result name r (Some s) e = let same : r ≡ s = cc in ap (λ (n : ℕ). Some (name n)) same

pub no_result : (name : ℕ → LocalName) (o : Option ℕ) → option_to_list o ≡ [] → None ≡ option_map name o
no_result name None e = refl
no_result name (Some s) e = absurd cc

pub own_result : (name : ℕ → LocalName) (o p : Option ℕ) → option_to_list o ≡ option_to_list p → option_map name p ≡ option_map name o
own_result name None None e = refl
own_result name None (Some p) e = absurd cc
own_result name (Some o) None e = absurd cc
own_result name (Some o) (Some p) e = let same : p ≡ o = cc in ap (λ (n : ℕ). Some (name n)) same

module _ (a : Lists) (f : Function) where
  result_viewed : (i : Inst) (o : Option ℕ) → option_to_list o ≡ mentions.result_of i → (instruction_of a f i).result ≡ option_map (name_of a f) o
  result_viewed (inst.Binary opcode flags result left right) o e = one_result (name_of a f) result o e
  result_viewed (inst.Compare flags predicate result left right) o e = one_result (name_of a f) result o e
  result_viewed (inst.Convert opcode flags result operand to) o e = one_result (name_of a f) result o e
  result_viewed (inst.Select result choice) o e = one_result (name_of a f) result o e
  result_viewed (inst.Freeze result operand) o e = one_result (name_of a f) result o e
  result_viewed (inst.Phi result ty incoming) o e = one_result (name_of a f) result o e
  result_viewed (inst.Load flags result ty address alignment) o e = one_result (name_of a f) result o e
  result_viewed (inst.Store flags stored address alignment) o e = no_result (name_of a f) o e
  result_viewed (inst.Alloca result ty count alignment) o e = one_result (name_of a f) result o e
  result_viewed (inst.GetElementPtr flags result source base indices) o e = one_result (name_of a f) result o e
  result_viewed (inst.Call call) o e = own_result (name_of a f) o call.result e
  result_viewed (inst.ExtractValue result aggregate indices) o e = one_result (name_of a f) result o e
  result_viewed (inst.InsertValue result insertion) o e = one_result (name_of a f) result o e

  -- what an instruction gives
  pub gives : (i : Inst) (o : Option ℕ) → option_to_list o ≡ mentions.result_of i
      → result_of (names_of a) (instruction_of a f i) ≡ option_map_or (λ (name : LocalName). (name, result_shape (names_of a) (instruction_of a f i).operation) ∷ []) (option_map (name_of a f) o) []
  gives i o e = ap (λ (p : Option LocalName). option_map_or {U = List Typed} (λ (name : LocalName). (name, result_shape (names_of a) (instruction_of a f i).operation) ∷ []) p []) (result_viewed i o e)

  -- where the leaves of a result were added
  pub result_added : (i : Inst) (r first end count : ℕ) (old new : List ℕ) → option_to_list (Some r) ≡ mentions.result_of i → count ≡ layouts.leaves (result_shape (names_of a) (instruction_of a f i).operation)
      → new ≡ old ++ first ∷ [] → end ≡ first + count → AreAdded first (result_of (names_of a) (instruction_of a f i)) old new end
  result_added i r first end count old new e shape places ends =
      added_one first (result_of (names_of a) (instruction_of a f i)) (name_of a f r, result_shape (names_of a) (instruction_of a f i).operation) old new end
      (gives i (Some r) e) places (ends ∙ ap (λ (n : ℕ). first + n) shape)
