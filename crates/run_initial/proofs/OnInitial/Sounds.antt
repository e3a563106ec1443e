-- The leaves of a constant of a checked module are of the kinds of its type, and each of its pointers is to the block of a variable or to none.
use Rattle.std.proofs.Common.{◌≡◌, ℕ, List, [], ◌∷◌, length, Bool, true, false, ◌&&◌, nat_lt, Option, Some, None, is_some, cond, refl, sym, ap, ◌∙◌, subst, true≢false, ltb-true}
use Rattle.std.specs.Prelude.{position}
use Rattle.std.specs.List.{AllZip, list_all, position_or_len}
use Rattle.std.proofs.lemmas.Bool.{and_parts, and_from}
use Rattle.ir_memory.specs.declared.leaf.Leaf.{Leaf}
use Rattle.ir_memory.specs.declared.leaf.Leaf.TheVariants as leaf
use Rattle.ir_memory.specs.Given.{IsBlock}
use Rattle.linkage_rules.specs.Bind.{Bound}
use Rattle.linkage_rules.specs.Bind as bound
use Rattle.linkage_rules.specs.Entries.{symbol_in}
use Rattle.linkage_rules.specs.Addresses.{rooms}
use Rattle.linkage_rules.specs.declared.symbol.Symbol.{Symbol}
use Rattle.module_arena.specs.Constants.{Typed, constants_in, constants_of}
use Rattle.module_arena.specs.Lists.{Lists}
use Rattle.module_arena.specs.Module.{Brackets, Bytes, Aggregate, Constant, Constants, no_constants, more_constants, Module}
use Rattle.module_arena.specs.View.{module_of}
use Rattle.module_arena.specs.WellFormed.{are_good_types, is_good_part, is_good_type, is_in_range, is_within_limits, names_an_entry, type_in_constant}
use Rattle.module_arena.specs.Forms.{is_constant_of_phrase}
use Rattle.type_table.specs.Shape.{Shape, shape}
use Rattle.type_table.specs.Tree.{Tree, int, ptr, void, array, struct, named, Structs}
use Rattle.run_initial.proofs.OnConstants.Sounds.{AreSound as PartsSound}
use Rattle.run_initial.specs.Constants.Sound.{IsSound, names_of}
use Rattle.run_names.specs.Told.{alone}
use Rattle.run_rules.specs.Constant.{constant_value, one_leaf, shape_of}
use Rattle.run_rules.specs.Look.{address_in, leaf_of}
use Rattle.typed_runs.proofs.OnLook.Constants.{AreSound, constant_typed, is_sound, one_leaf_typed}
use Rattle.typed_runs.proofs.OnLook.Lists.{HaveTypes}
use Rattle.typed_runs.specs.Kinds.{IsOf, kinds_of}
use Rattle.run_initial.proofs.OnInitial.Lists.{leaf_shape}

-- ---- addresses

position_within : {A : Type 0} (p : A → Bool) (xs : List A) → IsBlock (length xs) (position p xs)
position_within p xs = go (nat_lt (position_or_len p xs) (length xs)) refl
  where
    go : (b : Bool) → nat_lt (position_or_len p xs) (length xs) ≡ b → IsBlock (length xs) (cond b (Some (position_or_len p xs)) None)
    go true e = ltb-true (position_or_len p xs) (length xs) e
    go false e = tt

leaf_known : (parts : List Module) (s : Symbol) (b : Bound) → IsOf (length (rooms parts)) leaf.Ptr (leaf_of parts s b)
leaf_known parts s (bound.Definition e) = position_within _ (rooms parts)
leaf_known parts s (bound.Appended symbol) = position_within _ (rooms parts)
leaf_known parts s (bound.Host name) = position_within _ (rooms parts)
leaf_known parts s bound.Null = tt
leaf_known parts s bound.Unresolved = tt

address_known : (parts : List Module) (i : ℕ) (name : Bytes) → IsOf (length (rooms parts)) leaf.Ptr (address_in parts i name)
address_known parts i name = leaf_known parts (symbol_in parts i name) (bound.meaning parts (symbol_in parts i name))

-- ---- types

within_some : (o : Option Shape) → is_within_limits o ≡ true → is_some o ≡ true
within_some None h = absurd (true≢false (sym h))
within_some (Some s) h = refl

good_shape : (ss : Structs) (t : Tree) → is_good_type ss t ≡ true → is_some (shape ss t) ≡ true
good_shape ss (int w) h = refl
good_shape ss ptr h = refl
good_shape ss void h = refl
good_shape ss (array n t) h = within_some (shape ss (array n t)) (and_parts (is_good_type ss t) (is_within_limits (shape ss (array n t))) h).1
good_shape ss (struct packed ts) h = within_some (shape ss (struct packed ts)) (and_parts (are_good_types ss ts) (is_within_limits (shape ss (struct packed ts))) h).1
good_shape ss (named name) h = within_some (shape ss (named name)) (and_parts _ (is_within_limits (shape ss (named name))) h).1

module _ (a : Lists) where
  part_sound : (x : Typed) → is_good_part (module_of a) x ≡ true → is_sound (names_of a) x ≡ true
  part_sound x h =
      let p = and_parts (is_good_type (module_of a).structs x.0) (list_all (is_good_type (module_of a).structs) (type_in_constant x.1) && (is_in_range x.0 x.1 && (is_constant_of_phrase x.1 && names_an_entry (module_of a) x.1))) h in
      let q = and_parts (list_all (is_good_type (module_of a).structs) (type_in_constant x.1)) (is_in_range x.0 x.1 && (is_constant_of_phrase x.1 && names_an_entry (module_of a) x.1)) p.1 in
      let r = and_parts (is_in_range x.0 x.1) (is_constant_of_phrase x.1 && names_an_entry (module_of a) x.1) q.1 in
      and_from (is_in_range x.0 x.1) (is_some (shape (names_of a).structs x.0)) r.0 (good_shape (module_of a).structs x.0 p.0)

  parts_sound : (xs : List Typed) → list_all (is_good_part (module_of a)) xs ≡ true → AreSound (names_of a) xs
  parts_sound [] h = refl
  parts_sound (x ∷ xs) h =
      let p = and_parts (is_good_part (module_of a) x) (list_all (is_good_part (module_of a)) xs) h in
      and_from (is_sound (names_of a) x) (list_all (is_sound (names_of a)) xs) (part_sound x p.0) (parts_sound xs p.1)

  -- the type of a list has a shape
  pub list_shape : (t : Tree) (b : Brackets) (cs : Constants) → IsSound (module_of a) t (Aggregate b cs) → is_some (shape (names_of a).structs t) ≡ true
  list_shape t b cs s =
      let first = (and_parts (is_good_part (module_of a) (t, Aggregate b cs)) (list_all (is_good_part (module_of a)) (constants_of cs)) s.good).0 in
      (and_parts (is_in_range t (Aggregate b cs)) (is_some (shape (names_of a).structs t)) (part_sound (t, Aggregate b cs) first)).1

  -- how many variables have a block
  abbrev pub blocks : ℕ
  blocks = length (rooms (alone (module_of a)))

  pub value_typed : (t : Tree) (c : Constant) → IsSound (module_of a) t c → AllZip (IsOf blocks) (kinds_of (shape_of (names_of a) t)) (constant_value (names_of a) t c)
  value_typed t c s = constant_typed (names_of a) blocks (address_known (alone (module_of a)) 0) t c s.fits (parts_sound (constants_in t c) s.good)

  pub values_typed : (cs : Constants) → PartsSound (module_of a) cs → HaveTypes (names_of a) blocks cs
  values_typed no_constants h = tt
  values_typed (more_constants t c cs) h = (value_typed t c h.0, values_typed cs h.1)

  one_kind : (k : Leaf) → kinds_of (leaf_shape k) ≡ k ∷ []
  one_kind (leaf.Int w) = refl
  one_kind leaf.Ptr = refl

  -- the leaf of a constant at a type of one leaf
  pub single_typed : (t : Tree) (c : Constant) (k : Leaf) → shape_of (names_of a) t ≡ leaf_shape k → IsSound (module_of a) t c → IsOf blocks k (one_leaf (constant_value (names_of a) t c))
  single_typed t c k is s =
      one_leaf_typed blocks k (constant_value (names_of a) t c)
      (subst (λ (ks : List Leaf). AllZip (IsOf blocks) ks (constant_value (names_of a) t c)) (ap kinds_of is ∙ one_kind k) (value_typed t c s))
