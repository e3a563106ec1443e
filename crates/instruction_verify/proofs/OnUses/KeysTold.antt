-- The keys of two constants are the same exactly where the constants are.
use Rattle.std.proofs.Common.{◌≡◌, ℕ, ◌<◌, ◌==◌, true, ◌&&◌, List, [], ◌∷◌, ◌++◌, map, length, get_or, Some, All, refl, sym, ap, ◌∙◌, arith, bytes_eq}
use Rattle.std.specs.Cmp.Lexicographic.{bytes_decides}
use Rattle.std.proofs.lemmas.List.{get_or_append_left, length-map}
use Rattle.std.proofs.lemmas.List.Elements.{All-head, All-tail}
use Rattle.std.proofs.lemmas.Option.{slice_get-map, slice_get-get_or}
use Rattle.std.proofs.lemmas.Bool.Decides.{same_from_decides}
use Rattle.type_table.specs.Types.{trees, tree}
use Rattle.type_table.proofs.ShapeMeasures.{and_assoc}
use Rattle.module_arena.specs.declared.constant.Brackets as the_brackets
use Rattle.module_arena.specs.declared.constant.Brackets.TheVariants as brackets
use Rattle.module_arena.specs.declared.constant.Const.{Const}
use Rattle.module_arena.specs.declared.constant.Const.TheVariants as const
use Rattle.module_arena.specs.declared.constant.TypedConst.{TypedConst}
use Rattle.module_arena.specs.declared.entry.Alias as the_alias
use Rattle.module_arena.specs.declared.entry.Function as the_function
use Rattle.module_arena.specs.declared.entry.GlobalId.{GlobalId}
use Rattle.module_arena.specs.declared.entry.GlobalId.TheVariants as global
use Rattle.module_arena.specs.declared.entry.Variable as the_variable
use Rattle.module_arena.specs.Changes.{constant_in}
use Rattle.module_arena.specs.Known.{HasGlobal, KnowsConst, AreDistinct, counts}
use Rattle.module_arena.specs.Lists.{Lists, name_at, global_name}
use Rattle.module_arena.specs.Mentions.{typed_in}
use Rattle.module_arena.specs.Module.{Bytes}
use Rattle.module_arena.specs.Same.{same_type, same_brackets, same_opcode, same_constant, same_constants}
use Rattle.module_arena.specs.SameConst.{brackets_code, same_global, same_typed, all_same_typed, same_const}
use Rattle.module_arena.specs.SameConstLaws.{same_const_decides}
use Rattle.module_arena.specs.View.{brackets_view, constant_at, constants_at, constants_of}
use Rattle.entry_verify.specs.Types.Classes.{AreClasses as AreTypeClasses}
use Rattle.instruction_verify.specs.Uses.Keys.{typed_key, key_of}

brackets_agree : (round other : the_brackets.Brackets) → (brackets_code round == brackets_code other) ≡ same_brackets (brackets_view round) (brackets_view other)
brackets_agree brackets.Square brackets.Square = refl
brackets_agree brackets.Square brackets.Braces = refl
brackets_agree brackets.Square brackets.Packed = refl
brackets_agree brackets.Braces brackets.Square = refl
brackets_agree brackets.Braces brackets.Braces = refl
brackets_agree brackets.Braces brackets.Packed = refl
brackets_agree brackets.Packed brackets.Square = refl
brackets_agree brackets.Packed brackets.Braces = refl
brackets_agree brackets.Packed brackets.Packed = refl

-- ---- entries

-- an entry that is there has its name
named_here : (a : Lists) (g : GlobalId) → HasGlobal (counts a) g → global_name a g ≡ Some (name_at a g)
named_here a (global.Variable id) h =
    let f : the_variable.Variable → Bytes = λ (v : the_variable.Variable). v.name in
    sym (slice_get-map f a.variables id) ∙ slice_get-get_or (map f a.variables) id [] (omega (arith, h, length-map a.variables f))
named_here a (global.Function id) h =
    let f : the_function.Function → Bytes = λ (v : the_function.Function). v.name in
    sym (slice_get-map f a.functions id) ∙ slice_get-get_or (map f a.functions) id [] (omega (arith, h, length-map a.functions f))
named_here a (global.Alias id) h =
    let f : the_alias.Alias → Bytes = λ (v : the_alias.Alias). v.name in
    sym (slice_get-map f a.aliases id) ∙ slice_get-get_or (map f a.aliases) id [] (omega (arith, h, length-map a.aliases f))

-- the name that a constant is
abbrev name_in : Lists → Const → Bytes
name_in a (const.Address g) = name_at a g
name_in a c = []

-- one name is that of one entry
globals_agree : (a : Lists) → AreDistinct a → (g h : GlobalId) → HasGlobal (counts a) g → HasGlobal (counts a) h → same_global g h ≡ bytes_eq (name_at a g) (name_at a h)
globals_agree a distinct g h kg kh = same_from_decides (same_global g h) (bytes_eq (name_at a g) (name_at a h)) (same_const_decides (const.Address g) (const.Address h)) (to, from)
  where
    to : bytes_eq (name_at a g) (name_at a h) ≡ true → const.Address g ≡ const.Address h
    to e = ap const.Address (distinct (name_at a g) g h (named_here a g kg) (named_here a h kh ∙ ap Some (sym ((bytes_decides (name_at a g) (name_at a h)).0 e))))

    from : const.Address g ≡ const.Address h → bytes_eq (name_at a g) (name_at a h) ≡ true
    from e = (bytes_decides (name_at a g) (name_at a h)).1 (ap (name_in a) e)

-- ---- constants

module _ (a : Lists) (distinct : AreDistinct a) (types classes : List ℕ) (bound : ℕ)
    (alike : AreTypeClasses a.table types)
    (agree : (i j : ℕ) → i < bound → j < bound → (get_or classes i 0 == get_or classes j 0) ≡ same_constant (constant_at (constants_of a) i) (constant_at (constants_of a) j)) where
  abbrev IsType : ℕ → Type 0
  IsType ty = ty < length a.table.types

  abbrev IsPart : TypedConst → Type 0
  IsPart x = (x.ty < length a.table.types) × (x.value < bound)

  parts_agree : (x y : TypedConst) → IsPart x → IsPart y → same_typed (typed_key types classes x) (typed_key types classes y)
      ≡ (same_type (tree a.table x.ty) (tree a.table y.ty) && same_constant (constant_at (constants_of a) x.value) (constant_at (constants_of a) y.value))
  parts_agree x y kx ky = λ j. alike x.ty y.ty kx.0 ky.0 j && agree x.value y.value kx.1 ky.1 j

  lists_agree : (xs ys : List TypedConst) → All IsPart xs → All IsPart ys → all_same_typed (map (typed_key types classes) xs) (map (typed_key types classes) ys)
      ≡ same_constants (constants_at (trees a.table) (constants_of a) xs) (constants_at (trees a.table) (constants_of a) ys)
  lists_agree [] [] kx ky = refl
  lists_agree [] (y ∷ ys) kx ky = refl
  lists_agree (x ∷ xs) [] kx ky = refl
  lists_agree (x ∷ xs) (y ∷ ys) kx ky =
      (λ j. parts_agree x y (All-head IsPart x xs kx) (All-head IsPart y ys ky) j && lists_agree xs ys (All-tail IsPart x xs kx) (All-tail IsPart y ys ky) j)
      ∙ and_assoc (same_type (tree a.table x.ty) (tree a.table y.ty)) (same_constant (constant_at (constants_of a) x.value) (constant_at (constants_of a) y.value))
      (same_constants (constants_at (trees a.table) (constants_of a) xs) (constants_at (trees a.table) (constants_of a) ys))

  pub key_same : (x y : Const) → KnowsConst (length a.table.types) (counts a) bound x → KnowsConst (length a.table.types) (counts a) bound y
      → same_const (key_of types classes x) (key_of types classes y) ≡ same_constant (constant_in a x) (constant_in a y)
  key_same (const.Integer n) (const.Integer m) kx ky = refl
  key_same (const.Truth b) (const.Truth c) kx ky = refl
  key_same const.Null const.Null kx ky = refl
  key_same const.Undef const.Undef kx ky = refl
  key_same const.Poison const.Poison kx ky = refl
  key_same const.ZeroInitializer const.ZeroInitializer kx ky = refl
  key_same (const.Address g) (const.Address h) kx ky =
      globals_agree a distinct g h (All-head (HasGlobal (counts a)) g [] kx.globals_known) (All-head (HasGlobal (counts a)) h [] ky.globals_known)
  key_same (const.ByteString bytes) (const.ByteString others) kx ky = refl
  key_same (const.Aggregate round xs) (const.Aggregate other ys) kx ky =
      λ j. brackets_agree round other j && lists_agree xs ys kx.typed_known ky.typed_known j
  key_same (const.ElementAddress flags x) (const.ElementAddress others y) kx ky =
      let source = alike x.source y.source (All-head IsType x.source [] kx.types_known) (All-head IsType y.source [] ky.types_known) in
      λ j. (flags == others) && (source j && lists_agree x.operands y.operands kx.typed_known ky.typed_known j)
  key_same (const.Cast opcode x to) (const.Cast other y aim) kx ky =
      let part = parts_agree x y (All-head IsPart x [] kx.typed_known) (All-head IsPart y [] ky.typed_known) in
      let target = alike to aim (All-head IsType to [] kx.types_known) (All-head IsType aim [] ky.types_known) in
      ap (λ t. same_opcode opcode other && t)
      ((λ j. part j && target j)
      ∙ and_assoc (same_type (tree a.table x.ty) (tree a.table y.ty)) (same_constant (constant_at (constants_of a) x.value) (constant_at (constants_of a) y.value)) (same_type (tree a.table to) (tree a.table aim)))
  key_same (const.Binary opcode flags x) (const.Binary other others y) kx ky =
      let left = parts_agree x.left y.left (All-head IsPart x.left (x.right ∷ []) kx.typed_known) (All-head IsPart y.left (y.right ∷ []) ky.typed_known) in
      let right = parts_agree x.right y.right
      (All-head IsPart x.right [] (All-tail IsPart x.left (x.right ∷ []) kx.typed_known))
      (All-head IsPart y.right [] (All-tail IsPart y.left (y.right ∷ []) ky.typed_known)) in
      ap (λ t. same_opcode opcode other && ((flags == others) && t))
      ((λ j. left j && right j)
      ∙ and_assoc (same_type (tree a.table x.left.ty) (tree a.table y.left.ty)) (same_constant (constant_at (constants_of a) x.left.value) (constant_at (constants_of a) y.left.value))
      (same_type (tree a.table x.right.ty) (tree a.table y.right.ty) && same_constant (constant_at (constants_of a) x.right.value) (constant_at (constants_of a) y.right.value)))
  key_same _ _ kx ky = refl

-- ---- one number more

module _ (types classes : List ℕ) (c count : ℕ) where
  abbrev IsKept : TypedConst → Type 0
  IsKept x = (x.ty < count) × (x.value < length classes)

  typed_kept : (x : TypedConst) → IsKept x → typed_key types (classes ++ c ∷ []) x ≡ typed_key types classes x
  typed_kept x k = λ j. record { ty = get_or types x.ty 0; value = get_or_append_left classes (c ∷ []) 0 x.value k.1 j }

  all_kept : (xs : List TypedConst) → All IsKept xs → map (typed_key types (classes ++ c ∷ [])) xs ≡ map (typed_key types classes) xs
  all_kept [] k = refl
  all_kept (x ∷ xs) k = λ j. typed_kept x (All-head IsKept x xs k) j ∷ all_kept xs (All-tail IsKept x xs k) j

  -- keys of constants that have numbers stay
  pub key_kept : (x : Const) → All IsKept (typed_in x) → key_of types (classes ++ c ∷ []) x ≡ key_of types classes x
  key_kept (const.Integer n) k = refl
  key_kept (const.Truth b) k = refl
  key_kept const.Null k = refl
  key_kept const.Undef k = refl
  key_kept const.Poison k = refl
  key_kept const.ZeroInitializer k = refl
  key_kept (const.Address g) k = refl
  key_kept (const.ByteString bytes) k = refl
  key_kept (const.Aggregate round xs) k = ap (const.Aggregate round) (all_kept xs k)
  key_kept (const.ElementAddress flags x) k =
      λ j. const.ElementAddress flags (record { source = get_or types x.source 0; operands = all_kept x.operands k j })
  key_kept (const.Cast opcode x to) k = λ j. const.Cast opcode (typed_kept x (All-head IsKept x [] k) j) (get_or types to 0)
  key_kept (const.Binary opcode flags x) k =
      let left = typed_kept x.left (All-head IsKept x.left (x.right ∷ []) k) in
      let right = typed_kept x.right (All-head IsKept x.right [] (All-tail IsKept x.left (x.right ∷ []) k)) in
      λ j. const.Binary opcode flags (record { left = left j; right = right j })
