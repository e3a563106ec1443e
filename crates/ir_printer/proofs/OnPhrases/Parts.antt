-- The parts of a constant, and that its phrase is made of theirs.
use Rattle.std.proofs.Common.{◌≡◌, ℕ, zero, suc, ◌+◌, ◌-◌, ◌<◌, ◌≤◌, max, All, List, [], ◌∷◌, ◌++◌, true, false, codes, map, Some, length, drop, slice_get, slice_index_or, get_or, append_assoc, refl, sym, ap, ◌∙◌, arith}
use Rattle.std.specs.Option.{option_map}
use Rattle.std.proofs.lemmas.Option.{get_or_from_slice_get, slice_get-map}
use Rattle.std.proofs.lemmas.List.{at_drop_more, at_drop_all, length-drop}
use Rattle.ir_printer.specs.Gathered.Told.{GatherState}
use Rattle.ir_lexer.specs.Pieces.{Separator, Nothing, Space}
use Rattle.ir_tables.specs.declared.opcode.Opcode.{Opcode}
use Rattle.type_table.specs.Tree.{Tree}
use Rattle.type_table.specs.Types.{trees, tree}
use Rattle.module_arena.specs.declared.constant.ConstAddress.{ConstAddress}
use Rattle.module_arena.specs.declared.constant.ConstPair.{ConstPair}
use Rattle.module_arena.specs.declared.constant.TypedConst.{TypedConst}
use Rattle.module_arena.specs.declared.entry.GlobalId.{GlobalId}
use Rattle.module_arena.specs.declared.entry.GlobalId.TheVariants as global
use Rattle.module_arena.specs.declared.entry.Variable.{Variable}
use Rattle.module_arena.specs.declared.entry.Alias.{Alias}
use Rattle.module_arena.specs.declared.entry.Function.{Function}
use Rattle.module_arena.specs.Lists.{Lists, global_name, name_at}
use Rattle.module_arena.specs.Module.{Constant, Brackets, Square, Braces, Packed}
use Rattle.module_arena.specs.View.{constants_of, constant_at, constants_at}
use Rattle.canonical.specs.Phrase.{Phrase, word, mark, comma, ◌␣◌, ◌⌢◌, listed, in_parentheses}
use Rattle.canonical.specs.Types.{type_phrase}
use Rattle.canonical.specs.Constants.{opcode, flags_phrase, address_flags_phrase, in_brackets, constant_phrase, constant_phrases, typed_constant}
use Rattle.ir_printer.specs.Phrases.Printing.{Prints, separator_before, comma_before}
use Rattle.ir_printer.proofs.OnPhrases.Printing.{prints_then, prints_same, prints_part, prints_braces, prints_none}
use Rattle.ir_printer.specs.Phrases.Parts.{bracket_opening, bracket_closing, last_in, IsPart, element_address, cast, binary}

-- above all of them
abbrev pub top : List TypedConst → ℕ
top [] = 0
top (part ∷ parts) = max (part.value + 1) (top parts)

pub below_top : (parts : List TypedConst) (place : ℕ) (d : TypedConst) → place < length parts → (get_or parts place d).value < top parts
below_top [] place d h = absurd (omega arith)
below_top (part ∷ parts) zero d h = omega arith
below_top (part ∷ parts) (suc place) d h = let again = below_top parts place d (omega (arith, h)) in omega (arith, again, h)

pub top_within : (types : ℕ) (parts : List TypedConst) (bound : ℕ) → All (λ part. (part.ty < types) × (part.value < bound)) parts → top parts ≤ bound
top_within types [] bound h = omega arith
top_within types (part ∷ parts) bound h =
    let again = top_within types parts bound (λ k d lt. h (suc k) d (omega (arith, lt))) in
    let here = (h 0 part (omega arith)).1 in
    omega (arith, again, here)

-- a constant with its type, and the phrases of these constants
abbrev pub phrase : Lists → TypedConst → Phrase
phrase a part = typed_constant (tree a.table part.ty) (constant_at (constants_of a) part.value)

abbrev pub phrases : Lists → List TypedConst → List Phrase
phrases a parts = constant_phrases (constants_at (trees a.table) (constants_of a) parts)

pub many_phrases : (a : Lists) (parts : List TypedConst) → length (phrases a parts) ≡ length parts
many_phrases a [] = refl
many_phrases a (part ∷ parts) = ap suc (many_phrases a parts)

-- one part more is put
pub part_put : (a : Lists) (parts : List TypedConst) (place : ℕ) (part : TypedConst) (before behind : Separator) {w x y z : GatherState} → place < length parts → part ≡ get_or parts place part
    → before ≡ separator_before (length parts - 1 - place) behind
    → Prints w x (phrase a part before)
    → Prints x y (comma_before (length parts - 1 - place))
    → Prints y z (listed (phrases a (drop (place + 1) parts)) behind)
    → Prints w z (listed (phrases a (drop place parts)) behind)
part_put a parts place part before behind lt read is h j k =
    let rest = drop (place + 1) parts in
    let many : length parts - 1 - place ≡ length (phrases a rest) = omega (arith, lt, length-drop (place + 1) parts, many_phrases a rest) in
    prints_same (ap (λ (x : TypedConst). listed (phrases a (x ∷ rest)) behind) read ∙ sym (at_drop_more (λ (ps : List TypedConst). listed (phrases a ps) behind) parts place part lt))
    (prints_part (phrase a part) (phrases a rest) behind
    (prints_same (ap (phrase a part) (is ∙ ap (λ n. separator_before n behind) many)) h)
    (prints_same (ap comma_before many) j)
    k)

-- at the end no part is left
pub parts_put : (a : Lists) (parts : List TypedConst) (place : ℕ) (behind : Separator) (now : GatherState) → length parts ≤ place → Prints now now (listed (phrases a (drop place parts)) behind)
parts_put a parts place behind now le = prints_same (sym (at_drop_all (λ (ps : List TypedConst). listed (phrases a ps) behind) parts place le)) (prints_none now)

-- constants in their brackets
pub brackets_put : (brackets : Brackets) (ps : List Phrase) (behind : Separator) {w x y z : GatherState} → Prints w x (bracket_opening brackets (length ps)) → Prints x y (listed ps (last_in brackets)) → Prints y z (bracket_closing brackets behind) → Prints w z (in_brackets brackets ps behind)
brackets_put Square ps behind h j k = prints_then (bracket_opening Square (length ps)) (listed ps Nothing ++ bracket_closing Square behind) h (prints_then (listed ps Nothing) (bracket_closing Square behind) j k)
brackets_put Braces ps behind h j k = prints_braces false ps behind h j k
brackets_put Packed ps behind h j k = prints_braces true ps behind h j k

-- ---- whole phrases

-- in parentheses
pub parentheses_put : (p : Phrase) (behind : Separator) {w x y z : GatherState} → Prints w x (mark (codes "(") Nothing) → Prints x y (p Nothing) → Prints y z (mark (codes ")") behind) → Prints w z (in_parentheses p behind)
parentheses_put p behind h j k = prints_then (mark (codes "(") Nothing) (p Nothing ++ mark (codes ")") behind) h (prints_then (p Nothing) (mark (codes ")") behind) j k)

-- a constant behind its type
pub typed_put : (ty : Tree) (c : Constant) (behind : Separator) {w x y : GatherState} → Prints w x (type_phrase ty Space) → Prints x y (constant_phrase ty c behind) → Prints w y (typed_constant ty c behind)
typed_put ty c behind h j = prints_then (type_phrase ty Space) (constant_phrase ty c behind) h j

module _ (a : Lists) (behind : Separator) where
  -- a getelementptr
  pub element_put : (flags : ℕ) (address : ConstAddress) {s t u v w x y z : GatherState} → Prints s t (word (codes "getelementptr") Space) → Prints t u (address_flags_phrase flags Space) → Prints u v (mark (codes "(") Nothing)
      → Prints v w (type_phrase (tree a.table address.source) Nothing) → Prints w x (comma Space) → Prints x y (listed (phrases a address.operands) Nothing) → Prints y z (mark (codes ")") behind)
      → Prints s z (element_address a flags address behind)
  element_put flags address h1 h2 h3 h4 h5 h6 h7 =
      let inside = type_phrase (tree a.table address.source) ⌢ comma ␣ listed (phrases a address.operands) in
      prints_then (word (codes "getelementptr") Space) (address_flags_phrase flags Space ++ in_parentheses inside behind) h1
      (prints_then (address_flags_phrase flags Space) (in_parentheses inside behind) h2
      (parentheses_put inside behind h3
      (prints_then (type_phrase (tree a.table address.source) Nothing) (comma Space ++ listed (phrases a address.operands) Nothing) h4
      (prints_then (comma Space) (listed (phrases a address.operands) Nothing) h5 h6))
      h7))

  -- a cast
  pub cast_put : (code : Opcode) (operand : TypedConst) (to : ℕ) {s t u v w x y : GatherState} → Prints s t (opcode code Space) → Prints t u (mark (codes "(") Nothing) → Prints u v (phrase a operand Space) → Prints v w (word (codes "to") Space)
      → Prints w x (type_phrase (tree a.table to) Nothing) → Prints x y (mark (codes ")") behind)
      → Prints s y (cast a code operand to behind)
  cast_put code operand to h1 h2 h3 h4 h5 h6 =
      let from = tree a.table operand.ty in
      let value = constant_at (constants_of a) operand.value in
      let inside = type_phrase from ␣ constant_phrase from value ␣ word (codes "to") ␣ type_phrase (tree a.table to) in
      prints_then (opcode code Space) (in_parentheses inside behind) h1
      (parentheses_put inside behind h2
      (prints_same (append_assoc (type_phrase from Space) (constant_phrase from value Space) (word (codes "to") Space ++ type_phrase (tree a.table to) Nothing))
      (prints_then (phrase a operand Space) (word (codes "to") Space ++ type_phrase (tree a.table to) Nothing) h3
      (prints_then (word (codes "to") Space) (type_phrase (tree a.table to) Nothing) h4 h5)))
      h6)

  -- a sum, a difference or an exclusive or
  pub binary_put : (code : Opcode) (flags : ℕ) (pair : ConstPair) {s t u v w x y z : GatherState} → Prints s t (opcode code Space) → Prints t u (flags_phrase flags Space) → Prints u v (mark (codes "(") Nothing) → Prints v w (phrase a pair.left Nothing)
      → Prints w x (comma Space) → Prints x y (phrase a pair.right Nothing) → Prints y z (mark (codes ")") behind)
      → Prints s z (binary a code flags pair behind)
  binary_put code flags pair h1 h2 h3 h4 h5 h6 h7 =
      let left_type = tree a.table pair.left.ty in
      let left = constant_at (constants_of a) pair.left.value in
      let right_type = tree a.table pair.right.ty in
      let right = constant_at (constants_of a) pair.right.value in
      let inside = type_phrase left_type ␣ constant_phrase left_type left ⌢ comma ␣ type_phrase right_type ␣ constant_phrase right_type right in
      prints_then (opcode code Space) (flags_phrase flags Space ++ in_parentheses inside behind) h1
      (prints_then (flags_phrase flags Space) (in_parentheses inside behind) h2
      (parentheses_put inside behind h3
      (prints_same (append_assoc (type_phrase left_type Space) (constant_phrase left_type left Nothing) (comma Space ++ phrase a pair.right Nothing))
      (prints_then (phrase a pair.left Nothing) (comma Space ++ phrase a pair.right Nothing) h4
      (prints_then (comma Space) (phrase a pair.right Nothing) h5 h6)))
      h7))

-- ---- ids

-- parts of an earlier number are parts of the arena
pub all_parts : (a : Lists) (id : ℕ) (parts : List TypedConst) → id < length a.constants → All (λ t. (t.ty < length a.table.types) × (t.value < id)) parts → All (IsPart a) parts
all_parts a id parts lt h = λ k d l. let here = h k d l in let less = here.1 in record { ty = here.0; value = omega (arith, less, lt) }

-- one of them is
pub one_part : (a : Lists) (id : ℕ) (part : TypedConst) → id < length a.constants → (part.ty < length a.table.types) × (part.value < id) → IsPart a part
one_part a id part lt h = let less = h.1 in record { ty = h.0; value = omega (arith, less, lt) }

-- ---- names

named_at : {X : Type 0} (name : X → List ℕ) (xs : List X) (id : ℕ) (n : List ℕ) → option_map name (slice_get xs id) ≡ Some n → slice_index_or (map name xs) id [] ≡ n
named_at name xs id n e = get_or_from_slice_get (map name xs) id n [] (slice_get-map name xs id ∙ e)

-- an entry is named by its name
pub is_named : (a : Lists) (g : GlobalId) (n : List ℕ) → global_name a g ≡ Some n → name_at a g ≡ n
is_named a (global.Variable id) n e = named_at (λ (v : Variable). v.name) a.variables id n e
is_named a (global.Function id) n e = named_at (λ (f : Function). f.name) a.functions id n e
is_named a (global.Alias id) n e = named_at (λ (x : Alias). x.name) a.aliases id n e
