-- The parts of a type, and that the phrase of a type is made of theirs.
use Rattle.std.proofs.Common.{◌≡◌, ℕ, zero, suc, ◌+◌, ◌-◌, ◌<◌, ◌≤◌, max, Bool, All, List, [], ◌∷◌, ◌++◌, codes, length, drop, get_or, slice_get, slice_index_or, Some, refl, sym, ap, ◌∙◌, subst, arith}
use Rattle.std.proofs.lemmas.List.{at_drop_more, at_drop_all, length-drop}
use Rattle.std.proofs.lemmas.Option.{get_or_from_slice_get, slice_get_within}
use Rattle.ir_printer.specs.Gathered.Told.{GatherState}
use Rattle.ir_lexer.specs.Pieces.{Separator, Nothing, Space}
use Rattle.type_table.specs.declared.ir_type.IrType.{IrType}
use Rattle.type_table.specs.declared.ir_type.IrType.TheVariants.{Void}
use Rattle.type_table.specs.Tree.{Tree, array, named}
use Rattle.type_table.specs.Types.{Types, IsGood, Knows, names, trees, tree_of, trees_at, tree}
use Rattle.type_table.proofs.Outlined.{tree-is, type_known}
use Rattle.canonical.specs.Phrase.{Phrase, word, mark, listed}
use Rattle.canonical.specs.Names.{natural, named_local}
use Rattle.canonical.specs.Types.{type_phrase, type_phrases, in_braces}
use Rattle.ir_printer.specs.Phrases.Printing.{Prints, separator_before, comma_before, opening, closing}
use Rattle.ir_printer.proofs.OnPhrases.Printing.{prints_then, prints_same, prints_part, prints_braces, prints_none}

-- above all of them
abbrev pub top : List ℕ → ℕ
top [] = 0
top (part ∷ parts) = max (part + 1) (top parts)

pub below_top : (parts : List ℕ) (place d : ℕ) → place < length parts → get_or parts place d < top parts
below_top [] place d h = absurd (omega arith)
below_top (part ∷ parts) zero d h = omega arith
below_top (part ∷ parts) (suc place) d h = let again = below_top parts place d (omega (arith, h)) in omega (arith, again)

pub top_within : (parts : List ℕ) (bound : ℕ) → All (λ part. part < bound) parts → top parts ≤ bound
top_within [] bound h = omega arith
top_within (part ∷ parts) bound h =
    let again = top_within parts bound (λ k d lt. h (suc k) d (omega (arith, lt))) in
    let here = h 0 0 (omega arith) in
    omega (arith, again, here)

pub all_within : (parts : List ℕ) (bound larger : ℕ) → bound ≤ larger → All (λ part. part < bound) parts → All (λ part. part < larger) parts
all_within parts bound larger le h = λ k d lt. let here = h k d lt in omega (arith, here, le)

pub part_within : (parts : List ℕ) (bound place d : ℕ) → All (λ part. part < bound) parts → place < length parts → get_or parts place d < bound
part_within parts bound place d h lt = h place d lt

-- the phrases of these types
abbrev pub phrases : Types → List ℕ → List Phrase
phrases t parts = type_phrases (trees_at (trees t) parts)

pub many_phrases : (t : Types) (parts : List ℕ) → length (phrases t parts) ≡ length parts
many_phrases t [] = refl
many_phrases t (part ∷ parts) = ap suc (many_phrases t parts)

module _ (t : Types) (good : IsGood t) (ty : ℕ) (x : IrType) (at : slice_get t.types ty ≡ Some x) where
  within : ty < length t.types
  within = slice_get_within t.types ty x at

  same : get_or t.types ty Void ≡ x
  same = get_or_from_slice_get t.types ty x Void at

  pub tree_here : tree t ty ≡ tree_of (names t) (trees t) x
  tree_here = tree-is t good ty within ∙ ap (tree_of (names t) (trees t)) same

  pub knows_here : Knows ty (length t.structs) x
  knows_here = subst (Knows ty (length t.structs)) same (type_known t good ty within)

  -- what is put of the type as it stands in the table is put of its tree
  pub prints_here : (behind : Separator) {a b : GatherState} → Prints a b (type_phrase (tree_of (names t) (trees t) x) behind) → Prints a b (type_phrase (tree t ty) behind)
  prints_here behind h = rw tree_here h

-- one part more is put
pub part_put : (t : Types) (parts : List ℕ) (place part : ℕ) (before behind : Separator) {a b c d : GatherState} → place < length parts → part ≡ get_or parts place part
    → before ≡ separator_before (length parts - 1 - place) behind
    → Prints a b (type_phrase (tree t part) before)
    → Prints b c (comma_before (length parts - 1 - place))
    → Prints c d (listed (phrases t (drop (place + 1) parts)) behind)
    → Prints a d (listed (phrases t (drop place parts)) behind)
part_put t parts place part before behind lt read is h j k =
    let rest = drop (place + 1) parts in
    let many : length parts - 1 - place ≡ length (phrases t rest) = omega (arith, lt, length-drop (place + 1) parts, many_phrases t rest) in
    prints_same (ap (λ (x : ℕ). listed (phrases t (x ∷ rest)) behind) read ∙ sym (at_drop_more (λ (ps : List ℕ). listed (phrases t ps) behind) parts place part lt))
    (prints_part (type_phrase (tree t part)) (phrases t rest) behind
    (prints_same (ap (type_phrase (tree t part)) (is ∙ ap (λ n. separator_before n behind) many)) h)
    (prints_same (ap comma_before many) j)
    k)

-- at the end no part is left
pub parts_put : (t : Types) (parts : List ℕ) (place : ℕ) (behind : Separator) (now : GatherState) → length parts ≤ place → Prints now now (listed (phrases t (drop place parts)) behind)
parts_put t parts place behind now le = prints_same (sym (at_drop_all (λ (ps : List ℕ). listed (phrases t ps) behind) parts place le)) (prints_none now)

-- the fields of a struct in its brackets
pub fields_put : (t : Types) (packed : Bool) (parts : List ℕ) (behind : Separator) {a b c d : GatherState} → Prints a b (opening packed (length parts)) → Prints b c (listed (phrases t parts) Space) → Prints c d (closing packed behind) → Prints a d (in_braces packed (phrases t parts) behind)
fields_put t packed parts behind h j k = prints_braces packed (phrases t parts) behind (prints_same (ap (opening packed) (sym (many_phrases t parts))) h) j k

-- an array in its brackets
pub array_put : (count : ℕ) (element : Tree) (behind : Separator) {a b c d e f : GatherState} → Prints a b (mark (codes "[") Nothing) → Prints b c (natural count Space) → Prints c d (word (codes "x") Space) → Prints d e (type_phrase element Nothing) → Prints e f (mark (codes "]") behind) → Prints a f (type_phrase (array count element) behind)
array_put count element behind h i j k l =
    let parts = natural count Space ++ (word (codes "x") Space ++ type_phrase element Nothing) in
    prints_then (mark (codes "[") Nothing) (parts ++ mark (codes "]") behind) h
    (prints_then parts (mark (codes "]") behind)
    (prints_then (natural count Space) (word (codes "x") Space ++ type_phrase element Nothing) i (prints_then (word (codes "x") Space) (type_phrase element Nothing) j k))
    l)

-- the name of a struct
pub named_put : (t : Types) (id : ℕ) (name : List ℕ) (behind : Separator) {a b : GatherState} → slice_get (names t) id ≡ Some name → Prints a b (named_local name behind) → Prints a b (type_phrase (named (slice_index_or (names t) id [])) behind)
named_put t id name behind at h = prints_same (ap (λ (n : List ℕ). named_local n behind) (sym (get_or_from_slice_get (names t) id name [] at))) h
