-- Types are printed.
use Rattle.std.proofs.Common.{◌≡◌, ℕ, zero, suc, ◌^◌, ◌<◌, List, [], ◌∷◌, map, Bool, true, false, codes, refl, ap}
use Rattle.ir_base.specs.declared.place.Place.{Place}
use Rattle.ir_lexer.specs.Ahead.{Located}
use Rattle.ir_lexer.specs.Class.{byte_class}
use Rattle.ir_terminals.specs.PhraseRows.Row.{Row, pair, keep_first, keep_second, alt}
use Rattle.ir_terminals.specs.Role.{class}
use Rattle.ir_terminals.specs.Tokens.{word}
use Rattle.ir_terminals.specs.declared.terminal.Terminal.TheVariants as terminals
use Rattle.ir_terminals.specs.declared.limits.Limits.{Limits}
use Rattle.ir_phrases.specs.Constants.Tree.{TypeTree, TypeTrees, more_types, IntegerType, PointerType, VoidType, NamedType, ArrayType, StructType, types}
use Rattle.ir_phrases.specs.Constants.Types.{int_row, ptr_row, void_row, named_row, array_row, struct_row, packed_row, types_core, types_row, nest_step, nest_shape, list_shape, type_shape, value_type_shape, type_core, value_type_core, value_type_over, nest_core, nest_row, type_at}
use Rattle.type_table.specs.Tree.{Tree, int, ptr, void, array, struct, named, Trees, no_trees, more_trees}
use Rattle.canonical.specs.Phrase as phrase
use Rattle.canonical.specs.Phrase.{Phrase, mark, ◌␣◌, ◌⌢◌, listed, enclosed}
use Rattle.canonical.specs.Names as names
use Rattle.canonical.specs.Types.{type_phrase, type_phrases, braced, in_braces}
use Rattle.canonical.specs.Items.Unplaced.{nowhere, unplaced_type, unplaced_types}
use Rattle.canonical.specs.Items.Parts.{natural, type_tree, type_trees, type_list}
use Rattle.canonical.proofs.OnLaw.Printed.{IsPrinted, Joins, Starts, no_place}
use Rattle.canonical.specs.Law.Texts.{is_value_type}
use Rattle.canonical.specs.Law.Written.{Inside, IsTypeText, AreTypeTexts}
use Rattle.canonical.proofs.OnLaw.Joined.{spaced, tight, opened, left_none}
use Rattle.canonical.proofs.OnLaw.Rows.{printed_as, printed_labelled, printed_mapped, printed_pair, printed_second, printed_before, printed_left, printed_right}
use Rattle.canonical.proofs.OnLaw.Words.{mark_token, printed_x, printed_ptr, printed_void, printed_open_bracket, printed_close_bracket, printed_open_brace, printed_close_brace, printed_less, printed_greater}
use Rattle.canonical.proofs.OnLaw.Lists.{EachPrinted, printed_separated}
use Rattle.canonical.proofs.OnLaw.Tokens.{printed_natural, printed_width, printed_named_local}

-- behind an opening mark
pub opened_bracket : {q : Phrase} → Joins (mark (codes "[")) q (mark (codes "[") ⌢ q)
unfolding byte_class
opened_bracket = opened (codes "[") (mark_token 91 refl) refl

pub opened_brace : {q : Phrase} → Joins (mark (codes "{")) q (mark (codes "{") ⌢ q)
unfolding byte_class
opened_brace = opened (codes "{") (mark_token 123 refl) refl

pub opened_less : {q : Phrase} → Joins (mark (codes "<")) q (mark (codes "<") ⌢ q)
unfolding byte_class
opened_less = opened (codes "<") (mark_token 60 refl) refl

pub opened_parenthesis : {q : Phrase} → Joins (mark (codes "(")) q (mark (codes "(") ⌢ q)
unfolding byte_class
opened_parenthesis = opened (codes "(") (mark_token 40 refl) refl

pub starts_close_bracket : Starts (mark (codes "]"))
unfolding byte_class
starts_close_bracket = record { starts = λ b rest. refl }

pub starts_greater : Starts (mark (codes ">"))
unfolding byte_class
starts_greater = record { starts = λ b rest. refl }

-- the types among which one stands
among_types : {X : Type 0} (limits : Limits) (d : ℕ) {e : TypeTree → X} {x : X} {p : Phrase} → IsPrinted (value_type_over limits (nest_row limits d)) e x p → IsPrinted (type_at limits d) e x p
unfolding type_core
among_types limits d h = printed_labelled type_shape (printed_right void_row h)

void_type : {X : Type 0} (limits : Limits) (d : ℕ) {e : TypeTree → X} {x : X} {p : Phrase} → IsPrinted void_row e x p → IsPrinted (type_at limits d) e x p
unfolding type_core
void_type limits d h = printed_labelled type_shape (printed_left (value_type_over limits (nest_row limits d)) h)

module _ {X : Type 0} (limits : Limits) (d : ℕ) {e : TypeTree → X} {x : X} {p : Phrase} where
  int_type : IsPrinted int_row e x p → IsPrinted (value_type_over limits (nest_row limits d)) e x p
  unfolding value_type_core
  int_type h = printed_labelled value_type_shape (printed_left (alt class ptr_row (alt class (named_row limits) (nest_row limits d))) h)

  ptr_type : IsPrinted ptr_row e x p → IsPrinted (value_type_over limits (nest_row limits d)) e x p
  unfolding value_type_core
  ptr_type h = printed_labelled value_type_shape (printed_right int_row (printed_left (alt class (named_row limits) (nest_row limits d)) h))

  named_type : IsPrinted (named_row limits) e x p → IsPrinted (value_type_over limits (nest_row limits d)) e x p
  unfolding value_type_core
  named_type h = printed_labelled value_type_shape (printed_right int_row (printed_right ptr_row (printed_left (nest_row limits d) h)))

  nest_type : IsPrinted (nest_row limits d) e x p → IsPrinted (value_type_over limits (nest_row limits d)) e x p
  unfolding value_type_core
  nest_type h = printed_labelled value_type_shape (printed_right int_row (printed_right ptr_row (printed_right (named_row limits) h)))

  inside_nest : IsPrinted (nest_step (type_at limits d)) e x p → IsPrinted (nest_row limits (suc d)) e x p
  unfolding nest_core
  inside_nest h = printed_labelled nest_shape h

-- braces, with one space inside where there is something in them
pub printed_braced : {A X : Type 0} (q : Row Located (List A)) (e : List A → X) (x : X) (ps : List Phrase) (closing : Row Located Place) (end_phrase : Phrase) → IsPrinted q e x (listed ps) → IsPrinted closing no_place nowhere end_phrase → IsPrinted {X = Place × X} (pair (word terminals.OpenBrace) (keep_first q closing)) (λ v. (no_place v.0, e v.1)) (nowhere, x) (braced ps end_phrase)
printed_braced q e x [] closing end_phrase h k = printed_pair opened_brace printed_open_brace (printed_before left_none h k)
printed_braced q e x (p ∷ ps) closing end_phrase h k = printed_pair spaced printed_open_brace (printed_before spaced h k)

pub printed_braced_second : {A X : Type 0} (q : Row Located (List A)) (e : List A → X) (x : X) (ps : List Phrase) (closing : Row Located Place) (end_phrase : Phrase) → IsPrinted q e x (listed ps) → IsPrinted closing no_place nowhere end_phrase → IsPrinted (keep_second (word terminals.OpenBrace) (keep_first q closing)) e x (braced ps end_phrase)
printed_braced_second q e x [] closing end_phrase h k = printed_second opened_brace printed_open_brace (printed_before left_none h k)
printed_braced_second q e x (p ∷ ps) closing end_phrase h k = printed_second spaced printed_open_brace (printed_before spaced h k)

pub packed_end : IsPrinted (keep_second (word terminals.CloseBrace) (word terminals.Greater)) no_place nowhere (mark (codes "}") ⌢ mark (codes ">"))
packed_end = printed_second (tight starts_greater) printed_close_brace printed_greater

unplaced_list : (ts : List TypeTree) → unplaced_types (types ts) ≡ types (map unplaced_type ts)
unplaced_list [] = refl
unplaced_list (t ∷ ts) = ap (λ (us : TypeTrees). more_types (unplaced_type t) us) (unplaced_list ts)

types_of_list : (ts : Trees) → types (type_list ts) ≡ type_trees ts
types_of_list no_trees = refl
types_of_list (more_trees t ts) = ap (λ (us : TypeTrees). more_types (type_tree t) us) (types_of_list ts)

module _ (t : Row Located TypeTree) where
  printed_array : (count : ℕ) (x : TypeTree) (p : Phrase) → count < 10 ^ 64 → IsPrinted t unplaced_type x p → IsPrinted (array_row t) unplaced_type (ArrayType nowhere (natural count) x) (enclosed (codes "[") (names.natural count ␣ phrase.word (codes "x") ␣ p) (codes "]"))
  printed_array count x p small h =
      printed_mapped (λ v. ArrayType v.0 v.1.0 v.1.1) unplaced_type (λ v. ArrayType v.0 v.1.0 v.1.1) (λ v. refl)
      (printed_pair opened_bracket printed_open_bracket (printed_pair spaced (printed_natural count small) (printed_second spaced printed_x (printed_before (tight starts_close_bracket) h printed_close_bracket))))

  pub printed_types : (xs : List TypeTree) (ps : List Phrase) → EachPrinted t unplaced_type xs ps → IsPrinted (types_row t) (map unplaced_type) xs (listed ps)
  unfolding types_core
  printed_types xs ps h = printed_labelled list_shape (printed_separated t unplaced_type xs ps h)

  printed_struct : (xs : List TypeTree) (ps : List Phrase) → EachPrinted t unplaced_type xs ps → IsPrinted (struct_row t) unplaced_type (StructType nowhere false (types xs)) (in_braces false ps)
  printed_struct xs ps h =
      printed_mapped (λ v. StructType v.0 false (types v.1)) unplaced_type (λ v. StructType v.0 false (types v.1)) (λ v. ap (λ us. StructType nowhere false us) (unplaced_list v.1))
      (printed_braced (types_row t) (map unplaced_type) xs ps (word terminals.CloseBrace) (mark (codes "}")) (printed_types xs ps h) printed_close_brace)

  printed_packed : (xs : List TypeTree) (ps : List Phrase) → EachPrinted t unplaced_type xs ps → IsPrinted (packed_row t) unplaced_type (StructType nowhere true (types xs)) (in_braces true ps)
  printed_packed xs ps h =
      printed_mapped (λ v. StructType v.0 true (types v.1)) unplaced_type (λ v. StructType v.0 true (types v.1)) (λ v. ap (λ us. StructType nowhere true us) (unplaced_list v.1))
      (printed_pair opened_less printed_less (printed_braced_second (types_row t) (map unplaced_type) xs ps (keep_second (word terminals.CloseBrace) (word terminals.Greater)) (mark (codes "}") ⌢ mark (codes ">")) (printed_types xs ps h) packed_end))

-- what holds of a type in a bracket
pub inside_bracket : (P Q : ℕ → Type 0) (R : ℕ → Type 0) (depth : ℕ) → Inside depth P → ((d : ℕ) → P d → Q d) → ((d : ℕ) → Q d → R (suc d)) → R depth
inside_bracket P Q R zero h f g = absurd h
inside_bracket P Q R (suc depth) h f g = g depth (f depth h)

abbrev IsPrintedType : Limits → Tree → ℕ → Type 0
IsPrintedType limits t d = IsPrinted (type_at limits d) unplaced_type (type_tree t) (type_phrase t)

abbrev ArePrintedTypes : Limits → Trees → ℕ → Type 0
ArePrintedTypes limits ts d = EachPrinted (type_at limits d) unplaced_type (type_list ts) (type_phrases ts)

abbrev IsPrintedNest : Limits → Tree → ℕ → Type 0
IsPrintedNest limits t d = IsPrinted (nest_row limits d) unplaced_type (type_tree t) (type_phrase t)

array_nest : (limits : Limits) (count : ℕ) (t : Tree) (d : ℕ) → count < 10 ^ 64 → IsPrintedType limits t d → IsPrintedNest limits (array count t) (suc d)
array_nest limits count t d small h =
    inside_nest limits d (printed_left (alt class (struct_row (type_at limits d)) (packed_row (type_at limits d))) (printed_array (type_at limits d) count (type_tree t) (type_phrase t) small h))

struct_nest : (limits : Limits) (packed : Bool) (ts : Trees) (d : ℕ) → ArePrintedTypes limits ts d → IsPrintedNest limits (struct packed ts) (suc d)
struct_nest limits false ts d h =
    inside_nest limits d (printed_right (array_row (type_at limits d)) (printed_left (packed_row (type_at limits d))
    (printed_as (ap (λ us. StructType nowhere false us) (types_of_list ts)) (printed_struct (type_at limits d) (type_list ts) (type_phrases ts) h))))
struct_nest limits true ts d h =
    inside_nest limits d (printed_right (array_row (type_at limits d)) (printed_right (struct_row (type_at limits d))
    (printed_as (ap (λ us. StructType nowhere true us) (types_of_list ts)) (printed_packed (type_at limits d) (type_list ts) (type_phrases ts) h))))

mutual
  -- a type, within the depth of its brackets
  pub printed_type : (limits : Limits) (t : Tree) (d : ℕ) → IsTypeText t d → IsPrintedType limits t d
  printed_type limits (int width) d h = among_types limits d (int_type limits d (printed_mapped (λ v. IntegerType v.1 v.0) unplaced_type (λ v. IntegerType v.1 v.0) (λ v. refl) (printed_width width h.0 h.1)))
  printed_type limits ptr d h = among_types limits d (ptr_type limits d (printed_mapped PointerType unplaced_type PointerType (λ v. refl) printed_ptr))
  printed_type limits void d h = void_type limits d (printed_mapped VoidType unplaced_type VoidType (λ v. refl) printed_void)
  printed_type limits (named name) d h = among_types limits d (named_type limits d (printed_mapped NamedType unplaced_type NamedType (λ v. refl) (printed_named_local limits name h)))
  printed_type limits (array count t) d h =
      among_types limits d (nest_type limits d (inside_bracket (IsTypeText t) (IsPrintedType limits t) (IsPrintedNest limits (array count t)) d h.1 (λ k g. printed_type limits t k g) (λ k g. array_nest limits count t k h.0 g)))
  printed_type limits (struct packed ts) d h =
      among_types limits d (nest_type limits d (inside_bracket (AreTypeTexts ts) (ArePrintedTypes limits ts) (IsPrintedNest limits (struct packed ts)) d h (λ k g. printed_types_in limits ts k g) (λ k g. struct_nest limits packed ts k g)))

  pub printed_types_in : (limits : Limits) (ts : Trees) (d : ℕ) → AreTypeTexts ts d → ArePrintedTypes limits ts d
  printed_types_in limits no_trees d h = tt
  printed_types_in limits (more_trees t ts) d h = (printed_type limits t d h.0, printed_types_in limits ts d h.1)

-- a type but `void`
pub printed_value_type : (limits : Limits) (t : Tree) (d : ℕ) → is_value_type t ≡ true → IsTypeText t d → IsPrinted (value_type_over limits (nest_row limits d)) unplaced_type (type_tree t) (type_phrase t)
printed_value_type limits (int width) d v h = int_type limits d (printed_mapped (λ v. IntegerType v.1 v.0) unplaced_type (λ v. IntegerType v.1 v.0) (λ v. refl) (printed_width width h.0 h.1))
printed_value_type limits ptr d v h = ptr_type limits d (printed_mapped PointerType unplaced_type PointerType (λ v. refl) printed_ptr)
printed_value_type limits void d v h = absurd cc
printed_value_type limits (named name) d v h = named_type limits d (printed_mapped NamedType unplaced_type NamedType (λ v. refl) (printed_named_local limits name h))
printed_value_type limits (array count t) d v h =
    nest_type limits d (inside_bracket (IsTypeText t) (IsPrintedType limits t) (IsPrintedNest limits (array count t)) d h.1 (λ k g. printed_type limits t k g) (λ k g. array_nest limits count t k h.0 g))
printed_value_type limits (struct packed ts) d v h =
    nest_type limits d (inside_bracket (AreTypeTexts ts) (ArePrintedTypes limits ts) (IsPrintedNest limits (struct packed ts)) d h (λ k g. printed_types_in limits ts k g) (λ k g. struct_nest limits packed ts k g))
