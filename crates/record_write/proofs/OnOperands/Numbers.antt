-- Offsets of texts, indices and widths of types, and codes of alignments.
use Rattle.std.proofs.Common.{◌≡◌, ℕ, ◌+◌, ◌<◌, ◌/◌, ◌%◌, ◌^◌, Bool, true, false, ◌||◌, List, [], ◌∷◌, ◌++◌, Option, Some, None, length, slice_get, cond, refl, sym, ap, ◌∙◌, subst, arith, inl, inr}
use Rattle.std.specs.Prelude.{nat_eq, bytes_eq, unwrap_or}
use Rattle.std.specs.List.{list_any, AllByRecursion}
use Rattle.std.specs.Int.{w32, trailing_zeros}
use Rattle.std.proofs.lemmas.Bool.{false≢true, cases_eq, or_cases, eqb-true, ltb-true, ltb-false, le-leb, lt-leb}
use Rattle.std.proofs.Math.Nat.{mod-eq_of_lt}
use Rattle.std.proofs.lemmas.Nat.{pow_pos, pow_below}
use Rattle.std.proofs.lemmas.Nat.Bits.{bit_at-trailing_zeros, bit_at-pow_other}
use Rattle.std.proofs.lemmas.List.{length-append}
use Rattle.std.proofs.lemmas.Option.{get_or_from_slice_get, slice_get_within}
use Rattle.type_table.specs.declared.ir_type.IrType.{IrType}
use Rattle.type_table.specs.declared.ir_type.IrType.TheVariants.{Void}
use Rattle.type_table.specs.Tree.{Tree, int, ptr, void, array, struct, named}
use Rattle.type_table.specs.Types.{Types, tree, tree_of, trees, names, IsGood}
use Rattle.type_table.proofs.Outlined.{tree-is}
use Rattle.type_table.specs.Names.Entries.{value_of}
use Rattle.module_arena.specs.EntryRules.{alignments}
use Rattle.module_arena.specs.Lists.{Lists}
use Rattle.module_arena.specs.Same.{same_type}
use Rattle.module_arena.specs.View.{module_of}
use Rattle.record_table.specs.Constants.{integer_spell}
use Rattle.record_table.specs.Fields.{alignment, coded_alignments, same_option}
use Rattle.record_table.specs.Layout.{place}
use Rattle.record_table.specs.Mentions.{mentioned}
use Rattle.record_table.specs.Standing.{is_wide, HasRoom, HasCode}
use Rattle.record_table.specs.StringTable.{has_text, joined, offset_among, offset_in}
use Rattle.record_write.specs.Order.Order.{Order, listed_trees, has_tree, place_in, place_of}
use Rattle.record_write.specs.Order.Table.{PlacedTexts, Holds}
use Rattle.record_write.specs.Operands.Numbered.{IsNumbering}
use Rattle.record_write.proofs.OnOperands.Places.{type_place_none}

-- ---- texts

-- a text that is not among them stands behind all
absent : (texts : List (List ℕ)) (text : List ℕ) → has_text texts text ≡ false → offset_among texts text ≡ length (joined texts)
absent [] text none = refl
absent (t ∷ ts) text none = by (bytes_eq t text) refl none (absent ts text)
  where
    by : (b : Bool) → bytes_eq t text ≡ b → (b || has_text ts text) ≡ false → (has_text ts text ≡ false → offset_among ts text ≡ length (joined ts)) → cond (bytes_eq t text) 0 (length t + offset_among ts text) ≡ length (t ++ joined ts)
    by true e h again = absurd (false≢true (sym h))
    by false e h again = ap (λ (b : Bool). cond b 0 (length t + offset_among ts text)) e ∙ ap (λ n. length t + n) (again h) ∙ sym (length-append t (joined ts))

-- where a text stands by its table
pub offset_is : (t : PlacedTexts) (texts : List (List ℕ)) (text : List ℕ) → Holds t texts → cond (bytes_eq text []) 0 (unwrap_or (value_of t.offsets text) (length t.bytes)) ≡ offset_in texts text
offset_is t texts [] holds = refl
offset_is t texts (b ∷ bs) holds = by (value_of t.offsets (b ∷ bs)) refl (has_text texts (b ∷ bs)) refl
  where
    by : (v : Option ℕ) → value_of t.offsets (b ∷ bs) ≡ v → (has : Bool) → has_text texts (b ∷ bs) ≡ has → unwrap_or (value_of t.offsets (b ∷ bs)) (length t.bytes) ≡ offset_among texts (b ∷ bs)
    by v e true has = ap (λ (o : Option ℕ). unwrap_or o (length t.bytes)) (holds.placed (b ∷ bs) has)
    by (Some n) e false has = absurd (false≢true (sym has ∙ holds.others (b ∷ bs) n e))
    by None e false has = ap (λ (o : Option ℕ). unwrap_or o (length t.bytes)) e ∙ ap length holds.bytes ∙ sym (absent texts (b ∷ bs) has)

-- ---- types

-- the place of a type among those that are listed
listed_place : (all : List Tree) (x : Tree) → place same_type all x ≡ unwrap_or (place_in all x) (length all)
listed_place all x = by (has_tree all x) refl
  where
    by : (b : Bool) → has_tree all x ≡ b → place same_type all x ≡ unwrap_or (cond (has_tree all x) (Some (place same_type all x)) None) (length all)
    by true e = ap (λ (b : Bool). unwrap_or (cond b (Some (place same_type all x)) None) (length all)) (sym e)
    by false e = type_place_none all x e ∙ ap (λ (b : Bool). unwrap_or (cond b (Some (place same_type all x)) None) (length all)) (sym e)

pub type_place : (a : Lists) (o : Order) (t : PlacedTexts) (id : ℕ) → IsNumbering a o t → place same_type (mentioned (module_of a)) (tree a.table id) ≡ unwrap_or (place_of o id) (length (listed_trees o))
type_place a o t id is =
    ap (λ (all : List Tree). place same_type all (tree a.table id)) (sym is.listed)
    ∙ ap (λ (x : Types). place same_type (listed_trees o) (tree x id)) (sym is.types)
    ∙ listed_place (listed_trees o) (tree o.types id)

-- whether a type is wide, by what the table has of it
pub wide_at : (t : Types) → IsGood t → (ty : ℕ) (x : IrType) → slice_get t.types ty ≡ Some x → is_wide (tree t ty) ≡ is_wide (tree_of (names t) (trees t) x)
wide_at t good ty x at = ap is_wide (tree-is t good ty (slice_get_within t.types ty x at) ∙ ap (tree_of (names t) (trees t)) (get_or_from_slice_get t.types ty x Void at))

-- ---- numbers

-- a number that is short takes one operand
one_operand : (t : Tree) (n : ℕ) → is_wide t ≡ false → integer_spell t n ≡ n ∷ []
one_operand (int width) n short = ap (λ (b : Bool). cond b (n ∷ []) (n % 2 ^ 64 ∷ n / 2 ^ 64 ∷ [])) (le-leb width 64 (ltb-false 64 width short))
one_operand ptr n short = refl
one_operand void n short = refl
one_operand (array m t) n short = refl
one_operand (struct packed ts) n short = refl
one_operand (named name) n short = refl

pub short_integer : (t : Tree) (n : ℕ) → is_wide t ≡ false → HasRoom (is_wide t) n → n % 2 ^ 64 ∷ [] ≡ integer_spell t n
short_integer t n short room =
    let less : n < 2 ^ 64 = subst (λ (b : Bool). HasRoom b n) short room in
    ap (λ m. m ∷ []) (mod-eq_of_lt less) ∙ sym (one_operand t n short)

-- a wide one takes two
pub wide_integer : (t : Tree) (n : ℕ) → is_wide t ≡ true → n % 2 ^ 64 ∷ n / 2 ^ 64 ∷ [] ≡ integer_spell t n
wide_integer (int width) n wide = ap (λ (b : Bool). cond b (n ∷ []) (n % 2 ^ 64 ∷ n / 2 ^ 64 ∷ [])) (sym (lt-leb width 64 (ltb-true 64 width wide)))
wide_integer ptr n wide = absurd (false≢true wide)
wide_integer void n wide = absurd (false≢true wide)
wide_integer (array m t) n wide = absurd (false≢true wide)
wide_integer (struct packed ts) n wide = absurd (false≢true wide)
wide_integer (named name) n wide = absurd (false≢true wide)

-- ---- alignments

-- what holds of each of these holds of one of them
holds_of_one : (P : ℕ → Type 0) (n : ℕ) (xs : List ℕ) → AllByRecursion P xs → list_any (nat_eq n) xs ≡ true → P n
holds_of_one P n [] all h = absurd (false≢true h)
holds_of_one P n (x ∷ xs) all h = elim (or_cases (nat_eq n x) (list_any (nat_eq n) xs) h) [
  | inl e ↦ subst P (sym (eqb-true n x e)) all.0
  | inr e ↦ holds_of_one P n xs all.1 e
]

-- the zeros below the one of a power of two
zeros_of_power : (k : ℕ) → k < 32 → trailing_zeros w32 (2 ^ k) ≡ k
zeros_of_power k lt =
    let found = bit_at-trailing_zeros w32 (2 ^ k) (pow_pos k) (pow_below k 32 lt) in
    elim (cases_eq (trailing_zeros w32 (2 ^ k)) k) [
      | inl same ↦ same
      | inr other ↦ let none = bit_at-pow_other k (trailing_zeros w32 (2 ^ k)) other in let one = found.1 in absurd (omega (arith, none, one))
    ]

-- the code of an alignment is one more than its logarithm
abbrev HasItsCode : ℕ → Type 0
HasItsCode n = place same_option coded_alignments (Some n) ≡ trailing_zeros w32 n + 1

code_is : (k : ℕ) → k < 32 → k + 1 ≡ trailing_zeros w32 (2 ^ k) + 1
code_is k lt = sym (ap (λ m. m + 1) (zeros_of_power k lt))

all_codes : AllByRecursion HasItsCode alignments
unfolding place
all_codes = (code_is 0 (omega arith), (code_is 1 (omega arith), (code_is 2 (omega arith), (code_is 3 (omega arith), (code_is 4 (omega arith), (code_is 5 (omega arith), (code_is 6 (omega arith), (code_is 7 (omega arith), (code_is 8 (omega arith), (code_is 9 (omega arith), (code_is 10 (omega arith), (code_is 11 (omega arith), (code_is 12 (omega arith), (code_is 13 (omega arith), (code_is 14 (omega arith), (code_is 15 (omega arith), (code_is 16 (omega arith), tt)))))))))))))))))

pub code_of_none : alignment.spell None ≡ 0 ∷ []
unfolding place
code_of_none = refl

pub code_of_some : (n : ℕ) → HasCode (Some n) → alignment.spell (Some n) ≡ (trailing_zeros w32 n + 1) ∷ []
code_of_some n has = ap (λ m. m ∷ []) (holds_of_one HasItsCode n alignments all_codes has)
