-- A word has one row at most, which its number leads to.
use Rattle.std.proofs.Common.{◌≡◌, ℕ, zero, suc, ◌+◌, ◌-◌, ◌<◌, ◌≤◌, ◌==◌, ◌&&◌, ◌^◌, Bool, true, false, cond, List, [], ◌∷◌, length, take, drop, map, get_or, Option, Some, None, option_map, nat_lt, refl, sym, ap, ◌∙◌, arith, inl, inr, bytes_eq}
use Rattle.std.proofs.Math.ListN.{get_or-map, length-map}
use Rattle.std.proofs.lemmas.Bool.{ltb-true, and_parts}
use Rattle.std.proofs.lemmas.Bool.Decides.{nat_tests}
use Rattle.std.proofs.lemmas.List.{get_or_default}
use Rattle.std.proofs.lemmas.List.Folds.{list_all_at}
use Rattle.std.proofs.lemmas.Map.Views.{exact_unsigned_eq}
use Rattle.std.proofs.lemmas.Slice.Eq.{bytes_eq-Decides}
use Rattle.std.specs.List.{list_all}
use Rattle.ir_base.proofs.Pieces.{rest_whole}
use Rattle.ir_lexer.proofs.Runs.{bool_cases}
use Rattle.ir_terminals.specs.Digits.{below}
use Rattle.ir_terminals.specs.WordRows.{meaning_of, meanings_of, slot}
use Rattle.ir_terminals.specs.Words.{Meaning, meaning_in, of_width, width_in, width_or, is_width, word_terminal, words_by_role}
use Rattle.ir_terminals.specs.declared.words.TheConstants.{ROWS}
use Rattle.ir_terminals.specs.declared.words.Word.{Word}
use Rattle.ir_terminals.specs.declared.terminal.Terminal.{Terminal}
use Rattle.ir_terminals.specs.declared.terminal.Terminal.TheVariants as terminals
use Rattle.ir_terminals.proofs.Decimals.{side}

-- the index of the row with the word's number
unfoldable pub row_number : List ℕ → ℕ
row_number word = get_or ROWS (slot word) 0

-- the word of each row leads to the row, from this index on
abbrev leads : (List ℕ → ℕ) → ℕ → List Meaning → Bool
leads number n [] = true
leads number n (row ∷ rows) = (number row.word == n) && leads number (n + 1) rows

-- what the row is, if it has the word
abbrev of_row : Meaning → List ℕ → Terminal
of_row row word = cond (bytes_eq row.word word) row.terminal terminals.Other

module _ (number : List ℕ → ℕ) where
  its_number : (n : ℕ) (row : Meaning) (rows : List Meaning) (word : List ℕ) → leads number n (row ∷ rows) ≡ true → bytes_eq row.word word ≡ true → number word ≡ n
  its_number n row rows word h e =
      let same : row.word ≡ word = (bytes_eq-Decides row.word word).0 e in
      let is : number row.word ≡ n = exact_unsigned_eq (number row.word) n (and_parts _ _ h).0 in
      rw (← same) is

  none_has : (n : ℕ) (rows : List Meaning) (word : List ℕ) → leads number n rows ≡ true → number word < n → meaning_in rows word ≡ terminals.Other
  none_has n [] word h less = refl
  none_has n (row ∷ rows) word h less = elim (bool_cases (bytes_eq row.word word)) [
    | inl e ↦ absurd (let is = its_number n row rows word h e in omega (arith, is))
    | inr e ↦ rw e (none_has (n + 1) rows word (and_parts _ _ h).1 (omega arith))
  ]

  one_has : (n : ℕ) (rows : List Meaning) (word : List ℕ) (i : ℕ) (d : Meaning) → leads number n rows ≡ true → number word ≡ n + i → i < length rows → meaning_in rows word ≡ of_row (get_or rows i d) word
  one_has n [] word i d h is less = absurd (omega arith)
  one_has n (row ∷ rows) word zero d h is less =
      ap (λ (x : Terminal). cond (bytes_eq row.word word) row.terminal x) (none_has (n + 1) rows word (and_parts _ _ h).1 (omega (arith, is)))
  one_has n (row ∷ rows) word (suc i) d h is less = elim (bool_cases (bytes_eq row.word word)) [
    | inl e ↦ absurd (let k = its_number n row rows word h e in omega (arith, k, is))
    | inr e ↦ rw e (one_has (n + 1) rows word i d (and_parts _ _ h).1 (omega (arith, is)) (omega arith))
  ]

all_lead : leads row_number 0 words_by_role ≡ true
unfolding words_by_role row_number slot
all_lead = refl

all_rows : list_all (λ i. nat_lt i 157) ROWS ≡ true
all_rows = refl

row_small : (i d : ℕ) → i < length ROWS → get_or ROWS i d < 157
row_small i d h = elim (bool_cases (nat_lt (get_or ROWS i d) 157)) [
  | inl e ↦ ltb-true (get_or ROWS i d) 157 e
  | inr e ↦ absurd (let k = list_all_at (λ n. nat_lt n 157) ROWS i d h e in let j = all_rows in cc)
]

pub slot_small : (word : List ℕ) → slot word < 256
unfolding slot
slot_small word = omega arith

pub row_in : (word : List ℕ) (d : ℕ) → get_or ROWS (slot word) d < 157
row_in word d = row_small (slot word) d (slot_small word)

number_small : (word : List ℕ) → row_number word < 157
unfolding row_number
number_small word = row_in word 0

how_many : length words_by_role ≡ 157
unfolding words_by_role
how_many = refl

pub rows_long : (rows : List Word) → meanings_of rows ≡ words_by_role → length rows ≡ 157
rows_long rows e = let n : length (map meaning_of rows) ≡ length rows = length-map rows meaning_of in omega (arith, n, ap length e, how_many)

row_is : (rows : List Word) (i : ℕ) (d : Word) → meanings_of rows ≡ words_by_role → get_or words_by_role i (meaning_of d) ≡ meaning_of (get_or rows i d)
row_is rows i d e = ap (λ (all : List Meaning). get_or all i (meaning_of d)) (sym e) ∙ get_or-map meaning_of rows i d

by_number : (rows : List Word) (word : List ℕ) (d : Word) → meanings_of rows ≡ words_by_role → meaning_in words_by_role word ≡ of_row (meaning_of (get_or rows (row_number word) d)) word
by_number rows word d e =
    let within : row_number word < length words_by_role = omega (arith, number_small word, how_many) in
    one_has row_number 0 words_by_role word (row_number word) (meaning_of d) all_lead (omega arith) within ∙ ap (λ (row : Meaning). of_row row word) (row_is rows (row_number word) d e)

same_row : (word : List ℕ) (d : ℕ) → row_number word ≡ get_or ROWS (slot word) d
unfolding row_number
same_row word d = get_or_default ROWS (slot word) 0 d (slot_small word)

-- what a word is: what its row says, if the row has the word
pub row_tells : (rows : List Word) (word spelling : List ℕ) (n : ℕ) (d : Word) (t : Bool) → meanings_of rows ≡ words_by_role → n ≡ get_or ROWS (slot word) 0 → spelling ≡ (get_or rows n d).spelling.now → t ≡ bytes_eq spelling word → meaning_in words_by_role word ≡ cond t (get_or rows n d).terminal terminals.Other
row_tells rows word spelling n d t e is spelled test =
    let here : row_number word ≡ n = same_row word 0 ∙ sym is in
    rw (test, spelled, ← here) (by_number rows word d e)

too_wide : (n : ℕ) → 2 ^ 64 ≤ n → is_width n ≡ false
too_wide n h = grind (arith, nat_tests)

-- a width of more than 64 bits is none
pub width_fits : (n : ℕ) → width_or (below (2 ^ 64) n) terminals.Other ≡ of_width n
width_fits n = elim (side (2 ^ 64) n) [
  | inl (small, e) ↦ rw e refl
  | inr (large, e) ↦ rw (e, too_wide n large) refl
]

pub by_width : (o : Option ℕ) (x listed : Terminal) → Some x ≡ option_map of_width o → x ≡ width_or o listed
by_width (Some n) x listed e = cc
by_width None x listed e = absurd cc

pub by_list : (o : Option ℕ) (listed : Terminal) → None ≡ option_map of_width o → width_or o listed ≡ listed
by_list (Some n) listed e = absurd cc
by_list None listed e = refl

pub empty_word : word_terminal [] ≡ terminals.Other
unfolding word_terminal words_by_role
empty_word = refl

pub no_bytes : (s : List ℕ) → length s ≡ 0 → s ≡ []
no_bytes [] h = refl
no_bytes (b ∷ s) h = absurd (omega (arith, h))

-- an `i` and the bytes behind it
pub wide_word : (word : List ℕ) (o : Option Terminal) → 1 ≤ length word → get_or word 0 0 ≡ 105 → o ≡ option_map of_width (width_in (105 ∷ take (length word - 1) (drop 1 word))) → o ≡ option_map of_width (width_in word)
wide_word [] o some is e = absurd (omega (arith, some))
wide_word (b ∷ s) o some is e = let k : o ≡ option_map of_width (width_in (105 ∷ s)) = rw rest_whole at e in rw is k

-- what begins otherwise has no width
pub no_width : (word : List ℕ) → 1 ≤ length word → (get_or word 0 0 == 105) ≡ false → None ≡ option_map of_width (width_in word)
no_width [] some e = absurd (omega (arith, some))
no_width (b ∷ s) some e = rw e refl
