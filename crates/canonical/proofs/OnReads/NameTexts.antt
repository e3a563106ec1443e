-- Names and numbers that are well formed can be written.
use Rattle.std.specs.Prelude.{◌≡◌, refl, ℕ, ◌<◌, ◌==◌, nat_lt, Bool, true, not, ◌&&◌, ◌||◌, bytes_eq, List, [], ◌∷◌, ◌++◌, map, flat_map, length, Option, Some, None}
use Rattle.std.specs.List.{list_any, list_all}
use Rattle.std.proofs.Common.{sym, subst, ◌∙◌, inl, inr, arith}
use Rattle.std.proofs.lemmas.Bool.{and_parts, and_from, ltb-true, or_cases, or_left, or_right, not_from_false, ne_eqb}
use Rattle.std.proofs.lemmas.List.Folds.{list_any-append}
use Rattle.std.proofs.lemmas.Slice.Eq.{bytes_eq-Decides}
use Rattle.type_table.specs.Tree.{Structs}
use Rattle.module_arena.specs.Module.{Bytes, LocalName, Named, Numbered, Block, Parameter}
use Rattle.module_arena.specs.Same.{same_local, has_local}
use Rattle.module_arena.specs.Names.{are_bytes, is_name, is_local_name, block_results}
use Rattle.module_arena.specs.WellFormed.{is_good_text}
use Rattle.module_arena.proofs.SameNames.{same_is}
use Rattle.canonical.specs.Law.Written.{AreBytes, IsNameText, IsLocalText}
use Rattle.canonical.specs.Law.Texts.{IsText}
use Rattle.canonical.proofs.OnReads.Good.{first_of_all, others_of_all}
use Rattle.canonical.proofs.OnReads.FunctionsHold.{names_in}

pub bytes_of : (bs : Bytes) → are_bytes bs ≡ true → AreBytes bs
bytes_of [] e = tt
bytes_of (b ∷ bs) e = (ltb-true b 256 (first_of_all (λ b. nat_lt b 256) b bs e), bytes_of bs (others_of_all (λ b. nat_lt b 256) b bs e))

pub text_of : (t : Option Bytes) → is_good_text t ≡ true → IsText t
text_of None e = tt
text_of (Some t) e = bytes_of t e

abbrev is_letter : ℕ → Bool
is_letter c = nat_lt 0 c && nat_lt c 256

letters_bytes : (bs : Bytes) → list_all is_letter bs ≡ true → AreBytes bs
letters_bytes [] e = tt
letters_bytes (b ∷ bs) e = (ltb-true b 256 (and_parts (nat_lt 0 b) (nat_lt b 256) (first_of_all is_letter b bs e)).1, letters_bytes bs (others_of_all is_letter b bs e))

not_zero : (n : ℕ) → 0 < n → not (n == 0) ≡ true
not_zero n h = not_from_false (n == 0) (ne_eqb n 0 (λ q. omega (arith, h, q)))

no_zeros : (bs : Bytes) → list_all is_letter bs ≡ true → list_all (λ byte. not (byte == 0)) bs ≡ true
no_zeros [] e = refl
no_zeros (b ∷ bs) e =
    and_from (not (b == 0)) (list_all (λ byte. not (byte == 0)) bs) (not_zero b (ltb-true 0 b (and_parts (nat_lt 0 b) (nat_lt b 256) (first_of_all is_letter b bs e)).0)) (no_zeros bs (others_of_all is_letter b bs e))

pub name_text : (name : Bytes) → is_name name ≡ true → IsNameText name
name_text [] e = absurd cc
name_text (b ∷ bs) e = record {
  bytes = letters_bytes (b ∷ bs) e;
  is = and_from (not (length (b ∷ bs) == 0)) (list_all (λ byte. not (byte == 0)) (b ∷ bs)) (not_zero (length (b ∷ bs)) (omega arith)) (no_zeros (b ∷ bs) e);
}

-- a name among good ones is good
pub name_among : (names : List Bytes) (name : Bytes) → list_all is_name names ≡ true → list_any (bytes_eq name) names ≡ true → IsNameText name
name_among [] name e h = absurd cc
name_among (n ∷ names) name e h =
    elim (or_cases (bytes_eq name n) (list_any (bytes_eq name) names) h) [
      | inl q ↦ subst IsNameText (sym ((bytes_eq-Decides name n).0 q)) (name_text n (first_of_all is_name n names e))
      | inr q ↦ name_among names name (others_of_all is_name n names e) q
    ]

pub struct_among : (structs : Structs) (name : Bytes) → list_all is_name (map (λ s. s.0) structs) ≡ true → list_any (λ s. bytes_eq s.0 name) structs ≡ true → IsNameText name
struct_among [] name e h = absurd cc
struct_among (s ∷ structs) name e h =
    elim (or_cases (bytes_eq s.0 name) (list_any (λ s. bytes_eq s.0 name) structs) h) [
      | inl q ↦ subst IsNameText ((bytes_eq-Decides s.0 name).0 q) (name_text s.0 (first_of_all is_name s.0 (map (λ s. s.0) structs) e))
      | inr q ↦ struct_among structs name (others_of_all is_name s.0 (map (λ s. s.0) structs) e) q
    ]

-- ---- locals

abbrev pub AreLocalTexts : List LocalName → Type 0
AreLocalTexts [] = Unit {0}
AreLocalTexts (n ∷ ns) = IsLocalText n × AreLocalTexts ns

pub local_texts : (ns : List LocalName) → list_all is_local_name ns ≡ true → AreLocalTexts ns
local_texts [] e = tt
local_texts (Named x ∷ ns) e = (name_text x (first_of_all is_local_name (Named x) ns e), local_texts ns (others_of_all is_local_name (Named x) ns e))
local_texts (Numbered n ∷ ns) e = (tt, local_texts ns (others_of_all is_local_name (Numbered n) ns e))

pub local_among : (ns : List LocalName) (n : LocalName) → AreLocalTexts ns → has_local ns n ≡ true → IsLocalText n
local_among [] n t h = absurd cc
local_among (k ∷ ns) n t h =
    elim (or_cases (same_local k n) (has_local ns n) h) [
      | inl q ↦ subst IsLocalText (same_is k n q) t.0
      | inr q ↦ local_among ns n t.1 q
    ]

has_front : (xs ys : List LocalName) (n : LocalName) → has_local xs n ≡ true → has_local (xs ++ ys) n ≡ true
has_front xs ys n h = list_any-append (λ k. same_local k n) xs ys ∙ or_left (has_local xs n) (has_local ys n) h

has_rest : (xs ys : List LocalName) (n : LocalName) → has_local ys n ≡ true → has_local (xs ++ ys) n ≡ true
has_rest xs ys n h = list_any-append (λ k. same_local k n) xs ys ∙ or_right (has_local xs n) (has_local ys n) h

has_either : (xs ys : List LocalName) (n : LocalName) → has_local (xs ++ ys) n ≡ true → (has_local xs n || has_local ys n) ≡ true
has_either xs ys n h = sym (list_any-append (λ k. same_local k n) xs ys) ∙ h

abbrev in_blocks : List Block → List LocalName
in_blocks bs = flat_map (λ (b : Block). b.name ∷ block_results b) bs

result_in : (bs : List Block) (n : LocalName) → has_local (flat_map block_results bs) n ≡ true → has_local (in_blocks bs) n ≡ true
result_in [] n h = h
result_in (b ∷ bs) n h =
    elim (or_cases (has_local (block_results b) n) (has_local (flat_map block_results bs) n) (has_either (block_results b) (flat_map block_results bs) n h)) [
      | inl q ↦ or_right (same_local b.name n) (has_local (block_results b ++ in_blocks bs) n) (has_front (block_results b) (in_blocks bs) n q)
      | inr q ↦ or_right (same_local b.name n) (has_local (block_results b ++ in_blocks bs) n) (has_rest (block_results b) (in_blocks bs) n (result_in bs n q))
    ]

block_in : (bs : List Block) (n : LocalName) → has_local (map (λ b. b.name) bs) n ≡ true → has_local (in_blocks bs) n ≡ true
block_in [] n h = h
block_in (b ∷ bs) n h =
    elim (or_cases (same_local b.name n) (has_local (map (λ b. b.name) bs) n) h) [
      | inl q ↦ or_left (same_local b.name n) (has_local (block_results b ++ in_blocks bs) n) q
      | inr q ↦ or_right (same_local b.name n) (has_local (block_results b ++ in_blocks bs) n) (has_rest (block_results b) (in_blocks bs) n (block_in bs n q))
    ]

-- a value, and a block, among the names of a function
pub value_text : (ps : List Parameter) (bs : List Block) → AreLocalTexts (names_in ps bs) → (n : LocalName) → has_local (map (λ p. p.name) ps ++ flat_map block_results bs) n ≡ true → IsLocalText n
value_text ps bs t n h =
    let front = map (λ (p : Parameter). p.name) ps in
    local_among (names_in ps bs) n t (elim (or_cases (has_local front n) (has_local (flat_map block_results bs) n) (has_either front (flat_map block_results bs) n h)) [
      | inl q ↦ has_front front (in_blocks bs) n q
      | inr q ↦ has_rest front (in_blocks bs) n (result_in bs n q)
    ])

pub block_text : (ps : List Parameter) (bs : List Block) → AreLocalTexts (names_in ps bs) → (n : LocalName) → has_local (map (λ b. b.name) bs) n ≡ true → IsLocalText n
block_text ps bs t n h = local_among (names_in ps bs) n t (has_rest (map (λ p. p.name) ps) (in_blocks bs) n (block_in bs n h))
