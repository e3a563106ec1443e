-- Texts judged one behind the other.
use Rattle.std.proofs.Common.{◌≡◌, ◌⊎◌, inl, inr, ℕ, zero, suc, ◌+◌, ◌≤◌, ◌<◌, List, [], ◌∷◌, ◌++◌, length, drop, get_or, Option, Some, None, sym, ap, arith, add-one, drop-cons, length-drop}
use Rattle.std.proofs.lemmas.List.{drop_all}
use Rattle.std.specs.Prelude.{slice_get}
use Rattle.tool_output.specs.declared.ends.ended.Ended.{Ended}
use Rattle.tool_output.specs.declared.ends.ended.Ended.TheVariants.{Memory}
use Rattle.tool_cli.specs.Judged.{AreShort, AreAccepted, IsPartAccepted, IsPartRefused, IsFirstRefusal}
use Rattle.tool_cli.specs.declared.inputs.TheConstants.{LARGEST}

-- one text more
pub short_more : (texts : List (List ℕ)) (text : List ℕ) → AreShort texts → length text ≤ LARGEST → AreShort (texts ++ (text ∷ []))
short_more [] text all few = (few, tt)
short_more (t ∷ texts) text all few = (all.0, short_more texts text all.1 few)

-- all are accepted, or the first that is refused is refused so
abbrev pub IsJudged : List (List ℕ) → List (List ℕ) → Option Ended → Type 0
IsJudged names texts None = AreAccepted texts
IsJudged names texts (Some ended) = IsFirstRefusal names texts ended

-- a text that is accepted, before others
pub judged_behind : (name text : List ℕ) (names texts : List (List ℕ)) (found : Option Ended) → IsPartAccepted text → IsJudged names texts found → IsJudged (name ∷ names) (text ∷ texts) found
judged_behind name text names texts None accepted rest = (accepted, rest)
judged_behind name text names texts (Some ended) accepted rest = inr (accepted, rest)

-- The turn at the part with this index.

pub next_part : (all : List (List ℕ)) (i : ℕ) (part : List ℕ) → i < length all → part ≡ get_or all i part → drop i all ≡ part ∷ drop (i + 1) all
next_part all i part h e = rw (add-one, drop-cons all i part) (ap (λ n. n ∷ drop (suc i) all) (sym e))

short_from : (i : ℕ) (texts : List (List ℕ)) → AreShort texts → AreShort (drop i texts)
short_from zero texts all = all
short_from (suc i) [] all = tt
short_from (suc i) (t ∷ texts) all = short_from i texts all.1

pub short_at : (texts : List (List ℕ)) (i : ℕ) (text : List ℕ) → AreShort texts → i < length texts → text ≡ get_or texts i text → length text ≤ LARGEST
short_at texts i text all h e = (let s : AreShort (text ∷ drop (i + 1) texts) = rw (next_part texts i text h e) at (short_from i texts all) in s.0)

-- the first of what is left from an index on is the one with that index
pub next_left : (i : ℕ) (all : List (List ℕ)) (one : List ℕ) (left : List (List ℕ)) → one ∷ left ≡ drop i all → (one ≡ get_or all i one) × (left ≡ drop (suc i) all)
next_left zero [] one left is = absurd cc
next_left zero (t ∷ all) one left is = (let head : one ≡ t = cc in let tail : left ≡ all = cc in (head, tail))
next_left (suc i) [] one left is = absurd cc
next_left (suc i) (t ∷ all) one left is = next_left i all one left is

-- and there is a first, as long as the index is one of these
pub some_left : (i : ℕ) (all left : List (List ℕ)) → i < length all → left ≡ drop i all → length left ≡ 0 → ⊥
some_left i all left h is none = omega (arith, h, ap length is, length-drop i all, none)

pub judged_on : (names texts : List (List ℕ)) (i : ℕ) (name text : List ℕ) (found : Option Ended) → i < length texts → length names ≡ length texts → name ≡ get_or names i name → text ≡ get_or texts i text → IsPartAccepted text → ((found : Option Ended) → IsJudged (drop i names) (drop i texts) found → IsJudged names texts found) → IsJudged (drop (i + 1) names) (drop (i + 1) texts) found → IsJudged names texts found
judged_on names texts i name text found h same n t accepted before rest =
    before found (rw (next_part names i name (omega (arith, h, same)) n, next_part texts i text h t) (judged_behind name text (drop (i + 1) names) (drop (i + 1) texts) found accepted rest))

pub refused_at : (names texts : List (List ℕ)) (i : ℕ) (name text : List ℕ) (ended : Ended) → i < length texts → length names ≡ length texts → name ≡ get_or names i name → text ≡ get_or texts i text → ((found : Option Ended) → IsJudged (drop i names) (drop i texts) found → IsJudged names texts found) → IsPartRefused name text ended ⊎ (ended ≡ Memory) → IsFirstRefusal names texts ended ⊎ (ended ≡ Memory)
refused_at names texts i name text ended h same n t before (inl refused) =
    inl (before (Some ended) (rw (next_part names i name (omega (arith, h, same)) n, next_part texts i text h t) (inl refused)))
refused_at names texts i name text ended h same n t before (inr none) = inr none

pub judged_at_end : (names texts : List (List ℕ)) (i : ℕ) → length texts ≤ i → ((found : Option Ended) → IsJudged (drop i names) (drop i texts) found → IsJudged names texts found) → AreAccepted texts
judged_at_end names texts i h before = before None (rw (drop_all i texts h) tt)

pub short_first : (texts : List (List ℕ)) (text : List ℕ) → AreShort texts → slice_get texts 0 ≡ Some text → length text ≤ LARGEST
short_first [] text all first = absurd cc
short_first (t ∷ texts) text all first = (let same : text ≡ t = cc in rw same all.0)
