-- What the inputs that were read so far may hold, and how many bytes they are together.
use Rattle.std.proofs.Common.{◌≡◌, ℕ, zero, suc, ◌+◌, ◌<◌, Bool, true, false, List, [], ◌∷◌, ◌++◌, length, take, get_or, Option, Some, None, refl, sym, ap, subst, ◌∙◌, arith}
use Rattle.std.specs.Prelude.{IfSome, option_map, slice_get, if◌then◌else◌}
use Rattle.std.specs.Bool.{MatchBool}
use Rattle.std.proofs.lemmas.List.{append-nil, take_more}
use Rattle.std.proofs.lemmas.Option.{same_Some}
use Rattle.ir_base.specs.Outside.{Lost}
use Rattle.ir_base.specs.Files.{Named, ReadsFrom}
use Rattle.command_line.specs.Options.{is_dash}
use Rattle.tool_cli.specs.Causes.{IsEmptied, HasRead, MayHold, MayHoldAll, MayPassTogether, bytes_of_all, left_behind}
use Rattle.tool_cli.specs.declared.inputs.TheConstants.{LARGEST_TOGETHER}

-- what is left of standard input behind inputs of these names, where that is told
abbrev pub left_behind_all : Option (List ℕ) → List (List ℕ) → Option (List ℕ)
left_behind_all left [] = left
left_behind_all left (name ∷ names) = left_behind_all (left_behind left name) names

left_more : (left : Option (List ℕ)) (names : List (List ℕ)) (name : List ℕ) → left_behind_all left (names ++ name ∷ []) ≡ left_behind (left_behind_all left names) name
left_more left [] name = refl
left_more left (n ∷ names) name = left_more (left_behind left n) names name

held_more : (contents : Option Named) (left : Option (List ℕ)) (names texts : List (List ℕ)) (name text : List ℕ) → MayHoldAll contents left names texts → MayHold contents (left_behind_all left names) name text
    → MayHoldAll contents left (names ++ name ∷ []) (texts ++ text ∷ [])
held_more contents left [] [] name text h m = (m, tt)
held_more contents left [] (t ∷ texts) name text h m = absurd h
held_more contents left (n ∷ names) [] name text h m = absurd h
held_more contents left (n ∷ names) (t ∷ texts) name text h m = (h.0, held_more contents (left_behind left n) names texts name text h.1 m)

bytes_more : (texts : List (List ℕ)) (text : List ℕ) → bytes_of_all (texts ++ text ∷ []) ≡ bytes_of_all texts + length text
bytes_more [] text = omega arith
bytes_more (t ∷ texts) text = let more = bytes_more texts text in omega (arith, more)

-- ---- one input

whole : (left next : Option (List ℕ)) (text : List ℕ) → Lost left next text → IsEmptied next → IfSome left (λ bytes. text ≡ bytes)
whole None next text lost none = tt
whole (Some bytes) None text lost none = absurd (let h = lost in cc)
whole (Some bytes) (Some rest) text lost none = sym (same_Some _ _ lost ∙ ap (λ r. text ++ r) none ∙ append-nil text)

emptied : (left next : Option (List ℕ)) (text : List ℕ) → Lost left next text → IsEmptied next → next ≡ option_map (λ bytes. []) left
emptied None None text lost none = refl
emptied None (Some rest) text lost none = absurd (let h = lost in cc)
emptied (Some bytes) None text lost none = absurd (let h = lost in cc)
emptied (Some bytes) (Some rest) text lost none = ap Some none

may_hold : (dash : Bool) (contents mid_contents : Option Named) (left mid next : Option (List ℕ)) (name text : List ℕ) → mid_contents ≡ contents → mid ≡ left
    → MatchBool dash (Lost mid next text × IsEmptied next) (ReadsFrom mid_contents name text) → MatchBool dash (IfSome left (λ bytes. text ≡ bytes)) (ReadsFrom contents name text)
may_hold true contents mid_contents left mid next name text c l read = subst (λ (o : Option (List ℕ)). IfSome o (λ bytes. text ≡ bytes)) l (whole mid next text read.0 read.1)
may_hold false contents mid_contents left mid next name text c l read = subst (λ (o : Option Named). ReadsFrom o name text) c read

left_then : (dash : Bool) (contents : Option Named) (mid next : Option (List ℕ)) (name text : List ℕ) → MatchBool dash (Lost mid next text × IsEmptied next) (ReadsFrom contents name text)
    → (dash ≡ false → next ≡ mid) → next ≡ (if dash then option_map (λ bytes. []) mid else mid)
left_then true contents mid next name text read kept = emptied mid next text read.0 read.1
left_then false contents mid next name text read kept = kept refl

at_place : (names : List (List ℕ)) (i : ℕ) (name : List ℕ) → i < length names → name ≡ get_or names i name → slice_get names i ≡ Some name
at_place [] i name h e = absurd (omega (arith, h))
at_place (n ∷ names) zero name h e = ap Some (sym e)
at_place (n ∷ names) (suc i) name h e = at_place names i name (omega (arith, h)) e

-- ---- the next input

module _ (names : List (List ℕ)) (i : ℕ) (name text : List ℕ) (contents mid_contents : Option Named) (left mid next : Option (List ℕ)) (texts : List (List ℕ)) where
  front_next : i < length names → name ≡ get_or names i name → take i names ++ name ∷ [] ≡ take (i + 1) names
  front_next h e = ap (λ n. take i names ++ n ∷ []) e ∙ sym (take_more names i name h)

  -- the texts with that of the next
  pub texts_on : i < length names → name ≡ get_or names i name → mid_contents ≡ contents → mid ≡ left_behind_all left (take i names) → MayHoldAll contents left (take i names) texts
      → HasRead mid_contents mid next name text → MayHoldAll contents left (take (i + 1) names) (texts ++ text ∷ [])
  texts_on h e c l held read =
      subst (λ (ns : List (List ℕ)). MayHoldAll contents left ns (texts ++ text ∷ [])) (front_next h e)
      (held_more contents left (take i names) texts name text held
      (may_hold (is_dash name) contents mid_contents (left_behind_all left (take i names)) mid next name text c l read.content, read.few))

  -- what is left behind it
  pub left_on : i < length names → name ≡ get_or names i name → mid ≡ left_behind_all left (take i names) → HasRead mid_contents mid next name text → (is_dash name ≡ false → next ≡ mid)
      → next ≡ left_behind_all left (take (i + 1) names)
  left_on h e l read kept =
      left_then (is_dash name) mid_contents mid next name text read.content kept
      ∙ ap (λ (o : Option (List ℕ)). left_behind o name) l
      ∙ sym (left_more left (take i names) name)
      ∙ ap (left_behind_all left) (front_next h e)

  -- and where they are too many bytes then
  pub passed_at : i < length names → name ≡ get_or names i name → mid_contents ≡ contents → mid ≡ left_behind_all left (take i names) → MayHoldAll contents left (take i names) texts
      → HasRead mid_contents mid next name text → (total : ℕ) → total ≡ bytes_of_all texts → LARGEST_TOGETHER < total + length text → MayPassTogether contents left names name
  passed_at h e c l held read total sum over = record {
    place = i;
    is = at_place names i name h e;
    texts = texts ++ text ∷ [];
    held = texts_on h e c l held read;
    over = let more = bytes_more texts text in omega (arith, more, sum, over);
  }

-- the bytes of the texts with that of the next
pub sum_on : (texts more : List (List ℕ)) (text bytes : List ℕ) (total : ℕ) → more ≡ texts ++ text ∷ [] → bytes ≡ text → total ≡ bytes_of_all texts → total + length bytes ≡ bytes_of_all more
sum_on texts more text bytes total is same sum = let one = bytes_more texts text in rw (is, same) (omega (arith, one, sum))
