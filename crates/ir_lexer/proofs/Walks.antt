-- Steps of the loops.
use Rattle.std.proofs.Common.{◌≡◌, ℕ, suc, ◌+◌, ◌≤◌, ◌<◌, List, [], ◌∷◌, ◌++◌, length, drop, get_or, Bool, true, false, inl, inr, refl, sym, ap, ◌∙◌, arith, cond, Option, Some, None, add-one, drop-cons, length-drop, ◌==◌, ◌||◌, append_assoc, append-nil}
use Rattle.std.proofs.Math.ListN.{drop_of_length-le}
use Rattle.std.proofs.lemmas.List.{drop-drop}
use Rattle.ir_lexer.specs.declared.quoted.Unescaped.{Unescaped}
use Rattle.ir_lexer.specs.declared.quoted.Unescaped.TheVariants.{More, Byte, Bad}
use Rattle.ir_lexer.specs.declared.class.Class.{Class}
use Rattle.ir_lexer.specs.declared.quoted.Escape.{Escape}
use Rattle.ir_lexer.specs.declared.quoted.Escape.TheVariants.{Plain, Slash, High}
use Rattle.ir_lexer.specs.Class.{byte_class, in_line, is_line_feed, is_blank, is_semicolon}
use Rattle.ir_lexer.specs.declared.class.Class.TheVariants.{Semicolon, LineFeed, Blank}
use Rattle.ir_lexer.specs.Form.{run}
use Rattle.ir_lexer.specs.Quoted.{decode, zero_in, has_zero, with_byte, unescaped, decoded, at_end, is_whole}
use Rattle.ir_lexer.specs.Gap.{gap_length, in_gap}
use Rattle.ir_lexer.specs.Place.{next_place, place_after}
use Rattle.ir_base.specs.declared.place.Place.{Place}
use Rattle.ir_lexer.proofs.Runs.{bool_cases, run_none, run_first, run_stops, run_le}

pub run_on : (p : Class → Bool) (s : List ℕ) (n : ℕ) → n < length s → p (byte_class (get_or s n 0)) ≡ true → run p (drop n s) ≡ suc (run p (drop (n + 1) s))
run_on p s n h e = rw (add-one, drop-cons s n 0) (run_first p (get_or s n 0) (drop (suc n) s) e)

pub run_off : (p : Class → Bool) (s : List ℕ) (n : ℕ) → n < length s → p (byte_class (get_or s n 0)) ≡ false → run p (drop n s) ≡ 0
run_off p s n h e = rw (drop-cons s n 0) (run_stops p (get_or s n 0) (drop (suc n) s) e)

pub run_at_end : (p : Class → Bool) (s : List ℕ) (n : ℕ) → length s ≤ n → run p (drop n s) ≡ 0
run_at_end p s n h = omega (arith, run_le p (drop n s), length-drop n s)

-- Decoding.
with_zero : (z : Bool) (b : ℕ) (o : Option (List ℕ)) → zero_in z (with_byte b o) ≡ zero_in (z || (b == 0)) o
with_zero z b None = refl
with_zero true b (Some bs) = refl
with_zero false b (Some bs) = or_is (b == 0) (has_zero bs)
  where
    or_is : (x y : Bool) → Some (cond x true y) ≡ Some (cond (false || x) true y)
    or_is true y = refl
    or_is false y = refl

zeros_on : (z : Bool) (state : Escape) (s : List ℕ) (n : ℕ) (u : Unescaped) → n < length s → unescaped state (get_or s n 0) ≡ u → zero_in z (decode state (drop n s)) ≡ zero_in z (decoded u (λ next. decode next (drop (n + 1) s)))
unfolding decode
zeros_on z state s n u h e = rw (add-one, drop-cons s n 0, e) refl

pub zeros_more : (z : Bool) (state next : Escape) (s : List ℕ) (n : ℕ) → n < length s → unescaped state (get_or s n 0) ≡ More next → zero_in z (decode state (drop n s)) ≡ zero_in z (decode next (drop (n + 1) s))
zeros_more z state next s n h e = zeros_on z state s n (More next) h e

pub zeros_byte : (z : Bool) (state : Escape) (b : ℕ) (s : List ℕ) (n : ℕ) → n < length s → unescaped state (get_or s n 0) ≡ Byte b → zero_in z (decode state (drop n s)) ≡ zero_in (z || (b == 0)) (decode Plain (drop (n + 1) s))
zeros_byte z state b s n h e = zeros_on z state s n (Byte b) h e ∙ with_zero z b (decode Plain (drop (n + 1) s))

pub zeros_bad : (z : Bool) (state : Escape) (s : List ℕ) (n : ℕ) → n < length s → unescaped state (get_or s n 0) ≡ Bad → zero_in z (decode state (drop n s)) ≡ None
zeros_bad z state s n h e = zeros_on z state s n Bad h e

zeros_end : (z : Bool) (state : Escape) (s : List ℕ) (n : ℕ) → length s ≤ n → zero_in z (decode state (drop n s)) ≡ zero_in z (at_end state)
unfolding decode
zeros_end z state s n h = rw (drop_of_length-le s h) refl

pub zeros_plain : (z : Bool) (state : Escape) (s : List ℕ) (n : ℕ) → length s ≤ n → state ≡ Plain → Some z ≡ zero_in z (decode state (drop n s))
zeros_plain z state s n h e = rw (zeros_end z state s n h, e) (elim z as (λ (y : Bool). Some y ≡ Some (cond y true false)) [ true ↦ refl | false ↦ refl ])

pub zeros_cut : (z : Bool) (state : Escape) (s : List ℕ) (n : ℕ) → length s ≤ n → (state ≡ Plain → ⊥) → None ≡ zero_in z (decode state (drop n s))
zeros_cut z Plain s n h e = absurd (e refl)
zeros_cut z Slash s n h e = rw (zeros_end z Slash s n h) refl
zeros_cut z (High k) s n h e = rw (zeros_end z (High k) s n h) refl

-- Gaps.
pub gap_blank : (s : List ℕ) (n : ℕ) → n < length s → is_blank (byte_class (get_or s n 0)) ≡ true → gap_length false (drop n s) ≡ suc (gap_length false (drop (n + 1) s))
unfolding gap_length
gap_blank s n h e = rw (add-one, drop-cons s n 0, e) refl

pub gap_off : (s : List ℕ) (n : ℕ) → n < length s → is_blank (byte_class (get_or s n 0)) ≡ false → is_semicolon (byte_class (get_or s n 0)) ≡ false → gap_length false (drop n s) ≡ 0
unfolding gap_length
gap_off s n h e f = rw (drop-cons s n 0, e, f) refl

-- where the byte begins no gap
pub gap_none : (s : List ℕ) (n : ℕ) → n < length s → in_gap (get_or s n 0) ≡ false → gap_length false (drop n s) ≡ 0
gap_none s n h e = let k = no_gap (is_blank (byte_class (get_or s n 0))) (is_semicolon (byte_class (get_or s n 0))) e in gap_off s n h k.0 k.1
  where
    no_gap : (x y : Bool) → (x || y) ≡ false → (x ≡ false) × (y ≡ false)
    no_gap false false e = (refl, refl)
    no_gap false true e = absurd cc
    no_gap true y e = absurd cc

pub not_in_gap : (x : Class) → (x ≡ Semicolon → ⊥) → (x ≡ LineFeed → ⊥) → (x ≡ Blank → ⊥) → (is_blank x ≡ false) × (is_semicolon x ≡ false)
not_in_gap Semicolon s l b = absurd (s refl)
not_in_gap LineFeed s l b = absurd (l refl)
not_in_gap Blank s l b = absurd (b refl)
not_in_gap _ s l b = (refl, refl)

-- a space at the front
pub gap_space : (s : List ℕ) → 0 < length s → byte_class (get_or s 0 0) ≡ Blank → gap_length false s ≡ 1 + gap_length false (drop 1 s)
gap_space [] h e = absurd (omega arith)
gap_space (b ∷ bs) h e = let k = gap_blank (b ∷ bs) 0 h (rw e refl) in omega (arith, k)

line_ends : (x : Class) → in_line x ≡ false → (is_line_feed x ≡ true) × (is_blank x ≡ true)
line_ends LineFeed h = (refl, refl)
line_ends _ h = absurd cc

line_goes_on : (x : Class) → in_line x ≡ true → is_line_feed x ≡ false
line_goes_on LineFeed h = absurd cc
line_goes_on _ h = refl

in_comment : (s : List ℕ) → gap_length true s ≡ run in_line s + gap_length false (drop (run in_line s) s)
unfolding gap_length
in_comment [] = rw run_none refl
in_comment (b ∷ s) = elim (bool_cases (in_line (byte_class b))) [
  | inl e ↦ rw (run_first in_line b s e, line_goes_on (byte_class b) e) (omega (arith, in_comment s))
  | inr e ↦ rw (run_stops in_line b s e, (line_ends (byte_class b) e).0, (line_ends (byte_class b) e).1) (omega arith)
]

begins_comment : (b : ℕ) (s : List ℕ) → byte_class b ≡ Semicolon → gap_length false (b ∷ s) ≡ gap_length true (b ∷ s)
unfolding gap_length
begins_comment b s e = rw e refl

-- a comment to the end of its line
pub gap_comment : (s : List ℕ) (n : ℕ) → n < length s → byte_class (get_or s n 0) ≡ Semicolon → gap_length false (drop n s) ≡ run in_line (drop n s) + gap_length false (drop (n + run in_line (drop n s)) s)
gap_comment s n h e =
    let same : gap_length false (drop n s) ≡ gap_length true (drop n s) = rw (drop-cons s n 0) (begins_comment (get_or s n 0) (drop (suc n) s) e) in
    rw (← drop-drop (run in_line (drop n s)) n s) (same ∙ in_comment (drop n s))

pub gap_at_end : (s : List ℕ) (n : ℕ) → length s ≤ n → gap_length false (drop n s) ≡ 0
unfolding gap_length
gap_at_end s n h = rw (drop_of_length-le s h) refl

-- Places.
pub place_step : (p : Place) (s : List ℕ) (n : ℕ) → n < length s → place_after p (drop n s) ≡ place_after (next_place p (get_or s n 0)) (drop (n + 1) s)
unfolding place_after
place_step p s n h = rw (add-one n, drop-cons s n 0) refl

pub place_at_end : (p : Place) (s : List ℕ) (n : ℕ) → length s ≤ n → place_after p (drop n s) ≡ p
unfolding place_after
place_at_end p s n h = rw (drop_of_length-le s h) refl

-- what was read, before what is read
abbrev pub with_front : List ℕ → Option (List ℕ) → Option (List ℕ)
with_front front None = None
with_front front (Some bs) = Some (front ++ bs)

front_byte : (front : List ℕ) (b : ℕ) (o : Option (List ℕ)) → with_front front (with_byte b o) ≡ with_front (front ++ b ∷ []) o
front_byte front b None = refl
front_byte front b (Some bs) = rw (append_assoc front (b ∷ []) bs) refl

pub no_front : (o : Option (List ℕ)) → with_front [] o ≡ o
no_front None = refl
no_front (Some bs) = refl

front_on : (front : List ℕ) (state : Escape) (s : List ℕ) (n : ℕ) (u : Unescaped) → n < length s → unescaped state (get_or s n 0) ≡ u → with_front front (decode state (drop n s)) ≡ with_front front (decoded u (λ next. decode next (drop (n + 1) s)))
unfolding decode
front_on front state s n u h e = rw (add-one, drop-cons s n 0, e) refl

pub front_more : (front : List ℕ) (state next : Escape) (s : List ℕ) (n : ℕ) → n < length s → unescaped state (get_or s n 0) ≡ More next → with_front front (decode state (drop n s)) ≡ with_front front (decode next (drop (n + 1) s))
front_more front state next s n h e = front_on front state s n (More next) h e

pub front_more_byte : (front : List ℕ) (state : Escape) (b : ℕ) (s : List ℕ) (n : ℕ) → n < length s → unescaped state (get_or s n 0) ≡ Byte b → with_front front (decode state (drop n s)) ≡ with_front (front ++ b ∷ []) (decode Plain (drop (n + 1) s))
front_more_byte front state b s n h e = front_on front state s n (Byte b) h e ∙ front_byte front b (decode Plain (drop (n + 1) s))

pub front_bad : (front : List ℕ) (state : Escape) (s : List ℕ) (n : ℕ) → n < length s → unescaped state (get_or s n 0) ≡ Bad → with_front front (decode state (drop n s)) ≡ None
front_bad front state s n h e = front_on front state s n Bad h e

-- where the inside stands for bytes, at its end these are all
front_end : (front : List ℕ) (state : Escape) (s : List ℕ) (n : ℕ) → length s ≤ n → with_front front (decode state (drop n s)) ≡ with_front front (at_end state)
unfolding decode
front_end front state s n h = rw (drop_of_length-le s h) refl

whole_some : (o : Option (List ℕ)) → is_whole (zero_in false o) ≡ true → o ≡ None → ⊥
whole_some None h e = cc
whole_some (Some bs) h e = cc

pub front_all : (front : List ℕ) (state : Escape) (s : List ℕ) (n : ℕ) (o : Option (List ℕ)) → length s ≤ n → is_whole (zero_in false o) ≡ true → o ≡ with_front front (decode state (drop n s)) → Some front ≡ o
front_all front Plain s n o h w e = sym (e ∙ front_end front Plain s n h ∙ ap Some (append-nil front))
front_all front Slash s n o h w e = absurd (whole_some o w (e ∙ front_end front Slash s n h))
front_all front (High k) s n o h w e = absurd (whole_some o w (e ∙ front_end front (High k) s n h))

pub front_never : (front : List ℕ) (state : Escape) (s : List ℕ) (n : ℕ) (o : Option (List ℕ)) → n < length s → is_whole (zero_in false o) ≡ true → o ≡ with_front front (decode state (drop n s)) → unescaped state (get_or s n 0) ≡ Bad → ⊥
front_never front state s n o h w e b = whole_some o w (e ∙ front_bad front state s n h b)
