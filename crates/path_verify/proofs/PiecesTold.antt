-- The pieces of a text, one after the other.
use Rattle.std.proofs.Common.{◌≡◌, ℕ, zero, suc, ◌+◌, ◌<◌, ◌≤◌, ◌==◌, Bool, true, false, List, [], ◌∷◌, length, take, drop, ◌||◌, refl, sym, ap, ◌∙◌, cond, arith}
use Rattle.std.specs.List.{list_any}
use Rattle.module_arena.specs.LayoutText.{pieces, on_first, first_piece, is_foreign_component}
use Rattle.std.specs.Prelude.{slice_index}
use Rattle.path_verify.specs.Pieces.{piece_length}

-- the first separator ends the first piece
pub length_found : (separator : ℕ) (text : List ℕ) (k : ℕ) → k < length text → (slice_index text k == separator) ≡ true
    → ((j : ℕ) → j < k → (slice_index text j == separator) ≡ true → ⊥) → piece_length separator text ≡ k
length_found separator [] k lt at before = absurd (omega (arith, lt))
length_found separator (b ∷ bs) zero lt at before = ap (λ s. cond s 0 (suc (piece_length separator bs))) at
length_found separator (b ∷ bs) (suc k) lt at before =
    ap (λ s. cond s 0 (suc (piece_length separator bs))) (plain (b == separator) refl)
    ∙ ap suc (length_found separator bs k (omega (arith, lt)) at (λ j l. before (suc j) (omega (arith, l))))
  where
    plain : (s : Bool) → (b == separator) ≡ s → (b == separator) ≡ false
    plain false e = e
    plain true e = absurd (before zero (omega arith) e)

-- without a separator the text is one piece
pub length_whole : (separator : ℕ) (text : List ℕ) → ((j : ℕ) → j < length text → (slice_index text j == separator) ≡ true → ⊥) → piece_length separator text ≡ length text
length_whole separator [] none = refl
length_whole separator (b ∷ bs) none =
    ap (λ s. cond s 0 (suc (piece_length separator bs))) (plain (b == separator) refl)
    ∙ ap suc (length_whole separator bs (λ j l. none (suc j) (omega (arith, l))))
  where
    plain : (s : Bool) → (b == separator) ≡ s → (b == separator) ≡ false
    plain false e = e
    plain true e = absurd (none zero (omega arith) e)

pub piece_within : (separator : ℕ) (text : List ℕ) → piece_length separator text ≤ length text
piece_within separator [] = omega arith
piece_within separator (b ∷ bs) = by (piece_within separator bs) (b == separator)
  where
    by : piece_length separator bs ≤ length bs → (e : Bool) → cond e 0 (suc (piece_length separator bs)) ≤ suc (length bs)
    by le true = omega arith
    by le false = omega arith

-- the first piece
pub first_told : (separator : ℕ) (text : List ℕ) → first_piece (pieces separator text) ≡ take (piece_length separator text) text
first_told separator [] = refl
first_told separator (b ∷ bs) = by (first_told separator bs) (b == separator)
  where
    first_on : (ps : List (List ℕ)) → first_piece (on_first b ps) ≡ b ∷ first_piece ps
    first_on [] = refl
    first_on (p ∷ ps) = refl

    by : first_piece (pieces separator bs) ≡ take (piece_length separator bs) bs → (e : Bool)
        → first_piece (cond e ([] ∷ pieces separator bs) (on_first b (pieces separator bs))) ≡ take (cond e 0 (suc (piece_length separator bs))) (b ∷ bs)
    by h true = refl
    by h false = first_on (pieces separator bs) ∙ ap (λ p. b ∷ p) h

-- a text without a separator is one piece
pub last_piece : (separator : ℕ) (text : List ℕ) → piece_length separator text ≡ length text → pieces separator text ≡ text ∷ []
last_piece separator [] e = refl
last_piece separator (b ∷ bs) e = by (last_piece separator bs) (b == separator) e
  where
    by : (piece_length separator bs ≡ length bs → pieces separator bs ≡ bs ∷ []) → (s : Bool) → cond s 0 (suc (piece_length separator bs)) ≡ suc (length bs)
        → cond s ([] ∷ pieces separator bs) (on_first b (pieces separator bs)) ≡ (b ∷ bs) ∷ []
    by h true q = absurd (omega (arith, q))
    by h false q = ap (on_first b) (h (omega (arith, q)))

-- as many bytes are taken for the first piece
pub taken : (separator : ℕ) (text : List ℕ) → piece_length separator text ≡ length (take (piece_length separator text) text)
taken separator [] = refl
taken separator (b ∷ bs) = by (taken separator bs) (b == separator)
  where
    by : piece_length separator bs ≡ length (take (piece_length separator bs) bs) → (e : Bool)
        → cond e 0 (suc (piece_length separator bs)) ≡ length (take (cond e 0 (suc (piece_length separator bs))) (b ∷ bs))
    by h true = refl
    by h false = ap suc h

-- else the others are those of the text behind the separator
more_behind : (separator : ℕ) (text : List ℕ) → piece_length separator text < length text
    → pieces separator text ≡ take (piece_length separator text) text ∷ pieces separator (drop (suc (piece_length separator text)) text)
more_behind separator [] lt = absurd (omega (arith, lt))
more_behind separator (b ∷ bs) lt = by (more_behind separator bs) (b == separator) lt
  where
    by : (piece_length separator bs < length bs → pieces separator bs ≡ take (piece_length separator bs) bs ∷ pieces separator (drop (suc (piece_length separator bs)) bs))
        → (s : Bool) → cond s 0 (suc (piece_length separator bs)) < suc (length bs)
        → cond s ([] ∷ pieces separator bs) (on_first b (pieces separator bs))
        ≡ take (cond s 0 (suc (piece_length separator bs))) (b ∷ bs) ∷ pieces separator (drop (suc (cond s 0 (suc (piece_length separator bs)))) (b ∷ bs))
    by h true l = refl
    by h false l = ap (on_first b) (h (omega (arith, l)))

-- the same, with the separator counted
pub more_pieces : (separator : ℕ) (text : List ℕ) → piece_length separator text < length text
    → pieces separator text ≡ take (piece_length separator text) text ∷ pieces separator (drop (piece_length separator text + 1) text)
more_pieces separator text lt = more_behind separator text lt ∙ ap (λ n. take (piece_length separator text) text ∷ pieces separator (drop n text)) counted
  where
    counted : suc (piece_length separator text) ≡ piece_length separator text + 1
    counted = omega arith

-- a foreign first piece
pub foreign_first : (separator : ℕ) (text : List ℕ) → is_foreign_component (first_piece (pieces separator text)) ≡ true → list_any is_foreign_component (pieces separator text) ≡ true
foreign_first separator text e = by (pieces separator text) e
  where
    by : (ps : List (List ℕ)) → is_foreign_component (first_piece ps) ≡ true → list_any is_foreign_component ps ≡ true
    by [] q = q
    by (p ∷ ps) q = ap (λ f. f || list_any is_foreign_component ps) q

-- a last piece that is not foreign
pub own_last : (separator : ℕ) (text : List ℕ) → length text ≤ piece_length separator text → is_foreign_component (first_piece (pieces separator text)) ≡ false
    → list_any is_foreign_component (pieces separator text) ≡ false
own_last separator text le e = ap (list_any is_foreign_component) alone ∙ ap (λ f. f || false) (sym (ap (λ ps. is_foreign_component (first_piece ps)) alone) ∙ e)
  where
    alone : pieces separator text ≡ text ∷ []
    alone = last_piece separator text (omega (arith, piece_within separator text, le))

-- a first piece that is not foreign leaves the others
pub own_first : (separator : ℕ) (text : List ℕ) → piece_length separator text < length text → is_foreign_component (first_piece (pieces separator text)) ≡ false
    → list_any is_foreign_component (pieces separator text) ≡ list_any is_foreign_component (pieces separator (drop (piece_length separator text + 1) text))
own_first separator text lt e =
    ap (list_any is_foreign_component) split
    ∙ ap (λ f. f || list_any is_foreign_component (pieces separator (drop (piece_length separator text + 1) text))) (sym (ap (λ ps. is_foreign_component (first_piece ps)) split) ∙ e)
  where
    split : pieces separator text ≡ take (piece_length separator text) text ∷ pieces separator (drop (piece_length separator text + 1) text)
    split = more_pieces separator text lt
