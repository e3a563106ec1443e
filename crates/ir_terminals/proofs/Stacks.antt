-- Open brackets, the nearest first and the nearest last.
use Rattle.std.proofs.Common.{◌≡◌, ◌<◌, true, false, List, [], ◌∷◌, ◌++◌, length, refl, sym, ◌∙◌, arith, length-append}
use denote.Enum.Bare.{sameb}
use Rattle.ir_terminals.specs.PhraseRows.Row.{On, Ends, Stops}
use Rattle.ir_terminals.specs.Brackets.{is_same, closed, step_by, nearest_first}
use Rattle.ir_terminals.specs.contracts.brackets.Bracket.{the_type}
use Rattle.ir_terminals.specs.declared.brackets.Bracket.{Bracket}
use Rattle.ir_terminals.specs.declared.brackets.Bracket.TheVariants.{Parenthesis, Square, Brace, Angle}
use Rattle.ir_terminals.specs.declared.brackets.Role.TheVariants as roles

pub nearest_more : (xs : List Bracket) (b : Bracket) → nearest_first (xs ++ b ∷ []) ≡ b ∷ nearest_first xs
nearest_more [] b = refl
nearest_more (x ∷ xs) b = rw (nearest_more xs b) refl

nearest_length : (xs : List Bracket) → length (nearest_first xs) ≡ length xs
nearest_length [] = refl
nearest_length (x ∷ xs) = let i = nearest_length xs in omega (arith, i, length-append (nearest_first xs) (x ∷ []))

pub same_brackets : (a b : Bracket) → sameb the_type a b ≡ is_same a b
same_brackets Parenthesis Parenthesis = refl
same_brackets Parenthesis Square = refl
same_brackets Parenthesis Brace = refl
same_brackets Parenthesis Angle = refl
same_brackets Square Parenthesis = refl
same_brackets Square Square = refl
same_brackets Square Brace = refl
same_brackets Square Angle = refl
same_brackets Brace Parenthesis = refl
same_brackets Brace Square = refl
same_brackets Brace Brace = refl
same_brackets Brace Angle = refl
same_brackets Angle Parenthesis = refl
same_brackets Angle Square = refl
same_brackets Angle Brace = refl
same_brackets Angle Angle = refl

closed_on : (xs : List Bracket) → 0 < length xs → closed xs ≡ On xs
closed_on [] h = absurd (omega arith)
closed_on (x ∷ xs) h = refl

nothing_left : (xs : List Bracket) → length xs ≡ 0 → xs ≡ []
nothing_left [] h = refl
nothing_left (x ∷ xs) h = absurd (omega (arith, h))

-- the last bracket is closed, and others are open
pub closes_inner : (old new : List Bracket) (last b : Bracket) → old ≡ new ++ last ∷ [] → sameb the_type last b ≡ true → 0 < length new → step_by (nearest_first old) (roles.Closes b) ≡ On (nearest_first new)
closes_inner old new last b e same some =
    let is : is_same last b ≡ true = sym (same_brackets last b) ∙ same in
    rw (e, nearest_more new last, is) (closed_on (nearest_first new) (omega (arith, some, nearest_length new)))

pub closes_last : (old new : List Bracket) (last b : Bracket) → old ≡ new ++ last ∷ [] → sameb the_type last b ≡ true → length new ≡ 0 → step_by (nearest_first old) (roles.Closes b) ≡ Ends tt
closes_last old new last b e same none =
    let is : is_same last b ≡ true = sym (same_brackets last b) ∙ same in
    rw (e, nearest_more new last, is, nothing_left new none) refl

pub closes_another : (old new : List Bracket) (last b : Bracket) → old ≡ new ++ last ∷ [] → sameb the_type last b ≡ false → step_by (nearest_first old) (roles.Closes b) ≡ Stops
closes_another old new last b e same =
    let is : is_same last b ≡ false = sym (same_brackets last b) ∙ same in
    rw (e, nearest_more new last, is) refl

inside : (xs : List Bracket) → 0 < length xs → step_by xs roles.Neither ≡ On xs
inside [] h = absurd (omega arith)
inside (x ∷ xs) h = refl

pub goes_on_inside : (xs : List Bracket) → 0 < length xs → step_by (nearest_first xs) roles.Neither ≡ On (nearest_first xs)
goes_on_inside xs some = inside (nearest_first xs) (omega (arith, some, nearest_length xs))

opened : (xs : List Bracket) (b : Bracket) → step_by xs (roles.Opens b) ≡ On (b ∷ xs)
opened [] b = refl
opened (x ∷ xs) b = refl

pub opens : (xs new : List Bracket) (b : Bracket) → new ≡ xs ++ b ∷ [] → step_by (nearest_first xs) (roles.Opens b) ≡ On (nearest_first new)
opens xs new b e = rw (e, nearest_more xs b) (opened (nearest_first xs) b)
