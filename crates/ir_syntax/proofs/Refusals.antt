-- Why a text is refused: at its one first bad place, by one kind.
use Rattle.std.proofs.Common.{◌≡◌, ℕ, zero, suc, ◌<◌, List, [], ◌∷◌, length, drop, slice_get, Bool, true, false, ◌⊎◌, inl, inr, refl, sym, ap, subst, ◌∙◌, arith, Some, None, Result, Ok, Err, IfOk}
use Rattle.std.specs.Bool.{MatchBool}
use Rattle.std.proofs.lemmas.Option.{same_Some}
use Rattle.ir_base.specs.declared.place.Place.{Place}
use Rattle.ir_lexer.specs.Ahead.{Located}
use Rattle.ir_terminals.specs.LeftOut.{is_left_out, is_left_out_as}
use Rattle.ir_terminals.specs.Position.{Position, tokens_left, text_tokens, is_behind_less, first_place, first_spelling, first_terminal, is_bad_next}
use Rattle.ir_terminals.specs.declared.terminal.Terminal.{Terminal}
use Rattle.ir_syntax.specs.Items.{IsViable}
use Rattle.ir_syntax.specs.Answers.{passed, FirstBad}
use Rattle.ir_syntax.specs.Refusal.{wider, through, BadToken, BadEnd, IsTooDeep, IsLeftOut, IsRefused}
use Rattle.ir_syntax.specs.declared.read.SyntaxFault.{SyntaxFault}
use Rattle.ir_syntax.specs.declared.read.SyntaxFault.TheVariants as faults
use Rattle.ir_syntax.proofs.Results.{one_first_bad, passed_taken}

none_at_end : {T : Type 0} (xs : List T) (t : T) → slice_get xs (length xs) ≡ Some t → ⊥
none_at_end [] t e = absurd cc
none_at_end (x ∷ xs) t e = none_at_end xs t e

-- one bad token
one_token : (text : List ℕ) (i j : ℕ) (t u : Located) → BadToken text i t → BadToken text j u → (i ≡ j) × (t ≡ u)
one_token text i j t u b c =
    let e = one_first_bad text i j b.first_bad c.first_bad in
    (e, same_Some t u (sym b.token ∙ (ap (slice_get (text_tokens text)) e ∙ c.token)))

-- no bad token where the end is bad
token_or_end : (text : List ℕ) (i : ℕ) (t : Located) → BadEnd text → BadToken text i t → ⊥
token_or_end text i t b c =
    let e = one_first_bad text i (length (text_tokens text)) c.first_bad b in
    none_at_end (text_tokens text) t (sym (ap (slice_get (text_tokens text)) e) ∙ c.token)

deep_at : (text : List ℕ) (i j : ℕ) → i ≡ j → IsTooDeep text i → (IsTooDeep text j → ⊥) → ⊥
deep_at text i j e d n = n (subst (λ (k : ℕ). IsTooDeep text k) e d)

left_out_at : (text : List ℕ) (i j : ℕ) (t u : Located) → i ≡ j → t ≡ u → IsLeftOut text i t → (IsLeftOut text j u → ⊥) → ⊥
left_out_at text i j t u e f l n = n (subst (λ (v : Located). IsLeftOut text j v) f (subst (λ (k : ℕ). IsLeftOut text k t) e l))

same_place : (text : List ℕ) (i j : ℕ) (t u : Located) (p q : Place) → BadToken text i t → BadToken text j u → p ≡ t.place → q ≡ u.place → p ≡ q
same_place text i j t u p q b c e f = e ∙ (ap (λ (v : Located). v.place) (one_token text i j t u b c).1 ∙ sym f)

-- a text is refused in one way
pub one_refusal : (text : List ℕ) (f g : SyntaxFault) → IsRefused text f → IsRefused text g → f ≡ g
one_refusal text (faults.BadByte p) (faults.BadByte q) h k = ap faults.BadByte (h.2 ∙ sym k.2)
one_refusal text (faults.BadByte p) (faults.TooDeep q) h k = absurd (token_or_end text k.0 k.1 h.0 k.2)
one_refusal text (faults.BadByte p) (faults.LeftOutWord q w) h k = absurd (token_or_end text k.0 k.1 h.0 k.2)
one_refusal text (faults.BadByte p) (faults.NoItemHere q) h (inl k) = absurd (let a = h.1 in let b = k.1 in cc)
one_refusal text (faults.BadByte p) (faults.NoItemHere q) h (inr k) = absurd (token_or_end text k.0 k.1 h.0 k.2)
one_refusal text (faults.BadByte p) faults.Memory h k = absurd k
one_refusal text (faults.TooDeep p) (faults.BadByte q) h k = absurd (token_or_end text h.0 h.1 k.0 h.2)
one_refusal text (faults.TooDeep p) (faults.TooDeep q) h k = ap faults.TooDeep (same_place text h.0 k.0 h.1 k.1 p q h.2 k.2 h.4 k.4)
one_refusal text (faults.TooDeep p) (faults.LeftOutWord q w) h k = absurd (deep_at text h.0 k.0 (one_token text h.0 k.0 h.1 k.1 h.2 k.2).0 h.3 k.3)
one_refusal text (faults.TooDeep p) (faults.NoItemHere q) h (inl k) = absurd (token_or_end text h.0 h.1 k.0 h.2)
one_refusal text (faults.TooDeep p) (faults.NoItemHere q) h (inr k) = absurd (deep_at text h.0 k.0 (one_token text h.0 k.0 h.1 k.1 h.2 k.2).0 h.3 k.3)
one_refusal text (faults.TooDeep p) faults.Memory h k = absurd k
one_refusal text (faults.LeftOutWord p v) (faults.BadByte q) h k = absurd (token_or_end text h.0 h.1 k.0 h.2)
one_refusal text (faults.LeftOutWord p v) (faults.TooDeep q) h k = absurd (deep_at text k.0 h.0 (one_token text k.0 h.0 k.1 h.1 k.2 h.2).0 k.3 h.3)
one_refusal text (faults.LeftOutWord p v) (faults.LeftOutWord q w) h k =
    let place = same_place text h.0 k.0 h.1 k.1 p q h.2 k.2 h.5 k.5 in
    let word = h.6 ∙ (ap (λ (t : Located). t.token.spelling) (one_token text h.0 k.0 h.1 k.1 h.2 k.2).1 ∙ sym k.6) in
    cc
one_refusal text (faults.LeftOutWord p v) (faults.NoItemHere q) h (inl k) = absurd (token_or_end text h.0 h.1 k.0 h.2)
one_refusal text (faults.LeftOutWord p v) (faults.NoItemHere q) h (inr k) =
    let one = one_token text h.0 k.0 h.1 k.1 h.2 k.2 in
    absurd (left_out_at text h.0 k.0 h.1 k.1 one.0 one.1 h.4 k.4)
one_refusal text (faults.LeftOutWord p v) faults.Memory h k = absurd k
one_refusal text (faults.NoItemHere p) (faults.BadByte q) (inl h) k = absurd (let a = h.1 in let b = k.1 in cc)
one_refusal text (faults.NoItemHere p) (faults.BadByte q) (inr h) k = absurd (token_or_end text h.0 h.1 k.0 h.2)
one_refusal text (faults.NoItemHere p) (faults.TooDeep q) (inl h) k = absurd (token_or_end text k.0 k.1 h.0 k.2)
one_refusal text (faults.NoItemHere p) (faults.TooDeep q) (inr h) k = absurd (deep_at text k.0 h.0 (one_token text k.0 h.0 k.1 h.1 k.2 h.2).0 k.3 h.3)
one_refusal text (faults.NoItemHere p) (faults.LeftOutWord q w) (inl h) k = absurd (token_or_end text k.0 k.1 h.0 k.2)
one_refusal text (faults.NoItemHere p) (faults.LeftOutWord q w) (inr h) k =
    let one = one_token text k.0 h.0 k.1 h.1 k.2 h.2 in
    absurd (left_out_at text k.0 h.0 k.1 h.1 one.0 one.1 k.4 h.4)
one_refusal text (faults.NoItemHere p) (faults.NoItemHere q) (inl h) (inl k) = ap faults.NoItemHere (h.2 ∙ sym k.2)
one_refusal text (faults.NoItemHere p) (faults.NoItemHere q) (inl h) (inr k) = absurd (token_or_end text k.0 k.1 h.0 k.2)
one_refusal text (faults.NoItemHere p) (faults.NoItemHere q) (inr h) (inl k) = absurd (token_or_end text h.0 h.1 k.0 h.2)
one_refusal text (faults.NoItemHere p) (faults.NoItemHere q) (inr h) (inr k) = ap faults.NoItemHere (same_place text h.0 k.0 h.1 k.1 p q h.2 k.2 h.5 k.5)
one_refusal text (faults.NoItemHere p) faults.Memory h k = absurd k
one_refusal text faults.Memory g h k = absurd h

-- what is refused has a first bad place
pub refused_bad : (text : List ℕ) (f : SyntaxFault) → IsRefused text f → (i : ℕ) × FirstBad text i
refused_bad text (faults.BadByte p) h = (length (text_tokens text), h.0)
refused_bad text (faults.TooDeep p) h = (h.0, h.2.first_bad)
refused_bad text (faults.LeftOutWord p w) h = (h.0, h.2.first_bad)
refused_bad text (faults.NoItemHere p) (inl h) = (length (text_tokens text), h.0)
refused_bad text (faults.NoItemHere p) (inr h) = (h.0, h.2.first_bad)
refused_bad text faults.Memory h = absurd h

first_dropped : {T : Type 0} (n : ℕ) (xs ys : List T) (t : T) → drop n xs ≡ t ∷ ys → slice_get xs n ≡ Some t
first_dropped zero xs ys t e = rw e refl
first_dropped (suc n) [] ys t e = absurd cc
first_dropped (suc n) (x ∷ xs) ys t e = first_dropped n xs ys t e

dropped_first : {T : Type 0} (n : ℕ) (xs : List T) (t : T) → slice_get xs n ≡ Some t → (ys : List T) × (drop n xs ≡ t ∷ ys)
dropped_first zero [] t e = absurd cc
dropped_first zero (x ∷ xs) t e = (xs, let k = same_Some x t e in cc)
dropped_first (suc n) [] t e = absurd cc
dropped_first (suc n) (x ∷ xs) t e = dropped_first n xs t e

-- where nothing is left
ends_at : (p : Position) (ts : List Located) → tokens_left p ≡ ts → first_terminal ts ≡ None → tokens_left p ≡ []
ends_at p [] e h = e
ends_at p (t ∷ ts) e h = absurd cc

end_bad : (p : Position) → tokens_left p ≡ [] → FirstBad p.text (passed p) → BadEnd p.text
end_bad p e b = subst (λ (i : ℕ). FirstBad p.text i) (let k = ap (λ (ts : List Located). length ts) e in omega (arith, k)) b

-- a byte at which no token begins
pub bad_byte : (p : Position) (place : Place) → FirstBad p.text (passed p) → is_bad_next p (tokens_left p) ≡ true → place ≡ first_place p (tokens_left p) → IsRefused p.text (faults.BadByte place)
bad_byte p place b bad at = by_left (tokens_left p) refl bad at
  where
    by_left : (ts : List Located) → tokens_left p ≡ ts → is_bad_next p ts ≡ true → place ≡ first_place p ts → IsRefused p.text (faults.BadByte place)
    by_left [] e bad at = (end_bad p e b, bad, at)
    by_left (t ∷ ts) e bad at = absurd cc

-- the end of the text
pub text_end : (p : Position) (place : Place) → FirstBad p.text (passed p) → is_bad_next p (tokens_left p) ≡ false → first_terminal (tokens_left p) ≡ None → place ≡ first_place p (tokens_left p) → IsRefused p.text (faults.NoItemHere place)
text_end p place b good none at = by_left (tokens_left p) refl good none at
  where
    by_left : (ts : List Located) → tokens_left p ≡ ts → is_bad_next p ts ≡ false → first_terminal ts ≡ None → place ≡ first_place p ts → IsRefused p.text (faults.NoItemHere place)
    by_left [] e good none at = inl (end_bad p e b, good, at)
    by_left (t ∷ ts) e good none at = absurd cc

-- the token at which a cursor stands
pub next_token : (p : Position) → (first_terminal (tokens_left p) ≡ None → ⊥) → (t : Located) × (slice_get (text_tokens p.text) p.taken ≡ Some t) × (first_place p (tokens_left p) ≡ t.place) × (first_spelling (tokens_left p) ≡ t.token.spelling)
unfolding tokens_left
next_token p some = by_left (drop p.taken (text_tokens p.text)) refl some
  where
    by_left : (ts : List Located) → drop p.taken (text_tokens p.text) ≡ ts → (first_terminal ts ≡ None → ⊥) → (t : Located) × (slice_get (text_tokens p.text) p.taken ≡ Some t) × (first_place p ts ≡ t.place) × (first_spelling ts ≡ t.token.spelling)
    by_left [] e some = absurd (some refl)
    by_left (t ∷ ts) e some = (t, first_dropped p.taken (text_tokens p.text) ts t e, refl, refl)

-- a token is next where the cursor tells one
pub token_told : (p : Position) (text : List ℕ) (x : Terminal) → p.text ≡ text → Some x ≡ first_terminal (tokens_left p) → p.taken < length (text_tokens text)
token_told p text x same e =
    let w = next_token p (λ h. absurd (let k = e ∙ h in cc)) in
    by_get p.taken (text_tokens text) w.0 (subst (λ (ts : List ℕ). slice_get (text_tokens ts) p.taken ≡ Some w.0) same w.1)
  where
    by_get : (n : ℕ) (xs : List Located) (t : Located) → slice_get xs n ≡ Some t → n < length xs
    by_get n [] t e = absurd cc
    by_get zero (x ∷ xs) t e = omega arith
    by_get (suc n) (x ∷ xs) t e = let k = by_get n xs t e in omega (arith, k)

-- the token that is next, by its number
token_there : (n : ℕ) (xs : List Located) → n < length xs → (t : Located) × (ys : List Located) × (drop n xs ≡ t ∷ ys)
token_there n [] lt = absurd (omega arith)
token_there zero (x ∷ xs) lt = (x, xs, refl)
token_there (suc n) (x ∷ xs) lt = token_there n xs (omega arith)

record NextToken (p : Position) (text : List ℕ) : Type 0 where
  pub token : Located
  pub bad : BadToken text p.taken token
  pub place : first_place p (tokens_left p) ≡ token.place
  pub spelling : first_spelling (tokens_left p) ≡ token.token.spelling

next_at : (p : Position) → p.taken < length (text_tokens p.text) → FirstBad p.text (passed p) → NextToken p p.text
unfolding tokens_left
next_at p lt b =
    let w = token_there p.taken (text_tokens p.text) lt in
    record {
      token = w.0;
      bad = record { first_bad = subst (λ (i : ℕ). FirstBad p.text i) (passed_taken p (omega arith)) b; token = first_dropped p.taken (text_tokens p.text) w.1 w.0 w.2 };
      place = ap (λ (ts : List Located). first_place p ts) w.2;
      spelling = ap (λ (ts : List Located). first_spelling ts) w.2;
    }

next_in : (p : Position) (text : List ℕ) → p.text ≡ text → p.taken < length (text_tokens text) → FirstBad text (passed p) → NextToken p text
next_in p text same = subst (λ (ts : List ℕ). p.taken < length (text_tokens ts) → FirstBad ts (passed p) → NextToken p ts) same (next_at p)

left_out_here : (p : Position) (t : Located) → slice_get (text_tokens p.text) p.taken ≡ Some t → is_left_out p ≡ is_left_out_as t.token.kind t.token.spelling (is_behind_less p.text p.taken)
unfolding tokens_left
left_out_here p t e = rw (dropped_first p.taken (text_tokens p.text) t e).1 refl

-- what the cursor tells of the next token
pub left_out_told : (p : Position) (text : List ℕ) → p.text ≡ text → (t : Located) → slice_get (text_tokens text) p.taken ≡ Some t → is_left_out p ≡ is_left_out_as t.token.kind t.token.spelling (is_behind_less text p.taken)
left_out_told p text same =
    subst (λ (ts : List ℕ). (t : Located) → slice_get (text_tokens ts) p.taken ≡ Some t → is_left_out p ≡ is_left_out_as t.token.kind t.token.spelling (is_behind_less ts p.taken)) same (left_out_here p)

-- what is not of the list is left out where the wider language has it
pub left_out_wider : {E : Type 0} (text : List ℕ) (i : ℕ) (t : Located) → is_left_out_as t.token.kind t.token.spelling (is_behind_less text i) ≡ false → (r : Result Bool E) → IfOk r (λ v. MatchBool v (IsViable wider (through text i)) (IsViable wider (through text i) → ⊥)) → IfOk r (λ v. MatchBool v (IsLeftOut text i t) (IsLeftOut text i t → ⊥))
left_out_wider text i t e (Ok true) h = inr h
left_out_wider text i t e (Ok false) h = λ l. elim l [ inl a ↦ absurd cc | inr v ↦ h v ]
left_out_wider text i t e (Err x) h = tt

module _ (p : Position) (text : List ℕ) (same : p.text ≡ text) (lt : p.taken < length (text_tokens text)) (b : FirstBad text (passed p)) (place : Place) (at : place ≡ first_place p (tokens_left p)) where
  -- the token opens a nest too deep
  pub too_deep : IsTooDeep text p.taken → IsRefused text (faults.TooDeep place)
  too_deep deep = let n = next_in p text same lt b in (p.taken, n.token, n.bad, deep, at ∙ n.place)

  -- it is left out
  pub left_out : (r : SyntaxFault) (word : List ℕ) → (IsTooDeep text p.taken → ⊥) → ((t : Located) → slice_get (text_tokens text) p.taken ≡ Some t → IsLeftOut text p.taken t) → word ≡ first_spelling (tokens_left p) → (r ≡ faults.LeftOutWord place word) ⊎ (r ≡ faults.Memory) → IsRefused text r ⊎ (r ≡ faults.Memory)
  left_out r word shallow out spelled told =
      let n = next_in p text same lt b in
      elim told [
        | inl e ↦ inl (subst (λ (f : SyntaxFault). IsRefused text f) (sym e) (p.taken, n.token, n.bad, shallow, out n.token n.bad.token, at ∙ n.place, spelled ∙ n.spelling))
        | inr e ↦ inr e
      ]

  -- it is neither
  pub no_item : (IsTooDeep text p.taken → ⊥) → ((t : Located) → slice_get (text_tokens text) p.taken ≡ Some t → IsLeftOut text p.taken t → ⊥) → IsRefused text (faults.NoItemHere place)
  no_item shallow kept = let n = next_in p text same lt b in inr (p.taken, n.token, n.bad, shallow, kept n.token n.bad.token, at ∙ n.place)

-- the same of a text that the cursor goes over
pub bad_byte_in : (p : Position) (text : List ℕ) → p.text ≡ text → (place : Place) → FirstBad text (passed p) → is_bad_next p (tokens_left p) ≡ true → place ≡ first_place p (tokens_left p) → IsRefused text (faults.BadByte place)
bad_byte_in p text same =
    subst (λ (ts : List ℕ). (place : Place) → FirstBad ts (passed p) → is_bad_next p (tokens_left p) ≡ true → place ≡ first_place p (tokens_left p) → IsRefused ts (faults.BadByte place)) same (bad_byte p)

pub text_end_in : (p : Position) (text : List ℕ) → p.text ≡ text → (place : Place) → FirstBad text (passed p) → is_bad_next p (tokens_left p) ≡ false → first_terminal (tokens_left p) ≡ None → place ≡ first_place p (tokens_left p) → IsRefused text (faults.NoItemHere place)
text_end_in p text same =
    subst (λ (ts : List ℕ). (place : Place) → FirstBad ts (passed p) → is_bad_next p (tokens_left p) ≡ false → first_terminal (tokens_left p) ≡ None → place ≡ first_place p (tokens_left p) → IsRefused ts (faults.NoItemHere place)) same (text_end p)
