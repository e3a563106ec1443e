-- The tokens of a text, one after another: what a caller of a lexer has seen so far, and what follows from its end.
use Rattle.std.proofs.Common.{◌≡◌, ℕ, zero, suc, ◌<◌, List, [], ◌∷◌, ◌++◌, length, ◌⊎◌, inl, inr, refl, sym, ap, ◌∙◌, arith, length-append}
use Rattle.ir_lexer.specs.Tokens.{Spelled, IsLastGap, Begins, Tokens, TokensFront, IsBad, TokensBeforeBad}
use Rattle.ir_lexer.specs.Laws.{OneList, ListOrBad, ListOrBadNotBoth}
use Rattle.ir_lexer.proofs.Gaps.{Step, End, Bad, Took, step, StepIs, step_is, begins_step, bad_step, token_first}

-- Nothing is seen yet.
pub front_none : (text : List ℕ) → TokensFront text [] text
front_none text = refl

-- One more token.
pub front_more : (text : List ℕ) (ts : List Spelled) (mid : List ℕ) (t : Spelled) (rest : List ℕ) → TokensFront text ts mid → Begins mid t rest → TokensFront text (ts ++ t ∷ []) rest
front_more text [] mid t rest f b = (rest, rw f b, refl)
front_more text (u ∷ us) mid t rest f b = (f.0, f.1, front_more f.0 us mid t rest f.2 b)

-- The end: these are the tokens of the text.
pub front_end : (text : List ℕ) (ts : List Spelled) (mid : List ℕ) → TokensFront text ts mid → IsLastGap mid → Tokens text ts
front_end text [] mid f g = rw f g
front_end text (t ∷ ts) mid f g = (f.0, f.1, front_end f.0 ts mid f.2 g)

-- A token begins at no gap, and only one.
begins_last : (text : List ℕ) (t : Spelled) (rest : List ℕ) → Begins text t rest → IsLastGap text → ⊥
begins_last text t rest b g = let k = (begins_step text t rest b).1 in let j = g.1 in cc

begins_bad : (text : List ℕ) (t : Spelled) (rest : List ℕ) → Begins text t rest → IsBad text → ⊥
begins_bad text t rest b h = let k = (begins_step text t rest b).0 in let j = (bad_step text h).0 in cc

pub one_begins : (text : List ℕ) (t u : Spelled) (r s : List ℕ) → Begins text t r → Begins text u s → (t ≡ u) × (r ≡ s)
one_begins text t u r s b d =
    let k = (begins_step text t r b).0 in
    let j = (begins_step text u s d).0 in
    (cc, cc)

cons_both : (t u : Spelled) (ts us : List Spelled) → t ≡ u → ts ≡ us → t ∷ ts ≡ u ∷ us
cons_both t u ts us e f = cc

-- What is seen is the front of each list of tokens of the text.
pub front_of_tokens : (text : List ℕ) (ts : List Spelled) (mid : List ℕ) (us : List Spelled) → TokensFront text ts mid → Tokens text us → (vs : List Spelled) × (us ≡ ts ++ vs) × Tokens mid vs
front_of_tokens text [] mid us f h = (us, refl, rw (← f) h)
front_of_tokens text (t ∷ ts) mid [] f h = absurd (begins_last text t f.0 f.1 h)
front_of_tokens text (t ∷ ts) mid (u ∷ us) f h =
    let same = one_begins text t u f.0 h.0 f.1 h.1 in
    let i = front_of_tokens f.0 ts mid us f.2 (rw same.1 h.2) in
    (i.0, cons_both u t us (ts ++ i.0) (sym same.0) i.1, i.2)

-- And what follows it is of the text too.
pub front_and_tokens : (text : List ℕ) (ts : List Spelled) (mid : List ℕ) (us : List Spelled) → TokensFront text ts mid → Tokens mid us → Tokens text (ts ++ us)
front_and_tokens text [] mid us f h = rw f h
front_and_tokens text (t ∷ ts) mid us f h = (f.0, f.1, front_and_tokens f.0 ts mid us f.2 h)

bad_no_tokens : (text : List ℕ) (ts : List Spelled) → IsBad text → Tokens text ts → ⊥
bad_no_tokens text [] b h = let k = (bad_step text b).1 in let j = h.1 in cc
bad_no_tokens text (t ∷ ts) b h = begins_bad text t h.0 h.1 b

-- A bad byte: the text has no list of tokens.
pub front_bad : (text : List ℕ) (ts : List Spelled) (mid : List ℕ) (us : List Spelled) → TokensFront text ts mid → IsBad mid → Tokens text us → ⊥
front_bad text ts mid us f b h = let i = front_of_tokens text ts mid us f h in bad_no_tokens mid i.0 b i.2

-- Two fronts of a text that end at a bad byte are one.
pub one_bad : (text : List ℕ) (ts us : List Spelled) (r s : List ℕ) → TokensFront text ts r → IsBad r → TokensFront text us s → IsBad s → (ts ≡ us) × (r ≡ s)
one_bad text [] [] r s f b g d = (refl, sym f ∙ g)
one_bad text [] (u ∷ us) r s f b g d = absurd (begins_bad text u g.0 g.1 (rw f b))
one_bad text (t ∷ ts) [] r s f b g d = absurd (begins_bad text t f.0 f.1 (rw g d))
one_bad text (t ∷ ts) (u ∷ us) r s f b g d =
    let same = one_begins text t u f.0 g.0 f.1 g.1 in
    let i = one_bad f.0 ts us r s f.2 b (rw same.1 g.2) d in
    (cons_both t u ts us same.0 i.0, i.1)

-- A text has at most one list of tokens.
pub one_list : OneList
one_list text [] [] h g = refl
one_list text [] (u ∷ us) h g = absurd (begins_last text u g.0 g.1 h)
one_list text (t ∷ ts) [] h g = absurd (begins_last text t h.0 h.1 g)
one_list text (t ∷ ts) (u ∷ us) h g =
    let same = one_begins text t u h.0 g.0 h.1 g.1 in
    cons_both t u ts us same.0 (one_list h.0 ts us h.2 (rw same.1 g.2))

-- A token takes bytes.
pub begins_less : (text : List ℕ) (t : Spelled) (rest : List ℕ) → Begins text t rest → length rest < length text
begins_less text t rest b =
    let f = token_first t.kind t.spelling b.token.token in
    omega (arith, ap length b.parts, length-append b.gap (t.spelling ++ rest), length-append t.spelling rest, ap length f.2)

abbrev Either : List ℕ → Type 0
Either text = ((ts : List Spelled) × Tokens text ts) ⊎ ((ts : List Spelled) × TokensBeforeBad text ts)

one_more : (text : List ℕ) (t : Spelled) (rest : List ℕ) → Begins text t rest → Either rest → Either text
one_more text t rest b (inl h) = inl (t ∷ h.0, (rest, b, h.1))
one_more text t rest b (inr h) = inr (t ∷ h.0, (h.1.0, (rest, b, h.1.1), h.1.2))

either_within : (n : ℕ) (text : List ℕ) → length text < n → Either text
either_within zero text l = absurd (omega arith)
either_within (suc n) text l = go (step text) (step_is text) (λ rest less. either_within n rest less)
  where
    go : (s : Step) → StepIs text s → ((rest : List ℕ) → length rest < n → Either rest) → Either text
    go End h again = inl ([], h)
    go (Bad r) h again = inr ([], (text, refl, h.0))
    go (Took t rest) h again = one_more text t rest h (again rest (omega (arith, begins_less text t rest h)))

-- Each text has a list of tokens, or a first byte where none begins.
pub list_or_bad : ListOrBad
list_or_bad text = either_within (suc (length text)) text (omega arith)

pub list_or_bad_not_both : ListOrBadNotBoth
list_or_bad_not_both text ts us h b = front_bad text us b.0 ts b.1 b.2 h
