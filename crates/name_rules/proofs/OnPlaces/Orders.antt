-- Demands at tokens, in their order.
use Rattle.std.proofs.Common.{◌≡◌, List, [], ◌∷◌, ◌++◌, refl, sym, ap, ◌∙◌, subst, append_assoc}
use Rattle.ir_lexer.specs.Ahead.{Located}
use Rattle.name_rules.specs.Demand.{Demand}
use Rattle.name_rules.specs.Places.Places.{StandsAt, InOrder}

-- where more tokens follow
pub followed : (us vs : List Located) (ds : List Demand) → InOrder us ds → InOrder (us ++ vs) ds
followed us vs [] h = tt
followed us vs (d ∷ ds) (before, t, behind, e, at, rest) =
    (before, t, behind ++ vs, ap (λ ts. ts ++ vs) e ∙ append_assoc before (t ∷ behind) vs, at, followed (t ∷ behind) vs ds rest)

-- where more tokens stand before
pub preceded : (us vs : List Located) (ds : List Demand) → InOrder vs ds → InOrder (us ++ vs) ds
preceded us vs [] h = tt
preceded us vs (d ∷ ds) (before, t, behind, e, at, rest) = (us ++ before, t, behind, ap (λ ts. us ++ ts) e ∙ sym (append_assoc us before (t ∷ behind)), at, rest)

-- those of some tokens, and those of the tokens behind them
pub joined : (us vs : List Located) (ds es : List Demand) → InOrder us ds → InOrder vs es → InOrder (us ++ vs) (ds ++ es)
joined us vs [] es h g = preceded us vs es g
joined us vs (d ∷ ds) es (before, t, behind, e, at, rest) g =
    (before, t, behind ++ vs, ap (λ ts. ts ++ vs) e ∙ append_assoc before (t ∷ behind) vs, at, joined (t ∷ behind) vs ds es rest g)

-- one more at the first token
pub at_first : (t : Located) (ts : List Located) (d : Demand) (ds : List Demand) → StandsAt d t → InOrder (t ∷ ts) ds → InOrder (t ∷ ts) (d ∷ ds)
at_first t ts d ds at rest = ([], t, ts, refl, at, rest)

-- the tokens of two phrases one after the other
pub joined_at : (ts us vs : List Located) (ds es : List Demand) → ts ≡ us ++ vs → InOrder us ds → InOrder vs es → InOrder ts (ds ++ es)
joined_at ts us vs ds es e h g = subst (λ all. InOrder all (ds ++ es)) (sym e) (joined us vs ds es h g)
